use Rattle.std.proofs.Common.{◌∙◌, ap, length, subst, sym, arith}
use Rattle.rb_model.specs.Immediates.{reference}
use Rattle.rb_model.specs.Moving.{items_of}
use Rattle.rb_shared.proofs.Runs.{each_more}
use Rattle.rb_shared.specs.Lists.{Each}
use Rattle.publish_barrier.specs.Leaving.{Rest, named, serials}
use Rattle.publish_barrier.specs.Moves.{IsMet, MayAllMove}
use Rattle.publish_barrier.proofs.Leaving.{at_first, finished, leaves_private, lighter, looked}
use Rattle.publish_barrier.proofs.May.{all_differ}
use Rattle.publish_barrier.proofs.Meeting.{all_told, all_wait, may_none}
use Rattle.publish_barrier.proofs.Naming.{things_named}
use Rattle.publish_barrier.proofs.gathering.gather_from.Goals as goal

pub loop-thing-init : goal.loop-thing-init
loop-thing-init g c = record {
  rest =
      at_first c.args.heap.now (named c.args.first.items) (items_of c.new.result) (named c.args.first.items) (ap items_of c.new.ensures) (sym (things_named c.args.first.items));
  seen = c.new-2.ensures.empty ∙ sym (ap (λ ms. serials (items_of ms)) c.new.ensures);
  may =
      subst (λ ms. MayAllMove c.args.heap.now c.args.known.now.refs ms c.args.first.items) (sym c.new.ensures)
      (may_none c.args.heap.now c.args.known.now.refs c.args.first.items c.requires);
  met = all_wait c.args.known.now.refs c.new.result c.args.first.items;
}

pub loop-thing-smaller : goal.loop-thing-smaller
loop-thing-smaller g c =
    let popped = ap length (ap named c.in-Some.ensures) in
    let less =
    lighter c.args.heap.now (items_of c.loop-thing.gathering.moved) (items_of c.look.new.gathering.moved) c.in-Some.thing.id (named c.next.new.waiting.items)
    (named c.look.new.gathering.waiting.items) c.in_ok-look.ensures.looked in
    omega (arith, less, popped)

pub look-requires : goal.look-requires
look-requires g c = record {
  seen = c.loop-thing.invariant.seen;
  may = subst (MayAllMove c.args.heap.now c.args.known.now.refs c.loop-thing.gathering.moved) c.in-Some.ensures c.loop-thing.invariant.may;
}

pub loop-thing-preserved : goal.loop-thing-preserved
loop-thing-preserved g c = record {
  rest =
      looked c.args.heap.now (named c.args.first.items) (items_of c.loop-thing.gathering.moved) (items_of c.look.new.gathering.moved) (reference c.in-Some.thing)
      (named c.next.new.waiting.items) (named c.look.new.gathering.waiting.items) c.in_ok-look.ensures.looked
      (subst (Rest c.args.heap.now (named c.args.first.items) (items_of c.loop-thing.gathering.moved)) (ap named c.in-Some.ensures) c.loop-thing.invariant.rest);
  seen = c.in_ok-look.ensures.seen;
  may = c.in_ok-look.ensures.goes.may;
  met =
      each_more _ (IsMet c.args.known.now.refs c.look.new.gathering.moved c.look.new.gathering.waiting.items) c.in_ok-look.ensures.goes.met c.args.first.items
      (subst (λ ws. Each (IsMet c.args.known.now.refs c.loop-thing.gathering.moved ws) c.args.first.items) c.in-Some.ensures c.loop-thing.invariant.met);
}

pub returns : goal.returns
returns g c =
    let leaves =
    finished c.args.heap.now (named c.args.first.items) (items_of c.loop-thing.gathering.moved)
    (subst (Rest c.args.heap.now (named c.args.first.items) (items_of c.loop-thing.gathering.moved)) (ap named c.in_default.ensures) c.loop-thing.invariant.rest) in
    let may = c.loop-thing.invariant.may in
    record {
      leaves = leaves;
      own = may.own;
      once = all_differ c.args.heap.now c.loop-thing.gathering.moved (leaves_private leaves);
      things = may.things;
      told =
          all_told c.args.known.now.refs c.loop-thing.gathering.moved c.loop-thing.gathering.waiting.items c.args.first.items c.in_default.ensures
          c.loop-thing.invariant.met may.met;
      unlaid = may.unlaid;
    }
