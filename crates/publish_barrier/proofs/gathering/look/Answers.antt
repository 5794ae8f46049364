use Rattle.std.proofs.Common.{◌∙◌, ap, inl, inr, sym, subst}
use Rattle.std.specs.Prelude.{is_some}
use Rattle.std.proofs.lemmas.Result.{on_ok_weaker}
use Rattle.rb_model.specs.Moving.{items_of}
use Rattle.publish_barrier.specs.Leaving.{Looked, named}
use Rattle.publish_barrier.proofs.Leaving.{never_here, not_before, passes, seen_before}
use Rattle.publish_barrier.proofs.Meeting.{goes_by, is_noted, names_taken, never_some}
use Rattle.publish_barrier.proofs.gathering.look.Goals as goal

pub returns-then-not-holds-clause-looked : goal.returns-then-not-holds-clause-looked
returns-then-not-holds-clause-looked g c =
    passes c.args.heap.now (items_of c.args.gathering.now.moved) c.args.thing.id (named c.args.gathering.now.waiting.items)
    (never_here c.args.heap.now (items_of c.args.gathering.now.moved) c.args.thing.id c.holds.result c.holds.ensures c.if-not-holds.true)

pub returns-then-not-holds-clause-goes : goal.returns-then-not-holds-clause-goes
returns-then-not-holds-clause-goes g c =
    goes_by c.args.heap.now c.args.known.now.refs c.args.gathering.now.moved c.args.gathering.now.waiting.items c.args.thing
    (inl (is_noted c.args.heap.now c.args.known.now.refs c.args.thing (sym c.holds.ensures ∙ c.if-not-holds.true) c.requires.may.waiting.0)) c.requires.may

pub returns-in-Some-clause-looked : goal.returns-in-Some-clause-looked
returns-in-Some-clause-looked g c =
    let before =
    seen_before c.args.heap.now (items_of c.args.gathering.now.moved) c.args.thing.id c.args.gathering.now.seen.keys c.requires.seen
    (sym c.get_index_of.ensures.found ∙ ap is_some c.in-Some.is) in
    on_ok_weaker c.agree_at.result
    (λ same. passes c.args.heap.now (items_of c.args.gathering.now.moved) c.args.thing.id (named c.args.gathering.now.waiting.items) before) c.agree_at.ensures

pub returns-in-Some-clause-goes : goal.returns-in-Some-clause-goes
returns-in-Some-clause-goes g c =
    on_ok_weaker c.agree_at.result
    (λ same.
    goes_by c.args.heap.now c.args.known.now.refs c.args.gathering.now.moved c.args.gathering.now.waiting.items c.args.thing
    (inr (names_taken c.args.heap.now c.args.known.now.refs c.args.gathering.now.moved c.args.gathering.now.waiting.items c.args.thing c.args.gathering.now.seen.keys c.in-Some.place
    c.requires.seen (sym c.get_index_of.ensures.index ∙ c.in-Some.is) same (sym c.holds.ensures ∙ c.if-not-holds.false) c.requires.may)) c.requires.may)
    c.agree_at.ensures

pub returns-clause-looked : goal.returns-clause-looked
returns-clause-looked g c =
    let stays =
    not_before c.args.heap.now (items_of c.args.gathering.now.moved) c.args.thing.id c.args.gathering.now.seen.keys c.requires.seen
    (sym c.get_index_of.ensures.found ∙ never_some c.get_index_of.result c.in_default.not-Some) in
    on_ok_weaker c.take.result
    (λ taken.
    subst (λ o. Looked o c.args.thing.id (items_of c.args.gathering.now.moved) (items_of c.take.new.gathering.moved)
    (named c.args.gathering.now.waiting.items) (named c.take.new.gathering.waiting.items)) (sym stays) taken)
    c.take.ensures.taken
