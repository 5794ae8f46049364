use Rattle.std.proofs.Common.{◌++◌, [], ◌∷◌, take, ap, sym, ◌∙◌, add-one, arith}
use Rattle.std.proofs.lemmas.List.{append_assoc}
use Rattle.rb_model.specs.Moving.{item_of, items_of}
use Rattle.rb_shared.specs.Store.{is_there}
use Rattle.thing_store.proofs.Taking.{any_err, longer_by, may_at, new_at, one_more, within_some}
use Rattle.thing_store.proofs.store.ThingStore.take_in.Goals.{in-Some+in_ok-lay, in_default}
use Rattle.thing_store.proofs.store.ThingStore.take_in.Goals as goal

pub lay-requires-clause-new : goal.lay-requires-clause-new
lay-requires-clause-new c =
    ap (λ z. is_there z c.in-Some.item.now.id) c.moved.invariant
    ∙ new_at c.args.self.now c.args.moved.now c.moved.number c.in-Some.item.now c.requires.new (sym c.in-Some.ensures)

pub lay-requires-clause-may : goal.lay-requires-clause-may
lay-requires-clause-may c = may_at c.args.thread c.args.moved.now c.moved.number c.in-Some.item.now c.requires.things (sym c.in-Some.ensures)

pub returns-in_err-lay-clause-err : goal.returns-in_err-lay-clause-err
returns-in_err-lay-clause-err c =
    any_err c.from_residual.result (longer_by c.args.thread c.args.self.now c.lay.new.self c.args.moved.now c.moved.number c.requires.things (c.in_err-lay.ensures.err ∙ c.moved.invariant))

pub moved-preserved : goal.moved-preserved
moved-preserved c = elim c.match-get.branch [
  | in-Some+in_ok-lay w ↦
      w.self-is ∙ w.in_ok-lay.ensures.ok ∙ ap (λ z. z ++ item_of w.in-Some.item.now ∷ []) c.moved.invariant
      ∙ append_assoc c.args.self.now (items_of (take c.moved.number c.args.moved.now)) (item_of w.in-Some.item.now ∷ [])
      ∙ ap (λ l. c.args.self.now ++ l) (one_more c.args.moved.now c.moved.number w.in-Some.item.now (sym w.in-Some.ensures))
      ∙ ap (λ n. c.args.self.now ++ items_of (take n c.args.moved.now)) (sym (add-one c.moved.number))
  | in_default w ↦ absurd (within_some c.args.moved.now c.moved.number (omega (arith, c.moved-test.true, c.len-number-end.ensures)) w.in_default.ensures)
]
