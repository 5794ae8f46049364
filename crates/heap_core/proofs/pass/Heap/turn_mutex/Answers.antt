use Rattle.std.proofs.Common.{refl, ap, sym, subst, ◌∙◌}
use Rattle.rb_model.specs.Immediates.{reference}
use Rattle.heap_core.specs.Blocks.{MutexAt}
use Rattle.heap_core.specs.Owning.{IsOwning}
use Rattle.heap_core.specs.Passes.{holder_of}
use Rattle.heap_core.specs.Places.{turn_word}
use Rattle.heap_core.specs.Turning.{IsBare}
use Rattle.heap_core.specs.View.{Knows, busy_at}
use Rattle.heap_core.proofs.Owning.{does_deed}
use Rattle.heap_core.proofs.pass.Heap.turn_mutex.Goals as goal

pub set_owner-requires-clause-allows : goal.set_owner-requires-clause-allows
set_owner-requires-clause-allows g c =
    let same = c.look_owner-word.ensures.told.0 ∙ c.tries.invariant.1 in
    let mutex = subst (IsOwning (holder_of c.args.pass.now.badge.views)) c.in-On.is c.requires.mutex in
    does_deed _ _ _ _ _ _ c.args.turn _ _ _ (reference c.in-On.thing) _ _ c.args.thread _ c.in-Some-deed_of.deed c.look_owner-word.new.pass.rests.1.live
    (subst (λ k. Knows k (MutexAt c.in-On.thing.id c.in-On.thing.at)) (sym same) mutex.1) (ap (λ k. busy_at turn_word k.doing) same ∙ c.requires.has) (subst IsBare (sym same) c.requires.bare) refl mutex.0
    (c.requires.thread ∙ ap (λ k. k.view.thread) (sym same)) c.owner.ensures.told c.in-Some-deed_of.ensures.deed c.owner_word-new.ensures refl
