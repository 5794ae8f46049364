use Rattle.std.proofs.Common.{rules, arith, ap, sym, ◌∙◌}
use Rattle.heap_core.specs.Passes.{holder_of}
use Rattle.heap_core.specs.Places.{turn_word}
use Rattle.heap_core.specs.View.{busy_at}
use Rattle.heap_core.specs.Turning.{without_turn}
use Rattle.heap_core.proofs.Turning.{gives_turn, given_back, handed_back}
use Rattle.heap_core.proofs.pass.Heap.turn_out.Goals as goal

pub hand_back-requires-clause-has : goal.hand_back-requires-clause-has
hand_back-requires-clause-has g c =
    let same = sym (ap holder_of c.into_seat-seat.ensures.2) ∙ ap (λ b. holder_of b.views) c.replace-badge.ensures.value in
    (c.args.turn, ap (λ k. busy_at turn_word k.doing) same ∙ c.requires.has)

pub store-requires : goal.store-requires
store-requires g c =
    let same = sym (ap holder_of c.into_seat-seat.ensures.2) ∙ ap (λ b. holder_of b.views) c.replace-badge.ensures.value in
    let some_words = c.args.self.now.sizes in
    let back = handed_back c.into_seat-seat.result.me c.hand_back.new.seat.me c.args.turn c.args.turn c.hand_back.ensures.put (ap (λ k. k.live) same ∙ c.args.pass.now.rests.1.live) (ap (λ k. busy_at turn_word k.doing) same ∙ c.requires.has) in
    (search rules, omega (arith, some_words), gives_turn _ _ _ _ c.args.turn back.carries back.live back.has)

pub returns-clause-given : goal.returns-clause-given
returns-clause-given g c =
    let same = sym (ap holder_of c.into_seat-seat.ensures.2) ∙ ap (λ b. holder_of b.views) c.replace-badge.ensures.value in
    ap holder_of c.into_badge.ensures.2 ∙ (given_back c.into_seat-seat.result.me _ _ c.args.turn c.hand_back.ensures.put c.store.ensures.2 ∙ ap without_turn same)
