use Rattle.std.proofs.Common.{ℕ, List, length, get_or, false, refl, ap, sym, subst, ◌∙◌, arith}
use Rattle.heap_core.specs.Handing.{sunk_of}
use Rattle.heap_core.specs.Opening.{IsOpening}
use Rattle.heap_core.proofs.Opens.{starts_from, opened_words}
use Rattle.heap_core.proofs.pass.Heap.new.Goals as goal

pub new-requires : goal.new-requires
new-requires g c =
    let least = c.requires.least in
    let laid = c.as_slice.ensures.value ∙ c.in-Ok.ensures.laid in
    let open_words = opened_words c.args.words (omega (arith, least)) in
    let first = c.in_ok-places.ensures.one in
    starts_from _ _ first.0 _ first.1 (first.2.0 ∙ ap (λ x. sunk_of g.K.Sink.told g.K.Sink.faults x false) (sym c.of.ensures), first.2.1, first.2.2) refl c.requires.some (omega (arith, least)) (ap length laid ∙ open_words.0)
    (subst (λ (ws : List ℕ). IsOpening (λ i. get_or ws i 0)) (sym laid) open_words.1)
