use Rattle.std.proofs.Common.{◌≡◌, ◌∙◌, List, get_or, ap, sym, arith}
use Rattle.std.proofs.lemmas.List.{get_or_default}
use Rattle.shape_tree.specs.declared.table.Slot.{Slot}
use Rattle.shape_tree.specs.Indexes.{place_below}
use Rattle.shape_tree.proofs.Indexed.{found_at, found_nowhere}
use Rattle.shape_tree.proofs.table.Table.find.Goals as goal

pub returns-in_err-place-in-Some : goal.returns-in_err-place-in-Some
returns-in_err-place-in-Some c =
    let same : c.deref-in-Some.result.now ≡ c.args.self.now = c.deref-in-Some.ensures.value ∙ c.self.view_is in
    c.from_residual.ensures
    ∙ found_nowhere c.args.self.now c.args.name c.args.places
    (c.in_err-place-in-Some.ensures.newest ∙ ap (λ (slots : List Slot). place_below slots c.args.name.0 c.args.places) same)

pub returns-in_ok-place-in-Some : goal.returns-in_ok-place-in-Some
returns-in_ok-place-in-Some c =
    let same : c.deref-in-Some.result.now ≡ c.args.self.now = c.deref-in-Some.ensures.value ∙ c.self.view_is in
    found_at c.args.self.now c.args.name c.args.places c.in_ok-place-in-Some.place c.index.result.now
    (c.in_ok-place-in-Some.ensures.newest ∙ ap (λ (slots : List Slot). place_below slots c.args.name.0 c.args.places) same)
    (get_or_default c.args.self.now c.in_ok-place-in-Some.place _ c.index.result.now (omega (arith, c.in_ok-place-in-Some.ensures.below, c.requires))
    ∙ sym (c.index.ensures ∙ ap (λ (slots : List Slot). get_or slots c.in_ok-place-in-Some.place c.index.result.now) c.self.view_is))
