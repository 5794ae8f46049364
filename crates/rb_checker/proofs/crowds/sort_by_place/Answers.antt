use Rattle.std.proofs.Common.{rules}
use Rattle.std.proofs.lemmas.List.Sorted.{answers_always, IsNonDecreasingBy-from_sort}
use Rattle.std.proofs.lemmas.Result.{on_ok_weaker}
use Rattle.rb_checker.proofs.Sorting.{place_of, by_place-from_sort}
use Rattle.rb_checker.proofs.crowds.sort_by_place.Goals as goal

pub returns : goal.returns
returns c =
    let places = answers_always _ _ _ (λ f a r next called. search rules) in
    let stable = c.sort_by_key.ensures.stable place_of places in
    on_ok_weaker c.sort_by_key.result
    (λ sorted. by_place-from_sort _ _ (IsNonDecreasingBy-from_sort place_of _ (sorted place_of places)) stable)
    c.sort_by_key.ensures.sorted
