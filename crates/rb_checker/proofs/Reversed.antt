-- A list from its end.
use Rattle.std.proofs.Common.{◌≡◌, ◌+◌, ◌-◌, ◌<◌, ◌≤◌, List, [], ◌∷◌, length, take, get_or, reverse, sym, ap, ◌∙◌, arith}
use Rattle.std.proofs.lemmas.List.{take_more, reverse-append}
use Rattle.std.proofs.Math.Seq.{take-length}

pub reversed_last : {A : Type 0} (xs : List A) (d : A) → 1 ≤ length xs → reverse xs ≡ get_or xs (length xs - 1) d ∷ reverse (take (length xs - 1) xs)
reversed_last xs d h =
    let n = length xs - 1 in
    let count : length xs ≡ n + 1 = omega arith in
    let below : n < length xs = omega arith in
    ap reverse (sym (take-length xs) ∙ ap (λ k. take k xs) count ∙ take_more xs n d below) ∙ reverse-append (take n xs) (get_or xs n d ∷ [])
