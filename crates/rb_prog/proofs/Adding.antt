-- What a sink was told, one text behind another.
use Rattle.std.proofs.Common.{ℕ, List, [], ◌++◌, Option, None, Some, sym, ap, ◌∙◌, append_assoc}
use Rattle.std.proofs.lemmas.List.{append-nil}
use Rattle.rb_edge.specs.Edge.{Adds}

pub adds_then : (a b c : Option (List ℕ)) (xs ys : List ℕ) → Adds a b xs → Adds b c ys → Adds a c (xs ++ ys)
adds_then None None None xs ys h k = tt
adds_then None None (Some z) xs ys h k = absurd k
adds_then None (Some y) c xs ys h k = absurd h
adds_then (Some x) None c xs ys h k = absurd h
adds_then (Some x) (Some y) None xs ys h k = absurd k
adds_then (Some x) (Some y) (Some z) xs ys h k = k ∙ (ap (λ w. w ++ ys) h ∙ append_assoc x xs ys)

pub adds_none : (a : Option (List ℕ)) → Adds a a []
adds_none None = tt
adds_none (Some xs) = sym (append-nil xs)
