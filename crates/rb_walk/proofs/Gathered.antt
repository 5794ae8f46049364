-- Values that are gathered.
use Rattle.std.proofs.Common.{◌≡◌, ℕ, ◌+◌, ◌<◌, Bool, true, List, length, map, drop, get_or, ap, ◌∙◌}
use Rattle.std.specs.Prelude.{◌||◌}
use Rattle.std.specs.List.{list_any}
use Rattle.rb_walk.proofs.Lists.{next_item}

-- the item of a list that comes next passes a test
pub any_next : {A B : Type 0} (p : B → Bool) (f : A → B) (xs : List A) (i : ℕ) (x : A) → i < length xs → x ≡ get_or xs i x → p (f x) ≡ true → list_any p (map f (drop i xs)) ≡ true
any_next p f xs i x h is e =
    ap (λ ys. list_any p (map f ys)) (next_item xs i x h is) ∙ ap (λ b. b || list_any p (map f (drop (i + 1) xs))) e
