-- Where a text stands among the names.
use Rattle.std.proofs.Common.{◌≡◌, ℕ, zero, suc, ◌+◌, ◌<◌, Bool, true, false, not, cond, List, [], ◌∷◌, ◌++◌, map, length, Option, Some, None, refl, ap, sym, ◌∙◌, arith, get_or, inl, inr}
use Rattle.std.specs.Prelude.{◌||◌, nat_lt, position, slice_get}
use Rattle.std.specs.List.{prefix_len, position_or_len, list_any, AllByRecursion, IsDistinct}
use Rattle.std.specs.Str.{bytes_eq}
use Rattle.std.proofs.lemmas.List.{length-map}
use Rattle.std.proofs.lemmas.Bool.{cases_Bool, both_ways}
use Rattle.std.proofs.lemmas.Bool.Decides.{nat_tests}
use Rattle.std.proofs.lemmas.List.Elements.{All-from_recursion}
use Rattle.std.proofs.lemmas.Slice.Eq.{bytes_eq-Decides}
use Rattle.std.proofs.lemmas.List.Quantifiers.{position-Some}
use Rattle.std.proofs.lemmas.Option.{slice_get-get_or, same_Some}
use Rattle.std.specs.Option.{option_map}
use Rattle.rb_tree.specs.declared.span.NameId.{NameId}
use Rattle.rb_tree.specs.Texts.{number_of, AreDifferent}

pub bytes_eq-same : (xs ys : List ℕ) → xs ≡ ys → bytes_eq xs ys ≡ true
bytes_eq-same xs ys e = (bytes_eq-Decides xs ys).1 e

pub prefix_len-map : {X Y : Type 0} (p : Y → Bool) (f : X → Y) (xs : List X) → prefix_len p (map f xs) ≡ prefix_len (λ x. p (f x)) xs
prefix_len-map p f [] = refl
prefix_len-map p f (x ∷ xs) = ap (λ n. cond (p (f x)) (1 + n) 0) (prefix_len-map p f xs)

pub position-map : {X Y : Type 0} (p : Y → Bool) (f : X → Y) (xs : List X) → position p (map f xs) ≡ position (λ x. p (f x)) xs
position-map p f xs =
    ap (λ n. cond (nat_lt n (length (map f xs))) (Some n) None) (prefix_len-map (λ y. not (p y)) f xs)
    ∙ ap (λ m. cond (nat_lt (position_or_len (λ x. p (f x)) xs) m) (Some (position_or_len (λ x. p (f x)) xs)) None) (length-map xs f)

pub list_any-map : {X Y : Type 0} (p : Y → Bool) (f : X → Y) (xs : List X) → list_any p (map f xs) ≡ list_any (λ x. p (f x)) xs
list_any-map p f [] = refl
list_any-map p f (x ∷ xs) = ap (λ b. p (f x) || b) (list_any-map p f xs)

pub map-append : {X Y : Type 0} (f : X → Y) (xs ys : List X) → map f (xs ++ ys) ≡ map f xs ++ map f ys
map-append f [] ys = refl
map-append f (x ∷ xs) ys = ap (λ zs. f x ∷ zs) (map-append f xs ys)

-- a last item that passes is found where no earlier one passes
or_len_step : {X : Type 0} (p : X → Bool) (b : Bool) (xs : List X) (x : X) → prefix_len (λ y. not (p y)) (xs ++ x ∷ []) ≡ prefix_len (λ y. not (p y)) xs
    → cond (not b) (1 + prefix_len (λ y. not (p y)) (xs ++ x ∷ [])) 0 ≡ cond (not b) (1 + prefix_len (λ y. not (p y)) xs) 0
or_len_step p b xs x e = ap (λ n. cond (not b) (1 + n) 0) e

pub position_or_len-push : {X : Type 0} (p : X → Bool) (xs : List X) (x : X) → p x ≡ true → position_or_len p (xs ++ x ∷ []) ≡ position_or_len p xs
position_or_len-push p [] x h = ap (λ b. cond (not b) 1 0) h
position_or_len-push p (y ∷ ys) x h = or_len_step p (p y) ys x (position_or_len-push p ys x h)

-- where a text is found once it is among the names
pub position_within : {X : Type 0} (p : X → Bool) (xs : List X) (n : ℕ) → n ≡ position_or_len p xs → n < length xs → Some n ≡ position p xs
position_within p xs n e lt = let small : position_or_len p xs < length xs = rw (← e) lt in grind (arith, nat_tests)

numbered_at : (at : Option ℕ) (id : NameId) → option_map (λ n. record { 0 = n }) at ≡ Some id → at ≡ Some id.0
numbered_at None id h = absurd (cc)
numbered_at (Some n) id h = let e : record { 0 = n } ≡ id = cc in ap (λ (x : NameId). Some x.0) e

-- the number of a text leads back to the text
pub slice_get-number_of : (text : List ℕ) (names : List (List ℕ)) (id : NameId) → number_of text names ≡ Some id → slice_get names id.0 ≡ Some text
slice_get-number_of text names id h =
    let f = position-Some (bytes_eq text) names id.0 [] (numbered_at (position (bytes_eq text) names) id h) in
    slice_get-get_or names id.0 [] f.0 ∙ ap Some (sym ((bytes_eq-Decides text (get_or names id.0 [])).0 f.1))

all-map : {X Y : Type 0} (P : Y → Type 0) (f : X → Y) (xs : List X) → AllByRecursion (λ x. P (f x)) xs → AllByRecursion P (map f xs)
all-map P f [] a = tt
all-map P f (x ∷ xs) a = (a.0, all-map P f xs a.1)

-- what differs by its texts has different texts
pub distinct-map : {X Y : Type 0} (e : Y → Y → Bool) (f : X → Y) (xs : List X) → IsDistinct (λ x y. e (f x) (f y)) xs → IsDistinct e (map f xs)
unfolding IsDistinct
distinct-map e f [] d = tt
distinct-map e f (x ∷ xs) d = (all-map (λ y. e (f x) y ≡ false) f xs d.0, distinct-map e f xs d.1)

bytes_eq-flip : (xs ys : List ℕ) → bytes_eq xs ys ≡ false → bytes_eq ys xs ≡ false
bytes_eq-flip xs ys h =
    elim (cases_Bool (bytes_eq ys xs)) [ inl e ↦ absurd (both_ways (bytes_eq xs ys) h (bytes_eq-same xs ys (sym ((bytes_eq-Decides ys xs).0 e)))) | inr e ↦ e ]

-- among different texts each one's first place is its own
position-different : (names : List (List ℕ)) (n : ℕ) → AreDifferent names → n < length names → position_or_len (bytes_eq (get_or names n [])) names ≡ n
unfolding IsDistinct
position-different [] n d h = absurd (omega arith)
position-different (x ∷ xs) zero d h = ap (λ b. cond (not b) (1 + prefix_len (λ y. not (bytes_eq x y)) xs) 0) (bytes_eq-same x x refl)
position-different (x ∷ xs) (suc m) d h =
    let small : m < length xs = omega arith in
    let other = bytes_eq-flip x (get_or xs m []) (All-from_recursion (λ y. bytes_eq x y ≡ false) xs d.0 m [] small) in
    let next : 1 + position_or_len (bytes_eq (get_or xs m [])) xs ≡ suc m = let i = position-different xs m d.1 small in omega arith in
    ap (λ b. cond (not b) (1 + position_or_len (bytes_eq (get_or xs m [])) xs) 0) other ∙ next

-- the text of a number has that number
pub number_of-slice_get : (text : List ℕ) (names : List (List ℕ)) (id : NameId) → AreDifferent names → id.0 < length names → slice_get names id.0 ≡ Some text → number_of text names ≡ Some id
number_of-slice_get text names id d h e =
    let own : get_or names id.0 [] ≡ text = let g = slice_get-get_or names id.0 [] h in let s = sym g ∙ e in same_Some _ _ s in
    ap (option_map (λ n. record { 0 = n }))
    (sym (position_within (bytes_eq text) names id.0 (sym (ap (λ t. position_or_len (bytes_eq t) names) (sym own) ∙ position-different names id.0 d h)) h))

-- no texts at all are different
pub none-different : (names : List (List ℕ)) → names ≡ [] → AreDifferent names
unfolding IsDistinct
none-different [] e = tt
none-different (x ∷ xs) e = absurd (cc)
