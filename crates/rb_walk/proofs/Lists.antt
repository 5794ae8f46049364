-- Lists by their places, and rooms of slots.
use Rattle.std.proofs.Common.{◌≡◌, ℕ, zero, suc, ◌+◌, ◌-◌, ◌<◌, ◌≤◌, Bool, true, false, List, [], ◌∷◌, ◌++◌, length, map, drop, take, get_or, Option, Some, None, refl, sym, ap, ◌∙◌, add-one, arith}
use Rattle.std.proofs.lemmas.List.{map-append, take_more}
use Rattle.std.proofs.Math.Seq.{drop-cons}
use Rattle.std.proofs.lemmas.Bool.Decides.{nat_tests}
use Rattle.std.specs.Prelude.{◌&&◌, slice_index_or, slice_get, slice_set, nat_le, ◌==◌}
use Rattle.std.specs.Option.{option_map}
use Rattle.std.specs.List.{IsLastAndRest}
use Rattle.rb_machine.specs.Call.{last_value}
use Rattle.rb_machine.specs.Scopes.{Script}
use Rattle.rb_model.specs.declared.value.Value.{Value as Held}
use Rattle.rb_model.specs.Values.{plain}

-- both halves of a test
pub fst : (a b : Bool) → (a && b) ≡ true → a ≡ true
fst true b h = refl
fst false b h = h

pub snd : (a b : Bool) → (a && b) ≡ true → b ≡ true
snd true b h = h
snd false b h = absurd (cc)

pub never : (b : Bool) → b ≡ true → b ≡ false → ⊥
never true h q = cc
never false h q = cc

pub eq_test : (a b : ℕ) → (a == b) ≡ true → a ≡ b
eq_test a b h = grind (arith, nat_tests)

pub le_test : (a b : ℕ) → nat_le a b ≡ true → a ≤ b
le_test a b h = grind (arith, nat_tests)

-- the item of a list that comes next
pub next_item : {A : Type 0} (xs : List A) (i : ℕ) (x : A) → i < length xs → x ≡ get_or xs i x → drop i xs ≡ x ∷ drop (i + 1) xs
next_item xs i x h e = drop-cons xs i x h ∙ (ap (λ y. y ∷ drop (suc i) xs) (sym e) ∙ ap (λ j. x ∷ drop j xs) (sym (add-one i)))

pub len_append : {A : Type 0} (xs ys : List A) → length (xs ++ ys) ≡ length xs + length ys
len_append [] ys = omega arith
len_append (x ∷ xs) ys = let e = len_append xs ys in omega (arith, e)

pub len_map : {A B : Type 0} (f : A → B) (xs : List A) → length (map f xs) ≡ length xs
len_map f [] = refl
len_map f (x ∷ xs) = ap suc (len_map f xs)

pub len_set : {A : Type 0} (xs : List A) (s : ℕ) (v : A) → length (slice_set xs s v) ≡ length xs
len_set [] s v = refl
len_set (x ∷ xs) zero v = refl
len_set (x ∷ xs) (suc s) v = let e = len_set xs s v in omega (arith, e)

pub get_map : {A B : Type 0} (f : A → B) (xs : List A) (i : ℕ) (o : Option A) → slice_get xs i ≡ o → slice_get (map f xs) i ≡ option_map f o
get_map f [] i o e = ap (option_map f) e
get_map f (x ∷ xs) zero o e = ap (option_map f) e
get_map f (x ∷ xs) (suc i) o e = get_map f xs i o e

pub set_map : {A B : Type 0} (f : A → B) (xs : List A) (i : ℕ) (v : A) → map f (slice_set xs i v) ≡ slice_set (map f xs) i (f v)
set_map f [] i v = refl
set_map f (x ∷ xs) zero v = refl
set_map f (x ∷ xs) (suc i) v = ap (λ ys. f x ∷ ys) (set_map f xs i v)

pub take_map : {A B : Type 0} (f : A → B) (n : ℕ) (xs : List A) → map f (take n xs) ≡ take n (map f xs)
take_map f zero xs = refl
take_map f (suc n) [] = refl
take_map f (suc n) (x ∷ xs) = ap (λ ys. f x ∷ ys) (take_map f n xs)

pub drop_map : {A B : Type 0} (f : A → B) (n : ℕ) (xs : List A) → map f (drop n xs) ≡ drop n (map f xs)
drop_map f zero xs = refl
drop_map f (suc n) [] = refl
drop_map f (suc n) (x ∷ xs) = drop_map f n xs

-- a list behind a write
pub get_set : {A : Type 0} (xs : List A) (s i : ℕ) (v : A) → (i ≡ s → ⊥) → slice_get (slice_set xs s v) i ≡ slice_get xs i
get_set [] s i v h = refl
get_set (x ∷ xs) zero zero v h = absurd (h refl)
get_set (x ∷ xs) zero (suc i) v h = refl
get_set (x ∷ xs) (suc s) zero v h = refl
get_set (x ∷ xs) (suc s) (suc i) v h = get_set xs s i v (λ e. h (ap suc e))

pub get_set_same : {A : Type 0} (xs : List A) (s : ℕ) (v : A) → s < length xs → slice_get (slice_set xs s v) s ≡ Some v
get_set_same [] s v h = absurd (omega (arith, h))
get_set_same (x ∷ xs) zero v h = refl
get_set_same (x ∷ xs) (suc s) v h = get_set_same xs s v (omega (arith, h))

pub get_drop : {A : Type 0} (xs : List A) (n i : ℕ) → slice_get (drop n xs) i ≡ slice_get xs (n + i)
get_drop xs zero i = let e : 0 + i ≡ i = omega arith in rw e refl
get_drop [] (suc n) i = refl
get_drop (x ∷ xs) (suc n) i = let e : suc n + i ≡ suc (n + i) = omega arith in rw e (get_drop xs n i)

take_next : {A : Type 0} (xs : List A) (i : ℕ) (v : A) → slice_get xs i ≡ Some v → take (i + 1) xs ≡ take i xs ++ v ∷ []
take_next [] i v h = absurd (cc)
take_next (x ∷ xs) zero v h = let e : x ≡ v = cc in rw e refl
take_next (x ∷ xs) (suc i) v h = let e : suc i + 1 ≡ suc (i + 1) = omega arith in rw e (ap (λ ys. x ∷ ys) (take_next xs i v h))

take_agrees : {A : Type 0} (n : ℕ) (xs ys : List A) → ((i : ℕ) → i < n → slice_get xs i ≡ slice_get ys i) → take n xs ≡ take n ys
take_agrees zero xs ys h = refl
take_agrees (suc n) [] [] h = refl
take_agrees (suc n) [] (y ∷ ys) h = let e = h 0 (omega arith) in absurd (cc)
take_agrees (suc n) (x ∷ xs) [] h = let e = h 0 (omega arith) in absurd (cc)
take_agrees (suc n) (x ∷ xs) (y ∷ ys) h =
    let e : Some x ≡ Some y = h 0 (omega arith) in
    let f : x ≡ y = cc in
    let r : take n xs ≡ take n ys = take_agrees n xs ys (λ i l. h (suc i) (omega (arith, l))) in
    rw (f, r) refl

pub len_take : {A : Type 0} (xs : List A) (n : ℕ) → n ≤ length xs → length (take n xs) ≡ n
len_take xs zero h = refl
len_take [] (suc n) h = absurd (omega (arith, h))
len_take (x ∷ xs) (suc n) h = let e = len_take xs n (omega (arith, h)) in omega (arith, e)

pub len_drop : {A : Type 0} (xs : List A) (n : ℕ) → n ≤ length xs → length (drop n xs) + n ≡ length xs
len_drop xs zero h = omega arith
len_drop [] (suc n) h = absurd (omega (arith, h))
len_drop (x ∷ xs) (suc n) h = let e = len_drop xs n (omega (arith, h)) in omega (arith, e)

pub len_args : {A : Type 0} (xs : List A) (base n : ℕ) → base + n ≤ length xs → length (take n (drop base xs)) ≡ n
len_args xs base n h = let e = len_drop xs base (omega (arith, h)) in len_take (drop base xs) n (omega (arith, h, e))

-- an argument is written behind the frame and those before it
pub arg_values : {A : Type 0} (base i : ℕ) (before after : List A) (v : A) → base + i < length after → ((j : ℕ) → j < i → slice_get after (base + j) ≡ slice_get before (base + j))
    → take (i + 1) (drop base (slice_set after (base + i) v)) ≡ take i (drop base before) ++ v ∷ []
arg_values base i before after v h g =
    let there = slice_set after (base + i) v in
    let a : take i (drop base there) ≡ take i (drop base before) =
    take_agrees i (drop base there) (drop base before) (λ j q. get_drop there base j ∙ (get_set after (base + i) (base + j) v (λ e. omega (arith, e, q)) ∙ (g j q ∙ sym (get_drop before base j)))) in
    take_next (drop base there) i v (get_drop there base i ∙ get_set_same after (base + i) v h) ∙ ap (λ vs. vs ++ v ∷ []) a

-- the front of a list, with another behind it
pub front : {A : Type 0} (xs ys : List A) (n i : ℕ) → n ≤ length xs → i < n → slice_get (take n xs ++ ys) i ≡ slice_get xs i
front xs ys zero i h q = absurd (omega (arith, q))
front [] ys (suc n) i h q = absurd (omega (arith, h))
front (x ∷ xs) ys (suc n) zero h q = refl
front (x ∷ xs) ys (suc n) (suc i) h q = front xs ys n i (omega (arith, h)) (omega (arith, q))

-- an item that there is
pub there : {A : Type 0} (xs : List A) (i : ℕ) → i < length xs → (x : A) × (slice_get xs i ≡ Some x)
there [] i h = absurd (omega (arith, h))
there (x ∷ xs) zero h = (x, refl)
there (x ∷ xs) (suc i) h = there xs i (omega (arith, h))

-- an item, as a list of one
one_item : {A : Type 0} (xs : List A) (i : ℕ) (v : A) → slice_get xs i ≡ Some v → take 1 (drop i xs) ≡ v ∷ []
one_item [] i v h = absurd (cc)
one_item (x ∷ xs) zero v h = let e : x ≡ v = cc in rw e refl
one_item (x ∷ xs) (suc i) v h = one_item xs i v h

pub alone_at : {A : Type 0} (xs : List A) (i : ℕ) (v : A) → slice_get xs i ≡ Some v → take (i + 1 - i) (drop i xs) ≡ v ∷ []
alone_at xs i v h = let e : i + 1 - i ≡ 1 = omega arith in rw e (one_item xs i v h)

pub two : (a b : Bool) → a ≡ true → b ≡ true → (a && b) ≡ true
two true b h q = q
two false b h q = absurd (cc)

pub fst_two : (a b c : Bool) → (a && (b && c)) ≡ true → (a && b) ≡ true
fst_two true true c h = refl
fst_two true false c h = h
fst_two false b c h = h

pub nothing : {A : Type 0} (o : Option A) → ((x : A) → o ≡ Some x → ⊥) → o ≡ None
nothing None h = refl
nothing (Some x) h = absurd (h x refl)

-- the value in the last place is the last of the values
pub last_is : (S : Script) (vs : List Held) (v : Held) → slice_get vs (length vs - 1) ≡ Some v → plain v ≡ last_value S (map plain vs)
last_is S [] v e = absurd (cc)
last_is S (w ∷ []) v e = let f : w ≡ v = cc in ap plain (sym f)
last_is S (w ∷ x ∷ vs) v e =
    let f : length (w ∷ x ∷ vs) - 1 ≡ suc (length (x ∷ vs) - 1) = omega arith in
    last_is S (x ∷ vs) v (rw f at e)

pub no_items : {A : Type 0} (xs : List A) → length xs ≡ 0 → xs ≡ []
no_items [] h = refl
no_items (x ∷ xs) h = absurd (cc)

-- an item of a list with one more behind it
in_more : {A : Type 0} (before : List A) (last x : A) (i : ℕ) → i < length before → x ≡ get_or before i x → x ≡ get_or (before ++ last ∷ []) i x
in_more [] last x i h e = absurd (omega (arith, h))
in_more (y ∷ ys) last x zero h e = e
in_more (y ∷ ys) last x (suc i) h e = in_more ys last x i (omega (arith, h)) e

last_of_more : {A : Type 0} (before : List A) (last : A) → last ≡ get_or (before ++ last ∷ []) (length before) last
last_of_more [] last = refl
last_of_more (y ∷ ys) last = last_of_more ys last

-- the same where a list is split so
pub in_front : {A : Type 0} (before : List A) (last x : A) (i : ℕ) {xs : List A} → IsLastAndRest xs last before → i < length before → x ≡ get_or before i x → (i < length xs) × (x ≡ get_or xs i x)
in_front before last x i split h e = (omega (arith, split.1, h), rw split.0 (in_more before last x i h e))

pub at_end : {A : Type 0} (before : List A) (last : A) {xs : List A} → IsLastAndRest xs last before → (length before < length xs) × (last ≡ get_or xs (length before) last)
at_end before last split = (omega (arith, split.1), rw split.0 (last_of_more before last))

pub none_behind : {A : Type 0} (before : List A) (last : A) {xs : List A} → IsLastAndRest xs last before → length xs ≤ length before + 1
none_behind before last split = omega (arith, split.1)

-- a list of two is its first and its second
pub two_items : {A : Type 0} (xs ys : List A) (a b : A) → ys ≡ xs → 2 ≤ length ys → length ys < 3 → a ≡ slice_index_or ys 0 a → b ≡ slice_index_or ys 1 b → xs ≡ a ∷ b ∷ []
two_items xs [] a b e p q f g = absurd (omega (arith, p))
two_items xs (x ∷ []) a b e p q f g = absurd (omega (arith, p))
two_items xs (x ∷ y ∷ []) a b e p q f g = sym e ∙ (ap (λ z. z ∷ y ∷ []) (sym f) ∙ ap (λ z. a ∷ z ∷ []) (sym g))
two_items xs (x ∷ y ∷ z ∷ zs) a b e p q f g = absurd (omega (arith, q))

-- a list with one element more, of whose elements is made what is made of those of another
pub map_more : {A B : Type 0} (f : A → B) (xs new : List A) (x : A) (ys : List A) (y : A) (i : ℕ) → new ≡ xs ++ x ∷ [] → map f xs ≡ map f (take i ys) → f x ≡ f y → i < length ys → y ≡ get_or ys i y
    → map f new ≡ map f (take (i + 1) ys)
map_more f xs new x ys y i is old e h at =
    ap (map f) is ∙ map-append f xs (x ∷ []) ∙ ap (λ zs. zs ++ f x ∷ []) old ∙ ap (λ z. map f (take i ys) ++ z ∷ []) (e ∙ ap f at) ∙ sym (map-append f (take i ys) (get_or ys i y ∷ []))
    ∙ sym (ap (map f) (take_more ys i y h))
