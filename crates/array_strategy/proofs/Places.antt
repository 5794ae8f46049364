-- Items at places of a list.
use Rattle.std.proofs.Common.{◌≡◌, ℕ, zero, suc, ◌+◌, ◌-◌, ◌<◌, ◌≤◌, List, [], ◌∷◌, ◌++◌, map, length, take, drop, replicate, slice_get, slice_set, refl, ap, sym, subst, ◌∙◌, inl, inr, arith, append_assoc, append-nil, add-one}
use Rattle.std.specs.Prelude.{ℤ, Bool, false, Option, None, Some, IsSomeAnd, All, slice_index_or, Result, Ok, Err, IfOk, OnErr}
use Rattle.std.specs.List.{remove}
use Rattle.std.proofs.lemmas.Grind.{common_steps}
use Rattle.std.proofs.lemmas.List.{take-map, drop-map, length-map, map-set, map-append, length-replicate, take-append-le}
use Rattle.std.proofs.lemmas.List.Edits.{sets-eq}
use Rattle.std.proofs.lemmas.List.Elements.{All-map}
use Rattle.std.proofs.lemmas.Option.{slice_get_past}
use Rattle.typed_location.specs.declared.flag.Flag.{Flag}
use Rattle.array_strategy.specs.declared.storage.Store.{Store}
use Rattle.array_strategy.specs.declared.storage.Store.TheVariants as stores
use Rattle.array_strategy.specs.Elements.{IsFlagBy, IsFlags, IsIntegerBy, IsRaw, IsSetAt, Widens, place_of, with_item}
use Rattle.array_strategy.specs.Storage.{stored}

pub map-remove : {X Y : Type 0} (f : X → Y) (xs : List X) (i : ℕ) → map f (remove xs i) ≡ remove (map f xs) i
map-remove f xs i = grind (arith, common_steps, take-map, drop-map)

-- there is no item where the place is not within the list
pub slice_get-outside : {X : Type 0} (xs : List X) (i : ℕ) → (i < length xs → ⊥) → slice_get xs i ≡ None
slice_get-outside xs i outside = slice_get_past xs i (omega arith)

pub map-replicate : {X Y : Type 0} (f : X → Y) (n : ℕ) (x : X) → map f (replicate n x) ≡ replicate n (f x)
map-replicate f zero x = refl
map-replicate f (suc n) x = ap (λ ys. f x ∷ ys) (map-replicate f n x)

pub map-filled : {X Y : Type 0} (f : X → Y) (xs : List X) (n : ℕ) (x y : X) → map f (xs ++ replicate n x ++ y ∷ []) ≡ map f xs ++ replicate n (f x) ++ f y ∷ []
map-filled f xs n x y = simp (map-append, map-replicate)

-- the items of integers stand for integers
pub All-integers : {V : Type 0} (int : ℤ → V) (ns : List ℤ) → All (IsIntegerBy int) (map int ns)
All-integers int ns = All-map (IsIntegerBy int) int ns (λ k d h. (slice_index_or ns k d, refl))

-- the items of flags stand for flags
pub All-flags : {V : Type 0} (flag : Flag → V) (fs : List Flag) → All (IsFlagBy flag) (map flag fs)
All-flags flag fs = All-map (IsFlagBy flag) flag fs (λ k d h. (slice_index_or fs k d, refl))

pub ruleset places = (map-remove, slice_get-outside, map-set, map-filled)

-- an item that gave way to another, as the items that both stand for
pub set_mapped : {X Y : Type 0} (f : X → Y) (xs ys : List X) (i : ℤ) (x : X) → IsSetAt xs i x ys → IsSetAt (map f xs) i (f x) (map f ys)
set_mapped f xs ys i x is = subst (λ n. IsSomeAnd (place_of i n) Then) (sym (length-map xs f)) (by (place_of i (length xs)) is)
  where
    Then : ℕ → Type 0
    Then j = (j < length (map f xs)) × (map f ys ≡ slice_set (map f xs) j (f x))

    by : (o : Option ℕ) → IsSomeAnd o (λ j. (j < length xs) × (ys ≡ slice_set xs j x)) → IsSomeAnd o Then
    by None e = absurd e
    by (Some j) e = (rw (length-map xs f) e.0, ap (map f) e.1 ∙ map-set f xs j x)

-- within the list, the item there gives way
pub with_item-within : {X : Type 0} (xs : List X) (j : ℕ) (v fill : X) → j < length xs → with_item xs j v fill ≡ slice_set xs j v
with_item-within xs j v fill h =
    let none : j - length xs ≡ 0 = omega arith in
    let padded : xs ++ replicate (j - length xs) fill ≡ xs = rw none (append-nil xs) in
    let fits : j + 1 ≤ length xs = omega arith in
    let parts : slice_set xs j v ≡ take j xs ++ v ∷ drop (suc j) xs = sets-eq (v ∷ []) xs j fits ∙ (rw add-one (append_assoc (take j xs) (v ∷ []) (drop (suc j) xs))) in
    rw (padded, parts) refl

-- further on, the list is filled up first
pub with_item-beyond : {X : Type 0} (xs : List X) (j : ℕ) (v fill : X) → length xs ≤ j → with_item xs j v fill ≡ xs ++ replicate (j - length xs) fill ++ v ∷ []
with_item-beyond xs j v fill h =
    let whole : take j (xs ++ replicate (j - length xs) fill) ≡ xs ++ replicate (j - length xs) fill = grind (arith, common_steps) in
    let rest : drop (suc j) xs ≡ [] = grind (arith, common_steps) in
    rw (whole, rest) refl

-- behind the last item, nothing is filled in
pub with_item-end : {X : Type 0} (xs : List X) (j : ℕ) (v fill : X) → j ≡ length xs → with_item xs j v fill ≡ xs ++ v ∷ []
with_item-end xs j v fill h =
    let none : j - length xs ≡ 0 = omega arith in
    let le : length xs ≤ j = omega arith in
    grind (arith, common_steps, with_item-beyond xs j v fill le, none)

-- a storage of items of one kind alone
module _ {V : Type 0} (int : ℤ → V) (flag : Flag → V) (store : Store V) where
  pub ints_raw : (ints : _) → store ≡ stores.Ints ints → IsRaw int (stored int flag store)
  ints_raw ints is = rw is (record { strategy = refl; items = All-integers int ints.items })

  pub flags_alone : (flags : _) → store ≡ stores.Flags flags → IsFlags flag (stored int flag store)
  flags_alone flags is = rw is (record { strategy = refl; items = All-flags flag flags.items })

-- what it is widened by
module _ {V : Type 0} (int : ℤ → V) (integer : V → Option ℤ) (flag : Flag → V) (flag_of : V → Option Flag) (store : Store V) (v : V) where
  pub ints_widen : (ints : _) (found : Option ℤ) → store ≡ stores.Ints ints → found ≡ integer v → found ≡ None → Widens int integer flag flag_of (stored int flag store) v
  ints_widen ints found is tells none = inl (ints_raw int flag store ints is, sym tells ∙ none)

  pub flags_widen : (flags : _) (found : Option Flag) → store ≡ stores.Flags flags → found ≡ flag_of v → found ≡ None → Widens int integer flag flag_of (stored int flag store) v
  flags_widen flags found is tells none = inr (flags_alone int flag store flags is, sym tells ∙ none)

-- what is so where something was not done, is so where there was room besides
pub with_room : {E : Type 0} (P Q : Type 0) (r : Result Bool E) → IfOk r (λ d. d ≡ false → P) → IfOk r (λ d. d ≡ false → Q → P)
with_room P Q (Ok d) so = λ is room. so is
with_room P Q (Err e) so = tt

-- what holds anyway holds where there is an error
pub always_err : {T E P : Type 0} (r : Result T E) → P → OnErr r P
always_err (Ok x) p = tt
always_err (Err e) p = p
