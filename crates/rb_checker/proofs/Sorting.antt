-- A stable sort by place puts uses in the order of the text.
use Rattle.std.proofs.Common.{◌≡◌, ℕ, zero, suc, ◌<◌, ◌≤◌, Bool, true, false, cond, [], ◌∷◌, length, get_or, filter, nat_cmp, is_lt, refl, sym, ap, ◌∙◌, arith, inl, inr, suc-le-suc, zero-le}
use Rattle.std.proofs.lemmas.Bool.{cond-true, cond-false, cases_Bool}
use Rattle.std.proofs.lemmas.Bool.Decides.{nat_tests}
use Rattle.std.specs.Prelude.{nat_le}
use Rattle.std.specs.List.Sorted.{ties, IsNonDecreasingBy, IsStableByKey}
use Rattle.rb_tree.specs.declared.span.Span.{Span}
use Rattle.rb_tree.specs.declared.span.NameId.{NameId}
use Rattle.rb_checker.specs.Crowd.{Uses, with_use, by_place}

abbrev Use : Type 0
Use = NameId × Span

abbrev pub place_of : Use → ℕ
place_of u = u.1.from

abbrev is_beside : Use → Use → Bool
is_beside = ties (λ u v. is_lt (nat_cmp (place_of u) (place_of v)))

numbers_tie : (m n : ℕ) → (ties (λ x y. is_lt (nat_cmp x y)) m n ≡ true → m ≡ n) × (m ≡ n → ties (λ x y. is_lt (nat_cmp x y)) m n ≡ true)
numbers_tie m n = (λ h. grind (arith, nat_tests), λ h. grind (arith, nat_tests))

is_beside-true : (u v : Use) → is_beside u v ≡ true → place_of u ≡ place_of v
is_beside-true u v = (numbers_tie (place_of u) (place_of v)).0

is_beside_from : (u v : Use) → place_of u ≡ place_of v → is_beside u v ≡ true
is_beside_from u v = (numbers_tie (place_of u) (place_of v)).1

le_from : (m n : ℕ) → nat_le m n ≡ true → m ≤ n
le_from m n h = grind (arith, nat_tests)

lt_from : (m n : ℕ) → nat_le m n ≡ false → n < m
lt_from m n h = grind (arith, nat_tests)

filter-kept : (p : Use → Bool) (u : Use) (us : Uses) → p u ≡ true → filter p (u ∷ us) ≡ u ∷ filter p us
filter-kept p u us h = cond-true _ _ _ h

filter-dropped : (p : Use → Bool) (u : Use) (us : Uses) → p u ≡ false → filter p (u ∷ us) ≡ filter p us
filter-dropped p u us h = cond-false _ _ _ h

with_use-first : (u v : Use) (vs : Uses) → nat_le (place_of u) (place_of v) ≡ true → with_use u (v ∷ vs) ≡ u ∷ v ∷ vs
with_use-first u v vs h = cond-true _ _ _ h

with_use-later : (u v : Use) (vs : Uses) → nat_le (place_of u) (place_of v) ≡ false → with_use u (v ∷ vs) ≡ v ∷ with_use u vs
with_use-later u v vs h = cond-false _ _ _ h

-- uses at one place keep their order
filter-with_use : (x u : Use) (vs : Uses) → filter (is_beside x) (with_use u vs) ≡ filter (is_beside x) (u ∷ vs)
filter-with_use x u [] = refl
filter-with_use x u (v ∷ vs) =
    let p = is_beside x in
    elim (cases_Bool (nat_le (place_of u) (place_of v))) [
      | inl first ↦ ap (filter p) (with_use-first u v vs first)
      | inr later ↦
          ap (filter p) (with_use-later u v vs later)
          ∙ elim (cases_Bool (p v)) [
            | inr without ↦
                filter-dropped p v (with_use u vs) without ∙ filter-with_use x u vs
                ∙ ap (λ l. cond (p u) (u ∷ l) l) (sym (filter-dropped p v vs without))
            | inl with ↦
                elim (cases_Bool (p u)) [
                  | inl both ↦ absurd (omega (arith, is_beside-true x u both, is_beside-true x v with, lt_from (place_of u) (place_of v) later))
                  | inr only ↦
                      filter-kept p v (with_use u vs) with ∙ ap (λ l. v ∷ l) (filter-with_use x u vs ∙ filter-dropped p u vs only)
                      ∙ sym (filter-dropped p u (v ∷ vs) only ∙ filter-kept p v vs with)
                ]
          ]
    ]

filter-by_place : (x : Use) (us : Uses) → filter (is_beside x) (by_place us) ≡ filter (is_beside x) us
filter-by_place x [] = refl
filter-by_place x (u ∷ us) = filter-with_use x u (by_place us) ∙ ap (λ l. cond (is_beside x u) (u ∷ l) l) (filter-by_place x us)

abbrev StandFrom : ℕ → Uses → Type 0
StandFrom n [] = Unit {0}
StandFrom n (u ∷ us) = (n ≤ place_of u) × StandFrom n us

abbrev Rise : Uses → Type 0
Rise [] = Unit {0}
Rise (u ∷ us) = StandFrom (place_of u) us × Rise us

StandFrom-le : (n m : ℕ) (us : Uses) → n ≤ m → StandFrom m us → StandFrom n us
StandFrom-le n m [] le h = tt
StandFrom-le n m (u ∷ us) le h = let first = h.0 in (omega arith, StandFrom-le n m us le h.1)

StandFrom-at : (n : ℕ) (us : Uses) → ((j : ℕ) (d : Use) → j < length us → n ≤ place_of (get_or us j d)) → StandFrom n us
StandFrom-at n [] h = tt
StandFrom-at n (u ∷ us) h = (h zero u (suc-le-suc zero-le), StandFrom-at n us (λ j d lt. h (suc j) d (suc-le-suc lt)))

Rise-from_sort : (us : Uses) → IsNonDecreasingBy place_of us → Rise us
Rise-from_sort [] h = tt
Rise-from_sort (u ∷ us) h = (
  StandFrom-at (place_of u) us (λ j d lt. h zero (suc j) d zero-le (suc-le-suc lt)),
  Rise-from_sort us (λ i j d le lt. h (suc i) (suc j) d (suc-le-suc le) (suc-le-suc lt)),
)

StandFrom-with_use : (n : ℕ) (u : Use) (vs : Uses) → n ≤ place_of u → StandFrom n vs → StandFrom n (with_use u vs)
StandFrom-with_use n u [] le h = (le, tt)
StandFrom-with_use n u (v ∷ vs) le h = by (nat_le (place_of u) (place_of v)) (StandFrom-with_use n u vs le h.1)
  where
    by : (first : Bool) → StandFrom n (with_use u vs) → StandFrom n (cond first (u ∷ v ∷ vs) (v ∷ with_use u vs))
    by true more = (le, h)
    by false more = (h.0, more)

Rise-with_use : (u : Use) (vs : Uses) → Rise vs → Rise (with_use u vs)
Rise-with_use u [] h = (tt, tt)
Rise-with_use u (v ∷ vs) h = by (nat_le (place_of u) (place_of v)) (le_from (place_of u) (place_of v)) (lt_from (place_of u) (place_of v)) (Rise-with_use u vs h.1)
  where
    by : (first : Bool) → (first ≡ true → place_of u ≤ place_of v) → (first ≡ false → place_of v < place_of u) → Rise (with_use u vs) → Rise (cond first (u ∷ v ∷ vs) (v ∷ with_use u vs))
    by true le lt more = ((le refl, StandFrom-le (place_of u) (place_of v) vs (le refl) h.0), h)
    by false le lt more = let above = lt refl in (StandFrom-with_use (place_of v) u vs (omega arith) h.0, more)

Rise-by_place : (us : Uses) → Rise (by_place us)
Rise-by_place [] = tt
Rise-by_place (u ∷ us) = Rise-with_use u (by_place us) (Rise-by_place us)

-- one at the place of x stands among them
StandFrom-found : (n : ℕ) (x : Use) (us : Uses) (w : Use) (ws : Uses) → StandFrom n us → filter (is_beside x) us ≡ w ∷ ws → n ≤ place_of x
StandFrom-found n x [] w ws h e = cc
StandFrom-found n x (u ∷ us) w ws h e =
    elim (cases_Bool (is_beside x u)) [
      | inl with ↦ omega (arith, h.0, is_beside-true x u with)
      | inr without ↦ StandFrom-found n x us w ws h.1 (sym (filter-dropped (is_beside x) u us without) ∙ e)
    ]

-- what rises is known by what stands at each place
same_from_places : (us vs : Uses) → Rise us → Rise vs → ((x : Use) → filter (is_beside x) us ≡ filter (is_beside x) vs) → us ≡ vs
same_from_places [] [] left right same = refl
same_from_places [] (v ∷ vs) left right same =
    let clash = same v ∙ filter-kept (is_beside v) v vs (is_beside_from v v refl) in cc
same_from_places (u ∷ us) [] left right same =
    let clash = sym (same u) ∙ filter-kept (is_beside u) u us (is_beside_from u u refl) in cc
same_from_places (u ∷ us) (v ∷ vs) left right same =
    let at_u = filter-kept (is_beside u) u us (is_beside_from u u refl) in
    let at_v = filter-kept (is_beside v) v vs (is_beside_from v v refl) in
    let up = StandFrom-found (place_of v) u (v ∷ vs) u _ (omega arith, right.0) (sym (same u) ∙ at_u) in
    let down = StandFrom-found (place_of u) v (u ∷ us) v _ (omega arith, left.0) (same v ∙ at_v) in
    let heads = sym at_u ∙ same u ∙ filter-kept (is_beside u) v vs (is_beside_from u v (omega arith)) in
    let head : u ≡ v = cc in
    let tails : (x : Use) → filter (is_beside x) us ≡ filter (is_beside x) vs =
    λ x. elim (cases_Bool (is_beside x u)) [
      | inl with ↦
          let both = sym (filter-kept (is_beside x) u us with) ∙ same x ∙ filter-kept (is_beside x) v vs (ap (is_beside x) (sym head) ∙ with) in cc
      | inr without ↦
          sym (filter-dropped (is_beside x) u us without) ∙ same x ∙ filter-dropped (is_beside x) v vs (ap (is_beside x) (sym head) ∙ without)
    ] in
    ap (λ w. w ∷ us) head ∙ ap (λ l. v ∷ l) (same_from_places us vs left.1 right.1 tails)

pub by_place-from_sort : (us vs : Uses) → IsNonDecreasingBy place_of vs → IsStableByKey place_of nat_cmp us vs → vs ≡ by_place us
by_place-from_sort us vs sorted stable =
    same_from_places vs (by_place us) (Rise-from_sort vs sorted) (Rise-by_place us) (λ x. stable x ∙ sym (filter-by_place x us))
