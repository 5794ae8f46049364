-- Fields in a row: where a name stands, and what is written there.
use Rattle.std.proofs.Common.{◌≡◌, ℕ, zero, suc, ◌==◌, ◌<◌, ◌≤◌, Bool, true, false, List, [], ◌∷◌, ◌++◌, length, map, take, get_or, refl, sym, ap, ◌∙◌, arith}
use Rattle.std.specs.Prelude.{◌||◌, not, Result, Ok, Err, IfOk}
use Rattle.std.specs.List.{slice_set}
use Rattle.std.proofs.lemmas.List.{take_all}
use Rattle.std.proofs.lemmas.Bool.{eq-eqb, ne_eqb}
use Rattle.rb_tree.specs.declared.span.NameId.{NameId}
use Rattle.rb_model.specs.declared.thing.Field.{Field as Told}
use Rattle.rb_model.specs.declared.value.Value.{Value as Held}
use Rattle.rb_model.specs.Values.{Value as Val, Nil, plain}
use Rattle.rb_model.specs.Doing.{slot}
use Rattle.rb_model.specs.Things.{field, with_field, is_integer}
use Rattle.thing_store.specs.Fields.{StandsAt, has_field}

-- two tests of which none passes
neither : (a b : Bool) → (a || b) ≡ false → (a ≡ false) × (b ≡ false)
neither true b h = absurd (cc)
neither false b h = (refl, h)

no_pass : (a b : Bool) → a ≡ false → b ≡ false → (a || b) ≡ false
no_pass a b e h = rw e h

module _ (name : NameId) where
  -- the name is at none of the first fields, so it is first at this one
  pub stands_here : (n : ℕ) (items : List Told) (e : Told) → n < length items → e ≡ get_or items n e
      → has_field name (map slot (take n items)) ≡ false → e.name.0 ≡ name.0 → StandsAt name n (map slot items)
  stands_here n [] e lt is none h = absurd (omega (arith, lt))
  stands_here zero (x ∷ xs) e lt is none h = eq-eqb x.name.0 name.0 (ap (λ (y : Told). y.name.0) (sym is) ∙ h)
  stands_here (suc n) (x ∷ xs) e lt is none h =
      let parts = neither (x.name.0 == name.0) (has_field name (map slot (take n xs))) none in
      (parts.0, stands_here n xs e (omega (arith, lt)) is parts.1 h)

  -- the name is not at the next field either
  pub passed_more : (n : ℕ) (items : List Told) (e : Told) → n < length items → e ≡ get_or items n e
      → has_field name (map slot (take n items)) ≡ false → (e.name.0 ≡ name.0 → ⊥) → has_field name (map slot (take (suc n) items)) ≡ false
  passed_more n [] e lt is none h = absurd (omega (arith, lt))
  passed_more zero (x ∷ xs) e lt is none h = no_pass _ _ (ne_eqb x.name.0 name.0 (λ same. h (ap (λ (y : Told). y.name.0) is ∙ same))) refl
  passed_more (suc n) (x ∷ xs) e lt is none h =
      let parts = neither (x.name.0 == name.0) (has_field name (map slot (take n xs))) none in
      no_pass _ _ parts.0 (passed_more n xs e (omega (arith, lt)) is parts.1 h)

  -- it is at none of all fields
  pub none_here : (n : ℕ) (items : List Told) → length items ≤ n → has_field name (map slot (take n items)) ≡ false → has_field name (map slot items) ≡ false
  none_here n items le none = ap (λ l. has_field name (map slot l)) (sym (take_all n items le)) ∙ none

  pub place_within : (n : ℕ) (items : List Told) → StandsAt name n (map slot items) → n < length items
  place_within n [] h = absurd h
  place_within zero (x ∷ xs) h = omega arith
  place_within (suc n) (x ∷ xs) h = let within = place_within n xs h.1 in omega (arith, within)

  -- the value of the field, and what the fields are with another one
  pub stands_value : (n : ℕ) (items : List Told) (e : Told) → StandsAt name n (map slot items) → e ≡ get_or items n e → plain e.value ≡ field name (map slot items)
  stands_value n [] e h is = absurd h
  stands_value zero (x ∷ xs) e h is = rw h (ap (λ (y : Told). plain y.value) is)
  stands_value (suc n) (x ∷ xs) e h is = rw h.0 (stands_value n xs e h.1 is)

  pub absent_value : (items : List Told) → has_field name (map slot items) ≡ false → field name (map slot items) ≡ Nil
  absent_value [] none = refl
  absent_value (x ∷ xs) none =
      let parts = neither (x.name.0 == name.0) (has_field name (map slot xs)) none in
      rw parts.0 (absent_value xs parts.1)

  pub set_there : (n : ℕ) (items : List Told) (e : Told) (v : Held) (wide : Bool) → StandsAt name n (map slot items) → e ≡ get_or items n e → wide ≡ (e.wide || not (is_integer (plain v)))
      → map slot (slice_set items n (record { name = e.name; value = v; wide = wide })) ≡ with_field name (plain v) (map slot items)
  set_there n [] e v wide h is was = absurd h
  set_there zero (x ∷ xs) e v wide h is was =
      rw (h, was) (ap (λ (y : Told). slot (record { name = y.name; value = v; wide = y.wide || not (is_integer (plain v)) }) ∷ map slot xs) is)
  set_there (suc n) (x ∷ xs) e v wide h is was = rw h.0 (ap (λ fs. slot x ∷ fs) (set_there n xs e v wide h.1 is was))

  pub comes_last : (items : List Told) (v : Held) → has_field name (map slot items) ≡ false
      → map slot (items ++ record { name = name; value = v; wide = not (is_integer (plain v)) } ∷ []) ≡ with_field name (plain v) (map slot items)
  comes_last [] v none = refl
  comes_last (x ∷ xs) v none =
      let parts = neither (x.name.0 == name.0) (has_field name (map slot xs)) none in
      rw parts.0 (ap (λ fs. slot x ∷ fs) (comes_last xs v parts.1))

pub told : {E : Type 0} (r : Result Held E) (e : Held) (v : Val) → IfOk r (λ copy. plain copy ≡ plain e) → plain e ≡ v → IfOk r (λ copy. plain copy ≡ v)
told (Ok copy) e v same is = same ∙ is
told (Err refused) e v same is = tt
