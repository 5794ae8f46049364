-- References that are looked at one after the other.
use Rattle.std.proofs.Common.{◌≡◌, ◌<◌, ◌≤◌, ◌+◌, ℕ, zero, suc, List, [], ◌∷◌, ◌++◌, map, set, take, length, get_or, refl, sym, ap, ◌∙◌, subst, arith, append_assoc}
use Rattle.std.proofs.lemmas.List.{append-nil, map-set, set-get_or, take_all, take_more, take_more_set}
use Rattle.std.specs.List.{flat_map}
use Rattle.rb_model.specs.declared.value.Ref.{Ref}
use Rattle.rb_model.specs.declared.value.Value.{Value as Held}
use Rattle.rb_model.specs.declared.thing.Field.{Field as Told}
use Rattle.rb_model.specs.Moving.{refs_in, refs_in_all, refs_in_pairs}
use Rattle.rb_shared.specs.Lists.{Each}
use Rattle.rb_shared.proofs.Runs.{each_append}
use Rattle.publish_barrier.specs.Leaving.{refs_in_fields}

pub flat-append : {X Y : Type 0} (f : X → List Y) (xs : List X) (x : X) → flat_map f (xs ++ x ∷ []) ≡ flat_map f xs ++ f x
flat-append f [] x = append-nil (f x)
flat-append f (y ∷ xs) x = ap (λ us. f y ++ us) (flat-append f xs x) ∙ sym (append_assoc (f y) (flat_map f xs) (f x))

-- ---- values, fields and pairs

pub refs_more : (xs : List Held) (x : Held) → refs_in_all (xs ++ x ∷ []) ≡ refs_in_all xs ++ refs_in x
refs_more xs x = flat-append refs_in xs x

pub field_refs_more : (xs : List Told) (x : Told) → refs_in_fields (xs ++ x ∷ []) ≡ refs_in_fields xs ++ refs_in x.value
field_refs_more xs x = flat-append (λ (f : Told). refs_in f.value) xs x

pub pair_refs_more : (xs : List (Held × Held)) (x : Held × Held) → refs_in_pairs (xs ++ x ∷ []) ≡ refs_in_pairs xs ++ (refs_in x.0 ++ refs_in x.1)
pair_refs_more xs x = flat-append (λ (p : Held × Held). refs_in p.0 ++ refs_in p.1) xs x

pub both_wait : (ws' ws rs ss : List Ref) → ws' ≡ (ws ++ rs) ++ ss → ws' ≡ ws ++ (rs ++ ss)
both_wait ws' ws rs ss e = e ∙ append_assoc ws rs ss

-- ---- one more is taken

pub taken_next : {X : Type 0} (xs : List X) (n : ℕ) (x : X) → n < length xs → x ≡ get_or xs n x → take (n + 1) xs ≡ take n xs ++ x ∷ []
taken_next xs n x h e = take_more xs n x h ∙ ap (λ y. take n xs ++ y ∷ []) (sym e)

-- what waits of values that are gone through
pub waits_next : (vs : List Held) (n : ℕ) (v : Held) (ws₀ ws ws' : List Ref) → n < length vs → v ≡ get_or vs n v → ws ≡ ws₀ ++ refs_in_all (take n vs)
    → ws' ≡ ws ++ refs_in v → ws' ≡ ws₀ ++ refs_in_all (take (n + 1) vs)
waits_next vs n v ws₀ ws ws' h e waits more =
    more ∙ ap (λ us. us ++ refs_in v) waits
    ∙ append_assoc ws₀ (refs_in_all (take n vs)) (refs_in v)
    ∙ ap (λ us. ws₀ ++ us) (sym (ap refs_in_all (taken_next vs n v h e) ∙ refs_more (take n vs) v))

-- What rows of X are, by f, and the references that they hold. So many of them wait, and are so.
pub record PlacedRows (X Y : Type 0) (f : X → Y) (refs : List X → List Ref) (P : Ref → Type 0) (xs₀ xs : List X) (ws₀ ws : List Ref) (n : ℕ) : Type 0 where
  pub same : map f xs ≡ map f xs₀
  pub waits : ws ≡ ws₀ ++ refs (take n xs)
  pub addressed : Each P (refs (take n xs))

module _ (X Y : Type 0) (f : X → Y) (refs : List X → List Ref) (ref : X → List Ref)
    (more_refs : (xs : List X) (x : X) → refs (xs ++ x ∷ []) ≡ refs xs ++ ref x) (P : Ref → Type 0) (xs₀ xs : List X) (ws₀ ws : List Ref) (n : ℕ) where
  pub none_yet : xs ≡ xs₀ → ws ≡ ws₀ → refs [] ≡ [] → PlacedRows X Y f refs P xs₀ xs ws₀ ws 0
  none_yet same waits no_refs = record {
    same = ap (map f) same;
    waits = waits ∙ sym (append-nil ws₀) ∙ ap (λ us. ws₀ ++ us) (sym no_refs);
    addressed = subst (Each P) (sym no_refs) tt;
  }

  pub one_more : (x x' : X) (ws' : List Ref) → n < length xs → x ≡ get_or xs n x → f x' ≡ f x → ws' ≡ ws ++ ref x' → Each P (ref x')
      → PlacedRows X Y f refs P xs₀ xs ws₀ ws n → PlacedRows X Y f refs P xs₀ (set xs n x') ws₀ ws' (n + 1)
  one_more x x' ws' h e same waits are r =
      let next : refs (take (n + 1) (set xs n x')) ≡ refs (take n xs) ++ ref x' = ap refs (take_more_set xs n x' h) ∙ more_refs (take n xs) x' in
      record {
        same = map-set f xs n x' ∙ ap (set (map f xs) n) same ∙ sym (map-set f xs n x) ∙ ap (map f) (ap (set xs n) e ∙ set-get_or xs n x) ∙ r.same;
        waits = waits ∙ ap (λ us. us ++ ref x') r.waits ∙ append_assoc ws₀ (refs (take n xs)) (ref x') ∙ ap (λ us. ws₀ ++ us) (sym next);
        addressed = subst (Each P) (sym next) (each_append P (refs (take n xs)) (ref x') r.addressed are);
      }

  pub all_done : length xs ≤ n → PlacedRows X Y f refs P xs₀ xs ws₀ ws n → (ws ≡ ws₀ ++ refs xs) × Each P (refs xs)
  all_done h r =
      let whole = take_all n xs h in
      (r.waits ∙ ap (λ us. ws₀ ++ refs us) whole, subst (λ us. Each P (refs us)) whole r.addressed)
