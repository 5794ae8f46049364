-- What a look for a key among keys finds.
use Rattle.std.proofs.Common.{◌≡◌, ℕ, zero, suc, ◌<◌, Bool, true, false, List, [], ◌∷◌, ◌++◌, Option, Some, None, refl, ap, sym, ◌∙◌, subst, arith, rules, length, get_or, Contains, true≢false, is_some}
use Rattle.std.specs.Prelude.{position}
use Rattle.std.proofs.lemmas.List.{map-append}
use Rattle.std.proofs.lemmas.List.Elements.{Contains-append_right, Contains-get_or}
use Rattle.std.proofs.lemmas.List.Quantifiers.{position-Some}
use Rattle.std.proofs.lemmas.Map.{NonePasses, none_passes_from_lookup, lookup-none}
use Rattle.std.specs.Map.{keys_of, values_of}
use Rattle.indexmap.specs.IndexMap.{IndexMap, keys, values, get_by, insert_entry}
use Rattle.indexmap.proofs.CallerLemmas.{insert_entry-new}
use Rattle.shape_tree.specs.declared.key.Key.{Key}
use Rattle.shape_tree.specs.declared.key.Key.TheVariants.{Root}
use Rattle.shape_tree.specs.declared.key.Row.{Row}
use Rattle.shape_tree.specs.contracts.key.KeyPartialEq.TheImpl.{eq-value}
use Rattle.shape_tree.specs.Shapes.{key_at}

-- the derived `==` of keys
abbrev pub key_eq : Key → Key → Bool
key_eq = eq-value.it

pub same_key : (key other : Key) → key_eq key other ≡ true → key ≡ other
same_key key other h = search rules

pub own_key : (key : Key) → key_eq key key ≡ true
own_key key = search rules

-- a key that is found stands there
pub found_at : (keys : List Key) (key : Key) (at : ℕ) → Some at ≡ position (key_eq key) keys → (at < length keys) × (key_at keys at ≡ key)
found_at keys key at h =
    let f = position-Some (key_eq key) keys at (Root 0) (sym h) in
    (f.0, sym (same_key key (key_at keys at) f.1))

passes_none : {X : Type 0} (test : Key → Bool) (entries : List (Key × X)) → NonePasses test entries
    → (n : ℕ) (d : Key) → n < length (keys_of entries) → test (get_or (keys_of entries) n d) ≡ false
passes_none test [] none n d h = absurd (omega (arith, h))
passes_none test (e ∷ es) none zero d h = none.0
passes_none test (e ∷ es) none (suc n) d h = passes_none test es none.1 n d (omega (arith, h))

lost : {X : Type 0} (found : Option X) → false ≡ is_some found → found ≡ None
lost None h = refl
lost (Some x) h = absurd (true≢false (sym h))

module _ {S : Type 0} (nodes : IndexMap Key Row S) (key : Key) (gone : false ≡ is_some (get_by (key_eq key) nodes)) where
  none_there : get_by (key_eq key) nodes ≡ None
  none_there = lost (get_by (key_eq key) nodes) gone

  -- a key that is not found is not there
  pub not_there : Contains (keys nodes) key → ⊥
  not_there h =
      let other = passes_none (key_eq key) nodes.entries (none_passes_from_lookup (key_eq key) nodes.entries none_there) h.0 key h.1 in
      true≢false (sym (ap (key_eq key) h.2 ∙ own_key key) ∙ other)

module _ (key : Key) where
  none_passes : (entries : List (Key × Row)) → (Contains (keys_of entries) key → ⊥) → NonePasses (key_eq key) entries
  none_passes [] new = tt
  none_passes (e ∷ es) new =
      (by (key_eq key e.0) refl, none_passes es (λ h. new (Contains-append_right (e.0 ∷ []) (keys_of es) key h)))
    where
      by : (b : Bool) → key_eq key e.0 ≡ b → key_eq key e.0 ≡ false
      by true h = absurd (new (subst (Contains (keys_of (e ∷ es))) (sym (same_key key e.0 h)) (Contains-get_or (keys_of (e ∷ es)) 0 key (omega arith))))
      by false h = h

  module _ {S : Type 0} (nodes : IndexMap Key Row S) (new : Contains (keys nodes) key → ⊥) (row : Row) where
    goes_last : insert_entry key_eq nodes.entries key row ≡ nodes.entries ++ (key, row) ∷ []
    goes_last = insert_entry-new key_eq nodes key row (lookup-none (key_eq key) nodes.entries (none_passes nodes.entries new))

    -- a key that is not there goes last, with its row
    pub keys-insert : keys_of (insert_entry key_eq nodes.entries key row) ≡ keys nodes ++ key ∷ []
    keys-insert = ap keys_of goes_last ∙ map-append (λ (e : Key × Row). e.0) nodes.entries ((key, row) ∷ [])

    pub values-insert : values_of (insert_entry key_eq nodes.entries key row) ≡ values nodes ++ row ∷ []
    values-insert = ap values_of goes_last ∙ map-append (λ (e : Key × Row). e.1) nodes.entries ((key, row) ∷ [])
