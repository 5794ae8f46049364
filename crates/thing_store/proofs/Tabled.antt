-- Things looked up by their keys are those of the plain store.
use Rattle.std.proofs.Common.{◌≡◌, ◌≤◌, inl, inr, ℕ, zero, suc, Bool, true, false, List, [], ◌∷◌, ◌++◌, map, Option, Some, None, refl, sym, ap, ◌∙◌, is_some, length, Bor, arith}
use Rattle.std.proofs.lemmas.Bool.{eq-eqb, ne_eqb}
use Rattle.std.proofs.lemmas.Bool.Decides.{eqb_tells}
use Rattle.std.specs.Prelude.{◌==◌, ◌&&◌, position, slice_get, Result, Ok, Err, IfOk, OnOk, OnErr}
use Rattle.std.specs.Option.{option_map, option_copied}
use Rattle.std.specs.Map.{lookup, keys_of, values_of}
use Rattle.std.proofs.lemmas.List.{length-map, map-append}
use Rattle.std.proofs.lemmas.Option.{same_Some}
use Rattle.indexmap.specs.IndexMap.{insert_entry, set_value_at}
use Rattle.indexmap.proofs.MapLemmas.{Found-position, Missing-position, absent_from_lookup, insert_entry-first, insert_entry-absent}
use Rattle.rb_model.specs.declared.value.Id.{Id}
use Rattle.rb_model.specs.Values.{same_id}
use Rattle.rb_model.specs.declared.act.Reply.{Reply as Answered}
use Rattle.rb_model.specs.Acts.{Act}
use Rattle.rb_model.specs.Doing.{said}
use Rattle.rb_model.specs.Things.{Thing}
use Rattle.rb_shared.specs.Store.{Store, found, is_there, with_thing}
use Rattle.rb_shared.specs.Step.{reply_of, with_act}
use Rattle.thing_store.specs.declared.kept.Kept.{Kept}
use Rattle.thing_store.specs.declared.table.Key.{Key}
use Rattle.thing_store.specs.contracts.table.KeyPartialEq.TheImpl.{eq-value}
use Rattle.thing_store.specs.Counted.{altered}
use Rattle.thing_store.specs.Kept.{Acts, thing_of, id_of, item_of}

-- the derived `==` of keys
abbrev pub key_eq : Key → Key → Bool
key_eq = eq-value.it

swapped : (a b : ℕ) → (a == b) ≡ (b == a)
swapped a b = elim (eqb_tells a b) [
  | inl h ↦ h.0 ∙ sym (eq-eqb b a (sym h.1))
  | inr h ↦ h.0 ∙ sym (ne_eqb b a (λ e. h.1 (sym e)))
]

same_key : (k x : Key) → key_eq k x ≡ same_id (id_of x) (id_of k)
same_key k x = ap (λ b. b && k.serial == x.serial) (swapped k.thread x.thread) ∙ ap (λ b. x.thread == k.thread && b) (swapped k.serial x.serial)

-- what is found under a key
pub found_is : (k : Key) (es : List (Key × Kept)) → option_map thing_of (lookup (key_eq k) es) ≡ found (map item_of es) (id_of k)
found_is k [] = refl
found_is k (e ∷ es) = (elim (key_eq k e.0) as (λ b. key_eq k e.0 ≡ b → option_map thing_of (lookup (key_eq k) (e ∷ es)) ≡ found (map item_of (e ∷ es)) (id_of k)) [
  | true ↦ λ q. rw (q, (sym (same_key k e.0) ∙ q)) refl
  | false ↦ λ q. rw (q, (sym (same_key k e.0) ∙ q)) (found_is k es)
]) refl

pub copied : (r : Option (Bor Kept)) → option_map (λ (kept : Bor Kept). thing_of kept.now) r ≡ option_map thing_of (option_copied r)
copied None = refl
copied (Some kept) = refl

is_some_map : (o : Option Kept) → is_some (option_map thing_of o) ≡ is_some o
is_some_map None = refl
is_some_map (Some kept) = refl

lost : (o : Option Kept) → is_some o ≡ false → o ≡ None
lost None e = refl
lost (Some kept) e = absurd (cc)

-- a thing whose id is new comes last
pub added : (k : Key) (kept : Kept) (es : List (Key × Kept)) → is_there (map item_of es) (id_of k) ≡ false → map item_of (insert_entry key_eq es k kept) ≡ map item_of es ++ item_of (k, kept) ∷ []
added k kept es new =
    let none = lost (lookup (key_eq k) es) (sym (is_some_map (lookup (key_eq k) es)) ∙ ap is_some (found_is k es) ∙ new) in
    ap (map item_of) (insert_entry-absent key_eq k kept es (absent_from_lookup (key_eq k) es none)) ∙ map-append item_of es ((k, kept) ∷ [])

-- a thing that is there is changed in its place
changed : (k : Key) (kept : Kept) (es : List (Key × Kept)) (old : Kept) → lookup (key_eq k) es ≡ Some old → map item_of (insert_entry key_eq es k kept) ≡ with_thing (map item_of es) (id_of k) (thing_of kept)
changed k kept [] old there = absurd (cc)
changed k kept (e ∷ es) old there = (elim (key_eq k e.0) as (λ b. key_eq k e.0 ≡ b → map item_of (insert_entry key_eq (e ∷ es) k kept) ≡ with_thing (map item_of (e ∷ es)) (id_of k) (thing_of kept)) [
  | true ↦ λ q. rw (q, (sym (same_key k e.0) ∙ q)) refl
  | false ↦ λ q. rw (q, (sym (same_key k e.0) ∙ q)) (ap (λ l. item_of e ∷ l) (changed k kept es old (rw q at there)))
]) refl

module _ (k : Key) (es : List (Key × Kept)) (place : ℕ) (at : position (key_eq k) (keys_of es) ≡ Some place) where
  -- the thing at the place of a key
  pub found_at : (old : Kept) → slice_get (values_of es) place ≡ Some old → found (map item_of es) (id_of k) ≡ Some (thing_of old)
  found_at old there = sym (found_is k es) ∙ ap (option_map thing_of) ((Found-position (key_eq k) es place at).value ∙ there)

  pub changed_at : (old kept : Kept) → slice_get (values_of es) place ≡ Some old → map item_of (set_value_at es place kept) ≡ with_thing (map item_of es) (id_of k) (thing_of kept)
  changed_at old kept there =
      let f = Found-position (key_eq k) es place at in
      ap (map item_of) (sym (insert_entry-first key_eq k kept es place f.first)) ∙ changed k kept es old (f.value ∙ there)

pub missing : (k : Key) (es : List (Key × Kept)) → position (key_eq k) (keys_of es) ≡ None → found (map item_of es) (id_of k) ≡ None
missing k es none = sym (found_is k es) ∙ ap (option_map thing_of) (Missing-position (key_eq k) es none).value

-- ---- what an act did

unchanged : (z : Store) (id : Id) (thing : Thing) → found z id ≡ Some thing → with_thing z id thing ≡ z
unchanged [] id thing there = refl
unchanged (x ∷ xs) id thing there = (elim (same_id x.id id) as (λ b. same_id x.id id ≡ b → with_thing (x ∷ xs) id thing ≡ x ∷ xs) [
  | true ↦ λ q. rw q (ap (λ one. record { id = x.id; thing = one } ∷ xs) (sym (same_Some x.thing thing (rw q at there))))
  | false ↦ λ q. rw q (ap (λ l. x ∷ l) (unchanged xs id thing (rw q at there)))
]) refl

module _ (t : ℕ) (act : Act) (z y : Store) (id : Id) (thing now : Thing) (there : found z id ≡ Some thing) (set : y ≡ with_thing z id now) where
  pub acted_reply : {E : Type 0} (r : Result Answered E) → Acts t thing act r now → IfOk r (λ reply. said reply ≡ reply_of t (found z id) act)
  acted_reply (Ok reply) did = did.0 ∙ sym (ap (λ o. reply_of t o act) there)
  acted_reply (Err refused) did = tt

  pub acted_things : {E : Type 0} (r : Result Answered E) → Acts t thing act r now → OnOk r (y ≡ with_act t z id (found z id) act)
  acted_things (Ok reply) did = set ∙ ap (with_thing z id) did.1 ∙ sym (ap (λ o. with_act t z id o act) there)
  acted_things (Err refused) did = tt

  pub acted_err : {E : Type 0} (r : Result Answered E) → Acts t thing act r now → OnErr r (y ≡ z)
  acted_err (Ok reply) did = tt
  acted_err (Err refused) did = set ∙ ap (with_thing z id) did ∙ unchanged z id thing there

module _ (k : Key) (es : List (Key × Kept)) (place : ℕ) (at : Some place ≡ position (key_eq k) (keys_of es)) (old kept : Kept) (there : slice_get (values_of es) place ≡ Some old)
    (z : Store) (view : map item_of es ≡ z) (id : Id) (is : id_of k ≡ id) where
  pub found_here : found z id ≡ Some (thing_of old)
  found_here = sym (ap (λ w. found w id) view) ∙ sym (ap (found (map item_of es)) is) ∙ found_at k es place (sym at) old there

  pub changed_here : map item_of (set_value_at es place kept) ≡ with_thing z id (thing_of kept)
  changed_here = changed_at k es place (sym at) old kept there ∙ ap (λ i. with_thing (map item_of es) i (thing_of kept)) is ∙ ap (λ w. with_thing w id (thing_of kept)) view

pub missing_here : (k : Key) (es : List (Key × Kept)) → None ≡ position (key_eq k) (keys_of es) → (z : Store) → map item_of es ≡ z → (id : Id) → id_of k ≡ id → found z id ≡ None
missing_here k es none z view id is = sym (ap (λ w. found w id) view) ∙ sym (ap (found (map item_of es)) is) ∙ missing k es (sym none)

pub added_here : (k : Key) (kept : Kept) (es : List (Key × Kept)) (z : Store) → map item_of es ≡ z → (id : Id) → id_of k ≡ id → is_there z id ≡ false
    → map item_of (insert_entry key_eq es k kept) ≡ z ++ record { id = id; thing = thing_of kept } ∷ []
added_here k kept es z view id is new =
    let new_key : is_there (map item_of es) (id_of k) ≡ false = ap (is_there (map item_of es)) is ∙ ap (λ w. is_there w id) view ∙ new in
    added k kept es new_key ∙ ap (λ i. map item_of es ++ record { id = i; thing = thing_of kept } ∷ []) is ∙ ap (λ w. w ++ record { id = id; thing = thing_of kept } ∷ []) view

-- ---- the thing at a place is altered

module _ (f : Thing → Thing) where
  pub altered_set : (es : List (Key × Kept)) (place : ℕ) (old kept : Kept) → slice_get (values_of es) place ≡ Some old → thing_of kept ≡ f (thing_of old)
      → map item_of (set_value_at es place kept) ≡ altered f (map item_of es) place
  altered_set [] place old kept at is = absurd (cc)
  altered_set (e ∷ es) zero old kept at is =
      ap (λ thing. record { id = id_of e.0; thing = thing } ∷ map item_of es) (is ∙ ap (λ (one : Kept). f (thing_of one)) (sym (same_Some e.1 old at)))
  altered_set (e ∷ es) (suc place) old kept at is = ap (λ l. item_of e ∷ l) (altered_set es place old kept at is)

  pub altered_past : (z : Store) (place : ℕ) → length z ≤ place → altered f z place ≡ z
  altered_past [] place le = refl
  altered_past (x ∷ xs) zero le = absurd (omega (arith, le))
  altered_past (x ∷ xs) (suc place) le = ap (λ l. x ∷ l) (altered_past xs place (omega (arith, le)))

pub as_many : (es : List (Key × Kept)) (z : Store) → map item_of es ≡ z → length es ≡ length z
as_many es z view = sym (length-map es item_of) ∙ ap length view
