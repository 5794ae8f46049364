-- References looked up by their keys are those of the list, and what is noted comes of what is told.
use Rattle.std.proofs.Common.{◌≡◌, inl, inr, ℕ, Bool, true, false, List, [], ◌∷◌, ◌++◌, map, Option, Some, None, refl, sym, ap, subst, ◌∙◌, Bor}
use Rattle.std.proofs.lemmas.Bool.{eq-eqb, ne_eqb}
use Rattle.std.proofs.lemmas.Bool.Decides.{eqb_tells}
use Rattle.std.specs.Prelude.{◌==◌, ◌&&◌, ◌⊎◌, Result, Ok, Err, IsOk, OnOk}
use Rattle.std.specs.Option.{option_and_then, option_map, option_copied, option_to_list}
use Rattle.std.specs.Map.{lookup}
use Rattle.std.proofs.lemmas.List.{map-append}
use Rattle.indexmap.specs.IndexMap.{insert_entry}
use Rattle.indexmap.proofs.MapLemmas.{absent_from_lookup, insert_entry-absent}
use Rattle.rb_model.specs.declared.value.Id.{Id}
use Rattle.rb_model.specs.declared.value.Ref.{Ref}
use Rattle.rb_model.specs.Values.{same_id}
use Rattle.rb_shared.specs.Lists.{Each, Has}
use Rattle.rb_shared.specs.View.{to_globals}
use Rattle.rb_shared.proofs.Runs.{each_append, has_behind, has_front, same_is}
use Rattle.publish_barrier.specs.declared.known.Key.{Key}
use Rattle.publish_barrier.specs.declared.known.Place.{Place}
use Rattle.publish_barrier.specs.contracts.known.KeyPartialEq.TheImpl.{eq-value}
use Rattle.publish_barrier.specs.Known.{ref_of_row, noted, with_noted, with_all_noted, NotesOf}
use Rattle.publish_barrier.specs.Sorts.{all_noted_same, if_same_sort, noted_same, same_sort}

has_cases : {X : Type 0} (xs ys : List X) (x : X) → Has (xs ++ ys) x → Has xs x ⊎ Has ys x
has_cases [] ys x h = inr h
has_cases (z ∷ xs) ys x (inl e) = inl (inl e)
has_cases (z ∷ xs) ys x (inr h) = elim (has_cases xs ys x h) [ inl k ↦ inl (inr k) | inr k ↦ inr k ]

-- the derived `==` of keys
abbrev pub key_eq : Key → Key → Bool
key_eq = eq-value.it

abbrev pub id_of : Key → Id
id_of key = record { thread = key.thread; serial = key.serial }

swapped : (a b : ℕ) → (a == b) ≡ (b == a)
swapped a b = elim (eqb_tells a b) [
  | inl h ↦ h.0 ∙ sym (eq-eqb b a (sym h.1))
  | inr h ↦ h.0 ∙ sym (ne_eqb b a (λ e. h.1 (sym e)))
]

same_key : (k x : Key) → key_eq k x ≡ same_id (id_of x) (id_of k)
same_key k x = ap (λ b. b && k.serial == x.serial) (swapped k.thread x.thread) ∙ ap (λ b. x.thread == k.thread && b) (swapped k.serial x.serial)

-- a place under an id
abbrev pub placed_as : Id → Place → Ref
placed_as id p = record { sort = p.sort; id = id; at = p.at }

-- what is found under a key
pub noted_is : (k : Key) (es : List (Key × Place)) → noted (map ref_of_row es) (id_of k) ≡ option_map (placed_as (id_of k)) (lookup (key_eq k) es)
noted_is k [] = refl
noted_is k (e ∷ es) = (elim (key_eq k e.0) as (λ b. key_eq k e.0 ≡ b → noted (map ref_of_row (e ∷ es)) (id_of k) ≡ option_map (placed_as (id_of k)) (lookup (key_eq k) (e ∷ es))) [
  | true ↦ λ q. (let s = sym (same_key k e.0) ∙ q in let is = same_is (id_of e.0) (id_of k) s in rw (q, s) (ap (λ i. Some (placed_as i e.1)) is))
  | false ↦ λ q. rw (q, (sym (same_key k e.0) ∙ q)) (noted_is k es)
]) refl

pub copied : (f : Place → Ref) (r : Option (Bor Place)) → option_map (λ (p : Bor Place). f p.now) r ≡ option_map f (option_copied r)
copied f None = refl
copied f (Some p) = refl

lost : (f : Place → Ref) (o : Option Place) → option_map f o ≡ None → o ≡ None
lost f None e = refl
lost f (Some p) e = absurd (cc)

-- one whose id is new comes last
pub added : (k : Key) (p : Place) (es : List (Key × Place)) → noted (map ref_of_row es) (id_of k) ≡ None
    → map ref_of_row (insert_entry key_eq es k p) ≡ map ref_of_row es ++ ref_of_row (k, p) ∷ []
added k p es new =
    let none = lost (placed_as (id_of k)) (lookup (key_eq k) es) (sym (noted_is k es) ∙ new) in
    ap (map ref_of_row) (insert_entry-absent key_eq k p es (absent_from_lookup (key_eq k) es none)) ∙ map-append ref_of_row es ((k, p) ∷ [])

-- what a call that succeeds leaves
pub done : {T E P : Type 0} (r : Result T E) → IsOk r → OnOk r P → P
done (Ok x) is p = p
done (Err e) is p = absurd (cc)

-- none behind the global variables
pub behind_globals : (rs : List Ref) (id : Id) → same_id to_globals.id id ≡ false → noted (to_globals ∷ rs) id ≡ noted rs id
behind_globals rs id e = rw e refl

pub none_behind : (rs : List Ref) (id : Id) → noted (to_globals ∷ rs) id ≡ None → noted rs id ≡ None
none_behind rs id e = by (same_id to_globals.id id) refl where
  by : (b : Bool) → same_id to_globals.id id ≡ b → noted rs id ≡ None
  by true q = absurd (let c : Some to_globals ≡ None = sym (rw q refl) ∙ e in cc)
  by false q = sym (behind_globals rs id q) ∙ e

-- ---- of each that is noted it is said where it came from

pub notes_none : (rs : List Ref) (refs : List Ref) → NotesOf rs refs rs
notes_none rs refs r h = inl h

notes_by : (rs : List Ref) (r : Ref) (o : Option Ref) → NotesOf rs (r ∷ []) (with_noted rs r o)
notes_by rs r None x h = has_cases rs (r ∷ []) x h
notes_by rs r (Some old) x h = inl h

pub notes_one : (old new : List Ref) (r : Ref) → new ≡ with_noted old r (noted old r.id) → NotesOf old (r ∷ []) new
notes_one old new r e = subst (NotesOf old (r ∷ [])) (sym e) (notes_by old r (noted old r.id))

pub notes_on : (a b c rs ss : List Ref) → NotesOf a rs b → NotesOf b ss c → NotesOf a (rs ++ ss) c
notes_on a b c rs ss f g x h = elim (g x h) [
  | inl i ↦ elim (f x i) [ inl o ↦ inl o | inr o ↦ inr (has_front rs ss x o) ]
  | inr i ↦ inr (has_behind rs ss x i)
]

pub notes_same : (a b rs : List Ref) → b ≡ a → NotesOf a rs b
notes_same a b rs e = subst (NotesOf a rs) (sym e) (notes_none a rs)

all_append : (rs xs ys : List Ref) → with_all_noted rs (xs ++ ys) ≡ with_all_noted (with_all_noted rs xs) ys
all_append rs [] ys = refl
all_append rs (x ∷ xs) ys = all_append (with_noted rs x (noted rs x.id)) xs ys

all_come : (rs xs : List Ref) → NotesOf rs xs (with_all_noted rs xs)
all_come rs [] = notes_none rs []
all_come rs (x ∷ xs) =
    notes_on rs (with_noted rs x (noted rs x.id)) (with_all_noted (with_noted rs x (noted rs x.id)) xs) (x ∷ []) xs (notes_by rs x (noted rs x.id))
    (all_come (with_noted rs x (noted rs x.id)) xs)

-- where all are noted, these came
pub all_noted : (old new xs : List Ref) → new ≡ with_all_noted old xs → NotesOf old xs new
all_noted old new xs e = subst (NotesOf old xs) (sym e) (all_come old xs)

pub all_on : (a b c xs ys : List Ref) → b ≡ with_all_noted a xs → c ≡ with_all_noted b ys → c ≡ with_all_noted a (xs ++ ys)
all_on a b c xs ys e f = f ∙ (ap (λ rs. with_all_noted rs ys) e ∙ sym (all_append a xs ys))

-- ---- what is looked up

some_is : {X : Type 0} (a b : X) → Some a ≡ Some b → a ≡ b
some_is a b e = cc

pub finds_globals : (rs all : List Ref) (id : Id) (g : Ref) → to_globals ∷ rs ≡ all → same_id to_globals.id id ≡ true → g ≡ to_globals → Some g ≡ noted all id
finds_globals rs all id g v s e = subst (λ a. Some g ≡ noted a id) v (rw s (ap Some e))

module _ (k : Key) (es : List (Key × Place)) (all : List Ref) (id : Id) (v : to_globals ∷ map ref_of_row es ≡ all) (is : id_of k ≡ id) where
  found_by : same_id to_globals.id id ≡ false → noted all id ≡ option_map (placed_as id) (lookup (key_eq k) es)
  found_by s =
      sym (ap (λ a. noted a id) v) ∙ behind_globals (map ref_of_row es) id s
      ∙ subst (λ i. noted (map ref_of_row es) i ≡ option_map (placed_as i) (lookup (key_eq k) es)) is (noted_is k es)

  pub finds_some : (r : Option (Bor Place)) (p : Bor Place) → same_id to_globals.id id ≡ false → option_copied r ≡ lookup (key_eq k) es → r ≡ Some p
      → Some (placed_as id p.now) ≡ noted all id
  finds_some r p s e q = sym (found_by s ∙ ap (option_map (placed_as id)) (sym e ∙ ap option_copied q))

  pub finds_none : (r : Option (Bor Place)) → same_id to_globals.id id ≡ false → option_copied r ≡ lookup (key_eq k) es → r ≡ None → None ≡ noted all id
  finds_none r s e q = sym (found_by s ∙ ap (option_map (placed_as id)) (sym e ∙ ap option_copied q))

  pub adds : (thing : Ref) (p : Place) (o : Option Ref) → o ≡ noted all id → ((x : Ref) → o ≡ Some x → ⊥) → ref_of_row (k, p) ≡ thing → thing.id ≡ id
      → to_globals ∷ map ref_of_row (insert_entry key_eq es k p) ≡ with_noted all thing (noted all thing.id)
  adds thing p o e never r i =
      let none : noted all id ≡ None = sym e ∙ is_none o never in
      let here : noted (map ref_of_row es) (id_of k) ≡ None = none_behind (map ref_of_row es) (id_of k) (ap (λ a. noted a (id_of k)) v ∙ (ap (noted all) is ∙ none)) in
      let new : noted all thing.id ≡ None = ap (noted all) i ∙ none in
      ap (λ l. to_globals ∷ l) (added k p es here) ∙ (ap (λ x. to_globals ∷ (map ref_of_row es ++ x ∷ [])) r ∙ (ap (λ l. l ++ thing ∷ []) v ∙ sym (ap (with_noted all thing) new)))
    where
      is_none : (o : Option Ref) → ((x : Ref) → o ≡ Some x → ⊥) → o ≡ None
      is_none None f = refl
      is_none (Some x) f = absurd (f x refl)

-- what is found is there, under its id
pub noted_there : (rs : List Ref) (id : Id) (r : Ref) → noted rs id ≡ Some r → (r.id ≡ id) × Has rs r
noted_there [] id r e = absurd (cc)
noted_there (x ∷ rs) id r e = by (same_id x.id id) refl (λ f. noted_there rs id r f) where
  by : (b : Bool) → same_id x.id id ≡ b → (noted rs id ≡ Some r → (r.id ≡ id) × Has rs r) → (r.id ≡ id) × Has (x ∷ rs) r
  by true q more =
      let same : x ≡ r = some_is x r (sym (rw q refl) ∙ e) in
      (ap (λ (o : Ref). o.id) (sym same) ∙ same_is x.id id q, inl (sym same))
  by false q more = let rest = more (sym (rw q refl) ∙ e) in (rest.0, inr rest.1)

-- the noted one to the same thing is there
pub same_noted_there : (rs : List Ref) (thing x : Ref) → noted_same rs thing ≡ Some x → Has rs x
same_noted_there rs thing x e = by (noted rs thing.id) refl e where
  by : (o : Option Ref) → noted rs thing.id ≡ o → option_and_then (if_same_sort thing) o ≡ Some x → Has rs x
  by None n q = absurd (cc)
  by (Some f) n q = fits (same_sort f.sort thing.sort) refl where
    fits : (b : Bool) → same_sort f.sort thing.sort ≡ b → Has rs x
    fits true s = subst (Has rs) (some_is f x (sym (rw s refl) ∙ q)) (noted_there rs thing.id f n).1
    fits false s = absurd (let none : None ≡ Some x = sym (rw s refl) ∙ q in cc)

-- what is looked up is so, whatever sort it has
pub same_found : (rs : List Ref) (thing f : Ref) → noted rs thing.id ≡ Some f → same_sort f.sort thing.sort ≡ true → Some f ≡ noted_same rs thing
same_found rs thing f n s = sym (ap (option_and_then (if_same_sort thing)) n ∙ rw s refl)

pub same_lost : (rs : List Ref) (thing f : Ref) → noted rs thing.id ≡ Some f → same_sort f.sort thing.sort ≡ false → None ≡ noted_same rs thing
same_lost rs thing f n s = sym (ap (option_and_then (if_same_sort thing)) n ∙ rw s refl)

pub same_none : (rs : List Ref) (thing : Ref) → noted rs thing.id ≡ None → None ≡ noted_same rs thing
same_none rs thing n = sym (ap (option_and_then (if_same_sort thing)) n)

pub all_same_there : (rs things : List Ref) → Each (Has rs) (all_noted_same rs things)
all_same_there rs [] = tt
all_same_there rs (t ∷ ts) = each_append (Has rs) (option_to_list (noted_same rs t)) (all_noted_same rs ts) (one (noted_same rs t) refl) (all_same_there rs ts) where
  one : (o : Option Ref) → noted_same rs t ≡ o → Each (Has rs) (option_to_list o)
  one None e = tt
  one (Some x) e = (same_noted_there rs t x e, tt)
