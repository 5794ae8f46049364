-- Objects over a shape store, and what stands at their places.
use Rattle.std.proofs.Common.{◌≡◌, ℕ, ◌<◌, ◌==◌, true, false, cond, List, [], ◌∷◌, ◌++◌, map, length, get_or, set, Option, Some, None, inl, inr, refl, ap, sym, ◌∙◌, arith, Contains}
use Rattle.std.specs.Prelude.{Result, Ok, Err, OnOk, OnErr}
use Rattle.std.specs.Option.{option_map}
use Rattle.std.proofs.lemmas.List.{get_or_default, get_or_append_left, get_or_push, get_or-set_same, get_or-set_other}
use Rattle.std.proofs.lemmas.Bool.{eq-eqb}
use Rattle.std.proofs.lemmas.Bool.Decides.{eqb_tells}
use Rattle.rb_tree.specs.declared.span.NameId.{NameId}
use Rattle.rb_model.specs.Values.{Value as Val, Nil, plain}
use Rattle.rb_model.specs.Things.{Field, is_integer, field}
use Rattle.rb_model.specs.declared.value.Value.{Value as Held}
use Rattle.rb_model.specs.declared.value.Value.TheVariants as held
use Rattle.shape_core.specs.declared.edge.Kind.{Kind}
use Rattle.shape_core.specs.declared.facts.Place.{Place}
use Rattle.shape_core.specs.declared.facts.ShapeId.{ShapeId}
use Rattle.shape_core.specs.Path.{Path, IsPath, find_on}
use Rattle.shape_core.specs.Shape.{Shape, shape_at, root_of}
use Rattle.shape_core.proofs.Paths.{Found}
use Rattle.local_heap.specs.declared.object.Object.{Object}
use Rattle.local_heap.specs.Memory.{wide_on}
use Rattle.local_heap.specs.Slots.{Home, Standing, Puts, slot_at, whole_at}
use Rattle.local_heap.specs.Fields.{fields_of, field_of, field_found, is_any, value_by, wide_in}
use Rattle.local_heap.proofs.Named.{reads, reads_nil, wide_nowhere, wide_there}
use Rattle.local_heap.proofs.Laid.{named}

-- what reads of a name
pub read_nil : (home : Home) (path : Path) (slots : ℕ → Standing) (name : NameId) → IsPath path → find_on path name ≡ None → field name (fields_of home path slots) ≡ Nil
read_nil home path slots name valid none = reads_nil (field_of home path slots) (named home path slots) path name valid none

pub read_slot : (home : Home) (path : Path) (slots : ℕ → Standing) (name : NameId) (place : Place) (kind : Kind) → IsPath path
    → find_on path name ≡ Some (place, kind) → field name (fields_of home path slots) ≡ value_by home kind (slots place.0)
read_slot home path slots name place kind valid there =
    reads (field_of home path slots) (named home path slots) path name (place, kind) valid there
    ∙ ap (λ (f : Field). f.value) (ap (field_found home slots name) there)

-- whether the field of a name is wide
pub wide_is : (home : Home) (path : Path) (slots : ℕ → Standing) (name : NameId) → IsPath path → wide_on name (fields_of home path slots) ≡ wide_in path name
wide_is home path slots name valid = by (find_on path name) refl
  where
    by : (o : Option Found) → find_on path name ≡ o → wide_on name (fields_of home path slots) ≡ wide_in path name
    by None e =
        wide_nowhere (field_of home path slots) (named home path slots) path name valid e
        ∙ ap (λ (o : Option Found). option_map is_any (option_map (λ (f : Found). f.1) o)) (sym e)
    by (Some found) e =
        wide_there (field_of home path slots) (named home path slots) path name found valid e
        ∙ ap (λ (f : Field). Some f.wide) (ap (field_found home slots name) e)
        ∙ ap (λ (o : Option Found). option_map is_any (option_map (λ (f : Found). f.1) o)) (sym e)

pub wide_found : (path : Path) (name : NameId) (place : Place) (kind : Kind) → find_on path name ≡ Some (place, kind) → wide_in path name ≡ Some (is_any kind)
wide_found path name place kind e = ap (λ (o : Option Found). option_map is_any (option_map (λ (f : Found). f.1) o)) e

pub wide_absent : (path : Path) (name : NameId) → find_on path name ≡ None → wide_in path name ≡ None
wide_absent path name e = ap (λ (o : Option Found). option_map is_any (option_map (λ (f : Found). f.1) o)) e

-- a shape of a store is in it
pub stands_in : (shapes : List Shape) (id : ShapeId) → id.0 < length shapes → Contains shapes (shape_at shapes id)
stands_in shapes id known = (id.0, known, get_or_default shapes id.0 (shape_at shapes id) (root_of 0) known)

-- what a call that may fail leaves is the one or the other
pub always_err : {T E P : Type 0} (r : Result T E) → P → OnErr r P
always_err (Ok x) p = tt
always_err (Err e) p = p

pub always_ok : {T E P : Type 0} (r : Result T E) → P → OnOk r P
always_ok (Ok x) p = p
always_ok (Err e) p = tt

-- a value that is no integer
pub is_other : (value : Held) → ((n : _) → value ≡ held.Int n → ⊥) → is_integer (plain value) ≡ false
is_other held.Nil e = refl
is_other held.False e = refl
is_other held.True e = refl
is_other (held.Int n) e = absurd (e n refl)
is_other (held.Sym s) e = refl
is_other (held.Str t) e = refl
is_other (held.Ref r) e = refl

-- ---- slots

module _ (o o' : Object) (word : ℕ) (whole : Val) where
  -- one more word
  pub grown_older : o'.words.items ≡ o.words.items ++ word ∷ [] → Puts (map plain o.whole.items) (length o.words.items) whole (map plain o'.whole.items)
      → (p : ℕ) → p < length o.words.items → slot_at o' p ≡ slot_at o p
  grown_older words row p h =
      let w : get_or o'.words.items p 0 ≡ get_or o.words.items p 0
      = ap (λ (ws : List ℕ). get_or ws p 0) words ∙ get_or_append_left o.words.items (word ∷ []) 0 p h in
      let no : (p == length o.words.items) ≡ false = elim (eqb_tells p (length o.words.items)) [ inl t ↦ absurd (omega (arith, h, t.1)) | inr t ↦ t.0 ] in
      let v : whole_at (map plain o'.whole.items) p ≡ whole_at (map plain o.whole.items) p
      = row p ∙ ap (λ b. cond b whole (whole_at (map plain o.whole.items) p)) no in
      cc

  pub grown_newest : o'.words.items ≡ o.words.items ++ word ∷ [] → Puts (map plain o.whole.items) (length o.words.items) whole (map plain o'.whole.items)
      → slot_at o' (length o.words.items) ≡ record { word = word; whole = whole }
  grown_newest words row =
      let w : get_or o'.words.items (length o.words.items) 0 ≡ word
      = ap (λ (ws : List ℕ). get_or ws (length o.words.items) 0) words ∙ get_or_push o.words.items word 0 (length o.words.items) refl in
      let v : whole_at (map plain o'.whole.items) (length o.words.items) ≡ whole
      = row (length o.words.items)
      ∙ ap (λ b. cond b whole (whole_at (map plain o.whole.items) (length o.words.items))) (eq-eqb (length o.words.items) (length o.words.items) refl) in
      cc

  module _ (place : ℕ) (words : o'.words.items ≡ set o.words.items place word) where
    -- another word, and another value beside it
    pub put_others : Puts (map plain o.whole.items) place whole (map plain o'.whole.items) → (p : ℕ) → (p == place) ≡ false → slot_at o' p ≡ slot_at o p
    put_others row p differs =
        let w : get_or o'.words.items p 0 ≡ get_or o.words.items p 0
        = ap (λ (ws : List ℕ). get_or ws p 0) words
        ∙ get_or-set_other o.words.items place p word 0 (λ e. let yes : (p == place) ≡ true = eq-eqb p place e in absurd (cc)) in
        let v : whole_at (map plain o'.whole.items) p ≡ whole_at (map plain o.whole.items) p
        = row p ∙ ap (λ b. cond b whole (whole_at (map plain o.whole.items) p)) differs in
        cc

    pub put_here : Puts (map plain o.whole.items) place whole (map plain o'.whole.items) → place < length o.words.items
        → slot_at o' place ≡ record { word = word; whole = whole }
    put_here row h =
        let w : get_or o'.words.items place 0 ≡ word
        = ap (λ (ws : List ℕ). get_or ws place 0) words ∙ get_or-set_same o.words.items place word 0 h in
        let v : whole_at (map plain o'.whole.items) place ≡ whole
        = row place ∙ ap (λ b. cond b whole (whole_at (map plain o.whole.items) place)) (eq-eqb place place refl) in
        cc
