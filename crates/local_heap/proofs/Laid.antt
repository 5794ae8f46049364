-- What stands at the places of an object, before and behind a write.
use Rattle.std.proofs.Common.{◌≡◌, ℕ, ◌<◌, ◌==◌, Bool, true, false, cond, ◌∷◌, Option, Some, None, inl, inr, refl, ap, sym, ◌∙◌, subst}
use Rattle.std.specs.Prelude.{◌||◌, not}
use Rattle.std.proofs.lemmas.Bool.Decides.{eqb_tells}
use Rattle.std.proofs.lemmas.Option.{some_pair_parts}
use Rattle.rb_tree.specs.declared.span.NameId.{NameId}
use Rattle.rb_model.specs.Values.{Value as Val}
use Rattle.rb_model.specs.Things.{is_integer}
use Rattle.shape_core.specs.declared.edge.Kind.{Kind}
use Rattle.shape_core.specs.declared.edge.Kind.TheVariants.{IntLoc, AnyLoc}
use Rattle.shape_core.specs.declared.edge.Edge.TheVariants.{Add, Widen}
use Rattle.shape_core.specs.declared.facts.Place.{Place}
use Rattle.shape_core.specs.Path.{Path, IsPath, find_on, next_place, places_of}
use Rattle.shape_core.proofs.Paths.{Found, found_cases, same_name, own_name}
use Rattle.shape_core.proofs.Places.{below, apart}
use Rattle.local_heap.specs.Slots.{Home, Standing, IsWord}
use Rattle.local_heap.specs.Fields.{AreWords, Wrote, field_of, field_found, value_by, is_any}
use Rattle.local_heap.proofs.Named.{writes_behind, writes_there, written_on, fresh_field}

pub named : (home : Home) (path : Path) (slots : ℕ → Standing) (m : NameId) → (field_of home path slots m).name ≡ m
named home path slots m = by (find_on path m)
  where
    by : (o : Option Found) → (field_found home slots m o).name ≡ m
    by None = refl
    by (Some found) = refl

-- a field stays where its name stands at the same place, and the same stands there
pub field_stays : (home : Home) (path path' : Path) (slots slots' : ℕ → Standing) (m : NameId) → find_on path' m ≡ find_on path m
    → ((place : Place) (kind : Kind) → find_on path m ≡ Some (place, kind) → slots' place.0 ≡ slots place.0)
    → field_of home path' slots' m ≡ field_of home path slots m
field_stays home path path' slots slots' m found agree = ap (field_found home slots' m) found ∙ by (find_on path m) refl
  where
    by : (o : Option Found) → find_on path m ≡ o → field_found home slots' m o ≡ field_found home slots m o
    by None e = refl
    by (Some found) e = ap (λ s. record { name = m; value = value_by home found.1 s; wide = is_any found.1 }) (agree found.0 found.1 e)

-- what is found of a name that an edge does not give a place
passed : (path : Path) (name m : NameId) (found : Found) → (m.0 == name.0) ≡ false → cond (name.0 == m.0) (Some found) (find_on path m) ≡ find_on path m
passed path name m found e = by (name.0 == m.0) refl
  where
    by : (b : Bool) → (name.0 == m.0) ≡ b → cond b (Some found) (find_on path m) ≡ find_on path m
    by true t =
        let one : m ≡ name = sym (same_name name m t) in
        let own : (m.0 == name.0) ≡ true = ap (λ (n : NameId). m.0 == n.0) (sym one) ∙ own_name m in
        absurd (cc)
    by false t = refl

-- what is found of the name that it gives one
given : (path : Path) (name : NameId) (kind : Kind) → cond (name.0 == name.0) (Some (next_place path, kind)) (find_on path name) ≡ Some (next_place path, kind)
given path name kind = ap (λ b. cond b (Some (next_place path, kind)) (find_on path name)) (own_name name)

-- names at one place are one
one_name : (path : Path) (name m : NameId) (place p : Place) (kind k : Kind) → find_on path name ≡ Some (place, kind) → find_on path m ≡ Some (p, k)
    → p.0 ≡ place.0 → m ≡ name
one_name path name m place p kind k there at e =
    let same : p ≡ place = let by : ℕ → Place = λ n. record { 0 = n } in ap by e in
    apart path m name place k kind (at ∙ ap (λ (q : Place). Some (q, k)) same) there

-- ---- one more place

module _ (home : Home) (path : Path) (slots slots' : ℕ → Standing) (valid : IsPath path) (sound : AreWords home path slots)
    (stay : (p : ℕ) → p < places_of path → slots' p ≡ slots p) where
  -- older places have what they had
  older : (place : Place) (kind : Kind) (m : NameId) → find_on path m ≡ Some (place, kind) → slots' place.0 ≡ slots place.0
  older place kind m e = stay place.0 (below path m place kind e)

  -- each place for any value has a word of the heap, behind an edge that gives a place too
  sound_behind : (name : NameId) (kind : Kind) → (kind ≡ AnyLoc → IsWord home (slots' (places_of path))) → (m : NameId) (place : Place)
      → cond (name.0 == m.0) (Some (next_place path, kind)) (find_on path m) ≡ Some (place, AnyLoc) → IsWord home (slots' place.0)
  sound_behind name kind new m place e =
      elim (found_cases (name.0 == m.0) (places_of path) kind (find_on path m) (place, AnyLoc) e) [
        | inl w ↦ subst (λ n. IsWord home (slots' n)) w.1 (new w.2)
        | inr w ↦ subst (IsWord home) (sym (older place AnyLoc m w.1)) (sound m place w.1)
      ]

  given_field : (name : NameId) (kind : Kind) (v : Val) → value_by home kind (slots' (places_of path)) ≡ v
      → field_found home slots' name (Some (next_place path, kind)) ≡ record { name = name; value = v; wide = is_any kind }
  given_field name kind v means = ap (λ x. record { name = name; value = x; wide = is_any kind }) means

  -- a name is added
  pub adds : (name : NameId) (kind : Kind) (v : Val) → find_on path name ≡ None → value_by home kind (slots' (places_of path)) ≡ v → is_any kind ≡ not (is_integer v)
      → (kind ≡ AnyLoc → IsWord home (slots' (places_of path))) → Wrote home path slots name v (Add name kind ∷ path) slots'
  adds name kind v none means wide new =
      let f = field_of home path slots in
      let f' = field_of home (Add name kind ∷ path) slots' in
      let own : f' name ≡ fresh_field name v
      = ap (field_found home slots' name) (given path name kind)
      ∙ given_field name kind v means
      ∙ ap (λ b. record { name = name; value = v; wide = b }) wide in
      record {
        sound = sound_behind name kind new;
        fields = writes_behind f f' name v (named home path slots)
            (λ m e. field_stays home path (Add name kind ∷ path) slots slots' m (passed path name m (next_place path, kind) e) (λ place k at. older place k m at))
            path valid none own;
      }

  -- a name is widened
  pub widens : (name : NameId) (place : Place) (v : Val) → find_on path name ≡ Some (place, IntLoc) → value_by home AnyLoc (slots' (places_of path)) ≡ v
      → is_integer v ≡ false → IsWord home (slots' (places_of path)) → Wrote home path slots name v (Widen name ∷ path) slots'
  widens name place v there means other new =
      let f = field_of home path slots in
      let f' = field_of home (Widen name ∷ path) slots' in
      let old : f name ≡ record { name = name; value = value_by home IntLoc (slots place.0); wide = false } = ap (field_found home slots name) there in
      let own : f' name ≡ written_on v (f name)
      = ap (field_found home slots' name) (given path name AnyLoc)
      ∙ given_field name AnyLoc v means
      ∙ ap (λ b. record { name = name; value = v; wide = not b }) (sym other)
      ∙ ap (written_on v) (sym old) in
      record {
        sound = sound_behind name AnyLoc (λ e. new);
        fields = writes_there f f' name v (named home path slots)
            (λ m e. field_stays home path (Widen name ∷ path) slots slots' m (passed path name m (next_place path, AnyLoc) e) (λ p k at. older p k m at))
            path (place, IntLoc) valid there own;
      }

-- ---- a value at the place of its name

module _ (home : Home) (path : Path) (slots slots' : ℕ → Standing) (valid : IsPath path) (sound : AreWords home path slots)
    (name : NameId) (place : Place) (kind : Kind) (there : find_on path name ≡ Some (place, kind)) (stay : (p : ℕ) → (p == place.0) ≡ false → slots' p ≡ slots p) where
  -- another name keeps what stands at its place
  others_stay : (m : NameId) → (m.0 == name.0) ≡ false → (p : Place) (k : Kind) → find_on path m ≡ Some (p, k) → slots' p.0 ≡ slots p.0
  others_stay m e p k at =
      elim (eqb_tells p.0 place.0) [
        | inl w ↦ let own : (m.0 == name.0) ≡ true = ap (λ (n : NameId). m.0 == n.0) (sym (one_name path name m place p kind k there at w.1)) ∙ own_name m in absurd (cc)
        | inr w ↦ stay p.0 w.0
      ]

  put_sound : (kind ≡ AnyLoc → IsWord home (slots' place.0)) → AreWords home path slots'
  put_sound new m p at =
      elim (eqb_tells p.0 place.0) [
        | inl w ↦
            let one : m ≡ name = one_name path name m place p kind AnyLoc there at w.1 in
            let both : find_on path name ≡ Some (p, AnyLoc) = ap (find_on path) (sym one) ∙ at in
            let any : ◌≡◌ {A = Option Found} (Some (place, kind)) (Some (p, AnyLoc)) = sym there ∙ both in
            subst (λ n. IsWord home (slots' n)) (sym w.1) (new (some_pair_parts place p kind AnyLoc any).1)
        | inr w ↦ subst (IsWord home) (sym (stay p.0 w.0)) (sound m p at)
      ]

  pub puts : (v : Val) → value_by home kind (slots' place.0) ≡ v → is_any kind ≡ (is_any kind || not (is_integer v)) → (kind ≡ AnyLoc → IsWord home (slots' place.0))
      → Wrote home path slots name v path slots'
  puts v means wide new =
      let f = field_of home path slots in
      let f' = field_of home path slots' in
      let old : f name ≡ record { name = name; value = value_by home kind (slots place.0); wide = is_any kind } = ap (field_found home slots name) there in
      let own : f' name ≡ written_on v (f name)
      = ap (field_found home slots' name) there
      ∙ ap (λ x. record { name = name; value = x; wide = is_any kind }) means
      ∙ ap (λ b. record { name = name; value = v; wide = b }) wide
      ∙ ap (written_on v) (sym old) in
      record {
        sound = put_sound new;
        fields = writes_there f f' name v (named home path slots) (λ m e. field_stays home path path slots slots' m refl (others_stay m e)) path (place, kind) valid there own;
      }
