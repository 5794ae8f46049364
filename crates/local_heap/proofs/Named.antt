-- The fields of a path by their names, whatever each of them is.
use Rattle.std.proofs.Common.{◌≡◌, ◌==◌, Bool, true, false, cond, List, [], ◌∷◌, ◌++◌, map, Option, Some, None, refl, ap, sym, ◌∙◌, subst, arith}
use Rattle.std.specs.Prelude.{◌||◌, not, is_some}
use Rattle.std.specs.Option.{option_map}
use Rattle.std.proofs.lemmas.Bool.Decides.{nat_tests}
use Rattle.std.proofs.lemmas.List.{append-nil, map-append}
use Rattle.rb_tree.specs.declared.span.NameId.{NameId}
use Rattle.rb_model.specs.Values.{Value as Val, Nil}
use Rattle.rb_model.specs.Things.{Field, field, with_field, is_integer}
use Rattle.shape_core.specs.declared.edge.Kind.{Kind}
use Rattle.shape_core.specs.declared.edge.Kind.TheVariants.{IntLoc, AnyLoc}
use Rattle.shape_core.specs.declared.edge.Edge.TheVariants.{Add, Widen, Share}
use Rattle.shape_core.specs.Path.{Path, IsPath, find_on, next_place, names_on}
use Rattle.shape_core.proofs.Paths.{Found, same_name}
use Rattle.local_heap.specs.Memory.{wide_on}
use Rattle.local_heap.specs.Agreement.{AreNamesOnce, has_name as has}

-- ---- lists of fields

has-append : (name : NameId) (xs : List Field) (y : Field) → has name (xs ++ y ∷ []) ≡ cond (has name xs) true (y.name.0 == name.0)
has-append name [] y = by (y.name.0 == name.0)
  where
    by : (b : Bool) → cond b true false ≡ b
    by true = refl
    by false = refl
has-append name (x ∷ xs) y = by (x.name.0 == name.0) (has-append name xs y)
  where
    by : (b : Bool) → has name (xs ++ y ∷ []) ≡ cond (has name xs) true (y.name.0 == name.0)
        → cond b true (has name (xs ++ y ∷ [])) ≡ cond (cond b true (has name xs)) true (y.name.0 == name.0)
    by true e = refl
    by false e = e

no_name : (name : NameId) (x : Field) (xs : List Field) → has name (x ∷ xs) ≡ false → ((x.name.0 == name.0) ≡ false) × (has name xs ≡ false)
no_name name x xs none = by (x.name.0 == name.0) refl none
  where
    by : (b : Bool) → (x.name.0 == name.0) ≡ b → cond b true (has name xs) ≡ false → ((x.name.0 == name.0) ≡ false) × (has name xs ≡ false)
    by true e n = absurd (cc)
    by false e n = (e, n)

-- one name more
once_push : (xs : List Field) (y : Field) → AreNamesOnce xs → has y.name xs ≡ false → AreNamesOnce (xs ++ y ∷ [])
once_push [] y once none = (refl, tt)
once_push (x ∷ xs) y once none =
    let parts = no_name y.name x xs none in
    let apart = parts.0 in
    let other : (y.name.0 == x.name.0) ≡ false = grind (arith, nat_tests) in (
      has-append x.name xs y ∙ ap (λ b. cond b true (y.name.0 == x.name.0)) once.0 ∙ other,
      once_push xs y once.1 parts.1,
    )

-- a write to a name of the front
with_field-front : (name : NameId) (v : Val) (xs : List Field) (y : Field) → has name xs ≡ true
    → with_field name v (xs ++ y ∷ []) ≡ with_field name v xs ++ y ∷ []
with_field-front name v [] y h = absurd (cc)
with_field-front name v (x ∷ xs) y h = by (x.name.0 == name.0) h (with_field-front name v xs y)
  where
    by : (b : Bool) → cond b true (has name xs) ≡ true → (has name xs ≡ true → with_field name v (xs ++ y ∷ []) ≡ with_field name v xs ++ y ∷ [])
        → cond b (record { name = x.name; value = v; wide = x.wide || not (is_integer v) } ∷ (xs ++ y ∷ [])) (x ∷ with_field name v (xs ++ y ∷ []))
        ≡ cond b (record { name = x.name; value = v; wide = x.wide || not (is_integer v) } ∷ xs) (x ∷ with_field name v xs) ++ y ∷ []
    by true e deeper = refl
    by false e deeper = ap (λ fs. x ∷ fs) (deeper e)

-- a write to a name that the front has not
with_field-behind : (name : NameId) (v : Val) (xs ys : List Field) → has name xs ≡ false
    → with_field name v (xs ++ ys) ≡ xs ++ with_field name v ys
with_field-behind name v [] ys h = refl
with_field-behind name v (x ∷ xs) ys h = by (x.name.0 == name.0) h (with_field-behind name v xs ys)
  where
    by : (b : Bool) → cond b true (has name xs) ≡ false → (has name xs ≡ false → with_field name v (xs ++ ys) ≡ xs ++ with_field name v ys)
        → cond b (record { name = x.name; value = v; wide = x.wide || not (is_integer v) } ∷ (xs ++ ys)) (x ∷ with_field name v (xs ++ ys))
        ≡ x ∷ (xs ++ with_field name v ys)
    by true e deeper = absurd (cc)
    by false e deeper = ap (λ fs. x ∷ fs) (deeper e)

-- a name that is not there reads nil
field_none : (name : NameId) (xs : List Field) → has name xs ≡ false → field name xs ≡ Nil
field_none name [] h = refl
field_none name (x ∷ xs) h = by (x.name.0 == name.0) h (field_none name xs)
  where
    by : (b : Bool) → cond b true (has name xs) ≡ false → (has name xs ≡ false → field name xs ≡ Nil) → cond b x.value (field name xs) ≡ Nil
    by true e deeper = absurd (cc)
    by false e deeper = deeper e

some_or : (b : Bool) (found : Found) (rest : Option Found) → is_some (cond b (Some found) rest) ≡ cond b true (is_some rest)
some_or true found rest = refl
some_or false found rest = refl

or_comm : (a b : Bool) → cond a true b ≡ cond b true a
or_comm true true = refl
or_comm true false = refl
or_comm false true = refl
or_comm false false = refl

found_some : (kind : Kind) (found : Option Found) → option_map (λ (f : Found). f.1) found ≡ Some kind → is_some found ≡ true
found_some kind None e = absurd (cc)
found_some kind (Some f) e = refl

-- ---- the fields of names

module _ (f : NameId → Field) (named : (m : NameId) → (f m).name ≡ m) where
  own_test : (m name : NameId) → ((f m).name.0 == name.0) ≡ (m.0 == name.0)
  own_test m name = ap (λ (n : NameId). n.0 == name.0) (named m)

  -- a path has the names that it finds
  pub has_found : (path : Path) (name : NameId) → IsPath path → has name (map f (names_on path)) ≡ is_some (find_on path name)
  has_found [] name valid = refl
  has_found (Add m kind ∷ path) name valid =
      ap (has name) (map-append f (names_on path) (m ∷ []))
      ∙ has-append name (map f (names_on path)) (f m)
      ∙ ap (λ b. cond b true ((f m).name.0 == name.0)) (has_found path name valid.1)
      ∙ ap (λ b. cond (is_some (find_on path name)) true b) (own_test m name)
      ∙ or_comm (is_some (find_on path name)) (m.0 == name.0)
      ∙ sym (some_or (m.0 == name.0) (next_place path, kind) (find_on path name))
  has_found (Widen m ∷ path) name valid = by (m.0 == name.0) refl (has_found path name valid.1)
    where
      by : (b : Bool) → (m.0 == name.0) ≡ b → has name (map f (names_on path)) ≡ is_some (find_on path name)
          → has name (map f (names_on path)) ≡ is_some (cond b (Some (next_place path, AnyLoc)) (find_on path name))
      by true e older = older ∙ subst (λ (n : NameId). is_some (find_on path n) ≡ true) (same_name m name e) (found_some IntLoc (find_on path m) valid.0)
      by false e older = older
  has_found (Share ∷ path) name valid = has_found path name valid.1

  -- each name once
  pub once_found : (path : Path) → IsPath path → AreNamesOnce (map f (names_on path))
  once_found [] valid = tt
  once_found (Add m kind ∷ path) valid =
      subst AreNamesOnce (sym (map-append f (names_on path) (m ∷ [])))
      (once_push (map f (names_on path)) (f m) (once_found path valid.1)
      (ap (λ (n : NameId). has n (map f (names_on path))) (named m) ∙ has_found path m valid.1 ∙ ap is_some valid.0))
  once_found (Widen m ∷ path) valid = once_found path valid.1
  once_found (Share ∷ path) valid = once_found path valid.1

  -- a name that is there reads its field
  field_some : (name : NameId) (ns : List NameId) → has name (map f ns) ≡ true → field name (map f ns) ≡ (f name).value
  field_some name [] h = absurd (cc)
  field_some name (m ∷ ns) h = by ((f m).name.0 == name.0) refl h (field_some name ns)
    where
      by : (b : Bool) → ((f m).name.0 == name.0) ≡ b → cond b true (has name (map f ns)) ≡ true
          → (has name (map f ns) ≡ true → field name (map f ns) ≡ (f name).value) → cond b (f m).value (field name (map f ns)) ≡ (f name).value
      by true e h deeper = ap (λ (n : NameId). (f n).value) (same_name m name (sym (own_test m name) ∙ e))
      by false e h deeper = deeper h

  -- what reads of a name
  pub reads_nil : (path : Path) (name : NameId) → IsPath path → find_on path name ≡ None → field name (map f (names_on path)) ≡ Nil
  reads_nil path name valid none = field_none name (map f (names_on path)) (has_found path name valid ∙ ap is_some none)

  pub reads : (path : Path) (name : NameId) (found : Found) → IsPath path → find_on path name ≡ Some found
      → field name (map f (names_on path)) ≡ (f name).value
  reads path name found valid there = field_some name (names_on path) (has_found path name valid ∙ ap is_some there)

  -- whether the field of a name is wide
  wide_none : (name : NameId) (ns : List NameId) → has name (map f ns) ≡ false → wide_on name (map f ns) ≡ None
  wide_none name [] h = refl
  wide_none name (m ∷ ns) h = by ((f m).name.0 == name.0) h (wide_none name ns)
    where
      by : (b : Bool) → cond b true (has name (map f ns)) ≡ false
          → (has name (map f ns) ≡ false → wide_on name (map f ns) ≡ None) → cond b (Some (f m).wide) (wide_on name (map f ns)) ≡ None
      by true e deeper = absurd (cc)
      by false e deeper = deeper e

  wide_some : (name : NameId) (ns : List NameId) → has name (map f ns) ≡ true → wide_on name (map f ns) ≡ Some (f name).wide
  wide_some name [] h = absurd (cc)
  wide_some name (m ∷ ns) h = by ((f m).name.0 == name.0) refl h (wide_some name ns)
    where
      by : (b : Bool) → ((f m).name.0 == name.0) ≡ b → cond b true (has name (map f ns)) ≡ true
          → (has name (map f ns) ≡ true → wide_on name (map f ns) ≡ Some (f name).wide)
          → cond b (Some (f m).wide) (wide_on name (map f ns)) ≡ Some (f name).wide
      by true e h deeper = ap (λ (n : NameId). Some (f n).wide) (same_name m name (sym (own_test m name) ∙ e))
      by false e h deeper = deeper h

  pub wide_nowhere : (path : Path) (name : NameId) → IsPath path → find_on path name ≡ None → wide_on name (map f (names_on path)) ≡ None
  wide_nowhere path name valid none = wide_none name (names_on path) (has_found path name valid ∙ ap is_some none)

  pub wide_there : (path : Path) (name : NameId) (found : Found) → IsPath path → find_on path name ≡ Some found
      → wide_on name (map f (names_on path)) ≡ Some (f name).wide
  wide_there path name found valid there = wide_some name (names_on path) (has_found path name valid ∙ ap is_some there)

-- a field that is written
abbrev pub written_on : Val → Field → Field
written_on v f = record { name = f.name; value = v; wide = f.wide || not (is_integer v) }

-- a field that is new
abbrev pub fresh_field : NameId → Val → Field
fresh_field name v = record { name = name; value = v; wide = not (is_integer v) }

-- ---- the fields before and behind a write

module _ (f f' : NameId → Field) (name : NameId) (v : Val)
    (named : (m : NameId) → (f m).name ≡ m) (same : (m : NameId) → ((m.0 == name.0) ≡ false) → f' m ≡ f m) where
  -- names apart from the one that is written keep their fields
  others : (ns : List NameId) → has name (map f ns) ≡ false → map f' ns ≡ map f ns
  others [] h = refl
  others (m ∷ ns) h = by ((f m).name.0 == name.0) refl h (others ns)
    where
      by : (b : Bool) → ((f m).name.0 == name.0) ≡ b → cond b true (has name (map f ns)) ≡ false
          → (has name (map f ns) ≡ false → map f' ns ≡ map f ns) → f' m ∷ map f' ns ≡ f m ∷ map f ns
      by true e h deeper = absurd (cc)
      by false e h deeper =
          let one : f' m ≡ f m = same m (sym (own_test f named m name) ∙ e) in
          let rest : map f' ns ≡ map f ns = deeper h in
          cc

  -- a write to a name that is not there adds its field behind all others
  pub writes_behind : (path : Path) → IsPath path → find_on path name ≡ None → f' name ≡ fresh_field name v
      → map f' (names_on path ++ name ∷ []) ≡ with_field name v (map f (names_on path))
  writes_behind path valid none own =
      let absent : has name (map f (names_on path)) ≡ false = has_found f named path name valid ∙ ap is_some none in
      map-append f' (names_on path) (name ∷ [])
      ∙ ap (λ fs. fs ++ f' name ∷ []) (others (names_on path) absent)
      ∙ ap (λ (x : Field). map f (names_on path) ++ x ∷ []) own
      ∙ sym (with_field-behind name v (map f (names_on path)) [] absent)
      ∙ ap (with_field name v) (append-nil (map f (names_on path)))

  -- a write to a name that is there changes its field
  pub writes_there : (path : Path) (found : Found) → IsPath path → find_on path name ≡ Some found → f' name ≡ written_on v (f name)
      → map f' (names_on path) ≡ with_field name v (map f (names_on path))
  writes_there [] found valid there own = absurd (cc)
  writes_there (Add m kind ∷ path) found valid there own = by (m.0 == name.0) refl there (λ t. writes_there path found valid.1 t own)
    where
      front : map f' (names_on path ++ m ∷ []) ≡ map f' (names_on path) ++ f' m ∷ []
      front = map-append f' (names_on path) (m ∷ [])

      back : map f (names_on path ++ m ∷ []) ≡ map f (names_on path) ++ f m ∷ []
      back = map-append f (names_on path) (m ∷ [])

      by : (b : Bool) → (m.0 == name.0) ≡ b → cond b (Some (next_place path, kind)) (find_on path name) ≡ Some found
          → (find_on path name ≡ Some found → map f' (names_on path) ≡ with_field name v (map f (names_on path)))
          → map f' (names_on path ++ m ∷ []) ≡ with_field name v (map f (names_on path ++ m ∷ []))
      by true e t deeper =
          let one : m ≡ name = same_name m name e in
          let none : find_on path name ≡ None = subst (λ (n : NameId). find_on path n ≡ None) one valid.0 in
          let absent : has name (map f (names_on path)) ≡ false = has_found f named path name valid.1 ∙ ap is_some none in
          let now : f' m ≡ written_on v (f m) = subst (λ (n : NameId). f' n ≡ written_on v (f n)) (sym one) own in
          let single : with_field name v (f m ∷ []) ≡ written_on v (f m) ∷ []
          = ap (λ b. cond b (written_on v (f m) ∷ []) (f m ∷ with_field name v [])) (own_test f named m name ∙ e) in
          front
          ∙ ap (λ fs. fs ++ f' m ∷ []) (others (names_on path) absent)
          ∙ ap (λ (x : Field). map f (names_on path) ++ x ∷ []) now
          ∙ ap (λ fs. map f (names_on path) ++ fs) (sym single)
          ∙ sym (with_field-behind name v (map f (names_on path)) (f m ∷ []) absent)
          ∙ ap (with_field name v) (sym back)
      by false e t deeper =
          let here : has name (map f (names_on path)) ≡ true = has_found f named path name valid.1 ∙ ap is_some t in
          front
          ∙ ap (λ fs. fs ++ f' m ∷ []) (deeper t)
          ∙ ap (λ (x : Field). with_field name v (map f (names_on path)) ++ x ∷ []) (same m e)
          ∙ sym (with_field-front name v (map f (names_on path)) (f m) here)
          ∙ ap (with_field name v) (sym back)
  writes_there (Widen m ∷ path) found valid there own = by (find_on path name) refl (λ g t. writes_there path g valid.1 t own)
    where
      by : (o : Option Found) → find_on path name ≡ o
          → ((g : Found) → find_on path name ≡ Some g → map f' (names_on path) ≡ with_field name v (map f (names_on path)))
          → map f' (names_on path) ≡ with_field name v (map f (names_on path))
      by (Some g) e deeper = deeper g e
      by None e deeper = absurd (not_widened (m.0 == name.0) refl there)
        where
          not_widened : (b : Bool) → (m.0 == name.0) ≡ b → cond b (Some (next_place path, AnyLoc)) (find_on path name) ≡ Some found → ⊥
          not_widened true same_test t =
              let is : is_some (find_on path name) ≡ true
              = subst (λ (n : NameId). is_some (find_on path n) ≡ true) (same_name m name same_test) (found_some IntLoc (find_on path m) valid.0) in
              let no : is_some (find_on path name) ≡ false = ap is_some e in
              cc
          not_widened false same_test t = cc
  writes_there (Share ∷ path) found valid there own = writes_there path found valid.1 there own
