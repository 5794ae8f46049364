-- The lines of shapes, one behind another.
use Rattle.std.proofs.Common.{◌≡◌, ℕ, ◌+◌, ◌<◌, List, [], ◌∷◌, ◌++◌, length, take, drop, map, get_or, Option, Some, None, refl, sym, ap, ap₂, ◌∙◌, subst, arith, append_assoc}
use Rattle.std.specs.Prelude.{slice_get, codes}
use Rattle.std.specs.List.{concat}
use Rattle.std.proofs.lemmas.List.{append-nil, drop_more, take-append-drop, map-append, map_more}
use Rattle.std.proofs.lemmas.List.Folds.{concat-append}
use Rattle.std.proofs.lemmas.Grind.{flat_map-append}
use Rattle.rb_tree.specs.declared.node.Program.{Program}
use Rattle.rb_edge.specs.Edge.{Adds}
use Rattle.shape_core.specs.declared.edge.Edge.{Edge}
use Rattle.shape_core.specs.declared.edge.Edge.TheVariants.{Add, Widen, Share}
use Rattle.shape_core.specs.declared.facts.ShapeId.{ShapeId}
use Rattle.shape_core.specs.Path.{Path, names_on, last_edge}
use Rattle.shape_core.specs.Shape.{Shape, IsStore, IsParentOf, shape_at, path_at}
use Rattle.rb_machine.specs.Texts.{class_text}
use Rattle.rb_prog.specs.Remarks.{Text}
use Rattle.rb_prog.specs.Shapes.{field_texts, shape_line, BreaksOff}
use Rattle.rb_prog.specs.Added.{added_by}
use Rattle.rb_prog.proofs.Adding.{adds_then, adds_none}

-- ---- the names of a path

-- the path without its newest edge
abbrev pub before : Path → Path
before [] = []
before (edge ∷ path) = path

names_behind : (path : Path) → names_on path ≡ names_on (before path) ++ added_by (last_edge path)
names_behind [] = refl
names_behind (Add name kind ∷ path) = refl
names_behind (Widen name ∷ path) = sym (append-nil (names_on path))
names_behind (Share ∷ path) = sym (append-nil (names_on path))

-- a shape without a parent has no edge
pub no_parent : (shapes : List Shape) (class : ℕ) (path : Path) → IsParentOf shapes class path None → path ≡ []
no_parent shapes class [] h = refl
no_parent shapes class (edge ∷ path) h = absurd h

-- a parent has the edges before the newest
pub parent_path : (shapes : List Shape) (class : ℕ) (path : Path) (parent : ShapeId) → IsParentOf shapes class path (Some parent) → path_at shapes parent ≡ before path
parent_path shapes class [] parent h = absurd (cc)
parent_path shapes class (edge ∷ path) parent h = ap (λ (s : Shape). s.path) h.1

pub parent_known : (shapes : List Shape) (class : ℕ) (path : Path) (parent : ShapeId) → IsParentOf shapes class path (Some parent) → parent.0 < length shapes
parent_known shapes class [] parent h = absurd (cc)
parent_known shapes class (edge ∷ path) parent h = h.0

-- and stands before its child
pub parent_before : (shapes : List Shape) (id parent : ShapeId) (path : Path) → IsStore shapes → id.0 < length shapes → path_at shapes id ≡ path
    → IsParentOf shapes (shape_at shapes id).class path (Some parent) → parent.0 < id.0
parent_before shapes id parent [] store known e h = absurd (cc)
parent_before shapes id parent (edge ∷ path) store known e h =
    let p = store.parents id edge path known e in
    let same : p.0 ≡ parent = store.distinct p.0 parent (omega (arith, p.1, known)) h.0 (p.2 ∙ sym h.1) in
    subst (λ (q : ShapeId). q.0 < id.0) same p.1

-- the names of a parent, and that of the newest edge behind them
pub fields_behind : (program : Program) (on from path : Path) (edge : Option Edge) (old between new : Text) → from ≡ before path → edge ≡ last_edge path
    → between ≡ old ++ field_texts program on (names_on from) → new ≡ between ++ field_texts program on (added_by edge) → new ≡ old ++ field_texts program on (names_on path)
fields_behind program on from path edge old between new f e b n =
    let texts = field_texts program on in
    n
    ∙ ap₂ (λ (t : Text) (o : Option Edge). t ++ texts (added_by o)) (b ∙ ap (λ (p : Path). old ++ texts (names_on p)) f) e
    ∙ append_assoc old (texts (names_on (before path))) (texts (added_by (last_edge path)))
    ∙ ap (λ (t : Text). old ++ t) (sym (flat_map-append _ (names_on (before path)) (added_by (last_edge path))) ∙ ap texts (sym (names_behind path)))

pub no_fields : (program : Program) (on path : Path) (old : Text) → path ≡ [] → old ≡ old ++ field_texts program on (names_on path)
no_fields program on path old e = sym (ap (λ (p : Path). old ++ field_texts program on (names_on p)) e ∙ append-nil old)

-- ---- the lines

longer : (front behind : Text) → 0 < length behind → 0 < length (front ++ behind)
longer [] behind h = h
longer (byte ∷ front) behind h = omega arith

pub line_has_byte : (program : Program) (shape : Shape) → 0 < length (shape_line program shape)
line_has_byte program shape =
    longer (class_text program (slice_get program.classes shape.class) ++ field_texts program shape.path (names_on shape.path)) (codes "\n") (omega arith)

module _ (f : Shape → Text) (shapes : List Shape) (i : ℕ) (d : Shape) (h : i < length shapes) where
  lines_split : map f shapes ≡ map f (take i shapes) ++ f (get_or shapes i d) ∷ map f (drop (i + 1) shapes)
  lines_split =
      ap (map f) (sym (take-append-drop i shapes) ∙ ap (λ (rest : List Shape). take i shapes ++ rest) (drop_more shapes i d h))
      ∙ map-append f (take i shapes) (get_or shapes i d ∷ drop (i + 1) shapes)

  lines_more : concat (map f (take (i + 1) shapes)) ≡ concat (map f (take i shapes)) ++ f (get_or shapes i d)
  lines_more =
      ap concat (map_more f shapes i d h)
      ∙ concat-append (map f (take i shapes)) (f (get_or shapes i d) ∷ [])
      ∙ ap (λ (t : Text). concat (map f (take i shapes)) ++ t) (append-nil (f (get_or shapes i d)))

  -- the next line was told whole
  pub adds_line : (a b c : Option Text) → Adds a b (concat (map f (take i shapes))) → Adds b c (f (get_or shapes i d)) → Adds a c (concat (map f (take (i + 1) shapes)))
  adds_line a b c told line = subst (λ (t : Text). Adds a c t) (sym lines_more) (adds_then a b c (concat (map f (take i shapes))) (f (get_or shapes i d)) told line)

  -- or so many bytes of it
  pub breaks_off : (a b c : Option Text) (n : ℕ) → Adds a b (concat (map f (take i shapes))) → n < length (f (get_or shapes i d)) → Adds b c (take n (f (get_or shapes i d)))
      → BreaksOff a c (map f shapes) n
  breaks_off a b c n told short line = record {
    whole = map f (take i shapes);
    line = f (get_or shapes i d);
    rest = map f (drop (i + 1) shapes);
    split = lines_split;
    short = short;
    told = adds_then a b c (concat (map f (take i shapes))) (take n (f (get_or shapes i d))) told line;
  }

  pub breaks_before : (a b : Option Text) → Adds a b (concat (map f (take i shapes))) → 0 < length (f (get_or shapes i d)) → BreaksOff a b (map f shapes) 0
  breaks_before a b told short = breaks_off a b b 0 told short (adds_none b)
