-- A name on the way to the root.
use Rattle.std.proofs.Common.{◌≡◌, ◌≢◌, ◌<◌, ◌==◌, ℕ, ◌+◌, ◌*◌, Bool, true, false, cond, List, [], ◌∷◌, length, Option, Some, None, refl, sym, ap, ◌∙◌, inl, inr, arith, eq-eqb, ne_eqb}
use mathlib.Core.Logic.{dite}
use native.Mathlib.Decide.{ℕ_discrete}
use Rattle.rb_shared.specs.Lists.{Has}
use Rattle.rb_tree.specs.declared.span.NameId.{NameId}
use Rattle.shape_core.specs.declared.edge.Edge.{Edge}
use Rattle.shape_core.specs.declared.edge.Edge.TheVariants.{Add, Widen, Share}
use Rattle.shape_core.specs.declared.edge.Kind.{Kind}
use Rattle.shape_core.specs.declared.edge.Kind.TheVariants.{IntLoc, AnyLoc}
use Rattle.shape_core.specs.declared.facts.Place.{Place}
use Rattle.shape_core.specs.Path.{Path, find_on, next_place}
use Rattle.shape_core.specs.Shape.{Shape}
use Rattle.heap_core.specs.Blocks.{Block, ObjectAt, ChunkAt, MutexAt, ThreadAt, TextAt, BoxAt, ShapeAt, LockAt, TheTurn, LinkAt}
use Rattle.heap_core.specs.Fixed.{edge_of, places_before}
use Rattle.heap_core.specs.Growing.{Learns, LeadsUp}
use Rattle.heap_core.specs.Links.{IsTree}
use Rattle.heap_core.specs.Passes.{FixedIs}
use Rattle.heap_core.specs.Shapes.{edge_word, parent_of}
use Rattle.heap_core.specs.View.{Holder, Knows}
use Rattle.heap_core.proofs.Frames.{Among}
use Rattle.shape_intern.specs.Facts.{gives}
use Rattle.shape_intern.specs.Walks.{KnowsShapeAt, KnowsTree}
use Rattle.shape_intern.proofs.Marks.{fixed_found}
use Rattle.shape_intern.proofs.Within.{learns_among}

-- ---- what an edge gives

gives_is : (kind : Kind) (a b : ℕ) → a ≡ b → cond (a == b) (Some kind) None ≡ Some kind
gives_is kind a b e = ap (λ x. cond x (Some kind) None) (eq-eqb a b e)

gives_none : (kind : Kind) (a b : ℕ) → (a ≡ b → ⊥) → cond (a == b) (Some kind) None ≡ None
gives_none kind a b ne = ap (λ x. cond x (Some kind) None) (ne_eqb a b ne)

pub given_int : (w : ℕ) (name : NameId) (edge : Edge) → w ≡ name.0 * 8 + 1 → w ≡ edge_word edge → Some IntLoc ≡ gives edge name
given_int w name (Add n IntLoc) e f = sym (gives_is IntLoc n.0 name.0 (omega (arith, e, f)))
given_int w name (Add n AnyLoc) e f = absurd (omega (arith, e, f))
given_int w name (Widen n) e f = absurd (omega (arith, e, f))
given_int w name Share e f = absurd (omega (arith, e, f))

pub given_any : (w : ℕ) (name : NameId) (edge : Edge) → w ≡ name.0 * 8 + 2 → w ≡ edge_word edge → Some AnyLoc ≡ gives edge name
given_any w name (Add n IntLoc) e f = absurd (omega (arith, e, f))
given_any w name (Add n AnyLoc) e f = sym (gives_is AnyLoc n.0 name.0 (omega (arith, e, f)))
given_any w name (Widen n) e f = absurd (omega (arith, e, f))
given_any w name Share e f = absurd (omega (arith, e, f))

pub given_wide : (w : ℕ) (name : NameId) (edge : Edge) → w ≡ name.0 * 8 + 3 → w ≡ edge_word edge → Some AnyLoc ≡ gives edge name
given_wide w name (Add n IntLoc) e f = absurd (omega (arith, e, f))
given_wide w name (Add n AnyLoc) e f = absurd (omega (arith, e, f))
given_wide w name (Widen n) e f = sym (gives_is AnyLoc n.0 name.0 (omega (arith, e, f)))
given_wide w name Share e f = absurd (omega (arith, e, f))

pub given_none : (w : ℕ) (name : NameId) (edge : Edge) → (w ≡ name.0 * 8 + 1 → ⊥) → (w ≡ name.0 * 8 + 2 → ⊥) → (w ≡ name.0 * 8 + 3 → ⊥) → w ≡ edge_word edge → None ≡ gives edge name
given_none w name (Add n IntLoc) a b c f = sym (gives_none IntLoc n.0 name.0 (λ e. a (omega (arith, e, f))))
given_none w name (Add n AnyLoc) a b c f = sym (gives_none AnyLoc n.0 name.0 (λ e. b (omega (arith, e, f))))
given_none w name (Widen n) a b c f = sym (gives_none AnyLoc n.0 name.0 (λ e. c (omega (arith, e, f))))
given_none w name Share a b c f = refl

-- where a name is found: at this edge, or on the way before it
abbrev found_by : Option Kind → Path → NameId → Option (Place × Kind)
found_by None path name = find_on path name
found_by (Some kind) path name = Some (next_place path, kind)

find_by : (edge : Edge) (path : Path) (name : NameId) → find_on (edge ∷ path) name ≡ found_by (gives edge name) path name
find_by (Add other kind) path name = by_test kind (other.0 == name.0)
  where
    by_test : (kind : Kind) (b : Bool) → cond b (Some (next_place path, kind)) (find_on path name) ≡ found_by (cond b (Some kind) None) path name
    by_test kind true = refl
    by_test kind false = refl
find_by (Widen other) path name = by_test (other.0 == name.0)
  where
    by_test : (b : Bool) → cond b (Some (next_place path, AnyLoc)) (find_on path name) ≡ found_by (cond b (Some AnyLoc) None) path name
    by_test true = refl
    by_test false = refl
find_by Share path name = refl

pub find_here : (edge : Edge) (path : Path) (name : NameId) (kind : Kind) → Some kind ≡ gives edge name → find_on (edge ∷ path) name ≡ Some (next_place path, kind)
find_here edge path name kind is = find_by edge path name ∙ ap (λ o. found_by o path name) (sym is)

pub find_on_way : (edge : Edge) (path : Path) (name : NameId) → None ≡ gives edge name → find_on (edge ∷ path) name ≡ find_on path name
find_on_way edge path name is = find_by edge path name ∙ ap (λ o. found_by o path name) (sym is)

-- ---- how far the root is

abbrev pub depth_by : Block → (at other : ℕ) → ℕ
depth_by (ShapeAt shape place) at other = cond (place == at) (length shape.path) other
depth_by b at other = other

-- how many edges lead to the shape at a place
abbrev pub depth_at : List Block → ℕ → ℕ
depth_at [] at = 0
depth_at (b ∷ bs) at = depth_by b at (depth_at bs at)

abbrev HasDepth : List Block → ℕ → Type 0
HasDepth bs at = (shape : Shape) × Has bs (ShapeAt shape at) × (depth_at bs at ≡ length shape.path)

place_is : (shape other : Shape) (a b : ℕ) → ShapeAt shape a ≡ ShapeAt other b → a ≡ b
place_is shape other a b e = cc

depth_found : (bs : List Block) (shape : Shape) (at : ℕ) → Has bs (ShapeAt shape at) → HasDepth bs at
depth_found [] shape at h = absurd h
depth_found (b ∷ bs) shape at (inr h) = by_kind b (depth_found bs shape at h)
  where
    more : (b : Block) → depth_by b at (depth_at bs at) ≡ depth_at bs at → HasDepth bs at → HasDepth (b ∷ bs) at
    more b same d = (d.0, inr d.1, same ∙ d.2)

    by_kind : (b : Block) → HasDepth bs at → HasDepth (b ∷ bs) at
    by_kind (ShapeAt other place) d = dite (ℕ_discrete place at)
        (λ is. (other, inl (ap (ShapeAt other) (sym is)), ap (λ x. cond x (length other.path) (depth_at bs at)) (eq-eqb place at is)))
        (λ ne. more (ShapeAt other place) (ap (λ x. cond x (length other.path) (depth_at bs at)) (ne_eqb place at ne)) d)
    by_kind (ObjectAt id a) d = more (ObjectAt id a) refl d
    by_kind (ChunkAt object number a) d = more (ChunkAt object number a) refl d
    by_kind (MutexAt id a) d = more (MutexAt id a) refl d
    by_kind (ThreadAt id number maker a) d = more (ThreadAt id number maker a) refl d
    by_kind (TextAt bytes a) d = more (TextAt bytes a) refl d
    by_kind (BoxAt n a) d = more (BoxAt n a) refl d
    by_kind (LockAt a) d = more (LockAt a) refl d
    by_kind TheTurn d = more TheTurn refl d
    by_kind (LinkAt home link to number) d = more (LinkAt home link to number) refl d
depth_found (b ∷ bs) shape at (inl e) = (shape, inl e, ap (λ c. depth_by c at (depth_at bs at)) (sym e) ∙ ap (λ x. cond x (length shape.path) (depth_at bs at)) (eq-eqb at at refl))

-- it is that of the one shape there
depth_is : (size : ℕ) (bs cs : List Block) → Among bs cs → IsTree size cs → (shape : Shape) (at : ℕ) → Has bs (ShapeAt shape at) → depth_at bs at ≡ length shape.path
depth_is size bs cs all t shape at h =
    let d = depth_found bs shape at h in
    d.2 ∙ ap (λ (s : Shape). length s.path) (t.one_at d.0 shape at (all (ShapeAt d.0 at) d.1) (all (ShapeAt shape at) h))

-- ---- a step to the root

-- the shape at a place, from which the name is found as from another
abbrev pub IsWay : Holder → (at word : ℕ) → NameId → Shape → Type 0
IsWay k at word name shape = (here : Shape) × Knows k (ShapeAt here at) × (word ≡ edge_of here.path) × (find_on shape.path name ≡ find_on here.path name)

pub edge_found : (k : Holder) (shape : Shape) (at n : ℕ) → Knows k (ShapeAt shape at) → FixedIs k (at + 2) n → n ≡ edge_of shape.path
edge_found k shape at n kn fixed = fixed_found k shape at 2 (edge_of shape.path) n kn (omega arith) refl fixed

pub way_begins : (k : Holder) (at n : ℕ) (name : NameId) (shape : Shape) → FixedIs k (at + 2) n → Knows k (ShapeAt shape at) → IsWay k at n name shape
way_begins k at n name shape fixed kn = (shape, kn, edge_found k shape at n kn fixed, refl)

pub way_ends : (k : Holder) (at word : ℕ) (name : NameId) (shape : Shape) → word ≡ 0 → IsWay k at word name shape → None ≡ find_on shape.path name
way_ends k at word name shape none w = by_path w.0.path (sym none ∙ w.2) ∙ sym w.3
  where
    by_path : (path : Path) → 0 ≡ edge_of path → None ≡ find_on path name
    by_path [] e = refl
    by_path (Add n IntLoc ∷ path) e = absurd (omega (arith, e))
    by_path (Add n AnyLoc ∷ path) e = absurd (omega (arith, e))
    by_path (Widen n ∷ path) e = absurd (omega (arith, e))
    by_path (Share ∷ path) e = absurd (omega (arith, e))

-- the name stands where this edge says
pub way_found : (k : Holder) (at word n : ℕ) (name : NameId) (shape : Shape) (kind : Kind) → word ≢ 0 → ((edge : Edge) → word ≡ edge_word edge → Some kind ≡ gives edge name) → FixedIs k (at + 3) n → IsWay k at word name shape
    → Some (record { 0 = n }, kind) ≡ find_on shape.path name
way_found k at word n name shape kind some gave fixed w = by_path w.0.path w.2 (fixed_found k w.0 at 3 (places_before w.0.path) n w.1 (omega arith) refl fixed) ∙ sym w.3
  where
    by_path : (path : Path) → word ≡ edge_of path → n ≡ places_before path → Some (record { 0 = n }, kind) ≡ find_on path name
    by_path [] e f = absurd (some e)
    by_path (edge ∷ path) e f = ap (λ (x : ℕ). Some (record { 0 = x }, kind)) f ∙ sym (find_here edge path name kind (gave edge e))

module _ (k w : Holder) (l : Learns k w) (t : KnowsTree w) (at word up : ℕ) (some : word ≢ 0) (leads : (shape : Shape) → Knows k (ShapeAt shape at) → LeadsUp w.blocks (parent_of shape) up) where
  -- the shape before this edge
  before : (class : ℕ) (path : Path) → Knows k (ShapeAt (record { class = class; path = path }) at) → word ≡ edge_of path → (edge : Edge) × (rest : Path) × (path ≡ edge ∷ rest) × (word ≡ edge_word edge) × Knows w (ShapeAt (record { class = class; path = rest }) up)
  before class [] kn e = absurd (some e)
  before class (edge ∷ path) kn e = (edge, path, refl, e, leads (record { class = class; path = edge ∷ path }) kn)

  pub way_known : (name : NameId) (shape : Shape) → IsWay k at word name shape → KnowsShapeAt w up
  way_known name shape way = let b = before way.0.class way.0.path way.1 way.2 in (record { class = way.0.class; path = b.1 }, b.4)

  pub way_goes : (name : NameId) (shape : Shape) (n : ℕ) → ((edge : Edge) → word ≡ edge_word edge → None ≡ gives edge name) → FixedIs w (up + 2) n → IsWay k at word name shape → IsWay w up n name shape
  way_goes name shape n gave fixed way =
      let here = way.0 in
      let b = before here.class here.path way.1 way.2 in (
        record { class = here.class; path = b.1 },
        b.4,
        edge_found w (record { class = here.class; path = b.1 }) up n b.4 fixed,
        way.3 ∙ (ap (λ p. find_on p name) b.2 ∙ find_on_way b.0 b.1 name (gave b.0 b.3)),
      )

  pub way_shorter : (name : NameId) (shape : Shape) → IsWay k at word name shape → depth_at w.blocks up < depth_at k.blocks at
  way_shorter name shape way =
      let here = way.0 in
      let b = before here.class here.path way.1 way.2 in
      let old = depth_is w.size k.blocks w.blocks (learns_among k w l) t here at way.1 in
      let new = depth_is w.size w.blocks w.blocks (λ c h. h) t (record { class = here.class; path = b.1 }) up b.4 in
      let long = ap (λ (p : Path). length p) b.2 in
      omega (arith, old, new, long)
