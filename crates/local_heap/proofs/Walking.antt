-- From a shape back to the root of its class.
use Rattle.std.proofs.Common.{◌≡◌, ℕ, suc, ◌<◌, List, [], ◌∷◌, ◌++◌, length, take, drop, Option, Some, None, refl, ap, sym, ◌∙◌, subst, arith, append-nil}
use Rattle.std.specs.Prelude.{reverse}
use Rattle.std.proofs.lemmas.List.{append_assoc, reverse-append, drop_all, take_all}
use Rattle.rb_tree.specs.declared.span.NameId.{NameId}
use Rattle.shape_core.specs.declared.edge.Edge.{Edge}
use Rattle.shape_core.specs.declared.edge.Edge.TheVariants.{Add, Widen, Share}
use Rattle.shape_core.specs.declared.facts.ShapeId.{ShapeId}
use Rattle.shape_core.specs.Path.{Path, last_edge, names_on}
use Rattle.shape_core.specs.Shape.{Shape, IsParentOf, path_at}
use Rattle.local_heap.specs.Fields.{given_name}

-- the path that is left to walk
abbrev pub rest_of : List Shape → Option ShapeId → Path
rest_of shapes None = []
rest_of shapes (Some id) = path_at shapes id

abbrev pub Known : List Shape → Option ShapeId → Type 0
Known shapes None = Unit {0}
Known shapes (Some id) = id.0 < length shapes

abbrev pub steps_left : List Shape → Option ShapeId → ℕ
steps_left shapes None = 0
steps_left shapes (Some id) = suc (length (path_at shapes id))

-- the names of a path are those of its older edges, and the name of its newest
names_newest : (edge : Edge) (path : Path) → names_on (edge ∷ path) ≡ names_on path ++ given_name (Some edge)
names_newest (Add name kind) path = refl
names_newest (Widen name) path = sym (append-nil (names_on path))
names_newest Share path = sym (append-nil (names_on path))

reverse_given : (edge : Option Edge) → reverse (given_name edge) ≡ given_name edge
reverse_given None = refl
reverse_given (Some (Add name kind)) = refl
reverse_given (Some (Widen name)) = refl
reverse_given (Some Share) = refl

-- a step from a shape to its parent
pub walks : (shapes : List Shape) (class : ℕ) (path : Path) (parent : Option ShapeId) (names names' : List NameId) → IsParentOf shapes class path parent
    → names' ≡ names ++ given_name (last_edge path)
    → names_on (rest_of shapes parent) ++ reverse names' ≡ names_on path ++ reverse names
walks shapes class [] parent names names' is grew =
    ap (λ (o : Option ShapeId). names_on (rest_of shapes o) ++ reverse names') is ∙ ap reverse (grew ∙ append-nil names)
walks shapes class (edge ∷ path) None names names' is grew = absurd is
walks shapes class (edge ∷ path) (Some id) names names' is grew =
    ap (λ (s : Shape). names_on s.path ++ reverse names') is.1
    ∙ ap (λ ns. names_on path ++ reverse ns) grew
    ∙ ap (λ ns. names_on path ++ ns) (reverse-append names (given_name (Some edge)))
    ∙ ap (λ ns. names_on path ++ (ns ++ reverse names)) (reverse_given (Some edge))
    ∙ sym (append_assoc (names_on path) (given_name (Some edge)) (reverse names))
    ∙ ap (λ ns. ns ++ reverse names) (sym (names_newest edge path))

pub known_parent : (shapes : List Shape) (class : ℕ) (path : Path) (parent : Option ShapeId) → IsParentOf shapes class path parent → Known shapes parent
known_parent shapes class [] parent is = subst (Known shapes) (sym is) tt
known_parent shapes class (edge ∷ path) None is = tt
known_parent shapes class (edge ∷ path) (Some id) is = is.0

pub fewer_steps : (shapes : List Shape) (class : ℕ) (path : Path) (parent : Option ShapeId) → IsParentOf shapes class path parent
    → steps_left shapes parent < suc (length path)
fewer_steps shapes class [] parent is = omega (arith, ap (steps_left shapes) is)
fewer_steps shapes class (edge ∷ path) None is = absurd is
fewer_steps shapes class (edge ∷ path) (Some id) is = omega (arith, ap (λ (s : Shape). length s.path) is.1)

-- a list that was written over its whole length
pub whole_slice : {X : Type 0} (xs ys : List X) (n : ℕ) → length ys ≡ length xs → n ≡ length xs → take n (ys ++ drop (length ys) xs) ≡ ys
whole_slice xs ys n even long =
    ap (λ zs. take n (ys ++ zs)) (drop_all (length ys) xs (omega (arith, even)))
    ∙ ap (take n) (append-nil ys)
    ∙ take_all n ys (omega (arith, even, long))
