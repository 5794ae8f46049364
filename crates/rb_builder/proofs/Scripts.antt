-- Methods, classes and items, one behind the other.
use Rattle.std.proofs.Common.{◌≡◌, List, [], ◌∷◌, ◌++◌, refl, sym, ap, ◌∙◌}
use Rattle.std.specs.Prelude.{map}
use Rattle.std.proofs.lemmas.List.{map-append}
use Rattle.rb_grammar.specs.Tree.{Numbering}
use Rattle.rb_builder.specs.Walk.{Walk, gathering, numbering}
use Rattle.rb_builder.specs.Grown.{Made, Keeps}

-- what is kept stands behind the rest
pub made_behind : {A B : Type 0} (w : Walk) (f : Numbering → B → A) (x : A) (old new : List A) (items : List B) (item : B)
    → Keeps w x old new → Made w old (λ n. map (f n) items) → Made w x (λ n. f n item) → Made w new (λ n. map (f n) (items ++ item ∷ []))
made_behind gathering f x old new items item k h m = tt
made_behind (numbering n) f x old new items item k h m =
    k ∙ ap (λ y. y ++ x ∷ []) h ∙ ap (λ y. map (f n) items ++ y ∷ []) m ∙ sym (map-append (f n) items (item ∷ []))

-- what is made of two things
pub made_of : {A B C : Type 0} (w : Walk) (x : A) (y : B) (f : Numbering → A) (g : Numbering → B) (k : A → B → C)
    → Made w x f → Made w y g → Made w (k x y) (λ n. k (f n) (g n))
made_of gathering x y f g k h i = tt
made_of (numbering n) x y f g k h i = rw (h, i) refl

pub made_with : {A B : Type 0} (w : Walk) (x : A) (f : Numbering → A) (k : A → B) → Made w x f → Made w (k x) (λ n. k (f n))
made_with gathering x f k h = tt
made_with (numbering n) x f k h = ap k h

pub made_of_three : {A B C D : Type 0} (w : Walk) (x : A) (y : B) (z : C) (f : Numbering → A) (g : Numbering → B) (h : Numbering → C) (k : A → B → C → D)
    → Made w x f → Made w y g → Made w z h → Made w (k x y z) (λ n. k (f n) (g n) (h n))
made_of_three gathering x y z f g h k i j l = tt
made_of_three (numbering n) x y z f g h k i j l = rw (i, j, l) refl

pub made_of_four : {A B C D E : Type 0} (w : Walk) (x : A) (y : B) (z : C) (u : D) (f : Numbering → A) (g : Numbering → B) (h : Numbering → C) (i : Numbering → D) (k : A → B → C → D → E)
    → Made w x f → Made w y g → Made w z h → Made w u i → Made w (k x y z u) (λ n. k (f n) (g n) (h n) (i n))
made_of_four gathering x y z u f g h i k p q r s = tt
made_of_four (numbering n) x y z u f g h i k p q r s = rw (p, q, r, s) refl

-- the same as what is made
pub made_same : {A : Type 0} (w : Walk) (x y : A) (f : Numbering → A) → y ≡ x → Made w x f → Made w y f
made_same w x y f e h = rw e h
