-- The path behind a write, by what the path says of the name.
use Rattle.std.proofs.Common.{◌≡◌, false, ◌∷◌, Some, None, refl, ap, ◌∙◌}
use Rattle.std.specs.Prelude.{ℤ}
use Rattle.std.specs.Option.{option_map}
use Rattle.rb_tree.specs.declared.span.NameId.{NameId}
use Rattle.rb_model.specs.Values.{Value as Val, Nil, False, True, Int, Sym, Str, To}
use Rattle.rb_model.specs.Things.{is_integer}
use Rattle.shape_core.specs.declared.edge.Kind.TheVariants.{IntLoc, AnyLoc}
use Rattle.shape_core.specs.declared.edge.Edge.TheVariants.{Add, Widen}
use Rattle.shape_core.specs.declared.facts.Place.{Place}
use Rattle.shape_core.specs.Path.{Path, find_on}
use Rattle.shape_core.proofs.Paths.{Found}
use Rattle.rb_model.specs.Paths.{path_with, path_behind}

module _ (path : Path) (name : NameId) where
  pub behind_new_integer : (n : ℤ) → find_on path name ≡ None → path_behind path name (Int n) ≡ Add name IntLoc ∷ path
  behind_new_integer n none = ap (λ o. path_with (option_map (λ (f : Found). f.1) o) path name (Int n)) none

  pub behind_new : (v : Val) → find_on path name ≡ None → is_integer v ≡ false → path_behind path name v ≡ Add name AnyLoc ∷ path
  behind_new v none other = ap (λ o. path_with (option_map (λ (f : Found). f.1) o) path name v) none ∙ by v other
    where
      by : (v : Val) → is_integer v ≡ false → path_with None path name v ≡ Add name AnyLoc ∷ path
      by Nil e = refl
      by False e = refl
      by True e = refl
      by (Int n) e = absurd (cc)
      by (Sym s) e = refl
      by (Str t) e = refl
      by (To r) e = refl

  pub behind_integer : (n : ℤ) (place : Place) → find_on path name ≡ Some (place, IntLoc) → path_behind path name (Int n) ≡ path
  behind_integer n place there = ap (λ o. path_with (option_map (λ (f : Found). f.1) o) path name (Int n)) there

  pub behind_widened : (v : Val) (place : Place) → find_on path name ≡ Some (place, IntLoc) → is_integer v ≡ false
      → path_behind path name v ≡ Widen name ∷ path
  behind_widened v place there other = ap (λ o. path_with (option_map (λ (f : Found). f.1) o) path name v) there ∙ by v other
    where
      by : (v : Val) → is_integer v ≡ false → path_with (Some IntLoc) path name v ≡ Widen name ∷ path
      by Nil e = refl
      by False e = refl
      by True e = refl
      by (Int n) e = absurd (cc)
      by (Sym s) e = refl
      by (Str t) e = refl
      by (To r) e = refl

  pub behind_any : (v : Val) (place : Place) → find_on path name ≡ Some (place, AnyLoc) → path_behind path name v ≡ path
  behind_any v place there = ap (λ o. path_with (option_map (λ (f : Found). f.1) o) path name v) there
