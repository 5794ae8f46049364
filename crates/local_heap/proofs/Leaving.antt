-- A heap before and behind the leaving of one of its things.
use Rattle.std.proofs.Common.{◌≡◌, ℕ, zero, suc, List, [], ◌∷◌, map, set, Option, None, refl, ap, sym, ◌∙◌, subst}
use Rattle.std.specs.Prelude.{slice_get}
use Rattle.std.proofs.lemmas.List.{map-set}
use Rattle.rb_model.specs.declared.value.Id.{Id}
use Rattle.rb_model.specs.Things.{Thing}
use Rattle.rb_model.specs.Private.{Private, left, or_none}
use Rattle.shape_core.specs.Shape.{Shape}
use Rattle.local_heap.specs.declared.cells.Cell.{Cell}
use Rattle.local_heap.specs.declared.cells.Cell.TheVariants as cell
use Rattle.local_heap.specs.Slots.{Home, class_at}
use Rattle.local_heap.specs.Cells.{AreSound, IsCell, IsKnown, class_in, home_by, private_by, shaped_in, still}
use Rattle.local_heap.proofs.Acting.{AreWhole, private_now}
use Rattle.local_heap.proofs.Cellwise.{all_set}

abbrev parts : ℕ → List (Option Thing) → List (Option Shape) → List Shape → Private
parts thread things shaped shapes = record { thread = thread; things = things; shaped = shaped; shapes = shapes }

put_back : (xs : List (Option ℕ)) (i : ℕ) → set xs i (or_none (slice_get xs i)) ≡ xs
put_back [] i = refl
put_back (x ∷ xs) zero = refl
put_back (x ∷ xs) (suc i) = ap (λ ys. x ∷ ys) (put_back xs i)

module _ (thread : ℕ) (shapes : List Shape) (cells : List Cell) (h : Private) (is : private_now thread shapes cells ≡ h) (whole : AreWhole thread shapes cells)
    (id : Id) (class : Option ℕ) (class_is : class ≡ class_at (home_by thread shapes cells) id.serial) where
  abbrev home : Home
  home = home_by thread shapes cells

  abbrev cells_left : List Cell
  cells_left = set cells id.serial (cell.Empty class)

  same_home : home_by thread shapes cells_left ≡ home
  same_home =
      ap (λ cs. record { thread = thread; classes = cs })
      (map-set (class_in shapes) cells id.serial (cell.Empty class)
      ∙ ap (set (map (class_in shapes) cells) id.serial) class_is
      ∙ put_back (map (class_in shapes) cells) id.serial)

  pub left_whole : AreWhole thread shapes cells_left
  left_whole = (
    all_set (IsKnown shapes) cells id.serial (cell.Empty class) whole.0 tt,
    subst (λ (g : Home). AreSound shapes g cells_left) (sym same_home) (all_set (IsCell shapes home) cells id.serial (cell.Empty class) whole.1 tt),
  )

  pub left_private : private_now thread shapes cells_left ≡ left h id
  left_private =
      ap (λ (g : Home). private_by thread shapes g cells_left) same_home
      ∙ ap (λ ts. parts thread ts (map (shaped_in shapes) cells_left) shapes) (map-set (still shapes home) cells id.serial (cell.Empty class))
      ∙ ap (λ ss. parts thread (set (map (still shapes home) cells) id.serial None) ss shapes) (map-set (shaped_in shapes) cells id.serial (cell.Empty class))
      ∙ ap (λ (g : Private). left g id) is
