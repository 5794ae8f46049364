-- Layouts over tables that grew.
use Rattle.std.proofs.Common.{◌≡◌, ℕ, ◌-◌, ◌<◌, ◌≤◌, List, [], ◌∷◌, ◌++◌, Option, Some, None, inl, inr, ap, sym, ◌∙◌, subst, arith, length, set, get_or, length-set, length-append, append-nil}
use Rattle.std.proofs.lemmas.List.{take-append-le, get_or-set_same, get_or-set_other, get_or_default}
use Rattle.std.proofs.lemmas.Bool.Decides.{eqb_tells}
use Rattle.shape_tree.specs.declared.table.Slot.{Slot}
use Rattle.shape_tree.specs.Layouts.{Lists, table_at, slots_with, slots_of, Keeps}

-- later slots of a table do not show in its first ones
slots_with-longer : (table more : List Slot) (places : ℕ) (own : Option Slot) → places ≤ length table → slots_with (table ++ more) places own ≡ slots_with table places own
slots_with-longer table more places None h = take-append-le places table more h
slots_with-longer table more places (Some slot) h = ap (λ (front : List Slot). front ++ slot ∷ []) (take-append-le (places - 1) table more (omega arith))

-- a table of the new tables begins with the old one's slots
abbrev Longer : Lists → Lists → ℕ → Type 0
Longer old new n = (more : List Slot) × (table_at new n ≡ table_at old n ++ more)

pub Keeps-longer : (old new : Lists) → length old ≤ length new → ((n : ℕ) → n < length old → Longer old new n) → Keeps old new
Keeps-longer old new grown longer layout fits =
    let l = longer layout.table fits.there in
    record {
      fits = record {
        there = omega (arith, fits.there);
        long = omega (arith, fits.long, ap length l.1, length-append (table_at old layout.table) l.0);
        own = fits.own;
      };
      slots =
          ap (λ (t : List Slot). slots_with t layout.places layout.own) l.1
          ∙ slots_with-longer (table_at old layout.table) l.0 layout.places layout.own fits.long
          ∙ sym (append-nil (slots_of old layout));
    }

-- a slot behind those of one table keeps each layout
pub Keeps-push : (tables : Lists) (at : ℕ) (slot : Slot) → at < length tables → Keeps tables (set tables at (table_at tables at ++ slot ∷ []))
Keeps-push tables at slot h =
    Keeps-longer tables (set tables at (table_at tables at ++ slot ∷ [])) (omega (arith, length-set tables at (table_at tables at ++ slot ∷ [])))
    (λ n lt. elim (eqb_tells n at) [
      | inl w ↦ (
        slot ∷ [],
        ap (table_at (set tables at (table_at tables at ++ slot ∷ []))) w.1
            ∙ get_or-set_same tables at (table_at tables at ++ slot ∷ []) [] h
            ∙ ap (λ m. table_at tables m ++ slot ∷ []) (sym w.1),
      )
      | inr w ↦ ([], get_or-set_other tables at n (table_at tables at ++ slot ∷ []) [] w.1 ∙ sym (append-nil (table_at tables n)))
    ])

-- the same for a slot that was pushed where a table stands
pub Keeps-pushed : (old tables : Lists) (at : ℕ) (slot : Slot) (read new : List Slot) → tables ≡ old → at < length old
    → read ≡ get_or tables at read → new ≡ read ++ slot ∷ [] → Keeps old (set tables at new)
Keeps-pushed old tables at slot read new same lt is e =
    let shown : new ≡ table_at tables at ++ slot ∷ [] = e ∙ ap (λ (t : List Slot). t ++ slot ∷ []) (is ∙ get_or_default tables at read [] (subst (λ (t : Lists). at < length t) (sym same) lt)) in
    subst (λ (t : Lists). Keeps t (set tables at new)) same
    (subst (λ (n : List Slot). Keeps tables (set tables at n)) (sym shown) (Keeps-push tables at slot (subst (λ (t : Lists). at < length t) (sym same) lt)))
