-- The words of the opening.
use Rattle.std.specs.Prelude.{◌≡◌, ◌==◌, ◌||◌, ℕ, Bool, true, false, List, [], ◌∷◌, ◌-◌, replicate, set, Option, Some, None}
use Rattle.shape_core.specs.declared.edge.Edge.TheVariants.{Share}
use Rattle.heap_core.specs.Places.{opening_words, used_word, first_root, first_shared}
use Rattle.shared_run.specs.Run.{Sunk}
use Rattle.heap_core.specs.declared.line.Line.{Line}
use Rattle.heap_core.specs.Handing.{Handed, Slot}
use Rattle.heap_core.specs.Objects.{object_tag, shape_of}
use Rattle.heap_core.specs.Shapes.{flagged, edge_word, first_child}

abbrev pub globals_class : ℕ
globals_class = 4294967295

-- the words of the opening that are not 0
abbrev pub is_laid : ℕ → Bool
is_laid i = i == 0 || (i == 4 || (i == 14 || (i == 17 || (i == 22 || (i == 24 || (i == 25 || i == 26))))))

-- The globals have no fields and the shared shape; the root has that as its one child, by the edge that shares. All else is 0.
pub record IsOpening (w : ℕ → ℕ) : Type 0 where
  pub globals : w 0 ≡ object_tag globals_class
  pub shape : w (shape_of 0) ≡ first_shared
  pub used : w used_word ≡ opening_words
  pub root : w first_root ≡ flagged globals_class false
  pub child : w (first_child first_root) ≡ first_shared
  pub shared : w first_shared ≡ flagged globals_class true
  pub parent : w 25 ≡ first_root
  pub edge : w 26 ≡ edge_word Share
  pub rest : (i : ℕ) → is_laid i ≡ false → w i ≡ 0

-- the words that are laid in a row of noughts
abbrev pub laid_in : List ℕ → List ℕ
laid_in ws =
    set (set (set (set (set (set (set (set ws 0 (object_tag globals_class)) (shape_of 0) first_shared) used_word opening_words) first_root (flagged globals_class false)) (first_child first_root) first_shared) first_shared (flagged globals_class true)) 25 first_root) 26 (edge_word Share)

-- the table of threads at the start: the main thread has the first line
abbrev pub first_lines : ℕ → List (Option ℕ)
first_lines slots = Some 0 ∷ replicate (slots - 1) None

-- and with what is told of it
abbrev pub first_table : ℕ → List (Option Line)
first_table slots = Some (record { number = 0; over = false }) ∷ replicate (slots - 1) None

-- what is handed on first: the sink as it is, no thread that was started, and these lines
abbrev pub IsFirst : Sunk → ℕ → Handed → Type 0
IsFirst sink slots h = (h.sink ≡ sink) × (h.lines ≡ first_table slots) × (h.started ≡ 0)

-- the one slot has it
abbrev pub HoldsFirst : Sunk → ℕ → List Slot → Type 0
HoldsFirst sink slots places = (what : Handed) × (places ≡ Some what ∷ []) × IsFirst sink slots what
