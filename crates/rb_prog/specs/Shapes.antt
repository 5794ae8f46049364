-- The lines that tell the shapes of objects.
use Rattle.std.specs.Prelude.{◌≡◌, ◌<◌, ℕ, List, [], ◌∷◌, ◌++◌, Option, Some, None, map, length, take, slice_get, codes}
use Rattle.std.specs.List.{concat, flat_map}
use Rattle.std.specs.Fmt.{decimal}
use Rattle.rb_tree.specs.declared.span.NameId.{NameId}
use Rattle.rb_tree.specs.declared.node.Program.{Program}
use Rattle.shape_core.specs.declared.edge.Kind.{Kind}
use Rattle.shape_core.specs.declared.edge.Kind.TheVariants.{IntLoc, AnyLoc}
use Rattle.shape_core.specs.declared.facts.Place.{Place}
use Rattle.shape_core.specs.Path.{Path, names_on, find_on}
use Rattle.shape_core.specs.Shape.{Shape}
use Rattle.rb_machine.specs.Scopes.{name_text}
use Rattle.rb_machine.specs.Texts.{class_text}
use Rattle.rb_edge.specs.Edge.{Adds}
use Rattle.rb_prog.specs.Remarks.{Text, sink_line, memory_line}

-- what a place holds: integers alone, or any value
abbrev pub kind_letter : Kind → Text
kind_letter IntLoc = codes "i"
kind_letter AnyLoc = codes "a"

-- a name with where it stands
abbrev pub field_text : Text → Option (Place × Kind) → Text
field_text name None = []
field_text name (Some found) = codes " " ++ name ++ codes "=" ++ decimal found.0.0 ++ kind_letter found.1

module _ (program : Program) where
  -- these names, each with where it stands on a path
  abbrev pub field_texts : Path → List NameId → Text
  field_texts path names = flat_map (λ name. field_text (name_text program.names name) (find_on path name)) names

  -- the class, and the names in the order in which they were added
  abbrev pub shape_line : Shape → Text
  shape_line shape = class_text program (slice_get program.classes shape.class) ++ field_texts shape.path (names_on shape.path) ++ codes "\n"

  abbrev pub shape_lines : List Shape → List Text
  shape_lines shapes = map shape_line shapes

-- A sink was told the first of some lines whole, and of the next so many bytes, which are not all.
pub record BreaksOff (old new : Option Text) (lines : List Text) (taken : ℕ) : Type 0 where
  pub whole : List Text
  pub line : Text
  pub rest : List Text
  pub split : lines ≡ whole ++ line ∷ rest
  pub short : taken < length line
  pub told : Adds old new (concat whole ++ take taken line)

-- What a sink was told of lines: all of them, or a front where it failed in one, or those before one for which memory was wanted; with the
-- status, and the line on standard error.
pub data TellsLines (old new : Option Text) (lines : List Text) : ℕ → Text → Type 0 where
  all : Adds old new (concat lines) → TellsLines old new lines 0 []
  sink_failed : {taken : ℕ} → BreaksOff old new lines taken → TellsLines old new lines 5 sink_line
  out_of_memory : BreaksOff old new lines 0 → TellsLines old new lines 8 memory_line
