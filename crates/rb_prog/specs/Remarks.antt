-- The lines that the program writes to standard error.
use Rattle.std.specs.Prelude.{ℕ, List, [], ◌∷◌, ◌++◌, Option, Some, None, codes}
use Rattle.std.specs.List.{concat}
use Rattle.std.specs.Fmt.{decimal}
use Rattle.rb_tree.specs.Place.{line_of, column_of}
use Rattle.rb_model.specs.declared.fault.Fault.{Fault}
use Rattle.rb_model.specs.Faults.{fault_name}
use Rattle.rb_model.specs.Ends.{End}
use Rattle.rb_model.specs.Ends as ending
use Rattle.rb_prog.specs.declared.refusal.Refusal.{Refusal}
use Rattle.rb_prog.specs.Refusals.{number, name, place}

abbrev pub Text : Type 0
Text = List ℕ

-- where a byte of a source stands, as ` at LINE:COLUMN`; nothing, where no byte is told
abbrev pub stands : Text → Option ℕ → List Text
stands source None = []
stands source (Some at) = codes " at " ∷ decimal (line_of source at) ∷ codes ":" ∷ decimal (column_of source at) ∷ []

-- a refusal of this number and name
abbrev pub refused_as : Text → ℕ → Text → Option ℕ → Text
refused_as source number name at = concat (codes "rbso: refused " ∷ decimal number ∷ codes " " ∷ name ∷ stands source at ++ codes "\n" ∷ [])

-- why a source has no run
abbrev pub refusal_line : Text → Refusal → Text
refusal_line source why = refused_as source (number why) (name why) (place why)

-- the name of a fault, and where it was raised
abbrev pub fault_line : Text → Fault → ℕ → Text
fault_line source fault at = concat (codes "rbso: fault " ∷ fault_name fault ∷ stands source (Some at) ++ codes "\n" ∷ [])

abbrev pub sink_line : Text
sink_line = codes "rbso: sink failed\n"

abbrev pub memory_line : Text
memory_line = codes "rbso: memory\n"

abbrev pub usage_line : Text
usage_line = codes "rbso: usage\n"

abbrev pub missing_line : Text
missing_line = codes "rbso: source missing\n"

abbrev pub failed_line : Text
failed_line = codes "rbso: source failed\n"

-- the steps that a thread may make
abbrev pub steps_line : ℕ → Text
steps_line steps = concat (codes "rbso: steps " ∷ decimal steps ∷ codes "\n" ∷ [])

-- the words of the shared heap that are used, and those that were asked for
abbrev pub full_line : ℕ → ℕ → Text
full_line used asked = concat (codes "rbso: heap full, used " ∷ decimal used ∷ codes ", asked " ∷ decimal asked ∷ codes "\n" ∷ [])

-- how a run with so many steps ended; of a value nothing is said
abbrev pub end_line : Text → ℕ → End → Text
end_line source steps (ending.Value value) = []
end_line source steps (ending.Raised fault at) = fault_line source fault at.from
end_line source steps ending.Steps = steps_line steps
end_line source steps (ending.Full used asked) = full_line used asked
end_line source steps ending.Sink = sink_line
end_line source steps ending.Memory = memory_line
