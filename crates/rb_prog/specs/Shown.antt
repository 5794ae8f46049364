-- The history that a run shows.
use Rattle.std.specs.Prelude.{ℕ, List, Option}
use Rattle.std.specs.Option.{option_map}
use Rattle.rb_tree.specs.declared.node.Program.{Program}
use Rattle.shape_core.specs.Shape.{Shape}
use Rattle.rb_model.specs.Ends.{End}
use Rattle.rb_shared.specs.History.{History}
use Rattle.thread_run.specs.Run.{IsRunOf}
use Rattle.turn_store.specs.Passes.{history_in}
use Rattle.turn_store.specs.declared.close.TurnFront.{TurnFront}

-- what all threads of a run did with what they share, in one order
abbrev pub shown : TurnFront → History
shown f = history_in f.badge.views

abbrev pub seen : Option TurnFront → Option History
seen = option_map shown

-- how many threads there may be at once
abbrev pub max_threads : ℕ
max_threads = 16

-- the history is that of a run of the program with so many steps for each thread, which ended so
abbrev pub IsShown : (program : Program) (steps : ℕ) (old new : Option (List ℕ)) → History → End → List Shape → Type 0
IsShown program steps old new h how shapes = IsRunOf program steps max_threads old new h how shapes
