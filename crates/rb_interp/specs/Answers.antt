-- What a part of the walk promises that asks nothing of the script.
use Rattle.rb_interp.specs.declared.walker.Walker.{Walker}
use Rattle.rb_model.specs.declared.store.ThreadStore.{Ghosts}
use Rattle.std.specs.Prelude.{◌≡◌, ℕ, List, Option, None}
use Rattle.rb_tree.specs.declared.span.Span.{Span}
use Rattle.rb_tree.specs.declared.span.NameId.{NameId}
use Rattle.rb_model.specs.Values.{Value as Val}
use Rattle.rb_model.specs.Acts.{Act}
use Rattle.rb_machine.specs.Methods.{deed}
use Rattle.rb_builtin.specs.declared.builtin.Builtin.{Builtin}
use Rattle.rb_builtin.specs.Names.{builtin_of}
use Rattle.rb_walk.specs.declared.came.Came.{Came as Registers}
use Rattle.rb_walk.specs.Outcome.{Outcome, outcome}
use Rattle.rb_walk.specs.Answers.{OrMemory, outcome_of}
use Rattle.rb_walk.specs.Collections as collections
use Rattle.rb_walk.specs.Collections.{Comes, storing}
use Rattle.rb_walk.specs.Objects as objects
use Rattle.rb_interp.specs.Walks.{From}

module _ {O : Type 0} {g : Ghosts O} where
  -- from where a state stands that asks nothing of the script, the machine comes to the outcome
  abbrev pub ComesOut : From → (old new : Walker O g) → (depth : ℕ) → Outcome → Type 0
  ComesOut from old new depth o = Comes old.context.steps from old.context.program.now depth old.left new.left (g.log old.store) (g.log new.store) (g.private old.store) (g.private new.store) o

  -- and so to what came
  abbrev pub ComesTo : From → (old new : Walker O g) → (depth : ℕ) → Registers → Type 0
  ComesTo from old new depth r = Comes old.context.steps from old.context.program.now depth old.left new.left (g.log old.store) (g.log new.store) (g.private old.store) (g.private new.store) (outcome r new.value new.leave)

  -- and so with as many steps left, at any depth
  abbrev pub ComesAtOnce : From → (old new : Walker O g) → Registers → Type 0
  ComesAtOnce from old new r = (depth : ℕ) → Comes old.context.steps from old.context.program.now depth old.left old.left (g.log old.store) (g.log new.store) (g.private old.store) (g.private new.store) (outcome r new.value new.leave)

  -- what a built-in method of a value answers is what came, or memory is wanted
  abbrev pub AnswersBy : Option Builtin → Val → List Val → Span → (old new : Walker O g) → Registers → Type 0
  AnswersBy method receiver args at old new r =
      (name : List ℕ) → builtin_of name ≡ method → OrMemory (outcome_of (deed old.context.program.now receiver name args None) at) (outcome r new.value new.leave)

  -- the call of a built-in method of a value comes to what came
  abbrev pub CallsBuiltin : Option Builtin → Val → List Val → Span → (old new : Walker O g) → (depth : ℕ) → Registers → Type 0
  CallsBuiltin method receiver args at old new depth r =
      collections.CallsBuiltin old.context.steps old.context.program.now method receiver args at depth old.left new.left (g.log old.store) (g.log new.store) (g.private old.store) (g.private new.store) (outcome r new.value new.leave)

  -- and as an assignment, whose value is the last of the arguments
  abbrev pub StoresBy : Option Builtin → Val → List Val → Span → (old new : Walker O g) → (depth : ℕ) → Registers → Type 0
  StoresBy method receiver args at old new depth r =
      (name : List ℕ) → builtin_of name ≡ method
      → Comes old.context.steps (storing (deed old.context.program.now receiver name args None) args at) old.context.program.now depth old.left new.left (g.log old.store) (g.log new.store) (g.private old.store) (g.private new.store) (outcome r new.value new.leave)

  -- from where a thing is asked, the machine comes to what came
  abbrev pub AsksTo : Val → Act → Span → (old new : Walker O g) → Registers → Type 0
  AsksTo thing act at old new r = objects.Asks old.context.steps thing act at old.left (g.log old.store) (g.log new.store) (g.private old.store) (g.private new.store) (outcome r new.value new.leave)

  -- from where a value is written to a field of an object
  abbrev pub WritesField : Val → NameId → Val → Span → (old new : Walker O g) → Registers → Type 0
  WritesField object name value at old new r = objects.WritesField old.context.steps object name value at old.left (g.log old.store) (g.log new.store) (g.private old.store) (g.private new.store) (outcome r new.value new.leave)
