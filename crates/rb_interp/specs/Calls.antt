-- What a part of the walk promises that calls a method of the script.
use Rattle.rb_interp.specs.declared.walker.Walker.{Walker}
use Rattle.rb_model.specs.declared.store.ThreadStore.{Ghosts}
use Rattle.std.specs.Prelude.{ℕ, List, Option}
use Rattle.rb_tree.specs.declared.span.Span.{Span}
use Rattle.rb_tree.specs.declared.span.NameId.{NameId}
use Rattle.rb_model.specs.Values.{Value as Val}
use Rattle.rb_model.specs.declared.value.Value.{Value as Held}
use Rattle.rb_builtin.specs.declared.builtin.Builtin.{Builtin}
use Rattle.rb_code.specs.declared.code.Code.{Code}
use Rattle.rb_code.specs.declared.code.CodeBlock.{CodeBlock}
use Rattle.rb_code.specs.declared.scripted.CodeMethod.{CodeMethod}
use Rattle.rb_walk.specs.declared.came.Came.{Came as Registers}
use Rattle.rb_walk.specs.Outcome.{Outcome, outcome}
use Rattle.rb_walk.specs.Carries as carries
use Rattle.rb_walk.specs.Carries.{Unread, me_of}
use Rattle.rb_walk.specs.Methods as methods
use Rattle.rb_walk.specs.Objects as objects
use Rattle.rb_walk.specs.Readers as readers
use Rattle.rb_walk.specs.Owning as owning
use Rattle.rb_walk.specs.Walks as walks

module _ {O : Type 0} {g : Ghosts O} where
  -- the arguments are passed, or the machine comes to what came instead
  abbrev pub Passes : List Code → (old new : Walker O g) → (room room' : List Held) → (depth : ℕ) → Registers → Type 0
  Passes args old new room room' depth r =
      carries.Passes old.context.script.now old.context.program.now old.context.steps (me_of old.context.me) args old.base depth old.left new.left room room' (g.log old.store) (g.log new.store) (g.private old.store) (g.private new.store) r (outcome r new.value new.leave)

  -- from where a method begins with the arguments that stand behind the frame, the machine comes to what came
  abbrev pub Enters : Val → CodeMethod → (count : ℕ) → Span → (old new : Walker O g) → (room room' : List Held) → (depth : ℕ) → Registers → Type 0
  Enters to method count at old new room room' depth r =
      methods.Enters old.context.script.now old.context.program.now old.context.steps (me_of old.context.me) to method count at old.base depth old.left new.left room room' (g.log old.store) (g.log new.store) (g.private old.store) (g.private new.store) (outcome r new.value new.leave)

  -- the same with these arguments, of which there are as many as parameters, wherever they stand
  abbrev pub EntersApart : Val → CodeMethod → List Val → (old new : Walker O g) → (depth : ℕ) → Registers → Type 0
  EntersApart to method args old new depth r =
      methods.EntersApart old.context.script.now old.context.program.now old.context.steps to method args depth old.left new.left (g.log old.store) (g.log new.store) (g.private old.store) (g.private new.store) (outcome r new.value new.leave)

  -- from where the statements of a method stand, with its locals in this frame, the machine comes to what came of the call
  abbrev pub RunsIn : Val → CodeMethod → (frame : List Held) → (old new : Walker O g) → (depth : ℕ) → Registers → Type 0
  RunsIn to method frame old new depth r =
      methods.RunsIn old.context.script.now old.context.program.now old.context.steps to method frame depth old.left new.left (g.log old.store) (g.log new.store) (g.private old.store) (g.private new.store) (outcome r new.value new.leave)

  -- the same where no one reads the value
  abbrev pub EntersUnread : Val → CodeMethod → (count : ℕ) → Span → (old new : Walker O g) → (room room' : List Held) → (depth : ℕ) → Registers → Type 0
  EntersUnread to method count at old new room room' depth r =
      Unread r (outcome r new.value new.leave) (methods.Enters old.context.script.now old.context.program.now old.context.steps (me_of old.context.me) to method count at old.base depth old.left new.left room room' (g.log old.store) (g.log new.store) (g.private old.store) (g.private new.store))

  -- and from where it begins with one argument
  abbrev pub EntersWith : Val → CodeMethod → Val → Span → (old new : Walker O g) → (room room' : List Held) → (depth : ℕ) → Registers → Type 0
  EntersWith to method arg at old new room room' depth r =
      methods.EntersWith old.context.script.now old.context.program.now old.context.steps (me_of old.context.me) to method arg at old.base depth old.left new.left room room' (g.log old.store) (g.log new.store) (g.private old.store) (g.private new.store) (outcome r new.value new.leave)

  -- and as an assignment, whose value is the last of the arguments
  abbrev pub StoresWith : Val → CodeMethod → (count : ℕ) → Span → (old new : Walker O g) → (room room' : List Held) → (depth : ℕ) → Registers → Type 0
  StoresWith to method count at old new room room' depth r =
      methods.StoresWith old.context.script.now old.context.program.now old.context.steps (me_of old.context.me) to method count at old.base depth old.left new.left room room' (g.log old.store) (g.log new.store) (g.private old.store) (g.private new.store) (outcome r new.value new.leave)

  -- from where a method of a value is called with the arguments behind the frame
  abbrev pub Invokes : Val → Option Builtin → NameId → (count : ℕ) → Span → (old new : Walker O g) → (room room' : List Held) → (depth : ℕ) → Registers → Type 0
  Invokes receiver method name count at old new room room' depth r =
      methods.Invokes old.context.script.now old.context.program.now old.context.steps (me_of old.context.me) receiver method name count at old.base depth old.left new.left room room' (g.log old.store) (g.log new.store) (g.private old.store) (g.private new.store) (outcome r new.value new.leave)

  -- from where a value is written to an attribute
  abbrev pub Writing : Val → Option NameId → Val → Span → (old new : Walker O g) → (room room' : List Held) → (depth : ℕ) → Registers → Type 0
  Writing receiver writer value at old new room room' depth r =
      methods.Writing old.context.script.now old.context.program.now old.context.steps (me_of old.context.me) receiver writer value at old.base depth old.left new.left room room' (g.log old.store) (g.log new.store) (g.private old.store) (g.private new.store) (outcome r new.value new.leave)

  -- from where an object of a class is created with the arguments behind the frame
  abbrev pub Creates : Val → ℕ → Option ℕ → (count : ℕ) → Span → (old new : Walker O g) → (room room' : List Held) → (depth : ℕ) → Registers → Type 0
  Creates object class first count at old new room room' depth r =
      objects.Creates old.context.script.now old.context.program.now old.context.steps (me_of old.context.me) object class first count at old.base depth old.left new.left room room' (g.log old.store) (g.log new.store) (g.private old.store) (g.private new.store) (outcome r new.value new.leave)

  -- an iteration of a block over what it is given
  abbrev pub Iterates : CodeBlock → List Val → (old new : Walker O g) → (room room' : List Held) → (depth : ℕ) → Registers → Type 0
  Iterates block elements old new room room' depth r =
      walks.Iterates old.context.script.now old.context.program.now old.context.steps (me_of old.context.me) block elements old.base depth old.left new.left room room' (g.log old.store) (g.log new.store) (g.private old.store) (g.private new.store) (outcome r new.value new.leave)

  -- the body of a block that owns a mutex
  abbrev pub Owns : CodeBlock → (old new : Walker O g) → (room room' : List Held) → (depth : ℕ) → Registers → Type 0
  Owns block old new room room' depth r =
      owning.Owns old.context.script.now old.context.program.now old.context.steps (me_of old.context.me) block old.base depth old.left new.left room room' (g.log old.store) (g.log new.store) (g.private old.store) (g.private new.store) (outcome r new.value new.leave)

  -- from where a method without arguments is called on what a node gives, the machine comes to what came; the row stays
  abbrev pub SendsTo : Code → Option Builtin → NameId → Span → (old new : Walker O g) → (room : List Held) → (depth : ℕ) → Registers → Type 0
  SendsTo receiver method name at old new room depth r =
      readers.SendsTo old.context.script.now old.context.program.now old.context.steps (me_of old.context.me) receiver method name at depth old.left new.left room (g.log old.store) (g.log new.store) (g.private old.store) (g.private new.store) (outcome r new.value new.leave)

  -- from where a node is evaluated, the machine comes to the outcome; the row stays
  abbrev pub EvaluatesTo : Code → (old new : Walker O g) → (room : List Held) → (depth : ℕ) → Outcome → Type 0
  EvaluatesTo code old new room depth o =
      readers.EvaluatesTo old.context.script.now old.context.program.now old.context.steps (me_of old.context.me) code depth old.left new.left room (g.log old.store) (g.log new.store) (g.private old.store) (g.private new.store) o

  -- from where a method begins with these arguments, the machine comes to the outcome, without the row
  abbrev pub EntersAtOnce : Val → CodeMethod → List Val → (old new : Walker O g) → (depth : ℕ) → Outcome → Type 0
  EntersAtOnce to method args old new depth o =
      readers.EntersAtOnce old.context.steps to method args depth old.left new.left (g.log old.store) (g.log new.store) (g.private old.store) (g.private new.store) o

  -- the same where no one reads the value
  abbrev pub AssignsAtOnce : Val → CodeMethod → List Val → (old new : Walker O g) → (depth : ℕ) → Registers → Type 0
  AssignsAtOnce to method args old new depth r =
      readers.EntersUnread old.context.steps to method args depth old.left new.left (g.log old.store) (g.log new.store) (g.private old.store) (g.private new.store) r (outcome r new.value new.leave)
