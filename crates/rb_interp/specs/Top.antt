-- What the runs of the top level of a script, and of the bodies of its threads, promise.
use Rattle.rb_interp.specs.declared.walker.Walker.{Walker}
use Rattle.rb_model.specs.declared.store.ThreadStore.{Ghosts}
use Rattle.std.specs.Prelude.{◌≡◌, ℕ, List, [], map, Some, slice_get}
use Rattle.rb_model.specs.Values.{Nil}
use Rattle.rb_model.specs.declared.value.Value.{Value as Held}
use Rattle.rb_machine.specs.Scopes.{Script, fresh}
use Rattle.rb_machine.specs.Control.{State, Cont, On, Following}
use Rattle.rb_machine.specs.Follows.{At}
use Rattle.rb_code.specs.declared.scripted.CodeBody.{CodeBody}
use Rattle.rb_code.specs.Erase.{erase}
use Rattle.rb_code.specs.Stands.{StandsFor}
use Rattle.rb_walk.specs.declared.came.Came.{Came as Registers}
use Rattle.rb_walk.specs.Outcome.{Came, outcome}
use Rattle.rb_walk.specs.Carries.{scope_of}
use Rattle.rb_interp.specs.Walks.{Walks, nodes_fit}

module _ {O : Type 0} {g : Ghosts O} where
  -- from where the top level begins, the machine comes to what came, with its locals in the row
  abbrev pub RunsTop : (old new : Walker O g) → (room' : List Held) → Registers → Type 0
  RunsTop old new room' r =
      (S : Script) (start : State) (k : List Cont) → StandsFor old.context.script.now S → S.program ≡ old.context.program.now
      → At S old.context.steps start (g.log old.store) (g.private old.store) (On (Following Nil S.program.main) k (record { me = Nil; locals = fresh S.main_names [] }) 0 old.left)
      → Came S old.context.steps start (g.log new.store) (g.private new.store) (outcome r new.value new.leave) k (scope_of Nil S.main_names room') 0 new.left

  -- from where the statements of the body of this number begin, the machine comes to what came
  abbrev pub RunsBody : ℕ → (old new : Walker O g) → (room room' : List Held) → Registers → Type 0
  RunsBody number old new room room' r =
      (b : CodeBody) → slice_get old.context.script.now.bodies number ≡ Some b → Walks (nodes_fit b.body) (λ S k sc d n. On (Following Nil (map erase b.body)) k sc d n) old new room room' 0 r
