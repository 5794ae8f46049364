-- What a part of the walk promises of the walker before it and behind it.
use Rattle.rb_interp.specs.declared.walker.Walker.{Walker}
use Rattle.rb_model.specs.declared.store.ThreadStore.{Ghosts}
use Rattle.std.specs.Prelude.{◌≡◌, ◌≤◌, ◌<◌, ℕ, List, ◌∷◌, length, slice_get, map}
use Rattle.rb_model.specs.declared.value.Value.{Value as Held}
use Rattle.rb_model.specs.Log.{Log}
use Rattle.rb_model.specs.Private.{Private}
use Rattle.rb_tree.specs.declared.span.NameId.{NameId}
use Rattle.rb_machine.specs.Scopes.{Script, Scope}
use Rattle.rb_machine.specs.Control.{State, Cont, Step, On, Eval, Then}
use Rattle.rb_machine.specs.Begin.{begin}
use Rattle.rb_tree.specs.declared.node.Node.{out-Node}
use Rattle.rb_code.specs.declared.code.Code.{Code}
use Rattle.rb_code.specs.Erase.{erase}
use Rattle.rb_machine.specs.Follows.{At}
use Rattle.rb_code.specs.Resolved.{Fits, every, fits}
use Rattle.rb_code.specs.Stands.{StandsFor}
use Rattle.rb_walk.specs.declared.came.Came.{Came as Registers}
use Rattle.rb_walk.specs.Outcome.{Outcome, Came, outcome}
use Rattle.rb_walk.specs.Carries.{Lies, Carries, Keeps, Reaches, Unread, Tested, scope_of, me_of}

-- where the machine stands, by the script, what waits, the scope, the depth and the steps that are left
abbrev pub From : Type 0
From = Script → List Cont → Scope → ℕ → ℕ → State

-- where a node is right, and where all of them are
abbrev pub node_fits : Code → Script → Fits
node_fits code S = fits S code

abbrev pub nodes_fit : List Code → Script → Fits
nodes_fit codes S = every (map (fits S) codes)

-- where the machine evaluates a node, where it does so for a step, and where the step of a node is counted
abbrev pub at_node : Code → From
at_node code S k sc d n = On (Eval (erase code)) k sc d n

abbrev pub at_node_then : Code → (Script → Step) → From
at_node_then code step S k sc d n = On (Eval (erase code)) (Then (step S) ∷ k) sc d n

abbrev pub begun : Code → From
begun code S k sc d n = begin S (out-Node (erase code)) k sc d n

-- what stands between the frame and the base stays
abbrev pub Kept : {O : Type 0} {g : Ghosts O} → (Script → Fits) → Walker O g → (room room' : List Held) → Type 0
Kept code old room room' = Keeps old.context.script.now old.context.program.now code old.base room room'

module _ {O : Type 0} {g : Ghosts O} where
  -- from where `from` stands, the machine comes to the outcome
  abbrev pub Leads : (Script → Fits) → From → (old new : Walker O g) → (room room' : List Held) → (depth : ℕ) → Outcome → Type 0
  Leads code from old new room room' depth o =
      Carries old.context.script.now old.context.program.now old.context.steps (me_of old.context.me) code from old.base depth old.left new.left room room' (g.log old.store) (g.log new.store) (g.private old.store) (g.private new.store) o

  -- from where `from` stands, the machine comes to where `to` stands
  abbrev pub Reached : (Script → Fits) → (from to : From) → (old new : Walker O g) → (room room' : List Held) → (depth : ℕ) → Type 0
  Reached code from to old new room room' depth =
      Reaches old.context.script.now old.context.program.now old.context.steps (me_of old.context.me) code from to old.base depth old.left new.left room room' (g.log old.store) (g.log new.store) (g.private old.store) (g.private new.store)

  -- from where `from` stands, the machine comes to what came
  abbrev pub WalksTo : (Script → Fits) → From → (old new : Walker O g) → (room room' : List Held) → (depth : ℕ) → Registers → Type 0
  WalksTo code from old new room room' depth r = Leads code from old new room room' depth (outcome r new.value new.leave)

  -- the same where no one reads the value
  abbrev pub WalksUnread : (Script → Fits) → From → (old new : Walker O g) → (room room' : List Held) → (depth : ℕ) → Registers → Type 0
  WalksUnread code from old new room room' depth r = Unread r (outcome r new.value new.leave) (Leads code from old new room room' depth)

  -- the same where no one reads more than whether it is true
  abbrev pub WalksTested : (Script → Fits) → From → (old new : Walker O g) → (room room' : List Held) → (depth : ℕ) → Registers → Type 0
  WalksTested code from old new room room' depth r = Tested r new.value (outcome r new.value new.leave) (Leads code from old new room room' depth)

  -- For every script that the code stands for: what stands between the frame and the base stays, and from where `from` stands, the machine
  -- comes to what came.
  abbrev pub Walks : (Script → Fits) → From → (old new : Walker O g) → (room room' : List Held) → (depth : ℕ) → Registers → Type 0
  Walks code from old new room room' depth r =
      (S : Script) (names : List NameId) (size : ℕ)
      → StandsFor old.context.script.now S → S.program ≡ old.context.program.now → Lies (code S) names size old.base (length room)
      → ((i : ℕ) → size ≤ i → i < old.base → slice_get room' i ≡ slice_get room i)
      × ((start : State) (k : List Cont)
      → At S old.context.steps start (g.log old.store) (g.private old.store) (from S k (scope_of (me_of old.context.me) names room) depth old.left)
      → Came S old.context.steps start (g.log new.store) (g.private new.store) (outcome r new.value new.leave) k (scope_of (me_of old.context.me) names room') depth new.left)

  -- What stays of a walker: where the frame ends, and what runs. Of the steps no more are left, and the row is as long as it was.
  abbrev pub Walked : (old new : Walker O g) → (room room' : List Held) → Type 0
  Walked old new room room' = (new.base ≡ old.base) × (new.context ≡ old.context) × (new.left ≤ old.left) × (length room' ≡ length room)

  -- the same without a row
  abbrev pub Stepped : (old new : Walker O g) → Type 0
  Stepped old new = (new.base ≡ old.base) × (new.context ≡ old.context) × (new.left ≤ old.left)

  -- and where no step is counted
  abbrev pub Unstepped : (old new : Walker O g) → Type 0
  Unstepped old new = (new.base ≡ old.base) × (new.context ≡ old.context) × (new.left ≡ old.left)

  -- and where the store stays too
  abbrev pub Untouched : (old new : Walker O g) → Type 0
  Untouched old new = (new.base ≡ old.base) × (new.context ≡ old.context) × (new.left ≡ old.left) × (new.store ≡ old.store)
