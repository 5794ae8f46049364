-- What is asked of things that are not the thread's own, beside the machine.
use Rattle.std.specs.Prelude.{◌≡◌, ◌≤◌, ◌&&◌, ℕ, true, List, [], ◌∷◌, length, map, slice_get, Option, Some, None}
use Rattle.std.specs.Option.{option_map}
use Rattle.rb_tree.specs.declared.span.NameId.{NameId}
use Rattle.rb_tree.specs.declared.node.Program.{Program}
use Rattle.rb_tree.specs.declared.span.Span.{Span}
use Rattle.rb_model.specs.Values.{Value as Val, Nil, To, or_nil, plain}
use Rattle.rb_model.specs.declared.value.Ref.{Ref}
use Rattle.rb_model.specs.declared.value.Value.{Value as Held}
use Rattle.rb_model.specs.Acts.{Reply}
use Rattle.rb_model.specs.Acts as reply
use Rattle.rb_model.specs.Ends.{Raised}
use Rattle.rb_model.specs.Ends as ending
use Rattle.rb_model.specs.Log.{Log}
use Rattle.rb_model.specs.Private.{Private}
use Rattle.rb_machine.specs.Scopes.{Script, Scope}
use Rattle.rb_machine.specs.Control.{State, Cont}
use Rattle.rb_machine.specs.Call as machine
use Rattle.rb_machine.specs.Move.{Next, move, replied, left_in}
use Rattle.rb_machine.specs.Follows.{At}
use Rattle.rb_code.specs.Layout.{have_slots}
use Rattle.rb_code.specs.Resolved.{Fits}
use Rattle.rb_walk.specs.Outcome.{Outcome, Gave, Over, Came, WasReplied}
use Rattle.rb_walk.specs.Carries.{me_of, scope_of}

-- how a reply comes out that nothing but its value is taken of
abbrev pub outcome_by : Reply → Span → Outcome
outcome_by (reply.Value v) at = Gave v
outcome_by (reply.Elements vs) at = Gave Nil
outcome_by (reply.Pairs ps) at = Gave Nil
outcome_by reply.Done at = Gave Nil
outcome_by (reply.Started number thread) at = Gave (To thread)
outcome_by (reply.Ended (ending.Value v)) at = Gave v
outcome_by (reply.Ended how) at = Over how
outcome_by (reply.Failed fault) at = Over (Raised fault at)

-- From where the machine wants something, it goes on with the reply, which the last entry tells.
abbrev pub Replied : ℕ → Next → Reply → (left : ℕ) → (log log' : Log) → (own own' : Private) → Type 0
Replied N want reply left log log' own own' =
    WasReplied log' reply
    × ((S : Script) (start s : State) → At S N start log own s → move S s ≡ want → left_in s ≡ left → At S N start log' own' (replied s reply))

-- From where the machine wants something, it comes to the outcome.
abbrev pub Unreplied : ℕ → Next → (left : ℕ) → (log log' : Log) → (own own' : Private) → Outcome → Type 0
Unreplied N want left log log' own own' o =
    (S : Script) (start s : State) (k : List Cont) (sc : Scope) (d : ℕ) → At S N start log own s → move S s ≡ want → left_in s ≡ left → Came S N start log' own' o k sc d left

-- ---- threads that are started

-- `self`, where it is an object
abbrev pub own_self : Option Ref → List Val
own_self None = []
own_self (Some object) = me_of (Some object) ∷ []

-- the value of a slot
abbrev pub value_at : List Held → ℕ → Val
value_at room slot = or_nil (option_map plain (slice_get room slot))

-- code with slots of the locals that the body of a thread captures
abbrev pub capturing : (body : ℕ) → List ℕ → (Script → Fits) → Script → Fits
capturing body slots code S names size = have_slots (S.captured_names body) names slots && code S names size

-- From where a thread is to be started, the machine comes to the outcome.
abbrev pub Starts : Program → ℕ → Val → (body : ℕ) → List ℕ → List Val → Span → (left : ℕ) → List Held → (log log' : Log) → (own own' : Private) → Outcome → Type 0
Starts program N me body slots args at left room log log' own own' o =
    (S : Script) (start : State) (k : List Cont) (names : List NameId) (d : ℕ) → S.program ≡ program → have_slots (S.captured_names body) names slots ≡ true → length names ≤ length room
    → At S N start log own (machine.start S body args at k (scope_of me names room) d left) → Came S N start log' own' o k (scope_of me names room) d left
