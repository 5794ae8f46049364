-- What is asked of things, beside the machine.
use Rattle.rb_tree.specs.declared.node.Program.{Program}
use Rattle.std.specs.Prelude.{◌≡◌, ◌≤◌, ◌+◌, ℕ, true, List, ◌∷◌, length, map, take, drop, Option}
use Rattle.rb_tree.specs.declared.span.Span.{Span}
use Rattle.rb_tree.specs.declared.span.NameId.{NameId}
use Rattle.rb_tree.specs.declared.node.AssignOp.{AssignOp}
use Rattle.rb_model.specs.Values.{Value as Val, To, plain}
use Rattle.rb_model.specs.declared.value.Value.{Value as Held}
use Rattle.rb_model.specs.Acts.{Act, SetField}
use Rattle.rb_model.specs.Log.{Log}
use Rattle.rb_model.specs.Private.{Private}
use Rattle.rb_machine.specs.Scopes.{Script, Scope}
use Rattle.rb_machine.specs.Control.{State, Cont, On, Then, Give, Step, Instead, FieldTo, GlobalTo, WriteTo, Place, OfField, OfGlobal}
use Rattle.rb_machine.specs.Call.{ask_of, globals, initialize, read_place}
use Rattle.rb_machine.specs.Follows.{At}
use Rattle.rb_code.specs.declared.scripted.CodeScript.{CodeScript}
use Rattle.rb_code.specs.declared.code.Code.{Code}
use Rattle.rb_code.specs.Erase.{erase}
use Rattle.rb_code.specs.Resolved.{fits, is_made}
use Rattle.rb_code.specs.Stands.{StandsFor}
use Rattle.rb_walk.specs.Outcome.{Outcome, Came}
use Rattle.rb_walk.specs.Carries.{scope_of}

-- From where something is asked of a value, the machine comes to the outcome.
abbrev pub Asks : ℕ → Val → Act → Span → (left : ℕ) → (log log' : Log) → (own own' : Private) → Outcome → Type 0
Asks N v act at left log log' own own' o =
    (S : Script) (start : State) (k : List Cont) (sc : Scope) (d : ℕ)
    → At S N start log own (ask_of v act at k sc d left) → Came S N start log' own' o k sc d left

-- the same of a value that is written to a field of an object, and given on
abbrev pub WritesField : ℕ → Val → NameId → Val → Span → (left : ℕ) → (log log' : Log) → (own own' : Private) → Outcome → Type 0
WritesField N me name v at left log log' own own' o =
    (S : Script) (start : State) (k : List Cont) (sc : Scope) (d : ℕ)
    → At S N start log own (ask_of me (SetField name v) at (Then (Instead v) ∷ k) sc d left) → Came S N start log' own' o k sc d left

-- From where an assignment with an operator reads an instance variable of `self`, the machine comes to the value that it gives, and no slot
-- is another.
abbrev pub UpdatesField : CodeScript → ℕ → Val → NameId → AssignOp → Code → (depth left left' : ℕ) → List Held → Log → (own own' : Private) → Val → Type 0
UpdatesField script N me name op value depth left left' room log own own' v =
    (S : Script) (start : State) (k : List Cont) (names : List NameId) (size : ℕ) (at : Span)
    → StandsFor script S → fits S value names size ≡ true → length names ≤ length room
    → At S N start log own (read_place S (OfField name) op (erase value) at k (scope_of me names room) depth left)
    → At S N start log own' (On (Give v) k (scope_of me names room) depth left')

-- a variable of a thing: an instance variable of `self`, or a global variable
pub data IsVariable (me owner : Val) (name : NameId) : Place → Type 0 where
  of_self : owner ≡ me → IsVariable me owner name (OfField name)
  of_all : owner ≡ To globals → IsVariable me owner name (OfGlobal name)

-- a step that gives its value to one
pub data Fields (me owner : Val) (name : NameId) (at : Span) : Step → Type 0 where
  plainly : owner ≡ me → Fields me owner name at (FieldTo name at)
  globally : owner ≡ To globals → Fields me owner name at (GlobalTo name at)
  updating : (place : Place) → IsVariable me owner name place → Fields me owner name at (WriteTo place at)

-- From where a new object is to be initialized with the arguments that stand behind the frame, the machine comes to the outcome.
abbrev pub Creates : CodeScript → Program → ℕ → Val → Val → ℕ → Option ℕ → (count : ℕ) → Span → (base depth left left' : ℕ) → (room room' : List Held) → (log log' : Log) → (own own' : Private) → Outcome → Type 0
Creates script program N me object class first count at base depth left left' room room' log log' own own' o =
    (name : NameId) (S : Script) (start : State) (k : List Cont) (names : List NameId)
    → StandsFor script S → S.program ≡ program → is_made S class first name ≡ true → length names ≤ base → base + count ≤ length room
    → At S N start log own (initialize S object (map plain (take count (drop base room))) at k (scope_of me names room) depth left)
    → Came S N start log' own' o k (scope_of me names room') depth left'
