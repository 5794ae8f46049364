-- What a part of the walk does, beside the machine.
use Rattle.rb_tree.specs.declared.node.Program.{Program}
use Rattle.std.specs.Prelude.{◌≡◌, ◌≤◌, ◌<◌, ℕ, Bool, true, false, ◌&&◌, not, is_none, List, [], ◌∷◌, ◌++◌, length, map, take, drop, slice_get, Option, Some, None, codes}
use Rattle.std.specs.Str.{bytes_eq}
use Rattle.rb_tree.specs.declared.span.Span.{Span}
use Rattle.rb_tree.specs.declared.span.NameId.{NameId}
use Rattle.rb_model.specs.Values.{Value as Val, Nil, plain, truthy}
use Rattle.rb_model.specs.declared.value.Ref.{Ref}
use Rattle.rb_model.specs.declared.value.Value.{Value as Held}
use Rattle.rb_model.specs.declared.value.Value.TheVariants as held
use Rattle.rb_model.specs.Log.{Log}
use Rattle.rb_model.specs.Private.{Private}
use Rattle.rb_machine.specs.Scopes.{Script, Scope, text_of}
use Rattle.rb_machine.specs.Control.{State, Cont, On, Then, Passing, Aim, Step, AssignTo, WriteTo, OfLocal, Break, Next, Return}
use Rattle.rb_machine.specs.Call.{show}
use Rattle.rb_machine.specs.Follows.{At}
use Rattle.rb_builtin.specs.declared.builtin.Builtin.{Builtin}
use Rattle.rb_render.specs.declared.show.Form.{Form}
use Rattle.rb_render.specs.Forms.{written}
use Rattle.rb_code.specs.declared.code.BuiltinClass.{BuiltinClass}
use Rattle.rb_code.specs.declared.code.Code.{Code}
use Rattle.rb_code.specs.declared.scripted.CodeScript.{CodeScript}
use Rattle.rb_code.specs.Layout.{bound, has_slot, is_at}
use Rattle.rb_code.specs.Dispatch.{is_writer}
use Rattle.rb_code.specs.Erase.{erase}
use Rattle.rb_code.specs.Resolved.{Fits, every, fits, has_number, is_free, is_made, is_builtin, function_of, form_text, prints}
use Rattle.rb_code.specs.Stands.{StandsFor}
use Rattle.rb_walk.specs.declared.came.Came.{Came as Registers}
use Rattle.rb_walk.specs.Outcome.{Outcome, Gave, Left, Came, is_left, value_of}

-- code that is right for these names lies in a frame of this size, which ends at the base of what is free
pub record Lies (code : Fits) (names : List NameId) (size base end : ℕ) : Type 0 where
  pub fits : code names size ≡ true
  pub within : length names ≤ size
  pub below : size ≤ base
  pub room : base ≤ end

-- `self`: an object, or nil where there is none
abbrev pub me_of : Option Ref → Val
me_of None = Nil
me_of (Some thing) = plain (held.Ref thing)

-- a scope with these slots
abbrev pub scope_of : Val → List NameId → List Held → Scope
scope_of me names room = record { me = me; locals = bound names (map plain room) }

-- From where `from` stands, the machine of every script that the code stands for comes to the outcome, whatever the names in scope, the
-- frame and what waits are. `code` tells where it is right.
abbrev pub Carries : CodeScript → Program → ℕ → Val → (Script → Fits) → (Script → List Cont → Scope → ℕ → ℕ → State) → (base depth left left' : ℕ) → (room room' : List Held) → (log log' : Log) → (own own' : Private) → Outcome → Type 0
Carries script program N me code from base depth left left' room room' log log' own own' o =
    (S : Script) (start : State) (k : List Cont) (names : List NameId) (size : ℕ)
    → StandsFor script S → S.program ≡ program → Lies (code S) names size base (length room)
    → At S N start log own (from S k (scope_of me names room) depth left) → Came S N start log' own' o k (scope_of me names room') depth left'

-- what stands between the frame and the base stays
abbrev pub Keeps : CodeScript → Program → (Script → Fits) → (base : ℕ) → (room room' : List Held) → Type 0
Keeps script program code base room room' =
    (S : Script) (names : List NameId) (size : ℕ) → StandsFor script S → S.program ≡ program → Lies (code S) names size base (length room)
    → (i : ℕ) → size ≤ i → i < base → slice_get room' i ≡ slice_get room i

-- code that is right where two parts are
abbrev pub both : (Script → Fits) → (Script → Fits) → Script → Fits
both a b S names size = a S names size && b S names size

-- What comes of a statement whose value no one reads: either it is left, or it gives some value.
abbrev pub Unread : Registers → Outcome → (Outcome → Type 0) → Type 0
Unread r o comes = (is_left r ≡ true → comes o) × (is_left r ≡ false → (v : Val) × comes (Gave v))

-- What comes of a condition, of which no one reads more than whether it is true: either it is left, or it gives some value that is true
-- exactly where what came is.
abbrev pub Tested : Registers → Held → Outcome → (Outcome → Type 0) → Type 0
Tested r held o comes = (is_left r ≡ true → comes o) × (is_left r ≡ false → (v : Val) × (truthy v ≡ truthy (value_of r held)) × comes (Gave v))

-- whether a loop goes on behind its condition or its body
abbrev pub goes_on : Outcome → Bool
goes_on (Gave v) = true
goes_on (Left Next) = true
goes_on o = false

-- what a loop gives that does not go on
abbrev pub loop_exit : Outcome → Outcome
loop_exit (Left Break) = Gave Nil
loop_exit o = o

-- what a call gives behind its body
abbrev pub call_exit : Outcome → Outcome
call_exit (Left (Return v)) = Gave v
call_exit (Left e) = Gave Nil
call_exit o = o

-- a step that gives its value to a local
pub data Assigns (name : NameId) : Step → Type 0 where
  plainly : Assigns name (AssignTo name)
  updating : (at : Span) → Assigns name (WriteTo (OfLocal name) at)

-- where a name has this slot, and code behind it is right
abbrev pub at_slot : ℕ → NameId → (Script → Fits) → Script → Fits
at_slot slot name code S names size = has_slot name names slot && code S names size

-- where a name has this built-in method's number, and code behind it is right
abbrev pub numbered : Option Builtin → NameId → (Script → Fits) → Script → Fits
numbered number name code S names size = has_number S number name && code S names size

-- where a name has this top-level method's number, and code behind it is right
abbrev pub called : ℕ → NameId → (Script → Fits) → Script → Fits
called number name code S names size = is_at (function_of S name) number && code S names size

-- where these are the numbers of a class of this name and of its `initialize`, and code behind it is right
abbrev pub made_by : ℕ → Option ℕ → NameId → (Script → Fits) → Script → Fits
made_by class first name code S names size = is_made S class first name && code S names size

-- where this is the name of a class that is built in, and code behind it is right
abbrev pub built_by : BuiltinClass → NameId → (Script → Fits) → Script → Fits
built_by class name code S names size = is_builtin S class name && code S names size

-- where this is the name of the methods that write the attribute of a name, which no built-in one does, and code behind it is right
abbrev pub written_by : Option NameId → NameId → (Script → Fits) → Script → Fits
written_by writer name code S names size = is_writer S writer name && (is_free (text_of S name ++ codes "=") && code S names size)

-- where, besides, this is the number of the built-in method that reads it
abbrev pub attribute : Option Builtin → Option NameId → NameId → (Script → Fits) → Script → Fits
attribute number writer name code S names size = has_number S number name && written_by writer name code S names size

-- where a name is that of no top-level method and of none that prints, and code behind it is right
abbrev pub unnamed : NameId → (Script → Fits) → Script → Fits
unnamed name code S names size = is_none (function_of S name) && (not (prints (text_of S name)) && code S names size)

-- where a name is that of a method that prints, and code behind it is right
abbrev pub printing : Form → NameId → (Script → Fits) → Script → Fits
printing form name code S names size = is_none (function_of S name) && (bytes_eq (text_of S name) (form_text form) && code S names size)

-- the arguments of a call stand behind the frame, or one of them left
abbrev pub Passes : CodeScript → Program → ℕ → Val → List Code → (base depth left left' : ℕ) → (room room' : List Held) → (log log' : Log) → (own own' : Private) → Registers → Outcome → Type 0
Passes script program N me args base depth left left' room room' log log' own own' r o =
    (aim : Aim) (at : Span) (S : Script) (start : State) (k : List Cont) (names : List NameId) (size : ℕ)
    → StandsFor script S → S.program ≡ program → Lies (every (map (fits S) args)) names size base (length room)
    → At S N start log own (On (Passing aim [] (map erase args) at) k (scope_of me names room) depth left)
    → (is_left r ≡ true → Came S N start log' own' o k (scope_of me names room') depth left')
    × (is_left r ≡ false → At S N start log' own' (On (Passing aim (map plain (take (length args) (drop base room'))) [] at) k (scope_of me names room') depth left'))

-- what is shown is shown by the machine, whatever is done behind it
abbrev pub Shows : Program → ℕ → Form → List Val → Span → ℕ → Log → Log → Outcome → Type 0
Shows program N form values at left log log' o =
    (S : Script) (start : State) (h : Private) (after : Step) (k : List Cont) (sc : Scope) (d : ℕ)
    → At S N start log h (show S (written program form values) after at k sc d left) → Came S N start log' h o (Then after ∷ k) sc d left

-- From where `from` stands, the machine comes to where `to` stands.
abbrev pub Reaches : CodeScript → Program → ℕ → Val → (Script → Fits) → (from to : Script → List Cont → Scope → ℕ → ℕ → State) → (base depth left left' : ℕ) → (room room' : List Held) → (log log' : Log) → (own own' : Private) → Type 0
Reaches script program N me code from to base depth left left' room room' log log' own own' =
    (S : Script) (start : State) (k : List Cont) (names : List NameId) (size : ℕ)
    → StandsFor script S → S.program ≡ program → Lies (code S) names size base (length room)
    → At S N start log own (from S k (scope_of me names room) depth left) → At S N start log' own' (to S k (scope_of me names room') depth left')
