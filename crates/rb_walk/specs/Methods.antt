-- Methods of the script, beside the machine.
use Rattle.rb_tree.specs.declared.node.Program.{Program}
use Rattle.std.specs.Prelude.{◌≡◌, ◌≤◌, ◌+◌, ℕ, true, List, [], ◌∷◌, ◌++◌, length, map, take, drop, Option, Some, None, codes}
use Rattle.rb_tree.specs.declared.span.Span.{Span}
use Rattle.rb_tree.specs.declared.span.NameId.{NameId}
use Rattle.rb_tree.specs.declared.node.Method.{Method}
use Rattle.rb_model.specs.Values.{Value as Val, Nil, plain}
use Rattle.rb_model.specs.declared.value.Ref.{Ref}
use Rattle.rb_model.specs.declared.value.Value.{Value as Held}
use Rattle.rb_model.specs.Log.{Log}
use Rattle.rb_model.specs.Private.{Private}
use Rattle.rb_machine.specs.Scopes.{Script, Scope, Text, text_of}
use Rattle.rb_machine.specs.Control.{State, Cont, On, Following, Frame, Then, Instead, OfAttribute}
use Rattle.rb_machine.specs.Call.{invoke, enter, texted, methods_of, last_value, write_place}
use Rattle.rb_machine.specs.Follows.{At}
use Rattle.rb_machine.specs.Methods.{Answer, equal}
use Rattle.rb_builtin.specs.declared.builtin.Builtin.{Builtin}
use Rattle.rb_builtin.specs.declared.builtin.Builtin.TheVariants as builtin
use Rattle.rb_builtin.specs.Names.{builtin_of}
use Rattle.rb_code.specs.declared.code.Code.{Code}
use Rattle.rb_code.specs.declared.scripted.CodeMethod.{CodeMethod}
use Rattle.rb_code.specs.declared.scripted.CodeScript.{CodeScript}
use Rattle.rb_code.specs.Erase.{erase, erase_method}
use Rattle.rb_code.specs.Resolved.{method_fits, is_free}
use Rattle.rb_code.specs.Dispatch.{is_writer}
use Rattle.rb_code.specs.Stands.{StandsFor}
use Rattle.rb_walk.specs.Outcome.{Outcome, Came}
use Rattle.rb_walk.specs.Answers.{IsHeld}
use Rattle.rb_walk.specs.Carries.{me_of, scope_of}

-- the method of its class that the script finds for a value by a name
abbrev pub method_for : Script → Val → NameId → Option Method
method_for S v name = texted S (text_of S name) (methods_of S v)

-- a method of a resolved script is the one that a name finds for a value, which is this object
pub record IsTarget (script : CodeScript) (v : Val) (name : NameId) (object : Ref) (m : CodeMethod) : Type 0 where
  pub me : v ≡ me_of (Some object)
  pub finds : (S : Script) → StandsFor script S → method_for S v name ≡ Some (erase_method m)
  pub right : (S : Script) → StandsFor script S → method_fits S m ≡ true

-- no name finds a method for a value in any script
abbrev pub HasNoMethods : Val → Type 0
HasNoMethods v = (S : Script) (name : Text) → texted S name (methods_of S v) ≡ None

-- a name finds no method for a value
abbrev pub HasNone : CodeScript → Val → NameId → Type 0
HasNone script v name = (S : Script) → StandsFor script S → method_for S v name ≡ None

-- One leaf gives a value for which a name finds no method, and another leaf gives a value, which may be the same. Asked by `==` whether it is
-- the second, the first answers so.
abbrev pub IsCompared : CodeScript → Option Builtin → NameId → (left right : Code) → List Held → Answer → Type 0
IsCompared script method name left right room answer =
    (v : Val) × (w : Val) × (method ≡ Some builtin.Equal) × HasNone script v name × IsHeld left room v × IsHeld right room w × (equal v (w ∷ []) ≡ answer)

-- From where a method begins with the arguments that stand behind the frame, the machine comes to the outcome.
abbrev pub Enters : CodeScript → Program → ℕ → Val → Val → CodeMethod → (count : ℕ) → Span → (base depth left left' : ℕ) → (room room' : List Held) → (log log' : Log) → (own own' : Private) → Outcome → Type 0
Enters script program N me to method count at base depth left left' room room' log log' own own' o =
    (S : Script) (start : State) (k : List Cont) (names : List NameId)
    → StandsFor script S → S.program ≡ program → method_fits S method ≡ true → length names ≤ base → base + count ≤ length room
    → At S N start log own (enter S (erase_method method) to (map plain (take count (drop base room))) at k (scope_of me names room) depth left)
    → Came S N start log' own' o k (scope_of me names room') depth left'

-- The same with these arguments, of which there are as many as parameters, wherever they stand.
abbrev pub EntersApart : CodeScript → Program → ℕ → Val → CodeMethod → List Val → (depth left left' : ℕ) → (log log' : Log) → (own own' : Private) → Outcome → Type 0
EntersApart script program N to method args depth left left' log log' own own' o =
    (S : Script) (start : State) (k : List Cont) (sc : Scope) (at : Span)
    → StandsFor script S → S.program ≡ program → method_fits S method ≡ true → length args ≡ length method.params
    → At S N start log own (enter S (erase_method method) to args at k sc depth left)
    → Came S N start log' own' o k sc depth left'

-- From where the statements of a method stand, with its locals in this frame, the machine comes to the outcome of the call.
abbrev pub RunsIn : CodeScript → Program → ℕ → Val → CodeMethod → (frame : List Held) → (depth left left' : ℕ) → (log log' : Log) → (own own' : Private) → Outcome → Type 0
RunsIn script program N to method frame depth left left' log log' own own' o =
    (S : Script) (start : State) (k : List Cont) (sc : Scope)
    → StandsFor script S → S.program ≡ program → method_fits S method ≡ true → method.size ≤ length frame
    → At S N start log own (On (Following Nil (map erase method.body)) (Frame sc ∷ k) (scope_of to (S.method_names (erase_method method)) frame) depth left)
    → Came S N start log' own' o k sc depth left'

-- and from where it begins with one argument
abbrev pub EntersWith : CodeScript → Program → ℕ → Val → Val → CodeMethod → Val → Span → (base depth left left' : ℕ) → (room room' : List Held) → (log log' : Log) → (own own' : Private) → Outcome → Type 0
EntersWith script program N me to method arg at base depth left left' room room' log log' own own' o =
    (S : Script) (start : State) (k : List Cont) (names : List NameId)
    → StandsFor script S → S.program ≡ program → method_fits S method ≡ true → length names ≤ base → base ≤ length room
    → At S N start log own (enter S (erase_method method) to (arg ∷ []) at k (scope_of me names room) depth left)
    → Came S N start log' own' o k (scope_of me names room') depth left'

-- and as an assignment, whose value is the last of the arguments that stand behind the frame
abbrev pub StoresWith : CodeScript → Program → ℕ → Val → Val → CodeMethod → (count : ℕ) → Span → (base depth left left' : ℕ) → (room room' : List Held) → (log log' : Log) → (own own' : Private) → Outcome → Type 0
StoresWith script program N me to method count at base depth left left' room room' log log' own own' o =
    (S : Script) (start : State) (k : List Cont) (names : List NameId)
    → StandsFor script S → S.program ≡ program → method_fits S method ≡ true → length names ≤ base → base + count ≤ length room
    → At S N start log own (enter S (erase_method method) to (map plain (take count (drop base room))) at (Then (Instead (last_value S (map plain (take count (drop base room))))) ∷ k) (scope_of me names room) depth left)
    → Came S N start log' own' o k (scope_of me names room') depth left'

-- From where a method of a value is called with the arguments that stand behind the frame, the machine comes to the outcome.
abbrev pub Invokes : CodeScript → Program → ℕ → Val → Val → Option Builtin → NameId → (count : ℕ) → Span → (base depth left left' : ℕ) → (room room' : List Held) → (log log' : Log) → (own own' : Private) → Outcome → Type 0
Invokes script program N me v method name count at base depth left left' room room' log log' own own' o =
    (S : Script) (start : State) (k : List Cont) (names : List NameId)
    → StandsFor script S → S.program ≡ program → builtin_of (text_of S name) ≡ method → length names ≤ base → base + count ≤ length room
    → At S N start log own (invoke S v (text_of S name) (map plain (take count (drop base room))) None at k (scope_of me names room) depth left)
    → Came S N start log' own' o k (scope_of me names room') depth left'

-- the same of the name of a writer, where there is one
abbrev pub IsWriter : CodeScript → Val → Option NameId → Ref → CodeMethod → Type 0
IsWriter script v None object m = ⊥
IsWriter script v (Some writer) object m = IsTarget script v writer object m

abbrev pub HasNoWriter : CodeScript → Val → Option NameId → Type 0
HasNoWriter script v None = Unit {0}
HasNoWriter script v (Some writer) = HasNone script v writer

-- From where a value is written to an attribute, the machine comes to the outcome.
abbrev pub Writing : CodeScript → Program → ℕ → Val → Val → Option NameId → Val → Span → (base depth left left' : ℕ) → (room room' : List Held) → (log log' : Log) → (own own' : Private) → Outcome → Type 0
Writing script program N me v writer w at base depth left left' room room' log log' own own' o =
    (name : NameId) (S : Script) (start : State) (k : List Cont) (names : List NameId)
    → StandsFor script S → S.program ≡ program → is_writer S writer name ≡ true → is_free (text_of S name ++ codes "=") ≡ true → length names ≤ base → base ≤ length room
    → At S N start log own (write_place S w (OfAttribute v (text_of S name)) at k (scope_of me names room) depth left)
    → Came S N start log' own' o k (scope_of me names room') depth left'
