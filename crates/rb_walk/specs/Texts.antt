-- The texts of values, beside the machine.
use Rattle.rb_tree.specs.declared.node.Program.{Program}
use Rattle.std.specs.Prelude.{◌≡◌, ◌≤◌, ◌+◌, ℕ, Bool, true, false, List, [], ◌∷◌, length, map, take, drop, slice_get, Some, None}
use Rattle.std.specs.List.{list_any}
use Rattle.rb_tree.specs.declared.span.Span.{Span}
use Rattle.rb_tree.specs.declared.span.NameId.{NameId}
use Rattle.rb_model.specs.Values.{Value as Val, Str, plain}
use Rattle.rb_model.specs.declared.value.Ref.{Ref}
use Rattle.rb_model.specs.declared.value.Value.{Value as Held}
use Rattle.rb_model.specs.Log.{Log}
use Rattle.rb_model.specs.Private.{Private}
use Rattle.rb_machine.specs.Scopes.{Script, Scope}
use Rattle.rb_machine.specs.Control.{State, Cont, Then, Step, Style}
use Rattle.rb_machine.specs.Call.{own_text, give_text, print, show, write}
use Rattle.rb_machine.specs.Follows.{At}
use Rattle.rb_machine.specs.Texts.{shown}
use Rattle.rb_render.specs.declared.show.Form.{Form}
use Rattle.rb_render.specs.declared.show.Form.TheVariants as form
use Rattle.rb_code.specs.declared.scripted.CodeMethod.{CodeMethod}
use Rattle.rb_code.specs.declared.scripted.CodeScript.{CodeScript}
use Rattle.rb_code.specs.Erase.{erase_method}
use Rattle.rb_code.specs.Resolved.{method_fits, form_text}
use Rattle.rb_code.specs.Stands.{StandsFor}
use Rattle.rb_walk.specs.Outcome.{Outcome, Gave, Came}
use Rattle.rb_walk.specs.Carries.{me_of, scope_of}
use Rattle.rb_walk.specs.Answers.{is_thing}

-- a method of a resolved script is the one that a value is asked for its text, which is this object
pub record IsAsked (script : CodeScript) (program : Program) (v : Val) (object : Ref) (m : CodeMethod) : Type 0 where
  pub me : v ≡ me_of (Some object)
  pub finds : (S : Script) → StandsFor script S → S.program ≡ program → own_text S v ≡ Some (erase_method m)
  pub right : (S : Script) → StandsFor script S → method_fits S m ≡ true

-- a value is asked by no method for its text
abbrev pub IsUnasked : CodeScript → Program → Val → Type 0
IsUnasked script program v = (S : Script) → StandsFor script S → S.program ≡ program → own_text S v ≡ None

abbrev pub is_text : Val → Bool
is_text (Str bytes) = true
is_text v = false

-- a call asks values for their texts: `p` never does, and others only things
abbrev pub is_asking : Form → List Val → Bool
is_asking form.Inspect vs = false
is_asking f vs = list_any is_thing vs

-- a call writes these values one by one in this style
abbrev pub WritesBy : Style → Form → List Val → Type 0
WritesBy style form vs = (S : Script) (at : Span) (k : List Cont) (sc : Scope) (d left : ℕ) → print S (form_text form) vs at k sc d left ≡ write S style [] vs at k sc d left

-- an outcome, with the text of its value for the value
abbrev pub as_text : Program → Outcome → Outcome
as_text program (Gave v) = Gave (Str (shown program v))
as_text program o = o

-- From where the text of a value is asked for, the machine comes to that of the outcome's value.
abbrev pub Tells : CodeScript → Program → ℕ → Val → Val → Span → (base depth left left' : ℕ) → (room room' : List Held) → (log log' : Log) → (own own' : Private) → Outcome → Type 0
Tells script program N me v at base depth left left' room room' log log' own own' o =
    (S : Script) (start : State) (k : List Cont) (names : List NameId)
    → StandsFor script S → S.program ≡ program → length names ≤ base → base ≤ length room
    → At S N start log own (give_text S v at k (scope_of me names room) depth left)
    → Came S N start log' own' (as_text program o) k (scope_of me names room') depth left'

-- the same of the value of a slot
abbrev pub TellsSlot : CodeScript → Program → ℕ → Val → (slot : ℕ) → Span → (base depth left left' : ℕ) → (room room' : List Held) → (log log' : Log) → (own own' : Private) → Outcome → Type 0
TellsSlot script program N me slot at base depth left left' room room' log log' own own' o =
    (v : Held) → slice_get room slot ≡ Some v → Tells script program N me (plain v) at base depth left left' room room' log log' own own' o

-- From where values that stand from a slot on are written one by one, the machine comes to the outcome.
abbrev pub WritesTexts : CodeScript → Program → ℕ → Val → Style → (first count : ℕ) → Span → (depth left left' : ℕ) → (room room' : List Held) → (log log' : Log) → (own own' : Private) → Outcome → Type 0
WritesTexts script program N me style first count at depth left left' room room' log log' own own' o =
    (S : Script) (start : State) (k : List Cont) (names : List NameId)
    → StandsFor script S → S.program ≡ program → length names ≤ first → first + count ≤ length room
    → At S N start log own (write S style [] (map plain (take count (drop first room))) at k (scope_of me names room) depth left)
    → Came S N start log' own' o k (scope_of me names room') depth left'

-- From where values are to be written, the machine comes to where those that are left are to be written behind bytes.
abbrev pub WritesOn : CodeScript → Program → ℕ → Val → Style → (bytes : List ℕ) → (all rest : List Val) → (first : ℕ) → Span → (depth left left' : ℕ) → (room room' : List Held) → (log log' : Log) → (own own' : Private) → Type 0
WritesOn script program N me style bytes all rest first at depth left left' room room' log log' own own' =
    (S : Script) (start : State) (k : List Cont) (names : List NameId)
    → StandsFor script S → S.program ≡ program → length names ≤ first
    → At S N start log own (write S style [] all at k (scope_of me names room) depth left)
    → At S N start log' own' (write S style bytes rest at k (scope_of me names room') depth left')

-- bytes are shown by the machine, whatever is done behind it
abbrev pub ShowsBytes : ℕ → List ℕ → ℕ → Log → Log → Outcome → Type 0
ShowsBytes N bytes left log log' o =
    (S : Script) (start : State) (h : Private) (after : Step) (at : Span) (k : List Cont) (sc : Scope) (d : ℕ)
    → At S N start log h (show S bytes after at k sc d left) → Came S N start log' h o (Then after ∷ k) sc d left
