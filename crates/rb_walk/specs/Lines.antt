-- Arrays that are written line by line, and values one by one, beside the machine.
use Rattle.rb_tree.specs.declared.node.Program.{Program}
use Rattle.std.specs.Prelude.{◌≡◌, ◌≤◌, ◌+◌, ℕ, true, false, nat_lt, if◌then◌else◌, List, ◌∷◌, ◌++◌, length, slice_get, Option, Some, None}
use Rattle.rb_tree.specs.declared.span.Span.{Span}
use Rattle.rb_tree.specs.declared.span.NameId.{NameId}
use Rattle.rb_model.specs.Values.{Value as Val, To, plain}
use Rattle.rb_model.specs.declared.value.Ref.{Ref}
use Rattle.rb_model.specs.declared.value.Value.{Value as Held}
use Rattle.rb_model.specs.declared.fault.Fault.TheVariants.{TextTooLong}
use Rattle.rb_model.specs.Log.{Log}
use Rattle.rb_model.specs.Private.{Private}
use Rattle.rb_machine.specs.Scopes.{Script, Scope}
use Rattle.rb_machine.specs.Control.{State, Cont, On, Then, Under, Drafting, Style, Lines, Lined, Draft, WriteBehind, LinesBehind, LineOf}
use Rattle.rb_machine.specs.Drafts.{draft_of, with_line}
use Rattle.rb_machine.specs.Texts.{max_bytes}
use Rattle.rb_machine.specs.Call.{raised, going, give_text, write}
use Rattle.rb_machine.specs.Move.{left_in}
use Rattle.rb_machine.specs.Follows.{At}
use Rattle.rb_builtin.specs.Deeds.{thing_of}
use Rattle.rb_render.specs.declared.draft.Want.{Want}
use Rattle.rb_render.specs.Drafting.{Wants}
use Rattle.rb_code.specs.declared.scripted.CodeScript.{CodeScript}
use Rattle.rb_code.specs.Stands.{StandsFor}
use Rattle.rb_walk.specs.declared.came.Came.{Came as Registers}
use Rattle.rb_walk.specs.Outcome.{Outcome, Came, is_left}
use Rattle.rb_walk.specs.Carries.{scope_of}

-- ---- which values are written line by line

-- this array is written line by line, where it is the value to be written
abbrev pub IsLined : Ref → Style → Option Val → Type 0
IsLined array style None = ⊥
IsLined array style (Some v) =
    (style ≡ Lines)
    × ((S : Script) (bytes : List ℕ) (vs : List Val) (at : Span) (k : List Cont) (sc : Scope) (d left : ℕ)
    → write S style bytes (v ∷ vs) at k sc d left ≡ On (Drafting (draft_of Lined (To (thing_of array))) at) (Then (LinesBehind bytes vs at) ∷ k) sc d left)

-- the text of a value is written
abbrev pub IsUnlined : Style → Option Val → Type 0
IsUnlined style None = Unit {0}
IsUnlined style (Some v) = (S : Script) (bytes : List ℕ) (vs : List Val) (at : Span) (k : List Cont) (sc : Scope) (d left : ℕ)
    → write S style bytes (v ∷ vs) at k sc d left ≡ give_text S v at (Then (WriteBehind style bytes vs at) ∷ k) sc d left

-- ---- an array line by line

-- A line joins a text: the machine goes on with the text as it is then, or comes to the outcome.
abbrev pub JoinsLine : ℕ → (line : List ℕ) → (old new : Draft) → Span → (left : ℕ) → Log → Private → Registers → Outcome → Type 0
JoinsLine N line old new at left log own r o =
    (S : Script) (start : State) (k : List Cont) (sc : Scope) (d : ℕ)
    → At S N start log own (going (with_line old line) at k sc d left)
    → (is_left r ≡ true → Came S N start log own o k sc d left)
    × (is_left r ≡ false → At S N start log own (On (Drafting new at) k sc d left))

-- From where a value is asked for its text as a line, the machine goes on with the text that has the line, or comes to the outcome.
abbrev pub AsksLine : CodeScript → Program → ℕ → Val → Val → (old new : Draft) → Span → (base depth left left' : ℕ) → (room room' : List Held) → (log log' : Log) → (own own' : Private) → Registers → Outcome → Type 0
AsksLine script program N me v old new at base depth left left' room room' log log' own own' r o =
    (S : Script) (start : State) (k : List Cont) (names : List NameId)
    → StandsFor script S → S.program ≡ program → length names ≤ base → base ≤ length room
    → At S N start log own (give_text S v at (Under depth ∷ Then (LineOf old at) ∷ k) (scope_of me names room) (depth + length old.begun) left)
    → (is_left r ≡ true → Came S N start log' own' o k (scope_of me names room') depth left')
    × (is_left r ≡ false → At S N start log' own' (On (Drafting new at) k (scope_of me names room') depth left'))

-- What a text needs is done, of which it then stands so: the machine goes on with it, or comes to the outcome.
abbrev pub AdvancesLine : CodeScript → Program → ℕ → Val → Want → (old new : Draft) → Span → (base depth left left' : ℕ) → (room room' : List Held) → (log log' : Log) → (own own' : Private) → Registers → Outcome → Type 0
AdvancesLine script program N me want old new at base depth left left' room room' log log' own own' r o =
    (t : Draft) (S : Script) (start : State) (k : List Cont) (names : List NameId)
    → StandsFor script S → S.program ≡ program → length names ≤ base → base ≤ length room → Wants program t want old
    → At S N start log own (On (Drafting t at) k (scope_of me names room) depth left)
    → (is_left r ≡ true → Came S N start log' own' o k (scope_of me names room') depth left')
    × (is_left r ≡ false → At S N start log' own' (On (Drafting new at) k (scope_of me names room') depth left'))

-- From where an array begins to be written line by line, the machine comes to where its text stands so.
abbrev pub LinesOn : CodeScript → Program → ℕ → Val → Ref → Draft → Span → (base depth left left' : ℕ) → (room room' : List Held) → (log log' : Log) → (own own' : Private) → Type 0
LinesOn script program N me array t at base depth left left' room room' log log' own own' =
    (S : Script) (start : State) (k : List Cont) (names : List NameId)
    → StandsFor script S → S.program ≡ program → length names ≤ base → base ≤ length room
    → At S N start log own (On (Drafting (draft_of Lined (To (thing_of array))) at) k (scope_of me names room) depth left)
    → At S N start log' own' (On (Drafting t at) k (scope_of me names room') depth left')

-- and to the outcome
abbrev pub GivesLines : CodeScript → Program → ℕ → Val → Ref → Span → (base depth left left' : ℕ) → (room room' : List Held) → (log log' : Log) → (own own' : Private) → Outcome → Type 0
GivesLines script program N me array at base depth left left' room room' log log' own own' o =
    (S : Script) (start : State) (k : List Cont) (names : List NameId)
    → StandsFor script S → S.program ≡ program → length names ≤ base → base ≤ length room
    → At S N start log own (On (Drafting (draft_of Lined (To (thing_of array))) at) k (scope_of me names room) depth left)
    → Came S N start log' own' o k (scope_of me names room') depth left'

-- ---- values one by one

-- A text joins what is printed, where that does not grow too long: the machine goes on with it, or comes to the outcome.
abbrev pub JoinsText : ℕ → (text old new : List ℕ) → Span → (left : ℕ) → Log → Private → Registers → Outcome → Type 0
JoinsText N text old new at left log own r o =
    (S : Script) (start : State) (k : List Cont) (sc : Scope) (d : ℕ) (to : List ℕ → State) → ((bytes : List ℕ) → left_in (to bytes) ≡ left)
    → At S N start log own (if nat_lt max_bytes (length (old ++ text)) then raised TextTooLong at left else to (old ++ text))
    → (is_left r ≡ true → Came S N start log own o k sc d left)
    × (is_left r ≡ false → At S N start log own (to new))

-- From where an array is to be written behind bytes, the machine comes to where others are to be written behind more, or to the outcome.
abbrev pub WritesArray : CodeScript → Program → ℕ → Val → Ref → (old new : List ℕ) → Span → (base depth left left' : ℕ) → (room room' : List Held) → (log log' : Log) → (own own' : Private) → Registers → Outcome → Type 0
WritesArray script program N me array old new at base depth left left' room room' log log' own own' r o =
    (S : Script) (start : State) (k : List Cont) (names : List NameId) (vs : List Val)
    → StandsFor script S → S.program ≡ program → length names ≤ base → base ≤ length room
    → At S N start log own (On (Drafting (draft_of Lined (To (thing_of array))) at) (Then (LinesBehind old vs at) ∷ k) (scope_of me names room) depth left)
    → (is_left r ≡ true → Came S N start log' own' o k (scope_of me names room') depth left')
    × (is_left r ≡ false → At S N start log' own' (write S Lines new vs at k (scope_of me names room') depth left'))

-- the same of the value of a slot, in any style
abbrev pub WritesOne : CodeScript → Program → ℕ → Val → Style → (slot : ℕ) → (old new : List ℕ) → Span → (base depth left left' : ℕ) → (room room' : List Held) → (log log' : Log) → (own own' : Private) → Registers → Outcome → Type 0
WritesOne script program N me style slot old new at base depth left left' room room' log log' own own' r o =
    (v : Held) → slice_get room slot ≡ Some v → (S : Script) (start : State) (k : List Cont) (names : List NameId) (vs : List Val)
    → StandsFor script S → S.program ≡ program → length names ≤ base → base ≤ length room
    → At S N start log own (write S style old (plain v ∷ vs) at k (scope_of me names room) depth left)
    → (is_left r ≡ true → Came S N start log' own' o k (scope_of me names room') depth left')
    × (is_left r ≡ false → At S N start log' own' (write S style new vs at k (scope_of me names room') depth left'))
