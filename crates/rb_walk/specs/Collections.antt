-- What is done with arrays and hashes, beside the machine.
use Rattle.std.specs.Prelude.{ℤ, ◌≡◌, ◌<◌, ◌+◌, ◌*◌, ℕ, Bool, true, false, List, [], ◌∷◌, length, Option, None, codes}
use Rattle.rb_tree.specs.declared.span.Span.{Span}
use Rattle.rb_tree.specs.declared.node.Program.{Program}
use Rattle.rb_model.specs.Values.{Value as Val, Reference}
use Rattle.rb_model.specs.declared.value.Ref.{Ref}
use Rattle.rb_model.specs.Acts.{Reply}
use Rattle.rb_model.specs.Things.{Thing}
use Rattle.rb_model.specs.declared.fault.Fault.TheVariants.{TextTooLong}
use Rattle.rb_model.specs.Ends.{Raised, Memory}
use Rattle.rb_model.specs.Log.{Log}
use Rattle.rb_model.specs.Private.{Private}
use Rattle.rb_machine.specs.Scopes.{Script, Scope}
use Rattle.rb_machine.specs.Control.{State, Cont, On, Making, Reading, Drafting, Use, ForText, Draft, Coming, Between, OfValue, OfPair, Give, Then, Instead, Inspecting}
use Rattle.rb_machine.specs.Methods.{Answer, deed}
use Rattle.rb_model.specs.Acts.{KPut, Put}
use Rattle.rb_machine.specs.Call.{ask, answered, new_array, new_hash, new_mutex, fill, pair_up, pairs_of, last_value, give_shown, write, value_of_p}
use Rattle.rb_machine.specs.Move.{used}
use Rattle.rb_machine.specs.Follows.{At}
use Rattle.rb_builtin.specs.declared.builtin.Builtin.{Builtin}
use Rattle.rb_builtin.specs.Names.{builtin_of}
use Rattle.rb_code.specs.declared.code.BuiltinClass.{BuiltinClass}
use Rattle.rb_code.specs.declared.code.BuiltinClass.TheVariants as builtin_class
use Rattle.rb_walk.specs.declared.came.Came.{Came as Registers}
use Rattle.rb_render.specs.declared.show.RenderFault.{RenderFault}
use Rattle.rb_render.specs.declared.show.RenderFault.TheVariants as fault
use Rattle.rb_render.specs.declared.draft.Want.{Want}
use Rattle.rb_render.specs.declared.draft.Want.TheVariants as want
use Rattle.rb_render.specs.Drafting.{Wants}
use Rattle.rb_walk.specs.Outcome.{Outcome, Over, Came, is_left}

-- From where a state stands that asks nothing of the script, the machine comes to the outcome, whatever waits and whatever the scope is.
abbrev pub Comes : ℕ → (Script → List Cont → Scope → ℕ → ℕ → State) → Program → (depth left left' : ℕ) → (log log' : Log) → (own own' : Private) → Outcome → Type 0
Comes N from program depth left left' log log' own own' o =
    (S : Script) (start : State) (k : List Cont) (sc : Scope) → S.program ≡ program
    → At S N start log own (from S k sc depth left) → Came S N start log' own' o k sc depth left'

-- a thing is made
abbrev pub making : Thing → Script → List Cont → Scope → ℕ → ℕ → State
making thing S k sc d left = On (Making thing) k sc d left

-- what a method without a block answers is taken
abbrev pub answering : Answer → Span → Script → List Cont → Scope → ℕ → ℕ → State
answering answer at S k sc d left = answered S answer None at k sc d left

-- a text with collections in it is made
abbrev pub drafting : Draft → Span → Script → List Cont → Scope → ℕ → ℕ → State
drafting draft at S k sc d left = On (Drafting draft at) k sc d left

-- a hash is made of keys and values by turns
abbrev pub pairing : List Val → Span → Script → List Cont → Scope → ℕ → ℕ → State
pairing vs at S k sc d left = pair_up S (pairs_of S vs) at k sc d left

-- an array of so many times a value
abbrev pub filling : (count value : Val) → Span → Script → List Cont → Scope → ℕ → ℕ → State
filling count v at S k sc d left = fill S count v at k sc d left

-- a new array, hash or mutex
abbrev pub building : BuiltinClass → List Val → Span → Script → List Cont → Scope → ℕ → ℕ → State
building builtin_class.Array args at S k sc d left = new_array S args at k sc d left
building builtin_class.Hash args at S k sc d left = new_hash S args at k sc d left
building builtin_class.Mutex args at S k sc d left = new_mutex S args at k sc d left

-- a value is written to an element by the built-in method of the receiver, and given on
abbrev pub writing_element : Val → (receiver index : Val) → Span → Script → List Cont → Scope → ℕ → ℕ → State
writing_element v receiver index at S k sc d left =
    answered S (deed S.program receiver (codes "[]=") (index ∷ v ∷ []) None) None at (Then (Instead v) ∷ k) sc d left

-- the text of a value that is asked by no method is given
abbrev pub showing : Val → Span → Script → List Cont → Scope → ℕ → ℕ → State
showing v at S k sc d left = give_shown S v at k sc d left

-- `p` writes values, of which these are left, behind these bytes
abbrev pub inspecting_behind : (all : List Val) → List ℕ → (rest : List Val) → Span → Script → List Cont → Scope → ℕ → ℕ → State
inspecting_behind all bytes rest at S k sc d left = write S (Inspecting all) bytes rest at k sc d left

-- the value of `p` is given, whatever came of what it showed
abbrev pub valuing : Val → List Val → Script → List Cont → Scope → ℕ → ℕ → State
valuing shown vs S k sc d left = On (Give shown) (Then (value_of_p S vs) ∷ k) sc d left

-- what a built-in method answers to an assignment is taken, whose value is the last argument
abbrev pub storing : Answer → List Val → Span → Script → List Cont → Scope → ℕ → ℕ → State
storing answer args at S k sc d left = answered S answer None at (Then (Instead (last_value S args)) ∷ k) sc d left

-- the call of a built-in method of a value without a block comes out so
abbrev pub CallsBuiltin : ℕ → Program → Option Builtin → Val → List Val → Span → (depth left left' : ℕ) → (log log' : Log) → (own own' : Private) → Outcome → Type 0
CallsBuiltin N program method v args at depth left left' log log' own own' o =
    (name : List ℕ) → builtin_of name ≡ method → Comes N (answering (deed program v name args None) at) program depth left left' log log' own own' o

-- a collection is read by one copy, whatever for
abbrev pub Reads : ℕ → Ref → Reply → (left : ℕ) → (log log' : Log) → (own own' : Private) → Type 0
Reads N thing reply left log log' own own' =
    (purpose : Use) (at : Span) (S : Script) (start : State) (k : List Cont) (sc : Scope) (d : ℕ)
    → At S N start log own (On (Reading (record { sort = thing.sort; id = thing.id }) purpose at) k sc d left)
    → At S N start log' own' (used purpose (record { sort = thing.sort; id = thing.id }) reply at k sc d left)

-- or the machine comes to the outcome in place of that
abbrev pub ReadsNone : ℕ → Ref → (left : ℕ) → (log log' : Log) → (own own' : Private) → Outcome → Type 0
ReadsNone N thing left log log' own own' o =
    (purpose : Use) (at : Span) (S : Script) (start : State) (k : List Cont) (sc : Scope) (d : ℕ)
    → At S N start log own (On (Reading (record { sort = thing.sort; id = thing.id }) purpose at) k sc d left) → Came S N start log' own' o k sc d left

-- A collection is opened in a text that is made: the machine goes on with the text as it is then, or comes to the outcome.
abbrev pub Opens : ℕ → Reference → (old new : Draft) → Span → (left : ℕ) → (log log' : Log) → (own own' : Private) → Registers → Outcome → Type 0
Opens N thing old new at left log log' own own' r o =
    (S : Script) (start : State) (k : List Cont) (sc : Scope) (d : ℕ)
    → At S N start log own (On (Reading thing (ForText old) at) k sc d left)
    → (is_left r ≡ true → Came S N start log' own' o k sc d left)
    × (is_left r ≡ false → At S N start log' own' (On (Drafting new at) k sc d left))

-- ---- texts of collections

-- a text ends with a fault
abbrev pub text_end : RenderFault → Span → Outcome
text_end fault.TooLong at = Over (Raised TextTooLong at)
text_end fault.Memory at = Over Memory

-- Behind a copy of a collection for a text, the machine stands here.
abbrev pub ReadsTo : Reference → Reply → Draft → (Span → List Cont → Scope → ℕ → ℕ → State) → Type 0
ReadsTo thing reply t to = (at : Span) (k : List Cont) (sc : Scope) (d left : ℕ) → used (ForText t) thing reply at k sc d left ≡ to at k sc d left

-- whether a text needs nothing more
abbrev pub is_finished : Want → Bool
is_finished want.Finished = true
is_finished other = false

-- how much there is to do of a text before its next element or its end: what comes next, and each collection that is begun
abbrev pub coming_work : Coming → ℕ
coming_work Between = 0
coming_work (OfValue lead v) = 2
coming_work (OfPair lead k v) = 3

abbrev pub work_of : Draft → ℕ
work_of t = coming_work t.coming + length t.begun

-- What a text needs is done, of which it then stands so: the machine goes on with it, or comes to the outcome.
abbrev pub Advances : ℕ → Program → Want → (old new : Draft) → Span → (depth left left' : ℕ) → (log log' : Log) → (own own' : Private) → Registers → Outcome → Type 0
Advances N program want old new at depth left left' log log' own own' r o =
    (t : Draft) (S : Script) (start : State) (k : List Cont) (sc : Scope) → S.program ≡ program → Wants program t want old
    → At S N start log own (On (Drafting t at) k sc depth left)
    → (is_left r ≡ true → Came S N start log' own' o k sc depth left')
    × (is_left r ≡ false → At S N start log' own' (On (Drafting new at) k sc depth left'))

-- and there is less to do then
abbrev pub Shortens : Program → Want → (old new : Draft) → (left left' : ℕ) → Registers → Type 0
Shortens program want old new left left' r =
    (t : Draft) → Wants program t want old → is_left r ≡ false → 4 * left' + work_of new < 4 * left + work_of t

-- `p` writes a value behind bytes: the machine goes on with the values that are left, or comes to the outcome.
abbrev pub InspectsOne : ℕ → Program → Val → (old new : List ℕ) → Span → (depth left left' : ℕ) → (log log' : Log) → (own own' : Private) → Registers → Outcome → Type 0
InspectsOne N program v old new at depth left left' log log' own own' r o =
    (all vs : List Val) (S : Script) (start : State) (k : List Cont) (sc : Scope) → S.program ≡ program
    → At S N start log own (write S (Inspecting all) old (v ∷ vs) at k sc depth left)
    → (is_left r ≡ true → Came S N start log' own' o k sc depth left')
    × (is_left r ≡ false → At S N start log' own' (write S (Inspecting all) new vs at k sc depth left'))

-- a key of a hash gets a value, which is given on
abbrev pub keeping : Reference → Val → Val → Span → Script → List Cont → Scope → ℕ → ℕ → State
keeping hash key v at S k sc d left = ask hash (KPut key v) at (Then (Instead v) ∷ k) sc d left

-- an element of an array gets a value, which is given on
abbrev pub putting : Reference → ℤ → Val → Span → Script → List Cont → Scope → ℕ → ℕ → State
putting array index v at S k sc d left = ask array (Put index v) at (Then (Instead v) ∷ k) sc d left
