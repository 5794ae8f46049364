-- What a call with a block comes to before an iteration, and what its iterations make.
use Rattle.std.specs.Prelude.{◌≡◌, ◌+ℤ◌, pos, ℕ, ℤ, true, false, List, ◌∷◌, length, slice_get, Option, Some}
use Rattle.rb_tree.specs.declared.span.Span.{Span}
use Rattle.rb_tree.specs.declared.span.NameId.{NameId}
use Rattle.rb_tree.specs.declared.node.Block.{Block}
use Rattle.rb_tree.specs.declared.node.Program.{Program}
use Rattle.rb_model.specs.Values.{Value as Val, Nil, Int, or_nil}
use Rattle.rb_model.specs.declared.value.Ref.{Ref}
use Rattle.rb_model.specs.declared.value.Value.{Value as Held}
use Rattle.rb_model.specs.Log.{Log}
use Rattle.rb_model.specs.Private.{Private}
use Rattle.rb_machine.specs.Scopes.{Script, Scope}
use Rattle.rb_machine.specs.Control.{State, Cont, On, Then, Turning, Turns, Counting, Walking, Walk, Each, WithIndex, Map, Select, WithElement}
use Rattle.rb_machine.specs.Call.{answered}
use Rattle.rb_machine.specs.Methods.{Answer, Loops, LoopsOver, EachPairOf, Synchronizes, deed}
use Rattle.rb_machine.specs.Turns.{start_turn, turned, finish}
use Rattle.rb_machine.specs.Follows.{At}
use Rattle.rb_builtin.specs.declared.builtin.Builtin.{Builtin}
use Rattle.rb_builtin.specs.declared.deed.Pass.{Pass}
use Rattle.rb_builtin.specs.declared.deed.Pass.TheVariants as pass
use Rattle.rb_builtin.specs.Names.{builtin_of}
use Rattle.rb_builtin.specs.Deeds.{thing_of, walk_of}
use Rattle.rb_code.specs.declared.code.CodeBlock.{CodeBlock}
use Rattle.rb_code.specs.declared.scripted.CodeScript.{CodeScript}
use Rattle.rb_code.specs.Erase.{erase_block}
use Rattle.rb_code.specs.Resolved.{block_fits}
use Rattle.rb_code.specs.Stands.{StandsFor}
use Rattle.rb_walk.specs.declared.came.Came.{Came as Registers}
use Rattle.rb_walk.specs.declared.came.Came.TheVariants as came
use Rattle.rb_walk.specs.declared.came.Leave.{Leave}
use Rattle.rb_walk.specs.declared.rounds.Iterations.{Iterations}
use Rattle.rb_walk.specs.declared.rounds.Iterations.TheVariants as iterations
use Rattle.rb_walk.specs.Answers.{IsDone}
use Rattle.rb_walk.specs.Carries.{Lies, scope_of, goes_on, loop_exit}
use Rattle.rb_walk.specs.Outcome.{Outcome, Gave, Came, is_left, outcome}

-- iterations over integers that a call makes, or none, and its value
abbrev pub Counts : Turns → Iterations → Type 0
Counts turns (iterations.Counting r) = turns ≡ Counting r.first (r.last +ℤ pos 1) (Int r.answer)
Counts turns (iterations.Done r) = (n : ℤ) × (r ≡ came.Int n) × IsDone n turns
Counts turns other = ⊥

-- a call with a block that is answered so comes to iterations of a kind, or it is done before one
abbrev pub OpensBy : Answer → ℕ → Span → ℕ → Log → Iterations → Held → Leave → Type 0
OpensBy answer N at left log (iterations.Counting r) value leave = answer ≡ Loops (Counting r.first (r.last +ℤ pos 1) (Int r.answer))
OpensBy answer N at left log (iterations.Elements array pass) value leave = answer ≡ LoopsOver (thing_of array) (walk_of pass)
OpensBy answer N at left log (iterations.Pairs hash) value leave = answer ≡ EachPairOf (thing_of hash)
OpensBy answer N at left log (iterations.Owned mutex) value leave = answer ≡ Synchronizes (thing_of mutex)
OpensBy answer N at left log (iterations.Done came) value leave =
    (S : Script) (start : State) (h : Private) (b : Block) (k : List Cont) (sc : Scope) (d : ℕ)
    → At S N start log h (answered S answer (Some b) at k sc d left) → Came S N start log h (outcome came value leave) k sc d left

-- and so does the call of a method of a value, with a block of so many parameters
abbrev pub Opens : Program → ℕ → Option Builtin → Val → List Val → ℕ → Span → ℕ → Log → Iterations → Held → Leave → Type 0
Opens program N method v args params at left log i value leave =
    (name : List ℕ) → builtin_of name ≡ method → OpensBy (deed program v name args (Some params)) N at left log i value leave

-- the value of a slot of a block that is given these values
abbrev pub slot_value : List Val → ℕ → Val
slot_value values i = or_nil (slice_get values i)

-- the value of an iteration: nil where `next` left it
abbrev pub value_on : Outcome → Val
value_on (Gave v) = v
value_on o = Nil

-- From where an iteration of a block begins that is given these values, the machine comes to those that are left, or out of the call.
abbrev pub Iterates : CodeScript → Program → ℕ → Val → CodeBlock → List Val → (base depth left left' : ℕ) → (room room' : List Held) → (log log' : Log) → (own own' : Private) → Outcome → Type 0
Iterates script program N me block values base depth left left' room room' log log' own own' o =
    (later : Turns) (S : Script) (start : State) (k : List Cont) (names : List NameId) (size : ℕ)
    → StandsFor script S → S.program ≡ program → Lies (block_fits S block) names size base (length room)
    → At S N start log own (start_turn S later values (erase_block block) k (scope_of me names room) depth left)
    → (goes_on o ≡ true → At S N start log' own' (On (Turning (turned (value_on o) later) (erase_block block)) k (scope_of me names room') depth left'))
    × (goes_on o ≡ false → Came S N start log' own' (loop_exit o) k (scope_of me names room') depth left')

-- a walk over an array that has made this so far, with the last element in hand
abbrev pub walking : Pass → List Val → Val → Walk
walking pass.Each made current = Each
walking pass.WithIndex made current = WithIndex
walking pass.Map made current = Map made
walking pass.Select made current = Select made current

-- the second value that a walk gives its block; nil where it gives one
abbrev pub second_value : Pass → ℕ → Val
second_value pass.WithIndex index = Int (pos index)
second_value pass index = Nil

-- From where a walk over an array goes on, the machine is left, or it has the element at the next place.
abbrev pub FindsElement : ℕ → Ref → (next : ℕ) → Span → (left : ℕ) → (log log' : Log) → (own own' : Private) → Registers → Outcome → Type 0
FindsElement N array next at left log log' own own' r o =
    (walk : Walk) (block : Block) (S : Script) (start : State) (k : List Cont) (sc : Scope) (d : ℕ)
    → At S N start log own (On (Turning (Walking (thing_of array) next walk at) block) k sc d left)
    → (is_left r ≡ true → Came S N start log' own' o k sc d left)
    × (is_left r ≡ false → Came S N start log' own' o (Then (WithElement (thing_of array) next walk block at) ∷ k) sc d left)

-- From there it answers what the walk made, since no element is left.
abbrev pub FindsNone : ℕ → Ref → (next : ℕ) → Span → (left : ℕ) → (log log' : Log) → (own own' : Private) → Type 0
FindsNone N array next at left log log' own own' =
    (walk : Walk) (block : Block) (S : Script) (start : State) (k : List Cont) (sc : Scope) (d : ℕ)
    → At S N start log own (On (Turning (Walking (thing_of array) next walk at) block) k sc d left)
    → At S N start log' own' (finish (thing_of array) walk k sc d left)

-- what a walk makes is answered
abbrev pub finishing : Ref → Walk → Script → List Cont → Scope → ℕ → ℕ → State
finishing array walk S k sc d left = finish (thing_of array) walk k sc d left

-- From where a walk over an array begins, the machine comes to the next place, with what was made so far.
abbrev pub WalksOn : CodeScript → Program → ℕ → Val → CodeBlock → Ref → Pass → Span → (next : ℕ) → (made : List Val) → (base depth left left' : ℕ) → (room room' : List Held) → (log log' : Log) → (own own' : Private) → Type 0
WalksOn script program N me block array pass at next made base depth left left' room room' log log' own own' =
    (S : Script) (start : State) (k : List Cont) (names : List NameId) (size : ℕ)
    → StandsFor script S → S.program ≡ program → Lies (block_fits S block) names size base (length room)
    → At S N start log own (On (Turning (Walking (thing_of array) 0 (walk_of pass) at) (erase_block block)) k (scope_of me names room) depth left)
    → (current : Val) × At S N start log' own' (On (Turning (Walking (thing_of array) next (walking pass made current) at) (erase_block block)) k (scope_of me names room') depth left')
