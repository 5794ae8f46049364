-- What the parts of the walk that call nothing of it answer.
use Rattle.rb_tree.specs.declared.node.Program.{Program}
use Rattle.std.specs.Prelude.{◌≡◌, ◌⊎◌, ◌≤◌, ◌<◌, ◌-◌, ℕ, ℤ, int_lt, Bool, true, false, if◌then◌else◌, List, [], ◌∷◌, length, slice_get, slice_set, Option, Some, None}
use Rattle.rb_tree.specs.declared.span.Span.{Span}
use Rattle.rb_tree.specs.declared.span.NameId.{NameId}
use Rattle.rb_tree.specs.declared.node.AssignOp.{AssignOp}
use Rattle.rb_tree.specs.declared.node.AssignOp.TheVariants as op
use Rattle.rb_model.specs.Values.{Value as Val, Int, To, plain, truthy}
use Rattle.rb_model.specs.declared.value.Value.{Value as Held}
use Rattle.rb_model.specs.declared.value.Value.TheVariants as held
use Rattle.rb_model.specs.declared.fault.Fault.TheVariants.{ArgumentCount}
use Rattle.rb_model.specs.Ends.{Raised, Memory}
use Rattle.rb_model.specs.Log.{Log}
use Rattle.rb_model.specs.Private.{Private}
use Rattle.rb_tree.specs.declared.node.Block.{Block}
use Rattle.rb_machine.specs.Scopes.{Script, Scope}
use Rattle.rb_machine.specs.Control.{State, Cont, On, Eval, Give, Turns, Counting}
use Rattle.rb_machine.specs.Call.{answered}
use Rattle.rb_machine.specs.Methods.{Answer, Gives, Raises, Loops, LoopsOver, EachPairOf, Synchronizes, deed}
use Rattle.rb_machine.specs.Follows.{At}
use Rattle.rb_machine.specs.Texts.{max_bytes}
use Rattle.rb_builtin.specs.declared.builtin.Builtin.{Builtin}
use Rattle.rb_builtin.specs.declared.builtin.Builtin.TheVariants as builtin
use Rattle.rb_builtin.specs.Names.{builtin_of}
use Rattle.rb_code.specs.declared.code.Code.{Code}
use Rattle.rb_code.specs.declared.code.CodePiece.{CodePiece}
use Rattle.rb_code.specs.declared.code.CodePiece.TheVariants as part
use Rattle.rb_code.specs.Erase.{erase}
use Rattle.rb_code.specs.Resolved.{fits}
use Rattle.rb_walk.specs.declared.came.Came.{Came as Registers}
use Rattle.rb_walk.specs.Outcome.{Outcome, Gave, Over, Came, value_of}
use Rattle.rb_walk.specs.Carries.{scope_of}

-- whether a value is a reference to a thing
abbrev pub is_thing : Val → Bool
is_thing (To thing) = true
is_thing v = false

-- an outcome, or want of memory
abbrev pub OrMemory : Outcome → Outcome → Type 0
OrMemory wanted o = (o ≡ wanted) ⊎ (o ≡ Over Memory)

-- how the answer of a method without a block comes out, where nothing is asked of things for it
abbrev pub outcome_of : Answer → Span → Outcome
outcome_of (Gives v) at = Gave v
outcome_of (Raises fault) at = Over (Raised fault at)
outcome_of (Loops turns) at = Over (Raised ArgumentCount at)
outcome_of (LoopsOver array walk) at = Over (Raised ArgumentCount at)
outcome_of (EachPairOf hash) at = Over (Raised ArgumentCount at)
outcome_of (Synchronizes mutex) at = Over (Raised ArgumentCount at)
outcome_of other at = Over Memory

-- a value is written into a slot and given on, or memory is wanted and nothing is written
pub data Writes (slot : ℕ) (v : Val) (old new : List Held) : Outcome → Type 0 where
  wrote : (w : Held) → plain w ≡ v → new ≡ slice_set old slot w → Writes slot v old new (Gave v)
  wanted : new ≡ old → Writes slot v old new (Over Memory)

-- a value stands in a slot
abbrev pub Passed : ℕ → Val → List Held → List Held → Type 0
Passed slot v old new = (w : Held) × (plain w ≡ v) × (new ≡ slice_set old slot w)

-- a leaf gives this value in one step, which leaves the scope as it is
abbrev pub IsHeld : Code → List Held → Val → Type 0
IsHeld code room v =
    (S : Script) (N : ℕ) (names : List NameId) (size depth left : ℕ) (start : State) (h : Private) (log : Log) (k : List Cont) (me : Val)
    → fits S code names size ≡ true → length names ≤ length room → 0 < left → depth < 1000
    → At S N start log h (On (Eval (erase code)) k (scope_of me names room) depth left) → At S N start log h (On (Give v) k (scope_of me names room) depth (left - 1))

-- What came of a leaf is true exactly where its value is.
abbrev pub IsTested : Code → List Held → Registers → Type 0
IsTested code room came = (v : Val) × IsHeld code room v × ((w : Held) → truthy (value_of came w) ≡ truthy v)

-- and this integer
abbrev pub IsSmall : Code → List Held → ℤ → Type 0
IsSmall code room n = IsHeld code room (Int n)

-- a leaf gives the only one of these values so
abbrev pub IsHeldAlone : Code → List Held → List Val → Type 0
IsHeldAlone code room vs = (v : Val) × (vs ≡ v ∷ []) × IsHeld code room v

-- an operation over two leaves gives this answer in two steps, which leave the scope as it is
abbrev pub IsQuick : Option Builtin → (left right : Code) → List Held → Answer → Type 0
IsQuick method left right room answer =
    (m : ℤ) × (n : ℤ) × IsSmall left room m × IsSmall right room n
    × ((program : Program) (name : List ℕ) → builtin_of name ≡ method → deed program (Int m) name (Int n ∷ []) None ≡ answer)

-- an operation over two leaves gives this integer in three steps, which leave the scope as it is
abbrev pub IsMade : Code → List Held → ℤ → Type 0
IsMade code room n =
    (S : Script) (N : ℕ) (names : List NameId) (size depth left : ℕ) (start : State) (h : Private) (log : Log) (k : List Cont) (me : Val)
    → fits S code names size ≡ true → length names ≤ length room → 2 < left → depth < 999
    → At S N start log h (On (Eval (erase code)) k (scope_of me names room) depth left) → At S N start log h (On (Give (Int n)) k (scope_of me names room) depth (left - 3))

-- how many steps an operand takes that is an operation over two leaves, and one that is a leaf
abbrev pub steps_of : Bool → ℕ
steps_of is_over = if is_over then 3 else 1

-- a node gives this value in so many steps, at most three, which leave the scope and the private things as they are
abbrev pub IsGiven : ℕ → Code → List Held → Private → Val → Type 0
IsGiven steps code room own v =
    (S : Script) (N : ℕ) (names : List NameId) (size depth left : ℕ) (start : State) (log : Log) (k : List Cont) (me : Val)
    → fits S code names size ≡ true → length names ≤ length room → 2 < left → depth < 999
    → At S N start log own (On (Eval (erase code)) k (scope_of me names room) depth left) → At S N start log own (On (Give v) k (scope_of me names room) depth (left - steps))

-- an operand gives this integer so, whatever the private things are
abbrev pub IsComputed : ℕ → Code → List Held → ℤ → Type 0
IsComputed steps code room n = (own : Private) → IsGiven steps code room own (Int n)

-- an operation over such an integer and a leaf gives this answer in four steps, which leave the scope as it is
abbrev pub IsTwice : Option Builtin → (left right : Code) → List Held → Answer → Type 0
IsTwice method left right room answer =
    (m : ℤ) × (n : ℤ) × IsMade left room m × IsSmall right room n
    × ((program : Program) (name : List ℕ) → builtin_of name ≡ method → deed program (Int m) name (Int n ∷ []) None ≡ answer)

-- a text is written out as these bytes, which are not too many
abbrev pub IsWritten : List CodePiece → List ℕ → Type 0
IsWritten pieces text = (pieces ≡ part.Text text ∷ []) × (length text ≤ max_bytes)

-- the built-in method of an assignment's operator; none for the two that decide
abbrev pub method_of : AssignOp → Option Builtin
method_of op.Plus = Some builtin.Plus
method_of op.Minus = Some builtin.Minus
method_of op.Times = Some builtin.Times
method_of op.Over = Some builtin.Over
method_of op.Modulo = Some builtin.Modulo
method_of op.OrElse = None
method_of op.AndThen = None

-- the operator of an assignment makes this integer of the one in a slot and a leaf, and it stands in the slot
abbrev pub IsUpdated : ℕ → AssignOp → Code → List Held → List Held → ℤ → Type 0
IsUpdated slot op value old new k =
    (b : Builtin) × (m : ℤ) × (n : ℤ) × (method_of op ≡ Some b) × (slice_get old slot ≡ Some (held.Int m)) × IsSmall value old n
    × ((program : Program) (name : List ℕ) → builtin_of name ≡ Some b → deed program (Int m) name (Int n ∷ []) None ≡ Gives (Int k))
    × (new ≡ slice_set old slot (held.Int k))

-- the same of the one in a slot and an operation over two leaves
abbrev pub IsUpdatedOver : ℕ → AssignOp → Code → List Held → List Held → ℤ → Type 0
IsUpdatedOver slot op value old new k =
    (b : Builtin) × (m : ℤ) × (n : ℤ) × (method_of op ≡ Some b) × (slice_get old slot ≡ Some (held.Int m)) × IsMade value old n
    × ((program : Program) (name : List ℕ) → builtin_of name ≡ Some b → deed program (Int m) name (Int n ∷ []) None ≡ Gives (Int k))
    × (new ≡ slice_set old slot (held.Int k))

-- no iteration is left, and this is the answer
abbrev pub IsDone : ℤ → Turns → Type 0
IsDone n (Counting next last answer) = (int_lt next last ≡ false) × (answer ≡ Int n)
IsDone n other = ⊥

-- a call of a method of a value with a block comes out so before an iteration
abbrev pub Settles : Program → ℕ → Option Builtin → Val → List Val → ℕ → Span → ℕ → Log → Outcome → Type 0
Settles program N method v args params at left log o =
    (name : List ℕ) (S : Script) (start : State) (h : Private) (b : Block) (k : List Cont) (sc : Scope) (d : ℕ) → builtin_of name ≡ method
    → At S N start log h (answered S (deed program v name args (Some params)) (Some b) at k sc d left) → Came S N start log h o k sc d left
