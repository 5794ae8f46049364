-- Methods that only read or write an instance variable, and calls that are done at once.
use Rattle.std.specs.Prelude.{◌≡◌, ◌≤◌, ◌<◌, ◌-◌, ℕ, ℤ, true, List, [], ◌∷◌, length, map, Option, Some, None, is_some}
use Rattle.rb_tree.specs.declared.span.Span.{Span}
use Rattle.rb_tree.specs.declared.span.NameId.{NameId}
use Rattle.rb_tree.specs.declared.node.Node.{Node, out-Node}
use Rattle.rb_tree.specs.declared.node.Node.TheOpen as node
use Rattle.rb_tree.specs.declared.node.Program.{Program}
use Rattle.rb_tree.specs.declared.node.AssignOp.TheVariants as op
use Rattle.rb_model.specs.Values.{Value as Val, Int}
use Rattle.rb_model.specs.declared.value.Ref.{Ref}
use Rattle.rb_model.specs.declared.value.Value.{Value as Held}
use Rattle.rb_model.specs.Log.{Log}
use Rattle.rb_model.specs.Acts.{GetField}
use Rattle.rb_model.specs.Acts as reply
use Rattle.rb_model.specs.Private.{Private, Becomes, Gives, held}
use Rattle.rb_machine.specs.Scopes.{Script, Scope, text_of}
use Rattle.rb_machine.specs.Call.{enter}
use Rattle.rb_machine.specs.Control.{State, On, Cont, Then, Eval, Give, ReceiverOf}
use Rattle.rb_machine.specs.Methods.{Answer, deed}
use Rattle.rb_machine.specs.Follows.{At}
use Rattle.rb_builtin.specs.declared.builtin.Builtin.{Builtin}
use Rattle.rb_builtin.specs.Names.{builtin_of}
use Rattle.rb_code.specs.declared.code.Code.{Code}
use Rattle.rb_code.specs.declared.code.Code.TheVariants as code
use Rattle.rb_code.specs.declared.scripted.CodeMethod.{CodeMethod}
use Rattle.rb_code.specs.declared.scripted.CodeScript.{CodeScript}
use Rattle.rb_code.specs.Erase.{erase, erase_method}
use Rattle.rb_code.specs.Resolved.{fits, method_fits}
use Rattle.rb_code.specs.Stands.{StandsFor}
use Rattle.std.specs.List.{AllByRecursion}
use Rattle.rb_walk.specs.declared.came.Came.{Came as Registers}
use Rattle.rb_walk.specs.Outcome.{Outcome, Came}
use Rattle.rb_walk.specs.Carries.{Unread, me_of, scope_of}
use Rattle.rb_walk.specs.Methods.{method_for}

-- a method without parameters reads this variable at this place, and does nothing else
pub record Reads (m : CodeMethod) (field : NameId) (place : Span) : Type 0 where
  pub params : m.params ≡ []
  pub only : Node
  pub body : map erase m.body ≡ only ∷ []
  pub reads : out-Node only ≡ node.«Node::Field» field place

-- and it is the one that a name finds for a value, which is this object
pub record IsReader (script : CodeScript) (v : Val) (name : NameId) (object : Ref) (field : NameId) (place : Span) : Type 0 where
  pub method : CodeMethod
  pub me : v ≡ me_of (Some object)
  pub finds : (S : Script) → StandsFor script S → method_for S v name ≡ Some (erase_method method)
  pub reads : Reads method field place

-- From where a receiver is evaluated to which a method is sent without arguments, the machine comes to the outcome, and no slot is another.
abbrev pub SendsTo : CodeScript → Program → ℕ → Val → Code → Option Builtin → NameId → Span → (depth left left' : ℕ) → List Held → (log log' : Log) → (own own' : Private) → Outcome → Type 0
SendsTo script program N me receiver method name at depth left left' room log log' own own' o =
    (S : Script) (start : State) (k : List Cont) (names : List NameId) (size : ℕ)
    → StandsFor script S → S.program ≡ program → builtin_of (text_of S name) ≡ method → fits S receiver names size ≡ true → length names ≤ length room
    → At S N start log own (On (Eval (erase receiver)) (Then (ReceiverOf (text_of S name) [] None at) ∷ k) (scope_of me names room) depth left)
    → Came S N start log' own' o k (scope_of me names room) depth left'

-- From where code is evaluated, the machine comes to the outcome, and no slot is another.
abbrev pub EvaluatesTo : CodeScript → Program → ℕ → Val → Code → (depth left left' : ℕ) → List Held → (log log' : Log) → (own own' : Private) → Outcome → Type 0
EvaluatesTo script program N me code depth left left' room log log' own own' o =
    (S : Script) (start : State) (k : List Cont) (names : List NameId) (size : ℕ)
    → StandsFor script S → S.program ≡ program → fits S code names size ≡ true → length names ≤ length room
    → At S N start log own (On (Eval (erase code)) k (scope_of me names room) depth left)
    → Came S N start log' own' o k (scope_of me names room) depth left'

-- a method with one parameter gives it to this variable at this place, and does nothing else
pub record Writes (m : CodeMethod) (field : NameId) (place : Span) : Type 0 where
  pub params : length m.params ≡ 1
  pub name : NameId
  pub from : Span
  pub body : m.body ≡ code.SetField field (code.Local 0 name from) place ∷ []

-- a method with one parameter adds it to this variable at this place, and does nothing else
pub record Adds (m : CodeMethod) (field : NameId) (place : Span) : Type 0 where
  pub params : length m.params ≡ 1
  pub name : NameId
  pub from : Span
  pub body : m.body ≡ code.UpdateField field op.Plus (code.Local 0 name from) place ∷ []

-- From where a method begins with these arguments, the machine comes to the outcome.
abbrev pub EntersAtOnce : ℕ → Val → CodeMethod → List Val → (depth left left' : ℕ) → (log log' : Log) → (own own' : Private) → Outcome → Type 0
EntersAtOnce N to method args depth left left' log log' own own' o =
    (S : Script) (start : State) (k : List Cont) (sc : Scope) (at : Span)
    → method_fits S method ≡ true
    → At S N start log own (enter S (erase_method method) to args at k sc depth left)
    → Came S N start log' own' o k sc depth left'

-- a statement gives the local in this slot to this variable at this place, and does nothing else
pub record AssignsField (c : Code) (field : NameId) (slot : ℕ) (place : Span) : Type 0 where
  pub name : NameId
  pub from : Span
  pub is : c ≡ code.SetField field (code.Local slot name from) place

-- a statement that gives one of so many parameters to a variable, and does nothing else
pub record AssignsParameter (count : ℕ) (c : Code) : Type 0 where
  pub field : NameId
  pub slot : ℕ
  pub place : Span
  pub below : slot < count
  pub assigns : AssignsField c field slot place

-- a method with so many parameters only gives them to variables
pub record OnlyAssigns (count : ℕ) (m : CodeMethod) : Type 0 where
  pub params : length m.params ≡ count
  pub body : AllByRecursion (AssignsParameter count) m.body

-- From where a method begins with these arguments, the machine comes to the outcome, and no one reads its value.
abbrev pub EntersUnread : ℕ → Val → CodeMethod → List Val → (depth left left' : ℕ) → (log log' : Log) → (own own' : Private) → Registers → Outcome → Type 0
EntersUnread N to method args depth left left' log log' own own' r o = Unread r o (EntersAtOnce N to method args depth left left' log log' own own')

-- a private object answers with this integer to the reading of a variable, which leaves the private things as they are
pub record HasInteger (own : Private) (object : Ref) (field : NameId) (n : ℤ) : Type 0 where
  pub there : is_some (held own object.id) ≡ true
  pub gives : Gives own object.id (GetField field) (reply.Value (Int n))
  pub stays : Becomes own object.id (GetField field) own

-- A node gives this integer in so many steps, at most three, which leave the scope and the private things as they are. It may read variables of
-- `self` and of other objects.
abbrev pub Fetches : CodeScript → Val → ℕ → Code → List Held → Private → ℤ → Type 0
Fetches script me steps code room own n =
    (S : Script) (N : ℕ) (names : List NameId) (size depth left : ℕ) (start : State) (log : Log) (k : List Cont)
    → StandsFor script S → fits S code names size ≡ true → length names ≤ length room → 2 < left → depth < 999
    → At S N start log own (On (Eval (erase code)) k (scope_of me names room) depth left) → At S N start log own (On (Give (Int n)) k (scope_of me names room) depth (left - steps))

-- an operation over two such nodes gives this answer
abbrev pub IsFetched : CodeScript → Val → Option Builtin → (first second : Code) → (steps_first steps_second : ℕ) → List Held → Private → Answer → Type 0
IsFetched script me method first second steps_first steps_second room own answer =
    (m : ℤ) × (n : ℤ) × Fetches script me steps_first first room own m × Fetches script me steps_second second room own n
    × ((program : Program) (name : List ℕ) → builtin_of name ≡ method → deed program (Int m) name (Int n ∷ []) None ≡ answer)
