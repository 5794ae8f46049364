-- The start of a node's evaluation, by what the node is.
use Rattle.std.specs.Prelude.{ℕ, List, [], ◌∷◌, Option, Some, None}
use Rattle.rb_tree.specs.declared.span.Span.{Span}
use Rattle.rb_tree.specs.declared.span.NameId.{NameId}
use Rattle.rb_tree.specs.declared.node.AssignOp.{AssignOp}
use Rattle.rb_tree.specs.declared.node.Node.{Node}
use Rattle.rb_tree.specs.declared.node.Target.{Target, out-Target}
use Rattle.rb_tree.specs.declared.node.Piece.{Piece}
use Rattle.rb_tree.specs.declared.node.Block.{Block}
use Rattle.rb_tree.specs.declared.node.Node.TheOpen.{Target-F}
use Rattle.rb_tree.specs.declared.node.Node.TheOpen as node
use Rattle.rb_tree.specs.Layer.{NodeLayer}
use Rattle.rb_model.specs.Values.{Nil, False, True, Int, Sym}
use Rattle.rb_model.specs.Acts.{GetField}
use Rattle.rb_machine.specs.Scopes.{Script, Scope, text_of, look}
use Rattle.rb_machine.specs.Control.{State, On, Cont, Then, Eval, Give, Leave, Looping, Passing, Joining, Break, Next, Return, AssignTo, FieldTo, GlobalTo, Choose, RightOfAnd, RightOfOr, Negate, ReturnOf, ReceiverOf, ReceiverToStore, IndexedBy, MemberOf, ByName, Creating, Listing, Pairing, Threading, OfLocal, OfField, OfGlobal}
use Rattle.rb_machine.specs.Call.{ask, globals, own_field, read_place}

-- the keys and the values of a literal, in the order of the text
abbrev pub parts : List (Node × Node) → List Node
parts [] = []
parts (p ∷ ps) = p.0 ∷ p.1 ∷ parts ps

module _ (S : Script) where
  -- the receiver first, then the arguments; a call without receiver has arguments alone
  abbrev pub begin_call : Option Node → NameId → List Node → Option Block → Span → List Cont → Scope → ℕ → ℕ → State
  begin_call (Some receiver) name args block at k sc d left = On (Eval receiver) (Then (ReceiverOf (text_of S name) args block at) ∷ k) sc d left
  begin_call None name args block at k sc d left = On (Passing (ByName name) [] args at) k sc d left

  -- an assignment with an operator evaluates the parts of its target first
  abbrev pub begin_target : Target-F Node Piece Target Block → AssignOp → Node → Span → List Cont → Scope → ℕ → ℕ → State
  begin_target (node.«Target::Local» name) op value at k sc d left = read_place S (OfLocal name) op value at k sc d left
  begin_target (node.«Target::Field» name) op value at k sc d left = read_place S (OfField name) op value at k sc d left
  begin_target (node.«Target::Global» name) op value at k sc d left = read_place S (OfGlobal name) op value at k sc d left
  begin_target (node.Index receiver index) op value at k sc d left = On (Eval receiver) (Then (IndexedBy index op value at) ∷ k) sc d left
  begin_target (node.Attribute receiver name) op value at k sc d left = On (Eval receiver) (Then (MemberOf (text_of S name) op value at) ∷ k) sc d left

  abbrev pub begin_return : Option Node → List Cont → Scope → ℕ → ℕ → State
  begin_return None k sc d left = On (Leave (Return Nil)) k sc d left
  begin_return (Some value) k sc d left = On (Eval value) (Then ReturnOf ∷ k) sc d left

  -- the start of a node
  abbrev pub begin : NodeLayer → List Cont → Scope → ℕ → ℕ → State
  begin (node.Nil at) k sc d left = On (Give Nil) k sc d left
  begin (node.False at) k sc d left = On (Give False) k sc d left
  begin (node.True at) k sc d left = On (Give True) k sc d left
  begin (node.SelfRef at) k sc d left = On (Give sc.me) k sc d left
  begin (node.Int n at) k sc d left = On (Give (Int n)) k sc d left
  begin (node.Sym name at) k sc d left = On (Give (Sym name)) k sc d left
  begin (node.Str pieces at) k sc d left = On (Joining [] pieces at) k sc d left
  begin (node.Array items at) k sc d left = On (Passing Listing [] items at) k sc d left
  begin (node.Hash pairs at) k sc d left = On (Passing Pairing [] (parts pairs) at) k sc d left
  begin (node.«Node::Local» name at) k sc d left = On (Give (look name sc.locals)) k sc d left
  begin (node.«Node::Field» name at) k sc d left = own_field (GetField name) at k sc d left
  begin (node.«Node::Global» name at) k sc d left = ask globals (GetField name) at k sc d left
  begin (node.SetLocal name value at) k sc d left = On (Eval value) (Then (AssignTo name) ∷ k) sc d left
  begin (node.SetField name value at) k sc d left = On (Eval value) (Then (FieldTo name at) ∷ k) sc d left
  begin (node.SetGlobal name value at) k sc d left = On (Eval value) (Then (GlobalTo name at) ∷ k) sc d left
  begin (node.Store receiver name args at) k sc d left = On (Eval receiver) (Then (ReceiverToStore (text_of S name) args at) ∷ k) sc d left
  begin (node.OpAssign target op value at) k sc d left = begin_target (out-Target target) op value at k sc d left
  begin (node.Call receiver name args block at) k sc d left = begin_call receiver name args block at k sc d left
  begin (node.New class args at) k sc d left = On (Passing (Creating class) [] args at) k sc d left
  begin (node.ThreadNew args body at) k sc d left = On (Passing (Threading body) [] args at) k sc d left
  begin (node.And first second at) k sc d left = On (Eval first) (Then (RightOfAnd second) ∷ k) sc d left
  begin (node.Or first second at) k sc d left = On (Eval first) (Then (RightOfOr second) ∷ k) sc d left
  begin (node.Not value at) k sc d left = On (Eval value) (Then Negate ∷ k) sc d left
  begin (node.If condition first second at) k sc d left = On (Eval condition) (Then (Choose first second) ∷ k) sc d left
  begin (node.While condition body at) k sc d left = On (Looping condition body) k sc d left
  begin (node.Return value at) k sc d left = begin_return value k sc d left
  begin (node.Break at) k sc d left = On (Leave Break) k sc d left
  begin (node.Next at) k sc d left = On (Leave Next) k sc d left
