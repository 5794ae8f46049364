-- What the parts of a state hold and come to: their values, and the code in them. What a law says of both is one word for all parts.
use Rattle.std.proofs.Common.{◌≡◌, ℕ, List, [], ◌∷◌, ◌++◌, map, Option, Some, None}
use Rattle.std.specs.List.{flat_map}
use Rattle.rb_tree.specs.declared.node.Node.{Node, out-Node}
use Rattle.rb_tree.specs.declared.node.Piece.{Piece, out-Piece}
use Rattle.rb_tree.specs.declared.node.Target.{Target, out-Target}
use Rattle.rb_tree.specs.declared.node.Block.{Block}
use Rattle.rb_tree.specs.declared.node.Method.{Method}
use Rattle.rb_tree.specs.declared.node.Class.{Class}
use Rattle.rb_tree.specs.declared.node.Node.TheOpen.{Piece-F, Target-F}
use Rattle.rb_tree.specs.declared.node.Node.TheOpen as node
use Rattle.rb_tree.specs.Layer.{NodeLayer}
use Rattle.rb_model.specs.Values.{Value as Val, Reference}
use Rattle.rb_model.specs.Ends.{End, told}
use Rattle.rb_machine.specs.Scopes.{Script, Scope}
use Rattle.rb_machine.specs.Control.{State, On, Cont, Then, Test, Again, Turn, Owning, Control, Eval, Following, Looping, Turning, Passing, Joining, Reading, Starting, Ended}
use Rattle.rb_machine.specs.Control.{Aim, OnReceiver, Threading, Use, ForEach, Step, Rest, Choose, RightOfAnd, RightOfOr, ReceiverOf, ReceiverToStore, Argument, PieceOf, JoinTo, Locked, ElementBelow, WithElement, IndexedBy, MemberOf, IndexOf, ReadOf}
use Rattle.rb_machine.specs.Call.{globals, ended}
use Rattle.rb_machine.specs.Begin.{parts}
use Rattle.rb_closure.specs.Mentions.{values_in_use, values_in_step, values_in_scope, values_in_cont, values_in_control}
use Rattle.rb_closure.specs.Closure.{Each, IfReference}

-- what is left of a script in a state: nodes, starts of threads, and names of global variables
pub data Code : Type 0 where
  ANode : (n : Node) → Code
  AStart : Code
  AGlobal : Code

abbrev pub code_in_nodes : List Node → List Code
code_in_nodes ns = map ANode ns

abbrev pub code_in_one : Option Node → List Code
code_in_one None = []
code_in_one (Some n) = ANode n ∷ []

abbrev pub code_in_given : Option Block → List Code
code_in_given None = []
code_in_given (Some block) = code_in_nodes block.body

abbrev pub code_in_piece : Piece-F Node Piece Target Block → List Code
code_in_piece (node.Text text) = []
code_in_piece (node.Code n) = ANode n ∷ []

abbrev pub code_in_pieces : List Piece → List Code
code_in_pieces ps = flat_map (λ (p : Piece). code_in_piece (out-Piece p)) ps

abbrev pub code_in_target : Target-F Node Piece Target Block → List Code
code_in_target (node.«Target::Global» name) = AGlobal ∷ []
code_in_target (node.Index receiver index) = ANode receiver ∷ ANode index ∷ []
code_in_target (node.Attribute receiver name) = ANode receiver ∷ []
code_in_target target = []

-- the parts of a node
abbrev pub code_in_layer : NodeLayer → List Code
code_in_layer (node.Str pieces at) = code_in_pieces pieces
code_in_layer (node.Array items at) = code_in_nodes items
code_in_layer (node.Hash pairs at) = code_in_nodes (parts pairs)
code_in_layer (node.«Node::Global» name at) = AGlobal ∷ []
code_in_layer (node.SetLocal name value at) = ANode value ∷ []
code_in_layer (node.SetField name value at) = ANode value ∷ []
code_in_layer (node.SetGlobal name value at) = AGlobal ∷ ANode value ∷ []
code_in_layer (node.Store receiver name args at) = ANode receiver ∷ code_in_nodes args
code_in_layer (node.OpAssign target op value at) = ANode value ∷ code_in_target (out-Target target)
code_in_layer (node.Call receiver name args block at) = code_in_one receiver ++ (code_in_given block ++ code_in_nodes args)
code_in_layer (node.New class args at) = code_in_nodes args
code_in_layer (node.ThreadNew args body at) = AStart ∷ code_in_nodes args
code_in_layer (node.And first second at) = ANode first ∷ ANode second ∷ []
code_in_layer (node.Or first second at) = ANode first ∷ ANode second ∷ []
code_in_layer (node.Not value at) = ANode value ∷ []
code_in_layer (node.If condition first second at) = ANode condition ∷ code_in_nodes first ++ code_in_nodes second
code_in_layer (node.While condition body at) = ANode condition ∷ code_in_nodes body
code_in_layer (node.Return value at) = code_in_one value
code_in_layer leaf = []

abbrev pub code_in_aim : Aim → List Code
code_in_aim (OnReceiver receiver name block) = code_in_given block
code_in_aim (Threading body) = AStart ∷ []
code_in_aim aim = []

abbrev pub code_in_use : Use → List Code
code_in_use (ForEach answer block) = code_in_nodes block.body
code_in_use purpose = []

abbrev pub code_in_step : Step → List Code
code_in_step (Rest nodes) = code_in_nodes nodes
code_in_step (Choose first second) = code_in_nodes first ++ code_in_nodes second
code_in_step (RightOfAnd right) = ANode right ∷ []
code_in_step (RightOfOr right) = ANode right ∷ []
code_in_step (ReceiverOf name args block at) = code_in_given block ++ code_in_nodes args
code_in_step (ReceiverToStore name args at) = code_in_nodes args
code_in_step (Argument aim done rest at) = code_in_aim aim ++ code_in_nodes rest
code_in_step (PieceOf bytes pieces at) = code_in_pieces pieces
code_in_step (JoinTo bytes pieces at) = code_in_pieces pieces
code_in_step (Locked mutex block at) = code_in_nodes block.body
code_in_step (ElementBelow array next walk block at) = code_in_nodes block.body
code_in_step (WithElement array next walk block at) = code_in_nodes block.body
code_in_step (IndexedBy index op value at) = ANode index ∷ ANode value ∷ []
code_in_step (MemberOf name op value at) = ANode value ∷ []
code_in_step (IndexOf receiver op value at) = ANode value ∷ []
code_in_step (ReadOf place op value at) = ANode value ∷ []
code_in_step step = []

abbrev pub code_in_cont : Cont → List Code
code_in_cont (Then step) = code_in_step step
code_in_cont (Test condition body) = ANode condition ∷ code_in_nodes body
code_in_cont (Again condition body) = ANode condition ∷ code_in_nodes body
code_in_cont (Turn turns block kept) = code_in_nodes block.body
code_in_cont (Owning mutex block at kept) = code_in_nodes block.body
code_in_cont mark = []

abbrev pub code_in_control : Control → List Code
code_in_control (Eval n) = ANode n ∷ []
code_in_control (Following v nodes) = code_in_nodes nodes
code_in_control (Looping condition body) = ANode condition ∷ code_in_nodes body
code_in_control (Turning turns block) = code_in_nodes block.body
code_in_control (Passing aim done rest at) = code_in_aim aim ++ code_in_nodes rest
code_in_control (Joining bytes pieces at) = code_in_pieces pieces
code_in_control (Reading thing purpose at) = code_in_use purpose
code_in_control (Starting body values at) = AStart ∷ []
code_in_control control = []

-- ---- what is said of parts

-- this holds of each reference among the values, and that of the code
abbrev pub Fits : (Reference → Type 0) → (Code → Type 0) → List Val → List Code → Type 0
Fits R C vs cs = Each (IfReference R) vs × Each C cs

abbrev pub FitsMethod : (Code → Type 0) → Method → Type 0
FitsMethod C m = Each C (code_in_nodes m.body)

abbrev pub FitsClass : (Code → Type 0) → Class → Type 0
FitsClass C k = Each (FitsMethod C) k.methods

-- What is said of the references, of the code, of what waits, and of an end, so that each move of a script keeps it: what holds of a node
-- holds of its parts, what holds of a script's methods is known, what waits may become more, and an end without a value is as is said.
pub record Rules (S : Script) : Type 1 where
  pub Refers : Reference → Type 0
  pub Has : Code → Type 0
  pub Waits : List Cont → Type 0
  pub Ends : End → Type 0
  pub parts : (n : Node) → Has (ANode n) → Each Has (code_in_layer (out-Node n))
  pub global : Has AGlobal → Refers globals
  pub functions : Each (FitsMethod Has) S.program.functions
  pub classes : Each (FitsClass Has) S.program.classes
  pub waits : (c : Cont) (k : List Cont) → Fits Refers Has (values_in_cont c) (code_in_cont c) → Waits k → Waits (c ∷ k)
  pub early : (how : End) → told how ≡ [] → Ends how

module _ (S : Script) (P : Rules S) where
  abbrev pub Good : Val → Type 0
  Good v = IfReference P.Refers v

  abbrev pub GoodAll : List Val → Type 0
  GoodAll vs = Each (IfReference P.Refers) vs

  abbrev pub GoodCode : List Code → Type 0
  GoodCode cs = Each P.Has cs

  abbrev pub GoodUse : Use → Type 0
  GoodUse purpose = Fits P.Refers P.Has (values_in_use purpose) (code_in_use purpose)

  abbrev pub GoodStep : Step → Type 0
  GoodStep step = Fits P.Refers P.Has (values_in_step step) (code_in_step step)

  abbrev pub GoodCont : Cont → Type 0
  GoodCont c = Fits P.Refers P.Has (values_in_cont c) (code_in_cont c)

  abbrev pub GoodControl : Control → Type 0
  GoodControl c = Fits P.Refers P.Has (values_in_control c) (code_in_control c)

  -- what waits, and the scope
  abbrev pub Around : List Cont → Scope → Type 0
  Around k sc = P.Waits k × GoodAll (values_in_scope sc)

  -- an end, behind which nothing comes
  abbrev pub GoodState : State → Type 0
  GoodState (On (Ended how) k sc d left) = P.Ends how × Each GoodCont k × GoodAll (values_in_scope sc)
  GoodState (On c k sc d left) = GoodControl c × Around k sc

  pub ended_good : (how : End) (left : ℕ) → P.Ends how → GoodState (ended how left)
  ended_good how left e = (e, tt, (tt, tt))

  -- one more that waits
  pub under : (c : Cont) (k : List Cont) (sc : Scope) → GoodCont c → Around k sc → Around (c ∷ k) sc
  under c k sc good h = (P.waits c k good h.0, h.1)
