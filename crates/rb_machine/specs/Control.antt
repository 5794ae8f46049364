-- What the machine is at, and what waits behind it.
use Rattle.std.specs.Prelude.{ℕ, ℤ, List, Option}
use Rattle.rb_tree.specs.declared.span.Span.{Span}
use Rattle.rb_tree.specs.declared.span.NameId.{NameId}
use Rattle.rb_tree.specs.declared.node.AssignOp.{AssignOp}
use Rattle.rb_tree.specs.declared.node.Node.{Node}
use Rattle.rb_tree.specs.declared.node.Piece.{Piece}
use Rattle.rb_tree.specs.declared.node.Block.{Block}
use Rattle.rb_model.specs.Values.{Value, Reference}
use Rattle.rb_model.specs.Acts.{Act}
use Rattle.rb_model.specs.Ends.{End}
use Rattle.rb_model.specs.Things.{Thing}
use Rattle.rb_machine.specs.Scopes.{Scope, Text}

-- how a part of a script is left without a value of its own
pub data Exit : Type 0 where
  Break : Exit
  Next : Exit
  Return : (value : Value) → Exit

-- what arguments are evaluated for: the call of a method of a receiver, of a method by its name alone, an assignment by a call,
-- whose value is the last argument, a new object of a class, a new array of them, a new hash of keys and values by turns, or a new thread that
-- runs the body of a number
pub data Aim : Type 0 where
  OnReceiver : (receiver : Value) (name : Text) (block : Option Block) → Aim
  ByName : (name : NameId) → Aim
  Storing : (receiver : Value) (name : Text) → Aim
  Creating : (class : NameId) → Aim
  Listing : Aim
  Pairing : Aim
  Threading : (body : ℕ) → Aim

-- what an assignment with an operator reads and writes, once its parts are evaluated
pub data Place : Type 0 where
  OfLocal : (name : NameId) → Place
  OfField : (name : NameId) → Place
  OfGlobal : (name : NameId) → Place
  OfElement : (receiver index : Value) → Place
  OfAttribute : (receiver : Value) (name : Text) → Place

-- What the call of a block for the elements of an array makes: nothing; nothing, and the block is given the index too; an array of what the
-- block gives; or one of the elements for which it gives a true value, the last of those that it was given behind those that are kept.
pub data Walk : Type 0 where
  Each : Walk
  WithIndex : Walk
  Map : (values : List Value) → Walk
  Select : (kept : List Value) (current : Value) → Walk

-- What the iterations of a block are given, and what its call answers in the end: the integers from the next up to those below the last; the
-- elements of an array from the next place on; the pairs that are left.
pub data Turns : Type 0 where
  Counting : (next last : ℤ) (answer : Value) → Turns
  Walking : (array : Reference) (next : ℕ) (walk : Walk) (at : Span) → Turns
  EachPair : (pairs : List (Value × Value)) (answer : Value) → Turns

-- how texts are printed: `puts` makes lines of them, `print` writes them as they are, and `p`, whose arguments these are, makes a line of the
-- inspected form of each
pub data Style : Type 0 where
  Lines : Style
  Plain : Style
  Inspecting : (args : List Value) → Style

-- how the text of a collection is made: as `inspect` gives it, or line by line, as `puts` writes an array
pub data Form : Type 0 where
  Inspected : Form
  Lined : Form

-- A collection whose text is begun: the bytes before what comes next in it, and what is left of it.
pub data Open : Type 0 where
  OfArray : (array : Reference) (lead : Text) (values : List Value) → Open
  OfHash : (hash : Reference) (lead : Text) (pairs : List (Value × Value)) → Open

-- what comes next in a text: what is left of the innermost collection; or a value, or a pair, behind these bytes
pub data Coming : Type 0 where
  Between : Coming
  OfValue : (lead : Text) (value : Value) → Coming
  OfPair : (lead : Text) (key value : Value) → Coming

-- A text that is being made: its form, what comes next, its bytes so far, and the collections that are begun, the innermost first.
pub record Draft : Type 0 where
  pub form : Form
  pub coming : Coming
  pub bytes : Text
  pub begun : List Open

-- what a collection is read for, by one copy: the keys or the values of a hash, a block that is called with each of its pairs, or a text
pub data Use : Type 0 where
  Keys : Use
  Values : Use
  ForEach : (answer : Value) (block : Block) → Use
  ForText : (draft : Draft) → Use

-- what is done with a value inside a node
pub data Step : Type 0 where
  AssignTo : (name : NameId) → Step
  FieldTo : (name : NameId) (at : Span) → Step
  GlobalTo : (name : NameId) (at : Span) → Step
  -- the statements behind a value
  Rest : (nodes : List Node) → Step
  Choose : (first second : List Node) → Step
  RightOfAnd : (right : Node) → Step
  RightOfOr : (right : Node) → Step
  Negate : Step
  ReturnOf : Step
  ReceiverOf : (name : Text) (args : List Node) (block : Option Block) (at : Span) → Step
  ReceiverToStore : (name : Text) (args : List Node) (at : Span) → Step
  Argument : (aim : Aim) (done : List Value) (rest : List Node) (at : Span) → Step
  -- another value in its place
  Instead : (value : Value) → Step
  Create : (thing : Thing) → Step
  -- the object is made, and `initialize` is called with these arguments
  Initialize : (args : List Value) (at : Span) → Step
  PieceOf : (bytes : List ℕ) (pieces : List Piece) (at : Span) → Step
  -- a text that joins what there is of a literal, or of a print before other values; and the answer of an object's `to_s`
  JoinTo : (bytes : List ℕ) (pieces : List Piece) (at : Span) → Step
  WriteBehind : (style : Style) (bytes : List ℕ) (values : List Value) (at : Span) → Step
  -- the lines of an array, behind the bytes of a print and before other values; and the text of an element, as a line among them
  LinesBehind : (bytes : List ℕ) (values : List Value) (at : Span) → Step
  LineOf : (draft : Draft) (at : Span) → Step
  TextOf : (object : Value) → Step
  -- whether there are none, by their number
  IsZero : Step
  -- the block of `synchronize`, once its mutex is locked
  Locked : (mutex : Reference) (block : Block) (at : Span) → Step
  -- the next element of an array, where its length says that there is one; and the iteration of a block with it
  ElementBelow : (array : Reference) (next : ℕ) (walk : Walk) (block : Block) (at : Span) → Step
  WithElement : (array : Reference) (next : ℕ) (walk : Walk) (block : Block) (at : Span) → Step
  -- an assignment with an operator: the receiver of its target, the index, the value that the target has, the right side, the value to write
  IndexedBy : (index : Node) (op : AssignOp) (value : Node) (at : Span) → Step
  MemberOf : (name : Text) (op : AssignOp) (value : Node) (at : Span) → Step
  IndexOf : (receiver : Value) (op : AssignOp) (value : Node) (at : Span) → Step
  ReadOf : (place : Place) (op : AssignOp) (value : Node) (at : Span) → Step
  RightOf : (current : Value) (op : AssignOp) (at : Span) → Step
  WriteTo : (place : Place) (at : Span) → Step

-- What waits: a step inside a node; or what an exit may end: a node, begun at this depth; the condition and the body of a loop; an
-- iteration of a block, with so many locals round it, and those that are left; a block that owns a mutex, likewise; a method, with the scope
-- that called it.
pub data Cont : Type 0 where
  Then : (step : Step) → Cont
  Under : (depth : ℕ) → Cont
  Test : (condition : Node) (body : List Node) → Cont
  Again : (condition : Node) (body : List Node) → Cont
  Turn : (turns : Turns) (block : Block) (kept : ℕ) → Cont
  Owning : (mutex : Reference) (block : Block) (at : Span) (kept : ℕ) → Cont
  Frame : (saved : Scope) → Cont

-- how many nodes may be under evaluation at once, and collections whose text is being made
abbrev pub max_depth : ℕ
max_depth = 1000

-- what the machine is at
pub data Control : Type 0 where
  -- a node is evaluated; its value is given to what waits; or a part is left
  Eval : (node : Node) → Control
  Give : (value : Value) → Control
  Leave : (exit : Exit) → Control
  -- the rest of a body, behind a statement with this value
  Following : (value : Value) (nodes : List Node) → Control
  Looping : (condition : Node) (body : List Node) → Control
  Turning : (turns : Turns) (block : Block) → Control
  -- the arguments that are left, behind those that are evaluated
  Passing : (aim : Aim) (done : List Value) (rest : List Node) (at : Span) → Control
  -- the pieces of a text that are left, behind these bytes
  Joining : (bytes : List ℕ) (pieces : List Piece) (at : Span) → Control
  -- a text with collections in it is made
  Drafting : (draft : Draft) (at : Span) → Control
  -- a thing is made; something is asked of a thing; a collection is read by one copy; a thread is started; bytes are shown
  Making : (thing : Thing) → Control
  Calling : (thing : Reference) (act : Act) (at : Span) → Control
  Reading : (thing : Reference) (purpose : Use) (at : Span) → Control
  Starting : (body : ℕ) (values : List Value) (at : Span) → Control
  Showing : (bytes : List ℕ) → Control
  Ended : (how : End) → Control

-- A state: what the machine is at, what waits, the scope, how many nodes are under evaluation, and how many steps are left.
pub data State : Type 0 where
  On : Control → List Cont → Scope → (depth left : ℕ) → State
