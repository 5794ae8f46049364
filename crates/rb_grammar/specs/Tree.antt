-- Trees whose names have no numbers yet, and the making of each node. A tree is a node for each way to number names and
-- thread bodies, with what the text of the tree says beside it: the names that its tokens give, in the order of the text,
-- and the bodies of its threads, in the order of the text.
use Rattle.std.specs.Prelude.{ℕ, ℤ, suc, List, [], ◌∷◌, ◌++◌, Option, Some, None, map, codes, if◌then◌else◌}
use Rattle.std.specs.Str.{bytes_eq}
use Rattle.rb_tree.specs.declared.span.Span.{Span}
use Rattle.rb_tree.specs.declared.span.NameId.{NameId}
use Rattle.rb_tree.specs.declared.node.AssignOp.{AssignOp}
use Rattle.rb_tree.specs.declared.node.Node.{Node}
use Rattle.rb_tree.specs.declared.node.Node.TheVariants as node
use Rattle.rb_tree.specs.declared.node.Piece.{Piece}
use Rattle.rb_tree.specs.declared.node.Piece.TheVariants as piece
use Rattle.rb_tree.specs.declared.node.Target.{Target}
use Rattle.rb_tree.specs.declared.node.Target.TheVariants as target
use Rattle.rb_tree.specs.declared.node.Block.{Block, roll-Block}
use Rattle.rb_tree.specs.declared.node.Param.{Param}
use Rattle.rb_tree.specs.declared.node.Method.{Method}
use Rattle.rb_tree.specs.declared.node.Class.{Class}
use Rattle.rb_tree.specs.Height.{highest}

abbrev pub Text : Type 0
Text = List ℕ

-- a number for each name, and for the body of the thread whose block stands at a place
pub record Numbering : Type 0 where
  pub name : Text → NameId
  pub body : Span → ℕ

-- a text and the place of the token that gives it
pub record Word : Type 0 where
  pub text : Text
  pub at : Span

-- the name that a token at this place gives
abbrev pub given : Text → Span → Word
given text at = record { text = text; at = at }

-- the body of a thread, by the place of its block
pub record Thread : Type 0 where
  pub at : Span
  pub block : Numbering → Block

pub record Tree : Type 0 where
  -- the place of its node
  pub at : Span
  pub height : ℕ
  pub node : Numbering → Node
  pub names : List Word
  pub threads : List Thread

-- what trees say of their nodes, each tree in turn
abbrev pub heights : List Tree → List ℕ
heights = map (λ a. a.height)

abbrev pub nodes : Numbering → List Tree → List Node
nodes n = map (λ a. a.node n)

-- the names and the threads in the text of trees that stand one behind the other
abbrev pub names_of : List Tree → List Word
names_of [] = []
names_of (a ∷ more) = a.names ++ names_of more

abbrev pub threads_of : List Tree → List Thread
threads_of [] = []
threads_of (a ∷ more) = a.threads ++ threads_of more

-- a node with nothing in it, and the names that it gives
abbrev pub leaf : Span → List Word → (Numbering → Node) → Tree
leaf at names node = record { at = at; height = 1; node = node; names = names; threads = [] }

-- a node with trees in it, in the order of the text: one higher than the highest of them
abbrev pub branch : Span → List Word → List Tree → (Numbering → Node) → Tree
branch at names inside node = record { at = at; height = suc (highest (heights inside)); node = node; names = names; threads = threads_of inside }

-- ---- leaves

abbrev pub local : Word → Tree
local w = leaf w.at (w ∷ []) (λ n. node.Local (n.name w.text) w.at)

abbrev pub field : Word → Tree
field w = leaf w.at (w ∷ []) (λ n. node.Field (n.name w.text) w.at)

abbrev pub global : Word → Tree
global w = leaf w.at (w ∷ []) (λ n. node.Global (n.name w.text) w.at)

abbrev pub symbol : Word → Tree
symbol w = leaf w.at (w ∷ []) (λ n. node.Sym (n.name w.text) w.at)

-- a number as it is written, with its minus
abbrev pub integer : ℤ → Span → Tree
integer value at = leaf at [] (λ n. node.Int value at)

-- `nil`, `true`, `false` and `self`, and `break` and `next`
abbrev pub constant : (Span → Node) → Span → Tree
constant make at = leaf at [] (λ n. make at)

-- ---- calls

-- a block, with its parameters and the statements of its body
pub record BlockTree : Type 0 where
  pub at : Span
  pub params : List Word
  pub body : List Tree

abbrev pub texts : List Word → List Text
texts = map (λ w. w.text)

-- the parts of a node under a numbering
abbrev pub params_by : Numbering → List Word → List Param
params_by n = map (λ w. record { name = n.name w.text; at = w.at })

abbrev pub block_by : Numbering → BlockTree → Block
block_by n b = roll-Block (record { params = params_by n b.params; body = nodes n b.body; at = b.at })

abbrev pub block_names : BlockTree → List Word
block_names b = b.params ++ names_of b.body

-- a call without a block; the receiver may be missing
abbrev pub call : Option Tree → Word → List Tree → Tree
call None w args = branch w.at (w ∷ names_of args) args (λ n. node.Call None (n.name w.text) (nodes n args) None w.at)
call (Some a) w args =
    branch w.at (a.names ++ w ∷ names_of args) (a ∷ args) (λ n. node.Call (Some (a.node n)) (n.name w.text) (nodes n args) None w.at)

-- the same with a block, which has a receiver
abbrev pub call_with_block : Tree → Word → List Tree → BlockTree → Tree
call_with_block a w args b =
    branch w.at (a.names ++ w ∷ (names_of args ++ block_names b)) (a ∷ (args ++ b.body))
    (λ n. node.Call (Some (a.node n)) (n.name w.text) (nodes n args) (Some (block_by n b)) w.at)

-- an operator between two operands, as a call of its name
abbrev pub binary : Text → Span → Tree → Tree → Tree
binary operator at a b =
    branch at (a.names ++ given operator at ∷ b.names) (a ∷ b ∷ []) (λ n. node.Call (Some (a.node n)) (n.name operator) (b.node n ∷ []) None at)

-- the opposite of a truth: of an operand behind `!`, of the call `==` for `!=`, of a condition behind `unless` and `until`
abbrev pub negated : Span → Tree → Tree
negated at a = branch at a.names (a ∷ []) (λ n. node.Not (a.node n) at)

-- the method that a minus before an operand calls
abbrev pub minus_name : Text
minus_name = codes "-@"

abbrev pub minus : Span → Tree → Tree
minus at a = branch at (given minus_name at ∷ a.names) (a ∷ []) (λ n. node.Call (Some (a.node n)) (n.name minus_name) [] None at)

-- `a && b`, and `a || b`
abbrev pub and_also : Span → Tree → Tree → Tree
and_also at a b = branch at (a.names ++ b.names) (a ∷ b ∷ []) (λ n. node.And (a.node n) (b.node n) at)

abbrev pub or_else : Span → Tree → Tree → Tree
or_else at a b = branch at (a.names ++ b.names) (a ∷ b ∷ []) (λ n. node.Or (a.node n) (b.node n) at)

abbrev pub index_name : Text
index_name = codes "[]"

-- `receiver[index]`, at its bracket
abbrev pub index : Tree → Tree → Span → Tree
index a i at = branch at (a.names ++ given index_name at ∷ i.names) (a ∷ i ∷ []) (λ n. node.Call (Some (a.node n)) (n.name index_name) (i.node n ∷ []) None at)

-- `Class.new`, at its `new`
abbrev pub new : Word → Span → List Tree → Tree
new class at args = branch at (class ∷ names_of args) args (λ n. node.New (n.name class.text) (nodes n args) at)

-- `Thread.new`, at its `new`: its block is the body of a thread
abbrev pub thread_new : Span → List Tree → BlockTree → Tree
thread_new at args b = record {
  at = at;
  height = suc (highest (heights args));
  node = λ n. node.ThreadNew (nodes n args) (n.body b.at) at;
  names = names_of args ++ block_names b;
  threads = threads_of args ++ record { at = b.at; block = λ n. block_by n b } ∷ threads_of b.body;
}

-- ---- literals

-- a part of a text
pub data PieceTree : Type 0 where
  bytes : Text → PieceTree
  code : Tree → PieceTree

abbrev pub code_of : List PieceTree → List Tree
code_of [] = []
code_of (bytes text ∷ more) = code_of more
code_of (code a ∷ more) = a ∷ code_of more

abbrev pub piece_by : Numbering → PieceTree → Piece
piece_by n (bytes text) = piece.Text text
piece_by n (code a) = piece.Code (a.node n)

abbrev pub string : Span → List PieceTree → Tree
string at pieces = branch at (names_of (code_of pieces)) (code_of pieces) (λ n. node.Str (map (piece_by n) pieces) at)

-- `[a, b]`
abbrev pub array : Span → List Tree → Tree
array at items = branch at (names_of items) items (λ n. node.Array (nodes n items) at)

-- keys and values in turn
abbrev pub flat : List (Tree × Tree) → List Tree
flat [] = []
flat (p ∷ ps) = p.0 ∷ p.1 ∷ flat ps

-- `{a => b}`
abbrev pub hash : Span → List (Tree × Tree) → Tree
hash at pairs = branch at (names_of (flat pairs)) (flat pairs) (λ n. node.Hash (map (λ p. (p.0.node n, p.1.node n)) pairs) at)

-- ---- control

-- a choice between two bodies, with its condition before them
abbrev pub choice : Span → Tree → List Tree → List Tree → Tree
choice at condition first second =
    branch at (condition.names ++ (names_of first ++ names_of second)) (condition ∷ (first ++ second))
    (λ n. node.If (condition.node n) (nodes n first) (nodes n second) at)

-- a loop, with its condition before the body
abbrev pub loop : Span → Tree → List Tree → Tree
loop at condition body = branch at (condition.names ++ names_of body) (condition ∷ body) (λ n. node.While (condition.node n) (nodes n body) at)

-- `body if condition` and `body while condition`: the condition stands behind the body
abbrev pub choice_behind : Span → Tree → Tree → Tree
choice_behind at body condition =
    branch at (body.names ++ condition.names) (body ∷ condition ∷ []) (λ n. node.If (condition.node n) (body.node n ∷ []) [] at)

abbrev pub loop_behind : Span → Tree → Tree → Tree
loop_behind at body condition =
    branch at (body.names ++ condition.names) (body ∷ condition ∷ []) (λ n. node.While (condition.node n) (body.node n ∷ []) at)

-- `return`, and `return a`
abbrev pub return_nothing : Span → Tree
return_nothing at = leaf at [] (λ n. node.Return None at)

abbrev pub return_value : Span → Tree → Tree
return_value at a = branch at a.names (a ∷ []) (λ n. node.Return (Some (a.node n)) at)

-- ---- what may stand before an assignment mark

pub data TargetTree : Type 0 where
  to_local to_field to_global : Word → TargetTree
  -- receiver, index and the place of the bracket
  to_index : Tree → Tree → Span → TargetTree
  to_attribute : Tree → Word → TargetTree

-- the methods that `receiver[index] = value` and `receiver.name = value` call
abbrev pub store_name : Text
store_name = codes "[]="

abbrev pub setter_of : Text → Text
setter_of text = text ++ codes "="

-- target "=" value
abbrev pub assigned : TargetTree → Span → Tree → Tree
assigned (to_local w) at a = branch at (w ∷ a.names) (a ∷ []) (λ n. node.SetLocal (n.name w.text) (a.node n) at)
assigned (to_field w) at a = branch at (w ∷ a.names) (a ∷ []) (λ n. node.SetField (n.name w.text) (a.node n) at)
assigned (to_global w) at a = branch at (w ∷ a.names) (a ∷ []) (λ n. node.SetGlobal (n.name w.text) (a.node n) at)
assigned (to_index r i bracket) at a =
    branch at (r.names ++ given store_name bracket ∷ (i.names ++ a.names)) (r ∷ i ∷ a ∷ []) (λ n. node.Store (r.node n) (n.name store_name) (i.node n ∷ a.node n ∷ []) at)
assigned (to_attribute r w) at a =
    branch at (r.names ++ given (setter_of w.text) w.at ∷ a.names) (r ∷ a ∷ []) (λ n. node.Store (r.node n) (n.name (setter_of w.text)) (a.node n ∷ []) at)

-- the target of `+=` and the like, under a numbering, with the names and the trees in its text
abbrev pub target_by : Numbering → TargetTree → Target
target_by n (to_local w) = target.Local (n.name w.text)
target_by n (to_field w) = target.Field (n.name w.text)
target_by n (to_global w) = target.Global (n.name w.text)
target_by n (to_index r i bracket) = target.Index (r.node n) (i.node n)
target_by n (to_attribute r w) = target.Attribute (r.node n) (n.name w.text)

abbrev pub target_names : TargetTree → List Word
target_names (to_local w) = w ∷ []
target_names (to_field w) = w ∷ []
target_names (to_global w) = w ∷ []
target_names (to_index r i bracket) = r.names ++ i.names
target_names (to_attribute r w) = r.names ++ w ∷ []

abbrev pub inside_target : TargetTree → List Tree
inside_target (to_index r i bracket) = r ∷ i ∷ []
inside_target (to_attribute r w) = r ∷ []
inside_target variable = []

-- target "+=" value, and so on
abbrev pub operated : TargetTree → AssignOp → Span → Tree → Tree
operated t op at a =
    branch at (target_names t ++ a.names) (inside_target t ++ a ∷ []) (λ n. node.OpAssign (target_by n t) op (a.node n) at)

-- ---- methods and classes

pub record MethodTree : Type 0 where
  pub name : Word
  pub params : List Word
  pub body : List Tree

-- the methods of a class, with the names and the thread bodies in their text
pub record Members : Type 0 where
  pub methods : List MethodTree
  pub names : List Word
  pub threads : List Thread

pub record ClassTree : Type 0 where
  pub name : Word
  pub members : Members

-- the items of a script, each kind in the order of the text, with the names and the thread bodies in the text of all of them
pub record Items : Type 0 where
  pub classes : List ClassTree
  pub functions : List MethodTree
  pub main : List Tree
  pub names : List Word
  pub threads : List Thread

-- methods and classes under a numbering, and the names in the text of a method
abbrev pub method_by : Numbering → MethodTree → Method
method_by n m = record { name = n.name m.name.text; params = params_by n m.params; body = nodes n m.body; at = m.name.at }

abbrev pub class_by : Numbering → ClassTree → Class
class_by n c = record { name = n.name c.name.text; methods = map (method_by n) c.members.methods; at = c.name.at }

abbrev pub method_names : MethodTree → List Word
method_names m = m.name ∷ (m.params ++ names_of m.body)

-- ---- the methods of `attr` lines

abbrev pub field_of : Text → Text
field_of text = codes "@" ++ text

-- the method `x` with the body `@x`
abbrev pub reader_of : Word → MethodTree
reader_of w = record { name = w; params = []; body = field (given (field_of w.text) w.at) ∷ [] }

-- the method `x=` with the parameter `v` and the body `@x = v`
abbrev pub writer_of : Word → MethodTree
writer_of w =
    let value : Word = given (codes "v") w.at in
    record {
      name = given (setter_of w.text) w.at;
      params = value ∷ [];
      body = assigned (to_field (given (field_of w.text) w.at)) w.at (local value) ∷ [];
    }

-- what the word of an `attr` line makes of a symbol, and the names that the symbol gives
abbrev pub attribute_methods : Text → Word → List MethodTree
attribute_methods kind w =
    if bytes_eq kind (codes "attr_reader") then reader_of w ∷ []
    else if bytes_eq kind (codes "attr_writer") then writer_of w ∷ []
    else reader_of w ∷ writer_of w ∷ []

abbrev pub attribute_names : Text → Word → List Word
attribute_names kind w =
    if bytes_eq kind (codes "attr_reader") then w ∷ given (field_of w.text) w.at ∷ []
    else if bytes_eq kind (codes "attr_writer") then given (field_of w.text) w.at ∷ given (setter_of w.text) w.at ∷ given (codes "v") w.at ∷ []
    else w ∷ given (field_of w.text) w.at ∷ given (setter_of w.text) w.at ∷ given (codes "v") w.at ∷ []

-- ---- gathering: what was read so far, with one more behind it

abbrev pub no_members : Members
no_members = record { methods = []; names = []; threads = [] }

abbrev pub with_method : Members → MethodTree → Members
with_method m f = record { methods = m.methods ++ f ∷ []; names = m.names ++ method_names f; threads = m.threads ++ threads_of f.body }

abbrev pub with_attributes : Members → Text → List Word → Members
with_attributes m kind [] = m
with_attributes m kind (w ∷ ws) =
    with_attributes (record { methods = m.methods ++ attribute_methods kind w; names = m.names ++ attribute_names kind w; threads = m.threads }) kind ws

abbrev pub no_items : Items
no_items = record { classes = []; functions = []; main = []; names = []; threads = [] }

abbrev pub with_class : Items → ClassTree → Items
with_class i c =
    record { classes = i.classes ++ c ∷ []; functions = i.functions; main = i.main; names = i.names ++ c.name ∷ c.members.names; threads = i.threads ++ c.members.threads }

abbrev pub with_function : Items → MethodTree → Items
with_function i f =
    record { classes = i.classes; functions = i.functions ++ f ∷ []; main = i.main; names = i.names ++ method_names f; threads = i.threads ++ threads_of f.body }

abbrev pub with_statement : Items → Tree → Items
with_statement i a =
    record { classes = i.classes; functions = i.functions; main = i.main ++ a ∷ []; names = i.names ++ a.names; threads = i.threads ++ a.threads }
