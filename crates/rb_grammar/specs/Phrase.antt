-- The phrases of the grammar, and what each of them stands for.
use Rattle.std.specs.Prelude.{Bool, List, Option}
use Rattle.rb_tree.specs.declared.span.Span.{Span}
use Rattle.rb_lexer.specs.declared.token.Token.{Token}
use Rattle.rb_grammar.specs.Tree.{Word, Tree, BlockTree, PieceTree, MethodTree, ClassTree, Members, Items}

-- an operand that was read, by how it ends: some may still become the target of an assignment
pub data Operand : Type 0 where
  -- no target
  value : Tree → Operand
  -- a local; an identifier that is no local; an instance or a global variable
  variable bare of_field of_global : Word → Operand
  -- receiver, index and the place of the bracket
  indexed : Tree → Tree → Span → Operand
  -- a call of a name without brackets
  member : Tree → Word → Operand

-- a call of a name, or `Class.new` at its `new`, whose arguments follow without brackets
pub data Head : Type 0 where
  of_call : Option Tree → Word → Head
  of_new : Word → Span → Head

-- what was read of an expression so far
pub data Part : Type 0 where
  plain : Operand → Part
  head : Head → Part

-- the operators between two operands by how tightly they bind, the loosest first; the last has none: an operand with its marks
pub data Tier : Type 0 where
  or_tier and_tier equal_tier less_tier shift_tier sum_tier product_tier unary_tier : Tier

-- The phrases. One whose name ends in `rest` goes on behind what it names, and one that has an argument goes on behind that.
-- The flag of an expression and its parts says whether a `do` block may stand in it: it may not where a `do` belongs to a loop,
-- nor in the arguments of a command.
pub data Phrase : Type 0 where
  items items_rest : Items → Phrase
  class_rest : Phrase
  members_rest : Members → Phrase
  symbols : Phrase
  symbols_rest : List Word → Phrase
  method_rest : Phrase
  params one_param : Phrase
  params_rest : List Word → Phrase
  method_body : Word → List Word → Phrase
  body body_rest : List Tree → Phrase
  statement simple : Phrase
  modified : Tree → Phrase
  expression assignment argument ternary unary postfix primary : Bool → Phrase
  assignment_rest ternary_rest postfix_rest : Bool → Part → Phrase
  branches : Bool → Phrase
  chain : Bool → Tier → Phrase
  chain_rest : Bool → Tier → Part → Phrase
  command_arguments arguments : Phrase
  command_arguments_rest arguments_rest : List Tree → Phrase
  index_rest group_rest code_rest : Phrase
  array_rest : Phrase
  array_items_rest : List Tree → Phrase
  hash_rest pair : Phrase
  pairs_rest : List (Tree × Tree) → Phrase
  conditional loop_rest : Token → Phrase
  then : Phrase
  -- whether `elsif` may stand
  otherwise : Bool → Phrase
  text_rest : List PieceTree → Phrase
  -- whether the block stands in braces, and the place of the token that opened it
  block_rest : Bool → Span → Phrase
  bar_params_rest : List Word → Phrase
  block_body : Bool → Span → List Word → Phrase

-- what a phrase stands for
abbrev pub Value : Phrase → Type 0
Value (items found) = Items
Value (items_rest found) = Items
Value class_rest = ClassTree
Value (members_rest found) = Members
Value symbols = List Word
Value (symbols_rest found) = List Word
Value method_rest = MethodTree
Value params = List Word
Value one_param = Word
Value (params_rest found) = List Word
Value (method_body name words) = MethodTree
Value (body found) = List Tree
Value (body_rest found) = List Tree
Value statement = Tree
Value simple = Tree
Value (modified a) = Tree
Value (expression d) = Tree
Value (assignment d) = Part
Value (argument d) = Tree
Value (ternary d) = Part
Value (unary d) = Part
Value (postfix d) = Part
Value (primary d) = Part
Value (assignment_rest d part) = Part
Value (ternary_rest d part) = Part
Value (postfix_rest d part) = Part
Value (branches d) = Tree × Tree
Value (chain d tier) = Part
Value (chain_rest d tier part) = Part
Value command_arguments = List Tree
Value arguments = List Tree
Value (command_arguments_rest found) = List Tree
Value (arguments_rest found) = List Tree
Value index_rest = Tree
Value group_rest = Tree
Value code_rest = Tree
Value array_rest = List Tree
Value (array_items_rest found) = List Tree
Value hash_rest = List (Tree × Tree)
Value pair = Tree × Tree
Value (pairs_rest found) = List (Tree × Tree)
Value (conditional word) = Tree
Value (loop_rest word) = Tree
Value then = Unit {0}
Value (otherwise may_go_on) = List Tree
Value (text_rest found) = List PieceTree
Value (block_rest in_braces at) = BlockTree
Value (bar_params_rest found) = List Word
Value (block_body in_braces at words) = BlockTree
