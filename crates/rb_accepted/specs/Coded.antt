-- Which programs have code: each local has a slot where it stands, each class of which objects are made is there, and names that are methods or
-- attributes are words. Every accepted program has.
use Rattle.std.specs.Prelude.{ℕ, suc, Bool, true, false, not, ◌&&◌, ◌||◌, ◌==◌, is_some, List, [], ◌∷◌, ◌++◌, map, Option, Some, None}
use Rattle.std.specs.List.{list_all, list_any}
use Rattle.rb_tree.specs.declared.span.NameId.{NameId}
use Rattle.rb_tree.specs.declared.span.Span.{Span}
use Rattle.rb_tree.specs.declared.node.Node.{Node, fold-Node}
use Rattle.rb_tree.specs.declared.node.Piece.{Piece, fold-Piece}
use Rattle.rb_tree.specs.declared.node.Target.{Target, fold-Target}
use Rattle.rb_tree.specs.declared.node.Block.{Block, fold-Block}
use Rattle.rb_tree.specs.declared.node.Node.TheOpen.{Node-F, Piece-F, Target-F, Block-F}
use Rattle.rb_tree.specs.declared.node.Node.TheOpen as node
use Rattle.rb_tree.specs.declared.node.Program.{Program}
use Rattle.rb_tree.specs.declared.node.Class.{Class}
use Rattle.rb_tree.specs.declared.node.Method.{Method}
use Rattle.rb_lexer.specs.Character.{is_word_part}
use Rattle.rb_checker.specs.Scoped as scoped
use Rattle.rb_checker.specs.Captured as captured
use Rattle.rb_accepted.specs.Unbuilt.{text_of, is_call, is_built_class}

-- a text that begins with a letter, a digit or `_`: that of no operator, and not empty
abbrev pub begins_word : List ℕ → Bool
begins_word [] = false
begins_word (b ∷ bs) = is_word_part b

-- whether something has code where these names are in scope
abbrev pub Coded : Type 0
Coded = List NameId → Bool

abbrev pub every : List Coded → Coded
every [] scope = true
every (c ∷ cs) scope = c scope && every cs scope

abbrev pub if_some : Option Coded → Coded
if_some None scope = true
if_some (Some c) scope = c scope

-- whether a name is in scope, and whether names are
abbrev pub is_seen : NameId → List NameId → Bool
is_seen name scope = list_any (λ (n : NameId). n.0 == name.0) scope

abbrev pub are_seen : List NameId → List NameId → Bool
are_seen names scope = list_all (λ (n : NameId). is_seen n scope) names

-- of a pair of a hash
abbrev pub pair_coded : Coded × Coded → Coded
pair_coded pair scope = pair.0 scope && pair.1 scope

-- In a script with these texts of names and these classes, whose blocks make these names known, and whose threads capture these.
module _ (names : List (List ℕ)) (classes : List Class) (block_names : Span → List NameId) (captured_names : ℕ → List NameId) where
  abbrev pub target_step : Target-F Coded Coded Coded Coded → Coded
  target_step (node.«Target::Local» name) scope = is_seen name scope
  target_step (node.Index receiver index) scope = receiver scope && index scope
  target_step (node.Attribute receiver name) scope = begins_word (text_of names name) && receiver scope
  target_step variable scope = true

  abbrev pub piece_step : Piece-F Coded Coded Coded Coded → Coded
  piece_step (node.Text text) scope = true
  piece_step (node.Code code) scope = code scope

  -- a block's own names lie behind those round it
  abbrev pub block_step : Block-F Coded Coded Coded Coded → Coded
  block_step block scope = every block.body (scope ++ block_names block.at)

  abbrev pub node_step : Node-F Coded Coded Coded Coded → Coded
  node_step (node.Str pieces at) scope = every pieces scope
  node_step (node.Array items at) scope = every items scope
  node_step (node.Hash pairs at) scope = every (map pair_coded pairs) scope
  node_step (node.«Node::Local» name at) scope = is_seen name scope
  node_step (node.SetLocal name value at) scope = is_seen name scope && value scope
  node_step (node.SetField name value at) scope = value scope
  node_step (node.SetGlobal name value at) scope = value scope
  node_step (node.Store receiver name args at) scope = receiver scope && every args scope
  node_step (node.OpAssign target op value at) scope = target scope && value scope
  node_step (node.Call receiver name args block at) scope =
      not (is_call (is_some receiver) (is_some block)) && (if_some receiver scope && (every args scope && if_some block scope))
  node_step (node.New class args at) scope = is_built_class names classes class && every args scope
  node_step (node.ThreadNew args body at) scope = are_seen (captured_names body) scope && every args scope
  node_step (node.And first second at) scope = first scope && second scope
  node_step (node.Or first second at) scope = first scope && second scope
  node_step (node.Not value at) scope = value scope
  node_step (node.If condition first second at) scope = condition scope && (every first scope && every second scope)
  node_step (node.While condition body at) scope = condition scope && every body scope
  node_step (node.Return value at) scope = if_some value scope
  node_step leaf scope = true

  -- whether a node has code, and so a piece of a text, a target and a block
  unfoldable pub coded : Node → Coded
  coded = fold-Node Coded Coded Coded Coded node_step piece_step target_step block_step

  unfoldable pub piece_is_coded : Piece → Coded
  piece_is_coded = fold-Piece Coded Coded Coded Coded node_step piece_step target_step block_step

  unfoldable pub target_is_coded : Target → Coded
  target_is_coded = fold-Target Coded Coded Coded Coded node_step piece_step target_step block_step

  unfoldable pub block_is_coded : Block → Coded
  block_is_coded = fold-Block Coded Coded Coded Coded node_step piece_step target_step block_step

  -- whether statements have
  abbrev pub body_is_coded : List Node → Coded
  body_is_coded body = every (map coded body)

module _ (program : Program) where
  -- whether statements of the program have code where these names are in scope
  abbrev pub has_code_in : List NameId → List Node → Bool
  has_code_in scope body = body_is_coded program.names program.classes (scoped.block_names program) (captured.captured_names program) body scope

  abbrev pub method_has_code : Method → Bool
  method_has_code m = has_code_in (scoped.method_names program m) m.body

  -- the name of a method of a class is a word
  abbrev pub member_has_code : Method → Bool
  member_has_code m = begins_word (text_of program.names m.name) && method_has_code m

  abbrev pub class_has_code : Class → Bool
  class_has_code k = list_all member_has_code k.methods

  -- bodies of threads, the first of which has this number
  abbrev pub bodies_have_code : ℕ → List Block → Bool
  bodies_have_code number [] = true
  bodies_have_code number (b ∷ more) = has_code_in (captured.thread_names program number) b.body && bodies_have_code (suc number) more

  -- whether the program has code
  abbrev pub has_code : Bool
  has_code =
      list_all class_has_code program.classes && (list_all method_has_code program.functions
      && (has_code_in (scoped.main_names program) program.main && bodies_have_code 0 program.bodies))
