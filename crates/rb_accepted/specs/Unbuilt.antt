-- What no accepted program has: an object of a class that is not there, and a call with a block and no receiver; and what of that stands first in a text.
use Rattle.std.specs.Prelude.{ℕ, Bool, true, false, not, ◌&&◌, ◌||◌, ◌==◌, nat_lt, is_some, List, [], ◌∷◌, map, Option, Some, None, if◌then◌else◌, slice_get, unwrap_or, codes}
use Rattle.std.specs.List.{list_any}
use Rattle.std.specs.Str.{bytes_eq}
use Rattle.rb_tree.specs.declared.span.NameId.{NameId}
use Rattle.rb_tree.specs.declared.span.Span.{Span}
use Rattle.rb_tree.specs.declared.node.Node.{Node, fold-Node}
use Rattle.rb_tree.specs.declared.node.Piece.{Piece, fold-Piece}
use Rattle.rb_tree.specs.declared.node.Target.{Target, fold-Target}
use Rattle.rb_tree.specs.declared.node.Block.{Block, fold-Block}
use Rattle.rb_tree.specs.declared.node.Node.TheOpen.{Node-F, Piece-F, Target-F, Block-F}
use Rattle.rb_tree.specs.declared.node.Node.TheOpen as node
use Rattle.rb_tree.specs.declared.node.Program.{Program}
use Rattle.rb_tree.specs.declared.node.Class.{Class}
use Rattle.rb_tree.specs.declared.node.Method.{Method}

-- a place, where there is something that is looked for
abbrev pub Found : Type 0
Found = Option Span

-- of two places the one that stands first
abbrev pub earlier : Found → Found → Found
earlier None other = other
earlier (Some one) None = Some one
earlier (Some one) (Some other) = if nat_lt other.from one.from then Some other else Some one

-- of several
abbrev pub first_of : List Found → Found
first_of [] = None
first_of (f ∷ fs) = earlier f (first_of fs)

-- in what may be there
abbrev pub in_any : Option Found → Found
in_any None = None
in_any (Some f) = f

-- this place, where something holds
abbrev pub here : Bool → Span → Found
here true at = Some at
here false at = None

-- the text of a name, empty where there is no such name
abbrev pub text_of : List (List ℕ) → NameId → List ℕ
text_of names name = unwrap_or (slice_get names name.0) []

-- whether a class of this name is built in and has `new`
abbrev pub is_builtin : List ℕ → Bool
is_builtin text = bytes_eq text (codes "Array") || bytes_eq text (codes "Hash") || bytes_eq text (codes "Mutex")

-- whether one of the classes has this name
abbrev pub has_class : List Class → NameId → Bool
has_class classes name = list_any (λ (k : Class). k.name.0 == name.0) classes

-- what is found in the parts of a target, a piece of a text and a block
abbrev pub target_step : Target-F Found Found Found Found → Found
target_step (node.Index receiver index) = earlier receiver index
target_step (node.Attribute receiver name) = receiver
target_step target = None

abbrev pub piece_step : Piece-F Found Found Found Found → Found
piece_step (node.Text text) = None
piece_step (node.Code code) = code

abbrev pub block_step : Block-F Found Found Found Found → Found
block_step block = first_of block.body

-- a call that no text spells: one with a block and no receiver
abbrev pub is_call : (receiver block : Bool) → Bool
is_call receiver block = not receiver && block

-- of a pair of a hash
abbrev pub in_pair : Found × Found → Found
in_pair pair = earlier pair.0 pair.1

-- In a script with these texts of names and these classes.
module _ (names : List (List ℕ)) (classes : List Class) where
  -- a class that the script has, or one that is built in
  abbrev pub is_built_class : NameId → Bool
  is_built_class name = has_class classes name || is_builtin (text_of names name)

  -- one layer of a node, with what is found in its parts
  abbrev pub node_step : Node-F Found Found Found Found → Found
  node_step (node.Str pieces at) = first_of pieces
  node_step (node.Array items at) = first_of items
  node_step (node.Hash pairs at) = first_of (map in_pair pairs)
  node_step (node.SetLocal name value at) = value
  node_step (node.SetField name value at) = value
  node_step (node.SetGlobal name value at) = value
  node_step (node.Store receiver name args at) = earlier receiver (first_of args)
  node_step (node.OpAssign target op value at) = earlier target value
  node_step (node.Call receiver name args block at) =
      earlier (here (is_call (is_some receiver) (is_some block)) at)
      (earlier (in_any receiver) (earlier (first_of args) (in_any block)))
  node_step (node.New class args at) = earlier (here (not (is_built_class class)) at) (first_of args)
  node_step (node.ThreadNew args body at) = first_of args
  node_step (node.And first second at) = earlier first second
  node_step (node.Or first second at) = earlier first second
  node_step (node.Not value at) = value
  node_step (node.If condition first second at) = earlier condition (earlier (first_of first) (first_of second))
  node_step (node.While condition body at) = earlier condition (first_of body)
  node_step (node.Return value at) = in_any value
  node_step leaf = None

  -- what of a node is found and stands first
  unfoldable pub found_in : Node → Found
  found_in = fold-Node Found Found Found Found node_step piece_step target_step block_step

  -- what of a piece of a text, of a target, and of a block
  unfoldable pub found_in_piece : Piece → Found
  found_in_piece = fold-Piece Found Found Found Found node_step piece_step target_step block_step

  unfoldable pub found_in_target : Target → Found
  found_in_target = fold-Target Found Found Found Found node_step piece_step target_step block_step

  unfoldable pub found_in_block : Block → Found
  found_in_block = fold-Block Found Found Found Found node_step piece_step target_step block_step

  -- what of a pair of a hash, of statements, of methods, and of the bodies of threads
  abbrev pub found_in_pair : Node × Node → Found
  found_in_pair pair = earlier (found_in pair.0) (found_in pair.1)

  abbrev pub found_in_all : List Node → Found
  found_in_all nodes = first_of (map found_in nodes)

  abbrev pub found_in_methods : List Method → Found
  found_in_methods methods = first_of (map (λ (m : Method). found_in_all m.body) methods)

  abbrev pub found_in_bodies : List Block → Found
  found_in_bodies bodies = first_of (map found_in_block bodies)

  -- what of the methods of classes
  abbrev pub found_in_classes : List Class → Found
  found_in_classes all = first_of (map (λ (k : Class). found_in_methods k.methods) all)

-- what is not run, and stands first of a program: in its classes, in the methods of its top level, in the top level itself, or in the bodies of its
-- threads
abbrev pub first_unbuilt : Program → Found
first_unbuilt program =
    earlier (found_in_classes program.names program.classes program.classes)
    (earlier (found_in_methods program.names program.classes program.functions)
    (earlier (found_in_all program.names program.classes program.main) (found_in_bodies program.names program.classes program.bodies)))
