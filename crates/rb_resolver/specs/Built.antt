-- What of a script has code, with the names that its blocks make known and its threads capture.
use Rattle.std.specs.Prelude.{◌≡◌, ℕ, suc, Bool, Result, IfErr, true, ◌&&◌, List, [], ◌∷◌, map}
use Rattle.std.specs.List.{list_all}
use Rattle.rb_tree.specs.declared.node.Block.{Block}
use Rattle.rb_tree.specs.declared.node.Class.{Class}
use Rattle.rb_tree.specs.declared.node.Method.{Method}
use Rattle.rb_tree.specs.declared.node.Node.{Node}
use Rattle.rb_tree.specs.declared.node.Piece.{Piece}
use Rattle.rb_machine.specs.Scopes.{Script, Text}
use Rattle.rb_accepted.specs.Coded.{Coded, every, pair_coded, coded, piece_is_coded, block_is_coded}
use Rattle.rb_resolver.specs.declared.fault.ResolveFault.{ResolveFault}
use Rattle.rb_resolver.specs.declared.fault.ResolveFault.TheVariants.{Memory}
use Rattle.rb_resolver.specs.declared.known.Known.{Known}
use Rattle.rb_resolver.specs.Known.{IsKnown}

module _ (S : Script) where
  -- a node, a piece of a text and a block of the script
  abbrev pub node_built : Node → Coded
  node_built = coded S.program.names S.program.classes S.block_names S.captured_names

  abbrev pub piece_built : Piece → Coded
  piece_built = piece_is_coded S.program.names S.program.classes S.block_names S.captured_names

  abbrev pub block_built : Block → Coded
  block_built = block_is_coded S.program.names S.program.classes S.block_names S.captured_names

  -- statements, pairs and pieces
  abbrev pub body_built : List Node → Coded
  body_built nodes = every (map node_built nodes)

  abbrev pub pair_built : Node × Node → Coded
  pair_built pair = pair_coded (node_built pair.0, node_built pair.1)

  abbrev pub pairs_built : List (Node × Node) → Coded
  pairs_built pairs = every (map pair_built pairs)

  abbrev pub text_built : List Piece → Coded
  text_built pieces = every (map piece_built pieces)

  -- methods, each with the names of its own scope
  abbrev pub method_built : Method → Bool
  method_built m = body_built m.body (S.method_names m)

  abbrev pub methods_built : List Method → Bool
  methods_built = list_all method_built

  abbrev pub classes_built : List Class → Bool
  classes_built = list_all (λ (k : Class). methods_built k.methods)

  -- bodies of threads, the first of which has this number
  abbrev pub bodies_built : ℕ → List Block → Bool
  bodies_built number [] = true
  bodies_built number (b ∷ more) = body_built b.body (S.thread_names number) && bodies_built (suc number) more

-- Where this of the script has code, no fault comes but want of memory.
abbrev pub Builds : {X : Type 0} → Known → List Text → (Script → Bool) → Result X ResolveFault → Type 0
Builds known names has result = (S : Script) → IsKnown known names S → has S ≡ true → IfErr result (λ e. e ≡ Memory)
