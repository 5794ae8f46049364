-- The parts of texts and hashes as the parser makes them, and those of the grammar that they are.
use Rattle.std.specs.Prelude.{◌≡◌, List, map}
use Rattle.rb_tree.specs.Height.{highest}
use Rattle.rb_grammar.specs.Tree.{Tree, PieceTree, heights, names_of, threads_of, piece_by, code_of, flat}
use Rattle.rb_builder.specs.Walk.{Walk}
use Rattle.rb_builder.specs.Said.{IsSaid}
use Rattle.rb_builder.specs.Grown.{Made}
use Rattle.rb_builder.specs.declared.literal.PieceRow as pieces
use Rattle.rb_builder.specs.declared.literal.PairRow as pairs

-- the pieces of a text
pub record ArePieces (w : Walk) (r : pieces.PieceRow) (trees : List PieceTree) : Type 0 where
  pub height : r.height ≡ highest (heights (code_of trees))
  pub pieces : Made w r.pieces (λ n. map (piece_by n) trees)
  pub said : IsSaid w r.said (names_of (code_of trees)) (threads_of (code_of trees))

-- the pairs of a hash
pub record ArePairs (w : Walk) (r : pairs.PairRow) (trees : List (Tree × Tree)) : Type 0 where
  pub height : r.height ≡ highest (heights (flat trees))
  pub pairs : Made w r.pairs (λ n. map (λ p. (p.0.node n, p.1.node n)) trees)
  pub said : IsSaid w r.said (names_of (flat trees)) (threads_of (flat trees))
