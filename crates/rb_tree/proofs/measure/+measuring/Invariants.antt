use Rattle.std.proofs.Common.{◌≡◌, map, max, min, drop}
use Rattle.rb_tree.specs.Height.{height, highest, piece_height, highest_pair, pair_heights}
use Rattle.rb_tree.proofs.measure.+measuring.Given as goal

abbrev pub invariant-highest-nodes : goal.invariant-highest-nodes
invariant-highest-nodes l = max l.most (min (highest (map height (drop l.node-index l.nodes))) 18446744073709551615) ≡ min (highest (map height l.nodes)) 18446744073709551615

abbrev pub invariant-highest_piece-pieces : goal.invariant-highest_piece-pieces
invariant-highest_piece-pieces l = max l.most (min (highest (map piece_height (drop l.piece-index l.pieces))) 18446744073709551615) ≡ min (highest (map piece_height l.pieces)) 18446744073709551615

abbrev pub invariant-highest_pair-pairs : goal.invariant-highest_pair-pairs
invariant-highest_pair-pairs l = max l.most (min (highest_pair (map pair_heights (drop l.pair-index l.pairs))) 18446744073709551615) ≡ min (highest_pair (map pair_heights l.pairs)) 18446744073709551615
