use Rattle.std.proofs.Common.{◌≡◌, ℕ, List, ◌++◌, map, drop}
use Rattle.rb_checker.specs.declared.event.Event.{Event as Seen}
use Rattle.rb_checker.specs.Events as spec
use Rattle.rb_checker.specs.Bodies.{Tells}
use Rattle.rb_checker.proofs.gather.+gathering.Given as goal

abbrev pub invariant-add_all-nodes : goal.invariant-add_all-nodes
invariant-add_all-nodes l = (b : ℕ → List Seen) → Tells l.bodies.total (map (λ e. e.items) l.bodies.kept.items) b → l.events.items ++ spec.events_of_all b (drop l.node-index l.nodes) ≡ l.fn.events.items ++ spec.events_of_all b l.nodes

abbrev pub invariant-add_pairs-pairs : goal.invariant-add_pairs-pairs
invariant-add_pairs-pairs l = (b : ℕ → List Seen) → Tells l.bodies.total (map (λ e. e.items) l.bodies.kept.items) b → l.events.items ++ spec.pairs_of (map (spec.pair_parts b) (drop l.pair-index l.pairs)) ≡ l.fn.events.items ++ spec.pairs_of (map (spec.pair_parts b) l.pairs)

abbrev pub invariant-add_pieces-pieces : goal.invariant-add_pieces-pieces
invariant-add_pieces-pieces l = (b : ℕ → List Seen) → Tells l.bodies.total (map (λ e. e.items) l.bodies.kept.items) b → l.events.items ++ spec.pieces_of (map (spec.piece_events b) (drop l.piece-index l.pieces)) ≡ l.fn.events.items ++ spec.pieces_of (map (spec.piece_events b) l.pieces)
