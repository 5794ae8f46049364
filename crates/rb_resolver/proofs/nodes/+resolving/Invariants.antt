use Rattle.std.proofs.Common.{◌≡◌, ◌≤◌, ℕ, map, take, true}
use Rattle.rb_machine.specs.Scopes.{Script}
use Rattle.rb_code.specs.Erase.{erase, erase_piece, paired}
use Rattle.rb_code.specs.Resolved.{every, body_fits, piece_fits, is_even}
use Rattle.rb_resolver.specs.Known.{IsKnown}
use Rattle.rb_resolver.proofs.nodes.+resolving.Given as goal

abbrev pub invariant-body-nodes : goal.invariant-body-nodes
invariant-body-nodes l = record {
  erases : map erase l.codes ≡ take l.source-index l.nodes;
  fits : (S : Script) → IsKnown l.known l.names S → (size : ℕ) → l.frame.size ≤ size → body_fits S l.codes l.fn.frame.names.items size ≡ true;
  names : l.frame.names.items ≡ l.fn.frame.names.items;
  rises : l.fn.frame.size ≤ l.frame.size;
}

abbrev pub invariant-pairs-pairs : goal.invariant-pairs-pairs
invariant-pairs-pairs l = record {
  erases : paired (map erase l.codes) ≡ take l.pair-index l.sources;
  even : is_even l.codes ≡ true;
  fits : (S : Script) → IsKnown l.known l.names S → (size : ℕ) → l.frame.size ≤ size → body_fits S l.codes l.fn.frame.names.items size ≡ true;
  names : l.frame.names.items ≡ l.fn.frame.names.items;
  rises : l.fn.frame.size ≤ l.frame.size;
}

abbrev pub invariant-text-pieces : goal.invariant-text-pieces
invariant-text-pieces l = record {
  erases : map erase_piece l.parts ≡ take l.source-index l.pieces;
  fits : (S : Script) → IsKnown l.known l.names S → (size : ℕ) → l.frame.size ≤ size → every (map (piece_fits S) l.parts) l.fn.frame.names.items size ≡ true;
  names : l.frame.names.items ≡ l.fn.frame.names.items;
  rises : l.fn.frame.size ≤ l.frame.size;
}
