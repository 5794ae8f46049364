use Rattle.std.proofs.Common.{◌≡◌, ◌++◌, List, ℕ, take, drop}
use Rattle.heap_core.specs.Passes.{holder_of}
use Rattle.shape_intern.specs.Interning.{OwnsOne, with_own}
use Rattle.shape_intern.proofs.laying.lay.Given as goal

abbrev pub invariant-words : goal.invariant-words
invariant-words g l = record {
  of : l.pass.badge.table_id ≡ l.fn.pass.badge.table_id;
  laid : (ws : List ℕ) → OwnsOne (holder_of l.fn.pass.badge.views) l.at ws → holder_of l.pass.badge.views ≡ with_own (holder_of l.fn.pass.badge.views) l.at (take l.i l.words ++ drop l.i ws);
}
