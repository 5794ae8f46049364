use Rattle.std.proofs.Common.{◌≡◌, ◌++◌, ℕ, drop, length}
use Rattle.rb_resolver.specs.Rows.{row_at, found_in_all, all_plain}
use Rattle.rb_resolver.proofs.dispatch.dispatch_of.Given as goal

abbrev pub invariant-classes : goal.invariant-classes
invariant-classes l = record {
  rows : (n : ℕ) → row_at l.rows.items n ++ found_in_all n l.i (drop l.i l.classes) ≡ found_in_all n 0 l.classes;
  size : length l.rows.items ≡ l.count;
  plain : all_plain l.names (drop l.i l.classes) ≡ all_plain l.names l.classes;
}
