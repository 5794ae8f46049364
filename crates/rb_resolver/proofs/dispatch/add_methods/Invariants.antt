use Rattle.std.proofs.Common.{◌≡◌, ◌++◌, ℕ, drop, length}
use Rattle.rb_resolver.specs.Rows.{row_at, found_in, are_plain}
use Rattle.rb_resolver.proofs.dispatch.add_methods.Given as goal

abbrev pub invariant-methods : goal.invariant-methods
invariant-methods l = record {
  rows : (n : ℕ) → row_at l.rows.items n ++ found_in l.class n l.i (drop l.i l.methods) ≡ row_at l.fn.rows.items n ++ found_in l.class n 0 l.methods;
  size : length l.rows.items ≡ length l.fn.rows.items;
  plain : are_plain l.names (drop l.i l.methods) ≡ are_plain l.names l.methods;
}
