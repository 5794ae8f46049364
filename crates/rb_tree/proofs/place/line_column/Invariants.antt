use Rattle.std.proofs.Common.{◌≡◌, ◌≤◌, ◌+◌}
use Rattle.rb_tree.specs.Place.{line_of, column_of}
use Rattle.rb_tree.proofs.place.line_column.Given as goal

abbrev pub invariant-bytes : goal.invariant-bytes
invariant-bytes l = record {
  line : l.line ≡ line_of l.source l.i;
  column : l.column ≡ column_of l.source l.i;
  low : l.line ≤ l.i + 1;
  near : l.column ≤ l.i + 1;
}
