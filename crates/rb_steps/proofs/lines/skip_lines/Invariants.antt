use Rattle.std.proofs.Common.{◌≡◌, ◌≤◌, ◌<◌, true, length}
use Rattle.rb_steps.proofs.Skipping.{Skipping}
use Rattle.rb_steps.proofs.lines.skip_lines.Given as goal

abbrev pub invariant-lines : goal.invariant-lines
invariant-lines l = record {
  skipping : Skipping l.any l.fn.cursor l.cursor;
  shorter : length l.cursor.rest ≤ length l.fn.cursor.rest;
  less : l.any ≡ true → length l.cursor.rest < length l.fn.cursor.rest;
}

abbrev pub decreases-lines : goal.decreases-lines
decreases-lines l = length l.cursor.rest
