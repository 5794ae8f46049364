use Rattle.std.proofs.Common.{◌≡◌, ◌+◌, map, drop, length}
use Rattle.rb_checker.specs.Bodies.{Tells}
use Rattle.rb_checker.specs.Events.{bodies_from}
use Rattle.rb_checker.proofs.bodies.Bodies.new.Given as goal

abbrev pub invariant-backwards : goal.invariant-backwards
invariant-backwards l = record {
  counted : l.left + length l.bodies.kept.items ≡ l.bodies.total;
  all : l.bodies.total ≡ length l.blocks;
  told : Tells l.bodies.total (map (λ e. e.items) l.bodies.kept.items) (bodies_from l.left (drop l.left l.blocks));
}

abbrev pub decreases-backwards : goal.decreases-backwards
decreases-backwards l = l.left
