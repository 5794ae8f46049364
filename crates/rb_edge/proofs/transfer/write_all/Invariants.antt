use Rattle.std.proofs.Common.{◌≤◌, ◌-◌, length, take}
use Rattle.rb_edge.specs.Edge.{Adds}
use Rattle.rb_edge.proofs.transfer.write_all.Given as goal

abbrev pub invariant-turns : goal.invariant-turns
invariant-turns g l =
    let told = g.K.Sink.told in
    let faults = g.K.Sink.faults in
    record {
      within : l.taken ≤ length l.text;
      told : Adds (told l.fn.sink) (told l.sink) (take l.taken l.text);
      rises : faults l.fn.sink ≤ faults l.sink;
    }

abbrev pub decreases-turns : goal.decreases-turns
decreases-turns g l = length l.text - l.taken
