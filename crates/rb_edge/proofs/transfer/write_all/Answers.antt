use Rattle.std.proofs.Common.{arith, length-drop}
use Rattle.rb_edge.proofs.Turns.{Adds-more, take-drop_rest}
use Rattle.rb_edge.proofs.transfer.write_all.Goals as goal

pub turns-preserved : goal.turns-preserved
turns-preserved g c =
    let text = c.args.text.now in
    let told = g.K.Sink.told in
    let written = c.in-Took.ensures.writes in
    let in_rest = rw take-drop_rest at written.0 in
    record {
      within = omega (arith, in_rest, length-drop c.turns.taken text);
      told = Adds-more (told c.args.sink.now) (told c.turns.sink) (told c.write.new.self) text c.turns.taken c.in-Took.count c.turns.invariant.told written.2;
      rises = omega (arith, c.in-Took.ensures.rises);
    }
