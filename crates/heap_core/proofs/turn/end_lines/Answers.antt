use Rattle.std.proofs.Common.{◌∙◌}
use Rattle.heap_core.proofs.Ending.{front_all, lines_more}
use Rattle.heap_core.proofs.turn.end_lines.Goals as goal

pub lines-preserved : goal.lines-preserved
lines-preserved c = lines_more c.args.thread c.lines.i c.lines.lines c.args.lines.now _ c.end_line.result c.lines.invariant c.end_line.ensures c.lines-test.true

pub returns : goal.returns
returns c = c.lines.invariant ∙ front_all c.args.thread c.lines.i c.args.lines.now c.lines-test.false
