use Rattle.std.proofs.Common.{arith, map, ap, ◌∙◌}
use Rattle.rb_tree.specs.Height.{height, highest}
use Rattle.rb_tree.proofs.Heights.{height-call}
use Rattle.rb_tree.proofs.measure.+measuring.Goals as goal

pub height-returns-in-Call : goal.height-returns-in-Call
height-returns-in-Call t c =
    let call = c.in-Call in
    let of_call = ap height call.is ∙ height-call call.receiver call.name call.args call.block call.at in
    let of_args = ap (λ nodes. highest (map height nodes)) c.as_slice-in-Call.ensures in
    omega (arith, of_call, of_args, c.height_if_some.ensures, c.highest-in-Call.ensures, c.height_of_block.ensures)
