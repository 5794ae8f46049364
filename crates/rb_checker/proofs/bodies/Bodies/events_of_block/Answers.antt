use Rattle.std.proofs.Common.{◌∙◌, rules}
use Rattle.rb_checker.proofs.Joining.{so_value}
use Rattle.rb_checker.proofs.Parts.{block-parts}
use Rattle.rb_checker.proofs.bodies.Bodies.events_of_block.Goals as goal

pub returns : goal.returns
returns c = so_value c.events.result c.events.ensures (λ v told b tells. told b tells ∙ search (rules, block-parts, c.as_slice.ensures, c.as_slice-2.ensures))
