use Rattle.std.proofs.Common.{reverse}
use Rattle.rb_lexer.proofs.TurnSteps.{turn-part}
use Rattle.rb_lexer.proofs.turn.text_turn.Goals as goal

pub returns-then-found-gt0 : goal.returns-then-found-gt0
returns-then-found-gt0 c =
    let found = c.in_ok-found.ensures in
    turn-part c.args.quote c.args.opened c.args.at c.in_ok-found.found.len (reverse c.args.below.now) c.args.bytes.now c.in_ok-found.found.text c.requires.stack c.if-found-gt0.true found.0 found.1
