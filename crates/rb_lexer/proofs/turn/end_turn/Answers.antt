use Rattle.std.proofs.Common.{[], reverse, ap, refl}
use Rattle.rb_lexer.proofs.TurnSteps.{nil_from_test, some_from_test, reverse-some, turn-end, turn-open}
use Rattle.rb_lexer.proofs.turn.end_turn.Goals as goal

pub returns-then-is_empty : goal.returns-then-is_empty
returns-then-is_empty c = λ braces at spaced.
    turn-end braces at (reverse c.args.below.now) [] spaced (ap reverse (nil_from_test c.args.below.now _ c.is_empty.ensures c.if-is_empty.true)) refl

pub returns : goal.returns
returns c = λ braces at spaced.
    turn-open braces at c.open_text.result (reverse c.args.below.now) [] spaced (reverse-some c.args.below.now (some_from_test c.args.below.now _ c.is_empty.ensures c.if-is_empty.false)) refl
    c.open_text.ensures
