use Rattle.std.proofs.Common.{reverse, sym, ◌∙◌}
use Rattle.rb_lexer.proofs.TurnSteps.{nil_from_test, some_from_test, turn-text_open, turn-text_end, turn-code, turn-escape_open, turn-bad_escape}
use Rattle.rb_lexer.proofs.turn.stop_turn.Goals as goal

pub returns-then-is_empty : goal.returns-then-is_empty
returns-then-is_empty c =
    turn-text_open c.args.quote c.args.opened c.args.at c.open_text.result (reverse c.args.below.now) c.args.bytes.now
    (nil_from_test c.args.bytes.now _ c.is_empty.ensures c.if-is_empty.true) c.open_text.ensures

pub returns-then-bytes-quote_mark : goal.returns-then-bytes-quote_mark
returns-then-bytes-quote_mark c =
    turn-text_end c.args.quote c.args.opened c.args.at (reverse c.args.below.now) c.args.bytes.now c.requires.stack
    (some_from_test c.args.bytes.now _ c.is_empty.ensures c.if-is_empty.false) (c.if-bytes-quote_mark.true ∙ c.quote_mark.ensures)

pub returns-then-bytes-eq35 : goal.returns-then-bytes-eq35
returns-then-bytes-eq35 c =
    turn-code c.args.quote c.args.opened c.args.at (reverse c.args.below.now) c.args.bytes.now c.requires.stack
    (some_from_test c.args.bytes.now _ c.is_empty.ensures c.if-is_empty.false) c.if-bytes-eq35.true c.requires.no_plain

pub returns-then-bytes-eq1 : goal.returns-then-bytes-eq1
returns-then-bytes-eq1 c =
    turn-escape_open c.args.quote c.args.opened c.args.at c.open_text-then-bytes-eq1.result (reverse c.args.below.now) c.args.bytes.now c.if-bytes-eq1.true c.requires.no_plain
    (λ e. c.if-bytes-quote_mark.false (e ∙ sym c.quote_mark.ensures)) c.if-bytes-eq35.false c.open_text-then-bytes-eq1.ensures

pub returns : goal.returns
returns c =
    turn-bad_escape c.args.quote c.args.opened c.args.at (reverse c.args.below.now) c.args.bytes.now (some_from_test c.args.bytes.now _ c.is_empty.ensures c.if-is_empty.false)
    c.if-bytes-eq1.false c.requires.no_plain c.requires.no_escape (λ e. c.if-bytes-quote_mark.false (e ∙ sym c.quote_mark.ensures)) c.if-bytes-eq35.false
