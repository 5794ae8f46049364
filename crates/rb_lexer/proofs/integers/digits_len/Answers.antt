use Rattle.std.proofs.Common.{ap, sym, ◌∙◌}
use Rattle.std.proofs.lemmas.List.{take_rest}
use Rattle.rb_lexer.specs.Extent.{begins_digits}
use Rattle.rb_lexer.proofs.Digits.{run-more, run-end, digits-reach}
use Rattle.rb_lexer.proofs.integers.digits_len.Goals as goal

pub digits-preserved : goal.digits-preserved
digits-preserved c =
    let bytes = c.args.bytes.now in
    run-more bytes c.digits.len c.digits.invariant.0 c.digits.invariant.1
    (sym (ap begins_digits (take_rest bytes c.digits.len)) ∙ sym c.begins_digits.ensures ∙ c.digits-test.true)

pub returns : goal.returns
returns c =
    let bytes = c.args.bytes.now in
    digits-reach bytes c.digits.len
    (run-end bytes c.digits.len c.digits.invariant.1
    (sym (ap begins_digits (take_rest bytes c.digits.len)) ∙ sym c.begins_digits.ensures ∙ c.digits-test.false))
