use Rattle.std.proofs.Common.{sym, ◌∙◌, subst, ℕ, List}
use Rattle.std.proofs.lemmas.List.{take_rest}
use Rattle.rb_lexer.specs.Integer.{IsDigits}
use Rattle.rb_lexer.specs.Extent.{LongestFront}
use Rattle.rb_lexer.proofs.Digits.{integer-none, integer-reach}
use Rattle.rb_lexer.proofs.integers.integer_len.Goals as goal

pub returns-then-not-begins_with_digit : goal.returns-then-not-begins_with_digit
returns-then-not-begins_with_digit c = integer-none c.args.bytes.now (sym c.begins_with_digit.ensures ∙ c.if-not-begins_with_digit.true)

pub returns : goal.returns
returns c =
    integer-reach c.args.bytes.now c.digits_len.result (sym c.begins_with_digit.ensures ∙ c.if-not-begins_with_digit.false) c.if-bytes-eq48.false
    (subst (λ (xs : List ℕ). LongestFront (λ rest. IsDigits) xs c.digits_len.result) (take_rest c.args.bytes.now 1) c.digits_len.ensures)
