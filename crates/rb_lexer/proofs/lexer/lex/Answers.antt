use Rattle.std.proofs.Common.{ℕ, ◌≡◌, sym, subst}
use Rattle.std.specs.Str.{IsValidUpTo}
use Rattle.rb_lexer.specs.Tokens.{Lexes, Outcome, too_large, not_utf8, read}
use Rattle.rb_lexer.specs.Turns.{ReadsFromStart}
use Rattle.rb_lexer.proofs.Reading.{answers-weaker}
use Rattle.rb_lexer.proofs.SpanOrder.{answers-order}
use Rattle.rb_lexer.proofs.Between.{answers-between}
use Rattle.rb_lexer.proofs.Unique.{lexes-unique}
use Rattle.rb_lexer.proofs.Whole.{answers-ends, answers-natural, answers-not_empty}
use Rattle.rb_lexer.proofs.lexer.lex.Goals as goal

pub returns-then-source-gt-MAX_SOURCE-clause-sound : goal.returns-then-source-gt-MAX_SOURCE-clause-sound
returns-then-source-gt-MAX_SOURCE-clause-sound c = too_large c.if-source-gt-MAX_SOURCE.true

pub returns-in-Err-clause-sound : goal.returns-in-Err-clause-sound
returns-in-Err-clause-sound c =
    let valid = subst (λ (n : ℕ). IsValidUpTo c.args.source.now n) (sym c.valid_up_to.ensures) c.in-Err.ensures.cases.1 in
    not_utf8 c.if-source-gt-MAX_SOURCE.false valid valid.short

pub returns-in-Err-clause-complete : goal.returns-in-Err-clause-complete
returns-in-Err-clause-complete c = λ outcome h. lexes-unique (returns-in-Err-clause-sound c) h

pub returns-clause-sound : goal.returns-clause-sound
returns-clause-sound c =
    answers-weaker (ReadsFromStart c.args.source.now) (Lexes c.args.source.now) c.read.result
    (λ o h. subst (λ (p : Outcome). Lexes c.args.source.now p) (sym h.2) (read c.if-source-gt-MAX_SOURCE.false c.in_default.ensures.cases.1 h.1)) c.read.ensures.sound

pub returns-clause-complete : goal.returns-clause-complete
returns-clause-complete c = λ outcome h. answers-weaker (Lexes c.args.source.now) (λ o. o ≡ outcome) c.read.result (λ o l. lexes-unique l h) (returns-clause-sound c)

pub returns-clause-ordered : goal.returns-clause-ordered
returns-clause-ordered c = answers-order c.args.source.now c.read.result (returns-clause-sound c)

pub returns-clause-between : goal.returns-clause-between
returns-clause-between c = answers-between c.args.source.now c.read.result (returns-clause-sound c)

pub returns-clause-ends : goal.returns-clause-ends
returns-clause-ends c = answers-ends c.args.source.now c.read.result (returns-clause-sound c)

pub returns-clause-natural : goal.returns-clause-natural
returns-clause-natural c = answers-natural c.args.source.now c.read.result (returns-clause-sound c)

pub returns-clause-not_empty : goal.returns-clause-not_empty
returns-clause-not_empty c = answers-not_empty c.args.source.now c.read.result (returns-clause-sound c)
