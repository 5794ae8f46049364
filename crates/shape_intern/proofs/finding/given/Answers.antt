use Rattle.std.proofs.Common.{◌∙◌, ◌*◌, ◌+◌, sym, ap}
use Rattle.shape_intern.proofs.Finds.{given_any, given_int, given_none, given_wide}
use Rattle.shape_intern.proofs.finding.given.Goals as goal

pub returns-then-word-number : goal.returns-then-word-number
returns-then-word-number c = λ edge e. given_int c.args.word c.args.name edge (c.if-word-number.true ∙ ap (λ n. n * 8 + 1) c.from-number.ensures) e

pub returns-then-word-number-2 : goal.returns-then-word-number-2
returns-then-word-number-2 c = λ edge e. given_any c.args.word c.args.name edge (c.if-word-number-2.true ∙ ap (λ n. n * 8 + 2) c.from-number.ensures) e

pub returns-then-word-number-3 : goal.returns-then-word-number-3
returns-then-word-number-3 c = λ edge e. given_wide c.args.word c.args.name edge (c.if-word-number-3.true ∙ ap (λ n. n * 8 + 3) c.from-number.ensures) e

pub returns : goal.returns
returns c = λ edge e. given_none c.args.word c.args.name edge
    (λ a. c.if-word-number.false (a ∙ ap (λ n. n * 8 + 1) (sym c.from-number.ensures)))
    (λ a. c.if-word-number-2.false (a ∙ ap (λ n. n * 8 + 2) (sym c.from-number.ensures)))
    (λ a. c.if-word-number-3.false (a ∙ ap (λ n. n * 8 + 3) (sym c.from-number.ensures)))
    e
