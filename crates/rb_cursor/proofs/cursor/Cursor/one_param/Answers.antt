use Rattle.rb_grammar.specs.Phrase as p
use Rattle.rb_grammar.specs.Grammar.{rule}
use Rattle.rb_cursor.proofs.Steps.{at_phrase, fails_at, handed_on, takes, takes_word, misses, stops}
use Rattle.rb_cursor.proofs.cursor.Cursor.one_param.Goals as goal

pub returns-in_err-word-clause-came : goal.returns-in_err-word-clause-came
unfolding rule
returns-in_err-word-clause-came c = λ levels.
    handed_on _ _ c.from_residual.result c.from_residual.ensures.1 (fails_at levels p.one_param (misses c.in_err-word.ensures.word))

pub returns-in_err-expect-clause-came : goal.returns-in_err-expect-clause-came
unfolding rule
returns-in_err-expect-clause-came c = λ levels.
    handed_on _ _ c.from_residual-in_err-expect.result c.from_residual-in_err-expect.ensures.1
    (fails_at levels p.one_param (takes_word c.in_ok-word.ensures.word (misses c.in_err-expect.ensures.took)))

pub returns-clause-came : goal.returns-clause-came
unfolding rule
returns-clause-came c = λ levels.
    at_phrase levels p.one_param (takes_word c.in_ok-word.ensures.word (takes c.in_ok-expect.ensures.took (stops c.in_ok-word.ensures.word.word)))
