use Rattle.std.proofs.Common.{sym, ◌∙◌}
use Rattle.rb_lexer.proofs.Runs.{constant-reach}
use Rattle.rb_lexer.proofs.words.constant_len.Goals as goal

pub returns : goal.returns
returns c = constant-reach c.args.bytes.now c.run_len.result (sym c.is_upper.ensures ∙ c.if-not-is_upper.false) c.run_len.ensures
