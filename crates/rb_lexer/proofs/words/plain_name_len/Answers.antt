use Rattle.std.proofs.Common.{sym, ◌∙◌}
use Rattle.rb_lexer.proofs.Runs.{plain-reach}
use Rattle.rb_lexer.proofs.words.plain_name_len.Goals as goal

pub returns : goal.returns
returns c = plain-reach c.args.bytes.now c.run_len.result (sym c.is_name_start.ensures ∙ c.if-not-is_name_start.false) c.run_len.ensures
