use Rattle.rb_lexer.proofs.Fronts.{constant-token}
use Rattle.rb_lexer.proofs.front.constant.Goals as goal

pub returns : goal.returns
returns c = constant-token c.args.bytes.now c.in_ok-name.name c.constant_len-len.result c.requires c.constant_len-len.ensures c.in_ok-name.ensures
