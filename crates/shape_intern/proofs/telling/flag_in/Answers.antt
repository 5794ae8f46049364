use Rattle.shape_intern.proofs.Decodes.{flag_of_tag}
use Rattle.shape_intern.proofs.telling.flag_in.Goals as goal

pub returns : goal.returns
returns c = λ class shared is. flag_of_tag class c.args.tag shared is
