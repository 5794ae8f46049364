use Rattle.std.proofs.Common.{[]}
use Rattle.rb_builder.proofs.builder.Builder.only.Goals as goal

pub returns-clause-ok : goal.returns-clause-ok
returns-clause-ok c = λ a t. c.in_ok-push.ensures.ok [] a c.row-row.ensures t
