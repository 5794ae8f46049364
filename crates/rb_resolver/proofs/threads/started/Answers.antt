use Rattle.std.proofs.Common.{◌∙◌}
use Rattle.rb_code.proofs.Erasing.{erase-start}
use Rattle.rb_resolver.proofs.Started.{start_fits}
use Rattle.rb_resolver.proofs.threads.started.Goals as goal

pub returns-clause-erases : goal.returns-clause-erases
returns-clause-erases c = erase-start c.args.args c.args.body c.in_ok-slots.slots c.args.at

pub returns-clause-fits : goal.returns-clause-fits
returns-clause-fits c = λ S names size k a.
    start_fits S c.args.frame.now.names.items c.captured_of.result.now size c.args.args c.args.body c.in_ok-slots.slots c.args.at (c.captured_of.ensures ∙ k.captured c.args.body) c.in_ok-slots.ensures.has a
