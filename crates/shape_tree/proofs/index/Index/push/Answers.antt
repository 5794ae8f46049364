use Rattle.std.proofs.Common.{◌∙◌}
use Rattle.shape_tree.proofs.Indexed.{IsIndexed-push}
use Rattle.shape_tree.proofs.index.Index.push.Goals as goal

pub returns-clause-gains : goal.returns-clause-gains
returns-clause-gains c = λ slots is.
    IsIndexed-push slots c.args.slot _ _ c.args.self.now.earlier.items c.reserve.new.self.items c.push.new.self.items c.in_ok-before.before c.len.result is
    c.in_ok-reserve.ensures.items c.in_ok-before.ensures.old c.in_ok-push.ensures.items (c.len.ensures ∙ c.reserve.new.self.ok.0) c.in_ok-before.ensures.updates.0
