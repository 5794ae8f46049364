use Rattle.std.proofs.Common.{true, false, sym, ◌∙◌}
use Rattle.heap_core.proofs.Owning.{told_at}
use Rattle.heap_core.proofs.turn.Turn.owner.Goals as goal

pub returns-then-goes-clause-told : goal.returns-then-goes-clause-told
returns-then-goes-clause-told g c = sym (told_at c.args.self.now.lines c.args.word c.if-word-eq0.false true (sym c.goes.ensures ∙ c.if-goes.true))

pub returns-else-goes-clause-told : goal.returns-else-goes-clause-told
returns-else-goes-clause-told g c = sym (told_at c.args.self.now.lines c.args.word c.if-word-eq0.false false (sym c.goes.ensures ∙ c.if-goes.false))
