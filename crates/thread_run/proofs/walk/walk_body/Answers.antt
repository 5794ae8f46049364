use Rattle.thread_run.proofs.Cutting.{cut_before}
use Rattle.thread_run.proofs.walk.walk_body.Goals as goal

pub returns-in_default-clause-goes : goal.returns-in_default-clause-goes
returns-in_default-clause-goes g c = λ S st e. cut_before S _ _ _ _ _ c.requires.begun c.requires.made
