use Rattle.std.proofs.Common.{◌∙◌, ap, arith, length}
use Rattle.std.proofs.lemmas.List.{length-replicate}
use Rattle.rb_model.specs.Values.{Nil, plain}
use Rattle.rb_walk.proofs.Lists.{len_map}
use Rattle.thread_run.proofs.Cutting.{cut_before}
use Rattle.thread_run.proofs.walk.walk_main.Goals as goal

pub returns-in_default-clause-goes : goal.returns-in_default-clause-goes
returns-in_default-clause-goes g c = λ S st e. cut_before S _ _ _ _ _ c.requires.begun c.requires.made

pub run_main-requires-clause-room : goal.run_main-requires-clause-room
run_main-requires-clause-room g c =
    let long = ap length c.in-Ok.ensures ∙ length-replicate _ Nil in
    omega (arith, len_map plain c.in-Ok.row.items, long, ap length c.as_mut_slice.ensures.value)

pub returns-clause-goes : goal.returns-clause-goes
returns-clause-goes g c = λ S st e. (c.run_main.ensures.goes S st e).goes
