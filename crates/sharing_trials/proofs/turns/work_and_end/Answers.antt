use Rattle.std.proofs.Common.{refl}
use Rattle.rb_model.specs.declared.call.Call.TheVariants.{End}
use Rattle.rb_model.specs.declared.call.End.TheVariants.{Steps}
use Rattle.sharing_trials.proofs.Asking.{end_may, sure_ends, starts_none, end_starts, as_on}
use Rattle.sharing_trials.proofs.turns.work_and_end.Goals as goal

pub ask-requires-clause-may : goal.ask-requires-clause-may
ask-requires-clause-may g c κs within = end_may (g.S.SharedStore.view c.work-pass.result)

pub returns-clause-ended : goal.returns-clause-ended
returns-clause-ended g c =
    let see = g.S.SharedStore.view in sure_ends (see c.work-pass.result) (End Steps) c.ask.result (see c.ask.new.pass) refl refl c.ask.ensures.leaves

pub returns-clause-same : goal.returns-clause-same
returns-clause-same g c =
    let see = g.S.SharedStore.view in
    as_on (see c.args.pass) (see c.work-pass.result) (see c.ask.new.pass) c.work-pass.ensures.same (starts_none (see c.work-pass.result) (End Steps) c.ask.result (see c.ask.new.pass) (end_starts Steps) c.ask.ensures.leaves)
