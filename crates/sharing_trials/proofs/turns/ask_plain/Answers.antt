use Rattle.sharing_trials.proofs.Asking.{plain_may, plain_goes, still_ready, starts_none, plain_starts}
use Rattle.sharing_trials.proofs.turns.ask_plain.Goals as goal

pub ask-requires-clause-may : goal.ask-requires-clause-may
ask-requires-clause-may g c κs within = plain_may (g.S.SharedStore.view c.args.pass.now) c.args.call.now c.requires.ready c.requires.plain

pub returns-clause-ready : goal.returns-clause-ready
returns-clause-ready g c =
    let see = g.S.SharedStore.view in
    still_ready (see c.args.pass.now) c.args.call.now c.ask.result (see c.ask.new.pass) (plain_goes c.args.call.now c.requires.plain) c.requires.ready c.ask.ensures.leaves

pub returns-clause-same : goal.returns-clause-same
returns-clause-same g c =
    let see = g.S.SharedStore.view in starts_none (see c.args.pass.now) c.args.call.now c.ask.result (see c.ask.new.pass) (plain_starts c.args.call.now c.requires.plain) c.ask.ensures.leaves
