use Rattle.std.proofs.Common.{◌≡◌}
use Rattle.sharing_trials.specs.Turns.{IsAsBefore, IsReady}
use Rattle.sharing_trials.proofs.turns.work.Given as goal

abbrev pub invariant-turns : goal.invariant-turns
invariant-turns g l =
    (g.S.SharedStore.of l.pass ≡ g.S.SharedStore.id l.initial.store) × IsReady (g.S.SharedStore.view l.pass)
    × IsAsBefore (g.S.SharedStore.view l.initial.pass) (g.S.SharedStore.view l.pass)
