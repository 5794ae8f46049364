use Rattle.std.proofs.Common.{rules, subst}
use Rattle.turn_store.specs.Fronts.{ShowsNow}
use Rattle.turn_store.proofs.Closes.{shows_as}
use Rattle.turn_store.proofs.store.TurnStore.show.Goals as goal

pub load-requires : goal.load-requires
load-requires g c = (search rules, search rules, shows_as _ _ _ _ _ c.requires.counts _ _ _ c.requires.live c.requires.main c.requires.ended c.requires.gathered)

pub returns-clause-shows : goal.returns-clause-shows
returns-clause-shows g c = subst (λ n. ShowsNow n c.args.seat.now.me c.load.new.seat.me) c.requires.counts c.load.ensures.2
