use Rattle.turn_store.proofs.store.TurnStore.finish.Given as goal

abbrev pub ghosts-show : goal.ghosts-show
ghosts-show g a = record { slots = a.self.now.table.shared.key.slots }
