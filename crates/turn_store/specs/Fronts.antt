-- What is known of the history once all threads have ended.
use Rattle.std.specs.Prelude.{◌≡◌, ℕ}
use Rattle.atomic_table.specs.Table.{Me}
use Rattle.rb_shared.specs.History.{History}
use Rattle.rb_shared.specs.View.{known_logs}
use Rattle.shared_run.specs.Closing.{ShowsAll}
use Rattle.turn_store.specs.Holding.{Holder, with_front}

-- the history is shown
abbrev pub ShowsNow : {S : Type 0} → ℕ → Me S Holder → Me S Holder → Type 0
ShowsNow slots m m' = (h : History) × (m' ≡ (with_front m.0 h, m.1)) × ShowsAll slots (known_logs m.0.view) h
