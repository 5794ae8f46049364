-- What is shown of the history once all threads have ended.
use Rattle.std.specs.Prelude.{◌≡◌, ◌<◌, ℕ, ◌+◌, List, [], Option, Some, None}
use Rattle.atomic_table.specs.Table.{Me}
use Rattle.rb_shared.specs.History.{History}
use Rattle.rb_shared.specs.View.{known_logs}
use Rattle.shared_run.specs.Closing.{ShowsAll}
use Rattle.heap_core.specs.Handing.{Slot}
use Rattle.heap_core.specs.Passes.{holder_of}
use Rattle.heap_core.specs.View.{Holder, showing}

-- the history is shown
abbrev pub ShowsNow : Me Slot Holder → Me Slot Holder → Type 0
ShowsNow m m' = (h : History) × (m' ≡ (showing m.0 h, m.1)) × ShowsAll m.0.view.slots (known_logs m.0.view) h

-- the words in use and those that were asked for are more than there are
abbrev pub Overflows : (words used wanted : ℕ) → Type 0
Overflows words used wanted = words < used + wanted

-- what a seat shows; of one that shows none, nothing happened
abbrev pub history_or : Option History → History
history_or (Some h) = h
history_or None = record { events = []; threads = [] }

abbrev pub history_in : List Holder → History
history_in ks = history_or (holder_of ks).front
