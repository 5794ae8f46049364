-- The history of one order of all entries: where each read is given its point.
use Rattle.std.specs.Prelude.{ℕ, suc, ◌==◌, if◌then◌else◌, List, [], ◌∷◌, filter, Option, Some, None}
use Rattle.rb_model.specs.Log.{Refusal}
use Rattle.rb_shared.specs.History.{Event, Placed, History, is_event, by}

-- the events among all entries, in their order
abbrev pub events_in : List Event → List Event
events_in es = filter (λ (e : Event). is_event e.entry) es

-- the points of the entries of thread t, where k events came before
abbrev pub points_from : ℕ → ℕ → List Event → List (Option ℕ)
points_from t k [] = []
points_from t k (e ∷ es) =
    if e.thread == t
    then (if is_event e.entry then None ∷ points_from t (suc k) es else Some k ∷ points_from t k es)
    else points_from t (if is_event e.entry then suc k else k) es

-- what thread t did, and was refused
abbrev pub placed_log : List Event → ℕ → List Refusal → Placed
placed_log es t refusals = record { log = record { entries = by t es; refusals = refusals }; points = points_from t 0 es }

-- the logs of the threads from number t on, with what each was refused
abbrev pub placed_logs : List Event → ℕ → List (List Refusal) → List Placed
placed_logs es t [] = []
placed_logs es t (rs ∷ more) = placed_log es t rs ∷ placed_logs es (suc t) more

-- the history of this order, with what each thread was refused
abbrev pub history_of : List Event → List (List Refusal) → History
history_of es refusals = record { events = events_in es; threads = placed_logs es 0 refusals }
