-- What a seat knows.
use Rattle.std.specs.Prelude.{ℕ, Bool, true, false, Option, Some, None}
use Rattle.rb_shared.specs.History.{History}
use Rattle.rb_shared.specs.Store.{Store}
use Rattle.rb_shared.specs.View.{View, first_view, split_view, newborn, joined_view}
use Rattle.shared_run.specs.Run.{Sunk}

-- what was found where the turn was taken
pub record Found : Type 0 where
  pub store : Store
  pub sink : Sunk

-- What the seat of a pass knows: the view of the pass, whether the pass still is one, what it found where it has the turn, and the history that
-- it shows, once the store is about to be closed.
pub record Holder : Type 0 where
  pub view : View
  pub live : Bool
  pub holding : Option Found
  pub front : Option History

abbrev pub at_rest : View → Holder
at_rest v = record { view = v; live = true; holding = None; front = None }

-- the seat of the main thread
abbrev pub main_holder : ℕ → Holder
main_holder slots = at_rest (first_view slots)

-- a seat that is no pass any more
abbrev pub spent_holder : Holder
spent_holder = record { view = first_view 0; live = false; holding = None; front = None }

abbrev pub with_found : Holder → Option Found → Holder
with_found k found = record k { holding = found }

abbrev pub with_view : Holder → View → Holder
with_view k v = record k { view = v }

-- the turn is given back, and the view has changed
abbrev pub released : Holder → View → Holder
released k v = record k { view = v; holding = None }

-- ---- split and join

abbrev pub maker : Holder → Holder
maker k = with_view k (split_view k.view)

abbrev pub child_of : Option ℕ → View → Holder
child_of None v = spent_holder
child_of (Some n) v = at_rest (newborn v n)

abbrev pub child : Holder → Holder
child k = child_of k.view.unsplit k.view

abbrev pub joined : Holder → Holder → Holder
joined k other = with_view k (joined_view k.view other.view)

-- ---- the front

abbrev pub with_front : Holder → History → Holder
with_front k h = record k { front = Some h }

-- what is kept of a closed store
abbrev pub front_holder : Holder → Holder
front_holder k = record spent_holder { front = k.front }
