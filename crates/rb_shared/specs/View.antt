-- What a thread knows of a store that it shares with others: the view of its pass.
use Rattle.std.specs.Prelude.{ℕ, ◌+◌, ◌-◌, Bool, true, false, not, List, [], ◌∷◌, ◌++◌, Option, Some, None}
use Rattle.rb_model.specs.declared.value.Ref.{Ref}
use Rattle.rb_model.specs.declared.value.Sort.TheVariants as sort
use Rattle.rb_model.specs.Acts.{Reply, Started}
use Rattle.rb_model.specs.Private.{Item}
use Rattle.rb_model.specs.Log.{Call, Entry, Log, fresh, logged, with_refusal, is_end}
use Rattle.rb_shared.specs.Store.{globals}
use Rattle.rb_shared.specs.Threads.{ThreadLog}

-- a call with its step, of which `quick` said that it can not be done at once
pub record Asked : Type 0 where
  pub step : ℕ
  pub call : Call

pub record View : Type 0 where
  -- the number of the thread, how many threads it stands behind (its maker, that one's maker ..), and the slots for threads of the store
  pub thread : ℕ
  pub generation : ℕ
  pub slots : ℕ
  -- what it did and was refused, and whether that ended it
  pub log : Log
  pub ended : Bool
  -- whether it has polled since it rested last
  pub polled : Bool
  pub asked : Option Asked
  -- the number of the thread that its last call started, where no pass was split off for that yet
  pub unsplit : Option ℕ
  -- the logs that its maker knew when it began, and that those knew which it joined
  pub told : List ThreadLog
  -- the references to shared things that it knows, each with the place of the thing; it forgets none
  pub known : List Ref

-- the reference to the global variables, which lie at place 0 on every store
abbrev pub to_globals : Ref
to_globals = record { sort = sort.Object 4294967295; id = globals; at = 0 }

-- the pass of the main thread, as a store is made with so many slots
abbrev pub first_view : ℕ → View
first_view slots =
    record { thread = 0; generation = 0; slots = slots; log = fresh; ended = false; polled = false; asked = None; unsplit = None; told = []; known = to_globals ∷ [] }

abbrev pub own_log : View → ThreadLog
own_log v = record { thread = v.thread; log = v.log; ended = v.ended }

abbrev pub known_logs : View → List ThreadLog
known_logs v = own_log v ∷ v.told

-- how many generations may still come
abbrev pub room : View → ℕ
room v = v.slots - v.generation

abbrev pub ask_of : ℕ → Call → Asked
ask_of step call = record { step = step; call = call }

abbrev pub started_number : Reply → Option ℕ
started_number (Started number thread) = Some number
started_number r = None

-- ---- what calls make of a view

-- one entry more, which tells references
abbrev pub with_entry : View → Entry → List Ref → View
with_entry v e refs = record v {
  log = logged v.log e;
  ended = is_end e.call;
  polled = not (is_end e.call);
  asked = None;
  unsplit = started_number e.reply;
  known = v.known ++ refs;
}

-- one refusal more
abbrev pub with_refused : View → Call → List Item → Option (ℕ × ℕ) → View
with_refused v call moved words = record v { log = with_refusal v.log call moved words; asked = None; unsplit = None }

-- a call that was not done and not refused
abbrev pub unasked : View → View
unasked v = record v { asked = None; unsplit = None }

abbrev pub asking : View → Asked → View
asking v a = record v { asked = Some a; unsplit = None }

abbrev pub polled_view : View → View
polled_view v = record v { polled = true }

abbrev pub rested_view : View → View
rested_view v = record v { polled = false; asked = None }

-- the maker of a pass that was split off
abbrev pub split_view : View → View
split_view v = record v { unsplit = None; asked = None }

-- the pass of thread n, split off: it knows all that its maker knows
abbrev pub newborn : View → ℕ → View
newborn v n = record {
  thread = n;
  generation = v.generation + 1;
  slots = v.slots;
  log = fresh;
  ended = false;
  polled = false;
  asked = None;
  unsplit = None;
  told = known_logs v;
  known = v.known;
}

-- a pass that joined another: it knows all that the other knew
abbrev pub joined_view : View → View → View
joined_view v u = record v { told = v.told ++ known_logs u; known = v.known ++ u.known; asked = None }
