-- The threads that a thread starts.
use Rattle.std.specs.Prelude.{ℕ, suc, ◌+◌, ◌^◌, if◌then◌else◌, List, [], ◌∷◌, ◌++◌, length}
use Rattle.std.specs.List.{flat_map}
use Rattle.rb_model.specs.declared.value.Id.{Id}
use Rattle.rb_model.specs.declared.value.Sort.TheVariants as sort
use Rattle.rb_model.specs.Values.{Reference, same_id}
use Rattle.rb_model.specs.Acts.{Act, Join, Reply, Started, Ended}
use Rattle.rb_model.specs.Log.{Log, Entry, Call, On, Start, Gather}

-- a reference to a thread
abbrev pub to_thread : Id → Reference
to_thread id = record { sort = sort.Thread; id = id }

-- the thread that an entry started, with its number and its thing
abbrev pub started_by : Call → Reply → List (ℕ × Reference)
started_by (Start id body values) (Started number thread) = (number, thread) ∷ []
started_by call reply = []

-- the threads that were started, in order
abbrev pub started : List Entry → List (ℕ × Reference)
started entries = flat_map (λ (e : Entry). started_by e.call e.reply) entries

-- The thing of the thread that thread t starts when it has started so many: serial numbers from 2^63 + 1 on are those of threads.
abbrev pub thread_id : ℕ → ℕ → Id
thread_id t count = record { thread = t; serial = 2 ^ 63 + suc count }

abbrev pub next_thread : ℕ → Log → Id
next_thread t l = thread_id t (length (started l.entries))

-- without the first that has this id
abbrev pub without : Id → List Reference → List Reference
without id [] = []
without id (r ∷ rs) = if same_id r.id id then rs else r ∷ without id rs

-- the threads that wait to be gathered, behind one entry more: one that is started comes last, and one whose end was told goes
abbrev pub after_call : List Reference → Call → Reply → List Reference
after_call rs (Start id body values) (Started number thread) = rs ++ thread ∷ []
after_call rs (On r Join) (Ended how) = without r.id rs
after_call rs (Gather r) (Ended how) = without r.id rs
after_call rs call reply = rs

abbrev pub after_entries : List Reference → List Entry → List Reference
after_entries rs [] = rs
after_entries rs (e ∷ es) = after_entries (after_call rs e.call e.reply) es

-- the threads that a thread started and has not gathered, in the order in which it started them
abbrev pub ungathered : Log → List Reference
ungathered l = after_entries [] l.entries
