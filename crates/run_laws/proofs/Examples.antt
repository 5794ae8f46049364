-- The premises can be met: the history of a script with nothing in it.
use Rattle.std.proofs.Common.{◌≡◌, inl, ℕ, zero, suc, ◌-◌, false, List, [], ◌∷◌, ◌++◌, slice_get, Some, None, refl, sym, ap, subst}
use Rattle.std.proofs.Math.Dec.{eqb-zero-suc}
use Rattle.rb_tree.specs.declared.node.Node.{Node}
use Rattle.rb_model.specs.Values.{Nil}
use Rattle.rb_model.specs.Acts.{Done}
use Rattle.rb_model.specs.Ends.{Value}
use Rattle.rb_model.specs.Private.{bare, nothing_waits, no_thing}
use Rattle.rb_model.specs.Log.{Log, Entry, End, fresh}
use Rattle.rb_shared.specs.Store.{opening as opening_store}
use Rattle.rb_shared.specs.History.{Event, History, IsBegun, IsLegal, Leads, Placed, by, entries_of}
use Rattle.rb_machine.specs.Scopes.{Script}
use Rattle.rb_machine.specs.Scopes as scopes
use Rattle.rb_machine.specs.Control.{State, On, Then, Following, Instead}
use Rattle.rb_machine.specs.Call.{ended}
use Rattle.rb_machine.specs.Follows.{At, Follows, ends, all_gathered, closes, last_entry}
use Rattle.rb_machine.specs.Follows as thread
use Rattle.rb_machine.specs.Alone.{opening}
use Rattle.run_laws.specs.Doing.{Does, EachDoes}
use Rattle.run_laws.specs.Laws.{MainDoes, Reaches}

module _ (S : Script) (N slots : ℕ) (empty : S.program.main ≡ []) where
  -- what its main thread comes to
  abbrev state : List Node → State
  state nodes = On (Following Nil nodes) (Then (Instead Nil) ∷ []) (record { me = Nil; locals = scopes.fresh S.main_names [] }) 0 N

  comes_to_end : At S N (state []) fresh (bare 0) (ended (Value Nil) N)
  comes_to_end = thread.goes fresh (bare 0) _ _ (thread.goes fresh (bare 0) _ _ (thread.goes fresh (bare 0) _ _ (thread.here 0) refl) refl) refl

  abbrev last : Entry
  last = record { step = N - N; call = End (Value Nil); moved = []; reply = Done }

  abbrev log : Log
  log = record { entries = last ∷ []; refusals = [] }

  ends_so : Follows S N (opening S N) log (Value Nil) (bare 0)
  ends_so = subst (λ nodes. Follows S N (state nodes) log (Value Nil) (bare 0)) (sym empty)
      (closes fresh fresh (bare 0) (bare 0) (Value Nil) (Value Nil) (N - N) false [] (ends fresh (bare 0) (ended (Value Nil) N) (Value Nil) comes_to_end refl) (all_gathered fresh (Value Nil))
      (no_thing (bare 0) (bare 0) Nil [] [] (λ r e. cc) (nothing_waits (bare 0))))

  abbrev placed : Placed
  placed = record { log = log; points = None ∷ [] }

  abbrev the_event : Event
  the_event = record { thread = 0; entry = last }

  abbrev history : History
  history = record { events = the_event ∷ []; threads = placed ∷ [] }

  logs_so : (t : ℕ) → by t (the_event ∷ []) ≡ entries_of (slice_get (placed ∷ []) t)
  logs_so zero = refl
  logs_so (suc t) = rw (eqb-zero-suc t) refl

  begun_so : (front behind : List Event) (e : Event) → (the_event ∷ []) ≡ front ++ e ∷ behind → IsBegun front e
  begun_so [] behind e is = inl (let same : the_event ≡ e = cc in ap (λ (x : Event). x.thread) (sym same))
  begun_so (x ∷ []) behind e is = absurd (cc)
  begun_so (x ∷ y ∷ xs) behind e is = absurd (cc)

  leads_so : Leads slots opening_store (the_event ∷ []) opening_store
  leads_so = (opening_store, record { joins = tt; known = tt; ready = refl; reply_is = refl; store_is = refl }, refl)

  legal : IsLegal slots history
  legal = record {
    last = opening_store;
    steps = leads_so;
    logs = logs_so;
    events = (refl, tt);
    points = ((refl, tt), tt);
    threads = refl;
    begun = begun_so;
    unmoved = (tt, tt);
    ends = (([], last, Value Nil, refl, refl, refl), tt);
  }

  each_does : EachDoes S N history
  each_does zero p is = subst (λ (q : Placed). Does S N history 0 q.log) (let same : placed ≡ p = cc in same) (record { start = opening S N; begins = inl (refl, refl); how = Value Nil; store = bare 0; follows = ends_so; whose = refl })
  each_does (suc n) p is = absurd (let no : None ≡ Some p = is in cc)

  -- the laws speak of the points before and behind its one entry
  before_its_end : Reaches S N slots history [] opening_store
  before_its_end = record { legal = legal; does = each_does; numbered = (tt, tt); behind = the_event ∷ []; order = refl; leads = refl }

  behind_its_end : Reaches S N slots history (the_event ∷ []) opening_store
  behind_its_end = record { legal = legal; does = each_does; numbered = (tt, tt); behind = []; order = refl; leads = leads_so }

  main_does : MainDoes S N slots history placed (Value Nil)
  main_does = record { legal = legal; first = refl; store = bare 0; follows = ends_so; whose = refl }
