-- What a call may ask gives the entry that the rule asks for, and the answer that its contract does.
use Rattle.std.proofs.Common.{◌≡◌, ◌<◌, ◌^◌, ◌+◌, ◌⊎◌, ◌==◌, ◌&&◌, ℕ, zero, suc, Bool, true, false, not, cond, List, [], ◌∷◌, ◌++◌, length, map, Option, Some, None, is_some, is_none, refl, sym, ap, ◌∙◌, subst, inl, inr, ⊎_elim, arith, true≢false, eqb-true}
use Rattle.std.specs.List.{flat_map}
use Rattle.std.specs.Option.{option_map}
use Rattle.rb_model.specs.declared.act.Reply.{Reply as Answered}
use Rattle.rb_model.specs.declared.call.Call.{Call as Held}
use Rattle.rb_model.specs.declared.call.Call.TheVariants as held
use Rattle.rb_model.specs.declared.fault.Fault.TheVariants.{JoinSelf, ThreadLimit}
use Rattle.rb_model.specs.declared.moved.MovedItem.{MovedItem}
use Rattle.rb_model.specs.declared.value.Id.{Id}
use Rattle.rb_model.specs.declared.value.Ref.{Ref}
use Rattle.rb_model.specs.declared.value.Sort.{Sort}
use Rattle.rb_model.specs.declared.value.Sort.TheVariants as sort
use Rattle.rb_model.specs.Acts.{Act, Join, Reply, Started, Ended, Failed}
use Rattle.rb_model.specs.Doing.{doing, said}
use Rattle.rb_model.specs.Ends.{End as Ending}
use Rattle.rb_model.specs.Log.{Call, On, Start, Gather, Print, End, Log, asked, has_end}
use Rattle.rb_model.specs.Moving.{items_of, ref_of, receiver, refs_in_call, refs_in_reply, refs_in_moved}
use Rattle.rb_model.specs.Private.{Item}
use Rattle.rb_model.specs.Started.{started, to_thread, thread_id, next_thread}
use Rattle.rb_model.specs.Things.{Thing, ThreadState, Object, Elements, Pairs, Mutex, Thread, mentioned}
use Rattle.rb_model.specs.Values.{Value, same_id, truth}
use Rattle.rb_shared.specs.Answers.{entry_of, AreLaid}
use Rattle.rb_shared.specs.Asking.{Knows as Holds, NamesOne, IsOwnId, HasNextId, IsNoneOf, ids_moved, MayMove, ReceivesAct, MayAsk}
use Rattle.rb_shared.specs.History.{Event, IsNoThread, by}
use Rattle.rb_shared.specs.Lists.{Has, Each}
use Rattle.rb_shared.specs.Replies.{Serves, MayGive, ActMayGive, IsEnded}
use Rattle.rb_shared.specs.Step.{AreNew, Steps, reply_to, reply_of, store_behind, waits, is_waiting, waits_on, join_reply, new_thread, ids_in, ids_in_call}
use Rattle.rb_shared.specs.Store.{Store, found, is_there, threads, generation_of, is_full}
use Rattle.rb_shared.specs.View.{View}
use Rattle.rb_shared.proofs.Runs.{each_append, each_front, each_behind, each_more, each_has, same_is, same_self, found_has}
use Rattle.thing_store.specs.Counted.{StartsNew}
use Rattle.shared_run.specs.Standing.{sort_in, sort_at, Names, NamesHeld, Fits, MentionIn, IsSized, AreSized, values_in_call, values_in_reply}
use Rattle.shared_run.specs.Run.{Run, IsRun, Knows, MayEnter, ComesFrom, EndsSo, IsOver}
use Rattle.turn_store.specs.Slot.{GathersAnother, another}
use Rattle.shared_run.proofs.Behind.{fits_more, fits_behind, sort_more, sort_behind}
use Rattle.turn_store.proofs.Fitting.{call_fits, moved_fit, reply_names, names_there, ids_fit, moved_ids, sort_past, moved_named, names_itself, are_new}
use Rattle.shared_run.proofs.Gives.{act_gives}
use Rattle.shared_run.proofs.Makers.{makers_moved, generation_same, room_left}
use Rattle.shared_run.proofs.Values.{reply_tells}

-- ---- ids that no thing has

none_has : (xs : List Id) (id : Id) → IsNoneOf xs id → Has xs id → ⊥
none_has [] id n h = h
none_has (x ∷ xs) id (n, ns) (inl e) = true≢false (sym (same_self x id (sym e)) ∙ n)
none_has (x ∷ xs) id (n, ns) (inr h) = none_has xs id ns h

absent_first : (b : Bool) (x : Thing) (o : Option Thing) → (b ≡ true → ⊥) → is_some o ≡ false → is_some (cond b (Some x) o) ≡ false
absent_first true x o never e = absurd (never refl)
absent_first false x o never e = e

-- no thing of these has the id
absent : (xs : List Item) (id : Id) → Each (λ (x : Item). x.id ≡ id → ⊥) xs → is_there xs id ≡ false
absent [] id n = refl
absent (x ∷ xs) id (n, ns) = absent_first (same_id x.id id) x.thing (found xs id) (λ s. n (same_is x.id id s)) (absent xs id ns)

own_differs : (events : List Event) (t : ℕ) (id : Id) (x : Item) → IsOwnId t id → IsNoneOf (ids_moved (by t events)) id → ComesFrom events x → x.id ≡ id → ⊥
own_differs events t id x own unmoved (inl g) is = let low = own.1 in let zero_is : 0 ≡ id.serial = ap (λ (i : Id). i.serial) (sym g ∙ is) in omega (arith, low, zero_is)
own_differs events t id x own unmoved (inr (inl m)) is =
    none_has (ids_moved (by t events)) id unmoved (subst (λ (p : ℕ × Id). Has (ids_moved (by p.0 events)) p.1) (λ i. ((ap (λ (y : Id). y.thread) is ∙ own.0) i, is i)) m.1)
own_differs events t id x own unmoved (inr (inr s)) is =
    let high = own.2 in let serial : 2 ^ 63 + suc s.1 ≡ id.serial = ap (λ (i : Id). i.serial) (sym s.2 ∙ is) in omega (arith, high, serial)

start_differs : (events : List Event) (t : ℕ) (id : Id) (x : Item) → id ≡ thread_id t (length (started (by t events))) → ComesFrom events x → x.id ≡ id → ⊥
start_differs events t id x next (inl g) is = let serial : 0 ≡ 2 ^ 63 + suc (length (started (by t events))) = ap (λ (i : Id). i.serial) (sym g ∙ (is ∙ next)) in omega (arith, serial)
start_differs events t id x next (inr (inl m)) is =
    let low = m.0 in let serial : x.id.serial ≡ 2 ^ 63 + suc (length (started (by t events))) = ap (λ (i : Id). i.serial) (is ∙ next) in omega (arith, low, serial)
start_differs events t id x next (inr (inr s)) is =
    let same : thread_id s.0 s.1 ≡ thread_id t (length (started (by t events))) = sym s.2 ∙ (is ∙ next) in
    let thread : s.0 ≡ t = ap (λ (i : Id). i.thread) same in
    let serial : 2 ^ 63 + suc s.1 ≡ 2 ^ 63 + suc (length (started (by t events))) = ap (λ (i : Id). i.serial) same in
    let few = s.3 in let count = ap (λ n. length (started (by n events))) thread in omega (arith, serial, few, count)

sort_found : (o : Option Thing) (s : Sort) → option_map sort_in o ≡ Some s → (x : Thing) × (o ≡ Some x) × (sort_in x ≡ s)
sort_found None s e = absurd (cc)
sort_found (Some x) s e = let is : sort_in x ≡ s = cc in (x, refl, is)

-- things that move are no threads, and not too long
no_thread : (t : ℕ) (x : Item) → MayMove t x.thing → IsNoThread x.thing
no_thread t x may s is = subst (MayMove t) is may

sized_if : (t : ℕ) (x : Thing) → MayMove t x → IsSized x
sized_if t (Object class fields) may = tt
sized_if t (Elements vs) may = may
sized_if t (Pairs ps) may = may.0
sized_if t (Mutex owner) may = tt
sized_if t (Thread s) may = tt

truth_fits : (w : Store) (b : Bool) → Fits w (truth b)
truth_fits w true = tt
truth_fits w false = tt

-- ---- what the call may ask

module _ (slots : ℕ) (run : Run) (v : View) (r : IsRun slots run) (k : Knows slots run v) (call : Held) (moved : List MovedItem) (may : MayAsk v call moved) where
  abbrev w : Store
  w = run.store ++ items_of moved

  log_is : v.log.entries ≡ by v.thread run.events
  log_is = ap (λ (l : Log). l.entries) k.log

  abbrev Apart : MovedItem → Type 0
  Apart m = is_there run.store m.id ≡ false

  apart_all : (ms : List MovedItem) → Each (λ (m : MovedItem). IsOwnId v.thread m.id) ms → Each (λ (m : MovedItem). IsNoneOf (ids_moved v.log.entries) m.id) ms → Each Apart ms
  apart_all [] o n = tt
  apart_all (m ∷ ms) (o, os) (n, ns) = (
    absent run.store m.id (each_more (ComesFrom run.events) (λ (x : Item). x.id ≡ m.id → ⊥)
        (λ x c. own_differs run.events v.thread m.id x o (subst (λ l. IsNoneOf (ids_moved l) m.id) log_is n) c) run.store r.from),
    apart_all ms os ns,
  )

  pub asks_new : AreNew run.store (items_of moved)
  asks_new = are_new run.store moved (apart_all moved may.own may.first) may.once

  -- a reference that is known, or to a thing that moves, names a thing
  one_apart : (ms : List MovedItem) (x : Ref) → Each Apart ms → NamesOne ms x → is_there run.store x.id ≡ false
  one_apart [] x a o = absurd o
  one_apart (m ∷ ms) x (a, as_) (inl h) = ap (is_there run.store) (sym h.1) ∙ a
  one_apart (m ∷ ms) x (a, as_) (inr o) = one_apart ms x as_ o

  moved_is : (x : Ref) → NamesOne moved x → NamesHeld w x
  moved_is x o = sort_past run.store (items_of moved) x.id (one_apart moved x (apart_all moved may.own may.first) o) ∙ moved_named moved x may.once o

  pub known_is : (x : Ref) → Holds v x → NamesHeld w x
  known_is x h = sort_more run.store (items_of moved) x.id x.sort (each_has (NamesHeld run.store) v.known x k.known h)

  all_named : Each (NamesHeld w) (refs_in_call call ++ refs_in_moved moved)
  all_named = each_more (λ (x : Ref). Holds v x ⊎ NamesOne moved x) (NamesHeld w) (λ x o. ⊎_elim (known_is x) (moved_is x) o) (refs_in_call call ++ refs_in_moved moved) may.known

  hands : Each (Fits w) (values_in_call (asked call))
  hands = call_fits w call (each_front (NamesHeld w) (refs_in_call call) (refs_in_moved moved) all_named)

  mentions : MentionIn w (items_of moved)
  mentions = moved_fit w v.thread moved may.things (each_behind (NamesHeld w) (refs_in_call call) (refs_in_moved moved) all_named)

  mentions_all : MentionIn w w
  mentions_all = each_append (λ (x : Item). Each (Fits w) (mentioned x.thing)) run.store (items_of moved)
      (each_more (λ (x : Item). Each (Fits run.store) (mentioned x.thing)) (λ (x : Item). Each (Fits w) (mentioned x.thing))
      (λ x f. each_more (Fits run.store) (Fits w) (fits_more run.store (items_of moved)) (mentioned x.thing) f) run.store r.mentions) mentions

  sized_moved : AreSized (items_of moved)
  sized_moved = each_more (λ (x : Item). MayMove v.thread x.thing) (λ (x : Item). IsSized x.thing) (λ x m. sized_if v.thread x.thing m) (items_of moved) may.things

  sized_all : AreSized w
  sized_all = each_append (λ (x : Item). IsSized x.thing) run.store (items_of moved) r.sized sized_moved

  no_threads : Each (λ (x : Item). IsNoThread x.thing) (items_of moved)
  no_threads = each_more (λ (x : Item). MayMove v.thread x.thing) (λ (x : Item). IsNoThread x.thing) (λ x m. no_thread v.thread x m) (items_of moved) may.things

  own_items : (ms : List MovedItem) → Each (λ (m : MovedItem). IsOwnId v.thread m.id) ms → Each (λ (x : Item). IsOwnId v.thread x.id) (items_of ms)
  own_items [] o = tt
  own_items (m ∷ ms) (o, os) = (o, own_items ms os)

  -- ---- a thread that starts is not there

  start_absent : (id : Id) → id ≡ next_thread v.thread v.log → is_there w id ≡ false
  start_absent id next =
      let next' : id ≡ thread_id v.thread (length (started (by v.thread run.events))) = next ∙ ap (λ l. thread_id v.thread (length (started l))) log_is in
      absent w id (each_append (λ (x : Item). x.id ≡ id → ⊥) run.store (items_of moved)
      (each_more (ComesFrom run.events) (λ (x : Item). x.id ≡ id → ⊥) (λ x c. start_differs run.events v.thread id x next' c) run.store r.from)
      (each_more (λ (x : Item). IsOwnId v.thread x.id) (λ (x : Item). x.id ≡ id → ⊥)
      (λ x o is. let low = o.2 in let serial : x.id.serial ≡ 2 ^ 63 + suc (length (started v.log.entries)) = ap (λ (i : Id). i.serial) (is ∙ next) in omega (arith, low, serial))
      (items_of moved) (own_items moved may.own)))

  starts_new : (c : Call) → HasNextId v c → StartsNew w c
  starts_new (Start id body values) next = start_absent id next
  starts_new (On x act) next = tt
  starts_new (Gather x) next = tt
  starts_new (Print bytes) next = tt
  starts_new (End how) next = tt

  pub asks_starts : StartsNew w (asked call)
  asks_starts = starts_new (asked call) may.next

  -- ---- the receiver

  pub ids_known : (c : Held) → call ≡ c → Each (λ (id : Id). is_there w id ≡ true) (ids_in_call (asked c))
  ids_known (held.On x a) is =
      let named = known_is x (subst (λ c. ReceivesAct v x (asked c)) is (may.receives x (ap receiver is))).0 in
      (names_there w x.id x.sort named, ids_fit w (values_in_call (asked (held.On x a))) (subst (λ c. Each (Fits w) (values_in_call (asked c))) is hands))
  ids_known (held.Start id body values) is = ids_fit w (values_in_call (asked (held.Start id body values))) (subst (λ c. Each (Fits w) (values_in_call (asked c))) is hands)
  ids_known (held.Gather x) is =
      let named = known_is x (subst (λ c. ReceivesAct v x (asked c)) is (may.receives x (ap receiver is))).0 in (names_there w x.id x.sort named, tt)
  ids_known (held.Print bytes) is = tt
  ids_known (held.End how) is = ids_fit w (values_in_call (asked (held.End how))) (subst (λ c. Each (Fits w) (values_in_call (asked c))) is hands)

  -- ---- the entry

  module _ (reply : Answered) (z' : Store) (ready : waits w v.thread (asked call) ≡ false) (is_reply : said reply ≡ reply_to slots w v.thread (asked call)) (is_store : z' ≡ store_behind slots w v.thread (asked call)) where
    pub asks_steps : (step : ℕ) → Steps slots run.store v.thread (entry_of step call moved (said reply)) z'
    asks_steps step = record {
      joins = asks_new;
      known = each_append (λ (id : Id). is_there w id ≡ true) (ids_in_call (asked call)) (flat_map (λ (x : Item). flat_map ids_in (mentioned x.thing)) (items_of moved)) (ids_known call refl) (moved_ids w (items_of moved) mentions);
      ready = ready;
      reply_is = is_reply;
      store_is = is_store;
    }

    pub asks_enters : (step : ℕ) → MayEnter v run.store (entry_of step call moved (said reply))
    asks_enters step = record { hands = hands; mentions = mentions; sized = sized_moved; own = own_items moved may.own; no_threads = no_threads; next = may.next }

    up : (x : Value) → Fits w x → Fits z' x
    up x f = subst (λ s. Fits s x) (sym is_store) (fits_behind slots w v.thread (asked call) x f)

    found_tells : (o : Option Thing) (id : Id) (act : Act) → found w id ≡ o → Each (Fits w) (values_in_reply (reply_of v.thread o act))
    found_tells None id act f = tt
    found_tells (Some thing) id act f =
        let x = found_has w id thing f in
        let m : Each (Fits w) (mentioned x.0.thing) = each_has (λ (y : Item). Each (Fits w) (mentioned y.thing)) w x.0 mentions_all x.1 in
        reply_tells (Fits w) (truth_fits w) tt (λ n. tt) v.thread thing act (subst (λ y. Each (Fits w) (mentioned y)) x.3 m)

    started_tells : (b : Bool) (id : Id) (n : ℕ) → (b ≡ false → Names z' (to_thread id)) → Each (Fits z') (values_in_reply (cond b (Failed ThreadLimit) (Started n (to_thread id))))
    started_tells true id n f = tt
    started_tells false id n f = (f refl, tt)

    new_named : (id : Id) (body : ℕ) (values : List Value) → asked call ≡ Start id body values → is_full slots w v.thread ≡ false → Names z' (to_thread id)
    new_named id body values is open_ =
        let there : z' ≡ w ++ new_thread w v.thread id ∷ [] =
        is_store ∙ (ap (store_behind slots w v.thread) is ∙ ap (λ b. cond b w (w ++ new_thread w v.thread id ∷ [])) open_) in
        ap (λ s. sort_at s id) there
        ∙ (sort_past w (new_thread w v.thread id ∷ []) id (start_absent id (subst (HasNextId v) is may.next))
        ∙ ap (λ b. option_map sort_in (cond b (Some (new_thread w v.thread id).thing) None)) (same_self id id refl))

    reply_fits : (c : Call) → asked call ≡ c → Each (Fits z') (values_in_reply (reply_to slots w v.thread c))
    reply_fits (On x act) is = each_more (Fits w) (Fits z') up (values_in_reply (reply_of v.thread (found w x.id) act)) (found_tells (found w x.id) x.id act refl)
    reply_fits (Gather x) is = each_more (Fits w) (Fits z') up (values_in_reply (reply_of v.thread (found w x.id) Join)) (found_tells (found w x.id) x.id Join refl)
    reply_fits (Start id body values) is = started_tells (is_full slots w v.thread) id (suc (length (threads w))) (new_named id body values is)
    reply_fits (Print bytes) is = tt
    reply_fits (End how) is = tt

    -- what the reply tells, and what moved, names things behind the call
    pub asks_refs : Each (NamesHeld z') (refs_in_reply reply ++ map ref_of moved)
    asks_refs =
        each_append (NamesHeld z') (refs_in_reply reply) (map ref_of moved)
        (reply_names z' reply (subst (λ q. Each (Fits z') (values_in_reply q)) (sym is_reply) (reply_fits (asked call) refl)))
        (names_itself moved (NamesHeld z') (λ x o. subst (λ s. NamesHeld s x) (sym is_store) (sort_behind slots w v.thread (asked call) x.id x.sort (moved_is x o))))

    -- ---- the reply is one that the call may have

    act_may : (x : Ref) (act : Act) → NamesHeld w x → Serves x.sort act → ActMayGive x.sort act (reply_of v.thread (found w x.id) act)
    act_may x act named serves =
        let f = sort_found (found w x.id) x.sort named in
        let y = found_has w x.id f.0 f.1 in
        let sized : IsSized f.0 = subst IsSized y.3 (each_has (λ (i : Item). IsSized i.thing) w y.0 sized_all y.1) in
        subst (λ o. ActMayGive x.sort act (reply_of v.thread o act)) (sym f.1)
        (subst (λ s. ActMayGive s act (act_reply_of f.0)) f.2 (act_gives v.thread f.0 act (subst (λ s. Serves s act) (sym f.2) serves) sized))
      where
        act_reply_of : Thing → Reply
        act_reply_of thing = Rattle.rb_shared.specs.Step.act_reply v.thread thing act

    generation_w : generation_of w v.thread ≡ v.generation
    generation_w = generation_same run.store w v.thread (makers_moved run.store (items_of moved) no_threads) ∙ sym k.generation

    start_may : (b : Bool) (id : Id) (n : ℕ) → (b ≡ false → v.generation + 1 < v.slots)
        → ((m : ℕ) × (cond b (Failed ThreadLimit) (Started n (to_thread id)) ≡ Started m (to_thread id)) × (v.generation + 1 < v.slots)) ⊎ (cond b (Failed ThreadLimit) (Started n (to_thread id)) ≡ Failed ThreadLimit)
    start_may true id n f = inr refl
    start_may false id n f = inl (n, refl, f refl)

    -- the thread of a Gather has ended, and is not the one that asks
    ended_reply : v.ended ≡ false → GathersAnother w v.thread (asked call) → (x : Ref) → call ≡ held.Gather x → NamesHeld w x → x.sort ≡ sort.Thread → IsEnded (reply_of v.thread (found w x.id) Join)
    ended_reply going another_may x is named thread =
        let f = sort_found (found w x.id) x.sort named in
        of_thing f.0 f.1 (f.2 ∙ thread)
      where
        of_state : (s : ThreadState) (end : Option Ending) → s.end ≡ end → found w x.id ≡ Some (Thread s) → (is_none end && not (s.number == v.thread)) ≡ false → (is_none end && not (s.number == another v.thread)) ≡ false → (b : Bool) → (s.number == v.thread) ≡ b → IsEnded (join_reply v.thread s end)
        of_state s None e f a c true n = absurd (other_too s.number v.thread (eqb-true s.number v.thread n) c)
          where
            other_too : (n t : ℕ) → n ≡ t → (true && not (n == another t)) ≡ false → ⊥
            other_too n zero same h = absurd (let q : (n == 1) ≡ true = by_not (n == 1) h in let one = eqb-true n 1 q in omega (arith, one, same))
              where
                by_not : (b : Bool) → not b ≡ false → b ≡ true
                by_not true h = refl
                by_not false h = absurd (let g : true ≡ false = h in cc)
            other_too n (suc t) same h = absurd (let q : (n == 0) ≡ true = by_not (n == 0) h in let none_is = eqb-true n 0 q in omega (arith, none_is, same))
              where
                by_not : (b : Bool) → not b ≡ false → b ≡ true
                by_not true h = refl
                by_not false h = absurd (let g : true ≡ false = h in cc)
        of_state s None e f a c false n = absurd (let h : true ≡ false = ap not (sym n) ∙ a in cc)
        of_state s (Some how) e f a c true n =
            let y = found_has w x.id (Thread s) f in
            let ends : has_end (by s.number run.events) ≡ true = each_has (EndsSo run.events) w y.0 all_end y.1 s how y.3 e in
            let open_log : has_end v.log.entries ≡ false = subst (λ b. IsOver b v.log) going k.over in
            absurd (true≢false (sym (ap (λ m. has_end (by m run.events)) (sym (eqb-true s.number v.thread n)) ∙ ends) ∙ (ap has_end (sym log_is) ∙ open_log)))
          where
            all_end : Each (EndsSo run.events) w
            all_end = each_append (EndsSo run.events) run.store (items_of moved) r.ended (each_more (λ (i : Item). IsNoThread i.thing) (EndsSo run.events) (λ i q s how eq end. absurd (q s eq)) (items_of moved) no_threads)
        of_state s (Some how) e f a c false n = (how, ap (λ b. cond b (Failed JoinSelf) (Ended how)) n)

        of_thing : (thing : Thing) → found w x.id ≡ Some thing → sort_in thing ≡ sort.Thread → IsEnded (reply_of v.thread (found w x.id) Join)
        of_thing (Thread s) f t =
            let a : is_waiting v.thread (found w x.id) Join ≡ false = ap (λ c. waits w v.thread (asked c)) (sym is) ∙ ready in
            let c : is_waiting (another v.thread) (found w x.id) Join ≡ false = subst (λ c. GathersAnother w v.thread (asked c)) is another_may in
            subst (λ o. IsEnded (reply_of v.thread o Join)) (sym f)
            (of_state s s.end refl f (ap (λ o. is_waiting v.thread o Join) (sym f) ∙ a) (ap (λ o. is_waiting (another v.thread) o Join) (sym f) ∙ c) (s.number == v.thread) refl)
        of_thing (Mutex owner) f t = absurd (cc)
        of_thing (Object class fields) f t = absurd (cc)
        of_thing (Elements vs) f t = absurd (cc)
        of_thing (Pairs ps) f t = absurd (cc)

    joins_thread : (s : Sort) → Serves s Join → s ≡ sort.Thread
    joins_thread (sort.Object class) serves = absurd serves
    joins_thread sort.List serves = absurd serves
    joins_thread sort.Pairs serves = absurd serves
    joins_thread sort.Mutex serves = absurd serves
    joins_thread sort.Thread serves = refl

    reply_may : v.ended ≡ false → GathersAnother w v.thread (asked call) → (c : Held) → call ≡ c → MayGive v.generation v.slots (asked c) (reply_to slots w v.thread (asked c))
    reply_may going another_may (held.On x a) is =
        let p = subst (λ c. ReceivesAct v x (asked c)) is (may.receives x (ap receiver is)) in act_may x (doing a) (known_is x p.0) p.1
    reply_may going another_may (held.Gather x) is =
        let p = subst (λ c. ReceivesAct v x (asked c)) is (may.receives x (ap receiver is)) in ended_reply going another_may x is (known_is x p.0) (joins_thread x.sort p.1)
    reply_may going another_may (held.Start id body values) is =
        start_may (is_full slots w v.thread) id (suc (length (threads w)))
        (λ open_. let room = room_left slots w v.thread open_ in let g = generation_w in let s = k.same_slots in omega (arith, room, g, s))
    reply_may going another_may (held.Print bytes) is = refl
    reply_may going another_may (held.End how) is = refl

    pub asks_gives : v.ended ≡ false → GathersAnother w v.thread (asked call) → MayGive v.generation v.slots (asked call) (said reply)
    asks_gives going another_may = subst (MayGive v.generation v.slots (asked call)) (sym is_reply) (reply_may going another_may call refl)

-- things that stay where they are
pub laid_again : (ms : List MovedItem) → AreLaid ms ms
laid_again [] = tt
laid_again (m ∷ ms) = ((m.at, refl), laid_again ms)
