-- Who takes over the end of a thread comes behind it.
use Rattle.std.proofs.Common.{◌≡◌, inl, ℕ, suc, ◌==◌, Bool, true, false, cond, List, [], ◌∷◌, ◌++◌, length, map, Option, Some, None, refl, sym, ap, ◌∙◌, subst}
use Rattle.std.specs.List.{flat_map}
use Rattle.std.proofs.lemmas.Bool.{eqb-true}
use Rattle.std.proofs.lemmas.List.{map-append}
use Rattle.std.proofs.lemmas.Grind.{flat_map-append}
use Rattle.rb_model.specs.declared.fault.Fault.TheVariants.{ThreadLimit, JoinSelf}
use Rattle.rb_model.specs.declared.value.Id.{Id}
use Rattle.rb_model.specs.Values.{Value, Reference, same_id}
use Rattle.rb_model.specs.Acts.{Act, SetField, Pop, KDelete, Join, Reply, Started, Ended, Failed}
use Rattle.rb_model.specs.Ends.{End as Ending}
use Rattle.rb_model.specs.Things.{Thing, ThreadState, Object, Elements, Pairs, Mutex, Thread}
use Rattle.rb_model.specs.Private.{Item}
use Rattle.rb_model.specs.Log.{Call, On, Start, Gather, Print, End, Entry}
use Rattle.rb_model.specs.Started.{to_thread, started_by}
use Rattle.rb_shared.specs.Lists.{Has, Each}
use Rattle.rb_shared.specs.Store.{Store, opening, found, with_thing, threads, is_full}
use Rattle.rb_shared.specs.Step.{Steps, behind_act, join_reply, joined_by, gathered_by, reply_of, reply_to, store_behind, with_act, ended_item, ended_thing, new_thread}
use Rattle.rb_shared.specs.History.{Event, all_started, IsNoThread, MovesNoThread}
use Rattle.rb_shared.specs.Laws.{HasEndedSo, IsJoin, JoinsComeBehindEnds}
use Rattle.rb_shared.proofs.Runs.{has_front, has_behind, each_has, each_append, each_front, each_more, found_has, leads_split, run_keeps}

-- ---- what is known of threads behind a front of the events

-- a thread in the store was started, and where it has an end it ended so
abbrev IsKnown : List Event → Item → Type 0
IsKnown done x =
    (s : ThreadState) → x.thing ≡ Thread s → Has (all_started done) (s.number, to_thread x.id) × ((how : Ending) → s.end ≡ Some how → HasEndedSo done s.number how)

started_front : (done more : List Event) (p : ℕ × Reference) → Has (all_started done) p → Has (all_started (done ++ more)) p
started_front done more p h =
    let by : Entry → List (ℕ × Reference) = λ d. started_by d.call d.reply in
    let whole : all_started (done ++ more) ≡ all_started done ++ all_started more =
    ap (flat_map by) (map-append (λ (e : Event). e.entry) done more) ∙ flat_map-append by (map (λ (e : Event). e.entry) done) (map (λ (e : Event). e.entry) more) in
    subst (λ l. Has l p) (sym whole) (has_front (all_started done) (all_started more) p h)

started_last : (done : List Event) (e : Event) (p : ℕ × Reference) → Has (started_by e.entry.call e.entry.reply) p → Has (all_started (done ++ e ∷ [])) p
started_last done e p h =
    let by : Entry → List (ℕ × Reference) = λ d. started_by d.call d.reply in
    let whole : all_started (done ++ e ∷ []) ≡ all_started done ++ (started_by e.entry.call e.entry.reply ++ []) =
    ap (flat_map by) (map-append (λ (e : Event). e.entry) done (e ∷ [])) ∙ flat_map-append by (map (λ (e : Event). e.entry) done) (e.entry ∷ []) in
    subst (λ l. Has l p) (sym whole) (has_behind (all_started done) (started_by e.entry.call e.entry.reply ++ []) p (has_front (started_by e.entry.call e.entry.reply) [] p h))

known_more : (done more : List Event) (x : Item) → IsKnown done x → IsKnown (done ++ more) x
known_more done more x k s e =
    let p = k s e in
    (started_front done more (s.number, to_thread x.id) p.0, λ how i. let q = p.1 how i in (q.0, has_front done more q.0 q.1, q.2, q.3))

-- ---- what a call makes of the threads

-- one thing in the place of another: a thread stays the thread that it was, with the end that it had
abbrev pub StaysThread : Thing → Thing → Type 0
StaysThread old new = (s : ThreadState) → new ≡ Thread s → (o : ThreadState) × (old ≡ Thread o) × (s.number ≡ o.number) × (s.end ≡ o.end)

joined_same : (t : ℕ) (s : ThreadState) (end : Option Ending) → ((joined_by t s end).number ≡ s.number) × ((joined_by t s end).end ≡ s.end)
joined_same t s None = (refl, refl)
joined_same t s (Some how) = by (s.number == t)
  where
    by : (b : Bool) → ((cond b s (gathered_by t s)).number ≡ s.number) × ((cond b s (gathered_by t s)).end ≡ s.end)
    by true = (refl, refl)
    by false = (refl, refl)

pub thread_is : (a b : ThreadState) → Thread a ≡ Thread b → a ≡ b
thread_is a b e = cc

pub act_keeps : (t : ℕ) (old : Thing) (act : Act) → StaysThread old (behind_act t old act)
act_keeps t (Thread o) Join s e =
    let same = joined_same t o o.end in
    let is = thread_is (joined_by t o o.end) s e in
    (o, refl, sym (ap (λ (x : ThreadState). x.number) is) ∙ same.0, sym (ap (λ (x : ThreadState). x.end) is) ∙ same.1)
act_keeps t (Thread o) act s e = let is = thread_is o s e in (o, refl, sym (ap (λ (x : ThreadState). x.number) is), sym (ap (λ (x : ThreadState). x.end) is))
act_keeps t (Mutex owner) act s e = absurd (cc)
act_keeps t (Object class fields) (SetField name v) s e = absurd (cc)
act_keeps t (Object class fields) act s e = absurd (cc)
act_keeps t (Elements vs) Pop s e = absurd (cc)
act_keeps t (Elements vs) act s e = absurd (cc)
act_keeps t (Pairs ps) (KDelete k) s e = absurd (cc)
act_keeps t (Pairs ps) act s e = absurd (cc)

-- under another content a known thing is known
known_as : (done : List Event) (x : Item) (old new : Thing) → x.thing ≡ old → StaysThread old new → IsKnown done x → IsKnown done (record { id = x.id; thing = new })
known_as done x old new is stays k s e =
    let o = stays s e in
    let p = k o.0 (is ∙ o.1) in
    (subst (λ n. Has (all_started done) (n, to_thread x.id)) (sym o.2) p.0, λ how i. subst (λ n. HasEndedSo done n how) (sym o.2) (p.1 how (sym o.3 ∙ i)))

with_first : (b : Bool) (done : List Event) (x : Item) (xs : Store) (id : Id) (old new : Thing) → StaysThread old new → IsKnown done x → Each (IsKnown done) xs
    → (found xs id ≡ Some old → Each (IsKnown done) (with_thing xs id new)) → cond b (Some x.thing) (found xs id) ≡ Some old
    → Each (IsKnown done) (cond b (record { id = x.id; thing = new } ∷ xs) (x ∷ with_thing xs id new))
with_first true done x xs id old new stays k ks more g = let is : x.thing ≡ old = cc in (known_as done x old new is stays k, ks)
with_first false done x xs id old new stays k ks more g = (k, more g)

with_known : (done : List Event) (w : Store) (id : Id) (old new : Thing) → found w id ≡ Some old → StaysThread old new → Each (IsKnown done) w → Each (IsKnown done) (with_thing w id new)
with_known done [] id old new f stays k = tt
with_known done (x ∷ xs) id old new f stays (k, ks) =
    with_first (same_id x.id id) done x xs id old new stays k ks (λ g. with_known done xs id old new g stays ks) f

act_known : (done : List Event) (t : ℕ) (w : Store) (id : Id) (o : Option Thing) (act : Act) → found w id ≡ o → Each (IsKnown done) w → Each (IsKnown done) (with_act t w id o act)
act_known done t w id None act f k = k
act_known done t w id (Some thing) act f k = with_known done w id thing (behind_act t thing act) f (act_keeps t thing act) k

start_known : (done : List Event) (w : Store) (n : ℕ) (id : Id) (x : Item) (r : Reply) (b : Bool) → r ≡ cond b (Failed ThreadLimit) (Started n (to_thread id)) → (Started n (to_thread id) ≡ r → IsKnown done x)
    → Each (IsKnown done) w → Each (IsKnown done) (cond b w (w ++ x ∷ []))
start_known done w n id x r true e new k = k
start_known done w n id x r false e new k = each_append (IsKnown done) w (x ∷ []) k (new (sym e), tt)

some_is : (a b : Ending) → Some a ≡ Some b → a ≡ b
some_is a b e = cc

-- the end of thread t
ended_known : (done : List Event) (t : ℕ) (how : Ending) (x : Item) → HasEndedSo done t how → IsKnown done x → IsKnown done (ended_item t how x)
ended_known done t how x ended k = by x.thing refl
  where
    of_thread : (o : ThreadState) (b : Bool) → (o.number == t) ≡ b → x.thing ≡ Thread o → IsKnown done (record { id = x.id; thing = Thread (cond b (record o { end = Some how }) o) })
    of_thread o true n is s e =
        let same = thread_is (record o { end = Some how }) s e in
        let number : s.number ≡ o.number = ap (λ (y : ThreadState). y.number) (sym same) in (
          subst (λ m. Has (all_started done) (m, to_thread x.id)) (sym number) (k o is).0,
          λ h i.
              let h_is : how ≡ h = some_is how h (ap (λ (y : ThreadState). y.end) same ∙ i) in
              subst (λ m. HasEndedSo done m h) (sym (number ∙ eqb-true o.number t n)) (subst (λ g. HasEndedSo done t g) h_is ended),
        )
    of_thread o false n is s e =
        known_as done x (Thread o) (Thread o) is (λ s' e'. let same = thread_is o s' e' in (o, refl, ap (λ (y : ThreadState). y.number) (sym same), ap (λ (y : ThreadState). y.end) (sym same))) k s e

    by : (thing : Thing) → x.thing ≡ thing → IsKnown done (record { id = x.id; thing = ended_thing t how thing })
    by (Thread o) is s e = of_thread o (o.number == t) refl is s e
    by (Mutex None) is s e = absurd (cc)
    by (Mutex (Some owner)) is s e = absurd (cc)
    by (Object class fields) is s e = absurd (cc)
    by (Elements vs) is s e = absurd (cc)
    by (Pairs ps) is s e = absurd (cc)

ended_all : (done : List Event) (t : ℕ) (how : Ending) (w : Store) → HasEndedSo done t how → Each (IsKnown done) w → Each (IsKnown done) (map (ended_item t how) w)
ended_all done t how [] ended k = tt
ended_all done t how (x ∷ xs) ended (k, ks) = (ended_known done t how x ended k, ended_all done t how xs ended ks)

-- ---- one event more

moved_known : (done : List Event) (ms : List Item) → Each (λ (x : Item). IsNoThread x.thing) ms → Each (IsKnown done) ms
moved_known done [] q = tt
moved_known done (m ∷ ms) (q, qs) = (λ s e. absurd (q s e), moved_known done ms qs)

new_known : (done : List Event) (e : Event) (w : Store) (id : Id) (body : ℕ) (values : List Value) → e.entry.call ≡ Start id body values → Started (suc (length (threads w))) (to_thread id) ≡ e.entry.reply
    → IsKnown (done ++ e ∷ []) (new_thread w e.thread id)
new_known done e w id body values call reply s is =
    let made : ThreadState = record { number = suc (length (threads w)); maker = e.thread; gathered = false; end = None } in
    let same : made ≡ s = thread_is made s is in
    let number : s.number ≡ suc (length (threads w)) = ap (λ (y : ThreadState). y.number) (sym same) in
    let told : Has (started_by e.entry.call e.entry.reply) (suc (length (threads w)), to_thread id) =
    subst (λ c. Has (started_by c e.entry.reply) (suc (length (threads w)), to_thread id)) (sym call)
    (subst (λ r. Has (started_by (Start id body values) r) (suc (length (threads w)), to_thread id)) reply (inl refl)) in (
      subst (λ n. Has (all_started (done ++ e ∷ [])) (n, to_thread id)) (sym number) (started_last done e (suc (length (threads w)), to_thread id) told),
      λ how i. let wrong : None ≡ Some how = ap (λ (y : ThreadState). y.end) same ∙ i in absurd (cc),
    )

event_known : (slots : ℕ) (done : List Event) (z z' : Store) (e : Event) → Each (IsKnown done) z → MovesNoThread e → Steps slots z e.thread e.entry z' → Each (IsKnown (done ++ e ∷ [])) z'
event_known slots done z z' e k q s =
    let w = z ++ e.entry.moved in
    let more : Each (IsKnown (done ++ e ∷ [])) w =
    each_more (IsKnown done) (IsKnown (done ++ e ∷ [])) (known_more done (e ∷ [])) w (each_append (IsKnown done) z e.entry.moved k (moved_known done e.entry.moved q)) in
    subst (λ y. Each (IsKnown (done ++ e ∷ [])) y) (sym s.store_is) (by w more e.entry.call refl s.reply_is)
  where
    by : (w : Store) → Each (IsKnown (done ++ e ∷ [])) w → (c : Call) → e.entry.call ≡ c → e.entry.reply ≡ reply_to slots w e.thread e.entry.call
        → Each (IsKnown (done ++ e ∷ [])) (store_behind slots w e.thread c)
    by w more (On thing act) is r = act_known (done ++ e ∷ []) e.thread w thing.id (found w thing.id) act refl more
    by w more (Gather thread) is r = act_known (done ++ e ∷ []) e.thread w thread.id (found w thread.id) Join refl more
    by w more (Start id body values) is r =
        start_known (done ++ e ∷ []) w (suc (length (threads w))) id (new_thread w e.thread id) e.entry.reply (is_full slots w e.thread) (r ∙ ap (reply_to slots w e.thread) is) (new_known done e w id body values is) more
    by w more (Print bytes) is r = more
    by w more (End how) is r = ended_all (done ++ e ∷ []) e.thread how w (e, has_behind done (e ∷ []) e (inl refl), refl, is) more

-- ---- whose end is told

join_tells : (t : ℕ) (s : ThreadState) (end : Option Ending) (how : Ending) → join_reply t s end ≡ Ended how → end ≡ Some how
join_tells t s None how e = absurd (cc)
join_tells t s (Some h) how e = by (s.number == t) e
  where
    by : (b : Bool) → cond b (Failed JoinSelf) (Ended h) ≡ Ended how → Some h ≡ Some how
    by true f = absurd (cc)
    by false f = let is : h ≡ how = cc in ap Some is

thread_tells : (t : ℕ) (o : Option Thing) (how : Ending) → reply_of t o Join ≡ Ended how → (s : ThreadState) × (o ≡ Some (Thread s)) × (s.end ≡ Some how)
thread_tells t None how e = absurd (cc)
thread_tells t (Some (Thread s)) how e = (s, refl, join_tells t s s.end how e)
thread_tells t (Some (Mutex owner)) how e = absurd (cc)
thread_tells t (Some (Object class fields)) how e = absurd (cc)
thread_tells t (Some (Elements vs)) how e = absurd (cc)
thread_tells t (Some (Pairs ps)) how e = absurd (cc)

join_of : (slots : ℕ) (w : Store) (t : ℕ) (c : Call) (id : Id) (how : Ending) → IsJoin c id → reply_to slots w t c ≡ Ended how → (s : ThreadState) × (found w id ≡ Some (Thread s)) × (s.end ≡ Some how)
join_of slots w t (On r Join) id how j e = thread_tells t (found w id) how (subst (λ i. reply_of t (found w i) Join ≡ Ended how) j e)
join_of slots w t (On r act) id how j e = absurd j
join_of slots w t (Gather r) id how j e = thread_tells t (found w id) how (subst (λ i. reply_of t (found w i) Join ≡ Ended how) j e)
join_of slots w t (Start thing body values) id how j e = absurd j
join_of slots w t (Print bytes) id how j e = absurd j
join_of slots w t (End h) id how j e = absurd j

-- at the opening there are no threads
opening_known : Each (IsKnown []) opening
opening_known = (λ s e. absurd (cc), tt)

told_behind : (slots : ℕ) (front : List Event) (e : Event) (y y' : Store) (id : Id) (how : Ending) → Each (IsKnown front) y → MovesNoThread e → Steps slots y e.thread e.entry y' → IsJoin e.entry.call id → e.entry.reply ≡ Ended how
    → (n : ℕ) × Has (all_started front) (n, to_thread id) × HasEndedSo front n how
told_behind slots front e y y' id how k q s j r =
    let w = y ++ e.entry.moved in
    let known : Each (IsKnown front) w = each_append (IsKnown front) y e.entry.moved k (moved_known front e.entry.moved q) in
    let t = join_of slots w e.thread e.entry.call id how j (sym s.reply_is ∙ r) in
    let x = found_has w id (Thread t.0) t.1 in
    let p = each_has (IsKnown front) w x.0 known x.1 t.0 x.3 in
    (t.0.number, subst (λ i. Has (all_started front) (t.0.number, to_thread i)) x.2 p.0, p.1 how t.2)

pub joins_come_behind_ends : JoinsComeBehindEnds
joins_come_behind_ends slots front behind e z id how l q j r =
    let split = leads_split slots front (e ∷ behind) opening z l in
    let known : Each (IsKnown front) split.0 =
    run_keeps slots (λ done y. Each (IsKnown done) y) MovesNoThread (event_known slots) front [] opening split.0 opening_known (each_front MovesNoThread front (e ∷ behind) q) split.1 in
    told_behind slots front e split.0 split.2.0 id how known (each_has MovesNoThread (front ++ e ∷ behind) e q (has_behind front (e ∷ behind) e (inl refl))) split.2.1 j r
