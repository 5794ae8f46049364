-- What the tests ask may be asked.
use Rattle.std.proofs.Common.{◌≡◌, ◌⊎◌, ℕ, true, false, List, [], ◌∷◌, ◌++◌, map, Vec, Global, Option, Some, None, is_some, IsSome, IfSome, refl, append-nil, sym, ap, ◌∙◌, subst, inl, inr, true≢false}
use Rattle.std.specs.Option.{ForSome}
use Rattle.rb_model.specs.declared.act.Act.TheVariants as act
use Rattle.rb_model.specs.declared.act.Reply.{Reply}
use Rattle.rb_model.specs.declared.call.Call.{Call as Held}
use Rattle.rb_model.specs.declared.call.Call.TheVariants as held
use Rattle.rb_model.specs.declared.call.End.{End as Ending}
use Rattle.rb_model.specs.declared.call.End.TheVariants as end
use Rattle.rb_model.specs.declared.moved.MovedItem.{MovedItem}
use Rattle.rb_model.specs.declared.value.Id.{Id}
use Rattle.rb_model.specs.declared.value.Ref.{Ref}
use Rattle.rb_model.specs.declared.value.Value.{Value}
use Rattle.rb_model.specs.Acts.{GetField, SetField, Join, Reply as Said}
use Rattle.rb_model.specs.Acts as reply
use Rattle.rb_model.specs.Doing.{said}
use Rattle.rb_model.specs.Ends as ending
use Rattle.rb_model.specs.Log.{Entry, Call, On, Start, Gather, Print, End, asked, is_end, is_print, is_sure}
use Rattle.rb_model.specs.Moving.{receiver, ref_of, refs_in, refs_in_all, refs_in_reply}
use Rattle.rb_model.specs.Started.{thread_id, started, started_by}
use Rattle.rb_model.specs.Values.{Reference, Value as Plain, plain as plain_value}
use Rattle.rb_shared.specs.declared.answer.Answer.{Answer}
use Rattle.rb_shared.specs.declared.answer.Answer.TheVariants as answer
use Rattle.rb_shared.specs.declared.answer.Quick.{Quick}
use Rattle.rb_shared.specs.declared.answer.Quick.TheVariants as quick
use Rattle.rb_shared.specs.Answers.{AnswersIn, QuickIn, entry_of}
use Rattle.rb_shared.specs.Asking.{Knows, NamesOne, ReceivesAct, GathersOwn, HasNextId, HasJoined, MayAsk, may_fill}
use Rattle.rb_shared.specs.Lists.{Has, Each}
use Rattle.rb_shared.specs.Replies.{Serves}
use Rattle.rb_shared.specs.Threads.{ThreadLog, HasEnded, AllGathered}
use Rattle.rb_shared.specs.View.{View, polled_view, asking, ask_of, unasked, with_entry, with_refused, started_number, own_log, known_logs, first_view, split_view, newborn, joined_view, to_globals}
use Rattle.rb_shared.proofs.Runs.{has_front}
use Rattle.turn_store.specs.Calls.{started_in}
use Rattle.sharing_trials.specs.Turns.{IsReady, IsPlain, Leaves, IsAsBefore, StillKnows}
use Rattle.shared_run.proofs.Events.{started_more}

-- ---- what may be asked

same_ref : (a b : Ref) → Some a ≡ Some b → a ≡ b
same_ref a b e = cc

nothing_named : (v : View) (refs : List Ref) → refs ≡ [] → Each (λ r. Knows v r ⊎ NamesOne [] r) (refs ++ [])
nothing_named v refs e = subst (λ l. Each (λ r. Knows v r ⊎ NamesOne [] r) (l ++ [])) (sym e) tt

pub plain_may : (v : View) (c : Held) → IsReady v → IsPlain c → MayAsk v c []
plain_may v (held.On r (act.GetField name)) ready plain = record {
  receives = λ x e. (subst (Has v.known) (sym plain ∙ same_ref r x e) ready.1, tt_of x (same_ref r x e));
  known = tt;
  own = tt;
  once = tt;
  first = tt;
  things = tt;
  bare = λ e. refl;
  gathers = tt;
  next = tt;
  joined = tt;
}
  where
    tt_of : (x : Ref) → r ≡ x → Serves x.sort (GetField name)
    tt_of x e = subst (λ y. Serves y.sort (GetField name)) (sym plain ∙ e) tt
plain_may v (held.On r (act.SetField name w)) ready plain = record {
  receives = λ x e. (subst (Has v.known) (sym plain.0 ∙ same_ref r x e) ready.1, tt_of x (same_ref r x e));
  known = nothing_named v (refs_in w) plain.1;
  own = tt;
  once = tt;
  first = tt;
  things = tt;
  bare = λ e. refl;
  gathers = tt;
  next = tt;
  joined = tt;
}
  where
    tt_of : (x : Ref) → r ≡ x → Serves x.sort (SetField name (plain_value w))
    tt_of x e = subst (λ y. Serves y.sort (SetField name (plain_value w))) (sym plain.0 ∙ e) tt
plain_may v (held.Print bytes) ready plain = record { receives = λ x e. absurd (let h : None ≡ Some x = e in cc); known = tt; own = tt; once = tt; first = tt; things = tt; bare = λ e. refl; gathers = tt; next = tt; joined = tt }
plain_may v (held.On r a) ready plain = absurd plain
plain_may v (held.Start id body values) ready plain = absurd plain
plain_may v (held.Gather r) ready plain = absurd plain
plain_may v (held.End how) ready plain = absurd plain

pub end_may : (v : View) → MayAsk v (held.End end.Steps) []
end_may v = record { receives = λ x e. absurd (let h : None ≡ Some x = e in cc); known = tt; own = tt; once = tt; first = tt; things = tt; bare = λ e. refl; gathers = tt; next = tt; joined = tt }

pub start_may : (v : View) (c : Held) (slots : ℕ) (id : Id) (body : ℕ) (values : Vec Value Global) → c ≡ held.Start id body values → values.items ≡ [] → v ≡ first_view slots
    → id ≡ thread_id 0 0 → MayAsk v c []
start_may v c slots id body values is empty first next = subst (λ d. MayAsk v d []) (sym is) (subst (λ u. MayAsk u (held.Start id body values) []) (sym first) record {
  receives = λ x e. absurd (let h : None ≡ Some x = e in cc);
  known = nothing_named (first_view slots) (refs_in_all values.items) (ap refs_in_all empty);
  own = tt;
  once = tt;
  first = tt;
  things = tt;
  bare = λ e. refl;
  gathers = tt;
  next = next;
  joined = tt;
})

-- a poll changes nothing that a call looks at
pub polled_may : (v w : View) (c : Held) → w ≡ polled_view v → MayAsk v c [] → MayAsk w c []
polled_may v w c same may = subst (λ u. MayAsk u c []) (sym same) record {
  receives = receives_as (asked c) may.receives;
  known = may.known;
  own = may.own;
  once = may.once;
  first = may.first;
  things = may.things;
  bare = may.bare;
  gathers = gathers_as (asked c) may.gathers;
  next = next_as (asked c) may.next;
  joined = joined_as (asked c) may.joined;
}
  where
    gathers_as : (d : Call) → GathersOwn v d → GathersOwn (polled_view v) d
    gathers_as (Gather r) n = n
    gathers_as (Start id body values) n = tt
    gathers_as (On r a) n = tt
    gathers_as (Print bytes) n = tt
    gathers_as (End how) n = tt

    next_as : (d : Call) → HasNextId v d → HasNextId (polled_view v) d
    next_as (Start id body values) n = n
    next_as (On r a) n = tt
    next_as (Gather r) n = tt
    next_as (Print bytes) n = tt
    next_as (End how) n = tt

    joined_as : (d : Call) → HasJoined v d → HasJoined (polled_view v) d
    joined_as (On r Join) j = j
    joined_as (On r a) j = tt
    joined_as (Gather r) j = j
    joined_as (Start id body values) j = tt
    joined_as (Print bytes) j = tt
    joined_as (End how) j = tt

    receives_as : (d : Call) → ForSome (receiver c) (λ r. ReceivesAct v r d) → ForSome (receiver c) (λ r. ReceivesAct (polled_view v) r d)
    receives_as (On r a) f x e = f x e
    receives_as (Gather r) f x e = f x e
    receives_as (Start id body values) f x e = tt
    receives_as (Print bytes) f x e = tt
    receives_as (End how) f x e = tt

-- the same where the call was noted
pub noted_may : (v w : View) (c : Held) (step : ℕ) → w ≡ asking v (ask_of step (asked c)) → MayAsk v c [] → MayAsk w c []
noted_may v w c step same may = subst (λ u. MayAsk u c []) (sym same) record {
  receives = receives_as (asked c) may.receives;
  known = may.known;
  own = may.own;
  once = may.once;
  first = may.first;
  things = may.things;
  bare = may.bare;
  gathers = gathers_as (asked c) may.gathers;
  next = next_as (asked c) may.next;
  joined = joined_as (asked c) may.joined;
}
  where
    now : View
    now = asking v (ask_of step (asked c))

    gathers_as : (d : Call) → GathersOwn v d → GathersOwn (asking v (ask_of step (asked c))) d
    gathers_as (Gather r) n = n
    gathers_as (Start id body values) n = tt
    gathers_as (On r a) n = tt
    gathers_as (Print bytes) n = tt
    gathers_as (End how) n = tt

    next_as : (d : Call) → HasNextId v d → HasNextId (asking v (ask_of step (asked c))) d
    next_as (Start id body values) n = n
    next_as (On r a) n = tt
    next_as (Gather r) n = tt
    next_as (Print bytes) n = tt
    next_as (End how) n = tt

    joined_as : (d : Call) → HasJoined v d → HasJoined (asking v (ask_of step (asked c))) d
    joined_as (On r Join) j = j
    joined_as (On r a) j = tt
    joined_as (Gather r) j = j
    joined_as (Start id body values) j = tt
    joined_as (Print bytes) j = tt
    joined_as (End how) j = tt

    receives_as : (d : Call) → ForSome (receiver c) (λ r. ReceivesAct v r d) → ForSome (receiver c) (λ r. ReceivesAct (asking v (ask_of step (asked c))) r d)
    receives_as (On r a) f x e = f x e
    receives_as (Gather r) f x e = f x e
    receives_as (Start id body values) f x e = tt
    receives_as (Print bytes) f x e = tt
    receives_as (End how) f x e = tt

-- ---- what is left

pub as_on : (v u w : View) → IsAsBefore v u → IsAsBefore u w → IsAsBefore v w
as_on v u w a b = (b.0 ∙ a.0, b.1 ∙ a.1, b.2 ∙ a.2)

-- a view that is another, with the same thread, the same told logs and the same log
same_as : (v u w : View) → w ≡ u → IsAsBefore v u → IsAsBefore v w
same_as v u w same a = subst (IsAsBefore v) (sym same) a

still : (v u w : View) → w ≡ u → StillKnows v u → StillKnows v w
still v u w same k = subst (StillKnows v) (sym same) k

sure_fills : (d : Call) → is_sure d ≡ true → may_fill d ≡ true → ⊥
sure_fills (On r a) s f = true≢false (sym s)
sure_fills (Start id body values) s f = true≢false (sym s)
sure_fills (Gather r) s f = true≢false (sym s)
sure_fills (Print bytes) s f = true≢false (sym s)
sure_fills (End (ending.Value x)) s f = true≢false (sym s)
sure_fills (End (ending.Raised x y)) s f = true≢false (sym f)
sure_fills (End ending.Steps) s f = true≢false (sym f)
sure_fills (End (ending.Full x y)) s f = true≢false (sym f)
sure_fills (End ending.Sink) s f = true≢false (sym f)
sure_fills (End ending.Memory) s f = true≢false (sym f)

sure_prints : (d : Call) → is_sure d ≡ true → is_print d ≡ true → ⊥
sure_prints (On r a) s f = true≢false (sym s)
sure_prints (Start id body values) s f = true≢false (sym s)
sure_prints (Gather r) s f = true≢false (sym s)
sure_prints (Print bytes) s f = true≢false (sym s)
sure_prints (End how) s f = true≢false (sym f)

-- what an entry leaves
entry_leaves : (v w : View) (c : Held) (r : Reply) (e : Entry) (refs : List Ref) → w ≡ with_entry v e refs → e.call ≡ asked c → e.reply ≡ said r → Leaves v c (answer.Done r) w
entry_leaves v w c r e refs same call reply = (
  ap (λ (x : View). x.ended) same ∙ ap is_end call,
  ap (λ (x : View). x.unsplit) same ∙ ap started_number reply,
  still v (with_entry v e refs) w same (λ x k. has_front v.known refs x k),
  ap (λ (x : View). x.thread) same,
  ap (λ (x : View). x.told) same,
  ap (λ (x : View). started x.log.entries) same ∙ (started_more v.log.entries e ∙ (λ i. started v.log.entries ++ started_by (call i) (reply i))),
)

-- what was polled or noted before leaves the same
pub leaves_from : (v u : View) (c : Held) (a : Answer) (w : View) → u.ended ≡ v.ended → u.known ≡ v.known → IsAsBefore v u → Leaves u c a w → Leaves v c a w
leaves_from v u c (answer.Done r) w e k b l =
    (l.0, l.1, (λ x h. l.2 x (subst (λ ks. Has ks x) (sym k) h)), l.3 ∙ b.0, l.4 ∙ b.1, l.5 ∙ ap (λ s. s ++ started_by (asked c) (said r)) b.2)
leaves_from v u c (answer.Full used wanted) w e k b l = (l.0 ∙ e, (λ x h. l.1 x (subst (λ ks. Has ks x) (sym k) h)), l.2, as_on v u w b l.3)
leaves_from v u c answer.SinkFailed w e k b l = (l.0 ∙ e, (λ x h. l.1 x (subst (λ ks. Has ks x) (sym k) h)), l.2, as_on v u w b l.3)
leaves_from v u c answer.Memory w e k b l = (l.0 ∙ e, (λ x h. l.1 x (subst (λ ks. Has ks x) (sym k) h)), l.2, as_on v u w b l.3)

module _ (O : ℕ → ℕ → Type 0) where
  pub answer_leaves : (v : View) (step : ℕ) (c : Held) (a : Answer) (ms' : List MovedItem) (w : View) → AnswersIn O v step c [] a ms' w → Leaves v c a w
  answer_leaves v step c (answer.Done r) ms' w h = entry_leaves v w c r (entry_of step c [] (said r)) (refs_in_reply r ++ map ref_of ms') h.0 refl refl
  answer_leaves v step c (answer.Full used wanted) ms' w h =
      (ap (λ (x : View). x.ended) h.0, still v (with_refused v (asked c) [] (Some (used, wanted))) w h.0 (λ x k. k), (λ s. sure_fills (asked c) s h.3), same_as v (with_refused v (asked c) [] (Some (used, wanted))) w h.0 (refl, refl, refl))
  answer_leaves v step c answer.SinkFailed ms' w h =
      (ap (λ (x : View). x.ended) h.0, still v (with_refused v (asked c) [] None) w h.0 (λ x k. k), (λ s. sure_prints (asked c) s h.2), same_as v (with_refused v (asked c) [] None) w h.0 (refl, refl, refl))
  answer_leaves v step c answer.Memory ms' w h = (ap (λ (x : View). x.ended) h.0, still v (unasked v) w h.0 (λ x k. k), h.2, same_as v (unasked v) w h.0 (refl, refl, refl))

-- a call that is no end leaves the pass ready
pub still_ready : (v : View) (c : Held) (a : Answer) (w : View) → is_end (asked c) ≡ false → IsReady v → Leaves v c a w → IsReady w
still_ready v c (answer.Done r) w goes ready l = (l.0 ∙ goes, l.2 to_globals ready.1)
still_ready v c (answer.Full used wanted) w goes ready l = (l.0 ∙ ready.0, l.1 to_globals ready.1)
still_ready v c answer.SinkFailed w goes ready l = (l.0 ∙ ready.0, l.1 to_globals ready.1)
still_ready v c answer.Memory w goes ready l = (l.0 ∙ ready.0, l.1 to_globals ready.1)

pub plain_goes : (c : Held) → IsPlain c → is_end (asked c) ≡ false
plain_goes (held.On r a) plain = refl
plain_goes (held.Print bytes) plain = refl
plain_goes (held.Start id body values) plain = refl
plain_goes (held.Gather r) plain = refl
plain_goes (held.End how) plain = absurd plain

-- an end that is sure is done
pub sure_ends : (v : View) (c : Held) (a : Answer) (w : View) → is_sure (asked c) ≡ true → is_end (asked c) ≡ true → Leaves v c a w → w.ended ≡ true
sure_ends v c (answer.Done r) w sure ends l = l.0 ∙ ends
sure_ends v c (answer.Full used wanted) w sure ends l = absurd (l.2 sure)
sure_ends v c answer.SinkFailed w sure ends l = absurd (l.2 sure)
sure_ends v c answer.Memory w sure ends l = absurd (l.2 sure)

-- ---- a call at once, or else one that may wait

pub polled_as : (v u : View) → u ≡ polled_view v → IsAsBefore v u
polled_as v u same = same_as v (polled_view v) u same (refl, refl, refl)

pub noted_as : (v u w : View) (step : ℕ) (c : Held) → u ≡ polled_view v → w ≡ asking u (ask_of step (asked c)) → IsAsBefore v w
noted_as v u w step c same noted = as_on v u w (polled_as v u same) (same_as u (asking u (ask_of step (asked c))) w noted (refl, refl, refl))

pub quick_leaves : (v u w : View) (step : ℕ) (c : Held) (r : Reply) → u ≡ polled_view v → QuickIn u step c (quick.Done r) w → Leaves v c (answer.Done r) w
quick_leaves v u w step c r same h = leaves_from v u c (answer.Done r) w (ap (λ (x : View). x.ended) same) (ap (λ (x : View). x.known) same) (polled_as v u same)
    (entry_leaves u w c r (entry_of step c [] (said r)) (refs_in_reply r) h.0 refl refl)

pub quick_noted : (u w : View) (step : ℕ) (c : Held) (q : Quick) → ((r : Reply) → q ≡ quick.Done r → ⊥) → QuickIn u step c q w → w ≡ asking u (ask_of step (asked c))
quick_noted u w step c (quick.Done r) never h = absurd (never r refl)
quick_noted u w step c quick.Again never h = h
quick_noted u w step c quick.NotQuick never h = h

-- ---- a thread that was started

pub started_ready : (v : View) (c : Held) (a : Answer) (w : View) → is_end (asked c) ≡ false → IsReady v → Leaves v c a w → is_some (started_in a) ≡ true → IsReady w × IsSome w.unsplit
started_ready v c (answer.Done r) w goes ready l is = ((l.0 ∙ goes, l.2 to_globals ready.1), ap is_some l.1 ∙ is)
started_ready v c (answer.Full used wanted) w goes ready l is = absurd (cc)
started_ready v c answer.SinkFailed w goes ready l is = absurd (cc)
started_ready v c answer.Memory w goes ready l is = absurd (cc)

pub maker_ready : (v w : View) → w ≡ split_view v → IsReady v → IsReady w
maker_ready v w same ready = subst IsReady (sym same) (ready.0, ready.1)

pub newborn_ready : (v u : View) → IsSome v.unsplit → IfSome v.unsplit (λ n. u ≡ newborn v n) → IsReady v → IsReady u
newborn_ready v u some made ready = by_some v.unsplit some made
  where
    by_some : (o : Option ℕ) → IsSome o → IfSome o (λ n. u ≡ newborn v n) → IsReady u
    by_some (Some n) s m = subst IsReady (sym m) (refl, ready.1)
    by_some None s m = absurd (true≢false (sym s))

pub joined_ready : (v u w : View) → w ≡ joined_view v u → IsReady v → IsReady w
joined_ready v u w same ready = subst IsReady (sym same) (ready.0, has_front v.known u.known to_globals ready.1)

pub first_ready : (v : View) → ((n : ℕ) × (v ≡ first_view n)) → IsReady v
first_ready v f = subst IsReady (sym f.1) (refl, inl refl)

-- ---- what is started

-- a call that starts nothing
pub starts_none : (v : View) (c : Held) (a : Answer) (w : View) → ((r : Reply) → started_by (asked c) (said r) ≡ []) → Leaves v c a w → IsAsBefore v w
starts_none v c (answer.Done r) w nothing l = (l.3, l.4, l.5 ∙ (ap (λ s. started v.log.entries ++ s) (nothing r) ∙ append-nil (started v.log.entries)))
starts_none v c (answer.Full used wanted) w nothing l = l.3
starts_none v c answer.SinkFailed w nothing l = l.3
starts_none v c answer.Memory w nothing l = l.3

pub plain_starts : (c : Held) → IsPlain c → (r : Reply) → started_by (asked c) (said r) ≡ []
plain_starts (held.On x a) plain r = refl
plain_starts (held.Print bytes) plain r = refl
plain_starts (held.Start id body values) plain r = absurd plain
plain_starts (held.Gather x) plain r = refl
plain_starts (held.End how) plain r = refl

pub end_starts : (e : Ending) (r : Reply) → started_by (asked (held.End e)) (said r) ≡ []
end_starts e r = refl

-- ---- all threads are gathered

-- the one thread that was started has this number
one_started : (id : Id) (body : ℕ) (values : List Plain) (r : Said) (n m : ℕ) (thread : Reference) → started_number r ≡ Some n → Has (started_by (Start id body values) r) (m, thread) → m ≡ n
one_started id body values (reply.Started k th) n m thread is (inl e) = let number : k ≡ n = cc in ap (λ (p : ℕ × Reference). p.0) e ∙ number
one_started id body values (reply.Started k th) n m thread is (inr e) = absurd e
one_started id body values (reply.Value v) n m thread is h = absurd h
one_started id body values (reply.Elements vs) n m thread is h = absurd h
one_started id body values (reply.Pairs ps) n m thread is h = absurd h
one_started id body values reply.Done n m thread is h = absurd h
one_started id body values (reply.Ended how) n m thread is h = absurd h
one_started id body values (reply.Failed f) n m thread is h = absurd h

-- a main thread that started one thread, which has ended, and took its pass in
gathers_one : (f s theirs : View) (id : Id) (body : ℕ) (values : List Plain) (r : Said) (n : ℕ) → f.told ≡ own_log theirs ∷ own_log s ∷ [] → started f.log.entries ≡ started_by (Start id body values) r
    → started_number r ≡ Some n → theirs.thread ≡ n → theirs.ended ≡ true → started theirs.log.entries ≡ [] → s.ended ≡ false → AllGathered (known_logs f)
gathers_one f s theirs id body values r n told mine number is ended nothing going t h over m thread st = by_log (subst (λ ts. Has (own_log f ∷ ts) t) told h)
  where
    found : HasEnded (known_logs f) n
    found = subst (λ ts. HasEnded (own_log f ∷ ts) n) (sym told) (own_log theirs, inr (inl refl), is, ended)

    by_log : Has (own_log f ∷ own_log theirs ∷ own_log s ∷ []) t → HasEnded (known_logs f) m
    by_log (inl e) =
        let here : Has (started_by (Start id body values) r) (m, thread) = subst (λ l. Has l (m, thread)) (ap (λ (x : ThreadLog). started x.log.entries) e ∙ mine) st in
        subst (HasEnded (known_logs f)) (sym (one_started id body values r n m thread number here)) found
    by_log (inr (inl e)) = absurd (subst (λ l. Has l (m, thread)) (ap (λ (x : ThreadLog). started x.log.entries) e ∙ nothing) st)
    by_log (inr (inr (inl e))) = absurd (true≢false (sym over ∙ (ap (λ (x : ThreadLog). x.ended) e ∙ going)))
    by_log (inr (inr (inr e))) = absurd e

-- the whole of it: the main thread starts one, both work, the main one takes the other's pass in, works on, and ends
pub turns_gather : (v s mk mine born theirs j f : View) (c : Held) (a : Answer) (slots : ℕ) (id : Id) (body : ℕ) (values : Vec Value Global) → c ≡ held.Start id body values → v ≡ first_view slots → Leaves v c a s
    → is_some (started_in a) ≡ true → mk ≡ split_view s → IsAsBefore mk mine → IfSome s.unsplit (λ n. born ≡ newborn s n) → IsAsBefore born theirs → theirs.ended ≡ true → j ≡ joined_view mine theirs → IsAsBefore j f
    → (f.thread ≡ 0) × AllGathered (known_logs f)
turns_gather v s mk mine born theirs j f c (answer.Full used wanted) slots id body values call first l is split as1 made as2 over join as3 = absurd (cc)
turns_gather v s mk mine born theirs j f c answer.SinkFailed slots id body values call first l is split as1 made as2 over join as3 = absurd (cc)
turns_gather v s mk mine born theirs j f c answer.Memory slots id body values call first l is split as1 made as2 over join as3 = absurd (cc)
turns_gather v s mk mine born theirs j f c (answer.Done r) slots id body values call first l is split as1 made as2 over join as3 = by_number s.unsplit refl made
  where
    thread_of : f.thread ≡ 0
    thread_of = as3.0 ∙ (ap (λ (x : View). x.thread) join ∙ (as1.0 ∙ (ap (λ (x : View). x.thread) split ∙ (l.3 ∙ ap (λ (x : View). x.thread) first))))

    s_told : s.told ≡ []
    s_told = l.4 ∙ ap (λ (x : View). x.told) first

    s_started : started s.log.entries ≡ started_by (asked c) (said r)
    s_started = l.5 ∙ ap (λ (x : View). started x.log.entries ++ started_by (asked c) (said r)) first

    mine_told : mine.told ≡ []
    mine_told = as1.1 ∙ (ap (λ (x : View). x.told) split ∙ s_told)

    f_started : started f.log.entries ≡ started_by (Start id body (map plain_value values.items)) (said r)
    f_started = as3.2 ∙ (ap (λ (x : View). started x.log.entries) join ∙ (as1.2 ∙ (ap (λ (x : View). started x.log.entries) split ∙ (s_started ∙ ap (λ d. started_by (asked d) (said r)) call))))

    s_going : s.ended ≡ false
    s_going = l.0 ∙ ap (λ d. is_end (asked d)) call

    by_number : (o : Option ℕ) → s.unsplit ≡ o → IfSome o (λ n. born ≡ newborn s n) → (f.thread ≡ 0) × AllGathered (known_logs f)
    by_number None un m = absurd (true≢false (sym is ∙ ap is_some (sym l.1 ∙ un)))
    by_number (Some n) un m =
        let theirs_told : theirs.told ≡ own_log s ∷ [] = as2.1 ∙ (ap (λ (x : View). x.told) m ∙ ap (λ ts. own_log s ∷ ts) s_told) in
        let told : f.told ≡ own_log theirs ∷ own_log s ∷ [] =
        as3.1 ∙ (ap (λ (x : View). x.told) join ∙ (ap (λ ts. ts ++ known_logs theirs) mine_told ∙ ap (λ ts. own_log theirs ∷ ts) theirs_told)) in (
          thread_of,
          gathers_one f s theirs id body (map plain_value values.items) (said r) n told f_started (sym l.1 ∙ un) (as2.0 ∙ ap (λ (x : View). x.thread) m) over
              (as2.2 ∙ ap (λ (x : View). started x.log.entries) m) s_going,
        )
