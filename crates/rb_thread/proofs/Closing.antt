-- How a thread ends.
use Rattle.std.proofs.Common.{arith, ◌≡◌, ℕ, Bool, true, false, List, [], ◌∷◌, ◌++◌, length, map, Some, inl, inr, refl, sym, ap, subst, ◌∙◌, append-nil}
use Rattle.std.proofs.Common.{◌<◌}
use Rattle.std.proofs.lemmas.List.{length-map}
use Rattle.rb_model.specs.Immediates.{reference}
use Rattle.rb_model.specs.declared.value.Ref.{Ref}
use Rattle.rb_model.specs.declared.act.Reply.{Reply as Answered}
use Rattle.rb_model.specs.declared.act.Reply.TheVariants as answered
use Rattle.rb_model.specs.declared.call.Call.TheVariants as held
use Rattle.rb_model.specs.declared.call.End.{End as HeldEnd}
use Rattle.rb_model.specs.declared.call.End.TheVariants as held_end
use Rattle.rb_model.specs.Values.{Value as Val, plain}
use Rattle.rb_model.specs.Acts.{Done}
use Rattle.rb_model.specs.Doing.{said}
use Rattle.rb_model.specs.Ends.{End as Ending, Value, Raised, Steps, Full, Sink, Memory, over, told, closing}
use Rattle.rb_model.specs.Moving.{items_of, ref_of, refs_in_end, refs_in_reply}
use Rattle.rb_model.specs.Private.{Item, Private, Leaves, nothing_waits}
use Rattle.rb_model.specs.declared.moved.MovedItem.{MovedItem}
use Rattle.rb_model.specs.declared.value.Value.{Value as Held}
use Rattle.publish_barrier.specs.Leaving.{without}
use Rattle.publish_barrier.proofs.Leaving.{leaves_without}
use Rattle.rb_model.specs.Log.{Log, Entry, End, is_sure}
use Rattle.rb_model.specs.Started.{started, ungathered}
use Rattle.rb_shared.specs.declared.answer.Answer.{Answer}
use Rattle.rb_shared.specs.declared.answer.Answer.TheVariants as answer
use Rattle.rb_shared.specs.Lists.{Has}
use Rattle.rb_shared.specs.Threads.{ThreadLog}
use Rattle.rb_shared.specs.Answers.{entry_of}
use Rattle.rb_shared.specs.Asking.{may_fill}
use Rattle.rb_shared.specs.View.{View, known_logs, with_entry, with_refused}
use Rattle.rb_machine.specs.Scopes.{Script}
use Rattle.rb_machine.specs.Follows.{Comes, Tail, Follows, closes, late, full}
use Rattle.rb_thread.specs.Family.{Job, jobs, number_of, start_of, Accounted, Does, HasDone, Ran}
use Rattle.rb_thread.specs.Kins.{Kin, waits, AreCleared}
use Rattle.rb_thread.specs.Seats as seats
use Rattle.rb_thread.specs.Alive.{Sound, Closes, tells, lacks, fills, ended_view, ended_with, Ends}
use Rattle.rb_thread.proofs.Lines.{got_below, has_at, get_there}
use Rattle.rb_thread.proofs.Entries.{jobs_more, length_jobs}
use Rattle.rb_thread.proofs.Handed.{without_shapes, without_thread}
use Rattle.rb_thread.proofs.Sounding.{Covers, accounted_more, done_more}
use Rattle.rb_thread.proofs.Causes.{tail_cause, closing_cause, closed_cause}

-- ---- the last entry

-- an end that is sure needs no room and tells nothing
pub sure_ends : (e : HeldEnd) → is_sure (End (over e)) ≡ true → (may_fill (End (over e)) ≡ false) × (refs_in_end e ≡ [])
sure_ends (held_end.Value v) s = absurd (let q : false ≡ true = s in cc)
sure_ends (held_end.Raised f at) s = (refl, refl)
sure_ends held_end.Steps s = (refl, refl)
sure_ends (held_end.Full used wanted) s = (refl, refl)
sure_ends held_end.Sink s = (refl, refl)
sure_ends held_end.Memory s = (refl, refl)

-- an end that is no value is
pub sure_of : (e : HeldEnd) → ((v : Held) → e ≡ held_end.Value v → ⊥) → (is_sure (End (over e)) ≡ true) × (told (over e) ≡ [])
sure_of (held_end.Value v) never = absurd (never v refl)
sure_of (held_end.Raised f at) never = (refl, refl)
sure_of held_end.Steps never = (refl, refl)
sure_of (held_end.Full used wanted) never = (refl, refl)
sure_of held_end.Sink never = (refl, refl)
sure_of held_end.Memory never = (refl, refl)

-- what the reply to an End leaves
entered_as : (v w : View) (n : ℕ) (u : HeldEnd) (ms ms' : List MovedItem) (r : Answered) → said r ≡ Done → w ≡ with_entry v (entry_of n (held.End u) ms (said r)) (refs_in_reply r ++ map ref_of ms')
    → w ≡ ended_with n v (over u) (items_of ms) (map ref_of ms')
entered_as v w n u ms ms' answered.Done d e = e
entered_as v w n u ms ms' (answered.Value x) d e = absurd (cc)
entered_as v w n u ms ms' (answered.Elements x) d e = absurd (cc)
entered_as v w n u ms ms' (answered.Pairs x) d e = absurd (cc)
entered_as v w n u ms ms' (answered.Started m t) d e = absurd (cc)
entered_as v w n u ms ms' (answered.Ended h) d e = absurd (cc)
entered_as v w n u ms ms' (answered.Failed f) d e = absurd (cc)

-- an end that is sure is made
pub made_surely : (v w : View) (n : ℕ) (u : HeldEnd) (a : Answer) → is_sure (End (over u)) ≡ true → seats.Answered v n (held.End u) [] a [] w → w ≡ ended_view n v (over u)
made_surely v w n u (answer.Done r) s x = entered_as v w n u [] [] r x.1 x.0
made_surely v w n u (answer.Full used wanted) s x = absurd (let q : true ≡ false = sym x.1 ∙ (sure_ends u s).0 in cc)
made_surely v w n u answer.SinkFailed s x = absurd (let q : false ≡ true = x.1 in cc)
made_surely v w n u answer.Memory s x = absurd (x.1 s)

-- and so it is told
pub closes_surely : (v w : View) (n : ℕ) (h k : Private) (u : HeldEnd) (how : Ending) → told (over u) ≡ [] → k ≡ h → w ≡ ended_view n v (over u) → how ≡ over u → Closes n h (over u) v w how k
closes_surely v w n h k u how none s e q = tells [] [] q (subst (λ vs. Leaves h vs [] k) (sym none) (subst (λ o. Leaves h [] [] o) (sym s) (nothing_waits h))) e

-- there was no memory to tell a value
pub closes_before : (v w : View) (n : ℕ) (h k : Private) (x : Val) (how : Ending) → k ≡ h → w ≡ ended_view n v Memory → how ≡ Memory → Closes n h (Value x) v w how k
closes_before v w n h k x how s e q = lacks x refl q s e

-- A value is told with these things: what it mentions, as it is handed over.
module _ (v u : View) (n : ℕ) (h : Private) (refs : List Ref) (x : Val) (y : Held) (ms : List MovedItem) (a : Answer) (h' : Private) (refs' : List Ref) (same : plain y ≡ x) (leaves : Leaves h (plain y ∷ []) (items_of ms) (without h (items_of ms)))
    (hands : seats.Hands v n (held.End (held_end.Value y)) ms h refs a u h' refs') where
  leaves_with : Leaves h (x ∷ []) (items_of ms) (without h (items_of ms))
  leaves_with = subst (λ o. Leaves h (o ∷ []) (items_of ms) (without h (items_of ms))) same leaves

  abbrev AnsweredSo : Answer → Type 0
  AnsweredSo b = seats.Answered v n (held.End (held_end.Value y)) ms b hands.0 u

  abbrev LeftSo : Answer → Type 0
  LeftSo b = seats.LeavesBy b ms hands.0 h refs h' refs'

  -- it is told
  pub closes_done : (r : Answered) (how : Ending) → a ≡ answer.Done r → how ≡ Value (plain y) → Closes n h (Value x) v u how h'
  closes_done r how is q =
      let z = subst AnsweredSo is hands.1 in
      let l = subst LeftSo is hands.2 in
      tells (items_of ms) (map ref_of hands.0) (q ∙ ap Value same) (subst (Leaves h (x ∷ []) (items_of ms)) (sym l.0) leaves_with)
      (entered_as v u n (held_end.Value y) ms hands.0 r z.1 z.0 ∙ ap (λ o. ended_with n v (Value o) (items_of ms) (map ref_of hands.0)) same)

  -- the shared heap is full for it
  pub closes_full : (used wanted : ℕ) (w : View) (k : Private) (how : Ending) → a ≡ answer.Full used wanted → k ≡ h' → w ≡ ended_view n u (Full used wanted) → how ≡ Full used wanted → Closes n h (Value x) v w how k
  closes_full used wanted w k how is s e q =
      let z = subst AnsweredSo is hands.1 in
      let l = subst LeftSo is hands.2 in
      fills x used wanted (items_of ms) (without h (items_of ms)) refl q (s ∙ l.0) leaves_with
      (e ∙ ap (λ (o : View). ended_view n o (Full used wanted)) (z.0 ∙ ap (λ o. with_refused v (End (Value o)) (items_of ms) (Some (used, wanted))) same))

  -- memory is wanted for it
  pub closes_memory : (w : View) (k : Private) (how : Ending) → a ≡ answer.Memory → k ≡ h' → w ≡ ended_view n u Memory → how ≡ Memory → Closes n h (Value x) v w how k
  closes_memory w k how is s e q =
      let z = subst AnsweredSo is hands.1 in
      let l = subst LeftSo is hands.2 in
      lacks x refl q (s ∙ l.0) (e ∙ ap (λ (o : View). ended_view n o Memory) z.0)

-- what is left is of the same thread, and has had the same shapes
pub closed_store : (n : ℕ) (h : Private) (e : Ending) (v w : View) (how : Ending) (k : Private) → Closes n h e v w how k → (k.thread ≡ h.thread) × (k.shapes ≡ h.shapes)
closed_store n h e v w how k (tells moved refs i g q) =
    let is = leaves_without g in
    (ap (λ (o : Private). o.thread) is ∙ without_thread h moved, ap (λ (o : Private). o.shapes) is ∙ without_shapes h moved)
closed_store n h e v w how k (lacks x is i s q) = (ap (λ (o : Private). o.thread) s, ap (λ (o : Private). o.shapes) s)
closed_store n h e v w how k (fills x used wanted moved left is i s g q) = (ap (λ (o : Private). o.thread) s, ap (λ (o : Private). o.shapes) s)

-- ---- what the thread has done

closing_value : (e : Ending) (b : Bool) (x : Val) → closing e b ≡ Value x → (b ≡ false) × (e ≡ Value x)
closing_value e false x q = (refl, q)
closing_value (Value y) true x q = absurd (let c : Memory ≡ Value x = q in cc)
closing_value (Raised f at) true x q = absurd (let c : Memory ≡ Value x = q in cc)
closing_value Steps true x q = absurd (let c : Steps ≡ Value x = q in cc)
closing_value (Full used wanted) true x q = absurd (let c : Full used wanted ≡ Value x = q in cc)
closing_value Sink true x q = absurd (let c : Sink ≡ Value x = q in cc)
closing_value Memory true x q = absurd (let c : Memory ≡ Value x = q in cc)

follows_by : (S : Script) (N : ℕ) (j : Job) (l : Log) (v w : View) (n : ℕ) (h : Private) (own e how : Ending) (b : Bool) (k : Private) → Comes S N (start_of S N j) l h own n → Tail n l own (ungathered l) v.log e b
    → Closes n h (closing e b) v w how k → Follows S N (start_of S N j) w.log how k
follows_by S N j l v w n h own e how b k c t (tells moved refs i g q) =
    subst (λ o. Follows S N (start_of S N j) w.log o k) (sym i)
    (subst (λ (o : View). Follows S N (start_of S N j) o.log (closing e b) k) (sym q) (closes l v.log h k own e n b moved c t g))
follows_by S N j l v w n h own e how b k c t (lacks x is i s q) =
    let z = closing_value e b x is in
    let t' = subst (λ o. Tail n l own (ungathered l) v.log (Value x) o) z.0 (subst (λ o. Tail n l own (ungathered l) v.log o b) z.1 t) in
    subst (Follows S N (start_of S N j) w.log how) (sym s)
    (subst (λ o. Follows S N (start_of S N j) w.log o h) (sym i) (subst (λ (o : View). Follows S N (start_of S N j) o.log Memory h) (sym q) (late l v.log h own x n c t')))
follows_by S N j l v w n h own e how b k c t (fills x used wanted moved left is i s g q) =
    let z = closing_value e b x is in
    let t' = subst (λ o. Tail n l own (ungathered l) v.log (Value x) o) z.0 (subst (λ o. Tail n l own (ungathered l) v.log o b) z.1 t) in
    subst (Follows S N (start_of S N j) w.log how) (sym s) (subst (λ o. Follows S N (start_of S N j) w.log o h) (sym i)
    (subst (λ (o : View). Follows S N (start_of S N j) o.log (Full used wanted) h) (sym q) (full l v.log h left own x n used wanted moved c t' g)))

-- the view behind the last entry is such a view
closed_as : (v w : View) (n : ℕ) (h : Private) (e how : Ending) (k : Private) → Closes n h e v w how k
    → (w.thread ≡ v.thread) × (w.ended ≡ true) × (w.told ≡ v.told) × (jobs w.log.entries ≡ jobs v.log.entries)
closed_as v w n h e how k c = by c where
  view : (o : View) (f : Ending) (moved : List Item) (refs : List Ref) → w ≡ ended_with n o f moved refs → o.thread ≡ v.thread → o.told ≡ v.told → o.log.entries ≡ v.log.entries
      → (w.thread ≡ v.thread) × (w.ended ≡ true) × (w.told ≡ v.told) × (jobs w.log.entries ≡ jobs v.log.entries)
  view o f moved refs q th to lg =
      let d : Entry = record { step = n; call = End f; moved = moved; reply = Done } in
      let l : w.log.entries ≡ v.log.entries ++ d ∷ [] = ap (λ (y : View). y.log.entries) q ∙ ap (λ es. es ++ d ∷ []) lg in (
        ap (λ (y : View). y.thread) q ∙ th,
        ap (λ (y : View). y.ended) q,
        ap (λ (y : View). y.told) q ∙ to,
        ap jobs l ∙ (jobs_more v.log.entries d ∙ append-nil (jobs v.log.entries)),
      )

  by : Closes n h e v w how k → (w.thread ≡ v.thread) × (w.ended ≡ true) × (w.told ≡ v.told) × (jobs w.log.entries ≡ jobs v.log.entries)
  by (tells moved refs i g q) = view v e moved refs q refl refl refl
  by (lacks x is i s q) = view v Memory [] [] q refl refl refl
  by (fills x used wanted moved left is i s g q) = view (with_refused v (End (Value x)) moved (Some (used, wanted))) (Full used wanted) [] [] q refl refl refl

all_done : {Q : Type 0} (S : Script) (N : ℕ) (j : Job) (v : View) (ks : List (Kin Q)) → Sound S N j v ks → AreCleared (length ks) ks → (k : Job) → Has (jobs v.log.entries) k → HasDone S N v.told k
all_done S N j v ks s c k h =
    let at = has_at (jobs v.log.entries) k h in
    let many : length ks ≡ length (started v.log.entries) = sym (length-map ks (λ x. (x.number, reference x.thing))) ∙ ap length s.named in
    let near : at.0 < length ks = (let b = got_below (jobs v.log.entries) at.0 k at.1 in omega (arith, b, many, length_jobs v.log.entries)) in
    let x = get_there ks at.0 near in
    s.settled at.0 x.0 k x.1 at.1 (c at.0 x.0 near x.1)

ran_by : {Q : Type 0} (S : Script) (N : ℕ) (j : Job) (v w : View) (ks : List (Kin Q)) → Sound S N j v ks → AreCleared (length ks) ks
    → w.thread ≡ v.thread → w.ended ≡ true → w.told ≡ v.told → jobs w.log.entries ≡ jobs v.log.entries → Does S N j w.log → Ran S N j w
ran_by S N j v w ks s c th en to jb does =
    let up : Covers (known_logs v) (known_logs w) = λ t h q. elim h [
      | inl e ↦ absurd (let f : true ≡ false = sym q ∙ (ap (λ (x : ThreadLog). x.ended) e ∙ s.going) in cc)
      | inr i ↦ inr (subst (λ x. Has x t) (sym to) i)
    ] in
    let told : Covers v.told (known_logs w) = λ t h q. inr (subst (λ x. Has x t) (sym to) h) in
    record {
      thread_is = th ∙ s.thread_is;
      ended = en;
      does = does;
      accounted = λ t h q. elim h [
        | inl e ↦ subst (λ (y : ThreadLog). Accounted S N (known_logs w) y) (sym e) (λ k n. done_more S N v.told (known_logs w) k told (all_done S N j v ks s c k (subst (λ js. Has js k) jb n)))
        | inr i ↦ accounted_more S N (known_logs v) (known_logs w) t up (s.accounted t (inr (subst (λ x. Has x t) to i)) q)
      ];
    }

-- the whole end, from what the thread had when it came to its own
pub ends_by : {Q : Type 0} (S : Script) (N : ℕ) (j : Job) (u v w : View) (ks ls : List (Kin Q)) (n : ℕ) (h : Private) (own e how : Ending) (b : Bool) (k : Private) → h.thread ≡ number_of j
    → Sound S N j u ks → Tail n u.log own (waits ks) v.log e b → Sound S N j v ls → AreCleared (length ls) ls → Closes n h (closing e b) v w how k → Ends S N j u.log h n own w how
ends_by S N j u v w ks ls n h own e how b k mine before tail s c cl comes cause =
    let t = subst (λ rs. Tail n u.log own rs v.log e b) before.waiting tail in
    let f = follows_by S N j u.log v w n h own e how b k comes t cl in
    let z = closed_as v w n h (closing e b) how k cl in
    let o = closed_store n h (closing e b) v w how k cl in
    let last = closed_cause n h (closing e b) v w how k cl (closing_cause v.log e b (tail_cause n u.log v.log own e (ungathered u.log) b t cause)) in
    record {
      store = k;
      follows = f;
      whose = o.0 ∙ mine;
      shaped = o.1;
      ran = ran_by S N j v w ls s c z.0 z.1 z.2 z.3 (record { how = how; store = k; follows = f; whose = o.0 ∙ mine; cause = last });
    }
