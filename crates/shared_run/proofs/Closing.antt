-- Once all threads have ended, the pass of the main thread knows every log whole, and the history of the run is legal.
use Rattle.std.proofs.Common.{◌≡◌, ◌<◌, ◌+◌, ◌⊎◌, ◌||◌, ℕ, zero, suc, Bool, true, false, not, cond, List, [], ◌∷◌, ◌++◌, length, slice_get, Some, refl, sym, ap, ◌∙◌, subst, inl, arith, append-nil, append_assoc, true≢false}
use Rattle.std.specs.List.{flat_map}
use Rattle.rb_edge.specs.Edge.{Adds}
use Rattle.rb_model.specs.Log.{Call, On, Start, Gather, Print, End, Entry, Refusal, Log, has_end, printed}
use Rattle.rb_model.specs.Started.{started}
use Rattle.rb_shared.specs.Closing.{Shows, IsFront, refusals_of}
use Rattle.rb_shared.specs.History.{Event, Placed, History, IsLegal, IsBegun, EndsOnce, by, is_event, is_read, moves_none, prints}
use Rattle.rb_shared.specs.Lists.{Has, Each}
use Rattle.rb_shared.specs.Placing.{events_in, placed_log, placed_logs, history_of}
use Rattle.rb_shared.specs.Threads.{ThreadLog, HasEnded, AllGathered}
use Rattle.rb_shared.specs.View.{View, known_logs}
use Rattle.rb_shared.proofs.Placed.{one_order_is_legal}
use Rattle.rb_shared.proofs.Runs.{each_append, each_has}
use Rattle.shared_run.specs.Run.{Run, Sunk, IsRun, IsThread, Knows, IsTold, IsOver, IsMeant, Stands, WasMade, AreBegun, refused_at, all_refused}
use Rattle.shared_run.specs.Closing.{ShowsRun, ShowsAll, SinkClosed}
use Rattle.shared_run.proofs.Events.{once_ends}
use Rattle.shared_run.proofs.Knowing.{all_told}

-- ---- the history of a run

log_there : (es : List Event) (t i : ℕ) (refusals : List (List Refusal)) → i < length refusals → slice_get (placed_logs es t refusals) i ≡ Some (placed_log es (t + i) (refused_at refusals i))
log_there es t i [] lt = absurd (omega arith)
log_there es t zero (rs ∷ more) lt = let n : t ≡ t + 0 = omega arith in ap (λ u. Some (placed_log es u rs)) n
log_there es t (suc i) (rs ∷ more) lt = let n : suc t + i ≡ t + suc i = omega arith in log_there es (suc t) i more (omega (arith, lt)) ∙ ap (λ u. Some (placed_log es u (refused_at more i))) n

log_first : (es : List Event) (i : ℕ) (refusals : List (List Refusal)) → i < length refusals → slice_get (placed_logs es 0 refusals) i ≡ Some (placed_log es i (refused_at refusals i))
log_first es i refusals lt = let n : 0 + i ≡ i = omega arith in log_there es 0 i refusals lt ∙ ap (λ u. Some (placed_log es u (refused_at refusals i))) n

log_beyond : (es : List Event) (t i : ℕ) (refusals : List (List Refusal)) (p : Placed) → slice_get (placed_logs es t refusals) i ≡ Some p → i < length refusals
log_beyond es t i [] p e = absurd (cc)
log_beyond es t zero (rs ∷ more) p e = omega arith
log_beyond es t (suc i) (rs ∷ more) p e = let lt = log_beyond es (suc t) i more p e in omega (arith, lt)

refusals_are : (es : List Event) (t : ℕ) (refusals : List (List Refusal)) → flat_map (λ (p : Placed). p.log.refusals) (placed_logs es t refusals) ≡ all_refused refusals
refusals_are es t [] = refl
refusals_are es t (rs ∷ more) = ap (λ l. rs ++ l) (refusals_are es (suc t) more)

silent : (c : Call) → is_read c ≡ true → printed c ≡ []
silent (On r act) e = refl
silent (Start id body values) e = refl
silent (Gather r) e = refl
silent (Print bytes) e = absurd (let h : false ≡ true = e in cc)
silent (End how) e = refl

read_of : (a b : Bool) → (not a || not b) ≡ false → a ≡ true
read_of true b e = refl
read_of false b e = absurd (let h : true ≡ false = e in cc)

prints_first : (b : Bool) (e : Event) (es : List Event) → is_event e.entry ≡ b → prints (events_in es) ≡ prints es → prints (cond b (e ∷ events_in es) (events_in es)) ≡ prints (e ∷ es)
prints_first true e es is more = ap (λ l. printed e.entry.call ++ l) more
prints_first false e es is more = more ∙ sym (ap (λ l. l ++ prints es) (silent e.entry.call (read_of (is_read e.entry.call) (moves_none e.entry.moved) is)))

prints_same : (es : List Event) → prints (events_in es) ≡ prints es
prints_same [] = refl
prints_same (e ∷ es) = prints_first (is_event e.entry) e es refl (prints_same es)

begun_at : (front F behind es : List Event) (e : Event) → AreBegun F es → es ≡ front ++ e ∷ behind → IsBegun (F ++ front) e
begun_at [] F behind [] e b h = absurd (cc)
begun_at [] F behind (x ∷ es) e (b, bs) h = let same : x ≡ e = cc in subst (IsBegun (F ++ [])) same (subst (λ l. IsBegun l x) (sym (append-nil F)) b)
begun_at (y ∷ front) F behind [] e b h = absurd (cc)
begun_at (y ∷ front) F behind (x ∷ es) e (b, bs) h =
    let same : x ≡ y = cc in let rest : es ≡ front ++ e ∷ behind = cc in
    subst (λ l. IsBegun l e) (append_assoc F (y ∷ []) front) (subst (λ q. IsBegun ((F ++ q ∷ []) ++ front) e) same (begun_at front (F ++ x ∷ []) behind es e bs rest))

-- ---- all logs are known

-- an ended log of the thread is among those that the pass knows
module _ (slots : ℕ) (run : Run) (v : View) (r : IsRun slots run) (k : Knows slots run v) (main : v.thread ≡ 0) (over : v.ended ≡ true) (gathered : AllGathered (known_logs v)) where
  -- such a log is the log of its thread
  told_is : (t : ThreadLog) → Has (known_logs v) t → IsTold run t
  told_is t h = each_has (IsTold run) (known_logs v) t (all_told slots run v k) h

  known_below : (n t : ℕ) → t < n → IsThread run t → HasEnded (known_logs v) t
  known_below zero t lt is = absurd (omega arith)
  known_below (suc n) zero lt is = (record { thread = v.thread; log = v.log; ended = v.ended }, inl refl, main, over)
  known_below (suc n) (suc t) lt is = of_maker (r.made (suc t) (omega arith) is) (λ u l w. known_below n u l w)
    where
      of_maker : WasMade run.events (suc t) → ((u : ℕ) → u < n → IsThread run u → HasEnded (known_logs v) u) → HasEnded (known_logs v) (suc t)
      of_maker m rec =
          let below = m.2 in
          let x = rec m.0 (omega (arith, below, lt)) (omega (arith, below, is)) in
          let p = (told_is x.0 x.1).1 x.3 in
          gathered x.0 x.1 x.3 (suc t) m.1 (subst (λ (l : List Entry). Has (started l) (suc t, m.1)) (sym (ap (λ (l : Log). l.entries) p.0 ∙ ap (λ n. by n run.events) x.2)) m.3)

  pub known_all : (t : ℕ) → IsThread run t → HasEnded (known_logs v) t
  known_all t is = known_below (suc t) t (omega arith) is

  ends_once : (t : ℕ) → IsThread run t → EndsOnce (by t run.events)
  ends_once t is =
      let x = known_all t is in
      let p = (told_is x.0 x.1).1 x.3 in
      subst EndsOnce (ap (λ (l : Log). l.entries) p.0 ∙ ap (λ n. by n run.events) x.2) p.1

  pub all_ended : (t : ℕ) → IsThread run t → has_end (by t run.events) ≡ true
  all_ended t is = once_ends (by t run.events) (ends_once t is)

  legal : IsLegal slots (history_of run.events run.refusals)
  legal = one_order_is_legal slots run.events run.refusals run.store r.leads (r.counted ∙ ap suc (sym r.started)) r.within
      (λ front behind e h. begun_at front [] behind run.events e r.begun h) ends_once r.unmoved

  shown : Shows (history_of run.events run.refusals) (known_logs v)
  shown = record {
    known = λ t h ended.
        let p = told_is t h in
        (placed_log run.events t.thread (refused_at run.refusals t.thread), log_first run.events t.thread run.refusals p.0, sym (p.1 ended).0);
    fronts = λ t h.
        let p = told_is t h in
        (placed_log run.events t.thread (refused_at run.refusals t.thread), p.2.0, log_first run.events t.thread run.refusals p.0, p.2.1);
    all = λ n p e.
        let x = known_all n (log_beyond run.events 0 n run.refusals p e) in (x.0, x.1, x.2, x.3);
  }

  pub shows_all : ShowsAll slots (known_logs v) (history_of run.events run.refusals)
  shows_all = (legal, shown)

-- ---- the sink at the close

pub sink_closed : (Overflows : ℕ → ℕ → Type 0) (begun : Sunk) (run : Run) (sink : Sunk) → Stands Overflows begun run.events run.refusals sink → SinkClosed Overflows begun sink (history_of run.events run.refusals)
sink_closed Overflows begun run sink s =
    let same = refusals_are run.events 0 run.refusals in (
      (
        s.rest,
        subst (λ l. (s.rest ≡ []) ⊎ IsFront l s.rest) (sym same) s.front,
        subst (λ l. Adds begun.told sink.told (l ++ s.rest)) (sym (prints_same run.events)) s.told,
      ),
      s.rises,
      (λ q h failed. s.cause (subst (IsMeant Overflows sink.failed) failed (s.refused q (subst (λ l. Has l q) same h)))),
      λ q h used wanted words. subst (IsMeant Overflows sink.failed) words (s.refused q (subst (λ l. Has l q) same h)),
    )

-- what holds of all that each thread was refused holds of what the history tells
each_refused : (P : Refusal → Type 0) (refusals : List (List Refusal)) → ((t : ℕ) → Each P (refused_at refusals t)) → Each P (all_refused refusals)
each_refused P [] all = tt
each_refused P (rs ∷ more) all = each_append P rs (all_refused more) (all 0) (each_refused P more (λ t. all (suc t)))

pub refusals_have : (P : Refusal → Type 0) (run : Run) → ((t : ℕ) → Each P (refused_at run.refusals t)) → (q : Refusal) → Has (refusals_of (history_of run.events run.refusals)) q → P q
refusals_have P run all q h = each_has P (all_refused run.refusals) q (each_refused P run.refusals all) (subst (λ l. Has l q) (refusals_are run.events 0 run.refusals) h)

-- ---- while a thread goes on

-- no history is shown
pub open_hides : (slots : ℕ) (run : Run) (v : View) → Knows slots run v → v.ended ≡ false → (h : History) → ShowsRun run h → ⊥
open_hides slots run v knew going h shown = true≢false (sym (shown.1 v.thread knew.within) ∙ (ap (λ (l : Log). has_end l.entries) (sym knew.log) ∙ subst (λ b. IsOver b v.log) going knew.over))
