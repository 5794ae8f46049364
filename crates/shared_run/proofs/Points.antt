-- A point of a run stays one while other threads go on: their entries come behind it, and their reads are put in before or behind it.
use Rattle.std.proofs.Common.{◌≡◌, ◌⊎◌, ℕ, List, [], true, ◌∷◌, ◌++◌, map, refl, sym, ap, ◌∙◌, subst, inl, inr, ⊎_elim, append-nil}
use Rattle.std.proofs.lemmas.List.{append_assoc, map-append}
use Rattle.rb_model.specs.Log.{Entry}
use Rattle.rb_model.specs.Started.{started}
use Rattle.rb_model.specs.Values.{Reference}
use Rattle.rb_shared.specs.History.{Event, Leads, all_started, by, is_read}
use Rattle.rb_shared.specs.Lists.{Has}
use Rattle.rb_shared.specs.Step.{Steps}
use Rattle.rb_shared.specs.Store.{Store, opening}
use Rattle.rb_shared.specs.View.{View}
use Rattle.rb_shared.proofs.Runs.{has_front, has_behind, leads_split}
use Rattle.shared_run.specs.Run.{Run, IsRun, Knows, MayRead, Point, event_of, run_after, run_read}
use Rattle.shared_run.proofs.Events.{by_append, by_other, started_append, has_either}
use Rattle.shared_run.proofs.Pointed.{leads_one, leads_join}

-- ---- two ways to cut one list

abbrev head_of : {X : Type 0} → X → List X → X
head_of d [] = d
head_of d (x ∷ xs) = x

abbrev tail_of : {X : Type 0} → List X → List X
tail_of [] = []
tail_of (x ∷ xs) = xs

cut_twice : {X : Type 0} (xs ys us vs : List X) → xs ++ ys ≡ us ++ vs → ((m : List X) × (xs ≡ us ++ m) × (vs ≡ m ++ ys)) ⊎ ((m : List X) × (us ≡ xs ++ m) × (ys ≡ m ++ vs))
cut_twice [] ys us vs e = inr (us, refl, e)
cut_twice (x ∷ xs) ys [] vs e = inl (x ∷ xs, refl, sym e)
cut_twice (x ∷ xs) ys (u ∷ us) vs e =
    let first : x ≡ u = ap (head_of x) e in
    ⊎_elim
    (λ (p : (m : List _) × (xs ≡ us ++ m) × (vs ≡ m ++ ys)). inl (p.0, (λ i. first i ∷ p.1 i), p.2))
    (λ (p : (m : List _) × (us ≡ xs ++ m) × (ys ≡ m ++ vs)). inr (p.0, (λ i. sym first i ∷ p.1 i), p.2))
    (cut_twice xs ys us vs (ap tail_of e))

all_append : (xs ys : List Event) → all_started (xs ++ ys) ≡ all_started xs ++ all_started ys
all_append xs ys = ap started (map-append (λ (x : Event). x.entry) xs ys) ∙ started_append (map (λ (x : Event). x.entry) xs) (map (λ (x : Event). x.entry) ys)

by_nothing : (t : ℕ) (xs ys : List Event) → by t xs ≡ [] → by t ys ≡ [] → by t (xs ++ ys) ≡ []
by_nothing t xs ys a b = by_append t xs ys ∙ (ap (λ l. l ++ by t ys) a ∙ b)

front_nothing : (t : ℕ) (xs ys : List Event) → by t (xs ++ ys) ≡ [] → (by t xs ≡ []) × (by t ys ≡ [])
front_nothing t xs ys e = both_nothing (by t xs) (by t ys) (sym (by_append t xs ys) ∙ e)
  where
    both_nothing : (es fs : List Entry) → es ++ fs ≡ [] → (es ≡ []) × (fs ≡ [])
    both_nothing [] fs e = (refl, e)
    both_nothing (x ∷ es) fs e = absurd (cc)

module _ (slots : ℕ) (run : Run) (P : Store → Type 0) where
  -- now
  pub point_now : (v : View) → IsRun slots run → Knows slots run v → P run.store → Point slots run v.thread P
  point_now v r k p = record { front = run.events; behind = []; split = sym (append-nil run.events); begun = k.begun; since = refl; store = run.store; leads = r.leads; holds = p }

  -- an entry of another thread comes behind
  pub point_entry : (t u : ℕ) (e : Entry) (z : Store) → (t ≡ u → ⊥) → Point slots run t P → Point slots (run_after run u e z) t P
  point_entry t u e z ne p = record {
    front = p.front;
    behind = p.behind ++ event_of u e ∷ [];
    split = ap (λ es. es ++ event_of u e ∷ []) p.split ∙ append_assoc p.front p.behind (event_of u e ∷ []);
    begun = p.begun;
    since = by_nothing t p.behind (event_of u e ∷ []) p.since (by_other u t e [] ne);
    store = p.store;
    leads = p.leads;
    holds = p.holds;
  }

  -- a read of another thread is put in
  pub point_put : (t u : ℕ) (e : Entry) (front behind : List Event) → (t ≡ u → ⊥) → MayRead slots run u e front behind → Point slots run t P → Point slots (run_read run front behind u e) t P
  point_put t u e front behind ne may p = ⊎_elim before after (cut_twice p.front p.behind front behind (sym p.split ∙ may.split))
    where
      ev : Event
      ev = event_of u e

      nobody : by t (event_of u e ∷ []) ≡ []
      nobody = by_other u t e [] ne

      before : ((m : List Event) × (p.front ≡ front ++ m) × (behind ≡ m ++ p.behind)) → Point slots (run_read run front behind u e) t P
      before (m, is, rest) =
          let cut = leads_split slots front m opening p.store (subst (λ es. Leads slots opening es p.store) is p.leads) in
          let same : cut.0 ≡ may.store = leads_one slots opening cut.0 may.store front cut.1 may.leads in
          let on : Leads slots may.store m p.store = subst (λ x. Leads slots x m p.store) same cut.2 in record {
            front = front ++ event_of u e ∷ m;
            behind = p.behind;
            split = ap (λ es. front ++ event_of u e ∷ es) rest ∙ sym (append_assoc front (event_of u e ∷ m) p.behind);
            begun = ⊎_elim (λ (zero : t ≡ 0). inl zero)
                (λ (q : (thread : Reference) × Has (all_started p.front) (t, thread)). inr (
                  q.0,
                  subst (λ l. Has l (t, q.0)) (sym (all_append front (event_of u e ∷ m)))
                      (started_in front m (t, q.0) (subst (λ es. Has (all_started es) (t, q.0)) is q.1)),
                ))
                p.begun;
            since = p.since;
            store = p.store;
            leads = leads_join slots opening may.store p.store front (event_of u e ∷ m) may.leads (may.store, may.steps, on);
            holds = p.holds;
          }
        where
          started_in : (xs ys : List Event) (q : ℕ × Reference) → Has (all_started (xs ++ ys)) q → Has (all_started xs ++ all_started (event_of u e ∷ ys)) q
          started_in xs ys q h = ⊎_elim
              (λ (l : Has (all_started xs) q). has_front (all_started xs) (all_started (event_of u e ∷ ys)) q l)
              (λ (l : Has (all_started ys) q). has_behind (all_started xs) (all_started (event_of u e ∷ ys)) q
              (subst (λ l. Has l q) (sym (all_append (event_of u e ∷ []) ys)) (has_behind (all_started (event_of u e ∷ [])) (all_started ys) q l)))
              (has_either (all_started xs) (all_started ys) q (subst (λ l. Has l q) (all_append xs ys) h))

      after : ((m : List Event) × (front ≡ p.front ++ m) × (p.behind ≡ m ++ behind)) → Point slots (run_read run front behind u e) t P
      after (m, is, rest) =
          let none = front_nothing t m behind (ap (by t) (sym rest) ∙ p.since) in record {
            front = p.front;
            behind = m ++ event_of u e ∷ behind;
            split = ap (λ es. es ++ event_of u e ∷ behind) is ∙ append_assoc p.front m (event_of u e ∷ behind);
            begun = p.begun;
            since = by_nothing t m (event_of u e ∷ behind) none.0 (by_nothing t (event_of u e ∷ []) behind nobody none.1);
            store = p.store;
            leads = p.leads;
            holds = p.holds;
          }

-- a point is one of any run with these events
pub point_events : (slots : ℕ) (run new : Run) (t : ℕ) (P : Store → Type 0) → new.events ≡ run.events → Point slots run t P → Point slots new t P
point_events slots run new t P same p =
    record { front = p.front; behind = p.behind; split = same ∙ p.split; begun = p.begun; since = p.since; store = p.store; leads = p.leads; holds = p.holds }

-- at such a point the thread may read
pub point_reads : (slots : ℕ) (run : Run) (t : ℕ) (e : Entry) → is_read e.call ≡ true → e.moved ≡ [] → (p : Point slots run t (λ y. Steps slots y t e y)) → MayRead slots run t e p.front p.behind
point_reads slots run t e reads bare p = record { split = p.split; begun = p.begun; since = p.since; reads = reads; bare = bare; store = p.store; leads = p.leads; steps = p.holds }
