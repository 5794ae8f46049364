-- What a view says of a run stays where the run grows.
use Rattle.std.proofs.Common.{◌≡◌, ◌≤◌, ◌⊎◌, ℕ, ◌==◌, Bool, true, false, List, [], ◌∷◌, ◌++◌, length, Option, Some, None, refl, sym, ap, ◌∙◌, subst, inl, inr, ⊎_elim, arith, true≢false, append-nil, append_assoc, eqb-true, eq-eqb}
use Rattle.rb_model.specs.declared.value.Ref.{Ref}
use Rattle.rb_model.specs.Values.{Reference}
use Rattle.rb_model.specs.Private.{Item}
use Rattle.rb_model.specs.Log.{Call, Entry, Refusal, Log, has_end, with_refusal}
use Rattle.rb_shared.specs.History.{all_started, by}
use Rattle.rb_shared.specs.Lists.{Has, Each}
use Rattle.rb_shared.specs.Store.{generation_of}
use Rattle.rb_shared.specs.Threads.{ThreadLog}
use Rattle.rb_shared.specs.View.{View, own_log, known_logs, with_refused, split_view, newborn, joined_view}
use Rattle.rb_shared.proofs.Runs.{each_append, each_more}
use Rattle.shared_run.specs.Standing.{NamesHeld}
use Rattle.shared_run.specs.Run.{Run, IsNote, Knows, IsThread, WasBegun, IsOver, IsTold, IsWhole, log_of, run_refused}
use Rattle.shared_run.proofs.Events.{once_ends, refused_own, refused_other, refused_count}

-- a run grows by what thread t did
pub record Grows (run new : Run) (t : ℕ) : Type 0 where
  pub more : length run.refusals ≤ length new.refusals
  pub started : (p : ℕ × Reference) → Has (all_started run.events) p → Has (all_started new.events) p
  pub generation : (n : ℕ) → IsThread run n → generation_of new.store n ≡ generation_of run.store n
  pub logs : (n : ℕ) → IsThread run n → (n ≡ t → ⊥) → log_of new n ≡ log_of run n
  pub names : (r : Ref) → NamesHeld run.store r → NamesHeld new.store r
  pub own : (behind : List Entry) × (by t new.events ≡ by t run.events ++ behind)

pub begun_on : (run new : Run) (t n : ℕ) → Grows run new t → WasBegun run.events n → WasBegun new.events n
begun_on run new t n g (inl e) = inl e
begun_on run new t n g (inr b) = inr (b.0, g.started (n, b.0) b.1)

-- a log that has ended is of another thread
whole_on : (run new : Run) (t : ℕ) → Grows run new t → has_end (by t run.events) ≡ false → (x : ThreadLog) → IsTold run x → IsWhole new x
whole_on run new t g going x told ended =
    let p = told.1 ended in
    let over : has_end (by x.thread run.events) ≡ true = ap (λ (l : Log). has_end l.entries) (sym p.0) ∙ once_ends x.log.entries p.1 in
    let other : x.thread ≡ t → ⊥ = (λ same. true≢false (sym over ∙ (ap (λ n. has_end (by n run.events)) same ∙ going))) in
    (p.0 ∙ sym (g.logs x.thread told.0 other), p.1)

-- and a front stays a front
front_on : (run new : Run) (t : ℕ) → Grows run new t → (x : ThreadLog) → IsTold run x → (behind : List Entry) × (by x.thread new.events ≡ x.log.entries ++ behind)
front_on run new t g x told = of_thread (x.thread == t) refl
  where
    of_thread : (b : Bool) → (x.thread == t) ≡ b → (behind : List Entry) × (by x.thread new.events ≡ x.log.entries ++ behind)
    of_thread true is =
        let same = eqb-true x.thread t is in
        let q = told.2 in (
          q.0 ++ g.own.0,
          ap (λ n. by n new.events) same ∙ (g.own.1 ∙ (ap (λ l. l ++ g.own.0) (ap (λ n. by n run.events) (sym same) ∙ q.1) ∙ append_assoc x.log.entries q.0 g.own.0)),
        )
    of_thread false is =
        let other : x.thread ≡ t → ⊥ = (λ same. true≢false (sym (eq-eqb x.thread t same) ∙ is)) in
        (told.2.0, ap (λ (l : Log). l.entries) (g.logs x.thread told.0 other) ∙ told.2.1)

pub told_on : (run new : Run) (t : ℕ) → Grows run new t → has_end (by t run.events) ≡ false → (x : ThreadLog) → IsTold run x → IsTold new x
told_on run new t g going x told = (let lt = told.0 in let le = g.more in omega (arith, lt, le), whole_on run new t g going x told, front_on run new t g x told)

pub knows_on : (slots : ℕ) (run new : Run) (t : ℕ) (u : View) → Grows run new t → has_end (by t run.events) ≡ false → Knows slots run u → (u.thread ≡ t → ⊥) → (u.unsplit ≡ Some t → ⊥) → Knows slots new u
knows_on slots run new t u g going k other not_due = record {
  same_slots = k.same_slots;
  within = let lt = k.within in let le = g.more in omega (arith, lt, le);
  begun = begun_on run new t u.thread g k.begun;
  generation = k.generation ∙ sym (g.generation u.thread k.within);
  log = k.log ∙ sym (g.logs u.thread k.within other);
  over = k.over;
  known = each_more (NamesHeld run.store) (NamesHeld new.store) g.names u.known k.known;
  told = each_more (IsTold run) (IsTold new) (told_on run new t g going) u.told k.told;
  due = λ n is.
      let d = k.due n is in
      let lt = d.0 in let le = g.more in
      (omega (arith, lt, le), begun_on run new t n g d.1, g.generation n d.0 ∙ d.2, g.logs n d.0 (λ same. not_due (is ∙ ap Some same)) ∙ d.3, d.4);
}

-- ---- notes

note_at : (slots : ℕ) (run : Run) (v : View) (p : Bool) (a : Option Rattle.rb_shared.specs.View.Asked) (u : Option ℕ) → (u ≡ v.unsplit) ⊎ (u ≡ None) → Knows slots run v
    → Knows slots run (record v { polled = p; asked = a; unsplit = u })
note_at slots run v p a u which k = record {
  same_slots = k.same_slots;
  within = k.within;
  begun = k.begun;
  generation = k.generation;
  log = k.log;
  over = k.over;
  known = k.known;
  told = k.told;
  due = λ n is. ⊎_elim (λ (e : u ≡ v.unsplit). k.due n (sym e ∙ is)) (λ (e : u ≡ None). absurd (let h : None ≡ Some n = sym e ∙ is in cc)) which;
}

pub noted : (slots : ℕ) (run : Run) (v w : View) → IsNote v w → Knows slots run v → Knows slots run w
noted slots run v w i k = subst (Knows slots run) (sym i.2) (note_at slots run v w.polled w.asked i.0 i.1 k)

-- ---- split and join

pub own_told : (slots : ℕ) (run : Run) (v : View) → Knows slots run v → IsTold run (own_log v)
own_told slots run v k =
    (k.within, (λ ended. (k.log, subst (λ b. IsOver b v.log) ended k.over)), ([], ap (λ (l : Log). l.entries) (sym k.log) ∙ sym (append-nil v.log.entries)))

pub all_told : (slots : ℕ) (run : Run) (v : View) → Knows slots run v → Each (IsTold run) (known_logs v)
all_told slots run v k = (own_told slots run v k, k.told)

pub maker_knows : (slots : ℕ) (run : Run) (v : View) → Knows slots run v → Knows slots run (split_view v)
maker_knows slots run v k = note_at slots run v v.polled None None (inr refl) k

pub newborn_knows : (slots : ℕ) (run : Run) (v : View) (n : ℕ) → Knows slots run v → v.unsplit ≡ Some n → Knows slots run (newborn v n)
newborn_knows slots run v n k is = let d = k.due n is in record {
  same_slots = k.same_slots;
  within = d.0;
  begun = d.1;
  generation = sym d.2;
  log = sym d.3;
  over = refl;
  known = k.known;
  told = all_told slots run v k;
  due = λ m e. absurd (let h : None ≡ Some m = e in cc);
}

pub joined_knows : (slots : ℕ) (run : Run) (v u : View) → Knows slots run v → Knows slots run u → Knows slots run (joined_view v u)
joined_knows slots run v u k l = record {
  same_slots = k.same_slots;
  within = k.within;
  begun = k.begun;
  generation = k.generation;
  log = k.log;
  over = k.over;
  known = each_append (NamesHeld run.store) v.known u.known k.known l.known;
  told = each_append (IsTold run) v.told (known_logs u) k.told (all_told slots run u l);
  due = k.due;
}

-- ---- a refusal

pub refusal_grows : (run : Run) (t : ℕ) (r : Refusal) → Grows run (run_refused run t r) t
refusal_grows run t r = record {
  more = let c = refused_count run.refusals t r in omega (arith, c);
  started = λ p h. h;
  generation = λ n lt. refl;
  logs = λ n lt other. ap (λ (rs : List Refusal). record { entries = by n run.events; refusals = rs }) (refused_other run.refusals t n r other);
  names = λ r n. n;
  own = ([], sym (append-nil (by t run.events)));
}

pub refused_knows : (slots : ℕ) (run : Run) (v : View) (call : Call) (moved : List Item) (words : Option (ℕ × ℕ)) (r : Refusal) → Knows slots run v → v.ended ≡ false
    → r ≡ record { call = call; moved = moved; before = length v.log.entries; words = words } → Knows slots (run_refused run v.thread r) (with_refused v call moved words)
refused_knows slots run v call moved words r k going is =
    let g = refusal_grows run v.thread r in
    let open_log : has_end v.log.entries ≡ false = subst (λ b. IsOver b v.log) going k.over in
    let unended : has_end (by v.thread run.events) ≡ false = ap (λ (l : Log). has_end l.entries) (sym k.log) ∙ open_log in record {
      same_slots = k.same_slots;
      within = let lt = k.within in let le = g.more in omega (arith, lt, le);
      begun = k.begun;
      generation = k.generation;
      log = λ i. record {
        entries = (k.log i).entries;
        refusals = (ap (λ (q : Refusal). v.log.refusals ++ q ∷ []) (sym is) ∙ (ap (λ (l : Log). l.refusals ++ r ∷ []) k.log ∙ sym (refused_own run.refusals v.thread r k.within))) i;
      };
      over = subst (λ b. IsOver b (with_refusal v.log call moved words)) (sym going) open_log;
      known = k.known;
      told = each_more (IsTold run) (IsTold (run_refused run v.thread r)) (told_on run (run_refused run v.thread r) v.thread g unended) v.told k.told;
      due = λ n e. absurd (let h : None ≡ Some n = e in cc);
    }
