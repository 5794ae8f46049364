-- The steps on a mutex keep the law.
use Rattle.std.proofs.Common.{◌≡◌, ◌<◌, ◌⊎◌, ◌==◌, ◌&&◌, ◌||◌, ℕ, zero, suc, ◌+◌, ◌-◌, Bool, true, false, not, cond, List, [], ◌∷◌, ◌++◌, length, set, get_or, Option, Some, None, is_some, refl, sym, ap, ◌∙◌, subst, inl, inr, ⊎_elim, arith, append-nil, eq-eqb, ne_eqb, eqb-true, true≢false}
use Rattle.std.proofs.lemmas.List.{set-get_or, get_or-set_same}
use Rattle.std.proofs.Common.{get_or-set_other}
use Rattle.std.specs.List.{flat_map}
use mathlib.Core.Logic.{dite}
use native.Mathlib.Decide.{ℕ_discrete}
use prog.Atomic.{either}
use Rattle.atomic_table.specs.Table.{State, keeps}
use Rattle.atomic_table.proofs.Lists.{set_again}
use Rattle.rb_model.specs.declared.value.Id.{Id}
use Rattle.rb_model.specs.declared.fault.Fault.TheVariants.{LockOwned, UnlockForeign}
use Rattle.rb_model.specs.Acts.{Act, Lock, Unlock, Reply, Done, Failed, handed}
use Rattle.rb_model.specs.Log.{On, Entry, Log, has_end}
use Rattle.rb_model.specs.Things.{Mutex, owner_behind, mutex_gives}
use Rattle.rb_model.specs.Values.{Value as Val, Reference}
use Rattle.rb_shared.specs.Lists.{Has, Each}
use Rattle.rb_shared.specs.Replies.{MayGive}
use Rattle.rb_shared.specs.Step.{ids_in, is_waiting, reply_of, waits_on, with_act}
use Rattle.rb_shared.specs.Store.{Store, found, is_there, with_thing}
use Rattle.rb_shared.proofs.Runs.{same_is}
use Rattle.shared_run.specs.Standing.{Fits}
use Rattle.shared_run.specs.Run.{Run, IsRun, IsThread, IsOver, run_after}
use Rattle.shared_run.specs.Run as runs
use Rattle.shared_run.proofs.Gives.{no_start}
use Rattle.rb_model.specs.Doing.{said}
use Rattle.heap_core.specs.declared.deed.Deed.{Deed}
use Rattle.heap_core.specs.declared.line.Line.{Line}
use Rattle.heap_core.specs.Handing.{Plan, Handed, Slot}
use Rattle.heap_core.specs.Blocks.{Block, MutexAt, home_of, Inside}
use Rattle.heap_core.specs.Charges.{tally_of}
use Rattle.heap_core.specs.Sizes.{size_of_id}
use Rattle.heap_core.specs.View.{Holder, Knows, held, words_in}
use Rattle.heap_core.specs.Moment.{Moment, At, ended_in, owner_by}
use Rattle.heap_core.specs.Mutexes.{MutexStands, owner_of}
use Rattle.heap_core.specs.Owning.{IsDeed, IsOwningAct, MustWait, bare_entry, OwnerSeen, is_going, goes, owner_told, owner_word, LooksOwner, SetsOwner, owning_entry}
use Rattle.heap_core.specs.Rule.{Stands, LiesIn, Kept, moment}
use Rattle.heap_core.specs.Telling.{MayLoad, MayExchange}
use Rattle.heap_core.specs.Turning.{IsBare, with_plain}
use Rattle.heap_core.specs.Turns.{LinesTell, HasTurn}
use Rattle.heap_core.proofs.Owes.{whole}
use Rattle.heap_core.proofs.Seats.{alone_at, seated_plain, seated_store, only_block}
use Rattle.heap_core.proofs.Steps.{is_home, tree_stays, change_to}
use Rattle.heap_core.proofs.Tallies.{tally_unsized}
use Rattle.heap_core.proofs.Things.{found_here, over_same, threads_here}
use Rattle.heap_core.proofs.Turning.{had}

-- ---- whom a word names

goes_true : (lines : List (Option Line)) (t : ℕ) → goes lines t ≡ true → (l : Line) × Has lines (Some l) × (l.number ≡ t) × (l.over ≡ false)
goes_true [] t e = absurd (true≢false (sym e))
goes_true (None ∷ lines) t e = let p = goes_true lines t e in (p.0, inr p.1, p.2, p.3)
goes_true (Some l ∷ lines) t e = by_test (l.number == t) l.over refl refl (λ more. let p = goes_true lines t more in (p.0, inr p.1, p.2, p.3)) e
  where
    by_test : (b c : Bool) → (l.number == t) ≡ b → l.over ≡ c → (goes lines t ≡ true → (x : Line) × Has (Some l ∷ lines) (Some x) × (x.number ≡ t) × (x.over ≡ false)) → ((b && not c) || goes lines t) ≡ true
        → (x : Line) × Has (Some l ∷ lines) (Some x) × (x.number ≡ t) × (x.over ≡ false)
    by_test true false same fine more e = (l, inl refl, eqb-true l.number t same, fine)
    by_test true true same fine more e = more e
    by_test false c same fine more e = more e

goes_has : (lines : List (Option Line)) (t : ℕ) (l : Line) → Has lines (Some l) → l.number ≡ t → l.over ≡ false → goes lines t ≡ true
goes_has [] t l h is fine = absurd h
goes_has (x ∷ lines) t l (inl e) is fine = ap (λ b. b || goes lines t) (ap (is_going t) (sym e) ∙ (ap (λ b. b && not l.over) (eq-eqb l.number t is) ∙ ap not fine))
goes_has (x ∷ lines) t l (inr h) is fine = either_is (is_going t x) (goes_has lines t l h is fine)
  where
    either_is : (b : Bool) → goes lines t ≡ true → (b || goes lines t) ≡ true
    either_is true e = refl
    either_is false e = e

-- the table tells whom the word names
told_is : (run : Run) (lines : List (Option Line)) → LinesTell run lines → (n : ℕ) → ((u : ℕ) → n ≡ suc u → IsThread run u) → owner_told lines n ≡ owner_by run n
told_is run lines tell zero who = refl
told_is run lines tell (suc u) who = by_test (goes lines u) (ended_in run u) refl refl
  where
    by_test : (b c : Bool) → goes lines u ≡ b → ended_in run u ≡ c → cond b (Some u) None ≡ cond c None (Some u)
    by_test true false g e = refl
    by_test false true g e = refl
    by_test true true g e = let p = goes_true lines u g in absurd (true≢false (sym e ∙ (ap (ended_in run) (sym p.2) ∙ (sym (tell.over p.0 p.1) ∙ p.3))))
    by_test false false g e = let p = tell.all u (who u refl) e in absurd (true≢false (sym (goes_has lines u p.0 p.1 p.2 (tell.over p.0 p.1 ∙ (ap (ended_in run) p.2 ∙ e))) ∙ g))

-- a word that is not 0 names the thread before it, where that goes on
pub told_at : (lines : List (Option Line)) (word : ℕ) → (word ≡ 0 → ⊥) → (b : Bool) → goes lines (word - 1) ≡ b → owner_told lines word ≡ cond b (Some (word - 1)) None
told_at lines zero some_word b is = absurd (some_word refl)
told_at lines (suc u) some_word b is =
    let same : suc u - 1 ≡ u = omega arith in
    ap (λ v. cond (goes lines v) (Some v) None) (sym same) ∙ ap (λ c. cond c (Some (suc u - 1)) None) is

-- who is named goes on
named_goes : (run : Run) (n u : ℕ) → owner_by run n ≡ Some u → (ended_in run u ≡ false) × (n ≡ suc u)
named_goes run zero u e = absurd (cc)
named_goes run (suc v) u e = by_test (ended_in run v) refl e
  where
    number : Some v ≡ Some u → v ≡ u
    number h = cc

    by_test : (b : Bool) → ended_in run v ≡ b → cond b None (Some v) ≡ Some u → (ended_in run u ≡ false) × (suc v ≡ suc u)
    by_test true is e = absurd (cc)
    by_test false is e = (ap (ended_in run) (sym (number e)) ∙ is, ap suc (number e))

word_is : (run : Run) (o : Option ℕ) → ((u : ℕ) → o ≡ Some u → ended_in run u ≡ false) → owner_by run (owner_word o) ≡ o
word_is run None going = refl
word_is run (Some u) going = ap (λ b. cond b None (Some u)) (going u refl)

-- what is asked of the act: it hands nothing over and need not wait, and the owner behind it is the caller or who was it before
pub record Fine (t : ℕ) (act : Act) (o : Option ℕ) : Type 0 where
  pub nothing : handed act ≡ []
  pub ready : waits_on t (Mutex o) act ≡ false
  pub behind : (u : ℕ) → owner_behind t act o ≡ Some u → (u ≡ t) ⊎ (o ≡ Some u)

module _ (plan : Plan) (s : State Slot Holder) (r : Kept plan s) (id : ℕ) (k : Holder) (seat : At s.views id k) (live : k.live ≡ true) (going : k.view.ended ≡ false) (x : Id) (at : ℕ) (here : Has r.blocks (MutexAt x at)) where
  abbrev t : ℕ
  t = k.view.thread

  -- whom its word names
  abbrev owner : Option ℕ
  owner = owner_by r.run (get_or s.words (owner_of at) 0)

  stands : MutexStands (moment plan s r.run r.lines r.blocks) x at
  stands = r.each (MutexAt x at) here

  goes_on : ended_in r.run t ≡ false
  goes_on = let knew = r.knows id k seat live in ap (λ (l : Log). has_end l.entries) (sym knew.log) ∙ subst (λ b. IsOver b k.view.log) going knew.over

  inside : Inside (owner_of at) (MutexAt x at)
  inside = (omega arith, omega arith)

  fits : owner_of at < length s.words
  fits = let top = (r.laid.blocks_in (MutexAt x at) here).0 in let within = r.laid.used_in in omega (arith, top, within)

  module _ (thing : Reference) (act : Act) (step : ℕ) (same : thing.id ≡ x) (bare : IsBare k) (fine : Fine t act owner) where
    abbrev e : Entry
    e = owning_entry t step thing act owner

    abbrev o' : Option ℕ
    o' = owner_behind t act owner

    abbrev z' : Store
    z' = with_thing r.run.store x (Mutex o')

    found_is : found (r.run.store ++ []) thing.id ≡ Some (Mutex owner)
    found_is = ap (λ z. found z thing.id) (append-nil r.run.store) ∙ (ap (found r.run.store) same ∙ stands.thing)

    -- who owns it then goes on, and is a thread
    owner_goes : (u : ℕ) → o' ≡ Some u → (ended_in r.run u ≡ false) × IsThread r.run u
    owner_goes u is = ⊎_elim
        (λ (mine : u ≡ t). (ap (ended_in r.run) mine ∙ goes_on, subst (IsThread r.run) (sym mine) (r.knows id k seat live).within))
        (λ (was : owner ≡ Some u). let p = named_goes r.run (get_or s.words (owner_of at) 0) u was in (p.0, stands.who u p.1))
        (fine.behind u is)

    abbrev run' : Run
    run' = run_after r.run t e z'

    abbrev k' : Holder
    k' = with_plain k e

    abbrev after : Moment
    after = moment plan (whole (set s.words (owner_of at) (owner_word o')) s.homes (set s.views id k')) run' r.lines (r.blocks ++ [])

    counts : ((tally_of plan.slots run'.events).words ≡ (tally_of plan.slots r.run.events).words) × ((tally_of plan.slots run'.events).shapes ≡ (tally_of plan.slots r.run.events).shapes) × ((tally_of plan.slots run'.events).sizes ≡ (tally_of plan.slots r.run.events).sizes)
    counts = tally_unsized plan.slots r.run.events t e thing act refl refl (ap (size_of_id (tally_of plan.slots r.run.events).sizes) same ∙ stands.size)

    mutex_after : MutexStands after x at
    mutex_after =
        let word_now : get_or (set s.words (owner_of at) (owner_word o')) (owner_of at) 0 ≡ owner_word o' = get_or-set_same s.words (owner_of at) (owner_word o') 0 fits in record {
          thing = found_here r.run.store x (Mutex owner) (Mutex o') stands.thing
              ∙ ap (λ o. Some (Mutex o)) (sym (ap (owner_by run') word_now ∙ (owner_same (owner_word o') ∙ word_is r.run o' (λ u is. (owner_goes u is).0))));
          tag = get_or-set_other s.words (owner_of at) at (owner_word o') 0 (λ q. omega (arith, q)) ∙ stands.tag;
          made_by = get_or-set_other s.words (owner_of at) (at + 1) (owner_word o') 0 (λ q. omega (arith, q)) ∙ stands.made_by;
          serial = get_or-set_other s.words (owner_of at) (at + 2) (owner_word o') 0 (λ q. omega (arith, q)) ∙ stands.serial;
          size = ap (λ l. size_of_id l x) counts.2 ∙ stands.size;
          who = λ u is. (owner_goes u (word_names o' u (sym word_now ∙ is))).1;
        }
      where
        owner_same : (n : ℕ) → owner_by (run_after r.run t e z') n ≡ owner_by r.run n
        owner_same zero = refl
        owner_same (suc u) = ap (λ b. cond b None (Some u)) (over_same r.run.events t e refl u)

        word_names : (o : Option ℕ) (u : ℕ) → owner_word o ≡ suc u → o ≡ Some u
        word_names None u q = absurd (omega (arith, q))
        word_names (Some v) u q = ap Some (let z : v ≡ u = omega (arith, q) in z)

    pub mutex_kept : Kept plan (whole (set s.words (owner_of at) (owner_word o')) s.homes (set s.views id k'))
    mutex_kept =
        let z : Store = r.run.store in
        let none_held : held k ≡ 0 = let words = ap words_in bare.0 in let ahead = bare.1 in omega (arith, words, ahead) in
        change_to plan s r s.homes id k k' (owner_of at) (owner_word o') (MutexAt x at) seat live live refl refl here inside [] e [] z' record {
          going = going;
          may = record { hands = subst (Each (Fits (z ++ []))) (sym fine.nothing) tt; mentions = tt; sized = tt; own = tt; no_threads = tt; next = tt };
          steps = record {
            joins = tt;
            known = subst (λ (l : List Val). Each (λ (i : Id). is_there (z ++ []) i ≡ true) ((thing.id ∷ flat_map ids_in l) ++ [])) (sym fine.nothing) (ap is_some found_is, tt);
            ready = ap (λ o. is_waiting t o act) found_is ∙ fine.ready;
            reply_is = sym (ap (λ o. reply_of t o act) found_is);
            store_is = sym (ap (λ o. with_act t (z ++ []) thing.id o act) found_is ∙ (ap (λ y. with_thing y thing.id (Mutex o')) (append-nil z) ∙ ap (λ i. with_thing z i (Mutex o')) same));
          };
          named = tt;
          view = refl;
          own = bare.0;
          ahead = bare.1;
          late = refl;
          front = refl;
          knows_in = λ c q. subst (λ bs. Has bs c) (sym (append-nil r.blocks)) (r.known id k c seat q);
          lie = subst (Each (LiesIn k.blocks)) (sym (append-nil k.view.known)) (r.lie id k seat live);
          lines = r.lines;
          seated = seated_store plan.slots z z' r.lines (set s.views id k') (threads_here z x owner o' stands.thing) (seated_plain plan.slots z r.lines s.views id k k' r.seated seat refl refl refl (no_start t (Some (Mutex owner)) act));
          charged = let words = counts.0 in let shapes = ap length counts.1 in omega (arith, words, shapes, none_held);
          starts = omega arith;
          inside_own = λ y c q. absurd q;
          bounded = λ c q. absurd q;
          parted = λ y c d q. absurd q;
          mine = is_home (MutexAt x at);
          own_home = eq-eqb at at refl;
          receiver = λ y c hc is touched. ap (is_home (MutexAt x at)) (ap home_of (r.one x c (MutexAt x at) hc here (is ∙ ap Some (sym (same_is thing.id y touched) ∙ same)) refl)) ∙ eq-eqb at at refl;
          ends = λ c hc q. absurd (true≢false (sym q));
          doing = λ y far. refl;
          off_turn = λ off. (refl, refl, refl, refl, refl);
          anew = λ c hc mine. subst (Stands after) (sym (alone_at plan s r (MutexAt x at) here tt (λ h. h) c hc (eqb-true (home_of c) at mine))) mutex_after;
          new = λ c q. absurd q;
          homes = λ c q. absurd q;
          no_tree = λ c q. absurd q;
          tree = tree_stays s r id k k' seat live (λ c q. q) refl;
          shapes_on = λ shape q. inr q;
          fresh = λ y c q. absurd q;
          one = λ y c d q. absurd q;
          one_thread = λ number c d q. absurd q;
        }

-- ---- the steps

-- what is known of a mutex is that of its block
of_mutex : (plan : Plan) (s : State Slot Holder) (r : Kept plan s) (id at : ℕ) (x : Id) (k : Holder) (T : Block → Type 0) → At s.views id k → Knows k (MutexAt x at) → T (MutexAt x at) → (b : Block) → Knows k b → Inside (owner_of at) b → T b
of_mutex plan s r id at x k T seat known held b kb ib = subst T (only_block plan s r id (owner_of at) k (MutexAt x at) b seat known kb (omega arith, omega arith) ib) held

-- the owner word is loaded
pub looks_owner : (plan : Plan) (count id at : ℕ) (x : Id) (k : Holder) → k.live ≡ true → Knows k (MutexAt x at) → MayLoad LooksOwner plan count id k (owner_of at)
looks_owner plan count id at x k live known s r size seat small =
    let n : ℕ = get_or s.words (owner_of at) 0 in
    let knew = r.knows id k seat live in
    let stands = r.each (MutexAt x at) (r.known id k (MutexAt x at) seat known) in (
      k,
      keeps,
      tt,
      subst (λ ws. Kept plan (whole ws s.homes (set s.views id k))) (sym (set-get_or s.words (owner_of at) 0)) (subst (λ vs. Kept plan (whole s.words s.homes vs)) (sym (set_again s.views id k seat)) r),
      (
        refl,
        (λ f. f),
        of_mutex plan s r id at x k (λ b. LooksOwner b (owner_of at) 0 0 k n k) seat known (
          refl,
          λ h has.
              let tell = (had plan s r id k seat live h false has).handed.1 in (
                r.run,
                subst (λ m. IsRun m r.run) (sym knew.same_slots) r.is_run,
                subst (λ m. runs.Knows m r.run k.view) (sym knew.same_slots) knew,
                stands.thing ∙ ap (λ o. Some (Mutex o)) (sym (told_is r.run h.lines tell n stands.who)),
              ),
        ),
      ),
    )

-- it is exchanged, with the entry of an act
pub sets_owner : (plan : Plan) (count id at : ℕ) (x : Id) (k : Holder) (h : Handed) (n : ℕ) (thing : Reference) (act : Act) (step : ℕ) (e : Entry) → k.live ≡ true → Knows k (MutexAt x at) → HasTurn k h false → IsBare k → thing.id ≡ x
    → Fine k.view.thread act (owner_told h.lines n) → e ≡ owning_entry k.view.thread step thing act (owner_told h.lines n)
    → MayExchange (SetsOwner e) plan count id k (owner_of at) n (owner_word (owner_behind k.view.thread act (owner_told h.lines n)))
sets_owner plan count id at x k h n thing act step e live known has bare same fine is s r size seat small =
    let cur : ℕ = get_or s.words (owner_of at) 0 in
    let here = r.known id k (MutexAt x at) seat known in
    let stands = r.each (MutexAt x at) here in
    let t = had plan s r id k seat live h false has in
    let told : owner_told h.lines cur ≡ owner_by r.run cur = told_is r.run h.lines t.handed.1 cur stands.who in
    let new : ℕ = owner_word (owner_behind k.view.thread act (owner_told h.lines n)) in
    dite (ℕ_discrete cur n)
    (λ found_it.
    let now : owner_told h.lines n ≡ owner_by r.run cur = ap (owner_told h.lines) (sym found_it) ∙ told in (
      with_plain k e,
      keeps,
      tt,
      subst (λ (b : Bool). Kept plan (whole (set s.words (owner_of at) (either b new cur)) s.homes (set s.views id (with_plain k e)))) (sym (eq-eqb cur n found_it))
          (subst (λ (f : Entry). Kept plan (whole (set s.words (owner_of at) new) s.homes (set s.views id (with_plain k f)))) (sym is)
          (subst (λ (o : Option ℕ). Kept plan (whole (set s.words (owner_of at) (owner_word (owner_behind k.view.thread act o))) s.homes (set s.views id (with_plain k (owning_entry k.view.thread step thing act o))))) (sym now)
          (mutex_kept plan s r id k seat live t.going x at here thing act step same bare (subst (Fine k.view.thread act) now fine)))),
      (
        refl,
        (λ f. record { live = f.live; size = f.size; opening = f.opening; own = f.own; blocks = f.blocks }),
        of_mutex plan s r id at x k (λ b. SetsOwner e b (owner_of at) n new k cur (with_plain k e)) seat known ((λ _. refl), λ ne. absurd (ne found_it)),
      ),
    ))
    (λ ne. (
      k,
      keeps,
      tt,
      subst (λ (b : Bool). Kept plan (whole (set s.words (owner_of at) (either b new cur)) s.homes (set s.views id k))) (sym (ne_eqb cur n ne))
          (subst (λ ws. Kept plan (whole ws s.homes (set s.views id k))) (sym (set-get_or s.words (owner_of at) 0)) (subst (λ vs. Kept plan (whole s.words s.homes vs)) (sym (set_again s.views id k seat)) r)),
      (refl, (λ f. f), of_mutex plan s r id at x k (λ b. SetsOwner e b (owner_of at) n new k cur k) seat known ((λ q. absurd (ne q)), λ _. refl)),
    ))

-- ---- what a call on a mutex is answered

fine_lock : (t : ℕ) (o : Option ℕ) → waits_on t (Mutex o) Lock ≡ false → Fine t Lock o
fine_lock t None ready = record { nothing = refl; ready = ready; behind = λ u is. inl (sym (number t u is)) }
  where
    number : (n m : ℕ) → Some n ≡ Some m → n ≡ m
    number n m e = cc
fine_lock t (Some w) ready = record { nothing = refl; ready = ready; behind = λ u is. inr is }

fine_unlock : (t : ℕ) (o : Option ℕ) → Fine t Unlock o
fine_unlock t None = record { nothing = refl; ready = refl; behind = λ u is. absurd (let h : None ≡ Some u = is in cc) }
fine_unlock t (Some w) = record { nothing = refl; ready = refl; behind = λ u is. by_test (w == t) u is }
  where
    by_test : (b : Bool) (u : ℕ) → cond b None (Some w) ≡ Some u → (u ≡ t) ⊎ (Some w ≡ Some u)
    by_test true u e = absurd (let h : None ≡ Some u = e in cc)
    by_test false u e = inr e

-- both acts are fine where they need not wait
pub fine_act : (t : ℕ) (act : Act) (o : Option ℕ) → IsOwningAct act → waits_on t (Mutex o) act ≡ false → Fine t act o
fine_act t act o is ready = ⊎_elim
    (λ (lock : act ≡ Lock). subst (λ a. waits_on t (Mutex o) a ≡ false → Fine t a o) (sym lock) (fine_lock t o) ready)
    (λ (unlock : act ≡ Unlock). subst (λ a. Fine t a o) (sym unlock) (fine_unlock t o))
    is

-- and give what such an act may give
gives_lock : (t : ℕ) (o : Option ℕ) → (mutex_gives t Lock o ≡ Done) ⊎ (mutex_gives t Lock o ≡ Failed LockOwned)
gives_lock t None = inl refl
gives_lock t (Some w) = inr refl

gives_unlock : (t : ℕ) (o : Option ℕ) → (mutex_gives t Unlock o ≡ Done) ⊎ (mutex_gives t Unlock o ≡ Failed UnlockForeign)
gives_unlock t None = inr refl
gives_unlock t (Some w) = by_test (w == t)
  where
    by_test : (b : Bool) → (cond b Done (Failed UnlockForeign) ≡ Done) ⊎ (cond b Done (Failed UnlockForeign) ≡ Failed UnlockForeign)
    by_test true = inl refl
    by_test false = inr refl

pub may_give : (generation slots t : ℕ) (thing : Reference) (act : Act) (o : Option ℕ) (r : Reply) → IsOwningAct act → r ≡ mutex_gives t act o → MayGive generation slots (On thing act) r
may_give generation slots t thing act o r is gives = ⊎_elim
    (λ (lock : act ≡ Lock). subst (λ a. r ≡ mutex_gives t a o → MayGive generation slots (On thing a) r) (sym lock) (λ e. subst (λ x. (x ≡ Done) ⊎ (x ≡ Failed LockOwned)) (sym e) (gives_lock t o)) gives)
    (λ (unlock : act ≡ Unlock). subst (λ a. r ≡ mutex_gives t a o → MayGive generation slots (On thing a) r) (sym unlock) (λ e. subst (λ x. (x ≡ Done) ⊎ (x ≡ Failed UnlockForeign)) (sym e) (gives_unlock t o)) gives)
    is

-- the act had to wait
pub must_wait : (k : Holder) (x : Id) (thing : Reference) (act : Act) (h : Handed) (n : ℕ) → thing.id ≡ x → OwnerSeen k x n → HasTurn k h false → waits_on k.view.thread (Mutex (owner_told h.lines n)) act ≡ true → MustWait k.view (On thing act)
must_wait k x thing act h n same seen has waits = let p = seen h has in (p.0, p.1, p.2, ap (λ o. is_waiting k.view.thread o act) (ap (found p.0.store) same ∙ p.3) ∙ waits)

-- the word is exchanged as an act makes it of the owner whom the table tells
pub does_deed : (plan : Plan) (count id at : ℕ) (x : Id) (k : Holder) (h : Handed) (n m step : ℕ) (thing : Reference) (act : Act) (e : Entry) (thread : ℕ) (o : Option ℕ) (d : Deed) → k.live ≡ true → Knows k (MutexAt x at) → HasTurn k h false → IsBare k → thing.id ≡ x
    → IsOwningAct act → thread ≡ k.view.thread → o ≡ owner_told h.lines n → IsDeed thread act o d → m ≡ owner_word d.owner → e ≡ bare_entry step (On thing act) (said d.reply) → MayExchange (SetsOwner e) plan count id k (owner_of at) n m
does_deed plan count id at x k h n m step thing act e thread o d live known has bare same owning thread_is o_is deed m_is e_is =
    let done : IsDeed k.view.thread act (owner_told h.lines n) d = subst (λ y. IsDeed y act (owner_told h.lines n) d) thread_is (subst (λ y. IsDeed thread act y d) o_is deed) in
    subst (λ y. MayExchange (SetsOwner e) plan count id k (owner_of at) n y) (sym (m_is ∙ ap owner_word done.1))
    (sets_owner plan count id at x k h n thing act step e live known has bare same (fine_act k.view.thread act (owner_told h.lines n) owning done.0) (e_is ∙ ap (λ r. bare_entry step (On thing act) r) done.2))
