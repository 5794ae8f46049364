-- The steps on a lock that is a word alone keep the law.
use Rattle.std.proofs.Common.{◌≡◌, ℕ, Bool, true, List, [], ◌++◌, set, get_or, refl, sym, ◌∙◌, subst, ⊎_elim, arith, append-nil, eq-eqb, ne_eqb, true≢false}
use Rattle.std.proofs.lemmas.List.{set-get_or, get_or-set_same}
use mathlib.Core.Logic.{dite}
use native.Mathlib.Decide.{ℕ_discrete}
use prog.Atomic.{either}
use Rattle.atomic_table.specs.Table.{State, keeps}
use Rattle.atomic_table.proofs.Lists.{set_again}
use Rattle.rb_shared.specs.Lists.{Has}
use Rattle.rb_shared.proofs.Runs.{has_front, has_behind}
use Rattle.shared_run.proofs.Events.{has_either}
use Rattle.heap_core.specs.Places.{tree_lock}
use Rattle.heap_core.specs.Handing.{Plan, Slot}
use Rattle.heap_core.specs.Blocks.{Block, LockAt, Inside}
use Rattle.heap_core.specs.View.{Holder, Busy, Idle, Locked, Knows, busy_at, set_busy, with_busy, with_more}
use Rattle.heap_core.specs.Moment.{At}
use Rattle.heap_core.specs.Locks.{LockStands}
use Rattle.heap_core.specs.Rule.{Stands, Kept, moment}
use Rattle.heap_core.specs.Telling.{MayExchange, MayStore}
use Rattle.heap_core.specs.Locking.{TriesLock, GivesLock}
use Rattle.heap_core.proofs.Doings.{busy_set, busy_else}
use Rattle.heap_core.proofs.Learning.{fits_more, blocks_fit}
use Rattle.heap_core.proofs.Holders.{each_set}
use Rattle.heap_core.proofs.Owes.{whole}
use Rattle.heap_core.proofs.Rooms.{place_inside}
use Rattle.heap_core.proofs.Seats.{alone_at, note_same, only_block}
use Rattle.heap_core.proofs.Steps.{whole_part, quiet_step}

lock_is : (at : ℕ) (b : Block) → LockAt at ≡ b → (P : Block → Type 0) → P (LockAt at) → P b
lock_is at b e P p = subst P e p

idle_locked : Idle ≡ Locked → ⊥
idle_locked e = cc

module _ (plan : Plan) (s : State Slot Holder) (r : Kept plan s) (id : ℕ) (k : Holder) (at : ℕ) (seat : At s.views id k) (live : k.live ≡ true) (here : Has r.blocks (LockAt at)) where
  abbrev locked : Busy → List Block → Holder
  locked busy bs = with_more (with_busy k at busy) bs

  -- the word is stored, and the pass has the lock and learnt blocks, or has it no more
  lock_step : (n : ℕ) (busy : Busy) (bs : List Block) → ((c : Block) → Has bs c → Has r.blocks c) → (busy ≡ Locked → (c : Block) → Has r.blocks c → Has bs c)
      → LockStands (moment plan (whole (set s.words at n) s.homes (set s.views id (locked busy bs))) r.run r.lines (r.blocks ++ [])) at at
      → Kept plan (whole (set s.words at n) s.homes (set s.views id (locked busy bs)))
  lock_step n busy bs there all stands = quiet_step plan s r s.homes id k (locked busy bs) at n (LockAt at) seat live live refl refl here (place_inside (LockAt at)) [] record {
    note = note_same k.view k.view refl;
    due = refl;
    late = r.late id k seat live;
    knows_more = λ c h. has_front k.blocks bs c h;
    knows_in = λ c h. subst (λ ds. Has ds c) (sym (append-nil r.blocks)) (⊎_elim (λ (was : Has k.blocks c). r.known id k c seat was) (λ (more : Has bs c). there c more) (has_either k.blocks bs c h));
    left = λ o h. whole_part k.own o h;
    single = λ x o p h g. r.laid.single x id k o p seat h g;
    counted = omega arith;
    was_own = λ x c h. absurd h;
    bounded = λ c h. absurd h;
    parted = λ x c d h. absurd h;
    slot = λ off. refl;
    doing = λ x far. busy_else at busy x k.doing (λ is. true≢false (sym (eq-eqb x at is) ∙ far));
    anew = λ c hc is. lock_is at c (sym (alone_at plan s r (LockAt at) here tt (λ h. h) c hc is)) (Stands (moment plan (whole (set s.words at n) s.homes (set s.views id (locked busy bs))) r.run r.lines (r.blocks ++ []))) stands;
    new = λ c h. absurd h;
    no_thing = λ c h. absurd h;
    tree = λ has c h t. dite (ℕ_discrete tree_lock at)
        (λ is. has_behind k.blocks bs c (all (sym (busy_set at busy k.doing) ∙ subst (λ x. busy_at x (set_busy (record { at = at; busy = busy }) k.doing) ≡ Locked) is has) c h))
        (λ ne. has_front k.blocks bs c (r.tree id k seat live (sym (busy_else at busy tree_lock k.doing ne) ∙ has) c h t));
    grows = λ c h. absurd h;
    linked = λ shape place h. absurd h;
    once = λ home link to number h. absurd h;
    few = λ home link to number h. absurd h;
    deep = λ shape place h. absurd h;
    shapes_on = λ shape h. h;
    shows = λ h e. r.shows id k seat h e;
    shapes_new = λ shape place h. absurd h;
    homes = λ c h. absurd h;
    one_shape = λ shape place to h. absurd h;
  }

-- what is known of the lock is that of its block
of_lock : (plan : Plan) (s : State Slot Holder) (r : Kept plan s) (id at : ℕ) (k : Holder) (T : Block → Type 0) → At s.views id k → Knows k (LockAt at) → T (LockAt at) → (b : Block) → Knows k b → Inside at b → T b
of_lock plan s r id at k T seat known t b kb ib = subst T (only_block plan s r id at k (LockAt at) b seat known kb (place_inside (LockAt at)) ib) t

-- the lock is tried
pub tries_lock : (plan : Plan) (count id at : ℕ) (k : Holder) → k.live ≡ true → Knows k (LockAt at) → MayExchange TriesLock plan count id k at 0 1
tries_lock plan count id at k live known s r size seat small =
    let n : ℕ = get_or s.words at 0 in
    let here = r.known id k (LockAt at) seat known in
    let rule = r.each (LockAt at) here in
    let top = (r.laid.blocks_in (LockAt at) here).0 in
    let within = r.laid.used_in in
    let k' : Holder = with_more (with_busy k at Locked) r.blocks in
    dite (ℕ_discrete n 0)
    (λ is. (
      k',
      keeps,
      tt,
      subst (λ (b : Bool). Kept plan (whole (set s.words at (either b 1 n)) s.homes (set s.views id k'))) (sym (eq-eqb n 0 is))
          (lock_step plan s r id k at seat live here 1 Locked r.blocks (λ c h. h) (λ _ c h. h) (
            id,
            each_set (λ j u. u.live ≡ true → busy_at at u.doing ≡ Locked → (get_or (set s.words at 1) at 0 ≡ 1) × (j ≡ id)) s.views id k'
                (λ _ _. (get_or-set_same s.words at 1 0 (omega (arith, top, within)), refl))
                (λ j u _ a l busy. let one = (rule.1 j u a l busy).0 in absurd (omega (arith, one, is))),
          )),
      (
        refl,
        (λ f. fits_more k r.blocks (with_busy k at Locked) refl refl refl refl f (blocks_fit plan s r id k seat live)),
        of_lock plan s r id at k (λ b. TriesLock b at 0 1 k n k') seat known ((λ _. (r.blocks, refl)), λ ne. absurd (ne is)),
      ),
    ))
    (λ ne. (
      k,
      keeps,
      tt,
      subst (λ (b : Bool). Kept plan (whole (set s.words at (either b 1 n)) s.homes (set s.views id k))) (sym (ne_eqb n 0 ne))
          (subst (λ ws. Kept plan (whole ws s.homes (set s.views id k))) (sym (set-get_or s.words at 0)) (subst (λ vs. Kept plan (whole s.words s.homes vs)) (sym (set_again s.views id k seat)) r)),
      (refl, (λ f. f), of_lock plan s r id at k (λ b. TriesLock b at 0 1 k n k) seat known ((λ is. absurd (ne is)), λ _. refl)),
    ))

-- it is given back by the pass that has it
pub gives_lock : (plan : Plan) (count id at : ℕ) (k : Holder) → k.live ≡ true → Knows k (LockAt at) → busy_at at k.doing ≡ Locked → MayStore GivesLock plan count id k at 0
gives_lock plan count id at k live known has s r size seat small =
    let here = r.known id k (LockAt at) seat known in
    let rule = r.each (LockAt at) here in
    let mine = (rule.1 id k seat live has).1 in (
      with_busy k at Idle,
      keeps,
      tt,
      subst (λ bs. Kept plan (whole (set s.words at 0) s.homes (set s.views id (record k { blocks = bs; doing = set_busy (record { at = at; busy = Idle }) k.doing })))) (append-nil k.blocks)
          (lock_step plan s r id k at seat live here 0 Idle [] (λ c h. absurd h) (λ e. absurd (idle_locked e)) (
            id,
            each_set (λ j u. u.live ≡ true → busy_at at u.doing ≡ Locked → (get_or (set s.words at 0) at 0 ≡ 1) × (j ≡ id)) s.views id (with_more (with_busy k at Idle) [])
                (λ _ busy. absurd (idle_locked (sym (busy_set at Idle k.doing) ∙ busy)))
                (λ j u ne a l busy. absurd (ne ((rule.1 j u a l busy).1 ∙ sym mine))),
          )),
      (
        refl,
        (λ f. record { live = f.live; size = f.size; opening = f.opening; own = f.own; blocks = f.blocks }),
        of_lock plan s r id at k (λ b. GivesLock b at 0 0 k 0 (with_busy k at Idle)) seat known refl,
      ),
    )
