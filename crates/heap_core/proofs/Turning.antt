-- The steps on the turn word keep the law.
use Rattle.std.proofs.Common.{◌≡◌, ◌≢◌, ◌<◌, ℕ, Bool, true, false, List, [], ◌∷◌, ◌++◌, length, set, get_or, Some, None, refl, sym, ap, ◌∙◌, subst, inl, inr, ⊎_elim, arith, append-nil, eqb, eq-eqb, ne_eqb, true≢false}
use Rattle.std.proofs.lemmas.List.{set-get_or, get_or-set_same}
use mathlib.Core.Option.{some, none, some-injective}
use mathlib.Core.Logic.{dite}
use native.Mathlib.Decide.{ℕ_discrete}
use prog.Atomic.{either}
use lib.ListN.{get_elem?}
use Rattle.atomic_table.specs.Table.{State, Me, Act, Allows, Valid, keeps, takes, gives, stepped, carried_after}
use Rattle.atomic_table.proofs.Lists.{set_again, set_here}
use Rattle.rb_shared.specs.Lists.{Has}
use Rattle.heap_core.specs.Places.{turn_word, tree_lock}
use Rattle.heap_core.specs.Handing.{Plan, Handed, Slot, Homes}
use Rattle.heap_core.specs.Blocks.{TheTurn}
use Rattle.heap_core.specs.View.{Holder, Busy, Doing, Idle, Turned, busy_at, with_busy}
use Rattle.heap_core.specs.Moment.{Moment, At}
use Rattle.heap_core.specs.Turns.{IsHanded, HasTurn, HasNone, Free, Taken, TurnStands, home_while}
use Rattle.heap_core.specs.Turning.{TriesTurn, LaysSlot, TakesSlot, GivesTurn, HasTried, out_as, with_out, with_turn, without_turn}
use Rattle.heap_core.specs.Rule.{Stands, Kept, moment}
use Rattle.heap_core.proofs.Doings.{busy_set, busy_else, busy_twice}
use Rattle.heap_core.proofs.Holders.{at_within, each_set}
use Rattle.heap_core.proofs.Owes.{whole}
use Rattle.heap_core.proofs.Rooms.{place_inside}
use Rattle.heap_core.proofs.Seats.{alone_at, note_same}
use Rattle.heap_core.proofs.Steps.{whole_part, tree_stays, quiet_step}

idle_turned : (h : Handed) (out : Bool) → Idle ≡ Turned h out → ⊥
idle_turned h out e = cc

same_what : (g h : Handed) (a b : Bool) → Turned g a ≡ Turned h b → g ≡ h
same_what g h a b e = cc

same_out : (g h : Handed) (a b : Bool) → Turned g a ≡ Turned h b → a ≡ b
same_out g h a b e = cc

module _ (plan : Plan) (s : State Slot Holder) (r : Kept plan s) (id : ℕ) (k : Holder) (seat : At s.views id k) (live : k.live ≡ true) where
  abbrev before : Moment
  before = moment plan s r.run r.lines r.blocks

  pub turn_fits : turn_word < length s.words
  turn_fits = let top = (r.laid.blocks_in TheTurn r.turn).0 in let within = r.laid.used_in in omega (arith, top, within)

  -- the word is stored, and the pass has the turn, or has it no more
  turn_step : (hs' : Homes) (n : ℕ) (busy : Busy) → TurnStands (moment plan (whole (set s.words turn_word n) hs' (set s.views id (with_busy k turn_word busy))) r.run r.lines (r.blocks ++ []))
      → Kept plan (whole (set s.words turn_word n) hs' (set s.views id (with_busy k turn_word busy)))
  turn_step hs' n busy stands = quiet_step plan s r hs' id k (with_busy k turn_word busy) turn_word n TheTurn seat live live refl refl r.turn (place_inside TheTurn) [] record {
    note = note_same k.view k.view refl;
    due = refl;
    late = r.late id k seat live;
    knows_more = λ c h. h;
    knows_in = λ c h. subst (λ bs. Has bs c) (sym (append-nil r.blocks)) (r.known id k c seat h);
    left = λ o h. whole_part k.own o h;
    single = λ x o p h g. r.laid.single x id k o p seat h g;
    counted = omega arith;
    was_own = λ x c h. absurd h;
    bounded = λ c h. absurd h;
    parted = λ x c d h. absurd h;
    doing = λ x far. busy_else turn_word busy x k.doing (λ is. true≢false (sym (eq-eqb x turn_word is) ∙ far));
    slot = λ off. absurd (true≢false off);
    anew = λ c hc is. subst (Stands (moment plan (whole (set s.words turn_word n) hs' (set s.views id (with_busy k turn_word busy))) r.run r.lines (r.blocks ++ []))) (sym (alone_at plan s r TheTurn r.turn tt (λ h. h) c hc is)) stands;
    new = λ c h. absurd h;
    no_thing = λ c h. absurd h;
    tree = tree_stays s r id k (with_busy k turn_word busy) seat live (λ c h. h) (busy_else turn_word busy tree_lock k.doing (λ is. let z : 16 ≡ 15 = is in omega (arith, z)));
    grows = λ c h. absurd h;
    linked = λ shape place h. absurd h;
    once = λ home link to number h. absurd h;
    few = λ home link to number h. absurd h;
    deep = λ shape place h. absurd h;
    shapes_on = λ shape h. h;
    shows = λ h e. r.shows id k seat h e;
    shapes_new = λ shape place h. absurd h;
    homes = λ c h. absurd h;
    one_shape = λ shape place to h. absurd h;
  }

  -- what is so where the pass has the turn
  pub record Had (h : Handed) (out : Bool) : Type 0 where
    pub word : get_or s.words turn_word 0 ≡ 1
    pub going : k.view.ended ≡ false
    pub home : s.homes ≡ home_while out
    pub handed : IsHanded before h
    pub others : (j : ℕ) (u : Holder) → j ≢ id → At s.views j u → u.live ≡ true → HasNone u

  pub had : (h : Handed) (out : Bool) → HasTurn k h out → Had h out
  had h out has = ⊎_elim
      (λ (f : Free before). absurd (idle_turned h out (sym (f.nobody id k seat live) ∙ has)))
      (λ (t : Taken before). dite (ℕ_discrete id t.holder)
      (λ is.
      let same : k ≡ t.who = some-injective k t.who (sym seat ∙ (ap (get_elem? s.views) is ∙ t.there)) in
      let both : Turned h out ≡ Turned t.what t.out = sym has ∙ (ap (λ (u : Holder). busy_at turn_word u.doing) same ∙ t.has) in record {
        word = t.word;
        going = ap (λ (u : Holder). u.view.ended) same ∙ t.going;
        home = t.home ∙ ap home_while (sym (same_out h t.what out t.out both));
        handed = subst (IsHanded before) (sym (same_what h t.what out t.out both)) t.handed;
        others = λ j u ne. t.others j u (λ e. ne (e ∙ sym is));
      })
      (λ ne. absurd (idle_turned h out (sym (t.others id k ne seat live) ∙ has))))
      (r.each TheTurn r.turn)

  -- it is had, with this, where the slot is then so
  pub had_step : (hs' : Homes) (n : ℕ) (busy : Busy) (h : Handed) (out : Bool) → n ≡ 1 → k.view.ended ≡ false → busy ≡ Turned h out → hs' ≡ home_while out → IsHanded before h
      → ((j : ℕ) (u : Holder) → j ≢ id → At s.views j u → u.live ≡ true → HasNone u) → Kept plan (whole (set s.words turn_word n) hs' (set s.views id (with_busy k turn_word busy)))
  had_step hs' n busy h out one going is home handed others = turn_step hs' n busy (inr record {
    word = get_or-set_same s.words turn_word n 0 turn_fits ∙ one;
    holder = id;
    who = with_busy k turn_word busy;
    there = set_here s.views id (with_busy k turn_word busy) (at_within s.views id k seat);
    live = live;
    going = going;
    what = h;
    out = out;
    has = busy_set turn_word busy k.doing ∙ is;
    home = home;
    handed = handed;
    others = λ j u ne a. each_set (λ j u. j ≢ id → u.live ≡ true → HasNone u) s.views id (with_busy k turn_word busy) (λ ne. absurd (ne refl)) (λ j u _ a ne l. others j u ne a l) j u a ne;
  })

  -- nobody has it
  pub free_step : (hs' : Homes) (h : Handed) → hs' ≡ some (Some h) ∷ [] → IsHanded before h → ((j : ℕ) (u : Holder) → j ≢ id → At s.views j u → u.live ≡ true → HasNone u)
      → Kept plan (whole (set s.words turn_word 0) hs' (set s.views id (without_turn k)))
  free_step hs' h home handed others = turn_step hs' 0 Idle (inl record {
    word = get_or-set_same s.words turn_word 0 0 turn_fits;
    what = h;
    home = home;
    handed = handed;
    nobody = each_set (λ j u. u.live ≡ true → HasNone u) s.views id (without_turn k) (λ _. busy_set turn_word Idle k.doing) (λ j u ne a. others j u ne a);
  })

-- ---- the turn is tried

-- what a seat is told, and what the heap is then
abbrev Answers : (plan : Plan) (s : State Slot Holder) (id : ℕ) (me : Me Slot Holder) → Type 0
Answers plan s id me =
    (w : Holder) × (a : Act Slot) × Valid s.homes me.1 a × Kept plan (stepped s turn_word (either (eqb (get_or s.words turn_word 0) 0) 1 (get_or s.words turn_word 0)) id me.1 w a)
    × TriesTurn me (get_or s.words turn_word 0) (w, carried_after me.1 a)

pub tries_turn : (plan : Plan) (count id : ℕ) (me : Me Slot Holder) → me.0.live ≡ true → me.0.view.ended ≡ false → Allows (Kept plan) count id me turn_word (λ n. either (eqb n 0) 1 n) (TriesTurn me)
tries_turn plan count id me live going s r size seat small = ⊎_elim free taken (r.each TheTurn r.turn)
  where
    n : ℕ
    n = get_or s.words turn_word 0

    free : Free (moment plan s r.run r.lines r.blocks) → Answers plan s id me
    free f = (
      with_busy me.0 turn_word (Turned f.what true),
      takes 0 (Some f.what),
      ap (λ (hs : Homes). get_elem? hs 0) f.home,
      subst (λ (b : Bool). Kept plan (whole (set s.words turn_word (either b 1 n)) (set s.homes 0 none) (set s.views id (with_busy me.0 turn_word (Turned f.what true))))) (sym (eq-eqb n 0 f.word))
          (had_step plan s r id me.0 seat live (set s.homes 0 none) 1 (Turned f.what true) f.what true refl going refl (ap (λ (hs : Homes). set hs 0 none) f.home) f.handed (λ j u _ a l. f.nobody j u a l)),
      ((λ _. (f.what, refl)), λ ne. absurd (ne f.word)),
    )

    taken : Taken (moment plan s r.run r.lines r.blocks) → Answers plan s id me
    taken t =
        let ne : n ≢ 0 = λ is. let one = t.word in omega (arith, one, is) in (
          me.0,
          keeps,
          tt,
          subst (λ (b : Bool). Kept plan (whole (set s.words turn_word (either b 1 n)) s.homes (set s.views id me.0))) (sym (ne_eqb n 0 ne))
              (subst (λ ws. Kept plan (whole ws s.homes (set s.views id me.0))) (sym (set-get_or s.words turn_word 0)) (subst (λ vs. Kept plan (whole s.words s.homes vs)) (sym (set_again s.views id me.0 seat)) r)),
          ((λ is. absurd (ne is)), λ _. refl),
        )

-- ---- the slot is laid home, and taken from there

lays_at : (plan : Plan) (count id : ℕ) (k : Holder) (h : Handed) → k.live ≡ true → HasTurn k h true → Allows (Kept plan) count id (k, (0, None) ∷ []) turn_word (λ n. n) (λ _. LaysSlot (k, (0, None) ∷ []))
lays_at plan count id k h live has s r size seat small =
    let t = had plan s r id k seat live h true has in (
      with_out k false,
      gives,
      tt,
      had_step plan s r id k seat live (set s.homes 0 (some None)) (get_or s.words turn_word 0) (out_as false (busy_at turn_word k.doing)) h false t.word t.going (ap (out_as false) has) (ap (λ (hs : Homes). set hs 0 (some None)) t.home) t.handed t.others,
      refl,
    )

pub lays_slot : (plan : Plan) (count id : ℕ) (me : Me Slot Holder) (h : Handed) → me.1 ≡ (0, None) ∷ [] → me.0.live ≡ true → HasTurn me.0 h true → Allows (Kept plan) count id me turn_word (λ n. n) (λ _. LaysSlot me)
lays_slot plan count id me h carries live has = subst (λ (c : List (ℕ × Slot)). Allows (Kept plan) count id (me.0, c) turn_word (λ n. n) (λ _. LaysSlot (me.0, c))) (sym carries) (lays_at plan count id me.0 h live has)

takes_at : (plan : Plan) (count id : ℕ) (k : Holder) (h : Handed) → k.live ≡ true → HasTurn k h false → Allows (Kept plan) count id (k, []) turn_word (λ n. n) (λ _. TakesSlot (k, []))
takes_at plan count id k h live has s r size seat small =
    let t = had plan s r id k seat live h false has in (
      with_out k true,
      takes 0 None,
      ap (λ (hs : Homes). get_elem? hs 0) t.home,
      had_step plan s r id k seat live (set s.homes 0 none) (get_or s.words turn_word 0) (out_as true (busy_at turn_word k.doing)) h true t.word t.going (ap (out_as true) has) (ap (λ (hs : Homes). set hs 0 none) t.home) t.handed t.others,
      refl,
    )

pub takes_slot : (plan : Plan) (count id : ℕ) (me : Me Slot Holder) (h : Handed) → me.1 ≡ [] → me.0.live ≡ true → HasTurn me.0 h false → Allows (Kept plan) count id me turn_word (λ n. n) (λ _. TakesSlot me)
takes_slot plan count id me h carries live has = subst (λ (c : List (ℕ × Slot)). Allows (Kept plan) count id (me.0, c) turn_word (λ n. n) (λ _. TakesSlot (me.0, c))) (sym carries) (takes_at plan count id me.0 h live has)

-- ---- the turn is given back, with no entry

gives_at : (plan : Plan) (count id : ℕ) (k : Holder) (h : Handed) → k.live ≡ true → HasTurn k h true → Allows (Kept plan) count id (k, (0, Some h) ∷ []) turn_word (λ _. 0) (λ _. GivesTurn (k, (0, Some h) ∷ []))
gives_at plan count id k h live has s r size seat small =
    let t = had plan s r id k seat live h true has in (
      without_turn k,
      gives,
      tt,
      free_step plan s r id k seat live (set s.homes 0 (some (Some h))) h (ap (λ (hs : Homes). set hs 0 (some (Some h))) t.home) t.handed t.others,
      refl,
    )

pub gives_turn : (plan : Plan) (count id : ℕ) (me : Me Slot Holder) (h : Handed) → me.1 ≡ (0, Some h) ∷ [] → me.0.live ≡ true → HasTurn me.0 h true → Allows (Kept plan) count id me turn_word (λ _. 0) (λ _. GivesTurn me)
gives_turn plan count id me h carries live has = subst (λ (c : List (ℕ × Slot)). Allows (Kept plan) count id (me.0, c) turn_word (λ _. 0) (λ _. GivesTurn (me.0, c))) (sym carries) (gives_at plan count id me.0 h live has)

-- ---- what one step after another leaves of a seat

pub busy_again : (k : Holder) (a b : Busy) → with_busy (with_busy k turn_word a) turn_word b ≡ with_busy k turn_word b
busy_again k a b = ap (λ (ds : List Doing). record k { doing = ds }) (busy_twice turn_word a b k.doing)

-- where the slot is taken or laid, the turn is had with the same
pub out_has : (k : Holder) (h : Handed) (was out : Bool) → HasTurn k h was → HasTurn (with_out k out) h out
out_has k h was out has = busy_set turn_word (out_as out (busy_at turn_word k.doing)) k.doing ∙ ap (out_as out) has

-- What a seat is that tried the turn and had it, and took what was handed on out of its slot.
pub record Tried (w : Me Slot Holder) (h : Handed) : Type 0 where
  pub carries : w.1 ≡ (0, None) ∷ []
  pub live : w.0.live ≡ true
  pub has : HasTurn w.0 h true

pub tried_has : (m m' w : Me Slot Holder) (h : Handed) → m' ≡ (with_busy m.0 turn_word (Turned h true), (0, Some h) ∷ m.1) → w ≡ (m'.0, (0, None) ∷ []) → m.0.live ≡ true → Tried w h
tried_has m m' w h tried emptied live =
    let same : w.0 ≡ with_busy m.0 turn_word (Turned h true) = ap (λ (x : Me Slot Holder). x.0) emptied ∙ ap (λ (x : Me Slot Holder). x.0) tried in record {
      carries = ap (λ (x : Me Slot Holder). x.1) emptied;
      live = ap (λ (u : Holder). u.live) same ∙ live;
      has = ap (λ (u : Holder). busy_at turn_word u.doing) same ∙ busy_set turn_word (Turned h true) m.0.doing;
    }

-- and laid the slot home
pub tried_is : (m m' w v : Me Slot Holder) (h : Handed) (o : Slot) → m' ≡ (with_busy m.0 turn_word (Turned h true), (0, Some h) ∷ m.1) → m'.1 ≡ (0, o) ∷ [] → w ≡ (m'.0, (0, None) ∷ []) → LaysSlot w v → HasTried o m.0 v.0
tried_is m m' w v h o tried taken emptied laid =
    let same : w.0 ≡ with_busy m.0 turn_word (Turned h true) = ap (λ (x : Me Slot Holder). x.0) emptied ∙ ap (λ (x : Me Slot Holder). x.0) tried in
    let found : o ≡ Some h = ap first (sym taken ∙ ap (λ (x : Me Slot Holder). x.1) tried) in
    subst (λ x. HasTried x m.0 v.0) (sym found)
    (ap (λ (x : Me Slot Holder). x.0) laid ∙ (ap (λ (u : Holder). with_out u false) same
    ∙ (ap (λ b. with_busy (with_busy m.0 turn_word (Turned h true)) turn_word (out_as false b)) (busy_set turn_word (Turned h true) m.0.doing) ∙ busy_again m.0 (Turned h true) (Turned h false))))
  where
    first : List (ℕ × Slot) → Slot
    first [] = None
    first (x ∷ xs) = x.1

-- the slot was taken, and the turn given back
pub given_is : (k w : Holder) → w ≡ without_turn (with_out k true) → w ≡ without_turn k
given_is k w is = is ∙ busy_again k (out_as true (busy_at turn_word k.doing)) Idle

-- a pass that took the turn has it
pub had_has : (k k' : Holder) (h : Handed) → k' ≡ with_turn k h → HasTurn k' h false
had_has k k' h is = ap (λ (u : Holder). busy_at turn_word u.doing) is ∙ busy_set turn_word (Turned h false) k.doing

-- What a seat is whose slot was taken and filled again.
pub record Back (m m' : Me Slot Holder) (h g : Handed) : Type 0 where
  pub carries : m'.1 ≡ (0, Some g) ∷ []
  pub live : m'.0.live ≡ true
  pub has : HasTurn m'.0 h true
  pub own : m'.0.own ≡ m.0.own
  pub ahead : m'.0.ahead ≡ m.0.ahead
  pub view : m'.0.view ≡ m.0.view
  pub thread : m'.0.view.thread ≡ m.0.view.thread

pub handed_back : (m m' : Me Slot Holder) (h g : Handed) → m' ≡ (with_out m.0 true, (0, Some g) ∷ []) → m.0.live ≡ true → HasTurn m.0 h false → Back m m' h g
handed_back m m' h g put live has = record {
  carries = ap (λ (x : Me Slot Holder). x.1) put;
  live = ap (λ (x : Me Slot Holder). x.0.live) put ∙ live;
  has = ap (λ (x : Me Slot Holder). busy_at turn_word x.0.doing) put ∙ out_has m.0 h false true has;
  own = ap (λ (x : Me Slot Holder). x.0.own) put;
  ahead = ap (λ (x : Me Slot Holder). x.0.ahead) put;
  view = ap (λ (x : Me Slot Holder). x.0.view) put;
  thread = ap (λ (x : Me Slot Holder). x.0.view.thread) put;
}

pub given_back : (m m' w : Me Slot Holder) (g : Handed) → m' ≡ (with_out m.0 true, (0, Some g) ∷ []) → GivesTurn m' w → w.0 ≡ without_turn m.0
given_back m m' w g put left = given_is m.0 w.0 (ap (λ (x : Me Slot Holder). x.0) left ∙ ap (λ (x : Me Slot Holder). without_turn x.0) put)
