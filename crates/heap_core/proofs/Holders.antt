-- Facts of each seat, after one changed, one came and one was spent; and what all seats own.
use Rattle.std.proofs.Common.{◌≡◌, ◌≢◌, ◌⊎◌, ℕ, zero, suc, ◌+◌, Bool, true, false, List, [], ◌∷◌, ◌++◌, length, set, Some, None, refl, sym, ap, ◌∙◌, subst, inl, inr, ⊎_elim, arith}
use mathlib.Core.Option.{some, some-injective, some-ne-none}
use lib.ListN.{get_elem?}
use Rattle.atomic_table.proofs.Lists.{at_set, set_here, set_else}
use mathlib.Core.Logic.{dite}
use native.Mathlib.Decide.{ℕ_discrete}
use Rattle.rb_shared.specs.History.{History}
use Rattle.heap_core.specs.Places.{turn_word}
use Rattle.heap_core.specs.Handing.{Handed}
use Rattle.heap_core.specs.Blocks.{Block, words_of_shapes}
use Rattle.heap_core.specs.View.{Holder, busy_at, held}
use Rattle.heap_core.specs.Moment.{At}
use Rattle.heap_core.specs.Turns.{HasTurn}
use Rattle.heap_core.specs.Rule.{Claims, Apart, owned}

pub at_within : {A : Type 0} (l : List A) (j : ℕ) (b : A) → get_elem? l j ≡ some b → Rattle.std.specs.Prelude.◌<◌ j (length l)
at_within [] j b e = absurd (some-ne-none b (sym e))
at_within (x ∷ xs) zero b e = omega arith
at_within (x ∷ xs) (suc j) b e = let w = at_within xs j b e in omega (arith, w)

pub each_set : (P : ℕ → Holder → Type 0) (views : List Holder) (id : ℕ) (w : Holder) → P id w → ((j : ℕ) (k : Holder) → j ≢ id → At views j k → P j k)
    → (j : ℕ) (k : Holder) → At (set views id w) j k → P j k
each_set P views id w mine others j k at = ⊎_elim
    (λ (t : (j ≡ id) × (w ≡ k)). subst (λ (x : ℕ × Holder). P x.0 x.1) (λ i. (sym t.0 i, t.1 i)) mine)
    (λ (t : (j ≢ id) × At views j k). others j k t.0 t.1)
    (at_set views id j w k at)

pub snoc_at : (views : List Holder) (w : Holder) (j : ℕ) (k : Holder) → At (views ++ w ∷ []) j k → At views j k ⊎ ((j ≡ length views) × (w ≡ k))
snoc_at [] w zero k e = inr (refl, some-injective w k e)
snoc_at [] w (suc j) k e = absurd (some-ne-none k (sym e))
snoc_at (x ∷ xs) w zero k e = inl e
snoc_at (x ∷ xs) w (suc j) k e = ⊎_elim (λ t. inl t) (λ (t : (j ≡ length xs) × (w ≡ k)). inr (ap suc t.0, t.1)) (snoc_at xs w j k e)

-- a seat that changed, and one that came
pub each_two : (P : ℕ → Holder → Type 0) (views : List Holder) (id : ℕ) (k' w : Holder) → P id k' → P (length views) w → ((j : ℕ) (k : Holder) → j ≢ id → At views j k → P j k)
    → (j : ℕ) (k : Holder) → At (set views id k' ++ w ∷ []) j k → P j k
each_two P views id k' w mine new others j k a = ⊎_elim
    (λ (t : At (set views id k') j k). each_set P views id k' mine others j k t)
    (λ (t : (j ≡ length (set views id k')) × (w ≡ k)). subst (λ (x : ℕ × Holder). P x.0 x.1) (λ i. (sym (t.0 ∙ set_length views id k') i, t.1 i)) new)
    (snoc_at (set views id k') w j k a)
  where
    set_length : (xs : List Holder) (i : ℕ) (x : Holder) → length (set xs i x) ≡ length xs
    set_length [] i x = refl
    set_length (y ∷ ys) zero x = refl
    set_length (y ∷ ys) (suc i) x = ap suc (set_length ys i x)

-- a seat that changed, and one that was spent
pub each_both : (P : ℕ → Holder → Type 0) (views : List Holder) (id other : ℕ) (k' w : Holder) → P id k' → P other w → ((j : ℕ) (k : Holder) → j ≢ id → j ≢ other → At views j k → P j k)
    → (j : ℕ) (k : Holder) → At (set (set views id k') other w) j k → P j k
each_both P views id other k' w mine theirs others j k a = each_set (λ j k. P j k) (set views id k') other w theirs
    (λ l u far b. each_set (λ l u. l ≢ other → P l u) views id k' (λ _. mine) (λ i x ne c apart. others i x ne apart c) l u b far) j k a

-- ---- a history that is shown

pub none_shown : (h : History) → None ≡ Some h → ⊥
none_shown h e = cc

-- ---- who claims a thread

pub apart_set : (views : List Holder) (id : ℕ) (k w : Holder) → Apart views → At views id k
    → ((n : ℕ) → Claims w n → Claims k n ⊎ ((j : ℕ) (u : Holder) → At views j u → Claims u n → ⊥)) → Apart (set views id w)
apart_set views id k w apart at new i j n a b ai bj ca cb =
    each_set (λ i a. Claims a n → i ≡ j) views id w
    (λ cw. each_set (λ j b. Claims b n → id ≡ j) views id w (λ _. refl)
    (λ l u ne au cu. ⊎_elim (λ (c : Claims k n). apart id l n k u at au c cu) (λ (nobody : (j : ℕ) (u : Holder) → At views j u → Claims u n → ⊥). absurd (nobody l u au cu)) (new n cw)) j b bj cb)
    (λ l u ne au cu. each_set (λ j b. Claims b n → l ≡ j) views id w
    (λ cw. ⊎_elim (λ (c : Claims k n). apart l id n u k au at cu c) (λ (nobody : (j : ℕ) (u : Holder) → At views j u → Claims u n → ⊥). absurd (nobody l u au cu)) (new n cw))
    (λ m x nel ax cx. apart l m n u x au ax cu cx) j b bj cb)
    i a ai ca

-- ---- who has the turn

-- the seat that changes has the turn if it had it
pub keeps_set : (views : List Holder) (id : ℕ) (k w : Holder) → At views id k → w.live ≡ true → busy_at turn_word w.doing ≡ busy_at turn_word k.doing → (k.view.ended ≡ false → w.view.ended ≡ false)
    → (j : ℕ) (u : Holder) → At views j u → u.live ≡ true → u.view.ended ≡ false → (h : Handed) (out : Bool) → HasTurn u h out
    → (u' : Holder) × At (set views id w) j u' × (u'.live ≡ true) × (u'.view.ended ≡ false) × HasTurn u' h out
keeps_set views id k w at alive same going j u a l g h out has = dite (ℕ_discrete j id)
    (λ is. let q : k ≡ u = some-injective k u (sym at ∙ (ap (get_elem? views) (sym is) ∙ a)) in (
      w,
      subst (λ x. At (set views id w) x w) (sym is) (set_here views id w (at_within views id k at)),
      alive,
      going (ap (λ (x : Holder). x.view.ended) q ∙ g),
      same ∙ (ap (λ (x : Holder). busy_at turn_word x.doing) q ∙ has),
    ))
    (λ ne. (u, set_else views id j w ne ∙ a, l, g, has))

-- ---- what is owned

pub owned_set : (views : List Holder) (id : ℕ) (k k' : Holder) → At views id k → owned (set views id k') + held k ≡ owned views + held k'
owned_set [] id k k' e = absurd (some-ne-none k (sym e))
owned_set (u ∷ us) zero k k' e = let same : held u ≡ held k = ap held (some-injective u k e) in omega (arith, same)
owned_set (u ∷ us) (suc id) k k' e = omega (arith, owned_set us id k k' e)

pub owned_snoc : (views : List Holder) (w : Holder) → owned (views ++ w ∷ []) ≡ owned views + held w
owned_snoc [] w = omega arith
owned_snoc (k ∷ ks) w = omega (arith, owned_snoc ks w)

pub shapes_append : (bs cs : List Block) → words_of_shapes (bs ++ cs) ≡ words_of_shapes bs + words_of_shapes cs
shapes_append [] cs = omega arith
shapes_append (b ∷ bs) cs = let more = shapes_append bs cs in omega (arith, more)
