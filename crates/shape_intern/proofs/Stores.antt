-- Words that are laid at the front of the pass's own.
use Rattle.std.proofs.Common.{◌≡◌, ◌≤◌, ◌<◌, ◌-◌, ℕ, zero, suc, ◌+◌, ◌&&◌, nat_le, nat_lt, Bool, true, cond, List, [], ◌∷◌, ◌++◌, length, take, drop, set, get_or, refl, sym, ap, ◌∙◌, subst, inl, arith, le-leb, lt-ltb}
use Rattle.atomic_table.specs.Seated.{TableId}
use Rattle.rb_shared.specs.Lists.{Has}
use Rattle.heap_core.specs.declared.pass.Heap.{Heap}
use Rattle.heap_core.specs.declared.pass.HeapPass.{HeapPass}
use Rattle.heap_core.specs.Heaps.{IsOf, holder}
use Rattle.heap_core.specs.View.{Holder, InOwn, Region, with_stored}
use Rattle.shape_intern.specs.Interning.{OwnsOne, with_own}

-- a region ends within the heap
pub region_below : {K : Type 0} (heap : Heap K) (p : HeapPass) (at : ℕ) (ws : List ℕ) → IsOf heap p → OwnsOne (holder p) at ws → at + length ws ≤ 134217728
region_below heap p at ws of own =
    let words = ap (λ (t : TableId). t.words) of in
    let most = heap.most in
    let end = p.rests.1.own (record { at = at; words = ws }) (subst (λ os. Has os (record { at = at; words = ws })) (sym own) (inl refl)) in
    omega (arith, words, most, end)

pub in_region : (k : Holder) (at i : ℕ) (ws : List ℕ) → OwnsOne k at ws → i < length ws → InOwn (at + i) k
in_region k at i ws own lt = (record { at = at; words = ws }, subst (λ os. Has os (record { at = at; words = ws })) (sym own) (inl refl), (omega arith, omega (arith, lt)))

-- one word is stored
pub one_stored : (k : Holder) (at i x : ℕ) (ws : List ℕ) → i < length ws → with_stored (with_own k at ws) (at + i) x ≡ with_own k at (set ws i x)
one_stored k at i x ws lt =
    let low : at ≤ at + i = omega arith in
    let high : at + i < at + length ws = omega (arith, lt) in
    let holds : (nat_le at (at + i) && nat_lt (at + i) (at + length ws)) ≡ true = ap (λ b. b && nat_lt (at + i) (at + length ws)) (le-leb at (at + i) low) ∙ lt-ltb (at + i) (at + length ws) high in
    ap (λ (b : Bool). record k { own = (cond b (record { at = at; words = set ws (at + i - at) x }) (record { at = at; words = ws })) ∷ [] }) holds
    ∙ ap (λ n. with_own k at (set ws n x)) (let z : at + i - at ≡ i = omega arith in z)

-- so many words of the one, and the others behind
pub long_enough : (words ws : List ℕ) (i : ℕ) → i < length words → length words ≤ length ws → i < length (take i words ++ drop i ws)
long_enough [] ws i lt le = absurd (omega (arith, lt))
long_enough (x ∷ xs) [] i lt le = absurd (omega (arith, le))
long_enough (x ∷ xs) (y ∷ ys) zero lt le = omega arith
long_enough (x ∷ xs) (y ∷ ys) (suc i) lt le = let more = long_enough xs ys i (omega (arith, lt)) (omega (arith, le)) in omega (arith, more)

pub set_next : (words ws : List ℕ) (i : ℕ) → i < length words → length words ≤ length ws → set (take i words ++ drop i ws) i (get_or words i 0) ≡ take (suc i) words ++ drop (suc i) ws
set_next [] ws i lt le = absurd (omega (arith, lt))
set_next (x ∷ xs) [] i lt le = absurd (omega (arith, le))
set_next (x ∷ xs) (y ∷ ys) zero lt le = refl
set_next (x ∷ xs) (y ∷ ys) (suc i) lt le = ap (λ l. x ∷ l) (set_next xs ys i (omega (arith, lt)) (omega (arith, le)))

take_all : (words : List ℕ) → take (length words) words ≡ words
take_all [] = refl
take_all (x ∷ xs) = ap (λ l. x ∷ l) (take_all xs)

-- one more is laid
pub lay_next : (k k1 k2 : Holder) (at i x : ℕ) (words ws : List ℕ) → i < length words → length words ≤ length ws → k1 ≡ with_own k at (take i words ++ drop i ws) → k2 ≡ with_stored k1 (at + i) (get_or words i 0)
    → k2 ≡ with_own k at (take (i + 1) words ++ drop (i + 1) ws)
lay_next k k1 k2 at i x words ws lt le one two =
    two ∙ (ap (λ h. with_stored h (at + i) (get_or words i 0)) one
    ∙ (one_stored k at i (get_or words i 0) (take i words ++ drop i ws) (long_enough words ws i lt le)
    ∙ (ap (with_own k at) (set_next words ws i lt le) ∙ ap (λ n. with_own k at (take n words ++ drop n ws)) (let z : suc i ≡ i + 1 = omega arith in z))))

-- until all are
pub lay_all : (k k1 : Holder) (at i : ℕ) (words ws : List ℕ) → i ≤ length words → length words ≤ i → k1 ≡ with_own k at (take i words ++ drop i ws) → k1 ≡ with_own k at (words ++ drop (length words) ws)
lay_all k k1 at i words ws le far is =
    is ∙ (ap (λ n. with_own k at (take n words ++ drop n ws)) (let z : i ≡ length words = omega (arith, le, far) in z) ∙ ap (λ l. with_own k at (l ++ drop (length words) ws)) (take_all words))

-- none yet
pub lay_none : (k : Holder) (at : ℕ) (ws : List ℕ) → OwnsOne k at ws → k ≡ with_own k at ws
lay_none k at ws own = ap (λ os. record k { own = os }) own

-- the words of the one region are what they are
pub same_words : (k : Holder) (at : ℕ) (ws vs : List ℕ) → OwnsOne k at ws → OwnsOne k at vs → ws ≡ vs
same_words k at ws vs a b = ap words_first (sym a ∙ b)
  where
    words_first : List Region → List ℕ
    words_first [] = []
    words_first (o ∷ os) = o.words
