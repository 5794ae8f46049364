-- The words of blocks and passes stay apart.
use Rattle.std.proofs.Common.{◌≡◌, ◌≤◌, ◌<◌, ◌⊎◌, ℕ, ◌+◌, true, List, [], ◌∷◌, ◌++◌, length, set, get_or, refl, sym, ◌∙◌, subst, inl, inr, ⊎_elim, arith, true≢false}
use Rattle.rb_shared.specs.Lists.{Has}
use Rattle.shared_run.proofs.Events.{has_either}
use Rattle.heap_core.specs.Places.{used_word, opening_words}
use Rattle.heap_core.specs.Blocks.{Block, ObjectAt, ChunkAt, MutexAt, ThreadAt, TextAt, BoxAt, ShapeAt, LockAt, TheTurn, place_of, size_of, Inside, LinkAt}
use Rattle.heap_core.specs.View.{Region, InRegion, Holder, InOwn, spent_holder, maker, joined}
use Rattle.heap_core.specs.Moment.{At}
use Rattle.heap_core.specs.Rule.{Laid}
use Rattle.heap_core.proofs.Holders.{each_set, each_two, each_both}

-- all but a link have words
abbrev pub HasWords : Block → Type 0
HasWords (LinkAt home link to number) = ⊥
HasWords b = Unit {0}

pub some_size : (b : Block) → HasWords b → 0 < size_of b
some_size (ObjectAt id at) h = omega arith
some_size (ChunkAt object number at) h = omega arith
some_size (MutexAt id at) h = omega arith
some_size (ThreadAt id number maker at) h = omega arith
some_size (TextAt bytes at) h = omega arith
some_size (BoxAt n at) h = omega arith
some_size (ShapeAt shape at) h = omega arith
some_size (LockAt at) h = omega arith
some_size TheTurn h = omega arith
some_size (LinkAt home link to number) h = absurd h

-- objects and shapes have parts
abbrev pub HasParts : Block → Type 0
HasParts (ObjectAt id at) = Unit {0}
HasParts (ShapeAt shape at) = Unit {0}
HasParts b = ⊥

-- a block that has words has its own first word
pub first_inside : (b : Block) → HasWords b → Inside (place_of b) b
first_inside b h = let size = some_size b h in (omega arith, omega (arith, size))

pub parts_inside : (b : Block) → HasParts b → Inside (place_of b) b
parts_inside (ObjectAt id at) h = first_inside (ObjectAt id at) tt
parts_inside (ShapeAt shape at) h = first_inside (ShapeAt shape at) tt
parts_inside (ChunkAt object number at) h = absurd h
parts_inside (MutexAt id at) h = absurd h
parts_inside (ThreadAt id number maker at) h = absurd h
parts_inside (TextAt bytes at) h = absurd h
parts_inside (BoxAt n at) h = absurd h
parts_inside (LockAt at) h = absurd h
parts_inside TheTurn h = absurd h
parts_inside (LinkAt home link to number) h = absurd h

abbrev pub FirstInside : Block → Type 0
FirstInside (LinkAt home link to number) = Unit {0}
FirstInside b = Inside (place_of b) b

pub place_inside : (b : Block) → FirstInside b
place_inside (ObjectAt id at) = first_inside (ObjectAt id at) tt
place_inside (ChunkAt object number at) = first_inside (ChunkAt object number at) tt
place_inside (MutexAt id at) = first_inside (MutexAt id at) tt
place_inside (ThreadAt id number maker at) = first_inside (ThreadAt id number maker at) tt
place_inside (TextAt bytes at) = first_inside (TextAt bytes at) tt
place_inside (BoxAt n at) = first_inside (BoxAt n at) tt
place_inside (ShapeAt shape at) = first_inside (ShapeAt shape at) tt
place_inside (LockAt at) = first_inside (LockAt at) tt
place_inside TheTurn = first_inside TheTurn tt
place_inside (LinkAt home link to number) = tt

pub used_of : List ℕ → ℕ
used_of ws = get_or ws used_word 0

-- no word is owned by a pass that owns none
pub empty_own : (i : ℕ) (k : Holder) → k.own ≡ [] → InOwn i k → ⊥
empty_own i k none_own o = subst (λ l. Has l o.0) none_own o.1

-- ---- one seat changes, and some blocks come; the used words do not fall

module _ (ws ws' : List ℕ) (views : List Holder) (blocks added : List Block) (l : Laid ws views blocks) (id : ℕ) (k k' : Holder) (at : At views id k) (live : k'.live ≡ true → k.live ≡ true) (size : k'.size ≡ k.size) where
  pub laid_step : length ws' ≡ length ws → get_or ws used_word 0 ≤ get_or ws' used_word 0 → get_or ws' used_word 0 ≤ length ws'
      → ((i : ℕ) → InOwn i k' → InOwn i k ⊎ (get_or ws used_word 0 ≤ i)) → ((o : Region) → Has k'.own o → (opening_words ≤ o.at) × (o.at + length o.words ≤ get_or ws' used_word 0))
      → ((i : ℕ) (o p : Region) → Has k'.own o → Has k'.own p → InRegion i o → InRegion i p → o ≡ p)
      → ((i : ℕ) (b : Block) → Has added b → Inside i b → InOwn i k × (InOwn i k' → ⊥))
      → ((i : ℕ) (b c : Block) → Has added b → Has added c → Inside i b → Inside i c → b ≡ c)
      → ((b : Block) → Has added b → place_of b + size_of b ≤ get_or ws' used_word 0)
      → Laid ws' (set views id k') (blocks ++ added)
  laid_step long up top mine own_in single new new_apart new_in = record {
    apart = λ i b c hb hc ib ic. two_blocks i b c ib ic (has_either blocks added b hb) (has_either blocks added c hc);
    beside = λ i j u b a hb io ib. ⊎_elim
        (λ (old : Has blocks b). each_set (λ j u. InOwn i u → ⊥) views id k'
        (λ o. ⊎_elim (λ q. l.beside i id k b at old q ib) (λ (high : get_or ws used_word 0 ≤ i). let low = (l.blocks_in b old).0 in let lt = ib.1 in omega (arith, high, low, lt)) (mine i o))
        (λ j u _ a o. l.beside i j u b a old o ib) j u a io)
        (λ (come : Has added b). let n = new i b come ib in each_set (λ j u. InOwn i u → ⊥) views id k'
        n.1 (λ j u ne a o. ne (l.alone i j id u k a at o n.0)) j u a io)
        (has_either blocks added b hb);
    alone = λ i j m u w a b. each_set (λ j u. InOwn i u → InOwn i w → j ≡ m) views id k'
        (λ o. each_set (λ m w. InOwn i w → id ≡ m) views id k' (λ _. refl)
        (λ m w ne b p. ⊎_elim (λ q. l.alone i id m k w at b q p) (λ (high : get_or ws used_word 0 ≤ i). let low = (l.own_in m w p.0 b p.1).1 in let lt = p.2.1 in absurd (omega (arith, high, low, lt))) (mine i o)) m w b)
        (λ j u ne a o. each_set (λ m w. InOwn i w → j ≡ m) views id k'
        (λ p. ⊎_elim (λ q. l.alone i j id u k a at o q) (λ (high : get_or ws used_word 0 ≤ i). let low = (l.own_in j u o.0 a o.1).1 in let lt = o.2.1 in absurd (omega (arith, high, low, lt))) (mine i p))
        (λ m w _ b p. l.alone i j m u w a b o p) m w b)
        j u a;
    blocks_in = λ b h. ⊎_elim
        (λ (old : Has blocks b). let x = l.blocks_in b old in let low = x.0 in (omega (arith, low, up), x.1))
        (λ (come : Has added b). (new_in b come, λ i. let o = (new used_word b come i).0 in let lo = o.2.0 in let far = (l.own_in id k o.0 at o.1).0 in omega (arith, lo, far)))
        (has_either blocks added b h);
    single = λ i j u o p a. each_set (λ j u. Has u.own o → Has u.own p → InRegion i o → InRegion i p → o ≡ p) views id k' (single i o p) (λ j u _ a. l.single i j u o p a) j u a;
    own_in = λ j u o a. each_set (λ j u. Has u.own o → (opening_words ≤ o.at) × (o.at + length o.words ≤ get_or ws' used_word 0)) views id k' (own_in o)
        (λ j u _ a h. let x = l.own_in j u o a h in let low = x.1 in (x.0, omega (arith, low, up))) j u a;
    opening_in = let low = l.opening_in in omega (arith, low, up);
    used_in = top;
    size = each_set (λ j u. u.live ≡ true → u.size ≡ length ws') views id k' (λ alive. size ∙ (l.size id k at (live alive) ∙ sym long)) (λ j u _ a alive. l.size j u a alive ∙ sym long);
  }
    where
      two_blocks : (i : ℕ) (b c : Block) → Inside i b → Inside i c → Has blocks b ⊎ Has added b → Has blocks c ⊎ Has added c → b ≡ c
      two_blocks i b c ib ic (inl p) (inl q) = l.apart i b c p q ib ic
      two_blocks i b c ib ic (inl p) (inr q) = absurd (l.beside i id k b at p (new i c q ic).0 ib)
      two_blocks i b c ib ic (inr p) (inl q) = absurd (l.beside i id k c at q (new i b p ib).0 ic)
      two_blocks i b c ib ic (inr p) (inr q) = new_apart i b c p q ib ic

  -- no block comes, and the own regions are what they were
  pub laid_quiet : length ws' ≡ length ws → get_or ws' used_word 0 ≡ get_or ws used_word 0 → k'.own ≡ k.own → added ≡ [] → Laid ws' (set views id k') (blocks ++ added)
  laid_quiet long used same none_added =
      let top = l.used_in in
      let nobody : (b : Block) → Has added b → ⊥ = λ b h. subst (λ bs. Has bs b) none_added h in
      let back : (o : Region) → Has k'.own o → Has k.own o = λ o h. subst (λ os. Has os o) same h in
      laid_step long (omega (arith, used)) (omega (arith, used, long, top))
      (λ i o. inl (o.0, back o.0 o.1, o.2))
      (λ o h. let x = l.own_in id k o at (back o h) in let low = x.1 in (x.0, omega (arith, low, used)))
      (λ i o p h g. l.single i id k o p at (back o h) (back p g))
      (λ i b h. absurd (nobody b h)) (λ i b c h. absurd (nobody b h)) (λ b h. absurd (nobody b h))

-- ---- a seat comes, and one is spent

pub laid_split : (ws : List ℕ) (views : List Holder) (blocks : List Block) → Laid ws views blocks → (id : ℕ) (k w : Holder) → At views id k → k.live ≡ true → w.own ≡ [] → (w.live ≡ true → w.size ≡ k.size)
    → Laid ws (set views id (maker k) ++ w ∷ []) blocks
laid_split ws views blocks l id k w at live none_own size = record {
  apart = l.apart;
  beside = λ i j u b a hb. each_two (λ j u. InOwn i u → Inside i b → ⊥) views id (maker k) w
      (λ o ib. l.beside i id k b at hb o ib) (λ o _. empty_own i w none_own o) (λ j u _ a o ib. l.beside i j u b a hb o ib) j u a;
  alone = λ i j m u x a b. each_two (λ j u. InOwn i u → InOwn i x → j ≡ m) views id (maker k) w
      (λ o. each_two (λ m x. InOwn i x → id ≡ m) views id (maker k) w (λ _. refl) (λ p. absurd (empty_own i w none_own p)) (λ m x _ b p. l.alone i id m k x at b o p) m x b)
      (λ o. absurd (empty_own i w none_own o))
      (λ j u _ a o. each_two (λ m x. InOwn i x → j ≡ m) views id (maker k) w (λ p. l.alone i j id u k a at o p) (λ p. absurd (empty_own i w none_own p)) (λ m x _ b p. l.alone i j m u x a b o p) m x b)
      j u a;
  blocks_in = l.blocks_in;
  single = λ i j u o p a. each_two (λ j u. Has u.own o → Has u.own p → InRegion i o → InRegion i p → o ≡ p) views id (maker k) w (l.single i id k o p at) (λ h. absurd (subst (λ os. Has os o) none_own h)) (λ j u _ a. l.single i j u o p a) j u a;
  own_in = λ j u o a. each_two (λ j u. Has u.own o → (opening_words ≤ o.at) × (o.at + length o.words ≤ get_or ws used_word 0)) views id (maker k) w (l.own_in id k o at) (λ h. absurd (subst (λ os. Has os o) none_own h)) (λ j u _ a. l.own_in j u o a) j u a;
  opening_in = l.opening_in;
  used_in = l.used_in;
  size = each_two (λ j u. u.live ≡ true → u.size ≡ length ws) views id (maker k) w (l.size id k at) (λ l'. size l' ∙ l.size id k at live) (λ j u _ a. l.size j u a);
}

pub laid_join : (ws : List ℕ) (views : List Holder) (blocks : List Block) → Laid ws views blocks → (id other : ℕ) (k u : Holder) → At views id k
    → Laid ws (set (set views id (joined k u)) other spent_holder) blocks
laid_join ws views blocks l id other k u at = record {
  apart = l.apart;
  beside = λ i j x b a hb. each_both (λ j x. InOwn i x → Inside i b → ⊥) views id other (joined k u) spent_holder
      (λ o ib. l.beside i id k b at hb o ib) (λ o _. empty_own i spent_holder refl o) (λ j x _ _ a o ib. l.beside i j x b a hb o ib) j x a;
  alone = λ i j m x y a b. each_both (λ j x. InOwn i x → InOwn i y → j ≡ m) views id other (joined k u) spent_holder
      (λ o. each_both (λ m y. InOwn i y → id ≡ m) views id other (joined k u) spent_holder (λ _. refl) (λ p. absurd (empty_own i spent_holder refl p)) (λ m y _ _ b p. l.alone i id m k y at b o p) m y b)
      (λ o. absurd (empty_own i spent_holder refl o))
      (λ j x _ _ a o. each_both (λ m y. InOwn i y → j ≡ m) views id other (joined k u) spent_holder (λ p. l.alone i j id x k a at o p) (λ p. absurd (empty_own i spent_holder refl p)) (λ m y _ _ b p. l.alone i j m x y a b o p) m y b)
      j x a;
  blocks_in = l.blocks_in;
  single = λ i j x o p a. each_both (λ j x. Has x.own o → Has x.own p → InRegion i o → InRegion i p → o ≡ p) views id other (joined k u) spent_holder (l.single i id k o p at) (λ h. absurd h) (λ j x _ _ a. l.single i j x o p a) j x a;
  own_in = λ j x o a. each_both (λ j x. Has x.own o → (opening_words ≤ o.at) × (o.at + length o.words ≤ get_or ws used_word 0)) views id other (joined k u) spent_holder (l.own_in id k o at) (λ h. absurd h) (λ j x _ _ a. l.own_in j x o a) j x a;
  opening_in = l.opening_in;
  used_in = l.used_in;
  size = each_both (λ j x. x.live ≡ true → x.size ≡ length ws) views id other (joined k u) spent_holder (l.size id k at) (λ e. absurd (true≢false (sym e))) (λ j x _ _ a. l.size j x a);
}
