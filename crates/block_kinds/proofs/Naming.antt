-- What a word names, and what is loaded of it.
use Rattle.std.proofs.Common.{◌≡◌, ◌<◌, ◌≤◌, ◌⊎◌, ℕ, ◌+◌, ◌-◌, ◌^◌, ℤ, FitsSigned, Option, Some, None, IfSome, refl, sym, ap, ◌∙◌, subst, inl, inr, ⊎_elim, arith}
use Rattle.std.specs.Int.{w64}
use Rattle.rb_model.specs.Values.{Value as Val, Nil, False, True, Int, Sym, Str, To}
use Rattle.rb_model.specs.declared.value.Id.{Id}
use Rattle.rb_shared.specs.Lists.{Has}
use Rattle.rb_shared.proofs.Runs.{each_has}
use Rattle.typed_location.specs.Laws.{HasOneWord, HasOneIntWord}
use Rattle.typed_location.specs.declared.general_place.Any.{Any}
use Rattle.typed_location.specs.declared.general_place.Any.TheVariants as any
use Rattle.typed_location.specs.Word.{IsSmall, Fits as FitsWord, twos_complement, word_of}
use Rattle.heap_core.specs.Blocks.{Block, ObjectAt, ChunkAt, MutexAt, ThreadAt, TextAt, BoxAt, ShapeAt, LockAt, TheTurn, place_of, size_of, id_of, LinkAt}
use Rattle.heap_core.specs.Fixed.{fixed_word}
use Rattle.heap_core.specs.Passes.{FixedIs, Fits}
use Rattle.heap_core.specs.Room.{OwnIs}
use Rattle.heap_core.specs.Telling.{CanName}
use Rattle.heap_core.specs.View.{Holder, InOwn}
use Rattle.heap_core.proofs.Fitting.{own_below, named_below}
use Rattle.block_kinds.specs.declared.loaded.Loaded.TheVariants as loaded
use Rattle.block_kinds.specs.Reading.{CanRead, IsLoaded, IsValue, Names}
use Rattle.block_kinds.proofs.Stored.{some_is}

-- ---- the words of a block that a pass reads

-- such a word may be loaded
abbrev pub MayLoad : Holder → ℕ → Type 0
MayLoad k i = InOwn i k ⊎ CanName k i

pub reads_word : (k : Holder) (b : Block) (i x : ℕ) → CanRead k b → i < size_of b → fixed_word b i ≡ Some x → MayLoad k (place_of b + i)
reads_word k b i x (inl known) lt is = inr (b, known, (omega arith, omega (arith, lt)))
reads_word k b i x (inr laid) lt is = let o = laid i x lt is in inl (o.0, o.1, o.2)

-- and lies in the heap
pub load_below : (k : Holder) (words i : ℕ) → Fits k words → MayLoad k i → i < words
load_below k words i fits (inl o) = own_below k words i fits o
load_below k words i fits (inr n) = named_below k words i fits n

-- it is what it always is
pub reads_is : (k : Holder) (b : Block) (i x n : ℕ) → CanRead k b → i < size_of b → fixed_word b i ≡ Some x → OwnIs k (place_of b + i) n → FixedIs k (place_of b + i) n → n ≡ x
reads_is k b i x n (inl known) lt is own fixed =
    let there : place_of b + i - place_of b ≡ i = omega arith in
    subst (λ (o : Option ℕ). IfSome o (λ y. n ≡ y)) (ap (fixed_word b) there ∙ is) (fixed b known (omega arith, omega (arith, lt)))
reads_is k b i x n (inr laid) lt is own fixed = let o = laid i x lt is in own o.0 o.1 o.2 ∙ o.3

none_is : (id : Id) → None ≡ Some id → ⊥
none_is id e = cc

-- a thing has its id in its second and third word
pub thing_words : (b : Block) (id : Id) → id_of b ≡ Some id → (2 < size_of b) × (fixed_word b 1 ≡ Some id.thread) × (fixed_word b 2 ≡ Some id.serial)
thing_words (ObjectAt i at) id e = (omega arith, ap (λ (j : Id). Some j.thread) (some_is i id e), ap (λ (j : Id). Some j.serial) (some_is i id e))
thing_words (MutexAt i at) id e = (omega arith, ap (λ (j : Id). Some j.thread) (some_is i id e), ap (λ (j : Id). Some j.serial) (some_is i id e))
thing_words (ThreadAt i number maker at) id e = (omega arith, ap (λ (j : Id). Some j.thread) (some_is i id e), ap (λ (j : Id). Some j.serial) (some_is i id e))
thing_words (ChunkAt object number at) id e = absurd (none_is id e)
thing_words (TextAt bytes at) id e = absurd (none_is id e)
thing_words (BoxAt n at) id e = absurd (none_is id e)
thing_words (ShapeAt shape at) id e = absurd (none_is id e)
thing_words (LockAt at) id e = absurd (none_is id e)
thing_words TheTurn id e = absurd (none_is id e)
thing_words (LinkAt home link to number) id e = absurd (none_is id e)

-- ---- the word that names a value

-- what a general word says of the value that it names
abbrev pub Says : Holder → Val → Any → Type 0
Says k Nil any.Nil = Unit {0}
Says k False any.False = Unit {0}
Says k True any.True = Unit {0}
Says k (Int n) (any.Small m) = m ≡ n
Says k (Int n) (any.Boxed at) = CanRead k (BoxAt n at)
Says k (Sym name) (any.Sym number) = number ≡ name.0
Says k (Str bytes) (any.Text at) = CanRead k (TextAt bytes at)
Says k (To r) (any.Thing at) = (b : Block) × CanRead k b × (id_of b ≡ Some r.id) × (place_of b ≡ at)
Says k v a = ⊥

abbrev pub IsSaid : Holder → ℕ → Val → Type 0
IsSaid k w v = (a : Any) × FitsWord a × (word_of a ≡ w) × Says k v a

pub low : (at words : ℕ) → at < words → words ≤ 134217728 → at < 2 ^ 61
low at words lt most = omega (arith, lt, most)

module _ (k : Holder) (words : ℕ) (fits : Fits k words) (most : words ≤ 134217728) where
  at_below : (b : Block) (i x : ℕ) → CanRead k b → i < size_of b → fixed_word b i ≡ Some x → place_of b < 2 ^ 61
  at_below b i x reads lt is = let below = load_below k words (place_of b + i) fits (reads_word k b i x reads lt is) in low (place_of b) words (omega (arith, below)) most

  pub named_is_said : (w : ℕ) (v : Val) → Names k w v → IsSaid k w v
  named_is_said w Nil n = (any.Nil, tt, sym n.1.2, tt)
  named_is_said w False n = (any.False, tt, sym n.1.2, tt)
  named_is_said w True n = (any.True, tt, sym n.1.2, tt)
  named_is_said w (Sym name) n = (any.Sym name.0, n.0, sym n.1.2, refl)
  named_is_said w (Int m) n = ⊎_elim
      (λ (s : IsSmall m × (w ≡ word_of (any.Small m))). (any.Small m, s.0, sym s.1, refl))
      (λ (s : (IsSmall m → ⊥) × ((at : ℕ) × Has n.1.0 (BoxAt m at) × (w ≡ word_of (any.Boxed at)))).
      let reads = each_has (CanRead k) n.1.0 (BoxAt m s.1.0) n.1.1 s.1.1 in
      (any.Boxed s.1.0, at_below (BoxAt m s.1.0) 0 7 reads (omega arith) refl, sym s.1.2, reads))
      n.1.2
  named_is_said w (Str bytes) n =
      let s = n.1.2 in
      let reads = each_has (CanRead k) n.1.0 (TextAt bytes s.0) n.1.1 s.1 in
      (any.Text s.0, at_below (TextAt bytes s.0) 0 6 reads (omega arith) refl, sym s.2, reads)
  named_is_said w (To r) n =
      let s = n.1.2 in
      let reads = each_has (CanRead k) n.1.0 s.0 n.1.1 s.1 in
      let there = thing_words s.0 r.id s.2 in
      let long = there.0 in
      (any.Thing (place_of s.0), at_below s.0 1 r.id.thread reads (omega (arith, long)) there.1, sym s.3, (s.0, reads, s.2, refl))

  -- and no other word does
  pub named_says : HasOneWord → (w : ℕ) (v : Val) → Names k w v → (a : Any) → FitsWord a → word_of a ≡ w → Says k v a
  named_says one w v n a fits_word is = let s = named_is_said w v n in subst (Says k v) (one s.0 a s.1 fits_word (s.2 ∙ sym is)) s.3

-- ---- what is loaded

module _ (k : Holder) where
  pub nil_loaded : (v : Val) → Says k v any.Nil → IsLoaded k v loaded.Nil
  nil_loaded Nil s = tt
  nil_loaded False s = absurd s
  nil_loaded True s = absurd s
  nil_loaded (Int n) s = absurd s
  nil_loaded (Sym name) s = absurd s
  nil_loaded (Str bytes) s = absurd s
  nil_loaded (To r) s = absurd s

  pub false_loaded : (v : Val) → Says k v any.False → IsLoaded k v loaded.False
  false_loaded Nil s = absurd s
  false_loaded False s = tt
  false_loaded True s = absurd s
  false_loaded (Int n) s = absurd s
  false_loaded (Sym name) s = absurd s
  false_loaded (Str bytes) s = absurd s
  false_loaded (To r) s = absurd s

  pub true_loaded : (v : Val) → Says k v any.True → IsLoaded k v loaded.True
  true_loaded Nil s = absurd s
  true_loaded False s = absurd s
  true_loaded True s = tt
  true_loaded (Int n) s = absurd s
  true_loaded (Sym name) s = absurd s
  true_loaded (Str bytes) s = absurd s
  true_loaded (To r) s = absurd s

  pub small_loaded : (v : Val) (m : ℤ) → Says k v (any.Small m) → IsLoaded k v (loaded.Int m)
  small_loaded Nil m s = absurd s
  small_loaded False m s = absurd s
  small_loaded True m s = absurd s
  small_loaded (Int n) m s = s
  small_loaded (Sym name) m s = absurd s
  small_loaded (Str bytes) m s = absurd s
  small_loaded (To r) m s = absurd s

  pub symbol_loaded : (v : Val) (m : ℕ) → Says k v (any.Sym m) → IsLoaded k v (loaded.Sym m)
  symbol_loaded Nil m s = absurd s
  symbol_loaded False m s = absurd s
  symbol_loaded True m s = absurd s
  symbol_loaded (Int n) m s = absurd s
  symbol_loaded (Sym name) m s = s
  symbol_loaded (Str bytes) m s = absurd s
  symbol_loaded (To r) m s = absurd s

  pub text_loaded : (v : Val) (at : ℕ) → Says k v (any.Text at) → IsLoaded k v (loaded.Text at)
  text_loaded Nil at s = absurd s
  text_loaded False at s = absurd s
  text_loaded True at s = absurd s
  text_loaded (Int n) at s = absurd s
  text_loaded (Sym name) at s = absurd s
  text_loaded (Str bytes) at s = s
  text_loaded (To r) at s = absurd s

  pub boxed_loads : (v : Val) (at : ℕ) → Says k v (any.Boxed at) → MayLoad k (at + 1)
  boxed_loads Nil at s = absurd s
  boxed_loads False at s = absurd s
  boxed_loads True at s = absurd s
  boxed_loads (Int n) at s = reads_word k (BoxAt n at) 1 (twos_complement 64 n) s (omega arith) refl
  boxed_loads (Sym name) at s = absurd s
  boxed_loads (Str bytes) at s = absurd s
  boxed_loads (To r) at s = absurd s

  pub boxed_loaded : HasOneIntWord → (v : Val) (at bits : ℕ) (m : ℤ) → IsValue v → Says k v (any.Boxed at) → OwnIs k (at + 1) bits → FixedIs k (at + 1) bits
      → FitsSigned w64 m → twos_complement 64 m ≡ bits → IsLoaded k v (loaded.Int m)
  boxed_loaded one Nil at bits m val s own fixed fits is = absurd s
  boxed_loaded one False at bits m val s own fixed fits is = absurd s
  boxed_loaded one True at bits m val s own fixed fits is = absurd s
  boxed_loaded one (Int n) at bits m val s own fixed fits is = one m n fits val (is ∙ reads_is k (BoxAt n at) 1 (twos_complement 64 n) bits s (omega arith) refl own fixed)
  boxed_loaded one (Sym name) at bits m val s own fixed fits is = absurd s
  boxed_loaded one (Str bytes) at bits m val s own fixed fits is = absurd s
  boxed_loaded one (To r) at bits m val s own fixed fits is = absurd s

  pub thing_loads : (v : Val) (at : ℕ) → Says k v (any.Thing at) → MayLoad k (at + 1) × MayLoad k (at + 2)
  thing_loads Nil at s = absurd s
  thing_loads False at s = absurd s
  thing_loads True at s = absurd s
  thing_loads (Int n) at s = absurd s
  thing_loads (Sym name) at s = absurd s
  thing_loads (Str bytes) at s = absurd s
  thing_loads (To r) at s =
      let there = thing_words s.0 r.id s.2 in
      let long = there.0 in
      subst (λ a. MayLoad k (a + 1) × MayLoad k (a + 2)) s.3
      (reads_word k s.0 1 r.id.thread s.1 (omega (arith, long)) there.1, reads_word k s.0 2 r.id.serial s.1 long there.2)

  pub thing_loaded : (v : Val) (at thread serial : ℕ) → Says k v (any.Thing at) → OwnIs k (at + 1) thread → FixedIs k (at + 1) thread → OwnIs k (at + 2) serial → FixedIs k (at + 2) serial
      → IsLoaded k v (loaded.Thing (record { thread = thread; serial = serial }) at)
  thing_loaded Nil at thread serial s own1 fixed1 own2 fixed2 = absurd s
  thing_loaded False at thread serial s own1 fixed1 own2 fixed2 = absurd s
  thing_loaded True at thread serial s own1 fixed1 own2 fixed2 = absurd s
  thing_loaded (Int n) at thread serial s own1 fixed1 own2 fixed2 = absurd s
  thing_loaded (Sym name) at thread serial s own1 fixed1 own2 fixed2 = absurd s
  thing_loaded (Str bytes) at thread serial s own1 fixed1 own2 fixed2 = absurd s
  thing_loaded (To r) at thread serial s own1 fixed1 own2 fixed2 =
      let there = thing_words s.0 r.id s.2 in
      let long = there.0 in
      let one = reads_is k s.0 1 r.id.thread thread s.1 (omega (arith, long)) there.1 (subst (λ a. OwnIs k (a + 1) thread) (sym s.3) own1) (subst (λ a. FixedIs k (a + 1) thread) (sym s.3) fixed1) in
      let two = reads_is k s.0 2 r.id.serial serial s.1 long there.2 (subst (λ a. OwnIs k (a + 2) serial) (sym s.3) own2) (subst (λ a. FixedIs k (a + 2) serial) (sym s.3) fixed2) in
      (λ i. record { thread = one i; serial = two i }, (s.0, s.1, s.2, s.3))

-- a small integer has 64 bits
pub small_fits : (n : ℤ) → IsSmall n → FitsSigned w64 n
small_fits (Rattle.std.specs.Prelude.pos n) s = omega (arith, s)
small_fits (Rattle.std.specs.Prelude.negsuc n) s = omega (arith, s)
