-- What laying words leaves of a pass.
use Rattle.std.proofs.Common.{◌≡◌, ◌≢◌, ◌<◌, ◌≤◌, ℕ, zero, suc, ◌+◌, ◌-◌, ◌/◌, ◌&&◌, nat_lt, Bool, true, false, cond, ℤ, List, [], ◌∷◌, length, map, set, get_or, Option, Some, None, refl, sym, ap, ◌∙◌, subst, inl, inr, le-leb, lt-ltb, get_or-set_same, get_or-set_other, arith}
use Rattle.std.proofs.lemmas.List.{length-set}
use Rattle.rb_shared.specs.Lists.{Has}
use Rattle.typed_location.specs.Word.{twos_complement}
use Rattle.rb_model.specs.declared.value.Id.{Id}
use Rattle.heap_core.specs.Blocks.{BoxAt, MutexAt, TextAt, size_of}
use Rattle.heap_core.specs.Fixed.{fixed_word}
use Rattle.heap_core.specs.Moment.{Moment, word}
use Rattle.heap_core.specs.Owning.{owner_word}
use Rattle.heap_core.specs.Rule.{Stands}
use Rattle.heap_core.specs.Spelling.{byte_word}
use Rattle.heap_core.proofs.Takes.{holds_of}
use Rattle.heap_core.specs.View.{Holder, InOwn, InRegion, Region, holds_word, stored, with_stored}
use Rattle.block_kinds.specs.Built.{OwnsWords, box_block, byte_words, mutex_block, text_block, with_words}
use Rattle.block_kinds.specs.Reading.{IsLaid, OwnWord}
use Rattle.block_kinds.proofs.Eights.{byte_words_at, length_byte_words}

pub some_is : {X : Type 0} (x y : X) → Some x ≡ Some y → x ≡ y
some_is x y e = cc

-- ---- one word

-- a region that holds the place, after a store there and after one elsewhere
holds : (i : ℕ) (o : Region) → InRegion i o → holds_word i o ≡ true
holds i o r = ap (λ b. b && nat_lt i (o.at + length o.words)) (le-leb o.at i r.0) ∙ lt-ltb i (o.at + length o.words) r.1

has_stored : (i x : ℕ) (os : List Region) (o : Region) → Has os o → Has (map (stored i x) os) (stored i x o)
has_stored i x [] o h = absurd h
has_stored i x (p ∷ os) o (inl e) = inl (ap (stored i x) e)
has_stored i x (p ∷ os) o (inr h) = inr (has_stored i x os o h)

stored_same : (i x : ℕ) (o : Region) → InRegion i o → stored i x o ≡ record { at = o.at; words = set o.words (i - o.at) x }
stored_same i x o r = ap (λ b. cond b (record { at = o.at; words = set o.words (i - o.at) x }) o) (holds i o r)

-- the word is stored
pub own_word_here : (k : Holder) (i x : ℕ) → InOwn i k → OwnWord (with_stored k i x) i x
own_word_here k i x own =
    let o = own.0 in
    let lo = own.2.0 in
    let hi = own.2.1 in
    subst (λ (p : Region). Has (map (stored i x) k.own) p → OwnWord (with_stored k i x) i x) (sym (stored_same i x o own.2))
    (λ h. (record { at = o.at; words = set o.words (i - o.at) x }, h, (lo, let same = length-set o.words (i - o.at) x in omega (arith, hi, same)), get_or-set_same o.words (i - o.at) x 0 (omega (arith, lo, hi))))
    (has_stored i x k.own o own.1)

-- a region holds the same places after it
stored_in : (i j x : ℕ) (o : Region) → InRegion i o → InRegion i (stored j x o)
stored_in i j x o r = by_test (holds_word j o)
  where
    by_test : (b : Bool) → InRegion i (cond b (record { at = o.at; words = set o.words (j - o.at) x }) o)
    by_test true = let hi = r.1 in let same = length-set o.words (j - o.at) x in (r.0, omega (arith, hi, same))
    by_test false = r

-- and other words
stored_else : (i j x : ℕ) (o : Region) → i ≢ j → InRegion i o → get_or (stored j x o).words (i - (stored j x o).at) 0 ≡ get_or o.words (i - o.at) 0
stored_else i j x o ne r = by_test (holds_word j o) refl
  where
    by_test : (b : Bool) → holds_word j o ≡ b
        → get_or (cond b (record { at = o.at; words = set o.words (j - o.at) x }) o).words (i - (cond b (record { at = o.at; words = set o.words (j - o.at) x }) o).at) 0 ≡ get_or o.words (i - o.at) 0
    by_test true is =
        let there = (holds_of j o is).0 in
        let lo = r.0 in
        get_or-set_other o.words (j - o.at) (i - o.at) x 0 (λ z. ne (omega (arith, z, lo, there)))
    by_test false is = refl

pub own_word_else : (k : Holder) (i j x y : ℕ) → i ≢ j → OwnWord k i x → OwnWord (with_stored k j y) i x
own_word_else k i j x y ne own = (stored j y own.0, has_stored j y k.own own.0 own.1, stored_in i j y own.0 own.2, stored_else i j y own.0 ne own.2 ∙ own.3)

pub own_stays : (k : Holder) (i j x : ℕ) → InOwn i k → InOwn i (with_stored k j x)
own_stays k i j x own = (stored j x own.0, has_stored j x k.own own.0 own.1, stored_in i j x own.0 own.2)

-- ---- words one behind the other

pub owns_rest : (k : Holder) (at n x : ℕ) → OwnsWords k at (suc n) → OwnsWords (with_stored k at x) (suc at) n
owns_rest k at n x own i lo hi = own_stays k i at x (own i (omega (arith, lo)) (omega (arith, hi)))

-- those that lie before are as they were
pub words_before : (ws : List ℕ) (k : Holder) (at i x : ℕ) → i < at → OwnWord k i x → OwnWord (with_words k at ws) i x
words_before [] k at i x lt own = own
words_before (w ∷ ws) k at i x lt own = words_before ws (with_stored k at w) (suc at) i x (omega (arith, lt)) (own_word_else k i at x w (λ z. omega (arith, z, lt)) own)

pub words_laid : (ws : List ℕ) (k : Holder) (at i : ℕ) → OwnsWords k at (length ws) → i < length ws → OwnWord (with_words k at ws) (at + i) (get_or ws i 0)
words_laid [] k at i own lt = absurd (omega (arith, lt))
words_laid (w ∷ ws) k at zero own lt =
    subst (λ n. OwnWord (with_words (with_stored k at w) (suc at) ws) n w) (let z : at ≡ at + zero = omega arith in z)
    (words_before ws (with_stored k at w) (suc at) at w (omega arith) (own_word_here k at w (own at (omega arith) (omega arith))))
words_laid (w ∷ ws) k at (suc i) own lt =
    subst (λ n. OwnWord (with_words (with_stored k at w) (suc at) ws) n (get_or ws i 0)) (let z : suc at + i ≡ at + suc i = omega arith in z)
    (words_laid ws (with_stored k at w) (suc at) i (owns_rest k at (length ws) w own) (omega (arith, lt)))

-- what the pass can name stays
pub words_know : (ws : List ℕ) (k : Holder) (at : ℕ) → (with_words k at ws).blocks ≡ k.blocks
words_know [] k at = refl
words_know (w ∷ ws) k at = words_know ws (with_stored k at w) (suc at)

-- ---- blocks

pub box_laid : (k : Holder) (at : ℕ) (n : ℤ) → OwnsWords k at 2 → IsLaid (with_words k at (box_block n)) (BoxAt n at)
box_laid k at n own zero x lt is = subst (OwnWord (with_words k at (box_block n)) (at + zero)) (some_is _ _ is) (words_laid (box_block n) k at zero own lt)
box_laid k at n own (suc zero) x lt is = subst (OwnWord (with_words k at (box_block n)) (at + 1)) (some_is _ _ is) (words_laid (box_block n) k at 1 own lt)
box_laid k at n own (suc (suc i)) x lt is = absurd (omega (arith, lt))

pub text_laid : (k : Holder) (at : ℕ) (bytes : List ℕ) → OwnsWords k at (2 + (length bytes + 7) / 8) → IsLaid (with_words k at (text_block bytes)) (TextAt bytes at)
text_laid k at bytes own i x lt is = subst (OwnWord (with_words k at (text_block bytes)) (at + i)) (here i x lt is) (words_laid (text_block bytes) k at i owns (let same = long in omega (arith, lt, same)))
  where
    count : ℕ
    count = (length bytes + 7) / 8

    long : length (text_block bytes) ≡ 2 + (length bytes + 7) / 8
    long = let rest = length_byte_words ((length bytes + 7) / 8) 0 bytes in omega (arith, rest)

    owns : OwnsWords k at (length (text_block bytes))
    owns = subst (OwnsWords k at) (sym long) own

    here : (i x : ℕ) → i < size_of (TextAt bytes at) → fixed_word (TextAt bytes at) i ≡ Some x → get_or (text_block bytes) i 0 ≡ x
    here zero x lt is = some_is _ _ is
    here (suc zero) x lt is = some_is _ _ is
    here (suc (suc j)) x lt is = byte_words_at ((length bytes + 7) / 8) 0 j bytes (omega (arith, lt)) ∙ (ap (byte_word bytes) (let z : 0 + j ≡ j = omega arith in z) ∙ some_is _ _ is)

-- words that are those of a block stand for it
pub box_stands : (m : Moment) (n : ℤ) (at : ℕ) → ((i : ℕ) → i < 2 → word m (at + i) ≡ get_or (box_block n) i 0) → Stands m (BoxAt n at)
box_stands m n at same = (ap (word m) (let z : at ≡ at + 0 = omega arith in z) ∙ same 0 (omega arith), same 1 (omega arith))

pub text_stands : (m : Moment) (bytes : List ℕ) (at : ℕ) → ((i : ℕ) → i < 2 + (length bytes + 7) / 8 → word m (at + i) ≡ get_or (text_block bytes) i 0) → Stands m (TextAt bytes at)
text_stands m bytes at same = (
  ap (word m) (let z : at ≡ at + 0 = omega arith in z) ∙ same 0 (omega arith),
  same 1 (omega arith),
  λ j lt. ap (word m) (let z : at + 2 + j ≡ at + suc (suc j) = omega arith in z) ∙ (same (suc (suc j)) (omega (arith, lt)) ∙ (byte_words_at ((length bytes + 7) / 8) 0 j bytes lt ∙ ap (byte_word bytes) (let z : 0 + j ≡ j = omega arith in z))),
)

-- ---- as they are stored

pub box_stored : (k k1 k2 : Holder) (at w : ℕ) (n : ℤ) → k1 ≡ with_stored k at 7 → k2 ≡ with_stored k1 (at + 1) w → w ≡ twos_complement 64 n → k2 ≡ with_words k at (box_block n)
box_stored k k1 k2 at w n one two is =
    two ∙ (ap (λ h. with_stored h (at + 1) w) one ∙ (ap (λ i. with_stored (with_stored k at 7) i w) (let z : at + 1 ≡ suc at = omega arith in z) ∙ ap (with_stored (with_stored k at 7) (suc at)) is))

-- a mutex's four words
pub mutex_stored : (k k1 k2 k3 k4 : Holder) (at w : ℕ) (id : Id) (owner : Option ℕ) → k1 ≡ with_stored k at 4 → k2 ≡ with_stored k1 (at + 1) id.thread → k3 ≡ with_stored k2 (at + 2) id.serial → k4 ≡ with_stored k3 (at + 3) w → w ≡ owner_word owner
    → k4 ≡ with_words k at (mutex_block id owner)
mutex_stored k k1 k2 k3 k4 at w id owner one two three four is =
    let second : k2 ≡ with_stored (with_stored k at 4) (suc at) id.thread = two ∙ (ap (λ h. with_stored h (at + 1) id.thread) one ∙ ap (λ i. with_stored (with_stored k at 4) i id.thread) (let z : at + 1 ≡ suc at = omega arith in z)) in
    let third : k3 ≡ with_stored (with_stored (with_stored k at 4) (suc at) id.thread) (suc (suc at)) id.serial =
    three ∙ (ap (λ h. with_stored h (at + 2) id.serial) second ∙ ap (λ i. with_stored (with_stored (with_stored k at 4) (suc at) id.thread) i id.serial) (let z : at + 2 ≡ suc (suc at) = omega arith in z)) in
    four ∙ (ap (λ h. with_stored h (at + 3) w) third
    ∙ (ap (λ i. with_stored (with_stored (with_stored (with_stored k at 4) (suc at) id.thread) (suc (suc at)) id.serial) i w) (let z : at + 3 ≡ suc (suc (suc at)) = omega arith in z)
    ∙ ap (with_stored (with_stored (with_stored (with_stored k at 4) (suc at) id.thread) (suc (suc at)) id.serial) (suc (suc (suc at)))) is))

-- what never changes of it stands in own words
pub mutex_laid : (k : Holder) (at : ℕ) (id : Id) (owner : Option ℕ) → OwnsWords k at 4 → IsLaid (with_words k at (mutex_block id owner)) (MutexAt id at)
mutex_laid k at id owner own zero x lt is = subst (OwnWord (with_words k at (mutex_block id owner)) (at + zero)) (some_is _ _ is) (words_laid (mutex_block id owner) k at zero own lt)
mutex_laid k at id owner own (suc zero) x lt is = subst (OwnWord (with_words k at (mutex_block id owner)) (at + 1)) (some_is _ _ is) (words_laid (mutex_block id owner) k at 1 own lt)
mutex_laid k at id owner own (suc (suc zero)) x lt is = subst (OwnWord (with_words k at (mutex_block id owner)) (at + 2)) (some_is _ _ is) (words_laid (mutex_block id owner) k at 2 own lt)
mutex_laid k at id owner own (suc (suc (suc i))) x lt is = absurd (let h : None ≡ Some x = is in cc)

-- one and the other own word is still own after stores
pub owns_after : (k k' : Holder) (i j x : ℕ) → k' ≡ with_stored k j x → InOwn i k → InOwn i k'
owns_after k k' i j x is own = subst (InOwn i) (sym is) (own_stays k i j x own)

-- a text's two first words
pub text_begun : (k k1 k2 : Holder) (at : ℕ) (bytes : List ℕ) → k1 ≡ with_stored k at 6 → k2 ≡ with_stored k1 (at + 1) (length bytes)
    → with_words k2 (at + 2) (byte_words ((length bytes + 7) / 8) 0 bytes) ≡ with_words k at (text_block bytes)
text_begun k k1 k2 at bytes one two =
    let there : k2 ≡ with_stored (with_stored k at 6) (suc at) (length bytes) = two ∙ (ap (λ h. with_stored h (at + 1) (length bytes)) one ∙ ap (λ i. with_stored (with_stored k at 6) i (length bytes)) (let z : at + 1 ≡ suc at = omega arith in z)) in
    ap (λ h. with_words h (at + 2) (byte_words ((length bytes + 7) / 8) 0 bytes)) there
    ∙ ap (λ i. with_words (with_stored (with_stored k at 6) (suc at) (length bytes)) i (byte_words ((length bytes + 7) / 8) 0 bytes)) (let z : at + 2 ≡ suc (suc at) = omega arith in z)

pub text_owns : (k k1 k2 : Holder) (at count x y : ℕ) → k1 ≡ with_stored k at x → k2 ≡ with_stored k1 (at + 1) y → OwnsWords k at (2 + count) → OwnsWords k2 (at + 2) count
text_owns k k1 k2 at count x y one two own i lo hi =
    subst (InOwn i) (sym (two ∙ ap (λ h. with_stored h (at + 1) y) one)) (own_stays (with_stored k at x) i (at + 1) y (own_stays k i at x (own i (omega (arith, lo)) (omega (arith, hi)))))

-- no word more yet
pub words_begin : (k : Holder) (at count : ℕ) (bytes : List ℕ) → OwnsWords k at count
    → OwnsWords k (at + 0) (count - 0) × (with_words k (at + 0) (byte_words (count - 0) 0 bytes) ≡ with_words k at (byte_words count 0 bytes))
words_begin k at count bytes own =
    let place : at + 0 ≡ at = omega arith in
    let left : count - 0 ≡ count = omega arith in (
      subst (λ a. OwnsWords k a (count - 0)) (sym place) (subst (OwnsWords k at) (sym left) own),
      ap (λ a. with_words k a (byte_words (count - 0) 0 bytes)) place ∙ ap (λ n. with_words k at (byte_words n 0 bytes)) left,
    )

-- and one more
pub text_more : (k k' : Holder) (at i count : ℕ) (bytes : List ℕ) → i < count → k' ≡ with_stored k (at + i) (byte_word bytes i)
    → with_words k' (at + (i + 1)) (byte_words (count - (i + 1)) (i + 1) bytes) ≡ with_words k (at + i) (byte_words (count - i) i bytes)
text_more k k' at i count bytes lt is =
    let left : count - i ≡ suc (count - (i + 1)) = omega (arith, lt) in
    let next : at + (i + 1) ≡ suc (at + i) = omega arith in
    let step : i + 1 ≡ suc i = omega arith in
    ap (λ h. with_words h (at + (i + 1)) (byte_words (count - (i + 1)) (i + 1) bytes)) is
    ∙ (ap (λ a. with_words (with_stored k (at + i) (byte_word bytes i)) a (byte_words (count - (i + 1)) (i + 1) bytes)) next
    ∙ (ap (λ j. with_words (with_stored k (at + i) (byte_word bytes i)) (suc (at + i)) (byte_words (count - (i + 1)) j bytes)) step
    ∙ sym (ap (λ m. with_words k (at + i) (byte_words m i bytes)) left)))

pub owns_more : (k k' : Holder) (at i count x : ℕ) → k' ≡ with_stored k (at + i) x → OwnsWords k (at + i) (count - i) → i < count → OwnsWords k' (at + (i + 1)) (count - (i + 1))
owns_more k k' at i count x is own lt j lo hi = subst (InOwn j) (sym is) (own_stays k j (at + i) x (own j (omega (arith, lo)) (omega (arith, hi, lt))))

-- until none is left
pub words_end : (k all : Holder) (at i count : ℕ) (bytes : List ℕ) → count ≤ i → with_words k (at + i) (byte_words (count - i) i bytes) ≡ all → k ≡ all
words_end k all at i count bytes far was =
    let none : count - i ≡ 0 = omega (arith, far) in
    ap (λ n. with_words k (at + i) (byte_words n i bytes)) (sym none) ∙ was
