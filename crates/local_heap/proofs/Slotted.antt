-- What stands at a place for a value, and rows of values.
use Rattle.std.proofs.Common.{◌≡◌, ℕ, suc, zero, ◌<◌, ◌≤◌, ◌==◌, false, cond, List, [], ◌∷◌, ◌++◌, map, length, set, inl, inr, refl, ap, sym, ◌∙◌, arith}
use Rattle.std.specs.Prelude.{◌^◌}
use Rattle.std.proofs.lemmas.Bool.{eq-eqb}
use Rattle.std.proofs.lemmas.Bool.Decides.{eqb_tells}
use Rattle.std.proofs.lemmas.List.{map_push, map-set}
use Rattle.rb_model.specs.declared.value.Value.{Value as Held}
use Rattle.rb_model.specs.declared.value.Value.TheVariants as held
use Rattle.rb_model.specs.Values.{Value as Val, Nil, To, Reference, plain}
use Rattle.typed_location.specs.declared.general_place.Any.{Any}
use Rattle.typed_location.specs.declared.general_place.Any.TheVariants as any
use Rattle.typed_location.specs.Word.{word_of, Fits}
use Rattle.local_heap.specs.Slots.{Home, Standing, IsFor, IsOwn, Stands, Puts, Alike, meaning, thing_meaning, whole_at}
use Rattle.local_heap.specs.Words.{any_of}
use Rattle.local_heap.proofs.Inverse.{any_of-word_of}

-- a word that was made of what it stands for
pub stands_by : (home : Home) (v : Val) (it : Any) (slot : Standing) → Fits it → slot.word ≡ word_of it → Stands home slot.whole it → meaning home slot.whole it ≡ v
    → IsFor home v slot
stands_by home v it slot fits word stands means = record {
  word = record { any = it; fits = fits; stands = stands; is = sym word };
  means = ap (λ w. meaning home slot.whole (any_of w)) word ∙ ap (meaning home slot.whole) (any_of-word_of it fits) ∙ means;
}

-- a reference to an object of the heap
pub own_stands : (home : Home) (thing : Reference) (slot : Standing) → thing.id.serial < 2 ^ 61 → slot.word ≡ word_of (any.Thing thing.id.serial) → slot.whole ≡ Nil
    → IsOwn home (To thing) → IsFor home (To thing) slot
own_stands home thing slot fits word whole is =
    stands_by home (To thing) (any.Thing thing.id.serial) slot fits word (λ e. (is thing refl).1)
    (ap (λ v. thing_meaning home v thing.id.serial) whole ∙ (is thing refl).0)

-- and one to any other thing
pub other_stands : (home : Home) (thing : Reference) (slot : Standing) → slot.word ≡ word_of (any.Thing 0) → slot.whole ≡ To thing → IsFor home (To thing) slot
other_stands home thing slot word whole =
    stands_by home (To thing) (any.Thing 0) slot (omega arith) word (λ e. absurd (cc)) (ap (λ v. thing_meaning home v 0) whole)

-- ---- rows

-- behind the last place there is nothing
whole_beyond : (row : List Val) (p : ℕ) → length row ≤ p → whole_at row p ≡ Nil
whole_beyond [] p h = refl
whole_beyond (v ∷ row) zero h = absurd (omega (arith, h))
whole_beyond (v ∷ row) (suc p) h = whole_beyond row p (omega (arith, h))

not_zero : (p : ℕ) → (suc p == 0) ≡ false
not_zero p = elim (eqb_tells (suc p) 0) [ inl w ↦ absurd (omega (arith, w.1)) | inr w ↦ w.0 ]

zero_not : (p : ℕ) → (0 == suc p) ≡ false
zero_not p = elim (eqb_tells 0 (suc p)) [ inl w ↦ absurd (omega (arith, w.1)) | inr w ↦ w.0 ]

same_suc : (p q : ℕ) → (suc p == suc q) ≡ (p == q)
same_suc p q =
    elim (eqb_tells p q) [
      | inl w ↦ eq-eqb (suc p) (suc q) (ap suc w.1) ∙ sym w.0
      | inr w ↦ elim (eqb_tells (suc p) (suc q)) [ inl u ↦ absurd (w.1 (omega (arith, u.1))) | inr u ↦ u.0 ∙ sym w.0 ]
    ]

whole_pushed : (row : List Val) (v : Val) (p : ℕ) → whole_at (row ++ v ∷ []) p ≡ cond (p == length row) v (whole_at row p)
whole_pushed [] v zero = refl
whole_pushed [] v (suc p) = ap (λ b. cond b v Nil) (sym (not_zero p))
whole_pushed (x ∷ row) v zero = ap (λ b. cond b v x) (sym (zero_not (length row)))
whole_pushed (x ∷ row) v (suc p) = whole_pushed row v p ∙ ap (λ b. cond b v (whole_at row p)) (sym (same_suc p (length row)))

whole_set : (row : List Val) (i : ℕ) (v : Val) (p : ℕ) → i < length row → whole_at (set row i v) p ≡ cond (p == i) v (whole_at row p)
whole_set [] i v p h = absurd (omega (arith, h))
whole_set (x ∷ row) zero v zero h = refl
whole_set (x ∷ row) zero v (suc p) h = ap (λ b. cond b v (whole_at row p)) (sym (not_zero p))
whole_set (x ∷ row) (suc i) v zero h = ap (λ b. cond b v x) (sym (zero_not i))
whole_set (x ∷ row) (suc i) v (suc p) h = whole_set row i v p (omega (arith, h)) ∙ ap (λ b. cond b v (whole_at row p)) (sym (same_suc p i))

-- one more nil is nothing more
pub alike_nil : (row row' : List Val) → row' ≡ row ++ Nil ∷ [] → Alike row row'
alike_nil row row' e p =
    ap (λ r. whole_at r p) e
    ∙ whole_pushed row Nil p
    ∙ elim (eqb_tells p (length row)) as (λ _. cond (p == length row) Nil (whole_at row p) ≡ whole_at row p) [
      | inl w ↦ ap (λ b. cond b Nil (whole_at row p)) w.0 ∙ sym (whole_beyond row p (omega (arith, w.1)))
      | inr w ↦ ap (λ b. cond b Nil (whole_at row p)) w.0
    ]

pub alike_more : (row row' row'' : List Val) → Alike row row' → Alike row' row'' → Alike row row''
alike_more row row' row'' one two p = two p ∙ one p

map_long : (row : List Held) → length (map plain row) ≡ length row
map_long [] = refl
map_long (x ∷ row) = ap suc (map_long row)

-- a value in the place of another, behind all others, or nil where there is none
pub puts_set : (row : List Held) (i : ℕ) (value : Held) (row' : List Held) → i < length row → row' ≡ set row i value → Puts (map plain row) i (plain value) (map plain row')
puts_set row i value row' h e p =
    ap (λ (r : List Held). whole_at (map plain r) p) e
    ∙ ap (λ r. whole_at r p) (map-set plain row i value)
    ∙ whole_set (map plain row) i (plain value) p (omega (arith, h, map_long row))

pub puts_push : (first : List Val) (row : List Held) (i : ℕ) (value : Held) (row' : List Held) → Alike first (map plain row) → length row ≡ i → row' ≡ row ++ value ∷ []
    → Puts first i (plain value) (map plain row')
puts_push first row i value row' alike long e p =
    ap (λ (r : List Held). whole_at (map plain r) p) e
    ∙ ap (λ r. whole_at r p) (map_push plain row value)
    ∙ whole_pushed (map plain row) (plain value) p
    ∙ ap (λ n. cond (p == n) (plain value) (whole_at (map plain row) p)) (map_long row ∙ long)
    ∙ ap (cond (p == i) (plain value)) (alike p)

pub puts_nil : (row : List Held) (i : ℕ) (v : Val) → v ≡ Nil → length row ≤ i → Puts (map plain row) i v (map plain row)
puts_nil row i v nil h p =
    elim (eqb_tells p i) as (λ _. whole_at (map plain row) p ≡ cond (p == i) v (whole_at (map plain row) p)) [
      | inl w ↦ whole_beyond (map plain row) p (omega (arith, h, w.1, map_long row)) ∙ sym nil ∙ ap (λ b. cond b v (whole_at (map plain row) p)) (sym w.0)
      | inr w ↦ ap (λ b. cond b v (whole_at (map plain row) p)) (sym w.0)
    ]

-- one more nil of the code
pub alike_pushed : (first : List Val) (row row' : List Held) → Alike first (map plain row) → row' ≡ row ++ held.Nil ∷ [] → Alike first (map plain row')
alike_pushed first row row' alike e =
    alike_more first (map plain row) (map plain row') alike (alike_nil (map plain row) (map plain row') (ap (map plain) e ∙ map_push plain row held.Nil))
