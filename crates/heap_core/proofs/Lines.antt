-- The lines of the table of threads: which are free, and what comes of a line that is set.
use Rattle.std.proofs.Common.{◌≡◌, ◌≤◌, ◌<◌, ◌⊎◌, ◌-◌, ℕ, zero, suc, Bool, true, false, cond, leb, nat_lt, is_none, List, [], ◌∷◌, length, set, get_or, position, Option, Some, None, refl, sym, ap, inl, inr, arith, le-leb, ltb-false, true≢false}
use Rattle.std.specs.List.{position_or_len}
use Rattle.std.proofs.lemmas.List.Quantifiers.{position-Some}
use Rattle.std.proofs.lemmas.List.Sums.{fails_before_first}
use Rattle.std.proofs.lemmas.Bool.{lt-leb}
use mathlib.Core.Option.{some}
use lib.ListN.{get_elem?}
use Rattle.rb_shared.specs.Lists.{Has}
use Rattle.heap_core.specs.declared.line.Line.{Line}
use Rattle.heap_core.specs.Handing.{numbers}
use Rattle.heap_core.specs.Rule.{taken_count}
use Rattle.heap_core.specs.Starting.{is_free, line_for}

-- ---- free lines

pub numbers_long : (lines : List (Option Line)) → length (numbers lines) ≡ length lines
numbers_long [] = refl
numbers_long (l ∷ lines) = ap suc (numbers_long lines)

-- a line that is free has no number
free_at : (lines : List (Option Line)) (i : ℕ) → i < length lines → is_free (get_or lines i None) ≡ true → get_elem? (numbers lines) i ≡ some None
free_at [] i lt is = absurd (omega (arith, lt))
free_at (None ∷ lines) zero lt is = refl
free_at (Some l ∷ lines) zero lt is = absurd (true≢false (sym is))
free_at (l ∷ lines) (suc i) lt is = free_at lines i (omega (arith, lt)) is

taken_most : (lines : List (Option ℕ)) → taken_count lines ≤ length lines
taken_most [] = omega arith
taken_most (None ∷ lines) = let m = taken_most lines in omega (arith, m)
taken_most (Some n ∷ lines) = let m = taken_most lines in omega (arith, m)

free_few : (lines : List (Option ℕ)) (i : ℕ) → get_elem? lines i ≡ some None → taken_count lines < length lines
free_few [] i is = absurd (cc)
free_few (None ∷ lines) zero is = let m = taken_most lines in omega (arith, m)
free_few (Some n ∷ lines) zero is = absurd (cc)
free_few (None ∷ lines) (suc i) is = let m = free_few lines i is in omega (arith, m)
free_few (Some n ∷ lines) (suc i) is = let m = free_few lines i is in omega (arith, m)

all_taken : (lines : List (Option Line)) → ((i : ℕ) → i < length lines → is_free (get_or lines i None) ≡ false) → taken_count (numbers lines) ≡ length lines
all_taken [] no_free = refl
all_taken (None ∷ lines) no_free = absurd (true≢false (no_free 0 (omega arith)))
all_taken (Some l ∷ lines) no_free = ap suc (all_taken lines (λ i lt. no_free (suc i) (omega (arith, lt))))

pub position_free : (lines : List (Option Line)) (i : ℕ) → position is_free lines ≡ Some i → get_elem? (numbers lines) i ≡ some None
position_free lines i is = let p = position-Some is_free lines i None is in free_at lines i p.0 p.1

pub position_within : (lines : List (Option Line)) (i : ℕ) → position is_free lines ≡ Some i → i < length lines
position_within lines i is = (position-Some is_free lines i None is).0

position_none : (lines : List (Option Line)) → position is_free lines ≡ None → taken_count (numbers lines) ≡ length lines
position_none lines is = by_test (nat_lt (position_or_len is_free lines) (length lines)) refl is
  where
    some_none : (n : ℕ) → Some n ≡ None → ⊥
    some_none n e = cc

    by_test : (b : Bool) → nat_lt (position_or_len is_free lines) (length lines) ≡ b → cond b (Some (position_or_len is_free lines)) None ≡ None → taken_count (numbers lines) ≡ length lines
    by_test true e none_there = absurd (some_none (position_or_len is_free lines) none_there)
    by_test false e none_there = let far = ltb-false (position_or_len is_free lines) (length lines) e in all_taken lines (λ i lt. fails_before_first is_free lines i None (omega (arith, far, lt)))

-- there is a free line where fewer are taken
pub position_full : (lines : List (Option Line)) (u : ℕ) → taken_count (numbers lines) ≡ suc u → is_none (position is_free lines) ≡ leb (length lines - 1) u
position_full lines u taken = by_option (position is_free lines) refl
  where
    by_option : (o : Option ℕ) → position is_free lines ≡ o → is_none o ≡ leb (length lines - 1) u
    by_option None is = let all = position_none lines is in sym (le-leb (length lines - 1) u (omega (arith, all, taken)))
    by_option (Some i) is =
        let few = free_few (numbers lines) i (position_free lines i is) in
        let long = numbers_long lines in sym (lt-leb (length lines - 1) u (omega (arith, few, taken, long)))

-- a line for a thread is a free one
pub line_free : (generation : ℕ) (lines : List (Option Line)) (i : ℕ) → line_for generation lines ≡ Some i → position is_free lines ≡ Some i
line_free generation lines i is = by_test (leb (length lines - 1) generation) is
  where
    none_some : None ≡ Some i → ⊥
    none_some e = cc

    by_test : (b : Bool) → cond b None (position is_free lines) ≡ Some i → position is_free lines ≡ Some i
    by_test true e = absurd (none_some e)
    by_test false e = e

-- ---- a line that is set

pub numbers_set : (lines : List (Option Line)) (i : ℕ) (l : Line) → numbers (set lines i (Some l)) ≡ set (numbers lines) i (Some l.number)
numbers_set [] i l = refl
numbers_set (x ∷ lines) zero l = refl
numbers_set (x ∷ lines) (suc i) l = ap (λ y. Rattle.std.specs.Option.option_map (λ (m : Line). m.number) x ∷ y) (numbers_set lines i l)

pub taken_set : (lines : List (Option ℕ)) (i n : ℕ) → get_elem? lines i ≡ some None → taken_count (set lines i (Some n)) ≡ suc (taken_count lines)
taken_set [] i n is = absurd (cc)
taken_set (None ∷ lines) zero n is = refl
taken_set (Some m ∷ lines) zero n is = absurd (cc)
taken_set (None ∷ lines) (suc i) n is = taken_set lines i n is
taken_set (Some m ∷ lines) (suc i) n is = ap suc (taken_set lines i n is)

pub set_has : {A : Type 0} (xs : List A) (i : ℕ) (x : A) → i < length xs → Has (set xs i x) x
set_has [] i x lt = absurd (omega (arith, lt))
set_has (y ∷ xs) zero x lt = inl refl
set_has (y ∷ xs) (suc i) x lt = inr (set_has xs i x (omega (arith, lt)))

pub set_either : {A : Type 0} (xs : List A) (i : ℕ) (x y : A) → Has (set xs i x) y → (y ≡ x) ⊎ Has xs y
set_either [] i x y h = inr h
set_either (z ∷ xs) zero x y (inl e) = inl e
set_either (z ∷ xs) zero x y (inr h) = inr (inr h)
set_either (z ∷ xs) (suc i) x y (inl e) = inr (inl e)
set_either (z ∷ xs) (suc i) x y (inr h) = by_side (set_either xs i x y h)
  where
    by_side : (y ≡ x) ⊎ Has xs y → (y ≡ x) ⊎ Has (z ∷ xs) y
    by_side (inl e) = inl e
    by_side (inr g) = inr (inr g)

-- a thread keeps its line where a free one is set
pub set_keeps : (lines : List (Option Line)) (i : ℕ) (x : Option Line) (l : Line) → get_elem? (numbers lines) i ≡ some None → Has lines (Some l) → Has (set lines i x) (Some l)
set_keeps [] i x l is h = absurd h
set_keeps (None ∷ lines) zero x l is (inl e) = absurd (let z : Some l ≡ None = e in cc)
set_keeps (None ∷ lines) zero x l is (inr h) = inr h
set_keeps (Some m ∷ lines) zero x l is h = absurd (cc)
set_keeps (y ∷ lines) (suc i) x l is (inl e) = inl e
set_keeps (y ∷ lines) (suc i) x l is (inr h) = inr (set_keeps lines i x l is h)

-- a number that stands in the table is that of a line
pub at_line : (lines : List (Option Line)) (i n : ℕ) → get_elem? (numbers lines) i ≡ some (Some n) → (l : Line) × Has lines (Some l) × (l.number ≡ n)
at_line [] i n is = absurd (cc)
at_line (None ∷ lines) zero n is = absurd (cc)
at_line (Some l ∷ lines) zero n is = (l, inl refl, number_is l.number n is)
  where
    number_is : (a b : ℕ) → some (Some a) ≡ some (Some b) → a ≡ b
    number_is a b e = cc
at_line (x ∷ lines) (suc i) n is = let p = at_line lines i n is in (p.0, inr p.1, p.2)
