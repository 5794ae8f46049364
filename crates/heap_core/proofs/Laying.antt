-- A row is laid into the words of the one region that a pass owns, from the first word on.
use Rattle.std.proofs.Common.{◌≡◌, ◌≤◌, ◌<◌, ◌-◌, ◌&&◌, ℕ, zero, suc, ◌+◌, true, cond, nat_le, nat_lt, List, [], ◌∷◌, ◌++◌, length, set, take, drop, get_or, refl, sym, ap, ◌∙◌, subst, inl, arith, le-leb, lt-ltb}
use Rattle.heap_core.specs.View.{Region, Holder, InOwn, OwnsOne, with_own, front_of, with_front, with_stored, holds_word}

front_long : (row ws : List ℕ) (i : ℕ) → length ws ≡ length row → length (take i row ++ drop i ws) ≡ length row
front_long [] [] i same = none i
  where
    none : (n : ℕ) → length (take {A = ℕ} n [] ++ drop n []) ≡ 0
    none zero = refl
    none (suc n) = refl
front_long [] (w ∷ ws) i same = absurd (omega (arith, same))
front_long (r ∷ row) [] i same = absurd (omega (arith, same))
front_long (r ∷ row) (w ∷ ws) zero same = same
front_long (r ∷ row) (w ∷ ws) (suc i) same = ap suc (front_long row ws i (let e : length ws ≡ length row = omega (arith, same) in e))

front_set : (row ws : List ℕ) (i d : ℕ) → length ws ≡ length row → i < length row → set (take i row ++ drop i ws) i (get_or row i d) ≡ take (suc i) row ++ drop (suc i) ws
front_set [] ws i d same lt = absurd (omega (arith, lt))
front_set (r ∷ row) [] i d same lt = absurd (omega (arith, same))
front_set (r ∷ row) (w ∷ ws) zero d same lt = refl
front_set (r ∷ row) (w ∷ ws) (suc i) d same lt = ap (λ l. r ∷ l) (front_set row ws i d (let e : length ws ≡ length row = omega (arith, same) in e) (omega (arith, lt)))

front_all : (row ws : List ℕ) (i : ℕ) → length ws ≡ length row → length row ≤ i → take i row ++ drop i ws ≡ row
front_all [] [] i same le = none i
  where
    none : (n : ℕ) → take {A = ℕ} n [] ++ drop n [] ≡ []
    none zero = refl
    none (suc n) = refl
front_all [] (w ∷ ws) i same le = absurd (omega (arith, same))
front_all (r ∷ row) [] i same le = absurd (omega (arith, same))
front_all (r ∷ row) (w ∷ ws) zero same le = absurd (omega (arith, le))
front_all (r ∷ row) (w ∷ ws) (suc i) same le = ap (λ l. r ∷ l) (front_all row ws i (let e : length ws ≡ length row = omega (arith, same) in e) (omega (arith, le)))

module _ (k : Holder) (at : ℕ) (row : List ℕ) (own : OwnsOne k at (length row)) where
  abbrev ws : List ℕ
  ws = own.0

  front_is : (i : ℕ) → with_front k at i row ≡ with_own k at (take i row ++ drop i ws)
  front_is i = ap (λ (os : List Region). with_own k at (front_of os i row)) own.2

  pub front_begin : with_front k at 0 row ≡ k
  front_begin = front_is 0 ∙ ap (λ (os : List Region). record k { own = os }) (sym own.2)

  pub front_end : (i : ℕ) → length row ≤ i → with_front k at i row ≡ with_own k at row
  front_end i le = front_is i ∙ ap (with_own k at) (front_all row ws i own.1 le)

  pub front_own : (u : Holder) (i : ℕ) → u ≡ with_front k at i row → i < length row → InOwn (at + i) u
  front_own u i is lt =
      let long = front_long row ws i own.1 in
      subst (InOwn (at + i)) (sym (is ∙ front_is i)) (record { at = at; words = take i row ++ drop i ws }, inl refl, (omega arith, omega (arith, long, lt)))

  stored_one : (vs : List ℕ) (i x : ℕ) → i < length vs → with_stored (with_own k at vs) (at + i) x ≡ with_own k at (set vs i x)
  stored_one vs i x lt =
      let o : Region = record { at = at; words = vs } in
      let low : nat_le at (at + i) ≡ true = le-leb at (at + i) (omega arith) in
      let high : nat_lt (at + i) (at + length vs) ≡ true = lt-ltb (at + i) (at + length vs) (omega (arith, lt)) in
      let holds : holds_word (at + i) o ≡ true = ap (λ b. b && nat_lt (at + i) (at + length vs)) low ∙ high in
      ap (λ b. record k { own = cond b (record { at = at; words = set vs (at + i - at) x }) o ∷ [] }) holds ∙ ap (λ n. with_own k at (set vs n x)) (let z : at + i - at ≡ i = omega arith in z)

  pub front_more : (u u' : Holder) (i x d : ℕ) → u ≡ with_front k at i row → i < length row → x ≡ get_or row i d → u' ≡ with_stored u (at + i) x → u' ≡ with_front k at (i + 1) row
  front_more u u' i x d is lt word stores =
      let long = front_long row ws i own.1 in
      stores ∙ (ap (λ h. with_stored h (at + i) x) (is ∙ front_is i) ∙ (stored_one (take i row ++ drop i ws) i x (omega (arith, long, lt))
      ∙ (ap (λ y. with_own k at (set (take i row ++ drop i ws) i y)) word ∙ (ap (with_own k at) (front_set row ws i d own.1 lt ∙ ap (λ n. take n row ++ drop n ws) (let z : suc i ≡ i + 1 = omega arith in z)) ∙ sym (front_is (i + 1))))))
