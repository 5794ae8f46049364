-- Slots and numbers, in lists that grow.
use Rattle.std.proofs.Common.{◌≡◌, ℕ, suc, ◌+◌, ◌-◌, ◌<◌, ◌≤◌, Bool, true, false, cond, List, [], ◌∷◌, ◌++◌, length, take, get_or, Option, Some, None, refl, sym, ap, ◌∙◌, eq-eqb, arith}
use Rattle.std.specs.Prelude.{◌==◌, nat_lt, position, not}
use Rattle.std.specs.List.{position_or_len}
use Rattle.std.specs.Option.{option_map}
use Rattle.std.proofs.lemmas.Bool.Decides.{nat_tests}
use Rattle.std.proofs.lemmas.List.{take_more, length-take-le}
use Rattle.rb_tree.specs.declared.span.NameId.{NameId}
use Rattle.rb_machine.specs.Scopes.{or_else}
use Rattle.rb_code.specs.Layout.{slot_of}
use Rattle.rb_code.proofs.Dispatched.{other_number}
use Rattle.rb_resolver.specs.Known.{number_behind}

later : (b c : Bool) (o : Option ℕ) (n : ℕ) → or_else (option_map suc (cond b (Some n) o)) (cond c (Some 0) None) ≡ cond b (Some (suc n)) (or_else (option_map suc o) (cond c (Some 0) None))
later true c o n = refl
later false c o n = refl

-- the slot of a name, with one more name behind
pub slot_of_next : (name : NameId) (xs : List NameId) (x : NameId) → slot_of name (xs ++ x ∷ []) ≡ cond (x.0 == name.0) (Some (length xs)) (slot_of name xs)
slot_of_next name [] x = refl
slot_of_next name (y ∷ ys) x = rw (slot_of_next name ys x) (later (x.0 == name.0) (y.0 == name.0) (slot_of name ys) (length ys))

-- the slot of a name among the first names, by the last of these
pub slot_at : (name : NameId) (names : List NameId) (left : ℕ) (d : NameId) → 0 < left → left ≤ length names
    → slot_of name (take left names) ≡ cond ((get_or names (left - 1) d).0 == name.0) (Some (left - 1)) (slot_of name (take (left - 1) names))
slot_at name names left d some within =
    let e : left ≡ left - 1 + 1 = omega (arith, some) in
    let h : left - 1 < length names = omega (arith, some, within) in
    let h' : left - 1 ≤ length names = omega (arith, within) in
    ap (λ n. slot_of name (take n names)) e ∙ ap (slot_of name) (take_more names (left - 1) d h) ∙ slot_of_next name (take (left - 1) names) (get_or names (left - 1) d)
    ∙ ap (λ n. cond ((get_or names (left - 1) d).0 == name.0) (Some n) (slot_of name (take (left - 1) names))) (length-take-le (left - 1) names h')

pub slot_here : (name : NameId) (names : List NameId) (left : ℕ) (d : NameId) → 0 < left → left ≤ length names
    → slot_of name (take left names) ≡ slot_of name names → (get_or names (left - 1) d).0 ≡ name.0 → Some (left - 1) ≡ slot_of name names
slot_here name names left d some within rest here =
    sym (slot_at name names left d some within ∙ ap (λ b. cond b (Some (left - 1)) (slot_of name (take (left - 1) names))) (eq-eqb (get_or names (left - 1) d).0 name.0 here)) ∙ rest

pub slot_before : (name : NameId) (names : List NameId) (left : ℕ) (d : NameId) → 0 < left → left ≤ length names
    → slot_of name (take left names) ≡ slot_of name names → ((get_or names (left - 1) d).0 ≡ name.0 → ⊥) → slot_of name (take (left - 1) names) ≡ slot_of name names
slot_before name names left d some within rest other =
    sym (slot_at name names left d some within ∙ ap (λ b. cond b (Some (left - 1)) (slot_of name (take (left - 1) names))) (other_number (get_or names (left - 1) d).0 name.0 other)) ∙ rest

-- the first that passes, in a list of one more
first_is : (b : Bool) (a n : ℕ) → cond (nat_lt (cond (not b) (1 + a) 0) (suc n)) (Some (cond (not b) (1 + a) 0)) None ≡ cond b (Some 0) (option_map suc (cond (nat_lt a n) (Some a) None))
first_is true a n = here (nat_lt 0 (suc n)) (grind (arith, nat_tests))
  where
    here : (t : Bool) → t ≡ true → cond {A = Option ℕ} t (Some 0) None ≡ Some 0
    here t h = ap (λ t. cond {A = Option ℕ} t (Some 0) None) h
first_is false a n = there (nat_lt a n) (nat_lt (1 + a) (suc n)) (grind (arith, nat_tests))
  where
    there : (t u : Bool) → u ≡ t → cond u (Some (1 + a)) None ≡ option_map suc (cond t (Some a) None)
    there true u h = ap (λ u. cond u (Some (1 + a)) None) h ∙ ap Some (omega arith)
    there false u h = ap (λ u. cond u (Some (1 + a)) None) h

pub position_cons : {A : Type 0} (p : A → Bool) (x : A) (xs : List A) → position p (x ∷ xs) ≡ cond (p x) (Some 0) (option_map suc (position p xs))
position_cons p x xs = first_is (p x) (position_or_len p xs) (length xs)

or_last : Option ℕ → Bool → ℕ → Option ℕ
or_last (Some i) b n = Some i
or_last None b n = cond b (Some n) None

or_last_next : (b c : Bool) (o : Option ℕ) (n : ℕ) → cond b (Some 0) (option_map suc (or_last o c n)) ≡ or_last (cond b (Some 0) (option_map suc o)) c (suc n)
unfolding or_last
or_last_next true c o n = refl
or_last_next false c (Some i) n = refl
or_last_next false true None n = refl
or_last_next false false None n = refl

position-more : {A : Type 0} (p : A → Bool) (xs : List A) (x : A) → position p (xs ++ x ∷ []) ≡ or_last (position p xs) (p x) (length xs)
unfolding or_last
position-more p [] x = position_cons p x []
position-more p (y ∷ ys) x =
    position_cons p y (ys ++ x ∷ []) ∙ ap (λ o. cond (p y) (Some 0) (option_map suc o)) (position-more p ys x) ∙ or_last_next (p y) (p x) (position p ys) (length ys)
    ∙ ap (λ o. or_last o (p x) (suc (length ys))) (sym (position_cons p y ys))

behind_is : (o : Option ℕ) (name other : NameId) (n : ℕ) → or_last o (name.0 == other.0) n ≡ number_behind o name other n
unfolding or_last
behind_is None name other n = refl
behind_is (Some i) name other n = refl

-- the number of a name, with one more behind that has a name
pub number_next : {A : Type 0} (named : A → NameId) (name : NameId) (xs more : List A) (x : A) (n : ℕ) (old new : Option ℕ) → more ≡ xs ++ x ∷ [] → n ≡ length xs
    → old ≡ position (λ y. (named y).0 == name.0) xs → new ≡ number_behind old (named x) name n → new ≡ position (λ y. (named y).0 == name.0) more
number_next {A = A} named name xs more x n old new is count o h =
    let first : List A → Option ℕ = λ ys. position (λ y. (named y).0 == name.0) ys in
    h ∙ ap (λ o. number_behind o (named x) name n) o ∙ ap (number_behind (first xs) (named x) name) count ∙ sym (behind_is (first xs) (named x) name (length xs))
    ∙ sym (position-more (λ y. (named y).0 == name.0) xs x) ∙ sym (ap first is)
