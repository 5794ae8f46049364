-- What names find among the methods of classes: by rows, by numbers and by texts.
use Rattle.std.proofs.Common.{◌≡◌, ℕ, zero, suc, ◌+◌, ◌<◌, Bool, true, false, cond, List, [], ◌∷◌, ◌++◌, length, map, drop, replicate, get_or, set, Option, Some, None, refl, sym, ap, ◌∙◌, eq-eqb, append_assoc, append-nil, arith}
use Rattle.std.specs.Prelude.{◌==◌, ◌&&◌, not, is_none, position, slice_get, unwrap_or, codes}
use Rattle.std.specs.List.{list_all}
use Rattle.std.specs.Option.{option_map}
use Rattle.std.specs.Str.{bytes_eq}
use Rattle.std.proofs.lemmas.Bool.Decides.{nat_tests}
use Rattle.std.proofs.lemmas.List.{at_drop_more, get_or-set_same, get_or-set_other}
use Rattle.std.proofs.lemmas.Option.{slice_get-map, unwrap_or-slice_get}
use Rattle.rb_tree.specs.Texts.{number_of, AreDifferent}
use Rattle.rb_tree.specs.declared.span.NameId.{NameId}
use Rattle.rb_tree.specs.declared.node.Class.{Class}
use Rattle.rb_tree.specs.declared.node.Method.{Method}
use Rattle.rb_machine.specs.Scopes.{Script, Text, name_text, text_of, or_else}
use Rattle.rb_machine.specs.Call.{methods_in, class_from}
use Rattle.rb_code.specs.declared.scripted.Found.{Found}
use Rattle.rb_code.specs.Dispatch.{method_in, has_text, number_in, method_number, in_no_class, is_operator}
use Rattle.rb_code.proofs.Dispatched.{other_number, passes, text_is, numbered, same_name, conjunction, conjunction_rest}
use Rattle.rb_resolver.specs.Known.{class_of, first_in}
use Rattle.rb_resolver.specs.Rows.{row_at, found_in, found_in_all, has_plain, are_plain, all_plain}
use Rattle.rb_resolver.proofs.Grows.{position_cons}
use Rattle.rb_resolver.proofs.Numbered.{both}

-- ---- the first that passes

-- a place counted from another
abbrev pub counted : ℕ → Option ℕ → Option ℕ
counted n o = option_map (λ i. n + i) o

pub counted-zero : (o : Option ℕ) → counted 0 o ≡ o
counted-zero None = refl
counted-zero (Some i) = let e : 0 + i ≡ i = omega arith in ap Some e

pub counted-suc : (n : ℕ) (o : Option ℕ) → counted n (option_map suc o) ≡ counted (suc n) o
counted-suc n None = refl
counted-suc n (Some i) = let e : n + suc i ≡ suc n + i = omega arith in ap Some e

counted_here : (b : Bool) (n : ℕ) (o : Option ℕ) → cond b (Some n) (counted (suc n) o) ≡ counted n (cond b (Some 0) (option_map suc o))
counted_here true n o = let e : n ≡ n + 0 = omega arith in ap Some e
counted_here false n o = sym (counted-suc n o)

module _ {A : Type 0} where
  -- tests that agree on what passes a third
  pub position_same : (p q r : A → Bool) → ((x : A) → r x ≡ true → p x ≡ q x) → (xs : List A) → list_all r xs ≡ true → position p xs ≡ position q xs
  position_same p q r agree [] h = refl
  position_same p q r agree (x ∷ xs) h =
      position_cons p x xs ∙ ap (λ b. cond b (Some 0) (option_map suc (position p xs))) (agree x (conjunction _ _ h))
      ∙ ap (λ o. cond (q x) (Some 0) (option_map suc o)) (position_same p q r agree xs (conjunction_rest _ _ h)) ∙ sym (position_cons q x xs)

  -- a test that nothing passes
  pub position_none : (p r : A → Bool) → ((x : A) → r x ≡ true → p x ≡ false) → (xs : List A) → list_all r xs ≡ true → position p xs ≡ None
  position_none p r never [] h = refl
  position_none p r never (x ∷ xs) h =
      position_cons p x xs ∙ ap (λ b. cond b (Some 0) (option_map suc (position p xs))) (never x (conjunction _ _ h))
      ∙ ap (option_map suc) (position_none p r never xs (conjunction_rest _ _ h))

  -- a loop that looks for the first that passes: what is left gives the place in the whole
  pub first_here : (p : A → Bool) (xs : List A) (i : ℕ) (x : A) → i < length xs → counted i (position p (drop i xs)) ≡ position p xs → p (get_or xs i x) ≡ true → Some i ≡ position p xs
  first_here p xs i x h rest here =
      (let e : i ≡ i + 0 = omega arith in ap Some e)
      ∙ sym (ap (counted i) (at_drop_more (position p) xs i x h ∙ position_cons p (get_or xs i x) (drop (i + 1) xs) ∙ ap (λ b. cond b (Some 0) (option_map suc (position p (drop (i + 1) xs)))) here))
      ∙ rest

  pub first_later : (p : A → Bool) (xs : List A) (i : ℕ) (x : A) → i < length xs → counted i (position p (drop i xs)) ≡ position p xs → p (get_or xs i x) ≡ false
      → counted (i + 1) (position p (drop (i + 1) xs)) ≡ position p xs
  first_later p xs i x h rest other =
      (let e : i + 1 ≡ suc i = omega arith in ap (λ n. counted n (position p (drop (i + 1) xs))) e)
      ∙ sym (counted-suc i (position p (drop (i + 1) xs)))
      ∙ sym (ap (counted i) (at_drop_more (position p) xs i x h ∙ position_cons p (get_or xs i x) (drop (i + 1) xs) ∙ ap (λ b. cond b (Some 0) (option_map suc (position p (drop (i + 1) xs)))) other))
      ∙ rest

  -- a test of each, as far as a loop has come
  pub all_next : (p : A → Bool) (xs : List A) (i : ℕ) (x : A) → i < length xs → list_all p (drop i xs) ≡ list_all p xs → p (get_or xs i x) ≡ true → list_all p (drop (i + 1) xs) ≡ list_all p xs
  all_next p xs i x h rest here = sym (at_drop_more (list_all p) xs i x h ∙ ap (λ b. b && list_all p (drop (i + 1) xs)) here) ∙ rest

-- ---- methods that are named `initialize`

abbrev pub is_initialize : List Text → Method → Bool
is_initialize names m = bytes_eq (name_text names m.name) (codes "initialize")

-- the test of the name of the method at a place
pub tested : (names : List Text) (ms : List Method) (i : ℕ) (m : Method) (text word : Text) (b : Bool) → m ≡ get_or ms i m → text ≡ name_text names m.name → word ≡ codes "initialize" → b ≡ bytes_eq text word
    → is_initialize names (get_or ms i m) ≡ b
tested names ms i m text word b is t w h = sym (h ∙ ap (λ text. bytes_eq text word) t ∙ ap (bytes_eq (name_text names m.name)) w ∙ ap (is_initialize names) is)

-- ---- classes by their names

class_from_is : (S : Script) (n : ℕ) (name : NameId) (ks : List Class) → class_from S n name ks ≡ counted n (class_of name ks)
class_from_is S n name [] = refl
class_from_is S n name (k ∷ ks) =
    ap (cond (k.name.0 == name.0) (Some n)) (class_from_is S (suc n) name ks) ∙ counted_here (k.name.0 == name.0) n (class_of name ks)
    ∙ sym (ap (counted n) (position_cons (λ (k : Class). k.name.0 == name.0) k ks))

pub class_is : (S : Script) (name : NameId) (ks : List Class) → class_of name ks ≡ class_from S 0 name ks
class_is S name ks = sym (counted-zero (class_of name ks)) ∙ sym (class_from_is S 0 name ks)

-- ---- what a row has of a class

abbrev pub one_if : Bool → Found → List Found
one_if b f = cond b (f ∷ []) []

pub method_in-append : (class : ℕ) (xs ys : List Found) → method_in class (xs ++ ys) ≡ or_else (method_in class xs) (method_in class ys)
method_in-append class [] ys = refl
method_in-append class (f ∷ xs) ys = ap (cond (f.class == class) (Some f.method)) (method_in-append class xs ys) ∙ sorted (f.class == class) f.method (method_in class xs) (method_in class ys)
  where
    sorted : (b : Bool) (m : ℕ) (o p : Option ℕ) → cond b (Some m) (or_else o p) ≡ or_else (cond b (Some m) o) p
    sorted true m o p = refl
    sorted false m o p = refl

or_else-none : (o : Option ℕ) → or_else o None ≡ o
or_else-none None = refl
or_else-none (Some i) = refl

abbrev named : ℕ → Method → Bool
named name m = m.name.0 == name

module _ (class name : ℕ) where
  -- a row has the first method of a name
  found_here : (number : ℕ) (ms : List Method) → method_in class (found_in class name number ms) ≡ counted number (position (named name) ms)
  found_here number [] = refl
  found_here number (m ∷ ms) =
      one (named name m) number (found_in class name (suc number) ms) ∙ ap (cond (named name m) (Some number)) (found_here (suc number) ms)
      ∙ counted_here (named name m) number (position (named name) ms) ∙ sym (ap (counted number) (position_cons (named name) m ms))
    where
      one : (b : Bool) (number : ℕ) (fs : List Found) → method_in class (one_if b (record { class = class; method = number }) ++ fs) ≡ cond b (Some number) (method_in class fs)
      one true number fs = ap (λ b. cond b (Some number) (method_in class fs)) (eq-eqb class class refl)
      one false number fs = refl

  -- and nothing of other classes
  found_elsewhere : (other : ℕ) → (class ≡ other → ⊥) → (number : ℕ) (ms : List Method) → method_in other (found_in class name number ms) ≡ None
  found_elsewhere other differs number [] = refl
  found_elsewhere other differs number (m ∷ ms) = one (named name m) number (found_in class name (suc number) ms) ∙ found_elsewhere other differs (suc number) ms
    where
      one : (b : Bool) (number : ℕ) (fs : List Found) → method_in other (one_if b (record { class = class; method = number }) ++ fs) ≡ method_in other fs
      one true number fs = ap (λ b. cond b (Some number) (method_in other fs)) (other_number class other differs)
      one false number fs = refl

-- classes that come later have nothing of a class
found_before : (class name first : ℕ) → class < first → (ks : List Class) → method_in class (found_in_all name first ks) ≡ None
found_before class name first h [] = refl
found_before class name first h (k ∷ ks) =
    method_in-append class (found_in first name 0 k.methods) (found_in_all name (suc first) ks)
    ∙ ap (λ o. or_else o (method_in class (found_in_all name (suc first) ks))) (found_elsewhere first name class (λ e. omega (arith, h, e)) 0 k.methods)
    ∙ found_before class name (suc first) (omega (arith, h)) ks

module _ (S : Script) (name : ℕ) where
  found_from : (first i : ℕ) (ks : List Class) → method_in (first + i) (found_in_all name first ks) ≡ position (named name) (methods_in S (slice_get ks i))
  found_from first i [] = refl
  found_from first zero (k ∷ ks) =
      let e : first + 0 ≡ first = omega arith in
      let next : first < suc first = omega arith in
      ap (λ n. method_in n (found_in first name 0 k.methods ++ found_in_all name (suc first) ks)) e
      ∙ method_in-append first (found_in first name 0 k.methods) (found_in_all name (suc first) ks)
      ∙ ap (λ o. or_else o (method_in first (found_in_all name (suc first) ks))) (found_here first name 0 k.methods ∙ counted-zero (position (named name) k.methods))
      ∙ ap (or_else (position (named name) k.methods)) (found_before first name (suc first) next ks)
      ∙ or_else-none (position (named name) k.methods)
  found_from first (suc i) (k ∷ ks) =
      let e : first + suc i ≡ suc first + i = omega arith in
      let other : first ≡ first + suc i → ⊥ = λ same. omega (arith, same) in
      method_in-append (first + suc i) (found_in first name 0 k.methods) (found_in_all name (suc first) ks)
      ∙ ap (λ o. or_else o (method_in (first + suc i) (found_in_all name (suc first) ks))) (found_elsewhere first name (first + suc i) other 0 k.methods)
      ∙ ap (λ n. method_in n (found_in_all name (suc first) ks)) e ∙ found_from (suc first) i ks

  -- the rows of all classes have of each class the first method of a name
  pub found_is : (class : ℕ) (ks : List Class) → method_in class (found_in_all name 0 ks) ≡ position (named name) (methods_in S (slice_get ks class))
  found_is class ks = (let e : class ≡ 0 + class = omega arith in ap (λ n. method_in n (found_in_all name 0 ks)) e) ∙ found_from 0 class ks

-- ---- rows as a loop makes them

pub row_empty : (count n : ℕ) → row_at (replicate count []) n ≡ []
row_empty zero n = refl
row_empty (suc count) zero = refl
row_empty (suc count) (suc n) = row_empty count n

pub row_set : (rows : List (List Found)) (i n : ℕ) (row new : List Found) (f : Found) → i < length rows → slice_get rows i ≡ Some row → new ≡ row ++ f ∷ []
    → row_at (set rows i new) n ≡ row_at rows n ++ one_if (i == n) f
row_set rows i n row new f h there is =
    unwrap_or-slice_get (set rows i new) n [] ∙ by_test (i == n) (λ same. grind (arith, nat_tests, same)) (λ differs same. grind (arith, nat_tests, differs, same))
  where
    by_test : (b : Bool) → (b ≡ true → i ≡ n) → (b ≡ false → n ≡ i → ⊥) → get_or (set rows i new) n [] ≡ row_at rows n ++ one_if b f
    by_test true same differs =
        ap (λ k. get_or (set rows i new) k []) (sym (same refl)) ∙ get_or-set_same rows i new [] h ∙ is
        ∙ ap (λ r. r ++ f ∷ []) (sym (ap (λ o. unwrap_or o []) there) ∙ ap (row_at rows) (same refl))
    by_test false same differs = get_or-set_other rows i n new [] (differs refl) ∙ sym (unwrap_or-slice_get rows n []) ∙ sym (append-nil (row_at rows n))

pub rows_next : (class name : ℕ) (ms : List Method) (i : ℕ) (m : Method) (all old new : List Found) → i < length ms → m ≡ get_or ms i m → old ++ found_in class name i (drop i ms) ≡ all
    → new ≡ old ++ one_if (m.name.0 == name) (record { class = class; method = i }) → new ++ found_in class name (i + 1) (drop (i + 1) ms) ≡ all
rows_next class name ms i m all old new h is rest added =
    let e : i + 1 ≡ suc i = omega arith in
    let one = λ (m : Method). one_if (m.name.0 == name) (record { class = class; method = i }) in
    let left = found_in class name (suc i) (drop (i + 1) ms) in
    ap (λ n. new ++ found_in class name n (drop (i + 1) ms)) e ∙ ap (λ fs. fs ++ left) added ∙ append_assoc old (one m) left ∙ ap (λ m. old ++ (one m ++ left)) is
    ∙ sym (ap (λ fs. old ++ fs) (at_drop_more (found_in class name i) ms i m h)) ∙ rest

pub all_rows_next : (name : ℕ) (ks : List Class) (i : ℕ) (k : Class) (all old new : List Found) → i < length ks → k ≡ get_or ks i k → old ++ found_in_all name i (drop i ks) ≡ all
    → new ≡ old ++ found_in i name 0 k.methods → new ++ found_in_all name (i + 1) (drop (i + 1) ks) ≡ all
all_rows_next name ks i k all old new h is rest added =
    let e : i + 1 ≡ suc i = omega arith in
    let one = λ (k : Class). found_in i name 0 k.methods in
    let left = found_in_all name (suc i) (drop (i + 1) ks) in
    ap (λ n. new ++ found_in_all name n (drop (i + 1) ks)) e ∙ ap (λ fs. fs ++ left) added ∙ append_assoc old (one k) left ∙ ap (λ k. old ++ (one k ++ left)) is
    ∙ sym (ap (λ fs. old ++ fs) (at_drop_more (found_in_all name i) ks i k h)) ∙ rest

-- ---- methods of classes by the texts of their names

is_no : (a b : Bool) → (not a && b) ≡ true → a ≡ false
is_no true b h = absurd (cc)
is_no false b h = refl

is_no_rest : (a b : Bool) → (a && not b) ≡ true → b ≡ false
is_no_rest true true h = absurd (cc)
is_no_rest true false h = refl
is_no_rest false b h = absurd (cc)

refuted : (b : Bool) → (b ≡ true → ⊥) → b ≡ false
refuted true h = absurd (h refl)
refuted false h = refl

both_ways : (b : Bool) → b ≡ true → b ≡ false → ⊥
both_ways b holds fails = cc

module _ (S : Script) where
  has_some : (m : Method) → has_plain S.program.names m ≡ true → bytes_eq (text_of S m.name) [] ≡ false
  has_some m h = is_no (bytes_eq (text_of S m.name) []) (not (is_operator (text_of S m.name))) h

  of_class : (class : ℕ) (o : Option Class) → slice_get S.program.classes class ≡ o → all_plain S.program.names S.program.classes ≡ true → are_plain S.program.names (methods_in S o) ≡ true
  of_class class None at h = refl
  of_class class (Some k) at h = passes (λ (k : Class). are_plain S.program.names k.methods) S.program.classes class k h at

  -- an operator finds nothing
  pub plain_is : all_plain S.program.names S.program.classes ≡ true → (text : Text) (class : ℕ) → is_operator text ≡ true → method_number S text class ≡ None
  plain_is h text class operator =
      position_none (has_text S text) (has_plain S.program.names)
      (λ m plain. refuted (has_text S text m) (λ same. both_ways (is_operator (text_of S m.name)) (ap is_operator (text_is (text_of S m.name) text same) ∙ operator)
      (is_no_rest (not (bytes_eq (text_of S m.name) [])) (is_operator (text_of S m.name)) plain)))
      (methods_in S (slice_get S.program.classes class)) (of_class class (slice_get S.program.classes class) refl h)

  -- the numbers of `initialize`
  pub firsts_are : (class : ℕ) → unwrap_or (slice_get (map (λ (k : Class). first_in S.program.names k.methods) S.program.classes) class) None ≡ method_number S (codes "initialize") class
  firsts_are class =
      ap (λ o. unwrap_or o None) (slice_get-map (λ (k : Class). first_in S.program.names k.methods) S.program.classes class) ∙ by_class (slice_get S.program.classes class)
    where
      by_class : (o : Option Class) → unwrap_or (option_map (λ (k : Class). first_in S.program.names k.methods) o) None ≡ position (has_text S (codes "initialize")) (methods_in S o)
      by_class None = refl
      by_class (Some k) = refl

module _ (S : Script) (different : AreDifferent S.program.names) where
  -- what a name finds by its number is what its text finds
  pub dispatched : all_plain S.program.names S.program.classes ≡ true → (name : NameId) (class : ℕ)
      → position (named name.0) (methods_in S (slice_get S.program.classes class)) ≡ method_number S (text_of S name) class
  dispatched h name class =
      position_same (named name.0) (has_text S (text_of S name)) (has_plain S.program.names) (λ m plain. same_name S different m.name name (has_some S m plain))
      (methods_in S (slice_get S.program.classes class)) (of_class S class (slice_get S.program.classes class) refl h)

  -- a text that is no name finds nothing
  pub absent_is : all_plain S.program.names S.program.classes ≡ true → (text : Text) → number_of text S.program.names ≡ None → in_no_class S text ≡ true
  absent_is h text absent = in_none S.program.classes h
    where
      no_number : (o : Option NameId) (id : NameId) → o ≡ None → o ≡ Some id → ⊥
      no_number o id nothing something = cc

      another : (m : Method) → has_plain S.program.names m ≡ true → has_text S text m ≡ false
      another m plain =
          refuted (has_text S text m) (λ same. no_number (number_of (text_of S m.name) S.program.names) m.name
          (ap (λ text. number_of text S.program.names) (text_is (text_of S m.name) text same) ∙ absent) (numbered S different m.name (has_some S m plain)))

      in_none : (ks : List Class) → all_plain S.program.names ks ≡ true → list_all (λ (k : Class). is_none (number_in S text k)) ks ≡ true
      in_none [] h = refl
      in_none (k ∷ ks) h =
          both _ _ (ap is_none (position_none (has_text S text) (has_plain S.program.names) another k.methods (conjunction _ _ h))) (in_none ks (conjunction_rest _ _ h))
