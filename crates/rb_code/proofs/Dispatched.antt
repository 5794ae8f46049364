-- The methods of classes that a resolved script finds are those that the machine finds.
use Rattle.std.proofs.Common.{◌≡◌, ℕ, zero, suc, ◌+◌, ◌<◌, Bool, true, false, cond, List, [], ◌∷◌, ◌++◌, length, map, drop, get_or, Option, Some, None, refl, sym, ap, ◌∙◌, eq-eqb, arith}
use Rattle.std.specs.Prelude.{◌==◌, ◌&&◌, nat_lt, is_none, position, slice_get, unwrap_or, codes}
use Rattle.std.specs.List.{find, list_all, position_or_len}
use Rattle.std.specs.Option.{option_map, option_and_then}
use Rattle.std.specs.Str.{bytes_eq}
use Rattle.std.proofs.lemmas.Bool.Decides.{nat_tests}
use Rattle.std.proofs.lemmas.List.{at_drop_more}
use Rattle.std.proofs.lemmas.List.Folds.{find_at}
use Rattle.std.proofs.lemmas.Option.{slice_get-map, slice_get_past, slice_get_within, same_Some}
use Rattle.std.proofs.lemmas.Slice.Eq.{bytes_eq-Decides}
use Rattle.rb_tree.specs.Texts.{number_of, AreDifferent}
use Rattle.rb_tree.proofs.Numbering.{number_of-slice_get}
use Rattle.rb_tree.specs.declared.span.NameId.{NameId}
use Rattle.rb_tree.specs.declared.node.Method.{Method}
use Rattle.rb_tree.specs.declared.node.Class.{Class}
use Rattle.rb_model.specs.declared.value.Sort.TheVariants as sort
use Rattle.rb_machine.specs.Scopes.{Script, Text, text_of}
use Rattle.rb_machine.specs.Call.{methods_in, methods_of_sort, named, texted}
use Rattle.rb_code.specs.declared.scripted.Found.{Found}
use Rattle.rb_code.specs.declared.scripted.CodeMethod.{CodeMethod}
use Rattle.rb_code.specs.declared.scripted.CodeClass.{CodeClass}
use Rattle.rb_code.specs.declared.scripted.CodeScript.{CodeScript}
use Rattle.rb_code.specs.Dispatch.{method_in, found_by, methods_held, method_at, method_by, has_text, number_in, method_number, in_no_class, is_writer, is_operator}
use Rattle.rb_code.specs.Erase.{erase_method, erase_class}
use Rattle.rb_code.specs.Resolved.{same_place, method_fits, class_fits}
use Rattle.rb_code.specs.Stands.{StandsFor}

-- ---- those found, from the first to the last

pub other_number : (m n : ℕ) → (m ≡ n → ⊥) → (m == n) ≡ false
other_number m n h = grind (arith, nat_tests, h)

pub method_in_here : (class : ℕ) (fs : List Found) (i : ℕ) (f : Found) → i < length fs → method_in class (drop i fs) ≡ method_in class fs → (get_or fs i f).class ≡ class
    → Some (get_or fs i f).method ≡ method_in class fs
method_in_here class fs i f h rest here =
    sym (at_drop_more (method_in class) fs i f h ∙ ap (λ b. cond b (Some (get_or fs i f).method) (method_in class (drop (i + 1) fs))) (eq-eqb (get_or fs i f).class class here)) ∙ rest

pub method_in_later : (class : ℕ) (fs : List Found) (i : ℕ) (f : Found) → i < length fs → method_in class (drop i fs) ≡ method_in class fs → ((get_or fs i f).class ≡ class → ⊥)
    → method_in class (drop (i + 1) fs) ≡ method_in class fs
method_in_later class fs i f h rest other =
    sym (at_drop_more (method_in class) fs i f h ∙ ap (λ b. cond b (Some (get_or fs i f).method) (method_in class (drop (i + 1) fs))) (other_number (get_or fs i f).class class other)) ∙ rest

-- ---- the first that passes, and its place

module _ {A : Type 0} (p : A → Bool) (xs : List A) where
  pub find_by_position : option_and_then (slice_get xs) (position p xs) ≡ find p xs
  find_by_position = at_place (nat_lt (position_or_len p xs) (length xs)) refl ∙ sym (find_at p xs)
    where
      past : (i : ℕ) → nat_lt i (length xs) ≡ false → slice_get xs i ≡ None
      past i h = slice_get_past xs i (grind (arith, nat_tests, h))

      at_place : (b : Bool) → nat_lt (position_or_len p xs) (length xs) ≡ b → option_and_then (slice_get xs) (cond b (Some (position_or_len p xs)) None) ≡ slice_get xs (position_or_len p xs)
      at_place true h = refl
      at_place false h = sym (past (position_or_len p xs) h)

map_and_then : {A B : Type 0} (f : A → B) (xs : List A) (o : Option ℕ) → option_map f (option_and_then (slice_get xs) o) ≡ option_and_then (slice_get (map f xs)) o
map_and_then f xs None = refl
map_and_then f xs (Some i) = sym (slice_get-map f xs i)

same_option : (o p : Option ℕ) → same_place o p ≡ true → p ≡ o
same_option None None h = refl
same_option None (Some i) h = absurd (cc)
same_option (Some i) None h = absurd (cc)
same_option (Some i) (Some j) h = let e : i ≡ j = grind (arith, nat_tests, h) in ap Some (sym e)

pub conjunction : (a b : Bool) → (a && b) ≡ true → a ≡ true
conjunction true b h = refl
conjunction false b h = h

pub conjunction_rest : (a b : Bool) → (a && b) ≡ true → b ≡ true
conjunction_rest true b h = h
conjunction_rest false b h = absurd (cc)

pub passes : {A : Type 0} (p : A → Bool) (xs : List A) (i : ℕ) (x : A) → list_all p xs ≡ true → slice_get xs i ≡ Some x → p x ≡ true
passes p [] i x h at = absurd (cc)
passes p (y ∷ ys) zero x h at = ap p (sym (same_Some _ _ at)) ∙ conjunction _ _ h
passes p (y ∷ ys) (suc i) x h at = passes p ys i x (conjunction_rest _ _ h) at

pub text_is : (a b : Text) → bytes_eq a b ≡ true → a ≡ b
text_is a b h = (bytes_eq-Decides a b).0 h

-- ---- the methods of classes

module _ (S : Script) where
  held : (o : Option CodeClass) → map erase_method (methods_held o) ≡ methods_in S (option_map erase_class o)
  held None = refl
  held (Some class) = refl

  none_held : (text : Text) (o : Option Class) → ((class : Class) → o ≡ Some class → is_none (number_in S text class) ≡ true) → texted S text (methods_in S o) ≡ None
  none_held text None h = refl
  none_held text (Some class) h = sym (find_by_position (has_text S text) class.methods) ∙ absent (position (has_text S text) class.methods) (h class refl)
    where
      absent : (o : Option ℕ) → is_none o ≡ true → option_and_then (slice_get class.methods) o ≡ None
      absent None h = refl
      absent (Some i) h = absurd (cc)

  -- a text that no class has for a method
  absent_everywhere : (text : Text) (class : ℕ) → in_no_class S text ≡ true → texted S text (methods_of_sort S (sort.Object class)) ≡ None
  absent_everywhere text class h = none_held text (slice_get S.program.classes class) (λ k at. passes (λ (k : Class). is_none (number_in S text k)) S.program.classes class k h at)

  fits_held : (o : Option CodeClass) (method : ℕ) (m : CodeMethod) → ((class : CodeClass) → o ≡ Some class → class_fits S class ≡ true) → slice_get (methods_held o) method ≡ Some m → method_fits S m ≡ true
  fits_held None method m h at = absurd (cc)
  fits_held (Some class) method m h at = passes (method_fits S) class.methods method m (h class refl) at

-- two tests that say the same of each other
same_tests : (a b : Bool) → (a ≡ true → b ≡ true) → (b ≡ true → a ≡ true) → a ≡ b
same_tests true b there back = sym (there refl)
same_tests false true there back = back refl
same_tests false false there back = refl

-- what a number leads to was there
led_to : {A : Type 0} (f : ℕ → Option A) (o : Option ℕ) (x : A) → option_and_then f o ≡ Some x → (n : ℕ) × (f n ≡ Some x)
led_to f None x h = absurd (cc)
led_to f (Some n) x h = (n, h)

module _ (c : CodeScript) (S : Script) (s : StandsFor c S) (class : ℕ) where
  methods_are : map erase_method (methods_held (slice_get c.classes class)) ≡ methods_in S (slice_get S.program.classes class)
  methods_are = held S (slice_get c.classes class) ∙ ap (methods_in S) (sym (slice_get-map erase_class c.classes class) ∙ ap (λ cs. slice_get cs class) s.classes)

  -- the method of a text, by its number
  pub by_number : (text : Text) (number : Option ℕ) → number ≡ method_number S text class
      → option_map erase_method (option_and_then (method_at c class) number) ≡ texted S text (methods_of_sort S (sort.Object class))
  by_number text number h =
      map_and_then erase_method (methods_held (slice_get c.classes class)) number
      ∙ ap (λ ms. option_and_then (slice_get ms) number) methods_are
      ∙ ap (option_and_then (slice_get (methods_in S (slice_get S.program.classes class)))) h
      ∙ find_by_position (has_text S text) (methods_in S (slice_get S.program.classes class))

  -- what a name finds in a class is what its text finds there
  pub by_name : (name : NameId) → option_map erase_method (method_by c name class) ≡ texted S (text_of S name) (methods_of_sort S (sort.Object class))
  by_name name = by_number (text_of S name) (found_by c name class) (s.dispatch name class)

  -- no class has an operator or brackets for a method
  pub no_operator : (text : Text) → is_operator text ≡ true → texted S text (methods_of_sort S (sort.Object class)) ≡ None
  no_operator text h = sym (by_number text None (sym (s.plain text class h)))

  -- the method of a new object that is called first
  pub first_is : (first : Option ℕ) → same_place (method_number S (codes "initialize") class) first ≡ true
      → option_map erase_method (option_and_then (method_at c class) first) ≡ texted S (codes "initialize") (methods_of_sort S (sort.Object class))
  first_is first h = by_number (codes "initialize") first (same_option (method_number S (codes "initialize") class) first h)

  -- the method that writes an attribute
  pub by_writer : (writer : Option NameId) (name : NameId) → is_writer S writer name ≡ true
      → option_map erase_method (option_and_then (λ w. method_by c w class) writer) ≡ texted S (text_of S name ++ codes "=") (methods_of_sort S (sort.Object class))
  by_writer None name h = sym (absent_everywhere S (text_of S name ++ codes "=") class h)
  by_writer (Some writer) name h = by_name writer ∙ ap (λ text. texted S text (methods_of_sort S (sort.Object class))) (text_is (text_of S writer) (text_of S name ++ codes "=") h)

  -- the numbers of a method that is found are right
  pub at_fits : (method : ℕ) (m : CodeMethod) → method_at c class method ≡ Some m → method_fits S m ≡ true
  at_fits method m at =
      fits_held S (slice_get c.classes class) method m
      (λ k there. passes (class_fits S) c.classes class k (conjunction _ _ (conjunction_rest (list_all (method_fits S) c.functions) _ s.fits)) there) at

  pub by_fits : (name : NameId) (m : CodeMethod) → method_by c name class ≡ Some m → method_fits S m ≡ true
  by_fits name m h = let led = led_to (method_at c class) (found_by c name class) m h in at_fits led.0 m led.1

-- ---- methods by the numbers of names

text_there : (o : Option Text) → bytes_eq (unwrap_or o []) [] ≡ false → o ≡ Some (unwrap_or o [])
text_there None h = absurd (cc)
text_there (Some text) h = refl

module _ (S : Script) (different : AreDifferent S.program.names) where
  pub numbered : (id : NameId) → bytes_eq (text_of S id) [] ≡ false → number_of (text_of S id) S.program.names ≡ Some id
  numbered id h =
      let there = text_there (slice_get S.program.names id.0) h in
      number_of-slice_get (text_of S id) S.program.names id different (slice_get_within S.program.names id.0 (text_of S id) there) there

  pub same_name : (a b : NameId) → bytes_eq (text_of S a) [] ≡ false → (a.0 == b.0) ≡ bytes_eq (text_of S a) (text_of S b)
  same_name a b h =
      same_tests (a.0 == b.0) (bytes_eq (text_of S a) (text_of S b))
      (λ e. text_same (text_of S a) (text_of S b) (ap (λ n. unwrap_or (slice_get S.program.names n) []) (number_is a.0 b.0 e)))
      (λ e. eq-eqb a.0 b.0 (ap (λ (id : NameId). id.0) (one_number a b h (text_is (text_of S a) (text_of S b) e))))
    where
      number_is : (m n : ℕ) → (m == n) ≡ true → m ≡ n
      number_is m n e = grind (arith, nat_tests, e)

      text_same : (t u : Text) → t ≡ u → bytes_eq t u ≡ true
      text_same t u e = (bytes_eq-Decides t u).1 e

      one_number : (a b : NameId) → bytes_eq (text_of S a) [] ≡ false → text_of S a ≡ text_of S b → a ≡ b
      one_number a b h e =
          same_Some _ _ (sym (numbered a h) ∙ ap (λ text. number_of text S.program.names) e ∙ numbered b (sym (ap (λ text. bytes_eq text []) e) ∙ h))

  -- a name finds by its number what it finds by its text, where no method is without a text
  named_by_text : (name : NameId) (ms : List Method) → texted S [] ms ≡ None → named S name ms ≡ texted S (text_of S name) ms
  named_by_text name [] h = refl
  named_by_text name (m ∷ ms) h =
      ap (λ b. cond b (Some m) (named S name ms)) (same_name m.name name (not_here (bytes_eq (text_of S m.name) []) (texted S [] ms) h))
      ∙ ap (cond (bytes_eq (text_of S m.name) (text_of S name)) (Some m)) (named_by_text name ms (not_later (bytes_eq (text_of S m.name) []) (texted S [] ms) h))
    where
      not_here : (b : Bool) (o : Option Method) → cond b (Some m) o ≡ None → b ≡ false
      not_here true o h = absurd (cc)
      not_here false o h = refl

      not_later : (b : Bool) (o : Option Method) → cond b (Some m) o ≡ None → o ≡ None
      not_later true o h = absurd (cc)
      not_later false o h = h

module _ (c : CodeScript) (S : Script) (s : StandsFor c S) (class : ℕ) where
  -- a name that is no name finds nothing, and has no text
  empty_at : (name : NameId) → slice_get c.dispatch name.0 ≡ None → slice_get S.program.names name.0 ≡ None → texted S [] (methods_of_sort S (sort.Object class)) ≡ None
  empty_at name nothing none =
      sym (ap (λ (o : Option Text). texted S (unwrap_or o []) (methods_of_sort S (sort.Object class))) none) ∙ sym (by_name c S s class name)
      ∙ ap (λ (o : Option (List Found)). option_map erase_method (option_and_then (method_at c class) (method_in class (unwrap_or o [])))) nothing

  pub none_empty : texted S [] (methods_of_sort S (sort.Object class)) ≡ None
  none_empty =
      let n = length c.dispatch + length S.program.names in
      empty_at (record { 0 = n }) (slice_get_past c.dispatch n (omega arith)) (slice_get_past S.program.names n (omega arith))

  -- what a name finds in a class by its number is what its text finds there
  pub by_own_name : (name : NameId) → AreDifferent S.program.names → option_map erase_method (method_by c name class) ≡ named S name (methods_of_sort S (sort.Object class))
  by_own_name name different = by_name c S s class name ∙ sym (named_by_text S different name (methods_of_sort S (sort.Object class)) none_empty)
