-- Calls by name of methods that print.
use Rattle.std.proofs.Common.{◌≡◌, ℕ, ◌+◌, ◌≤◌, Bool, true, false, cond, List, [], ◌∷◌, length, Some, None, refl, ap, ◌∙◌, arith}
use Rattle.std.proofs.lemmas.Bool.Decides.{nat_tests}
use Rattle.std.proofs.lemmas.Slice.Eq.{bytes_eq-Decides}
use Rattle.std.proofs.lemmas.List.Elements.{All-from_recursion}
use Rattle.std.specs.Prelude.{All, is_none, not, ◌&&◌, ◌||◌, position, find, nat_lt}
use Rattle.std.specs.Str.{bytes_eq}
use Rattle.std.specs.List.{position_or_len, list_any, AllByRecursion}
use Rattle.rb_tree.specs.declared.span.Span.{Span}
use Rattle.rb_tree.specs.declared.span.NameId.{NameId}
use Rattle.rb_model.specs.Values.{Value as Val, Nil, False, True, Int, Sym, Str, To}
use Rattle.rb_machine.specs.Scopes.{Script, Scope, text_of}
use Rattle.rb_machine.specs.Control.{Cont, Instead}
use Rattle.rb_machine.specs.Drafts.{is_collection}
use Rattle.rb_machine.specs.Call.{call_by_name, own, top_level, print, show, own_text}
use Rattle.rb_machine.specs.Laws.{Quiet}
use Rattle.rb_machine.proofs.Printing.{AreUnasked}
use Rattle.rb_render.proofs.Printed.{puts_shows, print_shows}
use Rattle.rb_render.specs.declared.show.Form.{Form}
use Rattle.rb_render.specs.declared.show.Form.TheVariants as form
use Rattle.rb_render.specs.Forms.{written}
use Rattle.rb_code.specs.Resolved.{Fits, function_of, has_name, form_text}
use Rattle.rb_walk.specs.Carries.{printing}
use Rattle.rb_walk.specs.Methods.{method_for}
use Rattle.rb_walk.specs.Answers.{is_thing}
use Rattle.rb_walk.specs.Texts.{is_asking}
use Rattle.rb_walk.proofs.Texts.{plain_unasked}

past : (m len : ℕ) (t : Bool) → nat_lt m len ≡ t → is_none (cond t (Some m) None) ≡ true → len ≤ m
past m len false e h = grind (arith, nat_tests)
past m len true e h = absurd (cc)

none_by : {A : Type 0} (p : A → Bool) (x : A) (xs : List A) (t : Bool) → length (x ∷ xs) ≤ cond (not t) (1 + position_or_len p xs) 0 → (length xs ≤ position_or_len p xs → find p xs ≡ None) → cond t (Some x) (find p xs) ≡ None
none_by p x xs true h later = absurd (omega (arith, h))
none_by p x xs false h later = later (omega (arith, h))

none_passes : {A : Type 0} (p : A → Bool) (xs : List A) → length xs ≤ position_or_len p xs → find p xs ≡ None
none_passes p [] h = refl
none_passes p (x ∷ xs) h = none_by p x xs (p x) h (none_passes p xs)

-- a list has no item that passes where it has no place of one
none_at : {A : Type 0} (p : A → Bool) (xs : List A) → is_none (position p xs) ≡ true → find p xs ≡ None
none_at p xs h = none_passes p xs (past (position_or_len p xs) (length xs) (nat_lt (position_or_len p xs) (length xs)) refl h)

neither : (a b : Bool) → (a || b) ≡ false → (a ≡ false) × (b ≡ false)
neither false b h = (refl, h)
neither true b h = absurd (cc)

-- a value that is no thing is no collection
plain_one : (v : Val) → is_thing v ≡ false → is_collection v ≡ false
plain_one Nil h = refl
plain_one False h = refl
plain_one True h = refl
plain_one (Int n) h = refl
plain_one (Sym name) h = refl
plain_one (Str bytes) h = refl
plain_one (To thing) h = absurd (cc)

module _ (S : Script) where
  -- values of which none is a thing are not asked for their texts
  none_asks : (values : List Val) → list_any is_thing values ≡ false → AreUnasked S values
  none_asks values h = All-from_recursion (λ v. (own_text S v ≡ None) × (is_collection v ≡ false)) values (each values h)
    where
      each : (vs : List Val) → list_any is_thing vs ≡ false → AllByRecursion (λ v. (own_text S v ≡ None) × (is_collection v ≡ false)) vs
      each [] h = tt
      each (v ∷ vs) h = let first = neither (is_thing v) (list_any is_thing vs) h in ((plain_unasked S v first.0, plain_one v first.0), each vs first.1)

  -- nor is one of them read
  pub none_read : (values : List Val) → list_any is_collection values ≡ false → All (λ v. is_collection v ≡ false) values
  none_read values h = All-from_recursion (λ v. is_collection v ≡ false) values (each values h)
    where
      each : (vs : List Val) → list_any is_collection vs ≡ false → AllByRecursion (λ v. is_collection v ≡ false) vs
      each [] h = tt
      each (v ∷ vs) h = let first = neither (is_collection v) (list_any is_collection vs) h in (first.0, each vs first.1)

  -- where a call asks no value for its text, it shows what is written
  pub by_text : (f : Form) (values : List Val) (at : Span) (k : List Cont) (sc : Scope) (d n : ℕ) → (f ≡ form.Inspect → ⊥) → is_asking f values ≡ false
      → Quiet S (print S (form_text f) values at k sc d n) (show S (written S.program f values) (Instead Nil) at k sc d n)
  by_text form.Puts values at k sc d n h u = puts_shows S values at k sc d n (none_asks values u)
  by_text form.Print values at k sc d n h u = print_shows S values at k sc d n (none_asks values u)
  by_text form.Inspect values at k sc d n h u = absurd (h refl)

  -- a call by the name of a method that prints
  pub by_form : (form : Form) (name : NameId) (values : List Val) (at : Span) (k : List Cont) (sc : Scope) (d n : ℕ) → method_for S sc.me name ≡ None → is_none (function_of S name) ≡ true → bytes_eq (text_of S name) (form_text form) ≡ true
      → call_by_name S name values at k sc d n ≡ print S (form_text form) values at k sc d n
  by_form form name values at k sc d n c f t =
      ap (λ m. own S m name values at k sc d n) c
      ∙ (ap (λ m. top_level S m name values at k sc d n) (none_at (has_name S name) S.program.functions f)
      ∙ ap (λ text. print S text values at k sc d n) ((bytes_eq-Decides (text_of S name) (form_text form)).0 t))

all_three : (a b c : Bool) → (a && (b && c)) ≡ true → (a ≡ true) × (b ≡ true) × (c ≡ true)
all_three true true c h = (refl, refl, h)
all_three true false c h = absurd (cc)
all_three false b c h = absurd (cc)

-- what is known of a call that prints
pub printing_is : (S : Script) (form : Form) (name : NameId) (code : Script → Fits) (names : List NameId) (size : ℕ) → printing form name code S names size ≡ true
    → (is_none (function_of S name) ≡ true) × (bytes_eq (text_of S name) (form_text form) ≡ true) × (code S names size ≡ true)
printing_is S form name code names size h = all_three (is_none (function_of S name)) (bytes_eq (text_of S name) (form_text form)) (code S names size) h
