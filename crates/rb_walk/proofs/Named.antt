-- Calls by names that neither the top level nor a method that prints has.
use Rattle.std.proofs.Common.{◌≡◌, ℕ, Bool, true, false, cond, List, Option, Some, None, refl, sym, ap, ◌∙◌}
use Rattle.std.specs.Prelude.{not, ◌&&◌, ◌||◌, is_none, slice_get, codes}
use Rattle.std.specs.Option.{option_and_then}
use Rattle.std.specs.Str.{bytes_eq}
use Rattle.rb_tree.specs.declared.span.Span.{Span}
use Rattle.rb_tree.specs.declared.span.NameId.{NameId}
use Rattle.rb_model.specs.declared.fault.Fault.TheVariants.{NoMethod}
use Rattle.rb_model.specs.Values.{Value as Val}
use Rattle.rb_machine.specs.Scopes.{Script, Scope, text_of}
use Rattle.rb_machine.specs.Control.{Cont}
use Rattle.rb_machine.specs.Call.{call_by_name, own, top_level, named, raised}
use Rattle.rb_code.specs.Resolved.{Fits, function_of, has_name, prints}
use Rattle.rb_code.proofs.Dispatched.{find_by_position}
use Rattle.rb_walk.specs.Carries.{unnamed}
use Rattle.rb_walk.specs.Methods.{method_for}
use Rattle.rb_walk.proofs.Lists.{fst, snd}

-- what is known of such a call
pub unnamed_is : (S : Script) (name : NameId) (code : Script → Fits) (names : List NameId) (size : ℕ) → unnamed name code S names size ≡ true
    → (is_none (function_of S name) ≡ true) × (prints (text_of S name) ≡ false) × (code S names size ≡ true)
unnamed_is S name code names size h =
    let rest = snd (is_none (function_of S name)) (not (prints (text_of S name)) && code S names size) h in
    (fst (is_none (function_of S name)) (not (prints (text_of S name)) && code S names size) h, negated (prints (text_of S name)) (fst (not (prints (text_of S name))) (code S names size) rest), snd (not (prints (text_of S name))) (code S names size) rest)
  where
    negated : (b : Bool) → not b ≡ true → b ≡ false
    negated true h = absurd (cc)
    negated false h = refl

module _ (S : Script) where
  none_led : (o : Option ℕ) → is_none o ≡ true → option_and_then (slice_get S.program.functions) o ≡ None
  none_led None h = refl
  none_led (Some n) h = absurd (cc)

  no_function : (name : NameId) → is_none (function_of S name) ≡ true → named S name S.program.functions ≡ None
  no_function name h = sym (find_by_position (has_name S name) S.program.functions) ∙ none_led (function_of S name) h

  no_print : (a b c : Bool) {X : Type 0} (x y z w : X) → (a || (b || c)) ≡ false → cond a x (cond b y (cond c z w)) ≡ w
  no_print true b c x y z w h = absurd (cc)
  no_print false true c x y z w h = absurd (cc)
  no_print false false true x y z w h = absurd (cc)
  no_print false false false x y z w h = refl

  -- it raises NoMethod, where the class of `self` has no method of the name either
  pub found_nowhere : (name : NameId) (values : List Val) (at : Span) (k : List Cont) (sc : Scope) (d n : ℕ) → method_for S sc.me name ≡ None → is_none (function_of S name) ≡ true → prints (text_of S name) ≡ false
      → call_by_name S name values at k sc d n ≡ raised NoMethod at n
  found_nowhere name values at k sc d n none f p =
      ap (λ m. own S m name values at k sc d n) none
      ∙ (ap (λ m. top_level S m name values at k sc d n) (no_function name f)
      ∙ no_print (bytes_eq (text_of S name) (codes "puts")) (bytes_eq (text_of S name) (codes "print")) (bytes_eq (text_of S name) (codes "p")) _ _ _ _ p)
