-- Calls of built-in methods, literals and elements, in the walk.
use Rattle.std.proofs.Common.{◌≡◌, ℕ, true, List, [], ◌∷◌, map, Option, Some, None, refl, sym, ap, ◌∙◌}
use Rattle.std.proofs.lemmas.Slice.Eq.{bytes_eq-Decides}
use Rattle.std.specs.Prelude.{codes, is_none}
use Rattle.rb_tree.specs.declared.span.Span.{Span}
use Rattle.rb_tree.specs.declared.span.NameId.{NameId}
use Rattle.rb_tree.specs.declared.node.Node.{Node}
use Rattle.rb_tree.specs.declared.node.Program.{Program}
use Rattle.rb_model.specs.Values.{Value as Val}
use Rattle.rb_model.specs.Log.{Log}
use Rattle.rb_model.specs.Private.{Private}
use Rattle.rb_machine.specs.Scopes.{Script, Text, Scope, text_of}
use Rattle.rb_machine.specs.Control.{State, Cont, Then, Instead, Creating, OfElement}
use Rattle.rb_machine.specs.Methods.{deed}
use Rattle.rb_machine.specs.Call.{texted, methods_of, invoke, answered, perform, create, create_builtin, class_from, last_value, write_place}
use Rattle.rb_machine.specs.Begin.{parts}
use Rattle.rb_machine.specs.Follows.{At}
use Rattle.rb_builtin.specs.declared.builtin.Builtin.{Builtin}
use Rattle.rb_builtin.specs.Names.{builtin_of}
use Rattle.rb_code.specs.declared.code.BuiltinClass.{BuiltinClass}
use Rattle.rb_code.specs.declared.code.BuiltinClass.TheVariants as builtin_class
use Rattle.rb_code.specs.Erase.{paired}
use Rattle.rb_code.specs.Resolved.{is_builtin, is_even, class_text}
use Rattle.rb_walk.specs.Outcome.{Outcome, Came}
use Rattle.rb_walk.specs.Collections.{Comes, CallsBuiltin, storing, building, writing_element}
use Rattle.rb_walk.proofs.Lists.{fst, snd}
use Rattle.rb_walk.proofs.Moves.{same}
use Rattle.rb_walk.proofs.Calls.{by_table}

module _ (S : Script) (N : ℕ) (start : State) where
  -- the call of a method that is built in, where the class of the receiver has none of the name
  pub calls_builtin : (l l' : Log) (h h' : Private) (k : List Cont) (sc : Scope) (d n n' : ℕ) (o : Outcome) (program : Program) (method : Option Builtin) (v : Val) (name : Text) (args : List Val) (at : Span)
      → texted S name (methods_of S v) ≡ None → builtin_of name ≡ method → S.program ≡ program → CallsBuiltin N program method v args at d n n' l l' h h' o
      → At S N start l h (invoke S v name args None at k sc d n) → Came S N start l' h' o k sc d n'
  calls_builtin l l' h h' k sc d n n' o program method v name args at none number e f a =
      f name number S start k sc e (same a (by_table S v name args None at k sc d n none ∙ ap (λ P. answered S (deed P v name args None) None at k sc d n) e))

  -- and as an assignment
  pub stores_builtin : (l l' : Log) (h h' : Private) (k : List Cont) (sc : Scope) (d n n' : ℕ) (o : Outcome) (program : Program) (v : Val) (name : Text) (args : List Val) (at : Span)
      → texted S name (methods_of S v) ≡ None → S.program ≡ program → Comes N (storing (deed program v name args None) args at) program d n n' l l' h h' o
      → At S N start l h (invoke S v name args None at (Then (Instead (last_value S args)) ∷ k) sc d n) → Came S N start l' h' o k sc d n'
  stores_builtin l l' h h' k sc d n n' o program v name args at none e f a =
      let behind = Then (Instead (last_value S args)) ∷ k in
      f S start k sc e (same a (by_table S v name args None at behind sc d n none ∙ ap (λ P. answered S (deed P v name args None) None at behind sc d n) e))

  -- a value is written to an element
  pub writes_element : (l l' : Log) (h h' : Private) (k : List Cont) (sc : Scope) (d n n' : ℕ) (o : Outcome) (program : Program) (v w index : Val) (at : Span)
      → texted S (codes "[]=") (methods_of S v) ≡ None → S.program ≡ program → Comes N (writing_element w v index at) program d n n' l l' h h' o
      → At S N start l h (write_place S w (OfElement v index) at k sc d n) → Came S N start l' h' o k sc d n'
  writes_element l l' h h' k sc d n n' o program v w index at none e f a =
      f S start k sc e (same a (by_table S v (codes "[]=") (index ∷ w ∷ []) None at (Then (Instead w) ∷ k) sc d n none))

none_is : {A : Type 0} (o : Option A) → is_none o ≡ true → o ≡ None
none_is None e = refl
none_is (Some x) e = absurd (cc)

module _ (S : Script) where
  named_so : (class : BuiltinClass) (args : List Val) (at : Span) (k : List Cont) (sc : Scope) (d n : ℕ) → create_builtin S (class_text class) args at k sc d n ≡ building class args at S k sc d n
  named_so builtin_class.Array args at k sc d n = refl
  named_so builtin_class.Hash args at k sc d n = refl
  named_so builtin_class.Mutex args at k sc d n = refl

  -- a new thing of a class that is built in
  pub built_from : (class : BuiltinClass) (name : NameId) (args : List Val) (at : Span) (k : List Cont) (sc : Scope) (d n : ℕ) → is_builtin S class name ≡ true
      → perform S (Creating name) args at k sc d n ≡ building class args at S k sc d n
  built_from class name args at k sc d n h =
      ap (λ o. create S o name args at k sc d n) (none_is (class_from S 0 name S.program.classes) (fst _ _ h))
      ∙ (ap (λ t. create_builtin S t args at k sc d n) ((bytes_eq-Decides (text_of S name) (class_text class)).0 (snd _ _ h)) ∙ named_so class args at k sc d n)

even_map : {X Y : Type 0} (f : X → Y) (xs : List X) → is_even (map f xs) ≡ is_even xs
even_map f [] = refl
even_map f (x ∷ []) = refl
even_map f (x ∷ y ∷ xs) = even_map f xs

parts_paired : (xs : List Node) → is_even xs ≡ true → parts (paired xs) ≡ xs
parts_paired [] h = refl
parts_paired (x ∷ []) h = absurd (cc)
parts_paired (x ∷ y ∷ xs) h = ap (λ zs. x ∷ y ∷ zs) (parts_paired xs h)

-- the keys and values of a literal are those that stand by turns
pub parts_are : {X Y : Type 0} (f : X → Y) (g : X → Node) (xs : List X) → is_even (map f xs) ≡ true → map g xs ≡ parts (paired (map g xs))
parts_are f g xs h = sym (parts_paired (map g xs) (even_map g xs ∙ (sym (even_map f xs) ∙ h)))
