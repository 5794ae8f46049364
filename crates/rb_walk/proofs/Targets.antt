-- Methods of the classes of objects, by the table of a resolved script.
use Rattle.std.proofs.Common.{◌≡◌, ℕ, true, false, [], ◌++◌, Option, Some, None, refl, sym, ap, ◌∙◌}
use Rattle.std.specs.Prelude.{codes}
use Rattle.std.specs.Option.{option_map}
use Rattle.std.specs.Str.{bytes_eq}
use Rattle.std.proofs.lemmas.Slice.Eq.{bytes_eq-Decides}
use Rattle.rb_tree.specs.declared.span.NameId.{NameId}
use Rattle.rb_tree.specs.declared.node.AssignOp.{AssignOp}
use Rattle.rb_tree.specs.declared.node.AssignOp.TheVariants as op
use Rattle.rb_model.specs.declared.value.Ref.{Ref}
use Rattle.rb_model.specs.declared.value.Sort.{Sort}
use Rattle.rb_model.specs.declared.value.Sort.TheVariants as sort
use Rattle.rb_model.specs.declared.value.Value.{Value as Held}
use Rattle.rb_model.specs.declared.value.Value.TheVariants as held
use Rattle.rb_model.specs.Values.{Value as Val, Nil, False, True, Int, Sym, Str, To, plain}
use Rattle.rb_machine.specs.Scopes.{Script, Text, text_of}
use Rattle.rb_machine.specs.Call.{methods_of, methods_of_sort, texted, operator}
use Rattle.rb_code.specs.declared.scripted.CodeMethod.{CodeMethod}
use Rattle.rb_code.specs.declared.scripted.CodeScript.{CodeScript}
use Rattle.rb_code.specs.Dispatch.{method_by, is_operator, is_writer}
use Rattle.rb_code.specs.Erase.{erase_method}
use Rattle.rb_code.specs.Resolved.{method_fits}
use Rattle.rb_code.specs.Stands.{StandsFor}
use Rattle.rb_code.proofs.Dispatched.{by_name, by_writer, by_fits, no_operator, none_empty}
use Rattle.rb_walk.specs.declared.came.Came.{Came as Registers}
use Rattle.rb_walk.specs.declared.came.Came.TheVariants as came
use Rattle.rb_walk.specs.Outcome.{is_left, value_of}
use Rattle.rb_walk.specs.Carries.{me_of}
use Rattle.rb_walk.specs.Methods.{IsTarget, HasNone, IsWriter, HasNoWriter}

-- the method that the table has for a name is the one that it finds for an object
pub target_is : (c : CodeScript) (object : Ref) (class : ℕ) (name : NameId) (m : CodeMethod) → object.sort ≡ sort.Object class → method_by c name class ≡ Some m → IsTarget c (plain (held.Ref object)) name object m
target_is c object class name m e f = record {
  me = refl;
  finds = λ S st. ap (λ s. texted S (text_of S name) (methods_of_sort S s)) e ∙ (sym (by_name c S st class name) ∙ ap (option_map erase_method) f);
  right = λ S st. by_fits c S st class name m f;
}

-- and where the table has none, it finds none
pub target_none : (c : CodeScript) (object : Ref) (class : ℕ) (name : NameId) → object.sort ≡ sort.Object class → method_by c name class ≡ None → HasNone c (plain (held.Ref object)) name
target_none c object class name e f = λ S st. ap (λ s. texted S (text_of S name) (methods_of_sort S s)) e ∙ (sym (by_name c S st class name) ∙ ap (option_map erase_method) f)

none_of_sort : (S : Script) (s : Sort) (text : Text) → ((class : ℕ) → s ≡ sort.Object class → ⊥) → texted S text (methods_of_sort S s) ≡ None
none_of_sort S (sort.Object class) text f = absurd (f class refl)
none_of_sort S sort.List text f = refl
none_of_sort S sort.Pairs text f = refl
none_of_sort S sort.Mutex text f = refl
none_of_sort S sort.Thread text f = refl

-- a thing that is no object has no methods of the script
pub no_object : (c : CodeScript) (object : Ref) (name : NameId) → ((class : ℕ) → object.sort ≡ sort.Object class → ⊥) → HasNone c (plain (held.Ref object)) name
no_object c object name f = λ S st. none_of_sort S object.sort (text_of S name) f

-- nor has a value that is no thing
pub no_thing : (c : CodeScript) (v : Held) (name : NameId) → ((r : Ref) → v ≡ held.Ref r → ⊥) → HasNone c (plain v) name
no_thing c held.Nil name f = λ S st. refl
no_thing c held.False name f = λ S st. refl
no_thing c held.True name f = λ S st. refl
no_thing c (held.Int n) name f = λ S st. refl
no_thing c (held.Sym other) name f = λ S st. refl
no_thing c (held.Str bytes) name f = λ S st. refl
no_thing c (held.Ref r) name f = absurd (f r refl)

-- nor has one that registers hold
pub registers_none : (c : CodeScript) (r : Registers) (w : Held) (name : NameId) → is_left r ≡ false → (r ≡ came.Other → ⊥) → HasNone c (value_of r w) name
registers_none c came.Nil w name h n = λ S st. refl
registers_none c came.False w name h n = λ S st. refl
registers_none c came.True w name h n = λ S st. refl
registers_none c (came.Int i) w name h n = λ S st. refl
registers_none c came.Other w name h n = absurd (n refl)
registers_none c came.Left w name h n = absurd (cc)

module _ (c : CodeScript) (S : Script) (st : StandsFor c S) where
  operator_of_sort : (s : Sort) (text : Text) → is_operator text ≡ true → texted S text (methods_of_sort S s) ≡ None
  operator_of_sort (sort.Object class) text h = no_operator c S st class text h
  operator_of_sort sort.List text h = refl
  operator_of_sort sort.Pairs text h = refl
  operator_of_sort sort.Mutex text h = refl
  operator_of_sort sort.Thread text h = refl

  -- no value has an operator or brackets for a method of the script
  pub operator_none : (v : Val) (text : Text) → is_operator text ≡ true → texted S text (methods_of S v) ≡ None
  operator_none Nil text h = refl
  operator_none False text h = refl
  operator_none True text h = refl
  operator_none (Int n) text h = refl
  operator_none (Sym other) text h = refl
  operator_none (Str bytes) text h = refl
  operator_none (To thing) text h = operator_of_sort thing.sort text h

  unwritten_of_sort : (s : Sort) (name : NameId) → is_writer S None name ≡ true → texted S (text_of S name ++ codes "=") (methods_of_sort S s) ≡ None
  unwritten_of_sort (sort.Object class) name h = sym (by_writer c S st class None name h)
  unwritten_of_sort sort.List name h = refl
  unwritten_of_sort sort.Pairs name h = refl
  unwritten_of_sort sort.Mutex name h = refl
  unwritten_of_sort sort.Thread name h = refl

  unwritten : (v : Val) (name : NameId) → is_writer S None name ≡ true → texted S (text_of S name ++ codes "=") (methods_of S v) ≡ None
  unwritten Nil name h = refl
  unwritten False name h = refl
  unwritten True name h = refl
  unwritten (Int n) name h = refl
  unwritten (Sym other) name h = refl
  unwritten (Str bytes) name h = refl
  unwritten (To thing) name h = unwritten_of_sort thing.sort name h

  text_is : (a b : Text) → bytes_eq a b ≡ true → a ≡ b
  text_is a b h = (bytes_eq-Decides a b).0 h

  -- the method that writes an attribute is the one of its writer
  pub writer_some : (v : Val) (writer : Option NameId) (name : NameId) (object : Ref) (m : CodeMethod) → is_writer S writer name ≡ true → IsWriter c v writer object m → texted S (text_of S name ++ codes "=") (methods_of S v) ≡ Some (erase_method m)
  writer_some v None name object m h w = absurd w
  writer_some v (Some writer) name object m h w = ap (λ text. texted S text (methods_of S v)) (sym (text_is (text_of S writer) (text_of S name ++ codes "=") h)) ∙ w.finds S st

  pub writer_right : (v : Val) (writer : Option NameId) (object : Ref) (m : CodeMethod) → IsWriter c v writer object m → method_fits S m ≡ true
  writer_right v None object m w = absurd w
  writer_right v (Some writer) object m w = w.right S st

  pub writer_none : (v : Val) (writer : Option NameId) (name : NameId) → is_writer S writer name ≡ true → HasNoWriter c v writer → texted S (text_of S name ++ codes "=") (methods_of S v) ≡ None
  writer_none v None name h w = unwritten v name h
  writer_none v (Some writer) name h w = ap (λ text. texted S text (methods_of S v)) (sym (text_is (text_of S writer) (text_of S name ++ codes "=") h)) ∙ w S st

-- and the value that has it is that object
pub writer_me : (c : CodeScript) (v : Val) (writer : Option NameId) (object : Ref) (m : CodeMethod) → IsWriter c v writer object m → v ≡ me_of (Some object)
writer_me c v None object m w = absurd w
writer_me c v (Some writer) object m w = w.me

module _ (c : CodeScript) (S : Script) (st : StandsFor c S) where
  empty_of_sort : (s : Sort) → texted S [] (methods_of_sort S s) ≡ None
  empty_of_sort (sort.Object class) = none_empty c S st class
  empty_of_sort sort.List = refl
  empty_of_sort sort.Pairs = refl
  empty_of_sort sort.Mutex = refl
  empty_of_sort sort.Thread = refl

  empty_none : (v : Val) → texted S [] (methods_of S v) ≡ None
  empty_none Nil = refl
  empty_none False = refl
  empty_none True = refl
  empty_none (Int n) = refl
  empty_none (Sym other) = refl
  empty_none (Str bytes) = refl
  empty_none (To thing) = empty_of_sort thing.sort

  -- nor has it the operator of an assignment
  pub update_none : (v : Val) (o : AssignOp) → texted S (operator S o) (methods_of S v) ≡ None
  update_none v op.Plus = operator_none c S st v (codes "+") refl
  update_none v op.Minus = operator_none c S st v (codes "-") refl
  update_none v op.Times = operator_none c S st v (codes "*") refl
  update_none v op.Over = operator_none c S st v (codes "/") refl
  update_none v op.Modulo = operator_none c S st v (codes "%") refl
  update_none v op.OrElse = empty_none v
  update_none v op.AndThen = empty_none v
