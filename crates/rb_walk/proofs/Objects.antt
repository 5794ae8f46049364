-- What is asked of things, and new objects, beside the machine.
use Rattle.std.proofs.Common.{◌≡◌, ℕ, true, false, List, [], ◌∷◌, length, Option, Some, None, refl, sym, ap, ◌∙◌, subst, arith}
use Rattle.std.specs.Prelude.{is_some, codes}
use Rattle.std.specs.Option.{option_map, option_and_then}
use Rattle.rb_tree.specs.declared.span.Span.{Span}
use Rattle.rb_tree.specs.declared.span.NameId.{NameId}
use Rattle.rb_tree.specs.declared.node.AssignOp.{AssignOp}
use Rattle.rb_tree.specs.declared.node.Node.{Node}
use Rattle.rb_tree.specs.declared.node.Method.{Method}
use Rattle.rb_model.specs.declared.value.Ref.{Ref}
use Rattle.rb_model.specs.declared.value.Sort.TheVariants as sort
use Rattle.rb_model.specs.declared.act.Reply.{Reply as Answered}
use Rattle.rb_model.specs.declared.fault.Fault.TheVariants.{ArgumentCount}
use Rattle.rb_model.specs.Values.{Value as Val, To, Reference}
use Rattle.rb_model.specs.Acts.{Act, Reply, GetField, SetField}
use Rattle.rb_model.specs.Doing.{said}
use Rattle.rb_model.specs.Things.{Object, gives_to}
use Rattle.rb_model.specs.Private.{Private, Gives, Becomes, held, entered, next_id}
use Rattle.rb_model.specs.Log.{Log}
use Rattle.rb_machine.specs.Scopes.{Script, Scope}
use Rattle.rb_machine.specs.Control.{State, On, Cont, Then, Give, Step, Instead, Creating, Place, OfField, OfGlobal, ReadOf}
use Rattle.rb_machine.specs.Call.{ask, ask_of, read_place, initialize, initialized, enter, methods_of, methods_of_sort, texted, raised, perform, create, class_from}
use Rattle.rb_machine.specs.Move.{answered, left_in}
use Rattle.rb_machine.specs.Follows.{At, acts, makes}
use Rattle.rb_code.specs.declared.scripted.CodeMethod.{CodeMethod}
use Rattle.rb_code.specs.declared.scripted.CodeScript.{CodeScript}
use Rattle.rb_code.specs.Dispatch.{method_at}
use Rattle.rb_code.specs.Layout.{is_at}
use Rattle.rb_code.specs.Erase.{erase_method}
use Rattle.rb_code.specs.Resolved.{is_made, method_fits}
use Rattle.rb_code.specs.Stands.{StandsFor}
use Rattle.rb_code.proofs.Dispatched.{first_is, at_fits}
use Rattle.rb_walk.specs.Carries.{me_of}
use Rattle.rb_walk.specs.Objects.{IsVariable, of_self, of_all, Fields, plainly, globally, updating}
use Rattle.rb_walk.proofs.Lists.{fst, snd, eq_test}
use Rattle.rb_walk.proofs.Moves.{on, same}
use Rattle.rb_walk.proofs.Frames.{enter_left}

-- what is there where something is
pub there_is : {A : Type 0} (o : Option A) → is_some o ≡ true → (x : A) × (o ≡ Some x)
there_is None h = absurd (cc)
there_is (Some x) h = (x, refl)

-- and what is not there where nothing is
pub none_there : {A : Type 0} (o : Option A) → is_some o ≡ false → o ≡ None
none_there None h = refl
none_there (Some x) h = absurd (cc)

module _ (S : Script) (N : ℕ) (start : State) where
  -- a private thing answers, and becomes what the act makes of it
  pub asked_reply : (l : Log) (h h' : Private) (r : Reference) (act : Act) (y : Reply) (at : Span) (k : List Cont) (sc : Scope) (d n : ℕ) → is_some (held h r.id) ≡ true → Gives h r.id act y → Becomes h r.id act h'
      → At S N start l h (ask r act at k sc d n) → At S N start l h' (answered y at k sc d n)
  asked_reply l h h' r act y at k sc d n there gave become come =
      let x = there_is (held h r.id) there in
      let b = acts l h (ask r act at k sc d n) r act x.0 come refl x.1 in
      subst (λ z. At S N start l h' (answered z at k sc d n)) (sym (gave x.0 x.1))
      (subst (λ z. At S N start l z (answered (gives_to h.thread x.0 act) at k sc d n)) (sym (become x.0 x.1)) b)

  pub asked : (l : Log) (h h' : Private) (r : Reference) (act : Act) (a : Answered) (at : Span) (k : List Cont) (sc : Scope) (d n : ℕ) → is_some (held h r.id) ≡ true → Gives h r.id act (said a) → Becomes h r.id act h'
      → At S N start l h (ask r act at k sc d n) → At S N start l h' (answered (said a) at k sc d n)
  asked l h h' r act a at k sc d n there gave become come = asked_reply l h h' r act (said a) at k sc d n there gave become come

module _ (S : Script) (N : ℕ) (start : State) (h : Private) where
  -- a step that gives its value to a variable asks the thing that has it
  pub fielded_by : {l : Log} {k : List Cont} {sc : Scope} {d n : ℕ} (owner : Val) (name : NameId) (at : Span) (step : Step) → Fields sc.me owner name at step → (v : Val)
      → At S N start l h (On (Give v) (Then step ∷ k) sc d n) → At S N start l h (ask_of owner (SetField name v) at (Then (Instead v) ∷ k) sc d n)
  fielded_by owner name at step (plainly e) v a = rw e (on _ a refl)
  fielded_by owner name at step (globally e) v a = rw e (on _ a refl)
  fielded_by owner name at step (updating place (of_self e)) v a = rw e (on _ a refl)
  fielded_by owner name at step (updating place (of_all e)) v a = rw e (on _ a refl)

-- a variable is read of the thing that has it
pub read_so : (S : Script) (me owner : Val) (name : NameId) (place : Place) (op : AssignOp) (value : Node) (at : Span) (k : List Cont) (sc : Scope) (d n : ℕ) → sc.me ≡ me → IsVariable me owner name place
    → read_place S place op value at k sc d n ≡ ask_of owner (GetField name) at (Then (ReadOf place op value at) ∷ k) sc d n
read_so S me owner name place op value at k sc d n is (of_self e) = ap (λ v. ask_of v (GetField name) at (Then (ReadOf (OfField name) op value at) ∷ k) sc d n) (is ∙ sym e)
read_so S me owner name place op value at k sc d n is (of_all e) = ap (λ v. ask_of v (GetField name) at (Then (ReadOf (OfGlobal name) op value at) ∷ k) sc d n) (sym e)

-- the number of a class is that of its name
number_is : (o : Option ℕ) (class : ℕ) → is_at o class ≡ true → o ≡ Some class
number_is None class h = absurd (cc)
number_is (Some n) class h = ap Some (eq_test n class h)

pub class_is : (S : Script) (class : ℕ) (first : Option ℕ) (name : NameId) → is_made S class first name ≡ true → class_from S 0 name S.program.classes ≡ Some class
class_is S class first name h = number_is (class_from S 0 name S.program.classes) class (fst _ _ h)

-- a reference to what is made is one to the next thing
pub next_is : (thing : Ref) (class : ℕ) (h : Private) → thing.id ≡ next_id h → thing.sort ≡ sort.Object class → me_of (Some thing) ≡ To (record { sort = sort.Object class; id = next_id h })
next_is thing class h e f = rw (e, f) refl

-- what makes it
pub created_from : (S : Script) (class : ℕ) (first : Option ℕ) (name : NameId) (args : List Val) (at : Span) (k : List Cont) (sc : Scope) (d n : ℕ) → is_made S class first name ≡ true
    → perform S (Creating name) args at k sc d n ≡ create S (Some class) name args at k sc d n
created_from S class first name args at k sc d n made = ap (λ o. create S o name args at k sc d n) (class_is S class first name made)

-- how many steps are left where an object is to be initialized
pub initialize_left : (S : Script) (object : Val) (args : List Val) (at : Span) (k : List Cont) (sc : Scope) (d n : ℕ) → left_in (initialize S object args at k sc d n) ≡ n
initialize_left S object args at k sc d n = by_method (texted S (codes "initialize") (methods_of S object)) args
  where
    by_method : (o : Option Method) (args : List Val) → left_in (initialized S o object args at k sc d n) ≡ n
    by_method (Some m) args = enter_left S m object args at (Then (Instead object) ∷ k) sc d n
    by_method None [] = refl
    by_method None (v ∷ vs) = refl

module _ (S : Script) (N : ℕ) (start : State) where
  -- a new object, and then its `initialize`
  pub created : (l : Log) (h h' : Private) (thing : Ref) (class : ℕ) (first : Option ℕ) (name : NameId) (args : List Val) (at : Span) (k : List Cont) (sc : Scope) (d n : ℕ) → is_made S class first name ≡ true
      → thing.id ≡ next_id h → thing.sort ≡ sort.Object class → h' ≡ entered h (Object class [])
      → At S N start l h (perform S (Creating name) args at k sc d n) → At S N start l h' (initialize S (me_of (Some thing)) args at k sc d n)
  created l h h' thing class first name args at k sc d n made id sort new come =
      let a = same come (created_from S class first name args at k sc d n made) in
      let b = makes l h (create S (Some class) name args at k sc d n) (Object class []) a refl in
      let c = on (initialize S (To (record { sort = Rattle.rb_model.specs.declared.value.Sort.TheVariants.Object class; id = next_id h })) args at k sc d n) b refl in
      subst (λ v. At S N start l h' (initialize S v args at k sc d n)) (sym (next_is thing class h id sort))
      (subst (λ y. At S N start l y (initialize S (To (record { sort = Rattle.rb_model.specs.declared.value.Sort.TheVariants.Object class; id = next_id h })) args at k sc d n)) (sym new) c)

module _ (c : CodeScript) (S : Script) (st : StandsFor c S) where
  -- the method of a new object that is called first
  first_for : (thing : Ref) (class : ℕ) (first : Option ℕ) (name : NameId) → thing.sort ≡ sort.Object class → is_made S class first name ≡ true
      → texted S (codes "initialize") (methods_of S (me_of (Some thing))) ≡ option_map erase_method (option_and_then (method_at c class) first)
  first_for thing class first name e h =
      ap (λ s. texted S (codes "initialize") (methods_of_sort S s)) e ∙ sym (first_is c S st class first (snd _ _ h))

  -- one that there is is entered, and its value is not used
  pub initializes : (thing : Ref) (class number : ℕ) (name : NameId) (m : CodeMethod) (args : List Val) (at : Span) (k : List Cont) (sc : Scope) (d n : ℕ) → thing.sort ≡ sort.Object class → is_made S class (Some number) name ≡ true → method_at c class number ≡ Some m
      → initialize S (me_of (Some thing)) args at k sc d n ≡ enter S (erase_method m) (me_of (Some thing)) args at (Then (Instead (me_of (Some thing))) ∷ k) sc d n
  initializes thing class number name m args at k sc d n e h f =
      ap (λ o. initialized S o (me_of (Some thing)) args at k sc d n) (first_for thing class (Some number) name e h ∙ ap (option_map erase_method) f)

  pub first_right : (class number : ℕ) (m : CodeMethod) → method_at c class number ≡ Some m → method_fits S m ≡ true
  first_right class number m f = at_fits c S st class number m f

  -- where there is none
  uninitialized : (thing : Ref) (class : ℕ) (name : NameId) (args : List Val) (at : Span) (k : List Cont) (sc : Scope) (d n : ℕ) → thing.sort ≡ sort.Object class → is_made S class None name ≡ true
      → initialize S (me_of (Some thing)) args at k sc d n ≡ initialized S None (me_of (Some thing)) args at k sc d n
  uninitialized thing class name args at k sc d n e h =
      ap (λ o. initialized S o (me_of (Some thing)) args at k sc d n) (first_for thing class None name e h)

  some_args : (object : Val) (args : List Val) (at : Span) (k : List Cont) (sc : Scope) (d n : ℕ) → (length args ≡ 0 → ⊥) → initialized S None object args at k sc d n ≡ raised ArgumentCount at n
  some_args object [] at k sc d n f = absurd (f refl)
  some_args object (v ∷ vs) at k sc d n f = refl

  no_args : (object : Val) (args : List Val) (at : Span) (k : List Cont) (sc : Scope) (d n : ℕ) → length args ≡ 0 → initialized S None object args at k sc d n ≡ On (Give object) k sc d n
  no_args object [] at k sc d n f = refl
  no_args object (v ∷ vs) at k sc d n f = absurd (omega (arith, f))

  pub takes_none : (thing : Ref) (class : ℕ) (name : NameId) (args : List Val) (at : Span) (k : List Cont) (sc : Scope) (d n : ℕ) → thing.sort ≡ sort.Object class → is_made S class None name ≡ true → (length args ≡ 0 → ⊥)
      → initialize S (me_of (Some thing)) args at k sc d n ≡ raised ArgumentCount at n
  takes_none thing class name args at k sc d n e h f = uninitialized thing class name args at k sc d n e h ∙ some_args (me_of (Some thing)) args at k sc d n f

  pub is_ready : (thing : Ref) (class : ℕ) (name : NameId) (args : List Val) (at : Span) (k : List Cont) (sc : Scope) (d n : ℕ) → thing.sort ≡ sort.Object class → is_made S class None name ≡ true → length args ≡ 0
      → initialize S (me_of (Some thing)) args at k sc d n ≡ On (Give (me_of (Some thing))) k sc d n
  is_ready thing class name args at k sc d n e h f = uninitialized thing class name args at k sc d n e h ∙ no_args (me_of (Some thing)) args at k sc d n f
