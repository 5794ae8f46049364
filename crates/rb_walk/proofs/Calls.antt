-- Calls of methods of values.
use Rattle.std.proofs.Common.{◌≡◌, ℕ, true, false, List, [], Option, Some, None, refl, sym, ap, ◌∙◌, subst}
use Rattle.std.specs.Prelude.{is_none}
use mathlib.Core.Logic.{inl, inr}
use Rattle.rb_tree.specs.declared.span.Span.{Span}
use Rattle.rb_tree.specs.declared.node.Block.{Block}
use Rattle.rb_model.specs.declared.fault.Fault.TheVariants.{NoMethod}
use Rattle.rb_model.specs.Values.{Value as Val, Nil, False, True, Int, Sym, Str, To}
use Rattle.rb_model.specs.Log.{Log}
use Rattle.rb_model.specs.Private.{Private}
use Rattle.rb_machine.specs.Scopes.{Script, Scope, Text}
use Rattle.rb_machine.specs.Control.{State, Cont}
use Rattle.rb_machine.specs.Call.{invoke, invoked, answered, methods_of, texted, raised, params_of}
use Rattle.rb_machine.specs.Methods.{Answer, Gives, Raises, Loops, LoopsOver, Asks, Reads, EachPairOf, Inspects, Synchronizes, deed}
use Rattle.rb_machine.specs.Move.{left_in}
use Rattle.rb_machine.specs.Follows.{At}
use Rattle.rb_builtin.specs.Names.{builtin_of}
use Rattle.rb_builtin.proofs.Table.{no_number}
use Rattle.rb_walk.specs.Outcome.{Outcome, Came}
use Rattle.rb_walk.specs.Answers.{OrMemory, is_thing, outcome_of}
use Rattle.rb_walk.proofs.Moves.{same}

-- a value that is no thing has no method of the script
no_methods : (S : Script) (v : Val) → is_thing v ≡ false → methods_of S v ≡ []
no_methods S Nil e = refl
no_methods S False e = refl
no_methods S True e = refl
no_methods S (Int n) e = refl
no_methods S (Sym other) e = refl
no_methods S (Str bytes) e = refl
no_methods S (To thing) e = absurd (cc)

pub none_plain : (S : Script) (v : Val) (name : Text) → is_thing v ≡ false → texted S name (methods_of S v) ≡ None
none_plain S v name e = ap (texted S name) (no_methods S v e)

-- where the script has no method for a call it is answered by the table
pub by_table : (S : Script) (v : Val) (name : Text) (args : List Val) (block : Option Block) (at : Span) (k : List Cont) (sc : Scope) (d n : ℕ) → texted S name (methods_of S v) ≡ None
    → invoke S v name args block at k sc d n ≡ answered S (deed S.program v name args (params_of S block)) block at k sc d n
by_table S v name args block at k sc d n e = ap (λ m. invoked S m v name args block at k sc d n) e

none_is : {A : Type 0} (o : Option A) → is_none o ≡ true → o ≡ None
none_is None e = refl
none_is (Some x) e = absurd (cc)

-- and one of a name that no built-in method has raises NoMethod
pub no_such : (S : Script) (v : Val) (name : Text) (args : List Val) (block : Option Block) (at : Span) (k : List Cont) (sc : Scope) (d n : ℕ) → texted S name (methods_of S v) ≡ None → is_none (builtin_of name) ≡ true
    → invoke S v name args block at k sc d n ≡ raised NoMethod at n
no_such S v name args block at k sc d n e f =
    by_table S v name args block at k sc d n e ∙ ap (λ a. answered S a block at k sc d n) (no_number S.program v name args (params_of S block) (none_is (builtin_of name) f))

pub left_answered : (S : Script) (a : Answer) (at : Span) (k : List Cont) (sc : Scope) (d n : ℕ) → left_in (answered S a None at k sc d n) ≡ n
left_answered S (Gives v) at k sc d n = refl
left_answered S (Raises fault) at k sc d n = refl
left_answered S (Loops turns) at k sc d n = refl
left_answered S (LoopsOver array walk) at k sc d n = refl
left_answered S (Asks thing act None) at k sc d n = refl
left_answered S (Asks thing act (Some step)) at k sc d n = refl
left_answered S (Reads thing purpose) at k sc d n = refl
left_answered S (EachPairOf hash) at k sc d n = refl
left_answered S (Inspects collection) at k sc d n = refl
left_answered S (Synchronizes mutex) at k sc d n = refl

module _ (S : Script) (N : ℕ) (start : State) (h : Private) where
  -- what a method without a block answers
  pub answers : (l : Log) (a : Answer) (at : Span) (k : List Cont) (sc : Scope) (d n : ℕ) → At S N start l h (answered S a None at k sc d n) → Came S N start l h (outcome_of a at) k sc d n
  answers l (Gives v) at k sc d n a = a
  answers l (Raises fault) at k sc d n a = a
  answers l (Loops turns) at k sc d n a = a
  answers l (LoopsOver array walk) at k sc d n a = a
  answers l (Asks thing act None) at k sc d n a = (_, a, refl)
  answers l (Asks thing act (Some step)) at k sc d n a = (_, a, refl)
  answers l (Reads thing purpose) at k sc d n a = (_, a, refl)
  answers l (EachPairOf hash) at k sc d n a = a
  answers l (Inspects collection) at k sc d n a = (_, a, refl)
  answers l (Synchronizes mutex) at k sc d n a = a

  -- an outcome, or a cut by memory at a state with as many steps left
  pub or_memory : (l : Log) (k : List Cont) (sc : Scope) (d n : ℕ) (wanted o : Outcome) (s : State) → OrMemory wanted o → At S N start l h s → left_in s ≡ n → Came S N start l h wanted k sc d n → Came S N start l h o k sc d n
  or_memory l k sc d n wanted o s (inl e) a q c = subst (λ o. Came S N start l h o k sc d n) (sym e) c
  or_memory l k sc d n wanted o s (inr e) a q c = subst (λ o. Came S N start l h o k sc d n) (sym e) (s, a, q)

  -- a call of a method of a value without a block comes out so
  pub calls : (l : Log) (v : Val) (name : Text) (args : List Val) (at : Span) (k : List Cont) (sc : Scope) (d n : ℕ) (o : Outcome) → texted S name (methods_of S v) ≡ None
      → OrMemory (outcome_of (deed S.program v name args None) at) o → At S N start l h (invoke S v name args None at k sc d n) → Came S N start l h o k sc d n
  calls l v name args at k sc d n o e m a =
      let answer = deed S.program v name args None in
      let b = same a (by_table S v name args None at k sc d n e) in
      or_memory l k sc d n (outcome_of answer at) o (answered S answer None at k sc d n) m b (left_answered S answer at k sc d n) (answers l answer at k sc d n b)
