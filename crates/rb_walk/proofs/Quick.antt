-- What is done without a walk over the parts of a node.
use Rattle.std.proofs.Common.{◌≡◌, ℕ, ◌+◌, ◌-◌, ◌<◌, ◌≤◌, true, List, [], ◌∷◌, length, Option, Some, None, refl, sym, ap, ◌∙◌, arith}
use Rattle.std.specs.Prelude.{ℤ, IfSome}
use mathlib.Core.Logic.{inl}
use Rattle.rb_tree.specs.declared.node.Program.{Program}
use Rattle.rb_tree.specs.declared.span.Span.{Span}
use Rattle.rb_tree.specs.declared.span.NameId.{NameId}
use Rattle.rb_tree.specs.declared.node.AssignOp.{AssignOp}
use Rattle.rb_tree.specs.declared.node.AssignOp.TheVariants as op
use Rattle.rb_model.specs.Values.{Value as Val, Nil, Int}
use Rattle.rb_model.specs.declared.value.Value.{Value as Held}
use Rattle.rb_model.specs.declared.value.Value.TheVariants as held
use Rattle.rb_model.specs.Log.{Log}
use Rattle.rb_model.specs.Private.{Private}
use Rattle.rb_machine.specs.Scopes.{Script, Scope, Text, text_of}
use Rattle.rb_machine.specs.Control.{State, On, Cont, Then, Under, Eval, Give, ReceiverOf, Argument, OnReceiver, RightOf, WriteTo, OfLocal}
use Rattle.rb_machine.specs.Call.{operator, read_place, texted, methods_of}
use Rattle.rb_machine.specs.Methods.{Answer, Gives, deed, equal}
use Rattle.rb_machine.specs.Follows.{At}
use Rattle.rb_builtin.specs.declared.builtin.Builtin.{Builtin}
use Rattle.rb_builtin.specs.declared.builtin.Builtin.TheVariants as builtin
use Rattle.rb_builtin.specs.declared.integer.IntegerAnswer.{IntegerAnswer}
use Rattle.rb_builtin.specs.Names.{builtin_of}
use Rattle.rb_builtin.specs.Integers.{answer_of}
use Rattle.rb_builtin.proofs.Table.{by_number, same_is}
use Rattle.rb_code.specs.declared.code.Code.{Code}
use Rattle.rb_code.specs.declared.scripted.CodeScript.{CodeScript}
use Rattle.rb_code.specs.declared.code.Code.TheVariants as code
use Rattle.rb_code.specs.Erase.{erase}
use Rattle.rb_code.specs.Layout.{has_slot}
use Rattle.rb_code.specs.Resolved.{fits}
use Rattle.rb_code.specs.Stands.{StandsFor}
use Rattle.rb_code.proofs.Showing.{shows-operate}
use Rattle.rb_code.proofs.Fitting.{fits-operate}
use Rattle.rb_walk.specs.Outcome.{Outcome, Gave, Came}
use Rattle.rb_walk.specs.Carries.{scope_of, updating}
use Rattle.rb_walk.specs.Answers.{OrMemory, IsHeld, IsMade, IsQuick, IsSmall, IsTwice, IsUpdated, IsUpdatedOver, outcome_of, method_of, wrote}
use Rattle.rb_walk.specs.Methods.{IsCompared}
use Rattle.rb_walk.proofs.Rooms.{read_room}
use Rattle.rb_walk.proofs.Lists.{fst, snd}
use Rattle.rb_walk.proofs.Moves.{on, begins, counts, gives, left as leaves}
use Rattle.rb_walk.proofs.Calls.{calls, none_plain}
use Rattle.rb_walk.proofs.Places.{operator_number, operates}
use Rattle.rb_walk.proofs.Steps.{assigned}

-- an operator that has a method decides nothing
no_or : (o : AssignOp) (b : Builtin) → method_of o ≡ Some b → o ≡ op.OrElse → ⊥
no_or o b h e = let n : method_of o ≡ None = ap method_of e in cc

no_and : (o : AssignOp) (b : Builtin) → method_of o ≡ Some b → o ≡ op.AndThen → ⊥
no_and o b h e = let n : method_of o ≡ None = ap method_of e in cc

module _ (S : Script) (N : ℕ) (start : State) (h : Private) where
  -- a call on a leaf without arguments
  pub calls_held : (l : Log) (k : List Cont) (me : Val) (names : List NameId) (size d left : ℕ) (room : List Held) (name : NameId) (receiver : Code) (at : Span) (v : Val) (o : Outcome)
      → texted S (text_of S name) (methods_of S v) ≡ None → fits S receiver names size ≡ true → length names ≤ length room → 0 < left → d < 1000
      → IsHeld receiver room v → OrMemory (outcome_of (deed S.program v (text_of S name) [] None) at) o
      → At S N start l h (On (Eval (erase receiver)) (Then (ReceiverOf (text_of S name) [] None at) ∷ k) (scope_of me names room) d left) → Came S N start l h o k (scope_of me names room) d (left - 1)
  calls_held l k me names size d left room name receiver at v o cl f len more deep is m a =
      let e1 = is S N names size d left start h l (Then (ReceiverOf (text_of S name) [] None at) ∷ k) me f len more deep a in
      calls S N start h l v (text_of S name) [] at k (scope_of me names room) d (left - 1) o cl m (on _ (on _ e1 refl) refl)

  -- a call with one argument over two leaves
  pub calls_pair : (l : Log) (k : List Cont) (me : Val) (names : List NameId) (size d left : ℕ) (room : List Held) (name : NameId) (receiver arg : Code) (at : Span) (v w : Val) (o : Outcome)
      → texted S (text_of S name) (methods_of S v) ≡ None → fits S receiver names size ≡ true → fits S arg names size ≡ true → length names ≤ length room → 1 < left → d < 1000
      → IsHeld receiver room v → IsHeld arg room w → OrMemory (outcome_of (deed S.program v (text_of S name) (w ∷ []) None) at) o
      → At S N start l h (On (Eval (erase receiver)) (Then (ReceiverOf (text_of S name) (erase arg ∷ []) None at) ∷ k) (scope_of me names room) d left) → Came S N start l h o k (scope_of me names room) d (left - 2)
  calls_pair l k me names size d left room name receiver arg at v w o cl f g len more deep is js m a =
      let e1 = is S N names size d left start h l (Then (ReceiverOf (text_of S name) (erase arg ∷ []) None at) ∷ k) me f len (omega (arith, more)) deep a in
      let e2 = js S N names size d (left - 1) start h l (Then (Argument (OnReceiver v (text_of S name) None) [] [] at) ∷ k) me g len (omega (arith, more)) deep (on _ (on _ e1 refl) refl) in
      let twice : left - 2 ≡ left - 1 - 1 = omega arith in
      rw twice (calls S N start h l v (text_of S name) (w ∷ []) at k (scope_of me names room) d (left - 1 - 1) o cl m (on _ (on _ e2 refl) refl))

  -- a local that is compared with nil or with another one
  pub compares : (c : CodeScript) (l : Log) (k : List Cont) (me : Val) (names : List NameId) (size d left : ℕ) (room : List Held) (method : Option Builtin) (name : NameId) (receiver arg : Code) (at : Span) (answer : Answer)
      → StandsFor c S → builtin_of (text_of S name) ≡ method → fits S receiver names size ≡ true → fits S arg names size ≡ true → length names ≤ length room → 1 < left → d < 1000
      → IsCompared c method name receiver arg room answer
      → At S N start l h (On (Eval (erase receiver)) (Then (ReceiverOf (text_of S name) (erase arg ∷ []) None at) ∷ k) (scope_of me names room) d left) → Came S N start l h (outcome_of answer at) k (scope_of me names room) d (left - 2)
  compares c l k me names size d left room method name receiver arg at answer st number f g len more deep q a =
      let is = sym (by_number S.program q.0 (text_of S name) builtin.Equal (q.1 ∷ []) None (number ∙ q.2)) ∙ q.6 in
      calls_pair l k me names size d left room name receiver arg at q.0 q.1 (outcome_of answer at) (q.3 S st) f g len more deep q.4 q.5 (inl (ap (λ a. outcome_of a at) (sym is))) a

  -- a value that is asked by `==` whether it is nil
  pub asks_nil : (l : Log) (k : List Cont) (sc : Scope) (d left : ℕ) (v : Val) (name : Text) (at : Span) (answer : Answer)
      → texted S name (methods_of S v) ≡ None → builtin_of name ≡ Some builtin.Equal → equal v (Nil ∷ []) ≡ answer
      → At S N start l h (On (Give Nil) (Then (Argument (OnReceiver v name None) [] [] at) ∷ k) sc d left) → Came S N start l h (outcome_of answer at) k sc d left
  asks_nil l k sc d left v name at answer none number q a =
      let is = sym (by_number S.program v name builtin.Equal (Nil ∷ []) None number) ∙ q in
      calls S N start h l v name (Nil ∷ []) at k sc d left (outcome_of answer at) none (inl (ap (λ a. outcome_of a at) (sym is))) (on _ (on _ a refl) refl)

  -- a call with one argument over an operation and a leaf
  pub calls_twice : (l : Log) (k : List Cont) (me : Val) (names : List NameId) (size d left : ℕ) (room : List Held) (name : NameId) (receiver arg : Code) (at : Span) (i : ℤ) (w : Val) (o : Outcome)
      → fits S receiver names size ≡ true → fits S arg names size ≡ true → length names ≤ length room → 3 < left → d < 999
      → IsMade receiver room i → IsHeld arg room w → OrMemory (outcome_of (deed S.program (Int i) (text_of S name) (w ∷ []) None) at) o
      → At S N start l h (On (Eval (erase receiver)) (Then (ReceiverOf (text_of S name) (erase arg ∷ []) None at) ∷ k) (scope_of me names room) d left) → Came S N start l h o k (scope_of me names room) d (left - 4)
  calls_twice l k me names size d left room name receiver arg at i w o f g len more deep is js m a =
      let e1 = is S N names size d left start h l (Then (ReceiverOf (text_of S name) (erase arg ∷ []) None at) ∷ k) me f len (omega (arith, more)) deep a in
      let e2 = js S N names size d (left - 3) start h l (Then (Argument (OnReceiver (Int i) (text_of S name) None) [] [] at) ∷ k) me g len (omega (arith, more)) (omega (arith, deep)) (on _ (on _ e1 refl) refl) in
      let fourth : left - 4 ≡ left - 3 - 1 = omega arith in
      rw fourth (calls S N start h l (Int i) (text_of S name) (w ∷ []) at k (scope_of me names room) d (left - 3 - 1) o (none_plain S (Int i) (text_of S name) refl) m (on _ (on _ e2 refl) refl))

  -- an assignment with an operator in place
  pub updates : (l : Log) (k : List Cont) (me : Val) (names : List NameId) (size d left : ℕ) (room room' : List Held) (slot : ℕ) (name : NameId) (o : AssignOp) (value : Code) (at : Span) (i : ℤ)
      → has_slot name names slot ≡ true → fits S value names size ≡ true → length names ≤ length room → 0 < left → d < 1000
      → IsUpdated slot o value room room' i
      → At S N start l h (read_place S (OfLocal name) o (erase value) at k (scope_of me names room) d left) → Came S N start l h (Gave (Int i)) k (scope_of me names room') d (left - 1)
  updates l k me names size d left room room' slot name o value at i s f len more deep is a =
      let m = is.1 in
      let n = is.2 in
      let waits = Then (WriteTo (OfLocal name) at) ∷ k in
      let g1 = gives (Int m) (read_room name names room slot (held.Int m) len s is.4) a in
      let g2 = operates S N start h (Int m) (OfLocal name) o (erase value) at (no_or o is.0 is.3) (no_and o is.0 is.3) g1 in
      let g3 = is.5 S N names size d left start h l (Then (RightOf (Int m) o at) ∷ waits) me f len more deep g2 in
      let given = is.6 S.program (operator S o) (operator_number S o ∙ is.3) in
      let g4 = calls S N start h l (Int m) (operator S o) (Int n ∷ []) at waits (scope_of me names room) d (left - 1) (Gave (Int i)) (none_plain S (Int m) (operator S o) refl) (inl (sym (ap (λ a. outcome_of a at) given))) (on _ g3 refl) in
      assigned name (WriteTo (OfLocal name) at) names slot room room' (Int i) me (Gave (Int i)) (updating at) len s (wrote (held.Int i) refl is.7) g4

  -- the same with an operation
  pub updates_over : (l : Log) (k : List Cont) (me : Val) (names : List NameId) (size d left : ℕ) (room room' : List Held) (slot : ℕ) (name : NameId) (o : AssignOp) (value : Code) (at : Span) (i : ℤ)
      → has_slot name names slot ≡ true → fits S value names size ≡ true → length names ≤ length room → 2 < left → d < 999
      → IsUpdatedOver slot o value room room' i
      → At S N start l h (read_place S (OfLocal name) o (erase value) at k (scope_of me names room) d left) → Came S N start l h (Gave (Int i)) k (scope_of me names room') d (left - 3)
  updates_over l k me names size d left room room' slot name o value at i s f len more deep is a =
      let m = is.1 in
      let n = is.2 in
      let waits = Then (WriteTo (OfLocal name) at) ∷ k in
      let g1 = gives (Int m) (read_room name names room slot (held.Int m) len s is.4) a in
      let g2 = operates S N start h (Int m) (OfLocal name) o (erase value) at (no_or o is.0 is.3) (no_and o is.0 is.3) g1 in
      let g3 = is.5 S N names size d left start h l (Then (RightOf (Int m) o at) ∷ waits) me f len more deep g2 in
      let given = is.6 S.program (operator S o) (operator_number S o ∙ is.3) in
      let g4 = calls S N start h l (Int m) (operator S o) (Int n ∷ []) at waits (scope_of me names room) d (left - 3) (Gave (Int i)) (none_plain S (Int m) (operator S o) refl) (inl (sym (ap (λ a. outcome_of a at) given))) (on _ g3 refl) in
      assigned name (WriteTo (OfLocal name) at) names slot room room' (Int i) me (Gave (Int i)) (updating at) len s (wrote (held.Int i) refl is.7) g4

-- an operation over two leaves that gives an integer
pub made_by : (c : Code) (method : Option Builtin) (name : NameId) (l r : Code) (at : Span) (room : List Held) (i : ℤ) → c ≡ code.Operate method name l r at → IsQuick method l r room (Gives (Int i)) → IsMade c room i
made_by c method name l r at room i e q = λ S N names size d n start h log k me f len more deep a.
    let begun : 0 < n = omega (arith, more) in
    let enough : 1 < n - 1 = omega (arith, more) in
    let within : d < 1000 = omega (arith, deep) in
    let below : d + 1 < 1000 = omega (arith, deep) in
    let thrice : n - 3 ≡ n - 1 - 2 = omega arith in
    let s = sym (ap (λ d. fits S d names size) e ∙ fits-operate S names size method name l r at) ∙ f in
    let fl : fits S l names size ≡ true = fst _ _ (snd _ _ s) in
    let fr : fits S r names size ≡ true = snd _ _ (snd _ _ s) in
    let number = same_is (builtin_of (text_of S name)) method (fst _ _ s) in
    let inside = Under d ∷ k in
    let b = begins _ _ inside _ _ _ (shows-operate c method name l r at e) (counts begun within a) in
    let given = q.4 S.program (text_of S name) number in
    let come = calls_pair S N start h log inside me names size (d + 1) (n - 1) room name l r at (Int q.0) (Int q.1) (Gave (Int i)) (none_plain S (Int q.0) (text_of S name) refl) fl fr len enough below q.2 q.3 (inl (sym (ap (λ a. outcome_of a at) given))) b in
    rw thrice (leaves S N start h log (Gave (Int i)) k (scope_of me names room) d (d + 1) (n - 1 - 2) come)

-- an operation over one and a leaf
pub twice_if : (method : Option Builtin) (left right : Code) (room : List Held) (o : Option IntegerAnswer) (m n : ℤ) → IsMade left room m → IsSmall right room n
    → IfSome o (λ answer. (program : Program) (name : List ℕ) → builtin_of name ≡ method → deed program (Int m) name (Int n ∷ []) None ≡ answer_of answer)
    → IfSome o (λ answer. IsTwice method left right room (answer_of answer))
twice_if method left right room None m n l r h = h
twice_if method left right room (Some answer) m n l r h = (m, n, l, r, h)
