-- Arrays that are written line by line, and values that are printed one by one.
use mathlib.Core.Logic.{inl, inr}
use Rattle.std.proofs.Common.{◌≡◌, ℕ, ◌<◌, ◌≤◌, Bool, true, false, cond, List, ◌∷◌, ◌++◌, length, Some, None, refl, sym, ap, ◌∙◌, subst, arith}
use Rattle.std.proofs.lemmas.Bool.Decides.{nat_tests}
use Rattle.std.specs.Prelude.{nat_lt}
use Rattle.rb_tree.specs.declared.span.Span.{Span}
use Rattle.rb_tree.specs.declared.node.Program.{Program}
use Rattle.rb_model.specs.declared.fault.Fault.TheVariants.{TextTooLong}
use Rattle.rb_model.specs.Values.{Value as Val, Str}
use Rattle.rb_model.specs.declared.value.Value.{Value as Held}
use Rattle.rb_model.specs.Log.{Log}
use Rattle.rb_model.specs.Private.{Private}
use Rattle.rb_machine.specs.Scopes.{Script, Scope}
use Rattle.rb_machine.specs.Control.{State, On, Cont, Then, Under, Drafting, Draft, Style, Lines, LinesBehind, LineOf}
use Rattle.rb_machine.specs.Drafts.{with_line}
use Rattle.rb_machine.specs.Texts.{max_bytes, shown}
use Rattle.rb_machine.specs.Call.{raised, going, write, write_lines}
use Rattle.rb_machine.specs.Move.{left_in}
use Rattle.rb_machine.specs.Follows.{At}
use Rattle.rb_render.specs.declared.show.RenderFault.{RenderFault}
use Rattle.rb_render.specs.declared.show.RenderFault.TheVariants as fault
use Rattle.rb_walk.specs.declared.came.Came.{Came as Registers}
use Rattle.rb_walk.specs.declared.came.Leave.{Leave}
use Rattle.rb_walk.specs.Answers.{OrMemory}
use Rattle.rb_walk.specs.Outcome.{Outcome, Gave, Came, is_left, value_of, outcome}
use Rattle.rb_walk.specs.Collections.{text_end}
use Rattle.rb_walk.specs.Texts.{as_text}
use Rattle.rb_walk.proofs.Moves.{on, same, left}
use Rattle.rb_walk.proofs.Outcomes.{passes}
use Rattle.rb_walk.proofs.Texts.{told_gave, told_passes}

-- a string is told as it is
pub bytes_told : (program : Program) (bytes : List ℕ) (o : Outcome) → OrMemory (Gave (Str bytes)) o → as_text program o ≡ o
bytes_told program bytes o (inl e) = ap (as_text program) e ∙ sym e
bytes_told program bytes o (inr e) = ap (as_text program) e ∙ sym e

-- the end of a text is told as it is
pub end_told : (program : Program) (f : RenderFault) (at : Span) (o : Outcome) → o ≡ text_end f at → as_text program o ≡ o
end_told program fault.TooLong at o e = ap (as_text program) e ∙ sym e
end_told program fault.Memory at o e = ap (as_text program) e ∙ sym e

one_of_two : (n : ℕ) (b : Bool) (s t : State) → left_in s ≡ n → left_in t ≡ n → left_in (cond b s t) ≡ n
one_of_two n true s t p q = p
one_of_two n false s t p q = q

module _ (S : Script) (N : ℕ) (start : State) (h : Private) (l : Log) (at : Span) (k : List Cont) (sc : Scope) (d n : ℕ) where
  -- a line joins a text
  pub line_joins : (t new : Draft) (line : List ℕ) → with_line t line ≡ Some new → At S N start l h (going (with_line t line) at k sc d n) → At S N start l h (On (Drafting new at) k sc d n)
  line_joins t new line e a = same a (ap (λ o. going o at k sc d n) e)

  line_left : (b : Bool) (t : Draft) → left_in (going (cond b (Some t) None) at k sc d n) ≡ n
  line_left true t = refl
  line_left false t = refl

  -- or no text comes of it
  pub line_ends : (t : Draft) (line : List ℕ) (f : RenderFault) → (f ≡ fault.TooLong → with_line t line ≡ None) → At S N start l h (going (with_line t line) at k sc d n) → Came S N start l h (text_end f at) k sc d n
  line_ends t line fault.TooLong e a = same a (ap (λ o. going o at k sc d n) (e refl))
  line_ends t line fault.Memory e a = (going (with_line t line) at k sc d n, a, line_left _ _)

  -- a text joins what is printed
  pub text_joins : (old new text : List ℕ) (to : List ℕ → State) → new ≡ old ++ text → length new ≤ max_bytes
      → At S N start l h (cond (nat_lt max_bytes (length (old ++ text))) (raised TextTooLong at n) (to (old ++ text))) → At S N start l h (to new)
  text_joins old new text to e fits a =
      let short : nat_lt max_bytes (length new) ≡ false = grind (arith, nat_tests, fits) in
      let b = subst (λ bytes. At S N start l h (cond (nat_lt max_bytes (length bytes)) (raised TextTooLong at n) (to bytes))) (sym e) a in
      same b (ap (λ t. cond t (raised TextTooLong at n) (to new)) short)

  -- or there is none
  pub text_long : (old text : List ℕ) (to : List ℕ → State) (f : RenderFault) → (f ≡ fault.TooLong → max_bytes < length (old ++ text)) → ((bytes : List ℕ) → left_in (to bytes) ≡ n)
      → At S N start l h (cond (nat_lt max_bytes (length (old ++ text))) (raised TextTooLong at n) (to (old ++ text))) → Came S N start l h (text_end f at) k sc d n
  text_long old text to fault.TooLong e q a =
      let more = e refl in
      let long : nat_lt max_bytes (length (old ++ text)) ≡ true = grind (arith, nat_tests, more) in
      same a (ap (λ t. cond t (raised TextTooLong at n) (to (old ++ text))) long)
  text_long old text to fault.Memory e q a =
      let b = nat_lt max_bytes (length (old ++ text)) in
      (cond b (raised TextTooLong at n) (to (old ++ text)), a, one_of_two n b (raised TextTooLong at n) (to (old ++ text)) refl (q (old ++ text)))

module _ (S : Script) (N : ℕ) (start : State) (h : Private) where
  -- the text of an element that came is a line
  pub told_line : (l : Log) (t : Draft) (at : Span) (k : List Cont) (sc : Scope) (d d' n : ℕ) (program : Program) (c : Registers) (w : Held) (x : Leave) → is_left c ≡ false
      → Came S N start l h (as_text program (outcome c w x)) (Under d ∷ Then (LineOf t at) ∷ k) sc d' n → At S N start l h (going (with_line t (shown program (value_of c w))) at k sc d n)
  told_line l t at k sc d d' n program c w x came a =
      let b = left S N start h l _ (Then (LineOf t at) ∷ k) sc d d' n a in
      on _ (subst (λ o. Came S N start l h o (Then (LineOf t at) ∷ k) sc d n) (told_gave program c w x came) b) refl

  -- what leaves goes past it
  pub line_passes : (l : Log) (t : Draft) (at : Span) (k : List Cont) (sc : Scope) (d d' n : ℕ) (program : Program) (c : Registers) (w : Held) (x : Leave) → is_left c ≡ true
      → Came S N start l h (as_text program (outcome c w x)) (Under d ∷ Then (LineOf t at) ∷ k) sc d' n → Came S N start l h (outcome c w x) k sc d n
  line_passes l t at k sc d d' n program c w x gone a =
      let b = left S N start h l _ (Then (LineOf t at) ∷ k) sc d d' n a in
      passes S N start h c w x l (LineOf t at) k sc d n gone (told_passes S N start h l k sc d n (Then (LineOf t at)) program c w x gone b)

  -- the lines of an array that came join what is printed
  pub lines_told : (l : Log) (bytes : List ℕ) (vs : List Val) (at : Span) (k : List Cont) (sc : Scope) (d n : ℕ) (program : Program) (c : Registers) (w : Held) (x : Leave) → is_left c ≡ false → as_text program (outcome c w x) ≡ outcome c w x
      → Came S N start l h (outcome c w x) (Then (LinesBehind bytes vs at) ∷ k) sc d n → At S N start l h (write_lines S bytes (shown program (value_of c w)) vs at k sc d n)
  lines_told l bytes vs at k sc d n program c w x came text a =
      on _ (subst (λ o. Came S N start l h o (Then (LinesBehind bytes vs at) ∷ k) sc d n) (sym text ∙ told_gave program c w x came) a) refl

  -- what is written of a list of values is written of one and the others
  pub writes_next : (l : Log) (style : Style) (bytes : List ℕ) (rest : List Val) (at : Span) (k : List Cont) (sc : Scope) (d n : ℕ) (v : Val) (vs : List Val) → rest ≡ v ∷ vs
      → At S N start l h (write S style bytes rest at k sc d n) → At S N start l h (write S style bytes (v ∷ vs) at k sc d n)
  writes_next l style bytes rest at k sc d n v vs e a = same a (ap (λ vs. write S style bytes vs at k sc d n) e)

  -- an array is written in the style of lines alone
  pub in_style : (l : Log) (style : Style) (bytes : List ℕ) (vs : List Val) (at : Span) (k : List Cont) (sc : Scope) (d n : ℕ) {A B : Type 0} → style ≡ Lines
      → A × (B → At S N start l h (write S Lines bytes vs at k sc d n)) → A × (B → At S N start l h (write S style bytes vs at k sc d n))
  in_style l style bytes vs at k sc d n {A = A} {B = B} e a = subst (λ s. A × (B → At S N start l h (write S s bytes vs at k sc d n))) (sym e) a
