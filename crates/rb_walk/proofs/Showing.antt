-- Prints, beside the machine.
use Rattle.std.proofs.Common.{◌≡◌, ℕ, ◌-◌, ◌≤◌, ◌<◌, true, false, List, [], ◌∷◌, length, None, refl, sym, ap, ◌∙◌, subst, cond, arith}
use Rattle.std.proofs.lemmas.Bool.Decides.{nat_tests}
use Rattle.std.specs.Prelude.{◌==◌, nat_lt}
use Rattle.rb_tree.specs.declared.span.Span.{Span}
use Rattle.rb_model.specs.Values.{Nil}
use Rattle.rb_model.specs.declared.fault.Fault.TheVariants.{TextTooLong}
use Rattle.rb_model.specs.Ends.{Sink}
use Rattle.rb_model.specs.Log.{Log, Print, logged, plain_entry, refused}
use Rattle.rb_model.specs.Private.{Private}
use Rattle.rb_machine.specs.Scopes.{Script, Scope, Text}
use Rattle.rb_machine.specs.Texts.{max_bytes}
use Rattle.rb_machine.specs.Control.{State, On, Cont, Then, Give, Showing, Step}
use Rattle.rb_machine.specs.Call.{show, raised}
use Rattle.rb_machine.specs.Follows.{At, prints, refuses}
use Rattle.rb_walk.specs.Outcome.{Over, Came}
use mathlib.Core.Logic.{inl}

pub not_zero : (n : ℕ) → (n == 0) ≡ false → (n ≡ 0 → ⊥)
not_zero n e = λ z. grind (arith, nat_tests)

-- bytes that are shown are printed, where there are any and not too many
pub is_shown : (S : Script) (N : ℕ) (start : State) (h : Private) (log : Log) (bytes : Text) (after : Step) (at : Span) (k : List Cont) (sc : Scope) (d n : ℕ) → nat_lt 0 (length bytes) ≡ true → nat_lt max_bytes (length bytes) ≡ false
    → At S N start log h (show S bytes after at k sc d n) → At S N start (logged log (plain_entry (N - n) (Print bytes))) h (On (Give Nil) (Then after ∷ k) sc d n)
is_shown S N start h log [] after at k sc d n p e a = absurd (cc)
is_shown S N start h log (b ∷ bs) after at k sc d n p e a = prints log h (On (Showing (b ∷ bs)) (Then after ∷ k) sc d n) (b ∷ bs) (subst (λ t. At S N start log h (cond t (raised TextTooLong at n) (On (Showing (b ∷ bs)) (Then after ∷ k) sc d n))) e a) refl

pub printed : (S : Script) (N : ℕ) (start : State) (h : Private) (log new : Log) (bytes text : Text) (after : Step) (at : Span) (k : List Cont) (sc : Scope) (d n : ℕ) → text ≡ bytes → 0 < length bytes → length bytes ≤ max_bytes → new ≡ logged log (plain_entry (N - n) (Print text))
    → At S N start log h (show S bytes after at k sc d n) → At S N start new h (On (Give Nil) (Then after ∷ k) sc d n)
printed S N start h log new bytes text after at k sc d n e p q f a =
    let long : nat_lt max_bytes (length bytes) ≡ false = grind (arith, nat_tests) in
    let some : nat_lt 0 (length bytes) ≡ true = grind (arith, nat_tests) in
    subst (λ l. At S N start l h (On (Give Nil) (Then after ∷ k) sc d n)) (ap (λ t. logged log (plain_entry (N - n) (Print t))) (sym e) ∙ sym f) (is_shown S N start h log bytes after at k sc d n some long a)

-- and where the sink refuses the print, the thread ends so, wherever it then stands
is_refused : (S : Script) (N : ℕ) (start : State) (h : Private) (log : Log) (bytes : Text) (after : Step) (at : Span) (waits k : List Cont) (sc : Scope) (d n : ℕ) → nat_lt 0 (length bytes) ≡ true → nat_lt max_bytes (length bytes) ≡ false
    → At S N start log h (show S bytes after at k sc d n) → Came S N start (refused log (Print bytes) []) h (Over Sink) waits sc d n
is_refused S N start h log [] after at waits k sc d n p e a = absurd (cc)
is_refused S N start h log (b ∷ bs) after at waits k sc d n p e a = (
  refuses log h (On (Showing (b ∷ bs)) (Then after ∷ k) sc d n) (b ∷ bs) (subst (λ t. At S N start log h (cond t (raised TextTooLong at n) (On (Showing (b ∷ bs)) (Then after ∷ k) sc d n))) e a) refl,
  inl (log.refusals, record { call = Print (b ∷ bs); moved = []; before = length log.entries; words = None }, refl, refl),
)

pub refused_print : (S : Script) (N : ℕ) (start : State) (h : Private) (log new : Log) (bytes text : Text) (after : Step) (at : Span) (waits k : List Cont) (sc : Scope) (d n : ℕ) → text ≡ bytes → 0 < length bytes → length bytes ≤ max_bytes → new ≡ refused log (Print text) []
    → At S N start log h (show S bytes after at k sc d n) → Came S N start new h (Over Sink) waits sc d n
refused_print S N start h log new bytes text after at waits k sc d n e p q f a =
    let long : nat_lt max_bytes (length bytes) ≡ false = grind (arith, nat_tests) in
    let some : nat_lt 0 (length bytes) ≡ true = grind (arith, nat_tests) in
    subst (λ l. Came S N start l h (Over Sink) waits sc d n) (ap (λ t. refused log (Print t) []) (sym e) ∙ sym f) (is_refused S N start h log bytes after at waits k sc d n some long a)
