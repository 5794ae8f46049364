-- How rules end, and how one goes on behind a phrase: what the functions share in their proofs.
use Rattle.std.proofs.Common.{◌≡◌, ℕ, suc, Result, Ok, Err, ◌∙◌, subst}
use Rattle.rb_tree.specs.declared.span.Span.{Span}
use Rattle.rb_grammar.specs.Tree.{Tree}
use Rattle.rb_grammar.specs.Phrase.{Phrase, Value}
use Rattle.rb_grammar.specs.Rule.{Rule, done, phrase, nested, built}
use Rattle.rb_grammar.specs.Grammar.{rule, made, finished, as_value}
use Rattle.rb_grammar.specs.Reading.{Outcome}
use Rattle.rb_cursor.specs.declared.fault.ParseFault.{ParseFault}
use Rattle.rb_cursor.specs.declared.fault.ParseFault.TheVariants as fault
use Rattle.rb_cursor.specs.State.{State, answer_at, Reached, Failed, Came, memory}
use Rattle.rb_cursor.specs.Here.{at_rule}
use Rattle.rb_cursor.proofs.Steps.{Follows, Leads, at_phrase, built_low, built_high, phrase_read}
use Rattle.rb_builder.specs.Walk.{Walk}
use Rattle.rb_builder.specs.Builder.{walk_of}
use Rattle.rb_builder.specs.Grown.{IsTree, Builds}
use Rattle.rb_builder.specs.Operand.{IsPart, plain, value}
use Rattle.rb_builder.specs.declared.builder.Builder.{Builder}
use Rattle.rb_builder.specs.declared.grown.Grown.{Grown}
use Rattle.rb_builder.specs.declared.operand.Part.{Part}
use Rattle.rb_phrases.specs.Parts.{Makes}
use Rattle.rb_phrases.proofs.Forms.{opened}

-- ---- at a rule, and at a phrase

pub at_the_rule : {A B : Type 0} (levels : ℕ) (r : Rule A) {Is : B → A → Type 0} {s new : State} {result : Result B ParseFault}
    → Follows Is levels r s new result → Came Is new (at_rule levels r s) result
at_the_rule levels r h = h.came

-- the same for a fault, with which nothing is answered
pub fails_at_the_rule : {A : Type 0} (levels : ℕ) (r : Rule A) {s : State} {e : ParseFault}
    → Follows {B = Unit {0}} (λ b a. Unit {0}) levels r s s (Err e) → Failed (at_rule levels r s) e
fails_at_the_rule levels r h = h.came

-- and for what is read
pub reached_rule : {A B : Type 0} (levels : ℕ) (r : Rule A) {Is : B → A → Type 0} {s new : State} {b : B} → Follows Is levels r s new (Ok b) → Reached Is new (at_rule levels r s) b
reached_rule levels r h = h.came

pub reached_at : {B : Type 0} (levels : ℕ) (n : Phrase) {Is : B → Value n → Type 0} {s new : State} {b : B}
    → Follows Is levels (rule n) s new (Ok b) → Reached Is new (answer_at levels n s) b
reached_at levels n {b = b} h = at_phrase levels n {result = Ok b} h

-- what the parser inside has read, which has the same maker of trees
pub made_by : {A B : Type 0} (Is : Walk → B → A → Type 0) {make other : Builder} {s : State} {o : Outcome A} {b : B}
    → other ≡ make → Reached (Is (walk_of other)) s o b → Reached (Is (walk_of make)) s o b
made_by Is {b = b} same part = record { value = part.value; reads = part.reads; same = subst (λ m. Is (walk_of m) b part.value) same part.same }

-- ---- how a rule goes on behind a phrase that was read

module _ {A : Type 0} {levels : ℕ} {o : Outcome A} where
  pub over_phrase : {B : Type 0} {n : Phrase} {Q : B → Value n → Type 0} {k : Value n → Rule A} {s s1 : State} {b : B}
      → (part : Reached Q s1 (answer_at levels n s) b) → Leads levels (k part.value) s1 o → Leads levels (phrase n k) s o
  over_phrase {n = n} {k = k} {s = s} {s1 = s1} part h = record { comes = phrase_read levels n k s s1 part.value part.reads ∙ h.comes }

  -- inside what opens
  pub over_opened : {B : Type 0} {left : ℕ} {at : Span} {n : Phrase} {Q : B → Value n → Type 0} {k : Value n → Rule A} {s s1 : State} {b : B}
      → levels ≡ suc left → (part : Reached Q s1 (answer_at left n s) b) → Leads levels (k part.value) s1 o → Leads levels (nested at n k) s o
  over_opened {left = left} {at = at} {n = n} {k = k} {s = s} {s1 = s1} more part h = record { comes = opened levels left more at n k s s1 part.value part.reads ∙ h.comes }

-- ---- trees that end a rule

-- a tree that cannot be built fails its rule
pub unbuilt : {A : Type 0} (w : Walk) (a : Tree) (levels : ℕ) (r : Rule A) (s : State) (e : ParseFault) → Builds w a (Err e) → Failed (at_rule levels (built a r) s) e
unbuilt w a levels r s (fault.TooNested at) h = rw h.0 (built_high levels a r s h.1)
unbuilt w a levels r s (fault.Syntax at) h = absurd h
unbuilt w a levels r s fault.Memory h = memory

-- a tree that is the whole of its rule
pub finishes_so : (w : Walk) (a : Tree) (levels : ℕ) (s : State) (result : Result Grown ParseFault) → Builds w a result → Came (IsTree w) s (at_rule levels (finished a) s) result
finishes_so w a levels s (Ok g) h = record { value = a; reads = built_low levels a (done a) s h.1; same = h.0 }
finishes_so w a levels s (Err e) h = unbuilt w a levels (done a) s e h

-- an operand that is the whole of its rule
pub makes_so : (w : Walk) (a : Tree) (levels : ℕ) (s : State) (result : Result Part ParseFault) → Makes w a result → Came (IsPart w) s (at_rule levels (made a) s) result
makes_so w a levels s (Ok found) h =
    record { value = as_value a; reads = built_low levels a (done (as_value a)) s h.2.1; same = rw h.1 (plain (value h.2.0)) }
makes_so w a levels s (Err e) h = unbuilt w a levels (done (as_value a)) s e h

module _ {w : Walk} {a : Tree} {levels : ℕ} {s : State} where
  pub finishes : {result : Result Grown ParseFault} → Builds w a result → Follows (IsTree w) levels (finished a) s s result
  finishes {result = result} h = record { came = finishes_so w a levels s result h }

  pub makes : {result : Result Part ParseFault} → Makes w a result → Follows (IsPart w) levels (made a) s s result
  makes {result = result} h = record { came = makes_so w a levels s result h }
