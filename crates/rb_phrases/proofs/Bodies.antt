-- What the functions of literals, choices, loops and statements share in their proofs.
use Rattle.std.proofs.Common.{◌≡◌, ℕ, Bool, true, false, true≢false, not, ◌&&◌, ◌||◌, nat_le, List, [], ◌∷◌, Result, Ok, Err, refl, sym, ap, ◌∙◌, subst}
use Rattle.rb_tree.specs.declared.span.Span.{Span}
use Rattle.rb_lexer.specs.declared.token.Token.{Token}
use Rattle.rb_grammar.specs.Look.{Test, one_of, other_than, while_word, until_word, elsif_word, end}
use Rattle.rb_grammar.specs.Tree.{Tree, loop_behind, choice_behind}
use Rattle.rb_grammar.specs.Phrase.{Phrase, Value}
use Rattle.rb_grammar.specs.Rule.{Rule, done, phrase, look, next_meets}
use Rattle.rb_grammar.specs.Grammar.{rule, as_value, decided, modify, modifiers, is_one, allowed}
use Rattle.rb_grammar.specs.Phrase as p
use Rattle.rb_grammar.specs.Heads.{begins, begins_statement, begins_expression, next_class}
use Rattle.rb_grammar.specs.Reading.{Outcome, Reader, read, too_nested, and_then, when}
use Rattle.rb_grammar.specs.Program.{max_height}
use Rattle.rb_cursor.specs.declared.fault.ParseFault.{ParseFault}
use Rattle.rb_cursor.specs.declared.fault.ParseFault.TheVariants as fault
use Rattle.rb_cursor.specs.State.{State, answer_at, Reached, Failed, Came, memory}
use Rattle.rb_cursor.specs.Here.{at_rule}
use Rattle.rb_cursor.proofs.Steps.{Follows, Leads, follows_from, stops, fails_with, through, by_rule, arrives, carry, look_meets}
use Rattle.rb_builder.specs.Walk.{Walk}
use Rattle.rb_builder.specs.Grown.{IsTree, Builds}
use Rattle.rb_builder.specs.Operand.{IsPart, plain, value}
use Rattle.rb_builder.specs.declared.operand.Operand.TheVariants as operand
use Rattle.rb_builder.specs.declared.operand.Part.{Part}
use Rattle.rb_builder.specs.declared.operand.Part.TheVariants as variant
use Rattle.rb_builder.specs.declared.grown.Grown.{Grown}
use Rattle.rb_phrases.specs.Modified.{modified_once}
use Rattle.rb_phrases.specs.Arms.{ArmTree}
use Rattle.rb_phrases.proofs.Forms.{Splits, rest_of, decided_splits}

-- ---- rules that end in a phrase

module _ {B : Type 0} {levels : ℕ} {new : State} where
  pub ends_by : (n : Phrase) {Is : B → Value n → Type 0} {s : State} {result : Result B ParseFault} → Follows Is levels (rule n) s new result → Follows Is levels (phrase n done) s new result
  ends_by n {s = s} h = follows_from ((arrives levels n s).comes ∙ by_rule levels n s) h

  pub ends_with : (n : Phrase) {Is : B → Value n → Type 0} {s : State} {result : Result B ParseFault} → Came Is new (answer_at levels n s) result → Follows Is levels (phrase n done) s new result
  ends_with n {Is = Is} {s = s} {result = result} h = record { came = carry Is new result (arrives levels n s).comes h }

-- ---- how one place in a rule leads to another

pub leads : {A : Type 0} (levels : ℕ) (r : Rule A) (s : State) (o : Outcome A) → Leads levels r s o → at_rule levels r s ≡ o
leads levels r s o h = h.comes

pub at_place : {A : Type 0} (levels : ℕ) (r : Rule A) (s : State) → Leads levels r s (at_rule levels r s)
at_place levels r s = record { comes = refl }

pub into_phrase : (levels : ℕ) (n : Phrase) {s : State} {o : Outcome (Value n)} → Leads levels (rule n) s o → Leads levels (phrase n done) s o
into_phrase levels n {s = s} h = record { comes = (arrives levels n s).comes ∙ by_rule levels n s ∙ h.comes }

module _ {A : Type 0} {levels : ℕ} {o : Outcome A} where
  pub over_decided : {B : Type 0} {Q : B → Tree → Type 0} (t : Token) (a : Tree) (k : Tree → Rule A) {s s1 : State} {b : B}
      → (part : Reached Q s1 (at_rule levels (decided t a done) s) b) → Leads levels (k part.value) s1 o → Leads levels (decided t a k) s o
  over_decided t a k {s = s} part h = record { comes = decided_splits levels t a k s ∙ ap (λ x. and_then x (rest_of levels k)) part.reads ∙ h.comes }

-- ---- nodes

-- a node that is not too high fails by memory alone
pub low_fails : {A : Type 0} {o : Outcome A} (w : Walk) (a : Tree) (e : ParseFault) → nat_le a.height max_height ≡ true → Builds w a (Err e) → Failed o e
low_fails w a (fault.Syntax at) low h = absurd h
low_fails w a (fault.TooNested at) low h = absurd (true≢false (sym low ∙ h.1))
low_fails w a fault.Memory low h = memory

-- a tree as an operand that is no target
pub is_value : {w : Walk} {part : Part} {g : Grown} {a : Tree} → part ≡ variant.Plain (operand.Value g) → IsTree w g a → IsPart w part (as_value a)
is_value {w = w} {a = a} same tree = subst (λ x. IsPart w x (as_value a)) (sym same) (plain (value tree))

low_so : (levels : ℕ) (w : Walk) (a : Tree) (s : State) (result : Result Grown ParseFault) → nat_le a.height max_height ≡ true → Builds w a result → Follows (IsTree w) levels (done a) s s result
low_so levels w a s (Ok g) low h = stops h.0
low_so levels w a s (Err e) low h = record { came = low_fails w a e low h }

-- a node that is not too high ends a rule
pub low_ends : {levels : ℕ} (w : Walk) (a : Tree) {s : State} {result : Result Grown ParseFault} → nat_le a.height max_height ≡ true → Builds w a result → Follows (IsTree w) levels (done a) s s result
low_ends {levels = levels} w a {s = s} {result = result} low h = low_so levels w a s result low h

-- ---- conditions

module _ {A B : Type 0} {Is : B → A → Type 0} {levels : ℕ} {new : State} where
  pub then_decided : {C : Type 0} {Q : C → Tree → Type 0} (t : Token) (a : Tree) (k : Tree → Rule A) {s s1 : State} {c : C} {result : Result B ParseFault}
      → (part : Reached Q s1 (at_rule levels (decided t a done) s) c) → Follows Is levels (k part.value) s1 new result → Follows Is levels (decided t a k) s new result
  then_decided t a k {s = s} part h = follows_from (decided_splits levels t a k s ∙ ap (λ o. and_then o (rest_of levels k)) part.reads) h

  pub decided_fails : (t : Token) (a : Tree) (k : Tree → Rule A) {s : State} {e : ParseFault} → Failed (at_rule levels (decided t a done) s) e → Follows Is levels (decided t a k) s new (Err e)
  decided_fails t a k {s = s} failed =
      record { came = through (decided_splits levels t a k s) (fails_with (at_rule levels (decided t a done) s) (rest_of levels k) failed) }

-- ---- modifiers

split_two : {A V : Type 0} (b low other_low : Bool) (x y : V) (s : State) (at at' : Span) (f : V → Reader A)
    → when b (λ u. when low (λ u. f x s.scope s.looked s.rest) (λ u. too_nested at)) (λ u. when other_low (λ u. f y s.scope s.looked s.rest) (λ u. too_nested at'))
    ≡ and_then (when b (λ u. when low (λ u. read x s.scope s.looked s.rest) (λ u. too_nested at)) (λ u. when other_low (λ u. read y s.scope s.looked s.rest) (λ u. too_nested at'))) f
split_two true true other_low x y s at at' f = refl
split_two true false other_low x y s at at' f = refl
split_two false low true x y s at at' f = refl
split_two false low false x y s at at' f = refl

-- a statement goes on behind a modifier
abbrev goes_on : Tree → Rule Tree
goes_on a = phrase (p.modified a) done

modify_splits : (levels : ℕ) (t : Token) (a c : Tree) (s : State) → Splits levels (modify t a c) (modified_once t a c) goes_on s
modify_splits levels t a c s =
    let loop : Tree = loop_behind t.at a c in
    let choice : Tree = choice_behind t.at a c in
    split_two (is_one (while_word ∷ until_word ∷ []) t) (nat_le loop.height max_height) (nat_le choice.height max_height) loop choice s loop.at choice.at (rest_of levels goes_on)

-- a modifier of a statement leads to the statement with it
pub over_modified : {B : Type 0} (levels : ℕ) {Q : B → Tree → Type 0} (t : Token) (a c : Tree) (s s1 : State) {b : B}
    → (part : Reached Q s1 (at_rule levels (modified_once t a c) s) b) → Leads levels (modify t a c) s (answer_at levels (p.modified part.value) s1)
over_modified levels t a c s s1 part =
    record { comes = modify_splits levels t a c s ∙ ap (λ x. and_then x (rest_of levels goes_on)) part.reads ∙ (arrives levels (p.modified part.value) s1).comes }

pub modify_fails : {B : Type 0} {Is : B → Tree → Type 0} {levels : ℕ} {new : State} (t : Token) (a c : Tree) {s : State} {e : ParseFault}
    → Failed (at_rule levels (modified_once t a c) s) e → Follows Is levels (modify t a c) s new (Err e)
modify_fails {levels = levels} t a c {s = s} failed =
    record { came = through (modify_splits levels t a c s) (fails_with (at_rule levels (modified_once t a c) s) (rest_of levels goes_on) failed) }

-- ---- what the next token begins

or_false : (a b : Bool) → a ≡ b → (a || false) ≡ b
or_false true b h = h
or_false false b h = h

and_first : (a b : Bool) → (a && b) ≡ true → a ≡ true
and_first true b h = refl
and_first false b h = h

pub statement_begins : {A : Type 0} (k : Tree → Rule A) (ts : List Token) (b : Bool)
    → one_of begins_statement (next_class ts) true ≡ b → begins (phrase p.statement k) ts ≡ b
statement_begins k ts b h = or_false (one_of begins_statement (next_class ts) true) b h

-- the next token may begin the value behind a `return`
abbrev pub begins_value : List Token → Bool
begins_value ts = not (one_of modifiers (next_class ts) true) && one_of begins_expression (next_class ts) true

value_or_none : (m e b : Bool) → (m && e) ≡ b → (m && (e || false)) ≡ b
value_or_none m true b h = h
value_or_none m false b h = h

pub value_begins : {A : Type 0} (k : Tree → Rule A) (ts : List Token) (b : Bool)
    → begins_value ts ≡ b → begins (look (other_than (one_of modifiers)) (phrase (p.expression true) k)) ts ≡ b
value_begins k ts b h = value_or_none (not (one_of modifiers (next_class ts) true)) (one_of begins_expression (next_class ts) true) b h

pub value_seen : (ts : List Token) → begins_value ts ≡ true → next_meets (other_than (one_of modifiers)) ts ≡ true
value_seen [] h = absurd (true≢false (sym h))
value_seen (t ∷ ts) h = and_first (not (one_of modifiers (next_class (t ∷ ts)) true)) (one_of begins_expression (next_class (t ∷ ts)) true) h

pub sees : {A B : Type 0} {Is : B → A → Type 0} {levels : ℕ} {new : State} {test : Test} {r : Rule A} {s : State} {result : Result B ParseFault}
    → next_meets test s.rest ≡ true → Follows Is levels r s new result → Follows Is levels (look test r) s new result
sees {levels = levels} {test = test} {r = r} {s = s} meets h = follows_from (look_meets levels test r s meets) h

-- `elsif` does not stand at the end
pub no_elsif_at_end : (may_go_on : Bool) → allowed may_go_on elsif_word end true ≡ false
no_elsif_at_end true = refl
no_elsif_at_end false = refl

-- an arm behind its condition
abbrev pub arm_behind : Token → Tree → Rule ArmTree
arm_behind t condition = phrase p.then (λ o. phrase (p.body []) (λ b. done (record { at = t.at; condition = condition; body = b })))
