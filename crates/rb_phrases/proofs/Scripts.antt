-- How the rules of scripts, classes and methods follow from their parts.
use Rattle.std.proofs.Common.{◌≡◌, ℕ, Bool, true, false, not, ◌||◌, List, Result, Ok, Err, refl, sym, ◌∙◌, subst}
use Rattle.std.specs.Prelude.{IfOk, OnErr}
use Rattle.std.specs.Result.{IsErrAnd}
use Rattle.rb_lexer.specs.declared.token.Token.{Token}
use Rattle.rb_grammar.specs.Look.{Test, one_of}
use Rattle.rb_grammar.specs.Tree.{Word, Tree}
use Rattle.rb_grammar.specs.Phrase as p
use Rattle.rb_grammar.specs.Phrase.{Phrase, Value}
use Rattle.rb_grammar.specs.Rule.{Rule, done, token, phrase, scope}
use Rattle.rb_grammar.specs.Scope.{Scope}
use Rattle.rb_grammar.specs.Heads.{begins, begins_statement, next_class}
use Rattle.rb_grammar.specs.Reading.{Outcome}
use Rattle.rb_cursor.specs.declared.fault.ParseFault.{ParseFault}
use Rattle.rb_cursor.specs.declared.fault.ParseFault.TheVariants as fault
use Rattle.rb_cursor.specs.State.{State, answer_at, Failed, Took}
use Rattle.rb_cursor.specs.Here.{at_rule}
use Rattle.rb_cursor.proofs.Steps.{Follows, follows_from, stops, scope_changed, where_it_stood, token_taken, phrase_last}
use Rattle.rb_steps.specs.Within.{named}
use Rattle.rb_phrases.specs.Goes.{GoesOn, Adds, AddsNone}
use Rattle.rb_steps.proofs.Parameters.{wanted_memory}

-- what is answered last, or memory is wanted
pub stops_or_wants : {A B : Type 0} {Is : B → A → Type 0} {levels : ℕ} {s : State} {a : A} (Q : B → Type 0) (result : Result B ParseFault)
    → IfOk result Q → OnErr result (result ≡ Err fault.Memory) → ((b : B) → Q b → Is b a) → Follows Is levels (done a) s s result
stops_or_wants Q (Ok b) ok wants more = stops (more b ok)
stops_or_wants Q (Err e) ok wants more = record { came = wanted_memory wants }

-- a scope that ends
pub leaves : {A B : Type 0} {Is : B → A → Type 0} {levels : ℕ} (f : Scope → Scope) {r : Rule A} {s t new : State} {result : Result B ParseFault}
    → t ≡ record s { scope = f s.scope } → Follows Is levels r t new result → Follows Is levels (scope f r) s new result
leaves {levels = levels} f {r = r} {s = s} same h = follows_from (scope_changed levels f r s) (where_it_stood same h)

-- a fault that is handed on
pub handed_adds : {A B V : Type 0} (Is : B → V → Type 0) (old new : State) {o : Outcome A} (next : V → Outcome A) (rest : Outcome A) (before after : B) (result : Result Bool ParseFault) {e : ParseFault}
    → IsErrAnd result (λ f. f ≡ e) → Failed o e → Adds Is old new o next rest before after result
handed_adds Is old new next rest before after (Ok true) h failed = absurd h
handed_adds Is old new next rest before after (Ok false) h failed = absurd h
handed_adds Is old new {o = o} next rest before after (Err f) h failed = subst (λ x. Failed o x) (sym h) failed

or_false : (b : Bool) → (b || false) ≡ b
or_false true = refl
or_false false = refl

-- a statement begins where its first token may begin one
pub statement_begins : {A : Type 0} (k : Tree → Rule A) (ts : List Token) → begins (phrase p.statement k) ts ≡ one_of begins_statement (next_class ts) true
statement_begins k ts = or_false (one_of begins_statement (next_class ts) true)

pub not_true : (b : Bool) → not b ≡ true → b ≡ false
not_true true h = let no : false ≡ true = h in absurd (cc)
not_true false h = refl

-- a name stands at its place, with its `=` and without
pub named_at : (is_setter : Bool) (w : Word) → (named is_setter w).at ≡ w.at
named_at true w = refl
named_at false w = refl

-- ---- whether something was added

pub read_added : {A B V : Type 0} {Is : B → V → Type 0} {old new : State} {o : Outcome A} {next : V → Outcome A} (rest : Outcome A) (before : B) {after : B} (some : Bool) → some ≡ true
    → Adds Is old new o next rest before after (Ok some) → GoesOn Is old new o next after
read_added rest before true h added = added
read_added rest before false h added = let no : false ≡ true = h in absurd (cc)

pub none_added : {A B V : Type 0} (Is : B → V → Type 0) {old new : State} {o : Outcome A} (next : V → Outcome A) {rest : Outcome A} {before after : B} (some : Bool) → some ≡ false
    → Adds Is old new o next rest before after (Ok some) → AddsNone old new o rest before after
none_added Is next true h added = let no : true ≡ false = h in absurd (cc)
none_added Is next false h added = added

pub not_false : (b : Bool) → not b ≡ false → b ≡ true
not_false true h = refl
not_false false h = let no : true ≡ false = h in absurd (cc)

pub over_line : (levels : ℕ) (test : Test) (n : Phrase) {s s1 : State} {t : Token} → Took test s s1 t → at_rule levels (token test (λ l. phrase n done)) s ≡ answer_at levels n s1
over_line levels test n {s = s} {s1 = s1} {t = t} took = token_taken levels test (λ l. phrase n done) s s1 t took ∙ phrase_last levels n s1
