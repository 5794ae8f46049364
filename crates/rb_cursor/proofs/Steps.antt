-- How what the reader of the grammar comes to at a phrase follows from what it comes to at the parts of its rule. A parser's
-- function for a phrase is proved by one of these for each part.
use Rattle.std.proofs.Common.{◌≡◌, ℕ, suc, zero, Bool, true, false, List, [], ◌∷◌, ◌||◌, nat_le, Result, Ok, Err, subst, refl, ap, ◌∙◌}
use Rattle.rb_tree.specs.declared.span.Span.{Span}
use Rattle.rb_lexer.specs.declared.token.Token.{Token}
use Rattle.rb_grammar.specs.Look.{Test, class_of, end}
use Rattle.rb_grammar.specs.Scope.{Scope, is_local}
use Rattle.rb_grammar.specs.Tree.{Tree, Text}
use Rattle.rb_grammar.specs.Phrase.{Phrase, Value}
use Rattle.rb_grammar.specs.Rule.{Rule, done, token, phrase, nested, built, either, look, known, touching, ahead, scope, next_meets, next_touches, arguments_follow}
use Rattle.rb_grammar.specs.Grammar.{rule}
use Rattle.rb_grammar.specs.Heads.{begins}
use Rattle.rb_grammar.specs.Reading.{Outcome, Reader, read, refused, too_nested, spent, and_then, from_refused, is_looked_behind, answer, run}
use Rattle.rb_grammar.specs.Program.{max_height}
use Rattle.rb_grammar.proofs.Runs.{answer_runs}
use Rattle.rb_cursor.specs.declared.fault.ParseFault.{ParseFault}
use Rattle.rb_cursor.specs.declared.fault.ParseFault.TheVariants as fault
use Rattle.rb_cursor.specs.State.{State, next_place, answer_at, Reached, Failed, syntax, nested_too_deep, memory, Came, Took, Missed}
use Rattle.rb_cursor.specs.Here.{at_rule}
use Rattle.rb_cursor.specs.declared.word.Word.{Word}
use Rattle.rb_cursor.specs.Word.{TookWord}
use Rattle.std.specs.Result.{IsErrAnd}

-- a phrase is read by its rule
pub by_rule : (levels : ℕ) (n : Phrase) (s : State) → answer_at levels n s ≡ at_rule levels (rule n) s
by_rule levels n s = answer_runs max_height levels n s.scope s.looked s.rest

-- ---- faults

-- a fault of a part is that of the whole
pub fails_with : {A B : Type 0} {e : ParseFault} (o : Outcome A) (f : A → Reader B) → Failed o e → Failed (and_then o f) e
fails_with o f (syntax ts h) = syntax ts (ap (λ x. and_then x f) h)
fails_with o f (nested_too_deep at h) = nested_too_deep at (ap (λ x. and_then x f) h)
fails_with o f memory = memory

pub through : {A : Type 0} {o p : Outcome A} {e : ParseFault} → o ≡ p → Failed p e → Failed o e
through same (syntax ts h) = syntax ts (same ∙ h)
through same (nested_too_deep at h) = nested_too_deep at (same ∙ h)
through same memory = memory

-- ---- phrases

pub phrase_read : {A : Type 0} (levels : ℕ) (n : Phrase) (k : Value n → Rule A) (s s1 : State) (v : Value n)
    → answer_at levels n s ≡ read v s1.scope s1.looked s1.rest → at_rule levels (phrase n k) s ≡ at_rule levels (k v) s1
phrase_read levels n k s s1 v h = ap (λ o. and_then o (λ v. run max_height (answer max_height) levels (k v))) h

pub phrase_fails : {A : Type 0} {e : ParseFault} (levels : ℕ) (n : Phrase) (k : Value n → Rule A) (s : State)
    → Failed (answer_at levels n s) e → Failed (at_rule levels (phrase n k) s) e
phrase_fails levels n k s h = fails_with (answer_at levels n s) (λ v. run max_height (answer max_height) levels (k v)) h

-- ---- what opens

pub nested_read : {A : Type 0} (left : ℕ) (at : Span) (n : Phrase) (k : Value n → Rule A) (s s1 : State) (v : Value n)
    → answer_at left n s ≡ read v s1.scope s1.looked s1.rest → at_rule (suc left) (nested at n k) s ≡ at_rule (suc left) (k v) s1
nested_read left at n k s s1 v h = ap (λ o. and_then o (λ v. run max_height (answer max_height) (suc left) (k v))) h

pub nested_fails : {A : Type 0} {e : ParseFault} (left : ℕ) (at : Span) (n : Phrase) (k : Value n → Rule A) (s : State)
    → Failed (answer_at left n s) e → Failed (at_rule (suc left) (nested at n k) s) e
nested_fails left at n k s h = fails_with (answer_at left n s) (λ v. run max_height (answer max_height) (suc left) (k v)) h

pub no_level : {A : Type 0} (at : Span) (n : Phrase) (k : Value n → Rule A) (s : State) → Failed (at_rule zero (nested at n k) s) (fault.TooNested at.from)
no_level at n k s = nested_too_deep at refl

-- ---- tokens

taken_from : {A : Type 0} (levels : ℕ) (test : Test) (k : Token → Rule A) (sc : Scope) (seen : Bool) (t : Token) (rest ts : List Token)
    → rest ≡ t ∷ ts → test (class_of t.kind) t.spaced ≡ true
    → run max_height (answer max_height) levels (token test k) sc seen rest ≡ run max_height (answer max_height) levels (k t) sc false ts
taken_from levels test k sc seen t rest ts split meets = rw (split, meets) refl

pub token_taken : {A : Type 0} (levels : ℕ) (test : Test) (k : Token → Rule A) (s s1 : State) (t : Token)
    → Took test s s1 t → at_rule levels (token test k) s ≡ at_rule levels (k t) s1
token_taken levels test k s s1 t took =
    rw (took.scope, took.looked) (taken_from levels test k s.scope s.looked t s.rest s1.rest took.split took.meets)

refused_at : {A : Type 0} (levels : ℕ) (test : Test) (k : Token → Rule A) (sc : Scope) (seen : Bool) (rest : List Token) → next_meets test rest ≡ false
    → run max_height (answer max_height) levels (token test k) sc seen rest ≡ refused (from_refused seen rest)
refused_at levels test k sc true [] h = refl
refused_at levels test k sc false [] h = refl
refused_at levels test k sc seen (t ∷ ts) h = rw h refl

pub token_missed : {A : Type 0} {e : ParseFault} (levels : ℕ) (test : Test) (k : Token → Rule A) (s : State)
    → Missed test s e → Failed (at_rule levels (token test k) s) e
token_missed levels test k s missed = rw missed.told (syntax (from_refused s.looked s.rest) (refused_at levels test k s.scope s.looked s.rest missed.fails))

-- ---- choices

pub first_begins : {A : Type 0} (levels : ℕ) (q r : Rule A) (s : State) → begins q s.rest ≡ true → at_rule levels (either q r) s ≡ at_rule levels q s
first_begins levels q r s h = rw h refl

pub second_begins : {A : Type 0} (levels : ℕ) (q r : Rule A) (s : State) → begins q s.rest ≡ false → at_rule levels (either q r) s ≡ at_rule levels r s
second_begins levels q r s h = rw h refl

pub look_meets : {A : Type 0} (levels : ℕ) (test : Test) (r : Rule A) (s : State) → next_meets test s.rest ≡ true → at_rule levels (look test r) s ≡ at_rule levels r s
look_meets levels test r s h = rw h refl

pub look_fails : {A : Type 0} (levels : ℕ) (test : Test) (r : Rule A) (s : State) → next_meets test s.rest ≡ false
    → Failed (at_rule levels (look test r) s) (fault.Syntax (next_place (from_refused s.looked s.rest)))
look_fails levels test r s h = syntax (from_refused s.looked s.rest) (rw h refl)

pub touching_yes : {A : Type 0} (levels : ℕ) (at : Span) (q r : Rule A) (s : State) → next_touches at s.rest ≡ true → at_rule levels (touching at q r) s ≡ at_rule levels q s
touching_yes levels at q r s h = rw h refl

pub touching_no : {A : Type 0} (levels : ℕ) (at : Span) (q r : Rule A) (s : State) → next_touches at s.rest ≡ false → at_rule levels (touching at q r) s ≡ at_rule levels r s
touching_no levels at q r s h = rw h refl

pub known_yes : {A : Type 0} (levels : ℕ) (text : Text) (q r : Rule A) (s : State) → is_local text s.scope ≡ true → at_rule levels (known text q r) s ≡ at_rule levels q s
known_yes levels text q r s h = rw h refl

pub known_no : {A : Type 0} (levels : ℕ) (text : Text) (q r : Rule A) (s : State) → is_local text s.scope ≡ false → at_rule levels (known text q r) s ≡ at_rule levels r s
known_no levels text q r s h = rw h refl

-- once it has looked for the arguments of a command
abbrev pub once_looked : State → State
once_looked s = record s { looked = is_looked_behind s.rest || s.looked }

pub ahead_yes : {A : Type 0} (levels : ℕ) (q r : Rule A) (s : State) → arguments_follow s.rest ≡ true → at_rule levels (ahead q r) s ≡ at_rule levels q (once_looked s)
ahead_yes levels q r s h = rw h refl

pub ahead_no : {A : Type 0} (levels : ℕ) (q r : Rule A) (s : State) → arguments_follow s.rest ≡ false → at_rule levels (ahead q r) s ≡ at_rule levels r (once_looked s)
ahead_no levels q r s h = rw h refl

-- ---- nodes and scopes

pub built_low : {A : Type 0} (levels : ℕ) (a : Tree) (r : Rule A) (s : State) → nat_le a.height max_height ≡ true → at_rule levels (built a r) s ≡ at_rule levels r s
built_low levels a r s h = rw h refl

pub built_high : {A : Type 0} (levels : ℕ) (a : Tree) (r : Rule A) (s : State) → nat_le a.height max_height ≡ false
    → Failed (at_rule levels (built a r) s) (fault.TooNested a.at.from)
built_high levels a r s h = nested_too_deep a.at (rw h refl)

pub scope_changed : {A : Type 0} (levels : ℕ) (f : Scope → Scope) (r : Rule A) (s : State)
    → at_rule levels (scope f r) s ≡ at_rule levels r (record s { scope = f s.scope })
scope_changed levels f r s = refl

-- ---- whether a token begins a rule

begins_token : {A : Type 0} (test : Test) (k : Token → Rule A) (ts : List Token) (b : Bool) → test end true ≡ false → next_meets test ts ≡ b → begins (token test k) ts ≡ b
begins_token test k [] b e h = e ∙ h
begins_token test k (t ∷ ts) b e h = h

-- a token that was taken meets its test
took_meets : (test : Test) (old new : State) (t : Token) → Took test old new t → next_meets test old.rest ≡ true
took_meets test old new t took = rw took.split took.meets

-- a phrase that is the last of its rule
ends_so : {A : Type 0} (o : Outcome A) → and_then o read ≡ o
ends_so (read a s seen ts) = refl
ends_so (refused ts) = refl
ends_so (too_nested at) = refl
ends_so spent = refl

pub phrase_last : (levels : ℕ) (n : Phrase) (s : State) → at_rule levels (phrase n done) s ≡ answer_at levels n s
phrase_last levels n s = ends_so (answer_at levels n s)

-- ---- how an answer follows from what the parts of a rule come to

-- what a parser answers at a rule is what the reader comes to there
pub record Follows {A B : Type 0} (Is : B → A → Type 0) (levels : ℕ) (r : Rule A) (s new : State) (result : Result B ParseFault) : Type 0 where
  pub came : Came Is new (at_rule levels r s) result

pub carry : {A B : Type 0} (Is : B → A → Type 0) (new : State) {o p : Outcome A} (result : Result B ParseFault) → o ≡ p → Came Is new p result → Came Is new o result
carry Is new (Ok b) same h = record { value = h.value; reads = same ∙ h.reads; same = h.same }
carry Is new (Err e) same h = through same h

module _ {A B : Type 0} {Is : B → A → Type 0} {levels : ℕ} {new : State} where
  pub follows_from : {r q : Rule A} {s t : State} {result : Result B ParseFault}
      → at_rule levels r s ≡ at_rule levels q t → Follows Is levels q t new result → Follows Is levels r s new result
  follows_from {result = result} same h = record { came = carry Is new result same h.came }

  pub stops : {a : A} {b : B} → Is b a → Follows Is levels (done a) new new (Ok b)
  stops {a = a} h = record { came = record { value = a; reads = refl; same = h } }

  pub takes : {test : Test} {k : Token → Rule A} {s s1 : State} {t : Token} {result : Result B ParseFault}
      → Took test s s1 t → Follows Is levels (k t) s1 new result → Follows Is levels (token test k) s new result
  takes {test = test} {k = k} {s = s} {s1 = s1} {t = t} took h = follows_from (token_taken levels test k s s1 t took) h

  pub takes_word : {test : Test} {k : Token → Rule A} {s s1 : State} {w : Word} {result : Result B ParseFault}
      → (took : TookWord test s s1 w) → Follows Is levels (k took.token) s1 new result → Follows Is levels (token test k) s new result
  takes_word took h = takes took.took h

  pub misses : {test : Test} {k : Token → Rule A} {s : State} {e : ParseFault} → Missed test s e → Follows Is levels (token test k) s new (Err e)
  misses {test = test} {k = k} {s = s} missed = record { came = token_missed levels test k s missed }

  pub holds : {C : Type 0} {n : Phrase} {Q : C → Value n → Type 0} {k : Value n → Rule A} {s s1 : State} {c : C} {result : Result B ParseFault}
      → (part : Reached Q s1 (answer_at levels n s) c) → Follows Is levels (k part.value) s1 new result → Follows Is levels (phrase n k) s new result
  holds {n = n} {k = k} {s = s} {s1 = s1} part h = follows_from (phrase_read levels n k s s1 part.value part.reads) h

  pub fails : {n : Phrase} {k : Value n → Rule A} {s : State} {e : ParseFault} → Failed (answer_at levels n s) e → Follows Is levels (phrase n k) s new (Err e)
  fails {n = n} {k = k} {s = s} part = record { came = phrase_fails levels n k s part }

  pub first : {q r : Rule A} {s : State} {result : Result B ParseFault} → begins q s.rest ≡ true → Follows Is levels q s new result → Follows Is levels (either q r) s new result
  first {q = q} {r = r} {s = s} b h = follows_from (first_begins levels q r s b) h

  pub second : {q r : Rule A} {s : State} {result : Result B ParseFault} → begins q s.rest ≡ false → Follows Is levels r s new result → Follows Is levels (either q r) s new result
  second {q = q} {r = r} {s = s} b h = follows_from (second_begins levels q r s b) h

  -- a choice that begins with a token, by whether it was taken
  pub first_token : {test : Test} {k : Token → Rule A} {r : Rule A} {s s1 : State} {t : Token} {result : Result B ParseFault} → test end true ≡ false
      → Took test s s1 t → Follows Is levels (k t) s1 new result → Follows Is levels (either (token test k) r) s new result
  first_token {test = test} {k = k} {s = s} {s1 = s1} {t = t} e took h = first (begins_token test k s.rest true e (took_meets test s s1 t took)) (takes took h)

  pub second_token : {test : Test} {k : Token → Rule A} {r : Rule A} {s : State} {result : Result B ParseFault} → test end true ≡ false
      → next_meets test s.rest ≡ false → Follows Is levels r s new result → Follows Is levels (either (token test k) r) s new result
  second_token {test = test} {k = k} {s = s} e not_there h = second (begins_token test k s.rest false e not_there) h

  -- at the same state
  pub where_it_stood : {r : Rule A} {s t : State} {result : Result B ParseFault} → t ≡ s → Follows Is levels r t new result → Follows Is levels r s new result
  where_it_stood {r = r} {result = result} same h = subst (λ x. Follows Is levels r x new result) same h

  pub wants_memory : {r : Rule A} {s : State} → Follows Is levels r s new (Err fault.Memory)
  wants_memory = record { came = memory }

-- at a phrase, by its rule
pub at_phrase : {B : Type 0} (levels : ℕ) (n : Phrase) {Is : B → Value n → Type 0} {s new : State} {result : Result B ParseFault}
    → Follows Is levels (rule n) s new result → Came Is new (answer_at levels n s) result
at_phrase levels n {Is = Is} {s = s} {new = new} {result = result} h = carry Is new result (by_rule levels n s) h.came

-- the same for a fault, with which nothing is answered
pub fails_at : (levels : ℕ) (n : Phrase) {s : State} {e : ParseFault}
    → Follows {B = Unit {0}} (λ b a. Unit {0}) levels (rule n) s s (Err e) → Failed (answer_at levels n s) e
fails_at levels n {s = s} h = through (by_rule levels n s) h.came

-- ---- how one place in a rule leads to another, for loops

-- what the reader comes to at a rule is what it comes to at a phrase further on
pub record Leads {A : Type 0} (levels : ℕ) (r : Rule A) (s : State) (o : Outcome A) : Type 0 where
  pub comes : at_rule levels r s ≡ o

module _ {A : Type 0} {levels : ℕ} {o : Outcome A} where
  pub over : {test : Test} {k : Token → Rule A} {s s1 : State} {t : Token} → Took test s s1 t → Leads levels (k t) s1 o → Leads levels (token test k) s o
  over {test = test} {k = k} {s = s} {s1 = s1} {t = t} took h = record { comes = token_taken levels test k s s1 t took ∙ h.comes }

  pub over_word : {test : Test} {k : Token → Rule A} {s s1 : State} {w : Word} → (took : TookWord test s s1 w) → Leads levels (k took.token) s1 o → Leads levels (token test k) s o
  over_word took h = over took.took h

  pub to_first : {q r : Rule A} {s : State} → begins q s.rest ≡ true → Leads levels q s o → Leads levels (either q r) s o
  to_first {q = q} {r = r} {s = s} b h = record { comes = first_begins levels q r s b ∙ h.comes }

  pub to_second : {q r : Rule A} {s : State} → begins q s.rest ≡ false → Leads levels r s o → Leads levels (either q r) s o
  to_second {q = q} {r = r} {s = s} b h = record { comes = second_begins levels q r s b ∙ h.comes }

  pub to_first_token : {test : Test} {k : Token → Rule A} {r : Rule A} {s s1 : State} {t : Token} → test end true ≡ false
      → Took test s s1 t → Leads levels (k t) s1 o → Leads levels (either (token test k) r) s o
  to_first_token {test = test} {k = k} {s = s} {s1 = s1} {t = t} e took h = to_first (begins_token test k s.rest true e (took_meets test s s1 t took)) (over took h)

  pub to_second_token : {test : Test} {k : Token → Rule A} {r : Rule A} {s : State} → test end true ≡ false
      → next_meets test s.rest ≡ false → Leads levels r s o → Leads levels (either (token test k) r) s o
  to_second_token {test = test} {k = k} {s = s} e not_there h = to_second (begins_token test k s.rest false e not_there) h

  pub from_where_it_stood : {r : Rule A} {s t : State} → t ≡ s → Leads levels r t o → Leads levels r s o
  from_where_it_stood {r = r} same h = subst (λ x. Leads levels r x o) same h

-- to a phrase that is the last of the rule
pub arrives : (levels : ℕ) (n : Phrase) (s : State) → Leads levels (phrase n done) s (answer_at levels n s)
arrives levels n s = record { comes = phrase_last levels n s }

-- from a phrase to one further on
pub leads_to : (levels : ℕ) (n : Phrase) (s : State) (o : Outcome (Value n)) → Leads levels (rule n) s o → answer_at levels n s ≡ o
leads_to levels n s o h = by_rule levels n s ∙ h.comes

-- what is reached further on is reached from the whole
pub reached_further : {A B : Type 0} {Is : B → A → Type 0} {s : State} {o p : Outcome A} {b : B} → o ≡ p → Reached Is s p b → Reached Is s o b
reached_further same h = record { value = h.value; reads = same ∙ h.reads; same = h.same }

-- a fault that is handed on
pub handed_on : {A B : Type 0} (Is : B → A → Type 0) (new : State) {o : Outcome A} (result : Result B ParseFault) {e : ParseFault}
    → IsErrAnd result (λ f. f ≡ e) → Failed o e → Came Is new o result
handed_on Is new (Ok b) h failed = absurd h
handed_on Is new {o = o} (Err f) h failed = rw h failed
