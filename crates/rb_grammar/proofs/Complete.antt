-- What is spelled so is read so.
use Rattle.std.proofs.Common.{◌≡◌, ℕ, zero, suc, Bool, true, false, ◌&&◌, ◌||◌, not, List, [], ◌∷◌, refl, ◌∙◌, ap}
use Rattle.std.proofs.lemmas.Bool.{and_from, and_parts, or_left, or_right, le-leb}
use Rattle.rb_lexer.specs.declared.token.Token.{Token}
use Rattle.rb_grammar.specs.Look.{Class, Test, class_of, is}
use Rattle.rb_grammar.specs.Look as c
use Rattle.rb_grammar.specs.Scope.{Scope}
use Rattle.rb_grammar.specs.Phrase.{Phrase, Value}
use Rattle.rb_grammar.specs.Rule.{Rule, next_meets, next_touches, arguments_follow, begins_arguments, Spelling, Spells, stops, takes, holds, opens, builds, first, second, looks, picks, picks_not, knows, knows_not, touches, touches_not, commands, commands_not, changes}
use Rattle.rb_grammar.specs.Grammar.{rule, spelled}
use Rattle.rb_grammar.specs.Heads.{starts, may_be_empty, empty, heads, next_class, next_spaced, may_begin_arguments}
use Rattle.rb_grammar.specs.Reading.{Outcome, read, and_then, when, run, nest, reading, is_looked_behind}
use Rattle.rb_grammar.proofs.First as table
use Rattle.rb_grammar.proofs.Follow.{Apart, follows, implies}
use Rattle.rb_grammar.proofs.Apart.{apart}

-- ---- tests

implied : (a b : Bool) → implies a b ≡ true → a ≡ true → b ≡ true
implied true b e h = e
implied false b e h = absurd (cc)

not_the_first : (a b : Bool) → not (a && b) ≡ true → b ≡ true → a ≡ false
not_the_first true true e h = absurd (cc)
not_the_first true false e h = absurd (cc)
not_the_first false b e h = refl

pub when_true : {A : Type 0} (b : Bool) (f g : Unit {0} → A) → b ≡ true → when b f g ≡ f tt
when_true true f g e = refl
when_true false f g e = absurd (cc)

pub when_false : {A : Type 0} (b : Bool) (f g : Unit {0} → A) → b ≡ false → when b f g ≡ g tt
when_false true f g e = absurd (cc)
when_false false f g e = refl

-- a test at the next token
abbrev pub at_next : Test → List Token → Bool
at_next test ts = test (next_class ts) (next_spaced ts)

met_at_next : (test : Test) (ts : List Token) → next_meets test ts ≡ true → at_next test ts ≡ true
met_at_next test [] e = absurd (cc)
met_at_next test (t ∷ ts) e = e

first_or : (a b d : Bool) → a || (b && d) ≡ true → a || b ≡ true
first_or true b d e = refl
first_or false b d e = (and_parts b d e).0

arguments_begin : (ts : List Token) → arguments_follow ts ≡ true → at_next may_begin_arguments ts ≡ true
arguments_begin [] e = absurd (cc)
arguments_begin (t ∷ ts) e =
    let both = and_parts t.spaced (begins_arguments (class_of t.kind) t.spaced || (is c.minus (class_of t.kind) t.spaced && next_touches t.at ts)) e in
    and_from t.spaced (begins_arguments (class_of t.kind) t.spaced || is c.minus (class_of t.kind) t.spaced) both.0
    (first_or (begins_arguments (class_of t.kind) t.spaced) (is c.minus (class_of t.kind) t.spaced) (next_touches t.at ts) both.1)

-- ---- the first token of what is spelled

-- a phrase that is spelled begins with a token of its table, or is empty
abbrev Begun : (n : Phrase) → List Token → Value n → List Token → Type 0
Begun n ts v us = (at_end : Value n → Test) → at_next (at_end v) us ≡ true → at_next (starts n) ts || (may_be_empty n && at_next (at_end (empty n)) ts) ≡ true

module _ (limit : ℕ) (inner : ℕ → Spelling) (begun : (l : ℕ) (n : Phrase) (s : Scope) (ts : List Token) (v : Value n) (s' : Scope) (us : List Token) → inner l n s ts v s' us → Begun n ts v us) (levels : ℕ) where
  rule_begun : {A : Type 0} (r : Rule A) (s : Scope) (ts : List Token) (a : A) (s' : Scope) (us : List Token) → Spells limit inner levels r s ts a s' us
      → (at_end : A → Test) → at_next (at_end a) us ≡ true → at_next (heads r (λ b. at_next (at_end b) ts)) ts ≡ true
  rule_begun r s ts a s' us stops at_end e = e
  rule_begun r s ts a s' us (takes met d) at_end e = met
  rule_begun r s ts a s' us (holds {n = n} {k = k} {s1 = s1} {us = ms} {v = v} i d) at_end e =
      begun levels n s ts v s1 ms i (λ w class spaced. heads (k w) (λ b. at_end b class spaced) class spaced) (rule_begun (k v) s1 ms a s' us d at_end e)
  rule_begun r s ts a s' us (opens {n = n} {k = k} {s1 = s1} {us = ms} {v = v} {left = left} count i d) at_end e =
      begun left n s ts v s1 ms i (λ w class spaced. heads (k w) (λ b. at_end b class spaced) class spaced) (rule_begun (k v) s1 ms a s' us d at_end e)
  rule_begun r s ts a s' us (builds {p = p} h d) at_end e = rule_begun p s ts a s' us d at_end e
  rule_begun r s ts a s' us (first {p = p} {q = q} d) at_end e = or_left _ _ (rule_begun p s ts a s' us d at_end e)
  rule_begun r s ts a s' us (second {p = p} {q = q} d) at_end e = or_right _ _ (rule_begun q s ts a s' us d at_end e)
  rule_begun r s ts a s' us (looks {test = test} {p = p} met d) at_end e = and_from _ _ (met_at_next test ts met) (rule_begun p s ts a s' us d at_end e)
  rule_begun r s ts a s' us (picks {p = p} {q = q} d) at_end e = or_left _ _ (rule_begun p s ts a s' us d at_end e)
  rule_begun r s ts a s' us (picks_not {p = p} {q = q} d) at_end e = or_right _ _ (rule_begun q s ts a s' us d at_end e)
  rule_begun r s ts a s' us (knows {p = p} {q = q} h d) at_end e = or_left _ _ (rule_begun p s ts a s' us d at_end e)
  rule_begun r s ts a s' us (touches {p = p} {q = q} h d) at_end e = or_left _ _ (rule_begun p s ts a s' us d at_end e)
  rule_begun r s ts a s' us (knows_not {p = p} {q = q} h d) at_end e = or_right _ _ (rule_begun q s ts a s' us d at_end e)
  rule_begun r s ts a s' us (touches_not {p = p} {q = q} h d) at_end e = or_right _ _ (rule_begun q s ts a s' us d at_end e)
  rule_begun r s ts a s' us (commands {p = p} {q = q} h d) at_end e = or_left _ _ (and_from _ _ (arguments_begin ts h) (rule_begun p s ts a s' us d at_end e))
  rule_begun r s ts a s' us (commands_not {p = p} {q = q} h d) at_end e = or_right _ _ (rule_begun q s ts a s' us d at_end e)
  rule_begun r s ts a s' us (changes {f = f} {p = p} d) at_end e = rule_begun p (f s) ts a s' us d at_end e

phrase_begun : (limit depth levels : ℕ) (n : Phrase) (s : Scope) (ts : List Token) (v : Value n) (s' : Scope) (us : List Token) → spelled limit depth levels n s ts v s' us → Begun n ts v us
phrase_begun limit zero levels n s ts v s' us d at_end e = absurd d
phrase_begun limit (suc depth) levels n s ts v s' us d at_end e =
    implied _ _ (table.first n (λ w. at_next (at_end w) ts) (next_class ts) (next_spaced ts))
    (rule_begun limit (spelled limit depth) (phrase_begun limit depth) levels (rule n) s ts v s' us d at_end e)

-- ---- reading what is spelled

-- a reader that reads these tokens up to those, whether or not it has looked ahead
abbrev pub ReadsTo : {A : Type 0} → (Bool → Outcome A) → A → Scope → List Token → Type 0
ReadsTo outcome a s' us = (seen : Bool) → (seen' : Bool) × (outcome seen ≡ read a s' seen' us)

-- a phrase that is spelled before what may follow it is read
abbrev pub PhraseReads : ℕ → ℕ → ℕ → Type 0
PhraseReads limit depth levels =
    (n : Phrase) (s : Scope) (ts : List Token) (v : Value n) (s' : Scope) (us : List Token) → spelled limit depth levels n s ts v s' us
    → at_next (follows n v) us ≡ true → ReadsTo (λ seen. reading limit depth levels n s seen ts) v s' us

module _ (limit depth : ℕ) (reads : (levels : ℕ) → PhraseReads limit depth levels) (levels : ℕ) where
  chosen : {A : Type 0} (b : Bool) (f g : Unit {0} → Outcome A) (x : Outcome A) → b ≡ true → f tt ≡ x → when b f g ≡ x
  chosen b f g x e h = when_true b f g e ∙ h

  passed : {A : Type 0} (b : Bool) (f g : Unit {0} → Outcome A) (x : Outcome A) → b ≡ false → g tt ≡ x → when b f g ≡ x
  passed b f g x e h = when_false b f g e ∙ h

  pub rule_reads : {A : Type 0} (r : Rule A) (s : Scope) (ts : List Token) (a : A) (s' : Scope) (us : List Token) → Spells limit (spelled limit depth) levels r s ts a s' us
      → (behind : A → Test) → Apart r behind → at_next (behind a) us ≡ true → ReadsTo (λ seen. run limit (reading limit depth) levels r s seen ts) a s' us
  rule_reads r s ts a s' us stops behind h e seen = (seen, refl)
  rule_reads r s ts a s' us (takes {k = k} {t = t} {ts = ms} met d) behind h e seen =
      let go = rule_reads (k t) s ms a s' us d behind (h t) e false in
      (go.0, chosen _ _ _ _ met go.1)
  rule_reads r s ts a s' us (holds {n = n} {k = k} {s1 = s1} {us = ms} {v = v} i d) behind h e seen =
      let begun = rule_begun limit (spelled limit depth) (phrase_begun limit depth) levels (k v) s1 ms a s' us d behind e in
      let one = reads levels n s ts v s1 ms i (implied _ _ (h.1 v (next_class ms) (next_spaced ms)) begun) seen in
      let go = rule_reads (k v) s1 ms a s' us d behind (h.0 v) e one.0 in
      (go.0, ap (λ o. and_then o (λ w. run limit (reading limit depth) levels (k w))) one.1 ∙ go.1)
  rule_reads r s ts a s' us (opens {at = at} {n = n} {k = k} {s1 = s1} {us = ms} {v = v} {left = left} count i d) behind h e seen =
      let begun = rule_begun limit (spelled limit depth) (phrase_begun limit depth) levels (k v) s1 ms a s' us d behind e in
      let one = reads left n s ts v s1 ms i (implied _ _ (h.1 v (next_class ms) (next_spaced ms)) begun) seen in
      let go = rule_reads (k v) s1 ms a s' us d behind (h.0 v) e one.0 in (
        go.0,
        ap (λ l. nest limit (reading limit depth) levels at l (λ x. and_then (reading limit depth x n s seen ts) (λ w. run limit (reading limit depth) levels (k w)))) count
            ∙ ap (λ o. and_then o (λ w. run limit (reading limit depth) levels (k w))) one.1 ∙ go.1,
      )
  rule_reads r s ts a s' us (builds {p = p} fits d) behind h e seen =
      let go = rule_reads p s ts a s' us d behind h e seen in
      (go.0, chosen _ _ _ _ (le-leb _ _ fits) go.1)
  rule_reads r s ts a s' us (first {p = p} {q = q} d) behind h e seen =
      let begun = rule_begun limit (spelled limit depth) (phrase_begun limit depth) levels p s ts a s' us d (λ b class spaced. true) refl in
      let go = rule_reads p s ts a s' us d behind h.0 e seen in
      (go.0, chosen _ _ _ _ begun go.1)
  rule_reads r s ts a s' us (second {p = p} {q = q} d) behind h e seen =
      let begun = rule_begun limit (spelled limit depth) (phrase_begun limit depth) levels q s ts a s' us d behind e in
      let go = rule_reads q s ts a s' us d behind h.1 e seen in
      (go.0, passed _ _ _ _ (not_the_first _ _ (h.2 (next_class ts) (next_spaced ts)) begun) go.1)
  rule_reads r s ts a s' us (looks {p = p} met d) behind h e seen =
      let go = rule_reads p s ts a s' us d behind h e seen in
      (go.0, chosen _ _ _ _ met go.1)
  rule_reads r s ts a s' us (picks {p = p} d) behind h e seen = rule_reads p s ts a s' us d behind h.0 e seen
  rule_reads r s ts a s' us (picks_not {q = q} d) behind h e seen = rule_reads q s ts a s' us d behind h.1 e seen
  rule_reads r s ts a s' us (knows {p = p} local d) behind h e seen =
      let go = rule_reads p s ts a s' us d behind h.0 e seen in
      (go.0, chosen _ _ _ _ local go.1)
  rule_reads r s ts a s' us (touches {p = p} local d) behind h e seen =
      let go = rule_reads p s ts a s' us d behind h.0 e seen in
      (go.0, chosen _ _ _ _ local go.1)
  rule_reads r s ts a s' us (knows_not {q = q} local d) behind h e seen =
      let go = rule_reads q s ts a s' us d behind h.1 e seen in
      (go.0, passed _ _ _ _ local go.1)
  rule_reads r s ts a s' us (touches_not {q = q} local d) behind h e seen =
      let go = rule_reads q s ts a s' us d behind h.1 e seen in
      (go.0, passed _ _ _ _ local go.1)
  rule_reads r s ts a s' us (commands {p = p} follow d) behind h e seen =
      let go = rule_reads p s ts a s' us d behind h.0 e (is_looked_behind ts || seen) in
      (go.0, chosen _ _ _ _ follow go.1)
  rule_reads r s ts a s' us (commands_not {q = q} follow d) behind h e seen =
      let go = rule_reads q s ts a s' us d behind h.1 e (is_looked_behind ts || seen) in
      (go.0, passed _ _ _ _ follow go.1)
  rule_reads r s ts a s' us (changes {f = f} {p = p} d) behind h e seen = rule_reads p (f s) ts a s' us d behind h e seen

-- What is spelled so, before what may follow it, is read so, in as many turns as its derivation is deep.
pub phrase_reads : (limit depth levels : ℕ) → PhraseReads limit depth levels
phrase_reads limit zero levels n s ts v s' us d e seen = absurd d
phrase_reads limit (suc depth) levels n s ts v s' us d e seen =
    rule_reads limit depth (phrase_reads limit depth) levels (rule n) s ts v s' us d (follows n) (apart n) e seen
