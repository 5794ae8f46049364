-- How what the reader of the grammar comes to at a rule follows from what it comes to at a part that is a rule by itself.
use Rattle.std.proofs.Common.{◌≡◌, ℕ, suc, zero, Bool, true, false, ◌≤◌, ◌<◌, List, [], ◌∷◌, length, nat_le, Result, Err, refl, sym, ap, ◌∙◌, subst, arith}
use Rattle.rb_tree.specs.declared.span.Span.{Span}
use Rattle.rb_lexer.specs.declared.token.Token.{Token}
use Rattle.rb_grammar.specs.Look.{Test, class_of}
use Rattle.rb_grammar.specs.Look as look
use Rattle.rb_grammar.specs.Tree.{Tree, binary, negated, or_else, and_also}
use Rattle.rb_grammar.specs.Phrase as p
use Rattle.rb_grammar.specs.Phrase.{Phrase, Value}
use Rattle.rb_grammar.specs.Rule.{Rule, done, nested}
use Rattle.rb_grammar.specs.Grammar.{tree_of, operand, joined, decided, operator_name, is_one}
use Rattle.rb_grammar.specs.Reading.{Outcome, Reader, read, refused, too_nested, spent, and_then, when, answer, run}
use Rattle.rb_grammar.specs.Program.{max_height}
use Rattle.rb_grammar.specs.Heads.{may_be_empty}
use Rattle.rb_grammar.proofs.Turns.{Answers}
use Rattle.rb_grammar.proofs.Runs.{answer_shorter}
use Rattle.rb_cursor.specs.declared.fault.ParseFault.{ParseFault}
use Rattle.rb_cursor.specs.declared.fault.ParseFault.TheVariants as fault
use Rattle.rb_cursor.specs.State.{State, answer_at, Reached, Failed, Took}
use Rattle.rb_cursor.specs.Here.{at_rule}
use Rattle.rb_cursor.proofs.Steps.{Follows, follows_from, fails_with, through, nested_read, nested_fails, no_level}

-- the rest of a rule, behind a value
abbrev pub rest_of : {A V : Type 0} → ℕ → (V → Rule A) → V → Reader A
rest_of levels k v = run max_height (answer max_height) levels (k v)

-- a rule comes to a part and then to the rest
abbrev pub Splits : {A V : Type 0} → ℕ → Rule A → Rule V → (V → Rule A) → State → Type 0
Splits levels whole part k s = at_rule levels whole s ≡ and_then (at_rule levels part s) (rest_of levels k)

pub behind : {A B C V : Type 0} (Is : B → A → Type 0) (levels : ℕ) (new : State) (Q : C → V → Type 0) (whole : Rule A) (r : Rule V) (k : V → Rule A) (s s1 : State) (c : C) (result : Result B ParseFault)
    → Splits levels whole r k s → (part : Reached Q s1 (at_rule levels r s) c) → Follows Is levels (k part.value) s1 new result → Follows Is levels whole s new result
behind Is levels new Q whole r k s s1 c result splits part h = follows_from (splits ∙ ap (λ o. and_then o (rest_of levels k)) part.reads) h

pub breaks : {A V : Type 0} (levels : ℕ) (whole : Rule A) (r : Rule V) (k : V → Rule A) (s : State) (e : ParseFault)
    → Splits levels whole r k s → Failed (at_rule levels r s) e → Failed (at_rule levels whole s) e
breaks levels whole r k s e splits part = through splits (fails_with (at_rule levels r s) (rest_of levels k) part)

-- ---- what opens

pub opened : {A : Type 0} (levels left : ℕ) → levels ≡ suc left → (at : Span) (n : Phrase) (k : Value n → Rule A) (s s1 : State) (v : Value n)
    → answer_at left n s ≡ read v s1.scope s1.looked s1.rest → at_rule levels (nested at n k) s ≡ at_rule levels (k v) s1
opened levels left more at n k s s1 v h = subst (λ l. at_rule l (nested at n k) s ≡ at_rule l (k v) s1) (sym more) (nested_read left at n k s s1 v h)

opened_fails : {A : Type 0} {e : ParseFault} (levels left : ℕ) → levels ≡ suc left → (at : Span) (n : Phrase) (k : Value n → Rule A) (s : State)
    → Failed (answer_at left n s) e → Failed (at_rule levels (nested at n k) s) e
opened_fails {e = e} levels left more at n k s h = subst (λ l. Failed (at_rule l (nested at n k) s) e) (sym more) (nested_fails left at n k s h)

shut : {A : Type 0} {e : ParseFault} (levels : ℕ) (at : Span) (n : Phrase) (k : Value n → Rule A) (s : State)
    → (e ≡ fault.TooNested at.from) × (levels ≡ 0) → Failed (at_rule levels (nested at n k) s) e
shut {e = e} levels at n k s h = subst (λ l. Failed (at_rule l (nested at n k) s) e) (sym h.1) (subst (λ f. Failed (at_rule 0 (nested at n k) s) f) (sym h.0) (no_level at n k s))

split_inner : {A V : Type 0} (o : Outcome V) (f : V → Reader A) → and_then o f ≡ and_then (and_then o read) f
split_inner (read a s seen ts) f = refl
split_inner (refused ts) f = refl
split_inner (too_nested at) f = refl
split_inner spent f = refl

pub nested_splits : {A : Type 0} (levels : ℕ) (at : Span) (n : Phrase) (k : Value n → Rule A) (s : State) → Splits levels (nested at n k) (nested at n done) k s
nested_splits zero at n k s = refl
nested_splits (suc left) at n k s = split_inner (answer_at left n s) (rest_of (suc left) k)

module _ {A B : Type 0} {Is : B → A → Type 0} {levels left : ℕ} {new : State} where
  -- what is read inside what opens, where one more may be open
  pub opens : {C : Type 0} {at : Span} {n : Phrase} {Q : C → Value n → Type 0} {k : Value n → Rule A} {s s1 : State} {c : C} {result : Result B ParseFault}
      → levels ≡ suc left → (part : Reached Q s1 (answer_at left n s) c) → Follows Is levels (k part.value) s1 new result → Follows Is levels (nested at n k) s new result
  opens {at = at} {n = n} {k = k} {s = s} {s1 = s1} more part h = follows_from (opened levels left more at n k s s1 part.value part.reads) h

  pub fails_inside : {at : Span} {n : Phrase} {k : Value n → Rule A} {s : State} {e : ParseFault}
      → levels ≡ suc left → Failed (answer_at left n s) e → Follows Is levels (nested at n k) s new (Err e)
  fails_inside {at = at} {n = n} {k = k} {s = s} more part = record { came = opened_fails levels left more at n k s part }

module _ {A B : Type 0} {Is : B → A → Type 0} {levels : ℕ} {new : State} where
  pub stays_shut : {at : Span} {n : Phrase} {k : Value n → Rule A} {s : State} {e : ParseFault}
      → (e ≡ fault.TooNested at.from) × (levels ≡ 0) → Follows Is levels (nested at n k) s new (Err e)
  stays_shut {at = at} {n = n} {k = k} {s = s} h = record { came = shut levels at n k s h }

-- ---- trees that are built

split_when : {A V : Type 0} (b : Bool) (v : V) (s : State) (at : Span) (f : V → Reader A)
    → when b (λ u. f v s.scope s.looked s.rest) (λ u. too_nested at) ≡ and_then (when b (λ u. read v s.scope s.looked s.rest) (λ u. too_nested at)) f
split_when true v s at f = refl
split_when false v s at f = refl

pub operand_splits : {A : Type 0} (levels : ℕ) (q : p.Part) (k : Tree → Rule A) (s : State) → Splits levels (operand q k) (operand q done) k s
operand_splits levels (p.plain o) k s = split_when (nat_le (tree_of o).height max_height) (tree_of o) s (tree_of o).at (rest_of levels k)
operand_splits levels (p.head h) k s = refl

-- an operand as a tree, and the rest behind it
module _ {A B : Type 0} {Is : B → A → Type 0} {levels : ℕ} {new : State} where
  pub then_operand : {C : Type 0} {Q : C → Tree → Type 0} (q : p.Part) (k : Tree → Rule A) {s s1 : State} {c : C} {result : Result B ParseFault}
      → (part : Reached Q s1 (at_rule levels (operand q done) s) c) → Follows Is levels (k part.value) s1 new result → Follows Is levels (operand q k) s new result
  then_operand {Q = Q} q k {s = s} {s1 = s1} {c = c} {result = result} part h =
      behind Is levels new Q (operand q k) (operand q done) k s s1 c result (operand_splits levels q k s) part h

  pub operand_fails : (q : p.Part) (k : Tree → Rule A) {s : State} {e : ParseFault} → Failed (at_rule levels (operand q done) s) e → Follows Is levels (operand q k) s new (Err e)
  operand_fails q k {s = s} {e = e} failed = record { came = breaks levels (operand q k) (operand q done) k s e (operand_splits levels q k s) failed }

split_choice : {A V : Type 0} (low different low_opposite : Bool) (equal opposite : V) (s : State) (at at' : Span) (f : V → Reader A)
    → when low (λ u. when different (λ u. when low_opposite (λ u. f opposite s.scope s.looked s.rest) (λ u. too_nested at')) (λ u. f equal s.scope s.looked s.rest)) (λ u. too_nested at)
    ≡ and_then (when low (λ u. when different (λ u. when low_opposite (λ u. read opposite s.scope s.looked s.rest) (λ u. too_nested at')) (λ u. read equal s.scope s.looked s.rest)) (λ u. too_nested at)) f
split_choice false different low_opposite equal opposite s at at' f = refl
split_choice true false low_opposite equal opposite s at at' f = refl
split_choice true true true equal opposite s at at' f = refl
split_choice true true false equal opposite s at at' f = refl

pub joined_splits : {A : Type 0} (levels : ℕ) (tier : p.Tier) (t : Token) (a b : Tree) (k : Tree → Rule A) (s : State)
    → Splits levels (joined tier t a b k) (joined tier t a b done) k s
joined_splits levels p.or_tier t a b k s = let both : Tree = or_else t.at a b in split_when (nat_le both.height max_height) both s both.at (rest_of levels k)
joined_splits levels p.and_tier t a b k s = let both : Tree = and_also t.at a b in split_when (nat_le both.height max_height) both s both.at (rest_of levels k)
joined_splits levels p.equal_tier t a b k s =
    let equal : Tree = binary (operator_name look.equal) t.at a b in
    let opposite : Tree = negated t.at equal in
    split_choice (nat_le equal.height max_height) (is_one (look.not_equal ∷ []) t) (nat_le opposite.height max_height) equal opposite s equal.at opposite.at (rest_of levels k)
joined_splits levels p.less_tier t a b k s = let both : Tree = binary (operator_name (class_of t.kind)) t.at a b in split_when (nat_le both.height max_height) both s both.at (rest_of levels k)
joined_splits levels p.shift_tier t a b k s = let both : Tree = binary (operator_name (class_of t.kind)) t.at a b in split_when (nat_le both.height max_height) both s both.at (rest_of levels k)
joined_splits levels p.sum_tier t a b k s = let both : Tree = binary (operator_name (class_of t.kind)) t.at a b in split_when (nat_le both.height max_height) both s both.at (rest_of levels k)
joined_splits levels p.product_tier t a b k s = let both : Tree = binary (operator_name (class_of t.kind)) t.at a b in split_when (nat_le both.height max_height) both s both.at (rest_of levels k)
joined_splits levels p.unary_tier t a b k s = let both : Tree = binary (operator_name (class_of t.kind)) t.at a b in split_when (nat_le both.height max_height) both s both.at (rest_of levels k)

pub decided_splits : {A : Type 0} (levels : ℕ) (t : Token) (a : Tree) (k : Tree → Rule A) (s : State) → Splits levels (decided t a k) (decided t a done) k s
decided_splits levels t a k s =
    let opposite : Tree = negated t.at a in
    split_choice true (is_one (look.unless_word ∷ look.until_word ∷ []) t) (nat_le opposite.height max_height) a opposite s opposite.at opposite.at (rest_of levels k)

-- ---- fewer tokens

pub took_less : {test : Test} {old new : State} {t : Token} → Took test old new t → length new.rest < length old.rest
took_less {new = new} {t = t} took = rw took.split (omega arith)

fewer_left : {A : Type 0} (may : Bool) (ts : List Token) (o : Outcome A) (v : A) (s : State) → o ≡ read v s.scope s.looked s.rest → Answers may ts o → length s.rest ≤ length ts
fewer_left may ts o v s reads answers = let h : Answers may ts (read v s.scope s.looked s.rest) = subst (Answers may ts) reads answers in omega (arith, h)

pub no_longer : {B : Type 0} (levels : ℕ) (n : Phrase) {Q : B → Value n → Type 0} (s s1 : State) {b : B} → Reached Q s1 (answer_at levels n s) b → length s1.rest ≤ length s.rest
no_longer levels n s s1 part =
    fewer_left (may_be_empty n) s.rest (answer_at levels n s) part.value s1 part.reads (answer_shorter max_height levels n s.scope s.looked s.rest)
