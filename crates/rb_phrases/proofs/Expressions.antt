-- How the rules of expressions follow from their parts.
use Rattle.std.proofs.Common.{◌≡◌, ℕ, Bool, true, false, not, ◌&&◌, List, [], ◌∷◌, Option, Some, None, Result, Ok, Err, refl, sym, ap, ◌∙◌, subst, ℤ}
use Rattle.std.specs.Prelude.{neg_ℤ}
use Rattle.rb_tree.specs.declared.span.Span.{Span}
use Rattle.rb_lexer.specs.declared.token.Token.{Token}
use Rattle.rb_grammar.specs.Look.{Test, class_of, end, is, one_of, other_than}
use Rattle.rb_grammar.specs.Look as look
use Rattle.rb_grammar.specs.Tree.{Tree, TargetTree, integer}
use Rattle.rb_grammar.specs.Phrase as p
use Rattle.rb_grammar.specs.Phrase.{Phrase, Value}
use Rattle.rb_grammar.specs.Rule.{Rule, done, token, phrase, nested, built, scope, next_meets, next_touches}
use Rattle.rb_grammar.specs.Rule as look_at
use Rattle.rb_grammar.specs.Scope.{with_target}
use Rattle.rb_grammar.specs.Grammar.{rule, any, tree_of, target_of, operand, joined, finished, as_value, commanded, command_of, unless_head, assigning, assign, assignment_marks, chained, operators, tighter, negative, opposite, integer_of}
use Rattle.rb_grammar.specs.Heads.{begins}
use Rattle.rb_grammar.specs.Reading.{Outcome, and_then}
use Rattle.rb_cursor.specs.declared.fault.ParseFault.{ParseFault}
use Rattle.rb_cursor.specs.declared.fault.ParseFault.TheVariants as fault
use Rattle.rb_cursor.specs.State.{State, answer_at, Reached, Failed, memory, Came, Took, Missed, any_token}
use Rattle.rb_cursor.specs.Here.{at_rule}
use Rattle.rb_cursor.proofs.Steps.{carry, follows_from, Follows, Leads, stops, first_token, second_token, where_it_stood, at_phrase, scope_changed, phrase_last, by_rule, touching_yes, touching_no, second_begins, look_meets, look_fails, fails, leads_to, arrives, to_first_token, holds}
use Rattle.rb_builder.specs.Walk.{Walk}
use Rattle.rb_builder.specs.Grown.{IsTree, Builds}
use Rattle.rb_builder.specs.declared.grown.Grown.{Grown}
use Rattle.rb_builder.specs.Operand.{IsOperand, value, IsHead, IsPart, plain, headed, is_head}
use Rattle.rb_builder.specs.declared.operand.Operand as code
use Rattle.rb_builder.specs.declared.operand.Operand.TheVariants as code_operand
use Rattle.rb_builder.specs.declared.operand.Head as code_head
use Rattle.rb_builder.specs.declared.operand.Part as code_part
use Rattle.rb_builder.specs.declared.operand.Part.TheVariants as part
use Rattle.rb_steps.specs.Tier.{is_unary, joins_once, is_within}
use Rattle.rb_steps.proofs.Within.{none_of_tier, none_of_tighter}
use Rattle.rb_phrases.specs.Parts.{Unassigned}
use Rattle.rb_phrases.proofs.Ends.{over_phrase, finishes, reached_at}
use Rattle.rb_phrases.proofs.Forms.{rest_of, behind, breaks, operand_splits, joined_splits}

-- ---- phrases that are the last of a rule

pub ends_in : {B : Type 0} (levels : ℕ) (n : Phrase) {Is : B → Value n → Type 0} {s new : State} {result : Result B ParseFault}
    → Came Is new (answer_at levels n s) result → Follows Is levels (phrase n done) s new result
ends_in levels n {Is = Is} {s = s} {new = new} {result = result} h = record { came = carry Is new result (phrase_last levels n s) h }

module _ {B : Type 0} (levels : ℕ) (n : Phrase) {Is : B → Value n → Type 0} {s new : State} where
  -- by its own rule
  pub within_last : {result : Result B ParseFault} → Follows Is levels (rule n) s new result → Follows Is levels (phrase n done) s new result
  within_last {result = result} h = record { came = carry Is new result (phrase_last levels n s ∙ by_rule levels n s) h.came }

-- ---- commands

module _ {B : Type 0} {Is : B → Tree → Type 0} {w : Walk} {levels : ℕ} {s new : State} where
  pub commanded_head : {c : code_head.Head} {q : p.Part} {result : Result B ParseFault} → IsPart w (part.Head c) q
      → ((h : p.Head) → IsHead w c h → Follows Is levels (phrase p.command_arguments (λ args. finished (command_of h args))) s new result) → Follows Is levels (commanded q) s new result
  commanded_head (headed {d = d} r) k = k d r

pub commanded_plain : {w : Walk} {levels : ℕ} {s : State} {c : code.Operand} {q : p.Part} {result : Result Grown ParseFault} → IsPart w (part.Plain c) q
    → ((o : p.Operand) → IsOperand w c o → Builds w (tree_of o) result) → Follows (IsTree w) levels (commanded q) s s result
commanded_plain (plain {d = d} r) k = finishes (k d r)

-- ---- what may stand behind an operand, and does not behind a head

abbrev pub or_stops : Test → (Token → Rule p.Part) → p.Part → Rule p.Part
or_stops test k q = unless_head q (any (token test k ∷ done q ∷ []))

pub rest_stops : {w : Walk} {levels : ℕ} (test : Test) (k : Token → Rule p.Part) {s new : State} {c : code_part.Part} {q : p.Part} → test end true ≡ false → IsPart w c q
    → (not (is_head c) && next_meets test s.rest) ≡ false → new ≡ s → Follows (IsPart w) levels (or_stops test k q) s new (Ok c)
rest_stops test k e (plain r) h same = second_token e h (where_it_stood same (stops (plain r)))
rest_stops test k e (headed r) h same = where_it_stood same (stops (headed r))

pub rest_goes : {B : Type 0} {Is : B → p.Part → Type 0} {w : Walk} {levels : ℕ} (test : Test) (k : Token → Rule p.Part) {s s1 new : State} {t : Token} {c : code_part.Part} {q : p.Part} {result : Result B ParseFault}
    → test end true ≡ false → IsPart w c q → is_head c ≡ false → Took test s s1 t → Follows Is levels (k t) s1 new result → Follows Is levels (or_stops test k q) s new result
rest_goes test k e (plain r) h took more = first_token e took more
rest_goes test k e (headed r) h took more = let no : true ≡ false = h in absurd (cc)

-- ---- assignments

unassigned : {w : Walk} {levels : ℕ} (d : Bool) {s new : State} {c : code_part.Part} {q : p.Part} (target : Option TargetTree) → IsPart w c q → new ≡ s → Unassigned target s
    → Follows (IsPart w) levels (assigning d q target) s new (Ok c)
unassigned d None r same h = where_it_stood same (stops r)
unassigned d (Some target) r same h = second_token refl h (where_it_stood same (stops r))

pub unassigned_stops : {w : Walk} (levels : ℕ) (d : Bool) {s new : State} {c : code_part.Part} (q : p.Part) → IsPart w c q → new ≡ s → Unassigned (target_of q) s
    → Follows (IsPart w) levels (phrase (p.assignment_rest d q) done) s new (Ok c)
unfolding rule
unassigned_stops levels d q r same h = within_last levels (p.assignment_rest d q) (unassigned d (target_of q) r same h)

pub assignment_goes : {B : Type 0} {Is : B → p.Part → Type 0} (levels : ℕ) (d : Bool) (q : p.Part) (target : TargetTree) {s s1 s2 new : State} {t : Token} {result : Result B ParseFault}
    → target_of q ≡ Some target → Took (one_of assignment_marks) s s1 t → s2 ≡ record s1 { scope = with_target target s1.scope }
    → Follows Is levels (nested t.at (p.expression d) (λ a. assign target t a)) s2 new result → Follows Is levels (phrase (p.assignment_rest d q) done) s new result
unfolding rule
assignment_goes {Is = Is} levels d q target {s = s} {s1 = s1} {new = new} {t = t} {result = result} is took same h =
    within_last levels (p.assignment_rest d q)
    (subst (λ x. Follows Is levels (assigning d q x) s new result) (sym is)
    (first_token refl took (follows_from (scope_changed levels (with_target target) (nested t.at (p.expression d) (λ a. assign target t a)) s1) (where_it_stood same h))))

-- ---- chains of operators

-- the tier of operands with their marks
pub chain_unary : {B : Type 0} (Is : B → p.Part → Type 0) (levels : ℕ) (d : Bool) (tier : p.Tier) (s new : State) (result : Result B ParseFault)
    → tier ≡ p.unary_tier → Came Is new (answer_at levels (p.unary d) s) result → Came Is new (answer_at levels (p.chain d tier) s) result
unfolding rule
chain_unary Is levels d tier s new result same h =
    subst (λ x. Came Is new (answer_at levels (p.chain d x) s) result) (sym same) (at_phrase levels (p.chain d p.unary_tier) (ends_in levels (p.unary d) h))

-- any other
pub at_chain : {B : Type 0} (Is : B → p.Part → Type 0) (levels : ℕ) (d : Bool) (tier : p.Tier) (s new : State) (result : Result B ParseFault) → is_unary tier ≡ false
    → Follows Is levels (phrase (p.chain d (tighter tier)) (λ q. phrase (p.chain_rest d tier q) done)) s new result → Came Is new (answer_at levels (p.chain d tier) s) result
unfolding rule
at_chain Is levels d p.or_tier s new result e h = at_phrase levels (p.chain d p.or_tier) h
at_chain Is levels d p.and_tier s new result e h = at_phrase levels (p.chain d p.and_tier) h
at_chain Is levels d p.equal_tier s new result e h = at_phrase levels (p.chain d p.equal_tier) h
at_chain Is levels d p.less_tier s new result e h = at_phrase levels (p.chain d p.less_tier) h
at_chain Is levels d p.shift_tier s new result e h = at_phrase levels (p.chain d p.shift_tier) h
at_chain Is levels d p.sum_tier s new result e h = at_phrase levels (p.chain d p.sum_tier) h
at_chain Is levels d p.product_tier s new result e h = at_phrase levels (p.chain d p.product_tier) h
at_chain Is levels d p.unary_tier s new result e h = let no : true ≡ false = e in absurd (cc)

pub no_operator_ends : (tier : p.Tier) → one_of (operators tier) end true ≡ false
no_operator_ends p.or_tier = refl
no_operator_ends p.and_tier = refl
no_operator_ends p.equal_tier = refl
no_operator_ends p.less_tier = refl
no_operator_ends p.shift_tier = refl
no_operator_ends p.sum_tier = refl
no_operator_ends p.product_tier = refl
no_operator_ends p.unary_tier = refl

-- a tier that joins once stops behind it, any other goes on
pub chained_stops : {w : Walk} {levels : ℕ} (d : Bool) (tier : p.Tier) {s : State} {g : Grown} {a : Tree} {c : code_part.Part} → joins_once tier ≡ true → c ≡ part.Plain (code_operand.Value g) → IsTree w g a
    → Follows (IsPart w) levels (chained d tier a) s s (Ok c)
chained_stops d p.or_tier e is r = let no : false ≡ true = e in absurd (cc)
chained_stops d p.and_tier e is r = let no : false ≡ true = e in absurd (cc)
chained_stops {w = w} d p.equal_tier {a = a} e is r = stops (subst (λ x. IsPart w x (as_value a)) (sym is) (plain (value r)))
chained_stops d p.less_tier e is r = let no : false ≡ true = e in absurd (cc)
chained_stops d p.shift_tier e is r = let no : false ≡ true = e in absurd (cc)
chained_stops d p.sum_tier e is r = let no : false ≡ true = e in absurd (cc)
chained_stops d p.product_tier e is r = let no : false ≡ true = e in absurd (cc)
chained_stops d p.unary_tier e is r = let no : false ≡ true = e in absurd (cc)

pub chained_goes : (levels : ℕ) (d : Bool) (tier : p.Tier) (s : State) (a : Tree) → joins_once tier ≡ false
    → at_rule levels (chained d tier a) s ≡ answer_at levels (p.chain_rest d tier (as_value a)) s
chained_goes levels d p.or_tier s a e = phrase_last levels (p.chain_rest d p.or_tier (as_value a)) s
chained_goes levels d p.and_tier s a e = phrase_last levels (p.chain_rest d p.and_tier (as_value a)) s
chained_goes levels d p.equal_tier s a e = let no : true ≡ false = e in absurd (cc)
chained_goes levels d p.less_tier s a e = phrase_last levels (p.chain_rest d p.less_tier (as_value a)) s
chained_goes levels d p.shift_tier s a e = phrase_last levels (p.chain_rest d p.shift_tier (as_value a)) s
chained_goes levels d p.sum_tier s a e = phrase_last levels (p.chain_rest d p.sum_tier (as_value a)) s
chained_goes levels d p.product_tier s a e = phrase_last levels (p.chain_rest d p.product_tier (as_value a)) s
chained_goes levels d p.unary_tier s a e = phrase_last levels (p.chain_rest d p.unary_tier (as_value a)) s

-- ---- a minus before an operand

-- behind a minus that the next token touches
abbrev pub number_behind : Bool → Token → Rule p.Part
number_behind d t = any (
    token (is look.int) (λ i. phrase (p.postfix_rest d (as_value (integer (neg_ℤ (integer_of i.kind)) t.at))) done)
    ∷ look_at.look (other_than (is look.int)) (opposite d t)
    ∷ [])

pub glued_number : {B : Type 0} {Is : B → p.Part → Type 0} {levels : ℕ} {d : Bool} (m : Token) {s s1 new : State} {n : ℤ} {result : Result B ParseFault}
    → (next_touches m.at s.rest ≡ true) × ((t : Token) × Took (is look.int) s s1 t × (n ≡ neg_ℤ (integer_of t.kind)))
    → Follows Is levels (phrase (p.postfix_rest d (as_value (integer n m.at))) done) s1 new result → Follows Is levels (negative d m) s new result
glued_number {Is = Is} {levels = levels} {d = d} m {s = s} {s1 = s1} {new = new} {result = result} h more =
    follows_from (touching_yes levels m.at (number_behind d m) (opposite d m) s h.0)
    (first_token {k = λ i. phrase (p.postfix_rest d (as_value (integer (neg_ℤ (integer_of i.kind)) m.at))) done} {r = look_at.look (other_than (is look.int)) (opposite d m)} refl h.1.1 (subst (λ x. Follows Is levels (phrase (p.postfix_rest d (as_value (integer x m.at))) done) s1 new result) h.1.2 more))

no_number : (k : Token → Rule p.Part) (ts : List Token) → next_meets (is look.int) ts ≡ false → begins (token (is look.int) k) ts ≡ false
no_number k [] h = refl
no_number k (t ∷ ts) h = h

other_there : (at : Span) (ts : List Token) → next_touches at ts ≡ true → next_meets (is look.int) ts ≡ false → next_meets (other_than (is look.int)) ts ≡ true
other_there at [] t h = let no : false ≡ true = t in absurd (cc)
other_there at (t ∷ ts) touch h = ap not h

-- a minus that is an operator: the next token does not touch it, or is no integer
looked_at : (levels : ℕ) (d : Bool) (m : Token) (s : State) (touches number : Bool) → next_touches m.at s.rest ≡ touches → next_meets (is look.int) s.rest ≡ number → (touches && number) ≡ false
    → at_rule levels (negative d m) s ≡ at_rule levels (opposite d m) s
looked_at levels d m s false number t n h = touching_no levels m.at (number_behind d m) (opposite d m) s t
looked_at levels d m s true false t n h =
    touching_yes levels m.at (number_behind d m) (opposite d m) s t
    ∙ second_begins levels (token (is look.int) (λ i. phrase (p.postfix_rest d (as_value (integer (neg_ℤ (integer_of i.kind)) m.at))) done)) (look_at.look (other_than (is look.int)) (opposite d m)) s (no_number (λ i. phrase (p.postfix_rest d (as_value (integer (neg_ℤ (integer_of i.kind)) m.at))) done) s.rest n)
    ∙ look_meets levels (other_than (is look.int)) (opposite d m) s (other_there m.at s.rest t n)
looked_at levels d m s true true t n h = let no : true ≡ false = h in absurd (cc)

pub no_glued_number : {B : Type 0} {Is : B → p.Part → Type 0} {levels : ℕ} {d : Bool} (m : Token) {s t new : State} {result : Result B ParseFault}
    → (next_touches m.at s.rest && next_meets (is look.int) s.rest) ≡ false → t ≡ s → Follows Is levels (opposite d m) t new result → Follows Is levels (negative d m) s new result
no_glued_number {levels = levels} {d = d} m {s = s} h same more = follows_from (looked_at levels d m s (next_touches m.at s.rest) (next_meets (is look.int) s.rest) refl refl h) (where_it_stood same more)

-- the integer as an operand
pub number_part : {w : Walk} {n : ℤ} {at : Span} {g : Grown} {c : code_part.Part} → c ≡ part.Plain (code_operand.Value g) → Builds w (integer n at) (Ok g) → IsPart w c (as_value (integer n at))
number_part {w = w} {n = n} {at = at} same h = subst (λ x. IsPart w x (as_value (integer n at))) (sym same) (plain (value h.0))

-- an integer is never too high
pub glued_number_fails : {A : Type 0} (w : Walk) {o : Outcome A} (n : ℤ) (at : Span) {e : ParseFault} → Builds w (integer n at) (Err e) → Failed o e
glued_number_fails w n place {e = fault.TooNested at} h = let no : true ≡ false = h.1 in absurd (cc)
glued_number_fails w n place {e = fault.Syntax at} h = absurd h
glued_number_fails w n place {e = fault.Memory} h = memory

-- ---- where a token follows that is another

pub other_follows : (test : Test) (ts : List Token) → next_meets any_token ts ≡ true → next_meets test ts ≡ false → next_meets (other_than test) ts ≡ true
other_follows test [] some h = let no : false ≡ true = some in absurd (cc)
other_follows test (t ∷ ts) some h = ap not h

none_follows : (test : Test) (ts : List Token) → next_meets any_token ts ≡ false → next_meets test ts ≡ false
none_follows test [] none = refl
none_follows test (t ∷ ts) none = let no : true ≡ false = none in absurd (cc)

module _ {A B : Type 0} {Is : B → A → Type 0} {levels : ℕ} {s new : State} where
  pub looks : {test : Test} {r : Rule A} {result : Result B ParseFault} → next_meets test s.rest ≡ true → Follows Is levels r s new result → Follows Is levels (look_at.look test r) s new result
  looks {test = test} {r = r} h more = follows_from (look_meets levels test r s h) more

  pub looks_missed : {test : Test} {r : Rule A} {e : ParseFault} → Missed any_token s e → Follows Is levels (look_at.look test r) s new (Err e)
  looks_missed {test = test} {r = r} h =
      record { came = subst (λ f. Failed (at_rule levels (look_at.look test r) s) f) (sym h.told) (look_fails levels test r s (none_follows test s.rest h.fails)) }

-- ---- chains of one operand

-- what goes from the next tighter tier to a tier holds of each, if it holds of the tightest
by_tiers : (Q : p.Tier → Type 0) → Q p.unary_tier → ((tier : p.Tier) → is_unary tier ≡ false → Q (tighter tier) → Q tier) → (tier : p.Tier) → Q tier
by_tiers Q base step p.unary_tier = base
by_tiers Q base step p.product_tier = step p.product_tier refl base
by_tiers Q base step p.sum_tier = step p.sum_tier refl (step p.product_tier refl base)
by_tiers Q base step p.shift_tier = step p.shift_tier refl (step p.sum_tier refl (step p.product_tier refl base))
by_tiers Q base step p.less_tier = step p.less_tier refl (step p.shift_tier refl (step p.sum_tier refl (step p.product_tier refl base)))
by_tiers Q base step p.equal_tier =
    step p.equal_tier refl (step p.less_tier refl (step p.shift_tier refl (step p.sum_tier refl (step p.product_tier refl base))))
by_tiers Q base step p.and_tier =
    step p.and_tier refl (step p.equal_tier refl (step p.less_tier refl (step p.shift_tier refl (step p.sum_tier refl (step p.product_tier refl base)))))
by_tiers Q base step p.or_tier =
    step p.or_tier refl
    (step p.and_tier refl (step p.equal_tier refl (step p.less_tier refl (step p.shift_tier refl (step p.sum_tier refl (step p.product_tier refl base))))))

-- an operand that cannot be read fails the chain
pub lone_fails : (levels : ℕ) (d : Bool) (s : State) (e : ParseFault) → Failed (answer_at levels (p.unary d) s) e → (tier : p.Tier) → Failed (answer_at levels (p.chain d tier) s) e
lone_fails levels d s e failed =
    by_tiers (λ tier. Failed (answer_at levels (p.chain d tier) s) e)
    (chain_unary {B = Unit {0}} (λ b a. Unit {0}) levels d p.unary_tier s s (Err e) refl failed)
    (λ tier not_unary before. at_chain {B = Unit {0}} (λ b a. Unit {0}) levels d tier s s (Err e) not_unary (fails before))

none_then : (b x y : Bool) → (x ≡ false → y ≡ false) → (b && x) ≡ false → (b && y) ≡ false
none_then true x y h none = h none
none_then false x y h none = refl

-- the reader comes to the operand at the chain of a tier, where no operator of it or of a tighter one stands behind
abbrev Lone : Walk → ℕ → Bool → State → State → code_part.Part → p.Tier → Type 0
Lone w levels d s s1 c tier = (not (is_head c) && next_meets (is_within tier) s1.rest) ≡ false → Reached (IsPart w) s1 (answer_at levels (p.chain d tier) s) c

lone_step : (w : Walk) (levels : ℕ) (d : Bool) (s s1 : State) (c : code_part.Part) (tier : p.Tier) → is_unary tier ≡ false → Lone w levels d s s1 c (tighter tier) → Lone w levels d s s1 c tier
unfolding rule
lone_step w levels d s s1 c tier not_unary before none =
    let found = before (none_then (not (is_head c)) (next_meets (is_within tier) s1.rest) (next_meets (is_within (tighter tier)) s1.rest) (none_of_tighter tier s1.rest) none) in
    let none_here = none_then (not (is_head c)) (next_meets (is_within tier) s1.rest) (next_meets (one_of (operators tier)) s1.rest) (none_of_tier tier s1.rest) none in
    at_chain (IsPart w) levels d tier s s1 (Ok c) not_unary
    (holds found (ends_in levels (p.chain_rest d tier found.value) (reached_at levels (p.chain_rest d tier found.value) (rest_stops (one_of (operators tier)) _ (no_operator_ends tier) found.same none_here refl))))

pub lone : (w : Walk) (levels : ℕ) (d : Bool) (s s1 : State) (c : code_part.Part) → Reached (IsPart w) s1 (answer_at levels (p.unary d) s) c → (tier : p.Tier)
    → (not (is_head c) && next_meets (is_within tier) s1.rest) ≡ false → Reached (IsPart w) s1 (answer_at levels (p.chain d tier) s) c
lone w levels d s s1 c found tier =
    by_tiers (Lone w levels d s s1 c) (λ none. chain_unary (IsPart w) levels d p.unary_tier s s1 (Ok c) refl found) (lone_step w levels d s s1 c) tier

-- ---- chains, in steps

pub in_tier : {B : Type 0} (levels : ℕ) (d : Bool) (s : State) {Q : B → p.Part → Type 0} {s1 : State} {c : B} {a b : p.Tier} → a ≡ b
    → Reached Q s1 (answer_at levels (p.chain d a) s) c → Reached Q s1 (answer_at levels (p.chain d b) s) c
in_tier levels d s {Q = Q} {s1 = s1} {c = c} same h = subst (λ x. Reached Q s1 (answer_at levels (p.chain d x) s) c) same h

pub fails_in_tier : (levels : ℕ) (d : Bool) (s : State) {e : ParseFault} {a b : p.Tier} → a ≡ b → Failed (answer_at levels (p.chain d a) s) e → Failed (answer_at levels (p.chain d b) s) e
fails_in_tier levels d s {e = e} same h = subst (λ x. Failed (answer_at levels (p.chain d x) s) e) same h

pub chain_fails : (levels : ℕ) (d : Bool) (tier : p.Tier) (s : State) {e : ParseFault} → is_unary tier ≡ false → Failed (answer_at levels (p.chain d (tighter tier)) s) e → Failed (answer_at levels (p.chain d tier) s) e
chain_fails levels d tier s {e = e} e' h = at_chain {B = Unit {0}} (λ b a. Unit {0}) levels d tier s s (Err e) e' (fails h)

pub chain_leads : {B : Type 0} (levels : ℕ) (d : Bool) (tier : p.Tier) (s : State) {Q : B → p.Part → Type 0} {s1 : State} {c : B} → is_unary tier ≡ false
    → (found : Reached Q s1 (answer_at levels (p.chain d (tighter tier)) s) c) → answer_at levels (p.chain d tier) s ≡ answer_at levels (p.chain_rest d tier found.value) s1
unfolding rule
chain_leads levels d p.or_tier s {s1 = s1} e found = leads_to levels (p.chain d p.or_tier) s (answer_at levels (p.chain_rest d p.or_tier found.value) s1) (over_phrase found (arrives levels (p.chain_rest d p.or_tier found.value) s1))
chain_leads levels d p.and_tier s {s1 = s1} e found = leads_to levels (p.chain d p.and_tier) s (answer_at levels (p.chain_rest d p.and_tier found.value) s1) (over_phrase found (arrives levels (p.chain_rest d p.and_tier found.value) s1))
chain_leads levels d p.equal_tier s {s1 = s1} e found = leads_to levels (p.chain d p.equal_tier) s (answer_at levels (p.chain_rest d p.equal_tier found.value) s1) (over_phrase found (arrives levels (p.chain_rest d p.equal_tier found.value) s1))
chain_leads levels d p.less_tier s {s1 = s1} e found = leads_to levels (p.chain d p.less_tier) s (answer_at levels (p.chain_rest d p.less_tier found.value) s1) (over_phrase found (arrives levels (p.chain_rest d p.less_tier found.value) s1))
chain_leads levels d p.shift_tier s {s1 = s1} e found = leads_to levels (p.chain d p.shift_tier) s (answer_at levels (p.chain_rest d p.shift_tier found.value) s1) (over_phrase found (arrives levels (p.chain_rest d p.shift_tier found.value) s1))
chain_leads levels d p.sum_tier s {s1 = s1} e found = leads_to levels (p.chain d p.sum_tier) s (answer_at levels (p.chain_rest d p.sum_tier found.value) s1) (over_phrase found (arrives levels (p.chain_rest d p.sum_tier found.value) s1))
chain_leads levels d p.product_tier s {s1 = s1} e found = leads_to levels (p.chain d p.product_tier) s (answer_at levels (p.chain_rest d p.product_tier found.value) s1) (over_phrase found (arrives levels (p.chain_rest d p.product_tier found.value) s1))
chain_leads levels d p.unary_tier s e found = let no : true ≡ false = e in absurd (cc)

pub rest_leads : {w : Walk} {levels : ℕ} (test : Test) (k : Token → Rule p.Part) {s s1 : State} {t : Token} {c : code_part.Part} {q : p.Part} {o : Outcome p.Part}
    → test end true ≡ false → IsPart w c q → is_head c ≡ false → Took test s s1 t → Leads levels (k t) s1 o → Leads levels (or_stops test k q) s o
rest_leads test k e (plain r) h took more = to_first_token e took more
rest_leads test k e (headed r) h took more = let no : true ≡ false = h in absurd (cc)

pub operand_leads : {C : Type 0} {levels : ℕ} {Q : C → Tree → Type 0} (q : p.Part) (k : Tree → Rule p.Part) {s s1 : State} {c : C} {o : Outcome p.Part}
    → (found : Reached Q s1 (at_rule levels (operand q done) s) c) → Leads levels (k found.value) s1 o → Leads levels (operand q k) s o
operand_leads {levels = levels} q k {s = s} found more = record { comes = operand_splits levels q k s ∙ ap (λ o. and_then o (rest_of levels k)) found.reads ∙ more.comes }

pub joined_leads : {C : Type 0} {levels : ℕ} {Q : C → Tree → Type 0} (tier : p.Tier) (t : Token) (a b : Tree) (k : Tree → Rule p.Part) {s s1 : State} {c : C} {o : Outcome p.Part}
    → (found : Reached Q s1 (at_rule levels (joined tier t a b done) s) c) → Leads levels (k found.value) s1 o → Leads levels (joined tier t a b k) s o
joined_leads {levels = levels} tier t a b k {s = s} found more =
    record { comes = joined_splits levels tier t a b k s ∙ ap (λ o. and_then o (rest_of levels k)) found.reads ∙ more.comes }

module _ {B : Type 0} {Is : B → p.Part → Type 0} {levels : ℕ} {new : State} where
  pub then_joined : {C : Type 0} {Q : C → Tree → Type 0} (tier : p.Tier) (t : Token) (a b : Tree) (k : Tree → Rule p.Part) {s s1 : State} {c : C} {result : Result B ParseFault}
      → (found : Reached Q s1 (at_rule levels (joined tier t a b done) s) c) → Follows Is levels (k found.value) s1 new result → Follows Is levels (joined tier t a b k) s new result
  then_joined {Q = Q} tier t a b k {s = s} {s1 = s1} {c = c} {result = result} found more =
      behind Is levels new Q (joined tier t a b k) (joined tier t a b done) k s s1 c result (joined_splits levels tier t a b k s) found more

  pub joined_fails : (tier : p.Tier) (t : Token) (a b : Tree) (k : Tree → Rule p.Part) {s : State} {e : ParseFault} → Failed (at_rule levels (joined tier t a b done) s) e → Follows Is levels (joined tier t a b k) s new (Err e)
  joined_fails tier t a b k {s = s} {e = e} failed = record { came = breaks levels (joined tier t a b k) (joined tier t a b done) k s e (joined_splits levels tier t a b k s) failed }

pub chained_on : (levels : ℕ) (d : Bool) (tier : p.Tier) (s : State) (a : Tree) → joins_once tier ≡ false → Leads levels (chained d tier a) s (answer_at levels (p.chain_rest d tier (as_value a)) s)
chained_on levels d tier s a h = record { comes = chained_goes levels d tier s a h }
