-- How a choice with more than one condition is read arm by arm.
use Rattle.std.proofs.Common.{◌≡◌, ℕ, Bool, true, false, true≢false, ◌||◌, ◌≤◌, ◌+◌, nat_le, nat_eq, length, List, [], ◌∷◌, ◌++◌, refl, sym, ap, ◌∙◌, subst, arith}
use Rattle.std.proofs.lemmas.Bool.{eqb-true}
use Rattle.rb_tree.specs.declared.span.Span.{Span}
use Rattle.rb_lexer.specs.declared.token.Token.{Token}
use Rattle.rb_grammar.specs.Look.{Class, class_of, number, if_word, unless_word, until_word, elsif_word}
use Rattle.rb_grammar.specs.Scope.{Scope}
use Rattle.rb_grammar.specs.Tree.{Tree, negated}
use Rattle.rb_grammar.specs.Phrase as p
use Rattle.rb_grammar.specs.Phrase.{Phrase, Value}
use Rattle.rb_grammar.specs.Rule.{Rule, done, phrase, built}
use Rattle.rb_grammar.specs.Grammar.{rule, is_one, decided, chosen, allowed}
use Rattle.rb_grammar.specs.Reading.{Outcome, Reader, read, refused, too_nested, spent, and_then, when, answer, run}
use Rattle.rb_grammar.specs.Program.{max_height}
use Rattle.rb_grammar.specs.Heads.{may_be_empty}
use Rattle.rb_grammar.proofs.Turns.{Answers}
use Rattle.rb_grammar.proofs.Runs.{answer_shorter}
use Rattle.rb_cursor.specs.declared.fault.ParseFault.{ParseFault}
use Rattle.rb_cursor.specs.State.{State, answer_at, Reached, Failed, Took}
use Rattle.rb_cursor.specs.Here.{at_rule}
use Rattle.rb_cursor.proofs.Steps.{by_rule, through, fails_with, leads_to, to_first_token}
use Rattle.rb_builder.specs.Walk.{Walk}
use Rattle.rb_phrases.specs.declared.arms.Arm as code
use Rattle.rb_phrases.specs.Arms.{ArmTree, IsArm, AreArms, choice_of, closed_by, chosen_of, arm_of}
use Rattle.rb_phrases.proofs.Forms.{Splits, rest_of}
use Rattle.rb_phrases.proofs.Bodies.{arm_behind, at_place}

-- ---- two steps in one

in_two_steps : {A V W : Type 0} (o : Outcome W) (f : W → Reader A) (g : W → Reader V) (h : V → Reader A)
    → ((w : W) (sc : Scope) (seen : Bool) (ts : List Token) → f w sc seen ts ≡ and_then (g w sc seen ts) h) → and_then o f ≡ and_then (and_then o g) h
in_two_steps (read w sc seen ts) f g h same = same w sc seen ts
in_two_steps (refused ts) f g h same = refl
in_two_steps (too_nested at) f g h same = refl
in_two_steps spent f g h same = refl

alike : {A V : Type 0} (o : Outcome V) (f g : V → Reader A) → ((v : V) (sc : Scope) (seen : Bool) (ts : List Token) → f v sc seen ts ≡ g v sc seen ts) → and_then o f ≡ and_then o g
alike (read v sc seen ts) f g same = same v sc seen ts
alike (refused ts) f g same = refl
alike (too_nested at) f g same = refl
alike spent f g same = refl

-- one part goes on in two rules
phrase_within : {A V : Type 0} (levels : ℕ) (n : Phrase) (k : Value n → Rule A) (q : Value n → Rule V) (g : V → Rule A) (s : State)
    → ((v : Value n) (s1 : State) → Splits levels (k v) (q v) g s1) → Splits levels (phrase n k) (phrase n q) g s
phrase_within levels n k q g s same =
    in_two_steps (answer_at levels n s) (rest_of levels k) (rest_of levels q) (rest_of levels g) (λ v sc seen ts. same v (record { scope = sc; looked = seen; rest = ts }))

decided_either : {A V : Type 0} (opposed low : Bool) (a b : Tree) (at : Span) (levels : ℕ) (k : Tree → Rule A) (q : Tree → Rule V) (g : V → Rule A) (s : State)
    → ((c : Tree) → Splits levels (k c) (q c) g s)
    → when opposed (λ u. when low (λ u. at_rule levels (k b) s) (λ u. too_nested at)) (λ u. at_rule levels (k a) s)
    ≡ and_then (when opposed (λ u. when low (λ u. at_rule levels (q b) s) (λ u. too_nested at)) (λ u. at_rule levels (q a) s)) (rest_of levels g)
decided_either true true a b at levels k q g s same = same b
decided_either true false a b at levels k q g s same = refl
decided_either false low a b at levels k q g s same = same a

decided_within : {A V : Type 0} (levels : ℕ) (t : Token) (a : Tree) (k : Tree → Rule A) (q : Tree → Rule V) (g : V → Rule A) (s : State)
    → ((c : Tree) → Splits levels (k c) (q c) g s) → Splits levels (decided t a k) (decided t a q) g s
decided_within levels t a k q g s same =
    let opposite : Tree = negated t.at a in
    decided_either (is_one (unless_word ∷ until_word ∷ []) t) (nat_le opposite.height max_height) a opposite opposite.at levels k q g s same

-- ---- one arm

-- what stands behind an arm
abbrev pub behind_arm : {A : Type 0} → Bool → (Tree → Rule A) → ArmTree → Rule A
behind_arm may_go_on k arm = phrase (p.otherwise may_go_on) (λ second. built (choice_of arm second) (k (choice_of arm second)))

bodies_split : {A : Type 0} (levels : ℕ) (may_go_on : Bool) (t : Token) (k : Tree → Rule A) (c : Tree) (s : State)
    → Splits levels (chosen may_go_on t c k) (arm_behind t c) (behind_arm may_go_on k) s
bodies_split levels may_go_on t k c s =
    phrase_within levels p.then
    (λ o. phrase (p.body []) (λ first. phrase (p.otherwise may_go_on) (λ second. built (choice_of (record { at = t.at; condition = c; body = first }) second) (k (choice_of (record { at = t.at; condition = c; body = first }) second)))))
    (λ o. phrase (p.body []) (λ b. done (record { at = t.at; condition = c; body = b }))) (behind_arm may_go_on k) s
    (λ o s1.
    phrase_within levels (p.body [])
    (λ first. phrase (p.otherwise may_go_on) (λ second. built (choice_of (record { at = t.at; condition = c; body = first }) second) (k (choice_of (record { at = t.at; condition = c; body = first }) second))))
    (λ b. done (record { at = t.at; condition = c; body = b })) (behind_arm may_go_on k) s1 (λ b s2. refl))

-- a choice begins with an arm
choice_splits : {A : Type 0} (levels : ℕ) (may_go_on : Bool) (t : Token) (k : Tree → Rule A) (s : State)
    → Splits levels (phrase (p.expression true) (λ a. decided t a (λ c. chosen may_go_on t c k))) (arm_of t) (behind_arm may_go_on k) s
choice_splits levels may_go_on t k s =
    phrase_within levels (p.expression true) (λ a. decided t a (λ c. chosen may_go_on t c k)) (λ a. decided t a (arm_behind t)) (behind_arm may_go_on k) s
    (λ a s1. decided_within levels t a (λ c. chosen may_go_on t c k) (arm_behind t) (behind_arm may_go_on k) s1 (λ c. bodies_split levels may_go_on t k c s1))

-- behind the first arm
pub first_arm : (levels : ℕ) (may_go_on : Bool) (t : Token) (s s1 : State) (arm : ArmTree) → may_go_on ≡ is_one (if_word ∷ []) t
    → at_rule levels (arm_of t) s ≡ read arm s1.scope s1.looked s1.rest
    → answer_at levels (p.conditional t) s ≡ and_then (answer_at levels (p.otherwise may_go_on) s1) (λ last. run max_height (answer max_height) levels (chosen_of arm [] last))
unfolding rule
first_arm levels may_go_on t s s1 arm goes reads =
    subst (λ m. answer_at levels (p.conditional t) s ≡ and_then (answer_at levels (p.otherwise m) s1) (λ last. run max_height (answer max_height) levels (chosen_of arm [] last))) (sym goes)
    (by_rule levels (p.conditional t) s ∙ choice_splits levels (is_one (if_word ∷ []) t) t done s ∙ ap (λ o. and_then o (rest_of levels (behind_arm (is_one (if_word ∷ []) t) done))) reads)

pub first_arm_fails : (levels : ℕ) (t : Token) (s : State) {e : ParseFault} → Failed (at_rule levels (arm_of t) s) e → Failed (answer_at levels (p.conditional t) s) e
unfolding rule
first_arm_fails levels t s failed =
    through (by_rule levels (p.conditional t) s ∙ choice_splits levels (is_one (if_word ∷ []) t) t done s)
    (fails_with (at_rule levels (arm_of t) s) (rest_of levels (behind_arm (is_one (if_word ∷ []) t) done)) failed)

-- ---- an arm behind others

-- a condition behind `elsif` is taken as it is
no_opposite : (c : Class) → nat_eq (number elsif_word) (number c) ≡ true → (nat_eq (number unless_word) (number c) || (nat_eq (number until_word) (number c) || false)) ≡ false
no_opposite c h = subst (λ n. (nat_eq (number unless_word) n || (nat_eq (number until_word) n || false)) ≡ false) (eqb-true (number elsif_word) (number c) h) refl

as_it_is : {A : Type 0} (levels : ℕ) (t : Token) (a : Tree) (k : Tree → Rule A) (s : State) → is_one (unless_word ∷ until_word ∷ []) t ≡ false → at_rule levels (k a) s ≡ at_rule levels (decided t a k) s
as_it_is levels t a k s h = rw h refl

elsif_begins : (levels : ℕ) (t : Token) (s s1 : State) → Took (allowed true elsif_word) s s1 t
    → answer_at levels (p.otherwise true) s ≡ and_then (at_rule levels (arm_of t) s1) (rest_of levels (behind_arm true (λ a. done (a ∷ []))))
unfolding rule
elsif_begins levels t s s1 took =
    leads_to levels (p.otherwise true) s (at_rule levels (phrase (p.expression true) (λ condition. chosen true t condition (λ a. done (a ∷ [])))) s1)
    (to_first_token refl took (at_place levels (phrase (p.expression true) (λ condition. chosen true t condition (λ a. done (a ∷ [])))) s1))
    ∙ alike (answer_at levels (p.expression true) s1) (rest_of levels (λ c. chosen true t c (λ a. done (a ∷ [])))) (rest_of levels (λ a. decided t a (λ c. chosen true t c (λ a. done (a ∷ [])))))
    (λ a sc seen ts. as_it_is levels t a (λ c. chosen true t c (λ a. done (a ∷ []))) (record { scope = sc; looked = seen; rest = ts }) (no_opposite (class_of t.kind) took.meets))
    ∙ choice_splits levels true t (λ a. done (a ∷ [])) s1

-- the last arm is built first
closed_last : {A : Type 0} (arms : List ArmTree) (a : ArmTree) (last : List Tree) (k : List Tree → Rule A)
    → closed_by (arms ++ a ∷ []) last k ≡ built (choice_of a last) (closed_by arms (choice_of a last ∷ []) k)
closed_last [] a last k = refl
closed_last (b ∷ more) a last k = closed_last more a last (λ rest. built (choice_of b rest) (k (choice_of b rest ∷ [])))

built_then : {A V : Type 0} (low : Bool) (v : V) (at : Span) (s : State) (f : V → Reader A)
    → and_then (when low (λ u. read v s.scope s.looked s.rest) (λ u. too_nested at)) f ≡ when low (λ u. f v s.scope s.looked s.rest) (λ u. too_nested at)
built_then true v at s f = refl
built_then false v at s f = refl

-- the choice of an arm is built, and then those of the arms before it
one_closed : (levels : ℕ) (first : ArmTree) (arms : List ArmTree) (a : ArmTree) (last : List Tree) (s : State)
    → at_rule levels (chosen_of first (arms ++ a ∷ []) last) s ≡ and_then (at_rule levels (built (choice_of a last) (done (choice_of a last ∷ []))) s) (rest_of levels (chosen_of first arms))
one_closed levels first arms a last s =
    let tree : Tree = choice_of a last in
    ap (λ r. at_rule levels r s) (closed_last arms a last (λ rest. built (choice_of first rest) (done (choice_of first rest))))
    ∙ sym (built_then (nat_le tree.height max_height) (tree ∷ []) tree.at s (rest_of levels (chosen_of first arms)))

-- behind one more arm
pub next_arm : (levels : ℕ) (may_go_on : Bool) (t : Token) (s s1 s2 : State) (first : ArmTree) (arms : List ArmTree) (arm : ArmTree) → Took (allowed may_go_on elsif_word) s s1 t
    → at_rule levels (arm_of t) s1 ≡ read arm s2.scope s2.looked s2.rest
    → and_then (answer_at levels (p.otherwise may_go_on) s) (λ last. run max_height (answer max_height) levels (chosen_of first arms last))
    ≡ and_then (answer_at levels (p.otherwise may_go_on) s2) (λ last. run max_height (answer max_height) levels (chosen_of first (arms ++ arm ∷ []) last))
next_arm levels false t s s1 s2 first arms arm took reads = absurd (true≢false (sym took.meets))
next_arm levels true t s s1 s2 first arms arm took reads =
    ap (λ o. and_then o (rest_of levels (chosen_of first arms))) (elsif_begins levels t s s1 took ∙ ap (λ o. and_then o (rest_of levels (behind_arm true (λ a. done (a ∷ []))))) reads)
    ∙ sym (in_two_steps (answer_at levels (p.otherwise true) s2) (rest_of levels (chosen_of first (arms ++ arm ∷ []))) (rest_of levels (λ last. built (choice_of arm last) (done (choice_of arm last ∷ []))))
    (rest_of levels (chosen_of first arms)) (λ last sc seen ts. one_closed levels first arms arm last (record { scope = sc; looked = seen; rest = ts })))

pub next_arm_fails : (levels : ℕ) (may_go_on : Bool) (t : Token) (s s1 : State) (first : ArmTree) (arms : List ArmTree) {e : ParseFault} → Took (allowed may_go_on elsif_word) s s1 t
    → Failed (at_rule levels (arm_of t) s1) e
    → Failed (and_then (answer_at levels (p.otherwise may_go_on) s) (λ last. run max_height (answer max_height) levels (chosen_of first arms last))) e
next_arm_fails levels false t s s1 first arms took failed = absurd (true≢false (sym took.meets))
next_arm_fails levels true t s s1 first arms took failed =
    fails_with (answer_at levels (p.otherwise true) s) (rest_of levels (chosen_of first arms))
    (through (elsif_begins levels t s s1 took) (fails_with (at_rule levels (arm_of t) s1) (rest_of levels (behind_arm true (λ a. done (a ∷ [])))) failed))

-- one more arm behind others
pub arms_and : (w : Walk) (cs : List code.Arm) (arms : List ArmTree) (c : code.Arm) (arm : ArmTree) → AreArms w cs arms → IsArm w c arm → AreArms w (cs ++ c ∷ []) (arms ++ arm ∷ [])
arms_and w [] [] c arm same new = (new, tt)
arms_and w [] (a ∷ arms) c arm same new = absurd same
arms_and w (d ∷ cs) [] c arm same new = absurd same
arms_and w (d ∷ cs) (a ∷ arms) c arm same new = (same.0, arms_and w cs arms c arm same.1 new)

-- ---- fewer tokens

-- where something was read, no more tokens are left than there were
abbrev Short : {A : Type 0} → List Token → Outcome A → Type 0
Short ts (read a s seen us) = length us ≤ length ts
Short ts other = Unit {0}

short_so : {A : Type 0} (may : Bool) (ts : List Token) (o : Outcome A) → Answers may ts o → Short ts o
short_so may ts (read a s seen us) h = omega (arith, h)
short_so may ts (refused us) h = tt
short_so may ts (too_nested at) h = tt
short_so may ts spent h = tt

short_wider : {A : Type 0} (us ts : List Token) (o : Outcome A) → length us ≤ length ts → Short us o → Short ts o
short_wider us ts (read a s seen vs) few h = omega (arith, few, h)
short_wider us ts (refused vs) few h = tt
short_wider us ts (too_nested at) few h = tt
short_wider us ts spent few h = tt

short_then : {A V : Type 0} (ts : List Token) (o : Outcome V) (f : V → Reader A) → Short ts o
    → ((v : V) (sc : Scope) (seen : Bool) (us : List Token) → Short us (f v sc seen us)) → Short ts (and_then o f)
short_then ts (read v sc seen us) f h go = short_wider us ts (f v sc seen us) h (go v sc seen us)
short_then ts (refused us) f h go = tt
short_then ts (too_nested at) f h go = tt
short_then ts spent f h go = tt

short_phrase : {A : Type 0} (levels : ℕ) (n : Phrase) (k : Value n → Rule A) (s : State) → ((v : Value n) (s1 : State) → Short s1.rest (at_rule levels (k v) s1)) → Short s.rest (at_rule levels (phrase n k) s)
short_phrase levels n k s go =
    short_then s.rest (answer_at levels n s) (rest_of levels k) (short_so (may_be_empty n) s.rest (answer_at levels n s) (answer_shorter max_height levels n s.scope s.looked s.rest))
    (λ v sc seen us. go v (record { scope = sc; looked = seen; rest = us }))

short_either : {A : Type 0} (opposed low : Bool) (levels : ℕ) (q r : Rule A) (at : Span) (s : State) → Short s.rest (at_rule levels q s) → Short s.rest (at_rule levels r s)
    → Short s.rest (when opposed (λ u. when low (λ u. at_rule levels q s) (λ u. too_nested at)) (λ u. at_rule levels r s))
short_either true true levels q r at s h k = h
short_either true false levels q r at s h k = tt
short_either false low levels q r at s h k = k

short_decided : {A : Type 0} (levels : ℕ) (t : Token) (a : Tree) (k : Tree → Rule A) (s : State) → ((c : Tree) → Short s.rest (at_rule levels (k c) s)) → Short s.rest (at_rule levels (decided t a k) s)
short_decided levels t a k s go =
    let opposite : Tree = negated t.at a in
    short_either (is_one (unless_word ∷ until_word ∷ []) t) (nat_le opposite.height max_height) levels (k opposite) (k a) opposite.at s (go opposite) (go a)

short_arm : (levels : ℕ) (t : Token) (s : State) → Short s.rest (at_rule levels (arm_of t) s)
short_arm levels t s =
    short_phrase levels (p.expression true) (λ a. decided t a (arm_behind t)) s
    (λ a s1. short_decided levels t a (arm_behind t) s1
    (λ c. short_phrase levels p.then (λ o. phrase (p.body []) (λ b. done (record { at = t.at; condition = c; body = b }))) s1
    (λ o s2. short_phrase levels (p.body []) (λ b. done (record { at = t.at; condition = c; body = b })) s2 (λ b s3. omega (arith)))))

pub arm_no_longer : {B : Type 0} {Q : B → ArmTree → Type 0} (levels : ℕ) (t : Token) (s s1 : State) {b : B} → Reached Q s1 (at_rule levels (arm_of t) s) b → length s1.rest ≤ length s.rest
arm_no_longer levels t s s1 part =
    let h : Short s.rest (read part.value s1.scope s1.looked s1.rest) = subst (Short s.rest) part.reads (short_arm levels t s) in omega (arith, h)

-- a phrase that may not be empty
pub fewer : {B : Type 0} (levels : ℕ) (n : Phrase) {Q : B → Value n → Type 0} (s s1 : State) {b : B} → may_be_empty n ≡ false → Reached Q s1 (answer_at levels n s) b → length s1.rest + 1 ≤ length s.rest
fewer levels n s s1 e part =
    let h : Answers false s.rest (read part.value s1.scope s1.looked s1.rest) =
    subst (λ m. Answers m s.rest (read part.value s1.scope s1.looked s1.rest)) e (subst (Answers (may_be_empty n) s.rest) part.reads (answer_shorter max_height levels n s.scope s.looked s.rest)) in
    omega (arith, h)
