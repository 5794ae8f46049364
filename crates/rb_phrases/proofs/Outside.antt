-- What the functions come to that read no phrase.
use Rattle.std.specs.Prelude.{IfOk, OnErr, if◌then◌else◌}
use Rattle.std.proofs.Common.{◌≡◌, ℕ, Bool, true, false, ◌≤◌, length, List, [], ◌∷◌, ◌++◌, nat_le, Option, Some, None, Result, Ok, Err, refl, sym, ap, ◌∙◌, subst, arith}
use Rattle.rb_tree.specs.declared.span.Span.{Span}
use Rattle.rb_lexer.specs.declared.token.Token.{Token}
use Rattle.rb_grammar.specs.Tree.{Text, Word, Tree, TargetTree, binary, negated, call}
use Rattle.rb_grammar.specs.Phrase as p
use Rattle.rb_grammar.specs.Rule.{Rule, done, phrase, built, pick, ahead, arguments_follow, next_meets}
use Rattle.rb_grammar.specs.Scope.{Scope, is_local, with_local, with_target}
use Rattle.rb_grammar.specs.Grammar.{rule, finished, made, as_value, is_one, tree_of, operator_name, joined, plain_name, plain_member, going_on, assignment_marks}
use Rattle.rb_grammar.specs.Grammar as grammar
use Rattle.rb_grammar.specs.Program.{max_height}
use Rattle.rb_cursor.specs.declared.fault.ParseFault.{ParseFault}
use Rattle.rb_cursor.specs.declared.fault.ParseFault.TheVariants as fault
use Rattle.rb_cursor.specs.State.{State, answer_at, Took, Missed, any_token, next_place, Reached, Failed, syntax, memory, Came}
use Rattle.rb_cursor.specs.Here.{at_rule}
use Rattle.rb_cursor.proofs.Steps.{built_low, through, carry, ahead_yes, ahead_no, once_looked, known_yes, known_no, by_rule, arrives, Follows}
use Rattle.std.specs.Result.{IsErrAnd}
use Rattle.rb_lexer.specs.declared.token.TokenKind.{TokenKind}
use Rattle.rb_grammar.specs.Look as look
use Rattle.rb_grammar.specs.Look.{class_of, one_of}
use Rattle.rb_grammar.specs.Reading.{Outcome, from_refused, read}
use Rattle.rb_cursor.specs.declared.class.Class.{Class}
use Rattle.rb_cursor.specs.declared.class.Class.TheVariants as class
use Rattle.rb_cursor.specs.Class.{class_by}
use Rattle.rb_phrases.proofs.Others.{is_other}
use Rattle.rb_builder.specs.declared.operand.Operand as code_operand
use Rattle.rb_builder.specs.declared.operand.Head as code_head
use Rattle.rb_builder.specs.Walk.{Walk}
use Rattle.rb_builder.specs.Grown.{IsTree, IsRow, Builds}
use Rattle.rb_builder.specs.Operand.{IsTarget, to_local, to_field, to_global, to_index, to_attribute, IsOperand, IsPart, plain, value, headed, variable, member, of_call_to}
use Rattle.rb_builder.specs.declared.grown.Grown.{Grown}
use Rattle.rb_builder.specs.declared.grown.Row as row
use Rattle.rb_builder.specs.declared.operand.Part.{Part}
use Rattle.rb_builder.specs.declared.operand.Part.TheVariants as part
use Rattle.rb_builder.specs.declared.operand.Operand.TheVariants as operand
use Rattle.rb_phrases.specs.Parts.{Makes, Unassigned}
use Rattle.rb_phrases.proofs.Ends.{unbuilt, finishes_so, makes_so}
use Rattle.rb_phrases.specs.Goes.{Goes, GoesOn}
use Rattle.rb_builder.specs.declared.operand.Head.TheVariants as head
use Rattle.rb_builder.specs.declared.operand.Target as code_target
use Rattle.rb_builder.specs.declared.operand.Target.TheVariants as target
use Rattle.rb_cursor.specs.declared.word.Word as code_word
use Rattle.rb_cursor.specs.Word.{word_by}
use Rattle.rb_steps.specs.declared.operator.Tier as code_tier
use Rattle.rb_steps.specs.declared.operator.Tier.TheVariants as a_tier
use Rattle.rb_steps.specs.Tier.{tier_by}
use Rattle.rb_phrases.specs.Arms.{ArmTree, AreArms, IsArm, choice_of, closed_by}
use Rattle.rb_phrases.specs.declared.arms.Arm as code

pub still_unbuilt : (w : Walk) (a : Tree) (result : Result Part ParseFault) (e : ParseFault) → IsErrAnd result (λ f. f ≡ e) → Builds w a (Err e) → Makes w a result
still_unbuilt w a (Ok found) e h b = absurd h
still_unbuilt w a (Err f) e h b = rw h b

fault_of : {B : Type 0} → Result B ParseFault → ParseFault
fault_of (Ok b) = fault.Memory
fault_of (Err e) = e

pub is_memory : {B : Type 0} {e : ParseFault} → ◌≡◌ {A = Result B ParseFault} (Err e) (Err fault.Memory) → e ≡ fault.Memory
unfolding fault_of
is_memory h = ap fault_of h

pub wants_memory_for : {B : Type 0} (w : Walk) (a : Tree) (result : Result Part ParseFault) (e : ParseFault) → IsErrAnd result (λ f. f ≡ e) → ◌≡◌ {A = Result B ParseFault} (Err e) (Err fault.Memory) → Makes w a result
wants_memory_for w a (Ok found) e h m = absurd h
wants_memory_for w a (Err f) e h m = rw (h, is_memory m) tt

pub memory_fails : {A B : Type 0} {o : Outcome A} {e : ParseFault} → ◌≡◌ {A = Result B ParseFault} (Err e) (Err fault.Memory) → Failed o e
memory_fails {o = o} h = subst (λ x. Failed o x) (sym (is_memory h)) memory

-- ---- choices by a test

pub picks_first : {A : Type 0} (b : Bool) (q r : Rule A) (levels : ℕ) (s : State) → b ≡ true → at_rule levels (pick b q r) s ≡ at_rule levels q s
picks_first b q r levels s h = rw h refl

pub picks_second : {A : Type 0} (b : Bool) (q r : Rule A) (levels : ℕ) (s : State) → b ≡ false → at_rule levels (pick b q r) s ≡ at_rule levels r s
picks_second b q r levels s h = rw h refl

-- the class of a token is one that was found
pub is_of : (k : TokenKind) (found wanted : Class) → class_by found ≡ class_of k → found ≡ wanted → class_of k ≡ class_by wanted
is_of k found wanted h e = sym h ∙ ap class_by e

pub is_unless : (t : Token) (found : Class) → class_by found ≡ class_of t.kind → found ≡ class.UnlessWord → is_one (look.unless_word ∷ look.until_word ∷ []) t ≡ true
is_unless t found h e = rw (is_of t.kind found class.UnlessWord h e) refl

pub is_until : (t : Token) (found : Class) → class_by found ≡ class_of t.kind → found ≡ class.UntilWord → is_one (look.unless_word ∷ look.until_word ∷ []) t ≡ true
is_until t found h e = rw (is_of t.kind found class.UntilWord h e) refl

pub is_neither : (t : Token) (found : Class) → class_by found ≡ class_of t.kind → (found ≡ class.UnlessWord → ⊥) → (found ≡ class.UntilWord → ⊥) → is_one (look.unless_word ∷ look.until_word ∷ []) t ≡ false
is_neither t found h e f = rw (sym h, is_other class.UnlessWord found t.spaced e, is_other class.UntilWord found t.spaced f) refl

pub is_while : (t : Token) (found : Class) → class_by found ≡ class_of t.kind → found ≡ class.WhileWord → is_one (look.while_word ∷ look.until_word ∷ []) t ≡ true
is_while t found h e = rw (is_of t.kind found class.WhileWord h e) refl

pub is_until_behind : (t : Token) (found : Class) → class_by found ≡ class_of t.kind → found ≡ class.UntilWord → is_one (look.while_word ∷ look.until_word ∷ []) t ≡ true
is_until_behind t found h e = rw (is_of t.kind found class.UntilWord h e) refl

pub is_no_loop : (t : Token) (found : Class) → class_by found ≡ class_of t.kind → (found ≡ class.WhileWord → ⊥) → (found ≡ class.UntilWord → ⊥) → is_one (look.while_word ∷ look.until_word ∷ []) t ≡ false
is_no_loop t found h e f = rw (sym h, is_other class.WhileWord found t.spaced e, is_other class.UntilWord found t.spaced f) refl

pub is_the : (wanted : Class) (t : Token) (found : Class) → class_by found ≡ class_of t.kind → found ≡ wanted → look.is (class_by wanted) (class_by wanted) t.spaced ≡ true → is_one (class_by wanted ∷ []) t ≡ true
is_the wanted t found h e same = rw (is_of t.kind found wanted h e, same) refl

pub is_not : (wanted : Class) (t : Token) (found : Class) → class_by found ≡ class_of t.kind → look.is (class_by wanted) (class_by found) t.spaced ≡ false → is_one (class_by wanted ∷ []) t ≡ false
is_not wanted t found h e = rw (sym h, e) refl

-- ---- operands as trees

pub operand_comes : (w : Walk) (o : code_operand.Operand) (q : p.Part) (levels : ℕ) (s : State) (result : Result Grown ParseFault)
    → IsPart w (part.Plain o) q → ((d : p.Operand) → IsOperand w o d → Builds w (tree_of d) result) → Came (IsTree w) s (at_rule levels (grammar.operand q done) s) result
operand_comes w o q levels s result (plain {d = d} r) f = finishes_so w (tree_of d) levels s result (f d r)

pub head_is_refused : (w : Walk) (h : code_head.Head) (q : p.Part) (levels : ℕ) (s : State) (e : ParseFault)
    → IsPart w (part.Head h) q → e ≡ fault.Syntax (next_place (from_refused s.looked s.rest)) → Failed (at_rule levels (grammar.operand q done) s) e
head_is_refused w h q levels s e (headed r) told = rw told (syntax (from_refused s.looked s.rest) refl)

-- ---- what has nothing behind it

-- at a rule that looks for arguments
pub looks_then : {B A : Type 0} (Is : B → A → Type 0) (levels : ℕ) (q r : Rule A) (s new : State) (result : Result B ParseFault) (b : Bool)
    → b ≡ arguments_follow s.rest → b ≡ true → new ≡ once_looked s → Came Is (once_looked s) (at_rule levels q (once_looked s)) result → Came Is new (at_rule levels (ahead q r) s) result
looks_then Is levels q r s new result b a t n h = rw n (carry Is (once_looked s) result (ahead_yes levels q r s (sym a ∙ t)) h)

pub looks_else : {B A : Type 0} (Is : B → A → Type 0) (levels : ℕ) (q r : Rule A) (s new : State) (result : Result B ParseFault) (b : Bool)
    → b ≡ arguments_follow s.rest → b ≡ false → new ≡ once_looked s → Came Is (once_looked s) (at_rule levels r (once_looked s)) result → Came Is new (at_rule levels (ahead q r) s) result
looks_else Is levels q r s new result b a t n h = rw n (carry Is (once_looked s) result (ahead_no levels q r s (sym a ∙ t)) h)

-- an operand that is one token is never too high
pub is_leaf : (w : Walk) (a : Tree) (levels : ℕ) (s : State) (result : Result Part ParseFault) → nat_le a.height max_height ≡ true → Makes w a result → Came (IsPart w) s (at_rule levels (done (as_value a)) s) result
is_leaf w a levels s result low h = carry (IsPart w) s result (sym (built_low levels a (done (as_value a)) s low)) (makes_so w a levels s result h)

-- ---- choices with more than one condition

-- the last arm is built first
pub last_first : {A : Type 0} (arms : List ArmTree) (a : ArmTree) (last : List Tree) (k : List Tree → Rule A)
    → closed_by (arms ++ a ∷ []) last k ≡ built (choice_of a last) (closed_by arms (choice_of a last ∷ []) k)
last_first [] a last k = refl
last_first (b ∷ arms) a last k = last_first arms a last (λ rest. built (choice_of b rest) (k (choice_of b rest ∷ [])))

-- what stands in front of the last arm
pub record Parted (w : Walk) (cs : List code.Arm) (c : code.Arm) (arms : List ArmTree) : Type 0 where
  pub front : List ArmTree
  pub last : ArmTree
  pub split : arms ≡ front ++ last ∷ []
  pub are_front : AreArms w cs front
  pub is_last : IsArm w c last

pub parted : (w : Walk) (cs : List code.Arm) (c : code.Arm) (arms : List ArmTree) → AreArms w (cs ++ c ∷ []) arms → Parted w cs c arms
parted w [] c [] h = absurd h
parted w [] c (a ∷ []) h = record { front = []; last = a; split = refl; are_front = tt; is_last = h.0 }
parted w [] c (a ∷ b ∷ more) h = absurd h.1
parted w (d ∷ cs) c [] h = absurd h
parted w (d ∷ cs) c (a ∷ arms) h =
    let rest : Parted w cs c arms = parted w cs c arms h.1 in
    record { front = a ∷ rest.front; last = rest.last; split = ap (λ x. a ∷ x) rest.split; are_front = (h.0, rest.are_front); is_last = rest.is_last }

-- for the arms that are left and the last body so far, the whole choice comes to what it comes to here
pub record Closing (w : Walk) (levels : ℕ) (more : List code.Arm) (rest : row.Row) (first : ArmTree) (others : List ArmTree) (trees : List Tree) : Type 0 where
  pub left : List ArmTree
  pub last : List Tree
  pub are_left : AreArms w more left
  pub is_last : IsRow w rest last
  pub comes : (s : State) → at_rule levels (closed_by others trees (λ x. finished (choice_of first x))) s ≡ at_rule levels (closed_by left last (λ x. finished (choice_of first x))) s

-- ---- operators

pub named_binary : (w : Walk) (a b : Tree) (text other : Text) (at place : Span) (result : Result Grown ParseFault) → text ≡ other → at ≡ place → Builds w (binary text at a b) result → Builds w (binary other place a b) result
named_binary w a b text other at place result e f h = rw (sym e, sym f) h

pub equal_fails : (w : Walk) (t : Token) (a b : Tree) (levels : ℕ) (s : State) (e : ParseFault) → Builds w (binary (operator_name look.equal) t.at a b) (Err e) → Failed (at_rule levels (joined p.equal_tier t a b done) s) e
equal_fails w t a b levels s e h =
    let equal : Tree = binary (operator_name look.equal) t.at a b in
    unbuilt w equal levels (pick (is_one (look.not_equal ∷ []) t) (finished (negated t.at equal)) (done equal)) s e h

pub not_equal_comes : (w : Walk) (t : Token) (a b : Tree) (levels : ℕ) (s : State) (result : Result Grown ParseFault) → is_one (look.not_equal ∷ []) t ≡ true → nat_le (binary (operator_name look.equal) t.at a b).height max_height ≡ true
    → Builds w (negated t.at (binary (operator_name look.equal) t.at a b)) result → Came (IsTree w) s (at_rule levels (joined p.equal_tier t a b done) s) result
not_equal_comes w t a b levels s result e low h =
    let equal : Tree = binary (operator_name look.equal) t.at a b in
    carry (IsTree w) s result
    (built_low levels equal (pick (is_one (look.not_equal ∷ []) t) (finished (negated t.at equal)) (done equal)) s low ∙ picks_first (is_one (look.not_equal ∷ []) t) (finished (negated t.at equal)) (done equal) levels s e)
    (finishes_so w (negated t.at equal) levels s result h)

pub equal_comes : (w : Walk) (t : Token) (a b : Tree) (levels : ℕ) (s : State) (g : Grown) → is_one (look.not_equal ∷ []) t ≡ false → Builds w (binary (operator_name look.equal) t.at a b) (Ok g) → Reached (IsTree w) s (at_rule levels (joined p.equal_tier t a b done) s) g
equal_comes w t a b levels s g e h =
    let equal : Tree = binary (operator_name look.equal) t.at a b in
    record {
      value = equal;
      reads = built_low levels equal (pick (is_one (look.not_equal ∷ []) t) (finished (negated t.at equal)) (done equal)) s h.1 ∙ picks_second (is_one (look.not_equal ∷ []) t) (finished (negated t.at equal)) (done equal) levels s e;
      same = h.0;
    }

pub other_comes : (w : Walk) (tier : code_tier.Tier) (t : Token) (a b : Tree) (levels : ℕ) (s : State) (result : Result Grown ParseFault) → (tier ≡ a_tier.Or → ⊥) → (tier ≡ a_tier.And → ⊥) → (tier ≡ a_tier.Equal → ⊥)
    → Builds w (binary (operator_name (class_of t.kind)) t.at a b) result → Came (IsTree w) s (at_rule levels (joined (tier_by tier) t a b done) s) result
other_comes w a_tier.Or t a b levels s result no_or no_and no_equal h = absurd (no_or refl)
other_comes w a_tier.And t a b levels s result no_or no_and no_equal h = absurd (no_and refl)
other_comes w a_tier.Equal t a b levels s result no_or no_and no_equal h = absurd (no_equal refl)
other_comes w a_tier.Less t a b levels s result no_or no_and no_equal h = finishes_so w (binary (operator_name (class_of t.kind)) t.at a b) levels s result h
other_comes w a_tier.Shift t a b levels s result no_or no_and no_equal h = finishes_so w (binary (operator_name (class_of t.kind)) t.at a b) levels s result h
other_comes w a_tier.Sum t a b levels s result no_or no_and no_equal h = finishes_so w (binary (operator_name (class_of t.kind)) t.at a b) levels s result h
other_comes w a_tier.Product t a b levels s result no_or no_and no_equal h = finishes_so w (binary (operator_name (class_of t.kind)) t.at a b) levels s result h
other_comes w a_tier.Unary t a b levels s result no_or no_and no_equal h = finishes_so w (binary (operator_name (class_of t.kind)) t.at a b) levels s result h

-- ---- names

abbrev unknown : Word → Rule p.Part
unknown w = ahead (done (p.head (p.of_call None w))) (pick (look.is_marked w.text) (done (as_value (call None w []))) (done (p.plain (p.bare w))))

pub local_comes : (w : Walk) (word : code_word.Word) (levels : ℕ) (s : State) (b : Bool) → b ≡ is_local word.text.now s.scope → b ≡ true → Reached (IsPart w) s (at_rule levels (plain_name (word_by word)) s) (part.Plain (operand.Variable word))
local_comes w word levels s b e t =
    record { value = p.plain (p.variable (word_by word)); reads = known_yes levels word.text.now (done (p.plain (p.variable (word_by word)))) (unknown (word_by word)) s (sym e ∙ t); same = plain variable }

pub unknown_comes : (w : Walk) (word : Word) (levels : ℕ) (s new : State) (result : Result Part ParseFault) (b : Bool) → b ≡ is_local word.text s.scope → b ≡ false
    → Came (IsPart w) new (at_rule levels (unknown word) s) result → Came (IsPart w) new (at_rule levels (plain_name word) s) result
unknown_comes w word levels s new result b e f h = carry (IsPart w) new result (known_no levels word.text (done (p.plain (p.variable word))) (unknown word) s (sym e ∙ f)) h

pub marked_comes : (w : Walk) (word : Word) (levels : ℕ) (s : State) (result : Result Part ParseFault) (m : Bool) → m ≡ look.is_marked word.text → m ≡ true → Makes w (call None word []) result
    → Came (IsPart w) s (at_rule levels (pick (look.is_marked word.text) (done (as_value (call None word []))) (done (p.plain (p.bare word)))) s) result
marked_comes w word levels s result m e t h =
    carry (IsPart w) s result (picks_first (look.is_marked word.text) (done (as_value (call None word []))) (done (p.plain (p.bare word))) levels s (sym e ∙ t)) (is_leaf w (call None word []) levels s result refl h)

-- ---- members

abbrev behind_member : Bool → Tree → Word → Rule p.Part
behind_member d a w = pick (look.is_marked w.text) (going_on d (call (Some a) w [])) (phrase (p.postfix_rest d (p.plain (p.member a w))) done)

not_longer : (s new : State) → new ≡ once_looked s → length new.rest ≤ length s.rest
not_longer s new n = let e : length new.rest ≡ length s.rest = ap (λ x. length x.rest) n in omega (arith, e)

head_stays : (levels : ℕ) (d : Bool) (h : p.Head) (s : State) → answer_at levels (p.postfix_rest d (p.head h)) s ≡ read (p.head h) s.scope s.looked s.rest
unfolding rule
head_stays levels d h s = by_rule levels (p.postfix_rest d (p.head h)) s

pub member_head : (w : Walk) (word : code_word.Word) (g : Grown) (d : Bool) (a : Tree) (levels : ℕ) (s new : State) (c : Bool) → IsTree w g a → c ≡ arguments_follow s.rest → c ≡ true → new ≡ once_looked s
    → GoesOn (IsPart w) s new (at_rule levels (plain_member d a (word_by word)) s) (λ q. answer_at levels (p.postfix_rest d q) new) (part.Head (head.Call (Some g) word))
member_head w word g d a levels s new c h e t n =
    let name : Word = word_by word in
    let there : p.Head = p.of_call (Some a) name in
    record {
      value = p.head there;
      comes = ahead_yes levels (done (p.head there)) (behind_member d a name) s (sym e ∙ t) ∙ sym (head_stays levels d there (once_looked s)) ∙ ap (λ x. answer_at levels (p.postfix_rest d (p.head there)) x) (sym n);
      same = headed (of_call_to h);
      shorter = not_longer s new n;
    }

pub member_plain : (w : Walk) (word : code_word.Word) (g : Grown) (d : Bool) (a : Tree) (levels : ℕ) (s new : State) (c m : Bool) → IsTree w g a → c ≡ arguments_follow s.rest → c ≡ false → new ≡ once_looked s → m ≡ look.is_marked word.text.now → m ≡ false
    → GoesOn (IsPart w) s new (at_rule levels (plain_member d a (word_by word)) s) (λ q. answer_at levels (p.postfix_rest d q) new) (part.Plain (operand.Member g word))
member_plain w word g d a levels s new c m h e f n i k =
    let name : Word = word_by word in
    let here : p.Part = p.plain (p.member a name) in
    record {
      value = here;
      comes = ahead_no levels (done (p.head (p.of_call (Some a) name))) (behind_member d a name) s (sym e ∙ f)
          ∙ picks_second (look.is_marked name.text) (going_on d (call (Some a) name [])) (phrase (p.postfix_rest d here) done) levels (once_looked s) (sym i ∙ k)
          ∙ (arrives levels (p.postfix_rest d here) (once_looked s)).comes ∙ ap (λ x. answer_at levels (p.postfix_rest d here) x) (sym n);
      same = plain (member h);
      shorter = not_longer s new n;
    }

pub member_marked : (w : Walk) (word : Word) (d : Bool) (a : Tree) (levels : ℕ) (s new : State) (c m : Bool) (result : Result Part ParseFault) → c ≡ arguments_follow s.rest → c ≡ false → new ≡ once_looked s → m ≡ look.is_marked word.text → m ≡ true
    → Makes w (call (Some a) word []) result → Goes (IsPart w) s new (at_rule levels (plain_member d a word) s) (λ q. answer_at levels (p.postfix_rest d q) new) result
member_marked w word d a levels s new c m (Ok found) e f n i k h =
    let made : Tree = call (Some a) word [] in
    record {
      value = as_value made;
      comes = ahead_no levels (done (p.head (p.of_call (Some a) word))) (behind_member d a word) s (sym e ∙ f)
          ∙ picks_first (look.is_marked word.text) (going_on d made) (phrase (p.postfix_rest d (p.plain (p.member a word))) done) levels (once_looked s) (sym i ∙ k)
          ∙ built_low levels made (phrase (p.postfix_rest d (as_value made)) done) (once_looked s) h.2.1
          ∙ (arrives levels (p.postfix_rest d (as_value made)) (once_looked s)).comes ∙ ap (λ x. answer_at levels (p.postfix_rest d (as_value made)) x) (sym n);
      same = rw h.1 (plain (value h.2.0));
      shorter = not_longer s new n;
    }
member_marked w word d a levels s new c m (Err fault) e f n i k h =
    let made : Tree = call (Some a) word [] in
    through (ahead_no levels (done (p.head (p.of_call (Some a) word))) (behind_member d a word) s (sym e ∙ f)
    ∙ picks_first (look.is_marked word.text) (going_on d made) (phrase (p.postfix_rest d (p.plain (p.member a word))) done) levels (once_looked s) (sym i ∙ k))
    (unbuilt w made levels (phrase (p.postfix_rest d (as_value made)) done) (once_looked s) fault h)

-- ---- at a rule

pub leaf_follows : (w : Walk) (a : Tree) (levels : ℕ) (s : State) (result : Result Part ParseFault) → nat_le a.height max_height ≡ true → Makes w a result → Follows (IsPart w) levels (done (as_value a)) s s result
leaf_follows w a levels s result low h = record { came = is_leaf w a levels s result low h }

-- ---- assignments

pub no_mark : (o : Option TargetTree) (s : State) → next_meets (one_of assignment_marks) s.rest ≡ false → Unassigned o s
no_mark None s h = tt
no_mark (Some target) s h = h

pub no_target : (o : Option TargetTree) (s : State) → o ≡ None → Unassigned o s
no_target o s h = rw h tt

pub took_so : (test : look.Test) (old new : State) (t : Token) → next_meets test old.rest ≡ true → Took any_token old new t → Took test old new t
took_so test old new t h took = record { split = took.split; meets = subst (λ ts. next_meets test ts ≡ true) took.split h; scope = took.scope; looked = took.looked }

any_meets : (test : look.Test) (ts : List Token) → next_meets test ts ≡ true → next_meets any_token ts ≡ true
any_meets test [] h = h
any_meets test (t ∷ ts) h = refl

-- where a token meets a test, one is there
pub none_missed : (test : look.Test) (s : State) (e : ParseFault) → next_meets test s.rest ≡ true → Missed any_token s e → ⊥
none_missed test s e h missed = let b : true ≡ false = sym (any_meets test s.rest h) ∙ missed.fails in let c : ⊥ = cc in c

pub no_answer : {B : Type 0} (result : Result B ParseFault) (e : ParseFault) (Q : B → Type 0) → IsErrAnd result (λ f. f ≡ e) → IfOk result Q
no_answer (Ok b) e Q h = absurd h
no_answer (Err f) e Q h = tt

pub tells_memory : {B C : Type 0} (result : Result B ParseFault) (e : ParseFault) → IsErrAnd result (λ f. f ≡ e) → ◌≡◌ {A = Result C ParseFault} (Err e) (Err fault.Memory) → OnErr result (result ≡ Err fault.Memory)
tells_memory (Ok b) e h m = absurd h
tells_memory (Err f) e h m = ap Err (h ∙ is_memory m)

pub local_target : (w : Walk) (word : code_word.Word) (x : TargetTree) (sc : Scope) → IsTarget w (target.Local word) x → (if is_local word.text.now sc then sc else with_local word.text.now sc) ≡ with_target x sc
local_target w word x sc to_local = refl

pub other_target : (w : Walk) (t : code_target.Target) (x : TargetTree) (sc : Scope) → IsTarget w t x → ((word : code_word.Word) → t ≡ target.Local word → ⊥) → sc ≡ with_target x sc
other_target w t x sc (to_local {word = word}) f = absurd (f word refl)
other_target w t x sc to_field f = refl
other_target w t x sc to_global f = refl
other_target w t x sc (to_index g i) f = refl
other_target w t x sc (to_attribute g) f = refl

-- ---- one arm more

pub none_left : (w : Walk) (cs : List code.Arm) (arms : List ArmTree) → cs ≡ [] → AreArms w cs arms → arms ≡ []
none_left w [] [] e h = refl
none_left w [] (a ∷ arms) e h = absurd h
none_left w (c ∷ cs) arms e h = let b : ⊥ = cc in absurd b

abbrev pub choosing : ArmTree → List Tree → Rule Tree
choosing first x = finished (choice_of first x)

pub one_arm : (levels : ℕ) (first : ArmTree) (left front : List ArmTree) (a : ArmTree) (last : List Tree) (s : State) → left ≡ front ++ a ∷ []
    → at_rule levels (closed_by left last (choosing first)) s ≡ at_rule levels (built (choice_of a last) (closed_by front (choice_of a last ∷ []) (choosing first))) s
one_arm levels first left front a last s split = ap (λ l. at_rule levels (closed_by l last (choosing first)) s) split ∙ ap (λ r. at_rule levels r s) (last_first front a last (choosing first))

pub all_chosen : (w : Walk) (levels : ℕ) (first : ArmTree) (left : List ArmTree) (last : List Tree) (s : State) (result : Result Grown ParseFault) → left ≡ [] → Builds w (choice_of first last) result
    → Came (IsTree w) s (at_rule levels (closed_by left last (choosing first)) s) result
all_chosen w levels first left last s result e h =
    carry (IsTree w) s result (ap (λ l. at_rule levels (closed_by l last (choosing first)) s) e) (finishes_so w (choice_of first last) levels s result h)
