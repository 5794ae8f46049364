-- The reader has turns enough: it answers any list of tokens in a number of turns that is linear in its length.
use Rattle.std.proofs.Common.{◌≡◌, ℕ, zero, suc, ◌+◌, ◌*◌, ◌<◌, ◌≤◌, Bool, true, false, ◌||◌, nat_le, nat_lt, List, [], ◌∷◌, length, Option, Some, None, refl, ltb-true, arith}
use Rattle.rb_tree.specs.declared.span.Span.{Span}
use Rattle.rb_lexer.specs.declared.token.Token.{Token}
use Rattle.rb_grammar.specs.Look.{class_of}
use Rattle.rb_grammar.specs.Tree.{TargetTree, no_items}
use Rattle.rb_grammar.specs.Scope.{Scope, is_local, top_level}
use Rattle.rb_grammar.specs.Phrase.{Part, Tier, Phrase, Value}
use Rattle.rb_grammar.specs.Phrase.{or_tier, and_tier, equal_tier, less_tier, shift_tier, sum_tier, product_tier, unary_tier}
use Rattle.rb_grammar.specs.Phrase as p
use Rattle.rb_grammar.specs.Rule.{Rule, done, refuse, token, phrase, nested, built, either, look, pick, known, touching, ahead, scope, next_meets, next_touches, arguments_follow}
use Rattle.rb_grammar.specs.Grammar.{rule, assigning, target_of}
use Rattle.rb_grammar.specs.Heads.{may_be_empty, begins}
use Rattle.rb_grammar.specs.Reading.{Outcome, read, refused, too_nested, spent, Reader, Reading, from_refused, is_looked_behind, and_then, when, nest, run, reading, Settled, turns_for, read_script}

-- ---- ranks

-- the rank of a chain, by its tier
abbrev pub rank_of_tier : Tier → ℕ
rank_of_tier unary_tier = 3
rank_of_tier product_tier = 4
rank_of_tier sum_tier = 5
rank_of_tier shift_tier = 6
rank_of_tier less_tier = 7
rank_of_tier equal_tier = 8
rank_of_tier and_tier = 9
rank_of_tier or_tier = 10

-- The rank of a phrase: each phrase that may be read in it before any token is taken has a smaller one. It is 0 where the phrase
-- begins with a token or is empty.
abbrev pub rank : Phrase → ℕ
rank (p.postfix d) = 1
rank (p.unary d) = 2
rank (p.chain d tier) = rank_of_tier tier
rank (p.ternary d) = 11
rank (p.assignment d) = 12
rank (p.branches d) = 12
rank (p.expression d) = 13
rank (p.argument d) = 13
rank p.simple = 14
rank (p.conditional word) = 14
rank (p.loop_rest word) = 14
rank p.command_arguments = 14
rank p.arguments = 14
rank p.index_rest = 14
rank p.array_rest = 14
rank p.pair = 14
rank p.hash_rest = 15
rank p.statement = 15
rank p.group_rest = 16
rank p.code_rest = 16
rank (p.items found) = 16
rank (p.body found) = 16
rank (p.method_body name words) = 17
rank (p.block_body in_braces at words) = 17
rank (p.block_rest in_braces at) = 18
rank other = 0

-- what all ranks are below
abbrev pub ranks : ℕ
ranks = 19

-- what must hold behind a phrase that may be empty
abbrev pub Behind : Bool → Type 0 → Type 0
Behind true P = P
Behind false P = Unit {0}

-- Before the rule takes a token, each phrase that is read in it has a rank below the bound, and it ends only where the flag says
-- that it may be empty.
abbrev pub Fits : {A : Type 0} → ℕ → Bool → Rule A → Type 0
Fits bound may (done a) = may ≡ true
Fits bound may refuse = Unit {0}
Fits bound may (token test k) = Unit {0}
Fits bound may (phrase n k) = (nat_lt (rank n) bound ≡ true) × ((v : Value n) → Behind (may_be_empty n) (Fits bound may (k v)))
Fits bound may (nested at n k) = (nat_lt (rank n) bound ≡ true) × ((v : Value n) → Behind (may_be_empty n) (Fits bound may (k v)))
Fits bound may (built a r) = Fits bound may r
Fits bound may (either q r) = Fits bound may q × Fits bound may r
Fits bound may (look test r) = Fits bound may r
Fits bound may (pick b q r) = Fits bound may q × Fits bound may r
Fits bound may (known text q r) = Fits bound may q × Fits bound may r
Fits bound may (touching place q r) = Fits bound may q × Fits bound may r
Fits bound may (ahead q r) = Fits bound may q × Fits bound may r
Fits bound may (scope f r) = Fits bound may r

-- what goes on behind an operand begins with a token or is empty, whatever target the operand is
fits_assigning : (d : Bool) (part : Part) (target : Option TargetTree) → Fits 0 true (assigning d part target)
fits_assigning d part None = refl
fits_assigning d part (Some target) = (tt, refl)

-- the rule of a phrase fits its rank, and ends before it takes a token only if the phrase may be empty
fits : (n : Phrase) → Fits (rank n) (may_be_empty n) (rule n)
unfolding rule
fits (p.assignment_rest d (p.plain o)) = fits_assigning d (p.plain o) (target_of (p.plain o))
fits (p.assignment_rest d (p.head h)) = refl
fits (p.ternary_rest d (p.plain o)) = (tt, refl)
fits (p.ternary_rest d (p.head h)) = refl
fits (p.postfix_rest d (p.plain o)) = (tt, (tt, refl))
fits (p.postfix_rest d (p.head h)) = refl
fits (p.chain_rest d tier (p.plain o)) = (tt, refl)
fits (p.chain_rest d tier (p.head h)) = refl
fits (p.chain d or_tier) = (refl, λ v. tt)
fits (p.chain d and_tier) = (refl, λ v. tt)
fits (p.chain d equal_tier) = (refl, λ v. tt)
fits (p.chain d less_tier) = (refl, λ v. tt)
fits (p.chain d shift_tier) = (refl, λ v. tt)
fits (p.chain d sum_tier) = (refl, λ v. tt)
fits (p.chain d product_tier) = (refl, λ v. tt)
fits (p.chain d unary_tier) = (refl, λ v. tt)
fits other = search tt

-- each rank is one of the ranks
pub rank_low : (n : Phrase) → nat_lt (rank n) ranks ≡ true
rank_low (p.chain d or_tier) = refl
rank_low (p.chain d and_tier) = refl
rank_low (p.chain d equal_tier) = refl
rank_low (p.chain d less_tier) = refl
rank_low (p.chain d shift_tier) = refl
rank_low (p.chain d sum_tier) = refl
rank_low (p.chain d product_tier) = refl
rank_low (p.chain d unary_tier) = refl
rank_low other = refl

-- what holds in any case holds behind a phrase
behind_all : {P : Type 0} (b : Bool) → P → Behind b P
behind_all true h = h
behind_all false h = tt

-- each rule fits the bound of all ranks
all_fit : {A : Type 0} (r : Rule A) → Fits ranks true r
all_fit (done a) = refl
all_fit refuse = tt
all_fit (token test k) = tt
all_fit (phrase n k) = (rank_low n, λ v. behind_all (may_be_empty n) (all_fit (k v)))
all_fit (nested at n k) = (rank_low n, λ v. behind_all (may_be_empty n) (all_fit (k v)))
all_fit (built a r) = all_fit r
all_fit (either q r) = (all_fit q, all_fit r)
all_fit (look test r) = all_fit r
all_fit (pick b q r) = (all_fit q, all_fit r)
all_fit (known text q r) = (all_fit q, all_fit r)
all_fit (touching place q r) = (all_fit q, all_fit r)
all_fit (ahead q r) = (all_fit q, all_fit r)
all_fit (scope f r) = all_fit r

-- ---- answers

-- how many tokens are taken at the least, by whether it may be none
abbrev pub least : Bool → ℕ
least true = 0
least false = 1

-- one token is enough in either case
least_low : (may : Bool) → least may ≤ 1
least_low true = omega arith
least_low false = omega arith

-- An answer, and not that the turns are spent. Where something was read, no more tokens are left than there were, and fewer
-- unless the flag says that it may be empty.
abbrev pub Answers : {A : Type 0} → Bool → List Token → Outcome A → Type 0
Answers may ts (read a s seen us) = length us + least may ≤ length ts
Answers may ts (refused us) = Unit {0}
Answers may ts (too_nested at) = Unit {0}
Answers may ts spent = ⊥

-- an answer on fewer tokens is one on more
answers_wider : {A : Type 0} (may may' : Bool) (us ts : List Token) (o : Outcome A) → length us + least may ≤ length ts + least may'
    → Answers may' us o → Answers may ts o
answers_wider may may' us ts (read a s seen vs) few h = omega arith
answers_wider may may' us ts (refused vs) few h = tt
answers_wider may may' us ts (too_nested at) few h = tt
answers_wider may may' us ts spent few h = h

-- a choice answers where both sides do
answers_when : {A : Type 0} (may : Bool) (ts : List Token) (b : Bool) (f g : Unit {0} → Outcome A) → Answers may ts (f tt) → Answers may ts (g tt) → Answers may ts (when b f g)
answers_when may ts true f g h k = h
answers_when may ts false f g h k = k

-- two steps answer where both do
answers_then : {A B : Type 0} (may first : Bool) (ts : List Token) (o : Outcome A) (f : A → Reader B) → Answers first ts o
    → ((a : A) (s : Scope) (seen : Bool) (us : List Token) → length us + least first ≤ length ts → Answers may ts (f a s seen us)) → Answers may ts (and_then o f)
answers_then may first ts (read a s seen us) f h go = go a s seen us h
answers_then may first ts (refused us) f h go = tt
answers_then may first ts (too_nested at) f h go = tt
answers_then may first ts spent f h go = absurd h

-- What stands behind a phrase answers: where the phrase may be empty it fits the same bound, and else it has fewer tokens.
answers_behind : {A : Type 0} (turns bound : ℕ) (may first : Bool) (r : Rule A) (ts us : List Token) (o : Outcome A) → Behind first (Fits bound may r)
    → length us + least first ≤ length ts → bound + ranks * length ts ≤ turns
    → ((bound' : ℕ) (may' : Bool) → Fits bound' may' r → bound' + ranks * length us ≤ turns → Answers may' us o)
    → Answers may ts o
answers_behind turns bound may true r ts us o fit few enough go = answers_wider may may us ts o (omega arith) (go bound may fit (omega arith))
answers_behind turns bound may false r ts us o fit few enough go = answers_wider may true us ts o (omega (arith, least_low may)) (go ranks true (all_fit r) (omega arith))

-- turns enough for a bound are enough for the ranks below it
in_bound : (n : Phrase) (bound turns tokens : ℕ) → nat_lt (rank n) bound ≡ true → bound + ranks * tokens ≤ turns → rank n + ranks * tokens < turns
in_bound n bound turns tokens low enough = let h = ltb-true _ _ low in omega arith

module _ (limit turns : ℕ) (reader : ℕ → Reading)
    (answers : (l : ℕ) (n : Phrase) (s : Scope) (seen : Bool) (ts : List Token) → rank n + ranks * length ts < turns → Answers (may_be_empty n) ts (reader l n s seen ts))
    (levels : ℕ) where
  -- what may open answers where what is inside does
  answers_nest : {A : Type 0} (may : Bool) (ts : List Token) (at : Span) (l : ℕ) (f : ℕ → Outcome A) → ((left : ℕ) → Answers may ts (f left)) → Answers may ts (nest limit reader levels at l f)
  answers_nest may ts at zero f h = tt
  answers_nest may ts at (suc left) f h = h left

  -- a rule answers in turns enough for its bound, where the phrases in it do in those enough for their ranks
  run_answers : {A : Type 0} (r : Rule A) (s : Scope) (seen : Bool) (ts : List Token) (bound : ℕ) (may : Bool) → Fits bound may r → bound + ranks * length ts ≤ turns
      → Answers may ts (run limit reader levels r s seen ts)
  run_answers (done a) s seen ts bound may fit enough = rw fit (omega arith)
  run_answers refuse s seen ts bound may fit enough = tt
  run_answers (token test k) s seen [] bound may fit enough = tt
  run_answers (token test k) s seen (t ∷ ts) bound may fit enough =
      answers_when may (t ∷ ts) (test (class_of t.kind) t.spaced) (λ u. run limit reader levels (k t) s false ts) (λ u. refused (from_refused seen (t ∷ ts)))
      (answers_wider may true ts (t ∷ ts) (run limit reader levels (k t) s false ts) (omega (arith, least_low may))
      (run_answers (k t) s false ts ranks true (all_fit (k t)) (omega arith))) tt
  run_answers (phrase n k) s seen ts bound may fit enough =
      answers_then may (may_be_empty n) ts (reader levels n s seen ts) (λ v. run limit reader levels (k v)) (answers levels n s seen ts (in_bound n bound turns (length ts) fit.0 enough))
      (λ v s' seen' us few. answers_behind turns bound may (may_be_empty n) (k v) ts us (run limit reader levels (k v) s' seen' us) (fit.1 v) few enough (run_answers (k v) s' seen' us))
  run_answers (nested at n k) s seen ts bound may fit enough =
      answers_nest may ts at levels (λ left. and_then (reader left n s seen ts) (λ v. run limit reader levels (k v))) (λ left.
      answers_then may (may_be_empty n) ts (reader left n s seen ts) (λ v. run limit reader levels (k v)) (answers left n s seen ts (in_bound n bound turns (length ts) fit.0 enough))
      (λ v s' seen' us few. answers_behind turns bound may (may_be_empty n) (k v) ts us (run limit reader levels (k v) s' seen' us) (fit.1 v) few enough (run_answers (k v) s' seen' us)))
  run_answers (built a r) s seen ts bound may fit enough =
      answers_when may ts (nat_le a.height limit) (λ u. run limit reader levels r s seen ts) (λ u. too_nested a.at) (run_answers r s seen ts bound may fit enough) tt
  run_answers (either q r) s seen ts bound may fit enough =
      answers_when may ts (begins q ts) (λ u. run limit reader levels q s seen ts) (λ u. run limit reader levels r s seen ts)
      (run_answers q s seen ts bound may fit.0 enough) (run_answers r s seen ts bound may fit.1 enough)
  run_answers (look test r) s seen ts bound may fit enough =
      answers_when may ts (next_meets test ts) (λ u. run limit reader levels r s seen ts) (λ u. refused (from_refused seen ts)) (run_answers r s seen ts bound may fit enough) tt
  run_answers (pick b q r) s seen ts bound may fit enough =
      answers_when may ts b (λ u. run limit reader levels q s seen ts) (λ u. run limit reader levels r s seen ts)
      (run_answers q s seen ts bound may fit.0 enough) (run_answers r s seen ts bound may fit.1 enough)
  run_answers (known text q r) s seen ts bound may fit enough =
      answers_when may ts (is_local text s) (λ u. run limit reader levels q s seen ts) (λ u. run limit reader levels r s seen ts)
      (run_answers q s seen ts bound may fit.0 enough) (run_answers r s seen ts bound may fit.1 enough)
  run_answers (touching place q r) s seen ts bound may fit enough =
      answers_when may ts (next_touches place ts) (λ u. run limit reader levels q s seen ts) (λ u. run limit reader levels r s seen ts)
      (run_answers q s seen ts bound may fit.0 enough) (run_answers r s seen ts bound may fit.1 enough)
  run_answers (ahead q r) s seen ts bound may fit enough =
      answers_when may ts (arguments_follow ts) (λ u. run limit reader levels q s (is_looked_behind ts || seen) ts) (λ u. run limit reader levels r s (is_looked_behind ts || seen) ts)
      (run_answers q s (is_looked_behind ts || seen) ts bound may fit.0 enough) (run_answers r s (is_looked_behind ts || seen) ts bound may fit.1 enough)
  run_answers (scope f r) s seen ts bound may fit enough = run_answers r (f s) seen ts bound may fit enough

-- a phrase is answered in turns enough for its rank and the tokens
pub reading_answers : (limit turns levels : ℕ) (n : Phrase) (s : Scope) (seen : Bool) (ts : List Token) → rank n + ranks * length ts < turns
    → Answers (may_be_empty n) ts (reading limit turns levels n s seen ts)
reading_answers limit zero levels n s seen ts enough = absurd (omega arith)
reading_answers limit (suc turns) levels n s seen ts enough =
    run_answers limit turns (reading limit turns) (λ l n s seen ts. reading_answers limit turns l n s seen ts) levels (rule n) s seen ts (rank n) (may_be_empty n) (fits n) (omega arith)

-- an answer is settled
pub answers_settled : {A : Type 0} (may : Bool) (ts : List Token) (o : Outcome A) → Answers may ts o → Settled o
answers_settled may ts (read a s seen us) h = tt
answers_settled may ts (refused us) h = tt
answers_settled may ts (too_nested at) h = tt
answers_settled may ts spent h = h

-- the reader answers each list of tokens in so many turns
pub script_answered : (limit levels : ℕ) (ts : List Token) → Settled (read_script limit levels ts)
script_answered limit levels ts =
    answers_settled false ts (read_script limit levels ts) (reading_answers limit (turns_for ts) levels (p.items no_items) top_level false ts (omega arith))
