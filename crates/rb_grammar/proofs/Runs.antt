-- In turns enough a phrase is read as its rule says, with the phrases in it read so: no turns are spoken of there.
use Rattle.std.proofs.Common.{◌≡◌, ℕ, suc, ◌≤◌, ◌+◌, Bool, List, refl, sym, ◌∙◌, ltb-true, arith}
use Rattle.rb_lexer.specs.declared.token.Token.{Token}
use Rattle.rb_grammar.specs.Scope.{Scope}
use Rattle.rb_grammar.specs.Phrase.{Phrase}
use Rattle.rb_grammar.specs.Grammar.{rule}
use Rattle.rb_grammar.specs.Heads.{may_be_empty}
use Rattle.rb_grammar.specs.Reading.{reading, run, turns_for, Settled, answer}
use Rattle.rb_grammar.proofs.Settled.{Kept, run_kept, reading_kept}
use Rattle.rb_grammar.proofs.Turns.{Answers, rank_low, reading_answers, answers_settled}

-- in turns enough, the reader has an answer
settled_in : (limit turns levels : ℕ) (n : Phrase) (s : Scope) (seen : Bool) (ts : List Token) → turns_for ts ≤ turns → Settled (reading limit turns levels n s seen ts)
settled_in limit turns levels n s seen ts enough =
    let low = ltb-true _ _ (rank_low n) in
    answers_settled (may_be_empty n) ts (reading limit turns levels n s seen ts) (reading_answers limit turns levels n s seen ts (omega arith))

-- what is settled in any turns is the answer
answer_kept : (limit turns levels : ℕ) (n : Phrase) (s : Scope) (seen : Bool) (ts : List Token) → Kept (reading limit turns levels n s seen ts) (answer limit levels n s seen ts)
unfolding answer
answer_kept limit turns levels n s seen ts settled =
    sym (reading_kept limit (turns_for ts) (turns + turns_for ts) (omega arith) levels n s seen ts (settled_in limit (turns_for ts) levels n s seen ts (omega arith)))
    ∙ reading_kept limit turns (turns + turns_for ts) (omega arith) levels n s seen ts settled

-- a phrase is answered as its rule runs
pub answer_runs : (limit levels : ℕ) (n : Phrase) (s : Scope) (seen : Bool) (ts : List Token) → answer limit levels n s seen ts ≡ run limit (answer limit) levels (rule n) s seen ts
answer_runs limit levels n s seen ts =
    let enough = settled_in limit (suc (turns_for ts)) levels n s seen ts (omega arith) in
    answer_kept limit (suc (turns_for ts)) levels n s seen ts enough
    ∙ sym (run_kept limit (reading limit (turns_for ts)) (answer limit) (λ l. answer_kept limit (turns_for ts) l) levels (rule n) s seen ts enough)

-- the answer for a phrase is what the reader answers in its turns
pub answer_is : (limit levels : ℕ) (n : Phrase) (s : Scope) (seen : Bool) (ts : List Token) → answer limit levels n s seen ts ≡ reading limit (turns_for ts) levels n s seen ts
unfolding answer
answer_is limit levels n s seen ts = refl

-- the answer leaves no more tokens than there were
pub answer_shorter : (limit levels : ℕ) (n : Phrase) (s : Scope) (seen : Bool) (ts : List Token) → Answers (may_be_empty n) ts (answer limit levels n s seen ts)
unfolding answer
answer_shorter limit levels n s seen ts = let low = ltb-true _ _ (rank_low n) in reading_answers limit (turns_for ts) levels n s seen ts (omega arith)
