-- A program that is held, and no fault from outside.
use Rattle.std.proofs.Common.{◌≡◌, ◌≤◌, ℕ, List, length, take, Option, Ok, refl, ◌∙◌, subst, inl, inr, arith}
use Rattle.std.proofs.lemmas.List.{take_all}
use Rattle.rb_tree.specs.declared.node.Program.{Program}
use Rattle.rb_lexer.specs.declared.token.Token.{Token}
use Rattle.rb_lexer.specs.Tokens.{Outcome, Lexes, too_large, not_utf8}
use Rattle.rb_lexer.specs.Tokens as lexer
use Rattle.rb_edge.specs.Edge.{Held, Bytes}
use Rattle.rb_edge.specs.Transfer.{ReadOf, NotHeld}
use Rattle.rb_model.specs.Ends.{End}
use Rattle.rb_model.specs.Ends as ending
use Rattle.rb_shared.specs.History.{History}
use Rattle.rb_prog.specs.Run.{Accepts, status_of, IsOwnOrMemory, RunsSource, shown, refused, Runs, read, missing, failed}
use Rattle.rb_prog.specs.Run as run

-- the status 7 is that of a full heap
pub full_heap : (how : End) → status_of how ≡ 7 → ((used asked : ℕ) → how ≡ ending.Full used asked → ⊥) → ⊥
full_heap (ending.Value value) e none = cc
full_heap (ending.Raised fault at) e none = cc
full_heap ending.Steps e none = cc
full_heap (ending.Full used asked) e none = none used asked refl
full_heap ending.Sink e none = cc
full_heap ending.Memory e none = cc

ended : (how : End) (sunk : Type 0) → (status_of how ≡ 5 → sunk) → (sunk → ⊥) → (status_of how ≡ 7 → ⊥) → IsOwnOrMemory (status_of how)
ended (ending.Value value) sunk cause never full = inl refl
ended (ending.Raised fault at) sunk cause never full = inr (inl refl)
ended ending.Steps sunk cause never full = inr (inr (inl refl))
ended (ending.Full used asked) sunk cause never full = absurd (full refl)
ended ending.Sink sunk cause never full = absurd (never (cause refl))
ended ending.Memory sunk cause never full = inr (inr (inr refl))

pub source_ends : (bytes : List ℕ) (program : Program) (sunk : Type 0) (steps : ℕ) (old new : Option (List ℕ)) (status : ℕ) (front : Option History) (line : List ℕ)
    → Accepts bytes program → RunsSource bytes steps old new status front line → (status ≡ 5 → sunk) → (sunk → ⊥) → (status ≡ 7 → ⊥) → IsOwnOrMemory status
source_ends bytes program sunk steps old new _ _ _ a (shown {how} p r) cause never full = ended how sunk cause never full
source_ends bytes program sunk steps old new _ _ _ a (refused w r n) cause never full = absurd (r program a)
source_ends bytes program sunk steps old new _ _ _ a (run.RunsSource.out_of_memory n) cause never full = inr (inr (inr refl))

-- no run of a source is one of words that are none of the program's
ended_not_usage : (how : End) → status_of how ≡ 2 → ⊥
ended_not_usage (ending.Value value) e = cc
ended_not_usage (ending.Raised fault at) e = cc
ended_not_usage ending.Steps e = cc
ended_not_usage (ending.Full used asked) e = cc
ended_not_usage ending.Sink e = cc
ended_not_usage ending.Memory e = cc

pub source_not_usage : (source : List ℕ) (steps : ℕ) (old new : Option (List ℕ)) (status : ℕ) (front : Option History) (line : List ℕ)
    → RunsSource source steps old new status front line → status ≡ 2 → ⊥
source_not_usage source steps old new _ _ _ (shown {how} p r) e = ended_not_usage how e
source_not_usage source steps old new _ _ _ (refused w r n) e = cc
source_not_usage source steps old new _ _ _ (run.RunsSource.out_of_memory n) e = cc

-- a source that has tokens is short
short_of_tokens : (held : List ℕ) (outcome : Outcome) (tokens : List Token) → Lexes held outcome → outcome ≡ Ok tokens → length held ≤ 1048576
short_of_tokens held _ tokens (too_large l) e = absurd (cc)
short_of_tokens held _ tokens (not_utf8 l v n) e = absurd (cc)
short_of_tokens held _ tokens (lexer.Lexes.read l u r) e = l

-- and is read whole
all_read : (held bytes : List ℕ) (program : Program) → Accepts held program → bytes ≡ take 1048577 held → bytes ≡ held
all_read held bytes program a e = let l = short_of_tokens held (Ok a.tokens) a.tokens a.lexed refl in e ∙ take_all 1048577 held (omega arith)

pub complete : (h : Held) (held : List ℕ) (program : Program) (read_failed sunk : Type 0) (steps : ℕ) (old new : Option (List ℕ)) (status : ℕ) (front : Option History) (line : List ℕ)
    → Runs h read_failed steps old new status front line → h ≡ Bytes held → Accepts held program → (read_failed → ⊥) → (status ≡ 5 → sunk) → (sunk → ⊥) → (status ≡ 7 → ⊥) → IsOwnOrMemory status
complete h held program read_failed sunk steps old new _ _ _ (read {bytes} {status} {front} {line} r s) e a calm cause never full =
    let same : bytes ≡ held = all_read held bytes program a (subst (λ h. ReadOf h bytes) e r) in
    source_ends held program sunk steps old new status front line a (subst (λ b. RunsSource b steps old new status front line) same s) cause never full
complete h held program read_failed sunk steps old new _ _ _ (missing m k) e a calm cause never full = absurd (subst NotHeld e m)
complete h held program read_failed sunk steps old new _ _ _ (failed f k) e a calm cause never full = absurd (calm f)
complete h held program read_failed sunk steps old new _ _ _ (run.Runs.out_of_memory k) e a calm cause never full = inr (inr (inr refl))
