-- The reader on lists: it goes from token to token, and takes of two rules the first that the next token may begin, as one
-- reads a grammar of the class LL(1).
use Rattle.std.specs.Prelude.{ℕ, zero, suc, Bool, true, false, ◌&&◌, ◌||◌, nat_le, ◌+◌, ◌*◌, List, [], ◌∷◌, length}
use Rattle.rb_tree.specs.declared.span.Span.{Span}
use Rattle.rb_lexer.specs.declared.token.Token.{Token}
use Rattle.rb_grammar.specs.Look.{Class, Test, class_of, is}
use Rattle.rb_grammar.specs.Look as c
use Rattle.rb_grammar.specs.Tree.{Items, no_items}
use Rattle.rb_grammar.specs.Scope.{Scope, is_local, top_level}
use Rattle.rb_grammar.specs.Phrase.{Phrase, Value}
use Rattle.rb_grammar.specs.Phrase as p
use Rattle.rb_grammar.specs.Rule.{Rule, done, refuse, token, phrase, nested, built, either, look, pick, known, touching, ahead, scope, next_meets, next_touches, arguments_follow}
use Rattle.rb_grammar.specs.Grammar.{rule}
use Rattle.rb_grammar.specs.Heads.{begins}

-- What reading comes to. A flag says whether the reader has looked behind the next token, as it does at a spaced minus that
-- may begin the arguments of a command.
pub data Outcome (A : Type 0) : Type 0 where
  read : A → Scope → Bool → List Token → Outcome A
  -- the tokens that are left, from the one that is refused on
  refused : List Token → Outcome A
  -- the limits are passed at this place
  too_nested : Span → Outcome A
  -- out of turns
  spent : Outcome A

abbrev pub Reader : Type 0 → Type 0
Reader A = Scope → Bool → List Token → Outcome A

abbrev pub and_then : {A B : Type 0} → Outcome A → (A → Reader B) → Outcome B
and_then (read a s seen ts) f = f a s seen ts
and_then (refused ts) f = refused ts
and_then (too_nested at) f = too_nested at
and_then spent f = spent

-- by a condition; what is not chosen is not computed
abbrev pub when : {A : Type 0} → Bool → (Unit {0} → A) → (Unit {0} → A) → A
when true f g = f tt
when false f g = g tt

-- a refusal is told at the next token, and where the reader has looked behind it at the one behind: the last that it has looked at
abbrev pub from_refused : Bool → List Token → List Token
from_refused true (t ∷ ts) = ts
from_refused seen ts = ts

-- whether the next token is one behind which the reader looks for the arguments of a command
abbrev pub is_looked_behind : List Token → Bool
is_looked_behind = next_meets (λ class spaced. spaced && is c.minus class spaced)

abbrev pub Reading : Type 0
Reading = (n : Phrase) → Reader (Value n)

module _ (limit : ℕ) (inner : ℕ → Reading) (levels : ℕ) where
  -- inside what opens, where it may
  abbrev pub nest : {A : Type 0} → Span → ℕ → (ℕ → Outcome A) → Outcome A
  nest at zero f = too_nested at
  nest at (suc left) f = f left

  abbrev pub run : {A : Type 0} → Rule A → Reader A
  run (done a) s seen ts = read a s seen ts
  run refuse s seen ts = refused (from_refused seen ts)
  run (token test k) s seen [] = refused []
  run (token test k) s seen (t ∷ ts) = when (test (class_of t.kind) t.spaced) (λ u. run (k t) s false ts) (λ u. refused (from_refused seen (t ∷ ts)))
  run (phrase n k) s seen ts = and_then (inner levels n s seen ts) (λ v. run (k v))
  run (nested at n k) s seen ts = nest at levels (λ left. and_then (inner left n s seen ts) (λ v. run (k v)))
  run (built a r) s seen ts = when (nat_le a.height limit) (λ u. run r s seen ts) (λ u. too_nested a.at)
  run (either q r) s seen ts = when (begins q ts) (λ u. run q s seen ts) (λ u. run r s seen ts)
  run (look test r) s seen ts = when (next_meets test ts) (λ u. run r s seen ts) (λ u. refused (from_refused seen ts))
  run (pick b q r) s seen ts = when b (λ u. run q s seen ts) (λ u. run r s seen ts)
  run (known text q r) s seen ts = when (is_local text s) (λ u. run q s seen ts) (λ u. run r s seen ts)
  run (touching place q r) s seen ts = when (next_touches place ts) (λ u. run q s seen ts) (λ u. run r s seen ts)
  run (ahead q r) s seen ts =
      when (arguments_follow ts) (λ u. run q s (is_looked_behind ts || seen) ts) (λ u. run r s (is_looked_behind ts || seen) ts)
  run (scope f r) s seen ts = run r (f s) seen ts

-- reading a phrase in so many turns: each phrase in another takes one
abbrev pub reading : ℕ → ℕ → ℕ → Reading
reading limit zero levels n s seen ts = spent
reading limit (suc turns) levels n s seen ts = run limit (reading limit turns) levels (rule n) s seen ts

-- reading a script in so many turns
abbrev pub reading_script : ℕ → ℕ → ℕ → List Token → Outcome Items
reading_script limit turns levels = reading limit turns levels (p.items no_items) top_level false

-- an answer other than that the turns are spent
abbrev pub Settled : {A : Type 0} → Outcome A → Type 0
Settled spent = ⊥
Settled other = Unit {0}

-- Turns enough for a script: at one place, so many phrases at the most begin in one another.
abbrev pub turns_for : List Token → ℕ
turns_for ts = 19 * (length ts + 1)

-- reading a phrase in turns enough
unfoldable pub answer : ℕ → ℕ → Reading
answer limit levels n s seen ts = reading limit (turns_for ts) levels n s seen ts

-- reading a script
abbrev pub read_script : ℕ → ℕ → List Token → Outcome Items
read_script limit levels ts = reading_script limit (turns_for ts) levels ts
