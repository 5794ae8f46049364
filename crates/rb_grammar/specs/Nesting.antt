-- How a rule comes to where a limit is passed: what is open at a place, and which node is built.
use Rattle.std.specs.Prelude.{◌≡◌, ℕ, zero, suc, ◌≤◌, true, false, List, ◌∷◌}
use Rattle.rb_tree.specs.declared.span.Span.{Span}
use Rattle.rb_lexer.specs.declared.token.Token.{Token}
use Rattle.rb_grammar.specs.Look.{Test, class_of}
use Rattle.rb_grammar.specs.Tree.{Text, Tree}
use Rattle.rb_grammar.specs.Scope.{Scope, is_local}
use Rattle.rb_grammar.specs.Phrase.{Phrase, Value}
use Rattle.rb_grammar.specs.Rule.{Rule, token, phrase, nested, built, either, look, pick, known, touching, ahead, scope, next_meets, next_touches, arguments_follow, Spelling}
use Rattle.rb_grammar.specs.Grammar.{rule, spelled}

-- something opens at the place of a token, or a node is built
pub data Event : Type 0 where
  opens_at : Span → Event
  builds_node : Tree → Event

-- a way from these scopes and tokens through the beginning of a phrase to an event, with so many things open there
abbrev pub Reaching : Type 1
Reaching = Phrase → Scope → List Token → ℕ → Event → Type 0

-- The way of a rule: through tokens and whole phrases within the limits, and last into one that is not whole.
module _ (limit : ℕ) (inner : ℕ → Spelling) (reach : ℕ → Reaching) (levels : ℕ) where
  pub data Reaches {A : Type 0} : Rule A → Scope → List Token → ℕ → Event → Type 0 where
    -- what opens here counts too
    comes_to_open : {at : Span} {m : Phrase} {k : Value m → Rule A} {s : Scope} {ts : List Token} → Reaches (nested at m k) s ts 1 (opens_at at)
    comes_to_build : {b : Tree} {r : Rule A} {s : Scope} {ts : List Token} → Reaches (built b r) s ts 0 (builds_node b)
    takes : {test : Test} {k : Token → Rule A} {s : Scope} {t : Token} {ts : List Token} {n : ℕ} {e : Event}
        → test (class_of t.kind) t.spaced ≡ true → Reaches (k t) s ts n e → Reaches (token test k) s (t ∷ ts) n e
    within : {m : Phrase} {k : Value m → Rule A} {s : Scope} {ts : List Token} {n : ℕ} {e : Event}
        → reach levels m s ts n e → Reaches (phrase m k) s ts n e
    behind : {m : Phrase} {k : Value m → Rule A} {s s1 : Scope} {ts us : List Token} {v : Value m} {n : ℕ} {e : Event}
        → inner levels m s ts v s1 us → Reaches (k v) s1 us n e → Reaches (phrase m k) s ts n e
    within_open : {at : Span} {m : Phrase} {k : Value m → Rule A} {s : Scope} {ts : List Token} {n left : ℕ} {e : Event}
        → levels ≡ suc left → reach left m s ts n e → Reaches (nested at m k) s ts (suc n) e
    behind_open : {at : Span} {m : Phrase} {k : Value m → Rule A} {s s1 : Scope} {ts us : List Token} {v : Value m} {n left : ℕ} {e : Event}
        → levels ≡ suc left → inner left m s ts v s1 us → Reaches (k v) s1 us n e → Reaches (nested at m k) s ts n e
    builds : {b : Tree} {r : Rule A} {s : Scope} {ts : List Token} {n : ℕ} {e : Event} → b.height ≤ limit → Reaches r s ts n e → Reaches (built b r) s ts n e
    first : {q r : Rule A} {s : Scope} {ts : List Token} {n : ℕ} {e : Event} → Reaches q s ts n e → Reaches (either q r) s ts n e
    second : {q r : Rule A} {s : Scope} {ts : List Token} {n : ℕ} {e : Event} → Reaches r s ts n e → Reaches (either q r) s ts n e
    looks : {test : Test} {r : Rule A} {s : Scope} {ts : List Token} {n : ℕ} {e : Event} → next_meets test ts ≡ true → Reaches r s ts n e → Reaches (look test r) s ts n e
    picks : {q r : Rule A} {s : Scope} {ts : List Token} {n : ℕ} {e : Event} → Reaches q s ts n e → Reaches (pick true q r) s ts n e
    picks_not : {q r : Rule A} {s : Scope} {ts : List Token} {n : ℕ} {e : Event} → Reaches r s ts n e → Reaches (pick false q r) s ts n e
    knows : {text : Text} {q r : Rule A} {s : Scope} {ts : List Token} {n : ℕ} {e : Event} → is_local text s ≡ true → Reaches q s ts n e → Reaches (known text q r) s ts n e
    knows_not : {text : Text} {q r : Rule A} {s : Scope} {ts : List Token} {n : ℕ} {e : Event} → is_local text s ≡ false → Reaches r s ts n e → Reaches (known text q r) s ts n e
    touches : {place : Span} {q r : Rule A} {s : Scope} {ts : List Token} {n : ℕ} {e : Event} → next_touches place ts ≡ true → Reaches q s ts n e → Reaches (touching place q r) s ts n e
    touches_not : {place : Span} {q r : Rule A} {s : Scope} {ts : List Token} {n : ℕ} {e : Event} → next_touches place ts ≡ false → Reaches r s ts n e → Reaches (touching place q r) s ts n e
    commands : {q r : Rule A} {s : Scope} {ts : List Token} {n : ℕ} {e : Event} → arguments_follow ts ≡ true → Reaches q s ts n e → Reaches (ahead q r) s ts n e
    commands_not : {q r : Rule A} {s : Scope} {ts : List Token} {n : ℕ} {e : Event} → arguments_follow ts ≡ false → Reaches r s ts n e → Reaches (ahead q r) s ts n e
    changes : {f : Scope → Scope} {r : Rule A} {s : Scope} {ts : List Token} {n : ℕ} {e : Event} → Reaches r (f s) ts n e → Reaches (scope f r) s ts n e

-- by a way that goes at most so deep
abbrev pub reached : ℕ → ℕ → ℕ → Reaching
reached limit zero levels m s ts n e = ⊥
reached limit (suc depth) levels m s ts n e = Reaches limit (spelled limit depth) (reached limit depth) levels (rule m) s ts n e

-- an event passes a limit at this place: one more than levels are open, or a node one higher than limit is built
pub data Passes (limit levels : ℕ) (at : Span) : ℕ → Event → Type 0 where
  too_many_open : Passes limit levels at (suc levels) (opens_at at)
  too_high : {n : ℕ} (b : Tree) → b.height ≡ suc limit → b.at ≡ at → Passes limit levels at n (builds_node b)

-- reading a phrase comes to an event that passes a limit at this place
pub record TooNestedAt (limit levels : ℕ) (m : Phrase) (s : Scope) (ts : List Token) (at : Span) : Type 0 where
  pub depth : ℕ
  pub count : ℕ
  pub event : Event
  pub way : reached limit depth levels m s ts count event
  pub passes : Passes limit levels at count event
