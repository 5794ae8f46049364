-- What is spelled within some limits is spelled within wider ones.
use Rattle.std.proofs.Common.{◌≡◌, ℕ, zero, suc, ◌≤◌, List, [], refl, arith}
use Rattle.rb_lexer.specs.declared.token.Token.{Token}
use Rattle.rb_grammar.specs.Tree.{Items, no_items}
use Rattle.rb_grammar.specs.Scope.{Scope, top_level}
use Rattle.rb_grammar.specs.Phrase.{Phrase, Value}
use Rattle.rb_grammar.specs.Phrase as p
use Rattle.rb_grammar.specs.Rule.{Rule, Spelling, Spells}
use Rattle.rb_grammar.specs.Rule as l
use Rattle.rb_grammar.specs.Grammar.{spelled}
use Rattle.rb_grammar.specs.Script.{IsScript}

-- what is left of more levels is more
pub record Left (left levels : ℕ) : Type 0 where
  pub left' : ℕ
  pub is : levels ≡ suc left'
  pub wide : left ≤ left'

left_wider : (left levels levels' : ℕ) → levels ≡ suc left → levels ≤ levels' → Left left levels'
left_wider left levels zero e wide = absurd (omega arith)
left_wider left levels (suc left') e wide = record { left' = left'; is = refl; wide = omega arith }

module _ (limit limit' : ℕ) (high : limit ≤ limit') (inner inner' : ℕ → Spelling)
    (wider : (l l' : ℕ) → l ≤ l' → (n : Phrase) (s : Scope) (ts : List Token) (v : Value n) (s' : Scope) (us : List Token)
    → inner l n s ts v s' us → inner' l' n s ts v s' us)
    (levels levels' : ℕ) (wide : levels ≤ levels') where
  -- a rule spells within wider limits what it spells, where the phrases in it do
  pub spells_wider : {A : Type 0} {r : Rule A} {s : Scope} {ts : List Token} {a : A} {s' : Scope} {us : List Token}
      → Spells limit inner levels r s ts a s' us → Spells limit' inner' levels' r s ts a s' us
  spells_wider l.stops = l.stops
  spells_wider (l.takes met d) = l.takes met (spells_wider d)
  spells_wider (l.holds i d) = l.holds (wider levels levels' wide _ _ _ _ _ _ i) (spells_wider d)
  spells_wider (l.opens {left = left} e i d) =
      let w = left_wider left levels levels' e wide in
      l.opens w.is (wider left w.left' w.wide _ _ _ _ _ _ i) (spells_wider d)
  spells_wider (l.builds low d) = l.builds (omega arith) (spells_wider d)
  spells_wider (l.first d) = l.first (spells_wider d)
  spells_wider (l.second d) = l.second (spells_wider d)
  spells_wider (l.looks met d) = l.looks met (spells_wider d)
  spells_wider (l.picks d) = l.picks (spells_wider d)
  spells_wider (l.picks_not d) = l.picks_not (spells_wider d)
  spells_wider (l.knows is d) = l.knows is (spells_wider d)
  spells_wider (l.touches is d) = l.touches is (spells_wider d)
  spells_wider (l.knows_not is d) = l.knows_not is (spells_wider d)
  spells_wider (l.touches_not is d) = l.touches_not is (spells_wider d)
  spells_wider (l.commands follow d) = l.commands follow (spells_wider d)
  spells_wider (l.commands_not follow d) = l.commands_not follow (spells_wider d)
  spells_wider (l.changes d) = l.changes (spells_wider d)

-- what a phrase spells within some limits, it spells within wider ones
pub spelled_wider : (limit limit' depth depth' levels levels' : ℕ) → limit ≤ limit' → depth ≤ depth' → levels ≤ levels'
    → (n : Phrase) (s : Scope) (ts : List Token) (v : Value n) (s' : Scope) (us : List Token)
    → spelled limit depth levels n s ts v s' us → spelled limit' depth' levels' n s ts v s' us
spelled_wider limit limit' zero depth' levels levels' high deep wide n s ts v s' us d = absurd d
spelled_wider limit limit' (suc depth) zero levels levels' high deep wide n s ts v s' us d = absurd (omega arith)
spelled_wider limit limit' (suc depth) (suc depth') levels levels' high deep wide n s ts v s' us d =
    spells_wider limit limit' high (spelled limit depth) (spelled limit' depth') (λ l l' w. spelled_wider limit limit' depth depth' l l' high (omega arith) w)
    levels levels' wide d

-- a script within some limits is one within wider ones
pub script_wider : (limit limit' levels levels' : ℕ) → limit ≤ limit' → levels ≤ levels' → (tokens : List Token) (found : Items)
    → IsScript limit levels tokens found → IsScript limit' levels' tokens found
script_wider limit limit' levels levels' high wide tokens found d =
    record {
      depth = d.depth;
      scopes = d.scopes;
      spells = spelled_wider limit limit' d.depth d.depth levels levels' high (omega arith) wide (p.items no_items) top_level tokens found d.scopes [] d.spells;
    }
