-- Whole scripts: which tokens spell one, and tokens that begin none.
use Rattle.std.specs.Prelude.{◌≡◌, ℕ, List, [], ◌∷◌, ◌++◌}
use Rattle.rb_lexer.specs.declared.token.Token.{Token}
use Rattle.rb_grammar.specs.Tree.{Items, no_items}
use Rattle.rb_grammar.specs.Scope.{Scope, top_level}
use Rattle.rb_grammar.specs.Phrase as p
use Rattle.rb_grammar.specs.Grammar.{spelled}

-- the tokens spell these items: no node that is built is higher than limit, and no more than levels are open at once
pub record IsScript (limit levels : ℕ) (tokens : List Token) (found : Items) : Type 0 where
  pub depth : ℕ
  pub scopes : Scope
  pub spells : spelled limit depth levels (p.items no_items) top_level tokens found scopes []

-- a token stands at this place, and no script, however high or deep, begins with the tokens up to and including it
pub record BeginsNone (tokens : List Token) (at : ℕ) : Type 0 where
  pub front : List Token
  pub token : Token
  pub post : List Token
  pub split : tokens ≡ front ++ token ∷ post
  pub place : token.at.from ≡ at
  pub none : (limit levels : ℕ) (other : List Token) (found : Items) → IsScript limit levels (front ++ token ∷ other) found → ⊥
