-- Tokens that pass a limit: no node is higher than 64, and no more than 64 things are open at once.
use Rattle.std.specs.Prelude.{◌≡◌, ℕ, List}
use Rattle.rb_tree.specs.declared.span.Span.{Span}
use Rattle.rb_lexer.specs.declared.token.Token.{Token}
use Rattle.rb_grammar.specs.Tree.{Items, no_items}
use Rattle.rb_grammar.specs.Scope.{top_level}
use Rattle.rb_grammar.specs.Phrase.{items}
use Rattle.rb_grammar.specs.Nesting.{TooNestedAt}
use Rattle.rb_grammar.specs.Script.{IsScript}
use Rattle.rb_grammar.specs.Program.{max_height, max_levels}

-- reading a script comes to where a limit is passed at this place, and no script within the limits is spelled
pub record PassesLimits (tokens : List Token) (at : ℕ) : Type 0 where
  pub place : Span
  pub from : at ≡ place.from
  pub passes : TooNestedAt max_height max_levels (items no_items) top_level tokens place
  pub none : (found : Items) → IsScript max_height max_levels tokens found → ⊥
