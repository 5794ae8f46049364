-- What follows where a token that was asked for may stand, or not.
use Rattle.std.proofs.Common.{◌≡◌, ℕ, true, false, Option, Some, None, Ok}
use Rattle.std.specs.Prelude.{MatchOption}
use Rattle.rb_lexer.specs.declared.token.Token.{Token}
use Rattle.rb_grammar.specs.Look.{Test, end}
use Rattle.rb_grammar.specs.Rule.{done, token, either, next_meets}
use Rattle.rb_cursor.specs.State.{State, Took}
use Rattle.rb_cursor.proofs.Steps.{Follows, stops, first_token, second_token, where_it_stood}

-- a token that is left out as well as taken
pub taken_or_not : {A B R : Type 0} {Is : B → A → Type 0} (levels : ℕ) (test : Test) (a : A) (b : B) (of : R → Token) (s new : State) (r : Option R)
    → test end true ≡ false → Is b a → MatchOption r ((next_meets test s.rest ≡ false) × (new ≡ s)) (λ t. Took test s new (of t))
    → Follows Is levels (either (token test (λ t. done a)) (done a)) s new (Ok b)
taken_or_not levels test a b of s new None e same (missing, stood) = second_token e missing (where_it_stood stood (stops same))
taken_or_not levels test a b of s new (Some t) e same took = first_token e took (stops same)
