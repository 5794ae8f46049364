use Rattle.std.proofs.Common.{refl}
use Rattle.rb_grammar.specs.Look.{is, then_word}
use Rattle.rb_grammar.specs.Phrase as p
use Rattle.rb_grammar.specs.Grammar.{rule}
use Rattle.rb_cursor.proofs.Steps.{at_phrase, fails_at, handed_on, takes, misses, stops, first_token, second_token, where_it_stood}
use Rattle.rb_steps.proofs.Choosing.{taken_or_not}
use Rattle.rb_steps.proofs.lines.take_then.Goals as goal

pub returns-in-Some : goal.returns-in-Some
unfolding rule
returns-in-Some c = record {
  came = λ levels. at_phrase levels p.then (first_token refl c.in-Some.ensures.taken (stops tt));
}

pub returns-in_err-expect : goal.returns-in_err-expect
unfolding rule
returns-in_err-expect c = record {
  came = λ levels.
      handed_on _ _ c.from_residual.result c.from_residual.ensures.1
      (fails_at levels p.then (second_token refl c.in_default.ensures.taken.0 (where_it_stood c.in_default.ensures.taken.1 (misses c.in_err-expect.ensures.took))));
}

pub returns : goal.returns
unfolding rule
returns c = record {
  came = λ levels.
      at_phrase levels p.then
      (second_token refl c.in_default.ensures.taken.0 (where_it_stood c.in_default.ensures.taken.1 (takes c.in_ok-expect.ensures.took
      (taken_or_not levels (is then_word) tt tt (λ t. t.now) c.expect.new.self c.accept-2.new.self c.accept-2.result refl tt c.accept-2.ensures.taken))));
}
