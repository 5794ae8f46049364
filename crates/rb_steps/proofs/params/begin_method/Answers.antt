use Rattle.std.proofs.Common.{ap, ◌∙◌, arith, length}
use Rattle.std.specs.Prelude.{map}
use Rattle.rb_grammar.specs.Look.{one_of}
use Rattle.rb_grammar.specs.Scope.{with_params}
use Rattle.rb_grammar.specs.Phrase as p
use Rattle.rb_grammar.specs.Grammar.{rule, identifiers}
use Rattle.rb_cursor.specs.State.{State}
use Rattle.rb_cursor.specs.Word.{word_by}
use Rattle.rb_cursor.proofs.Steps.{through, fails_at, misses}
use Rattle.rb_steps.specs.Within.{name_of}
use Rattle.rb_steps.proofs.Parameters.{behind_the_name, left_of_method, handed_method, took_shorter, wanted_memory}
use Rattle.rb_steps.proofs.params.begin_method.Goals as goal

pub returns-in_err-name : goal.returns-in_err-name
unfolding rule
returns-in_err-name c = record {
  went = handed_method c.args.levels c.args.cursor.now c.expect_identifier.new.cursor c.from_residual.result c.from_residual.ensures.1
      (fails_at c.args.levels p.method_rest (misses c.in_err-name.ensures.word));
}

pub returns-in_err-enter_method : goal.returns-in_err-enter_method
returns-in_err-enter_method c = record {
  went = handed_method c.args.levels c.args.cursor.now c.enter_method.new.self c.from_residual-in_err-enter_method.result c.from_residual-in_err-enter_method.ensures.1
      (wanted_memory c.in_err-enter_method.ensures.memory);
}

pub returns-in_err-head : goal.returns-in_err-head
returns-in_err-head c = record {
  went = handed_method c.args.levels c.args.cursor.now c.head_of.new.cursor c.from_residual-in_err-head.result c.from_residual-in_err-head.ensures.1
      (through (behind_the_name c.args.levels c.args.cursor.now c.expect_identifier.new.cursor c.enter_method.new.self c.in_ok-name.name c.in_ok-name.ensures.word c.in_ok-enter_method.ensures.ok)
      (c.in_err-head.ensures.went c.in_ok-name.ensures.word.token c.in_ok-name.ensures.word.word));
}

pub returns-in_err-add_params : goal.returns-in_err-add_params
returns-in_err-add_params c = record {
  went = handed_method c.args.levels c.args.cursor.now c.add_params.new.cursor c.from_residual-in_err-add_params.result c.from_residual-in_err-add_params.ensures.1
      (wanted_memory c.in_err-add_params.ensures.memory);
}

pub returns : goal.returns
returns c = record {
  went = record {
    comes =
        behind_the_name c.args.levels c.args.cursor.now c.expect_identifier.new.cursor c.enter_method.new.self c.in_ok-name.name c.in_ok-name.ensures.word c.in_ok-enter_method.ensures.ok
        ∙ c.in_ok-head.ensures.went c.in_ok-name.ensures.word.token c.in_ok-name.ensures.word.word
        ∙ left_of_method c.args.levels (name_of c.in_ok-head.head) (map word_by c.in_ok-head.head.params) c.head_of.new.cursor c.add_params.new.cursor
        (c.in_ok-add_params.ensures.ok ∙ ap (λ ws. record c.head_of.new.cursor { scope = with_params (map word_by ws) c.head_of.new.cursor.scope }) c.as_slice.ensures);
    shorter =
        let last = ap (λ (s : State). length s.rest) c.in_ok-add_params.ensures.ok in
        let entered = ap (λ (s : State). length s.rest) c.in_ok-enter_method.ensures.ok in
        let took = took_shorter (one_of identifiers) c.args.cursor.now c.expect_identifier.new.cursor c.in_ok-name.ensures.word.token c.in_ok-name.ensures.word.took in
        omega (arith, last, entered, took, c.in_ok-head.ensures.shorter);
  };
}
