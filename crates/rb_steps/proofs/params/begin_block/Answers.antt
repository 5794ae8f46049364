use Rattle.std.proofs.Common.{ap, ◌∙◌, arith, length}
use Rattle.std.specs.Prelude.{map}
use Rattle.rb_grammar.specs.Scope.{with_params}
use Rattle.rb_cursor.specs.State.{State}
use Rattle.rb_cursor.specs.Word.{word_by}
use Rattle.rb_cursor.proofs.Steps.{through}
use Rattle.rb_steps.proofs.Parameters.{inside_block, left_of_block, handed_block, wanted_memory}
use Rattle.rb_steps.proofs.params.begin_block.Goals as goal

pub returns-in_err-enter_block-clause-went : goal.returns-in_err-enter_block-clause-went
returns-in_err-enter_block-clause-went c = λ levels in_braces at.
    handed_block levels in_braces at c.args.cursor.now c.enter_block.new.self c.from_residual.result c.from_residual.ensures.1
    (wanted_memory c.in_err-enter_block.ensures.memory)

pub returns-in_err-params-clause-went : goal.returns-in_err-params-clause-went
returns-in_err-params-clause-went c = λ levels in_braces at.
    handed_block levels in_braces at c.args.cursor.now c.bar_params.new.cursor c.from_residual-in_err-params.result c.from_residual-in_err-params.ensures.1
    (through (inside_block levels in_braces at c.args.cursor.now c.enter_block.new.self c.in_ok-enter_block.ensures.ok) (c.in_err-params.ensures.went levels in_braces at))

pub returns-in_err-add_params-clause-went : goal.returns-in_err-add_params-clause-went
returns-in_err-add_params-clause-went c = λ levels in_braces at.
    handed_block levels in_braces at c.args.cursor.now c.add_params.new.cursor c.from_residual-in_err-add_params.result c.from_residual-in_err-add_params.ensures.1
    (wanted_memory c.in_err-add_params.ensures.memory)

pub returns-clause-went : goal.returns-clause-went
returns-clause-went c = λ levels in_braces at.
    inside_block levels in_braces at c.args.cursor.now c.enter_block.new.self c.in_ok-enter_block.ensures.ok
    ∙ c.in_ok-params.ensures.went levels in_braces at
    ∙ left_of_block levels in_braces at (map word_by c.in_ok-params.params) c.bar_params.new.cursor c.add_params.new.cursor
    (c.in_ok-add_params.ensures.ok ∙ ap (λ ws. record c.bar_params.new.cursor { scope = with_params (map word_by ws) c.bar_params.new.cursor.scope }) c.as_slice.ensures)

pub returns-clause-shorter : goal.returns-clause-shorter
returns-clause-shorter c =
    let last = ap (λ (s : State). length s.rest) c.in_ok-add_params.ensures.ok in
    let entered = ap (λ (s : State). length s.rest) c.in_ok-enter_block.ensures.ok in
    omega (arith, last, entered, c.in_ok-params.ensures.shorter)
