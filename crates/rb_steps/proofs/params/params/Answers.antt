use Rattle.std.proofs.Common.{[], refl, sym, ap, ◌∙◌}
use Rattle.rb_grammar.specs.Look.{is, open_paren}
use Rattle.rb_grammar.specs.Rule.{next_meets}
use Rattle.rb_cursor.specs.State.{State}
use Rattle.rb_cursor.specs.Here.{at_rule}
use Rattle.rb_cursor.proofs.Steps.{first_token, to_second_token, from_where_it_stood}
use Rattle.rb_steps.specs.Within.{some_in_brackets, behind_name, behind_params}
use Rattle.rb_steps.proofs.Parameters.{leads_there, fails_there, handed_to, nests_none, without_brackets, in_brackets}
use Rattle.rb_steps.proofs.params.params.Goals as goal

pub returns-in_default-clause-went : goal.returns-in_default-clause-went
returns-in_default-clause-went c = λ named.
    leads_there c.args.levels (some_in_brackets named) c.args.cursor.now (at_rule c.args.levels (behind_name named []) c.accept.new.self)
    (to_second_token refl c.in_default.ensures.taken.0 (from_where_it_stood c.in_default.ensures.taken.1
    (without_brackets c.args.levels named c.accept.new.self (ap (λ (s : State). next_meets (is open_paren) s.rest) c.in_default.ensures.taken.1 ∙ c.in_default.ensures.taken.0))))
    ∙ ap (λ ws. at_rule c.args.levels (behind_params named ws) c.accept.new.self) (sym c.new.ensures)

pub returns-in_err-open_at-clause-went : goal.returns-in_err-open_at-clause-went
returns-in_err-open_at-clause-went c = λ named.
    handed_to c.args.levels (some_in_brackets named) (behind_params named) c.args.cursor.now c.accept.new.self c.from_residual.result c.from_residual.ensures.1
    (fails_there c.args.levels (some_in_brackets named) c.args.cursor.now (first_token refl c.in-Some.ensures.taken (nests_none c.in_err-open_at.ensures)))

pub returns-clause-went : goal.returns-clause-went
returns-clause-went c = λ named.
    in_brackets c.args.levels c.in_ok-open_at.field-0 named c.args.cursor.now c.accept.new.self c.params.new.self c.in-Some.open.now c.params.result
    c.in-Some.ensures.taken c.in_ok-open_at.ensures (c.params.ensures.came c.in_ok-open_at.field-0)
