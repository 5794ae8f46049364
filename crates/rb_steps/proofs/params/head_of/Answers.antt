use Rattle.std.proofs.Common.{refl, sym, ap, ◌∙◌}
use Rattle.rb_grammar.specs.Tree.{given, setter_of}
use Rattle.rb_grammar.specs.Grammar.{method_named, setter, word_of}
use Rattle.rb_cursor.specs.Here.{at_rule}
use Rattle.rb_cursor.proofs.Steps.{first_token, second_token, where_it_stood, to_first_token, to_second_token, from_where_it_stood}
use Rattle.rb_steps.specs.Within.{behind_params, behind_head}
use Rattle.rb_steps.proofs.Parameters.{leads_there, fails_there, handed_to}
use Rattle.rb_steps.proofs.params.head_of.Goals as goal

pub returns-in_err-params-clause-went : goal.returns-in_err-params-clause-went
returns-in_err-params-clause-went c = λ t same.
    handed_to c.args.levels (method_named t) behind_head c.args.cursor.now c.one_param.new.cursor c.from_residual.result c.from_residual.ensures.1
    (fails_there c.args.levels (method_named t) c.args.cursor.now (first_token refl c.in-Some.ensures.taken (record { came = c.in_err-params.ensures.went (setter t) })))

pub returns-in-Some-clause-went : goal.returns-in-Some-clause-went
returns-in-Some-clause-went c = λ t same.
    leads_there c.args.levels (method_named t) c.args.cursor.now (at_rule c.args.levels (behind_params (setter t) c.in_ok-params.params) c.one_param.new.cursor)
    (to_first_token refl c.in-Some.ensures.taken (record { comes = c.in_ok-params.ensures.went (setter t) }))
    ∙ ap (λ w. at_rule c.args.levels (behind_params (given (setter_of w.text) w.at) c.in_ok-params.params) c.one_param.new.cursor) (sym same)

pub returns-in_err-params-2-clause-went : goal.returns-in_err-params-2-clause-went
returns-in_err-params-2-clause-went c = λ t same.
    handed_to c.args.levels (method_named t) behind_head c.args.cursor.now c.params.new.cursor c.from_residual-in_err-params-2.result c.from_residual-in_err-params-2.ensures.1
    (fails_there c.args.levels (method_named t) c.args.cursor.now (second_token refl c.in_default.ensures.taken.0 (where_it_stood c.in_default.ensures.taken.1 (record { came = c.in_err-params-2.ensures.went (word_of t) }))))

pub returns-clause-went : goal.returns-clause-went
returns-clause-went c = λ t same.
    leads_there c.args.levels (method_named t) c.args.cursor.now (at_rule c.args.levels (behind_params (word_of t) c.in_ok-params-2.params) c.params.new.cursor)
    (to_second_token refl c.in_default.ensures.taken.0 (from_where_it_stood c.in_default.ensures.taken.1 (record { comes = c.in_ok-params-2.ensures.went (word_of t) })))
    ∙ ap (λ w. at_rule c.args.levels (behind_params w c.in_ok-params-2.params) c.params.new.cursor) (sym same)
