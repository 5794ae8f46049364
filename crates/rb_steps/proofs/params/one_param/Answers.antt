use Rattle.std.proofs.Common.{[], ◌∷◌, ◌++◌, sym, ap, ◌∙◌}
use Rattle.std.specs.Prelude.{map}
use Rattle.rb_cursor.specs.State.{memory}
use Rattle.rb_cursor.specs.Here.{at_rule}
use Rattle.rb_cursor.specs.Word.{word_by}
use Rattle.rb_cursor.proofs.Steps.{takes, misses, over}
use Rattle.rb_steps.specs.Within.{one_in_brackets, behind_name, behind_params}
use Rattle.rb_steps.proofs.Parameters.{stays, leads_there, fails_there, handed_to, nests, nests_fails, nests_none}
use Rattle.rb_steps.proofs.params.one_param.Goals as goal

pub returns-in_err-open-clause-went : goal.returns-in_err-open-clause-went
returns-in_err-open-clause-went c = λ named.
    handed_to c.args.levels (one_in_brackets named) (behind_params named) c.args.cursor.now c.expect.new.self c.from_residual.result c.from_residual.ensures.1
    (fails_there c.args.levels (one_in_brackets named) c.args.cursor.now (misses c.in_err-open.ensures.took))

pub returns-in_err-open_at-clause-went : goal.returns-in_err-open_at-clause-went
returns-in_err-open_at-clause-went c = λ named.
    handed_to c.args.levels (one_in_brackets named) (behind_params named) c.args.cursor.now c.expect.new.self c.from_residual-in_err-open_at.result c.from_residual-in_err-open_at.ensures.1
    (fails_there c.args.levels (one_in_brackets named) c.args.cursor.now (takes c.in_ok-open.ensures.took (nests_none c.in_err-open_at.ensures)))

pub returns-in_err-word-clause-went : goal.returns-in_err-word-clause-went
returns-in_err-word-clause-went c = λ named.
    handed_to c.args.levels (one_in_brackets named) (behind_params named) c.args.cursor.now c.one_param.new.self c.from_residual-in_err-word.result c.from_residual-in_err-word.ensures.1
    (fails_there c.args.levels (one_in_brackets named) c.args.cursor.now (takes c.in_ok-open.ensures.took (nests_fails c.in_ok-open_at.ensures (c.in_err-word.ensures.came c.in_ok-open_at.field-0))))

pub returns-in_err-push-clause-went : goal.returns-in_err-push-clause-went
returns-in_err-push-clause-went c = λ named.
    handed_to c.args.levels (one_in_brackets named) (behind_params named) c.args.cursor.now c.one_param.new.self c.from_residual-in_err-push.result c.from_residual-in_err-push.ensures.1 memory

pub returns-clause-went : goal.returns-clause-went
returns-clause-went c = λ named.
    let part = c.in_ok-word.ensures.came c.in_ok-open_at.field-0 in
    let words = sym (ap (map word_by) (c.in_ok-push.ensures.ok ∙ ap (λ x. x ++ c.in_ok-word.word ∷ []) c.new-params.ensures) ∙ ap (λ v. v ∷ []) part.same) in
    leads_there c.args.levels (one_in_brackets named) c.args.cursor.now (at_rule c.args.levels (behind_name named (part.value ∷ [])) c.one_param.new.self)
    (over c.in_ok-open.ensures.took (nests c.one_param.new.self part.value c.in_ok-open_at.ensures part.reads (stays c.args.levels (behind_name named (part.value ∷ [])) c.one_param.new.self)))
    ∙ ap (λ ws. at_rule c.args.levels (behind_name named ws) c.one_param.new.self) words
