use Rattle.std.proofs.Common.{refl, sym, ap, ◌∙◌, subst}
use Rattle.rb_grammar.specs.Look as look
use Rattle.rb_grammar.specs.Phrase as p
use Rattle.rb_grammar.specs.Grammar.{is_one, finished, made, as_value, operator_name, going_on}
use Rattle.rb_grammar.specs.Grammar as grammar
use Rattle.rb_builder.specs.Operand.{IsPart}
use Rattle.rb_phrases.proofs.Outside as out
use Rattle.rb_builder.specs.Walk.{Walk}
use Rattle.rb_builder.specs.Operand.{IsTarget}
use Rattle.rb_phrases.specs.Parts.{WentBehind}
use Rattle.rb_phrases.proofs.operand.assignment_behind.Goals.{in-Local+in_ok-add_new_local, in_default}
use Rattle.rb_phrases.proofs.operand.assignment_behind.Goals as goal

pub returns-then-not-is_assignment_mark-clause-ok : goal.returns-then-not-is_assignment_mark-clause-ok
returns-then-not-is_assignment_mark-clause-ok c = λ w q r. (r, refl, out.no_mark (grammar.target_of q) c.args.cursor.now (sym c.is_assignment_mark.ensures ∙ c.if-not-is_assignment_mark.true))

pub returns-in-Err-clause-ok : goal.returns-in-Err-clause-ok
returns-in-Err-clause-ok c = λ w q r. let x = c.in-Err.ensures w q r in (x.0, refl, out.no_target (grammar.target_of q) c.args.cursor.now x.1)

pub returns-in_err-mark-clause-ok : goal.returns-in_err-mark-clause-ok
returns-in_err-mark-clause-ok c = absurd (out.none_missed (look.one_of grammar.assignment_marks) c.args.cursor.now c.in_err-mark.field-0.0 (sym c.is_assignment_mark.ensures ∙ c.if-not-is_assignment_mark.false) c.in_err-mark.ensures.took)

pub returns-in_err-mark-clause-memory : goal.returns-in_err-mark-clause-memory
returns-in_err-mark-clause-memory c = absurd (out.none_missed (look.one_of grammar.assignment_marks) c.args.cursor.now c.in_err-mark.field-0.0 (sym c.is_assignment_mark.ensures ∙ c.if-not-is_assignment_mark.false) c.in_err-mark.ensures.took)

pub returns-in_err-add_new_local-clause-ok : goal.returns-in_err-add_new_local-clause-ok
returns-in_err-add_new_local-clause-ok c = out.no_answer c.from_residual-in_err-add_new_local.result c.in_err-add_new_local.field-0.0 (λ behind. (w : Walk) (q : p.Part) → IsPart w c.args.part q → WentBehind w q c.args.cursor.now c.add_new_local.new.cursor behind) c.from_residual-in_err-add_new_local.ensures.1

pub returns-in_err-add_new_local-clause-memory : goal.returns-in_err-add_new_local-clause-memory
returns-in_err-add_new_local-clause-memory c = out.tells_memory c.from_residual-in_err-add_new_local.result c.in_err-add_new_local.field-0.0 c.from_residual-in_err-add_new_local.ensures.1 c.in_err-add_new_local.ensures.memory

pub returns-clause-ok : goal.returns-clause-ok
returns-clause-ok c = λ w q r.
    let becomes = c.in-Ok.ensures w q r in (
      becomes.target,
      becomes.becomes,
      becomes.same,
      c.take.new.self,
      out.took_so (look.one_of grammar.assignment_marks) c.args.cursor.now c.take.new.self c.in_ok-mark.mark.now (sym c.is_assignment_mark.ensures ∙ c.if-not-is_assignment_mark.false) c.in_ok-mark.ensures.took,
      elim c.match-target-2.branch [
        | in-Local+in_ok-add_new_local d ↦ d.cursor-is ∙ d.in_ok-add_new_local.ensures.ok ∙ ap (λ sc. record c.take.new.self { scope = sc }) (out.local_target w d.in-Local.word becomes.target c.take.new.self.scope (subst (λ x. IsTarget w x becomes.target) d.in-Local.is becomes.same))
        | in_default d ↦ d.cursor-is ∙ ap (λ sc. record c.take.new.self { scope = sc }) (out.other_target w c.in-Ok.target becomes.target c.take.new.self.scope becomes.same d.in_default.not-Local)
      ],
    )
