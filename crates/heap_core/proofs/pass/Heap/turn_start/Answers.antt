use Rattle.std.proofs.Common.{◌+◌, ap, subst, sym, ◌∙◌, arith}
use Rattle.atomic_table.specs.Seated.{TableId}
use Rattle.rb_model.specs.declared.act.Reply.TheVariants as reply
use Rattle.rb_model.specs.declared.fault.Fault.TheVariants.{ThreadLimit}
use Rattle.rb_model.specs.declared.value.Sort.TheVariants as sort
use Rattle.rb_shared.specs.declared.answer.Answer.TheVariants as answer
use Rattle.heap_core.specs.Starting.{StartAnswers}
use Rattle.heap_core.specs.Passes.{asking, holder_of}
use Rattle.heap_core.proofs.Starting.{full_replies, start_replies}
use Rattle.heap_core.proofs.pass.Heap.turn_start.Goals as goal

pub returns-in_default-line_for-clause-answers : goal.returns-in_default-line_for-clause-answers
returns-in_default-line_for-clause-answers g c =
    subst (λ call. StartAnswers (asking c.args.act.now) c.args.act.now.step call (answer.Done (reply.Failed ThreadLimit)) (holder_of c.args.pass.now.badge.views) (holder_of c.start_full.new.pass.badge.views)) (sym c.in-Start.is)
    (full_replies (asking c.args.act.now) c.args.act.now.step c.args.generation c.in-Start.id (holder_of c.args.pass.now.badge.views) (holder_of c.look_table.new.pass.badge.views) _ c.args.turn (c.look_table.ensures.seen c.args.turn c.requires.has) c.requires.generation
    (sym c.line_for.ensures ∙ c.in_default-line_for.is) c.look_table.ensures.same c.start_full.ensures.made)

pub overflow_add-number : goal.overflow_add-number
overflow_add-number g c =
    let seen = c.look_table.ensures.seen c.args.turn c.requires.has in
    let few = seen.few in
    let size = c.args.pass.now.rests.1.size in
    let most = c.args.self.now.most in
    let words = ap (λ (t : TableId). t.words) c.requires.of in
    let is = c.started-number.ensures in
    omega (arith, few, size, most, words, is)

pub start_laid-requires-clause-few : goal.start_laid-requires-clause-few
start_laid-requires-clause-few g c =
    let seen = c.look_table.ensures.seen c.args.turn c.requires.has in
    let few = seen.few in
    let size = c.args.pass.now.rests.1.size in
    let most = c.args.self.now.most in
    let words = ap (λ (t : TableId). t.words) c.requires.of in
    omega (arith, few, size, most, words)

pub returns-in-Got-clause-answers : goal.returns-in-Got-clause-answers
returns-in-Got-clause-answers g c =
    let took = c.in-Got.ensures.took.3 in
    subst (λ call. StartAnswers (asking c.args.act.now) c.args.act.now.step call (answer.Done (reply.Started (c.started-number.result + 1) (record { sort = sort.Thread; id = c.in-Start.id; at = c.in-Got.at }))) (holder_of c.args.pass.now.badge.views) (holder_of c.start_laid.new.pass.badge.views)) (sym c.in-Start.is)
    (start_replies (asking c.args.act.now) c.args.act.now.step c.args.generation _ c.in-Some.line _ (holder_of c.args.pass.now.badge.views) (holder_of c.look_table.new.pass.badge.views) (holder_of c.take.new.pass.badge.views) (holder_of c.lay_row.new.pass.badge.views) _ c.args.turn c.in-Got.at took.0 _
    (c.look_table.ensures.seen c.args.turn c.requires.has) c.requires.generation (sym c.line_for.ensures ∙ c.in-Some.is) (ap (λ n. n + 1) c.started-number.ensures) c.look_table.ensures.same took.2 c.lay_row.ensures.laid c.start_laid.ensures.made)
