use Rattle.std.proofs.Common.{sym}
use Rattle.rb_model.specs.Values.{plain}
use Rattle.rb_walk.proofs.Texts.{unnamed_is, none_is, other_is, asked_is, empty_none, empty_some}
use Rattle.rb_walk.proofs.asked.asked_of.Goals as goal

pub returns-in_err-name-clause-none : goal.returns-in_err-name-clause-none
returns-in_err-name-clause-none c = λ e. unnamed_is c.args.script.now c.args.program.now (plain c.args.value.now) c.in_err-name.ensures.different (rw (c.in_err-name.was, c.as_slice.ensures) at (sym c.find.ensures.found))

pub returns-in_err-target-clause-none : goal.returns-in_err-target-clause-none
returns-in_err-target-clause-none c = λ e.
    none_is c.args.script.now c.args.program.now (plain c.args.value.now) c.in_ok-name.name (rw c.as_slice.ensures at (sym c.in_ok-name.ensures.found)) (c.target_of.ensures.none c.in_err-target.was)

pub returns-then-not-is_empty-clause-none : goal.returns-then-not-is_empty-clause-none
returns-then-not-is_empty-clause-none c = λ e.
    let m = c.in_ok-target.target.method.now in
    other_is c.args.script.now c.args.program.now (plain c.args.value.now) c.in_ok-name.name c.in_ok-target.target.object m (rw c.as_slice.ensures at (sym c.in_ok-name.ensures.found)) c.in_ok-target.ensures.some
    (empty_none m.params c.is_empty.result c.if-not-is_empty.true c.is_empty.ensures)

pub returns-clause-some : goal.returns-clause-some
returns-clause-some c =
    let m = c.in_ok-target.target.method.now in
    asked_is c.args.script.now c.args.program.now (plain c.args.value.now) c.in_ok-name.name c.in_ok-target.target.object m (rw c.as_slice.ensures at (sym c.in_ok-name.ensures.found)) c.in_ok-target.ensures.some
    (empty_some m.params c.is_empty.result c.if-not-is_empty.false c.is_empty.ensures)
