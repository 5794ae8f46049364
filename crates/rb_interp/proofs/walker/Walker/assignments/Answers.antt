use Rattle.std.proofs.Common.{◌≡◌, ◌<◌, get_or, ◌-◌, ◌∷◌, ◌∙◌, List, Some, length, map, refl, sym, ap, subst, arith}
use Rattle.std.proofs.lemmas.List.{drop_all}
use Rattle.std.specs.List.{AllByRecursion}
use Rattle.rb_model.specs.Values.{Nil, plain}
use Rattle.rb_machine.specs.Control.{On, Following, Frame}
use Rattle.rb_code.specs.declared.code.Code.{Code}
use Rattle.rb_code.specs.Erase.{erase}
use Rattle.rb_walk.specs.Outcome.{outcome, value_of}
use Rattle.rb_walk.specs.Carries.{call_exit, me_of}
use Rattle.rb_walk.specs.Readers.{AssignsParameter, EntersAtOnce}
use Rattle.rb_walk.proofs.Assigning.{assigned, assigning_at, callee_of, closes, opens, unassigned}
use Rattle.rb_walk.proofs.Lists.{len_map, next_item}
use Rattle.rb_walk.proofs.Moves.{same}
use Rattle.rb_walk.proofs.Outcomes.{given}
use Rattle.rb_interp.proofs.walker.Walker.assignments.Goals as goal

pub statements-init : goal.statements-init
statements-init g c = record {
  base = refl;
  context = refl;
  steps = omega arith;
  assigns = c.requires.assigns.body;
  came = (Nil, λ S start k sc at right a. opens S _ start _ _ k sc _ _ (me_of (Some c.args.object)) c.args.method.now (map plain c.args.args.now) at (len_map plain c.args.args.now ∙ sym c.requires.assigns.params) a);
}

pub statements-preserved : goal.statements-preserved
statements-preserved g c =
    let loop = c.statements in
    let inv = loop.invariant in
    let meth = c.args.method.now in
    let y = c.assign-came in
    let w = c.index-args-assignment.result in
    let short : loop.code-index < length meth.body = rw c.as_slice-statements.ensures at c.statements-test.true in
    let is : c.code-item.result ≡ get_or meth.body loop.code-index c.code-item.result = rw c.as_slice-statements.ensures at c.code-item.is in
    record {
      base = y.ensures.stays.0 ∙ inv.base;
      context = y.ensures.stays.1 ∙ inv.context;
      steps = omega (arith, y.ensures.stays.2, inv.steps, short, c.requires.steps);
      assigns = (subst (AllByRecursion (AssignsParameter (length c.args.args.now))) (next_item meth.body loop.code-index c.code-item.result short is) inv.assigns).1;
      came = (
        plain w,
        λ S start k sc at right a.
            let more : 1 < loop.self.left = omega (arith, inv.steps, short, c.requires.steps) in
            let deep : c.args.depth < 999 = c.requires.depth in
            let asked = assigning_at S _ start _ _ k sc c.args.depth loop.self.left (me_of (Some c.args.object)) inv.came.0 meth c.args.args.now loop.code-index c.code-item.result w _ _ _ short is c.in-Some.ensures.some c.in-Some.ensures.below c.index-args-assignment.is right more deep (inv.came.1 S start k sc at right a) in
            let f = rw inv.context at y.ensures.came in
            rw y.ensures.stays.2 (assigned S _ start _ _ k sc _ c.args.depth _ _ (plain w) _ y.result y.new.self.value y.new.self.leave (sym c.is_left.ensures ∙ c.if-is_left.false) (f S start _ _ _ asked)),
      );
    }

pub returns-then-is_left-clause-came : goal.returns-then-is_left-clause-came
returns-then-is_left-clause-came g c =
    let loop = c.statements in
    let inv = loop.invariant in
    let meth = c.args.method.now in
    let y = c.assign-came in
    let w = c.index-args-assignment.result in
    let short : loop.code-index < length meth.body = rw c.as_slice-statements.ensures at c.statements-test.true in
    let is : c.code-item.result ≡ get_or meth.body loop.code-index c.code-item.result = rw c.as_slice-statements.ensures at c.code-item.is in
    let o = c.out_of_call.ensures in
    let all : EntersAtOnce c.args.self.now.context.steps (me_of (Some c.args.object)) meth (map plain c.args.args.now) c.args.depth c.args.self.now.left (loop.self.left - 2) (g.O.ThreadStore.log c.args.self.now.store) (g.O.ThreadStore.log y.new.self.store) (g.O.ThreadStore.private c.args.self.now.store) (g.O.ThreadStore.private y.new.self.store) (call_exit (outcome y.result y.new.self.value y.new.self.leave)) = λ S start k sc at right a.
    let more : 1 < loop.self.left = omega (arith, inv.steps, short, c.requires.steps) in
    let deep : c.args.depth < 999 = c.requires.depth in
    let asked = assigning_at S _ start _ _ k sc c.args.depth loop.self.left (me_of (Some c.args.object)) inv.came.0 meth c.args.args.now loop.code-index c.code-item.result w _ _ _ short is c.in-Some.ensures.some c.in-Some.ensures.below c.index-args-assignment.is right more deep (inv.came.1 S start k sc at right a) in
    let f = rw inv.context at y.ensures.came in
    unassigned S _ start _ _ k sc _ c.args.depth _ _ (plain w) _ y.result y.new.self.value y.new.self.leave (sym c.is_left.ensures ∙ c.if-is_left.true) (f S start _ _ _ asked) in (
      λ gone S start k sc at right a. rw (o.gives, o.stays.2, o.stays.3, y.ensures.stays.2) (all S start k sc at right a),
      λ none. (
        value_of c.out_of_call.result c.out_of_call.new.self.value,
        λ S start k sc at right a.
            given c.out_of_call.result c.out_of_call.new.self.value c.out_of_call.new.self.leave none (rw (o.gives, o.stays.2, o.stays.3, y.ensures.stays.2) (all S start k sc at right a)),
      ),
    )

pub returns-clause-came : goal.returns-clause-came
returns-clause-came g c =
    let loop = c.statements in
    let inv = loop.invariant in
    let meth = c.args.method.now in (
      λ gone S start k sc at right a. absurd (cc),
      λ none. (
        inv.came.0,
        λ S start k sc at right a.
            let all_done = drop_all loop.code-index meth.body (rw c.as_slice-statements.ensures at c.statements-test.false) in
            let inner = callee_of S c.args.self.now.context.steps start (g.O.ThreadStore.private loop.self.store) (me_of (Some c.args.object)) meth (map plain c.args.args.now) in
            let from = same (inv.came.1 S start k sc at right a) (ap (λ (cs : List Code). On (Following inv.came.0 (map erase cs)) (Frame sc ∷ k) inner c.args.depth loop.self.left) all_done) in
            closes S _ start _ _ k sc _ _ _ inv.came.0 from,
      ),
    )
