use Rattle.std.proofs.Common.{◌+◌, ◌∙◌, map, drop, refl, sym, ap, arith}
use Rattle.std.proofs.lemmas.List.{drop_all}
use Rattle.rb_model.specs.Values.{plain}
use Rattle.rb_machine.specs.Control.{Inspecting}
use Rattle.rb_machine.specs.Call.{write, value_of_p}
use Rattle.rb_walk.specs.Outcome.{value_of}
use Rattle.rb_walk.proofs.Lists.{next_item}
use Rattle.rb_walk.proofs.Moves.{same}
use Rattle.rb_walk.proofs.Outcomes.{given, passes}
use Rattle.rb_interp.proofs.walker.Walker.inspect_values.Goals as goal

pub values-init : goal.values-init
values-init g c = record {
  base = refl;
  context = refl;
  less = omega arith;
  fits = rw c.new-bytes.ensures.items (omega arith);
  came = λ S start k sc p a. rw c.new-bytes.ensures.items a;
}

pub values-preserved : goal.values-preserved
values-preserved g c =
    let loop = c.values in
    let inv = loop.invariant in
    let y = c.add_inspected-came.ensures in
    let given_on = sym c.is_left.ensures ∙ c.if-is_left.false in
    record {
      base = y.stays.0 ∙ inv.base;
      context = y.stays.1 ∙ inv.context;
      less = omega (arith, y.stays.2, inv.less);
      fits = y.fits given_on;
      came = λ S start k sc p a.
          let all = map plain c.args.values.now in
          let item = next_item _ _ c.value-item.result c.values-test.true c.value-item.is in
          let b = same (inv.came S start k sc p a) (ap (λ vs. write S (Inspecting all) loop.bytes.items (map plain vs) c.args.at k sc c.args.depth loop.self.left) item) in
          let f = rw inv.context at y.came in
          (f all (map plain (drop (loop.value-index + 1) c.args.values.now)) S start k sc p b).1 given_on;
    }

pub returns-then-is_left-clause-came : goal.returns-then-is_left-clause-came
returns-then-is_left-clause-came g c = λ S start k sc p a.
    let loop = c.values in
    let inv = loop.invariant in
    let y = c.add_inspected-came.ensures in
    let all = map plain c.args.values.now in
    let item = next_item _ _ c.value-item.result c.values-test.true c.value-item.is in
    let b = same (inv.came S start k sc p a) (ap (λ vs. write S (Inspecting all) loop.bytes.items (map plain vs) c.args.at k sc c.args.depth loop.self.left) item) in
    let f = rw inv.context at y.came in
    (f all (map plain (drop (loop.value-index + 1) c.args.values.now)) S start k sc p b).0 (sym c.is_left.ensures ∙ c.if-is_left.true)

pub returns-then-is_left-2-clause-came : goal.returns-then-is_left-2-clause-came
returns-then-is_left-2-clause-came g c = λ S start k sc p a.
    let loop = c.values in
    let inv = loop.invariant in
    let all = map plain c.args.values.now in
    let none = drop_all loop.value-index c.args.values.now c.values-test.false in
    let b = same (inv.came S start k sc p a) (ap (λ vs. write S (Inspecting all) loop.bytes.items (map plain vs) c.args.at k sc c.args.depth loop.self.left) none) in
    let z = c.show_bytes-shown in
    let f = rw inv.context at z.ensures.came in
    let come = f S start _ (value_of_p S all) c.args.at k sc c.args.depth b in
    rw (z.ensures.stays.2, z.ensures.private) (passes S _ start _ z.result z.new.self.value z.new.self.leave _ (value_of_p S all) k sc c.args.depth _ (sym c.is_left-2.ensures ∙ c.if-is_left-2.true) come)

pub returns-clause-came : goal.returns-clause-came
returns-clause-came g c = λ S start k sc p a.
    let loop = c.values in
    let inv = loop.invariant in
    let all = map plain c.args.values.now in
    let none = drop_all loop.value-index c.args.values.now c.values-test.false in
    let b = same (inv.came S start k sc p a) (ap (λ vs. write S (Inspecting all) loop.bytes.items (map plain vs) c.args.at k sc c.args.depth loop.self.left) none) in
    let z = c.show_bytes-shown in
    let f = rw inv.context at z.ensures.came in
    let come = f S start _ (value_of_p S all) c.args.at k sc c.args.depth b in
    let gave = given z.result z.new.self.value z.new.self.leave (sym c.is_left-2.ensures ∙ c.if-is_left-2.false) come in
    let v = rw (z.ensures.stays.1, inv.context) at c.value_of_p.ensures.came in
    rw c.value_of_p.ensures.stays.2 (v (value_of z.result z.new.self.value) c.args.depth S start k sc p (rw (z.ensures.stays.2, z.ensures.private) gave))
