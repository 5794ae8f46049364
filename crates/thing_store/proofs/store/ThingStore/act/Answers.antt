use Rattle.std.proofs.Common.{◌≡◌, ◌+◌, ◌-◌, ap, sym, ◌∙◌, subst, arith}
use Rattle.std.specs.Prelude.{if◌then◌else◌}
use Rattle.rb_model.specs.Doing.{doing}
use Rattle.rb_shared.specs.Store.{found}
use Rattle.thing_store.specs.Counted.{IsCounted, gathers}
use Rattle.thing_store.proofs.Counting.{counted_act, gathers_one}
use Rattle.thing_store.proofs.store.ThingStore.act.Goals as goal

pub overflow_sub-self : goal.overflow_sub-self
overflow_sub-self c =
    let one = gathers_one c.args.thread c.self.inside.things c.args.id (doing c.args.act) c.self.inside.started.rows.items c.self.inside.started.ungathered c.self.invariant (sym c.if-gathers.ensures) in
    omega (arith, one)

pub invariant_of-self-then-gathers : goal.invariant_of-self-then-gathers
invariant_of-self-then-gathers c =
    let u = c.self.inside.started.ungathered in
    let one = gathers_one c.args.thread c.self.inside.things c.args.id (doing c.args.act) c.self.inside.started.rows.items u c.self.invariant (sym c.if-gathers.ensures) in
    let less : (u - 1) + (if gathers c.args.thread (found c.self.inside.things c.args.id) (doing c.args.act) then 1 else 0) ≡ u = ap (λ b. (u - 1) + (if b then 1 else 0)) (sym c.if-gathers.ensures) ∙ omega (arith, one) in
    subst (λ z. IsCounted z c.self.inside.started.rows.items (u - 1)) (sym c.in_ok-reply.ensures.things)
    (counted_act c.args.thread c.self.inside.things c.args.id (doing c.args.act) c.self.inside.started.rows.items u c.self.invariant (u - 1) less)

pub invariant_of-self-else-gathers : goal.invariant_of-self-else-gathers
invariant_of-self-else-gathers c =
    let u = c.self.inside.started.ungathered in
    let less : u + (if gathers c.args.thread (found c.self.inside.things c.args.id) (doing c.args.act) then 1 else 0) ≡ u = ap (λ b. u + (if b then 1 else 0)) (sym c.if-gathers.ensures) ∙ omega arith in
    subst (λ z. IsCounted z c.self.inside.started.rows.items u) (sym c.in_ok-reply.ensures.things)
    (counted_act c.args.thread c.self.inside.things c.args.id (doing c.args.act) c.self.inside.started.rows.items u c.self.invariant u less)
