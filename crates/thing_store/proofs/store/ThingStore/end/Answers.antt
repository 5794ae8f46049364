use Rattle.std.proofs.Common.{map, ap, sym, ◌∙◌, subst}
use Rattle.rb_model.specs.Ends.{over}
use Rattle.rb_shared.specs.Step.{ended_item}
use Rattle.thing_store.specs.Counted.{IsCounted, with_end_in}
use Rattle.thing_store.proofs.Ending.{counted_ended, ended_in}
use Rattle.thing_store.proofs.store.ThingStore.end.Goals as goal

pub invariant_of-self : goal.invariant_of-self
invariant_of-self c =
    let how = over c.in_ok-copy.copy in let z = c.self.inside.things in let rows = c.self.inside.started.rows.items in let u = c.self.inside.started.ungathered in
    subst (λ y. IsCounted y rows u)
    (sym (c.end_at.ensures ∙ ap (λ y. with_end_in c.args.thread how y c.place.result) c.free.ensures ∙ ended_in c.args.thread how z rows u c.self.invariant c.place.result c.place.ensures))
    (counted_ended c.args.thread how z rows u c.self.invariant)

pub returns-clause-store : goal.returns-clause-store
returns-clause-store c =
    let how = over c.in_ok-copy.copy in let z = c.self.inside.things in let rows = c.self.inside.started.rows.items in let u = c.self.inside.started.ungathered in
    c.end_at.ensures ∙ ap (λ y. with_end_in c.args.thread how y c.place.result) c.free.ensures ∙ ended_in c.args.thread how z rows u c.self.invariant c.place.result c.place.ensures
    ∙ ap (λ e. map (ended_item c.args.thread e) z) c.in_ok-copy.ensures.same ∙ ap (map (ended_item c.args.thread (over c.args.how.now))) c.self.view_is
