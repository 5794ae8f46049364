use Rattle.std.proofs.Common.{ap, sym, ◌∙◌}
use Rattle.rb_model.specs.declared.call.Call.TheVariants as call
use Rattle.rb_model.specs.Log.{asked}
use Rattle.rb_model.specs.Moving.{items_of}
use Rattle.rb_shared.specs.Step.{waits}
use Rattle.thing_store.proofs.Waiting.{waits-moved}
use Rattle.thing_store.proofs.store.ThingStore.must_wait.Goals as goal

pub returns-in-On : goal.returns-in-On
returns-in-On c =
    c.waits.ensures
    ∙ ap (λ z. waits z c.args.thread (asked (call.On c.in-On.thing c.in-On.act))) c.self.view_is
    ∙ ap (λ call. waits c.args.self.now c.args.thread (asked call)) (sym c.in-On.is)
    ∙ sym (waits-moved c.args.self.now (items_of c.args.moved.now) c.args.thread (asked c.args.call.now) c.requires)

pub returns-in-Gather : goal.returns-in-Gather
returns-in-Gather c =
    c.waits-in-Gather.ensures
    ∙ ap (λ z. waits z c.args.thread (asked (call.Gather c.in-Gather.other))) c.self.view_is
    ∙ ap (λ call. waits c.args.self.now c.args.thread (asked call)) (sym c.in-Gather.is)
    ∙ sym (waits-moved c.args.self.now (items_of c.args.moved.now) c.args.thread (asked c.args.call.now) c.requires)
