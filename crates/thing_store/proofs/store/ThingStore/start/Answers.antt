use Rattle.std.proofs.Common.{◌+◌, ◌++◌, [], ◌∷◌, suc, length, ap, sym, ◌∙◌}
use Rattle.std.specs.Prelude.{if◌then◌else◌}
use Rattle.rb_model.specs.declared.fault.Fault.TheVariants.{ThreadLimit}
use Rattle.rb_model.specs.Acts as reply
use Rattle.rb_model.specs.Immediates.{reference}
use Rattle.rb_model.specs.Started.{to_thread}
use Rattle.rb_shared.specs.Store.{threads}
use Rattle.rb_shared.specs.Step.{new_thread}
use Rattle.thing_store.specs.Kept.{thing_of}
use Rattle.thing_store.specs.Counted.{generation_in, row_of}
use Rattle.thing_store.proofs.Taking.{not_full, numbered, started_counted, started_thing}
use Rattle.thing_store.proofs.store.ThingStore.start.Goals as goal

pub invariant_of-self-2 : goal.invariant_of-self-2
invariant_of-self-2 c =
    let z = c.self.inside.things in let rows = c.self.inside.started.rows.items in
    started_counted z c.add.new.self rows c.add-2.new.self.rows.items c.self.inside.started.ungathered c.add-2.new.self.ungathered c.args.thread c.len-number.result c.len-place.result c.args.id (thing_of c.running.result) c.self.invariant
    (ap thing_of c.running.ensures) (c.len-number.ensures ∙ c.self.inside.started.rows.ok.0) c.in_ok-add.ensures.ok c.len-place.ensures
    (c.add-2.ensures.rows ∙ ap (λ l. l ++ row_of (generation_in l c.args.thread + 1) c.len-place.result ∷ []) c.reserve.ensures.rows)
    (c.add-2.ensures.ungathered ∙ ap (λ n. n + 1) c.reserve.ensures.ungathered)

pub returns-clause-reply : goal.returns-clause-reply
returns-clause-reply c =
    let z = c.self.inside.things in let rows = c.self.inside.started.rows.items in
    let number = numbered z c.add.new.self rows c.add-2.new.self.rows.items c.self.inside.started.ungathered c.add-2.new.self.ungathered c.args.thread c.len-number.result c.len-place.result c.args.id (thing_of c.running.result) c.self.invariant
    (ap thing_of c.running.ensures) (c.len-number.ensures ∙ c.self.inside.started.rows.ok.0) c.in_ok-add.ensures.ok in
    ap (λ r. reply.Started c.len-number.result (reference r)) c.thread_at.ensures
    ∙ ap (λ n. reply.Started n (to_thread c.args.id)) (number ∙ ap (λ y. suc (length (threads y))) c.self.view_is)
    ∙ ap (λ b. if b then reply.Failed ThreadLimit else reply.Started (suc (length (threads c.args.self.now))) (to_thread c.args.id)) (sym (not_full c.args.slots z c.args.self.now rows c.self.inside.started.ungathered c.args.thread c.self.invariant c.self.view_is (sym c.if-is_full.ensures)))

pub returns-clause-store : goal.returns-clause-store
returns-clause-store c =
    let z = c.self.inside.things in let rows = c.self.inside.started.rows.items in
    started_thing z c.add.new.self rows c.add-2.new.self.rows.items c.self.inside.started.ungathered c.add-2.new.self.ungathered c.args.thread c.len-number.result c.len-place.result c.args.id (thing_of c.running.result) c.self.invariant
    (ap thing_of c.running.ensures) (c.len-number.ensures ∙ c.self.inside.started.rows.ok.0) c.in_ok-add.ensures.ok
    ∙ ap (λ y. y ++ new_thread y c.args.thread c.args.id ∷ []) c.self.view_is
    ∙ ap (λ b. if b then c.args.self.now else c.args.self.now ++ new_thread c.args.self.now c.args.thread c.args.id ∷ []) (sym (not_full c.args.slots z c.args.self.now rows c.self.inside.started.ungathered c.args.thread c.self.invariant c.self.view_is (sym c.if-is_full.ensures)))
