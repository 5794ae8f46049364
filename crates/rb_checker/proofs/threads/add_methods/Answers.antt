use Rattle.std.proofs.Common.{List, [], ◌∷◌, sym, ap, map, take, ◌++◌, ◌+◌, ◌∙◌, append-nil}
use Rattle.std.proofs.lemmas.List.{take_all}
use Rattle.rb_checker.specs.declared.event.Event.{Event}
use Rattle.rb_checker.specs.Events.{events_in}
use Rattle.rb_checker.specs.Texts.{method_events}
use Rattle.rb_checker.proofs.Captures.{map_behind}
use Rattle.rb_checker.proofs.Makes.{next_is}
use Rattle.rb_checker.proofs.threads.add_methods.Goals as goal

pub methods-init : goal.methods-init
methods-init c = λ b tells. sym (append-nil c.args.texts.now)

pub methods-preserved : goal.methods-preserved
methods-preserved c = λ b tells.
    let methods = c.args.methods.now in
    let i = c.methods.method-index in
    let method = c.method-item.result in
    let more = next_is methods i method c.methods-test.true c.method-item.is in
    map_behind (method_events b) (take i methods) (take (i + 1) methods) method c.args.texts.now c.methods.texts c.push.new.self more (c.methods.invariant b tells)
    (c.in_ok-push.ensures.ok
    ∙ ap (λ (es : List Event). c.methods.texts ++ es ∷ [])
    (c.from_vec.ensures ∙ c.in_ok-events.ensures b tells
    ∙ ap (λ ps. events_in b ps c.as_slice-in-methods.result.now) c.as_slice.ensures
    ∙ ap (λ ns. events_in b method.params ns) c.as_slice-in-methods.ensures))

pub returns : goal.returns
returns c = λ b tells.
    c.methods.invariant b tells ∙ ap (λ ms. c.args.texts.now ++ map (method_events b) ms) (take_all c.methods.method-index c.args.methods.now c.methods-test.false)
