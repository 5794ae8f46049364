use Rattle.std.proofs.Common.{sym, ap, map, take, ◌++◌, ◌+◌, ◌∙◌, append-nil}
use Rattle.std.specs.List.{flat_map}
use Rattle.std.proofs.lemmas.List.{take_all}
use Rattle.rb_tree.specs.declared.node.Class.{Class}
use Rattle.rb_checker.specs.Texts.{method_events}
use Rattle.rb_checker.proofs.Makes.{next_is, flat_map_next}
use Rattle.rb_checker.proofs.threads.add_classes.Goals as goal

pub classes-init : goal.classes-init
classes-init c = λ b tells. sym (append-nil c.args.texts.now)

pub classes-preserved : goal.classes-preserved
classes-preserved c = λ b tells.
    let classes = c.args.classes.now in
    let i = c.classes.class-index in
    let class = c.class-item.result in
    let more = next_is classes i class c.classes-test.true c.class-item.is in
    flat_map_next (λ (k : Class). map (method_events b) k.methods) (take i classes) (take (i + 1) classes) class c.args.texts.now c.classes.texts c.add_methods.new.texts more
    (c.classes.invariant b tells)
    (c.in_ok-add_methods.ensures b tells ∙ ap (λ ms. c.classes.texts ++ map (method_events b) ms) c.as_slice.ensures)

pub returns : goal.returns
returns c = λ b tells.
    c.classes.invariant b tells
    ∙ ap (λ ks. c.args.texts.now ++ flat_map (λ (k : Class). map (method_events b) k.methods) ks) (take_all c.classes.class-index c.args.classes.now c.classes-test.false)
