use Rattle.std.proofs.Common.{◌∙◌, ap, map}
use Rattle.std.proofs.lemmas.List.{take_all}
use Rattle.rb_tree.specs.declared.node.Class.{Class}
use Rattle.rb_resolver.specs.Known.{first_in}
use Rattle.rb_resolver.proofs.Fitted.{map_next}
use Rattle.rb_resolver.proofs.known.firsts_of.Goals as goal

pub classes-init : goal.classes-init
classes-init c = c.new-firsts.ensures

pub classes-preserved : goal.classes-preserved
classes-preserved c =
    map_next (λ (k : Class). first_in c.args.names.now k.methods) c.classes.firsts c.push.new.self c.in_ok-first.first c.args.classes.now c.class-item.result c.classes.class-index
    c.in_ok-push.ensures.ok c.classes.invariant (c.in_ok-first.ensures ∙ ap (first_in c.args.names.now) c.as_slice.ensures) c.classes-test.true c.class-item.is

pub returns : goal.returns
returns c = c.classes.invariant ∙ ap (map (λ (k : Class). first_in c.args.names.now k.methods)) (take_all c.classes.class-index c.args.classes.now c.classes-test.false)
