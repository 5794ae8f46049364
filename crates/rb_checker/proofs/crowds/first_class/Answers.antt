use Rattle.std.proofs.Common.{ap, sym, map, refl, [], ◌∷◌, ◌++◌, take, ◌+◌, ◌∙◌}
use Rattle.std.proofs.lemmas.List.{map_more, take_all}
use Rattle.rb_tree.specs.declared.node.Class.{Class}
use Rattle.rb_checker.specs.declared.fault.CheckFault.{CheckFault}
use Rattle.rb_checker.specs.declared.fault.CheckFault.TheVariants as fault
use Rattle.rb_checker.specs.Fault.{first_of}
use Rattle.rb_checker.proofs.Firsts.{first_of_both}
use Rattle.rb_checker.proofs.crowds.first_class.Goals as goal

abbrev crowds : Class → CheckFault
crowds c = fault.TooManyClasses c.at

pub classes-preserved : goal.classes-preserved
classes-preserved c =
    let classes = c.args.classes.now in
    let i = c.classes.class-index in
    let class = c.class-item.result in
    first_of_both (map crowds (take i classes)) (crowds class ∷ []) (map crowds (take (i + 1) classes)) c.classes.found _ c.first_of_two-found.result
    (map_more crowds classes i class c.classes-test.true ∙ ap (λ k. map crowds (take i classes) ++ crowds k ∷ []) (sym c.class-item.is))
    c.classes.invariant refl c.first_of_two-found.ensures

pub returns : goal.returns
returns c = c.classes.invariant ∙ ap (λ cs. first_of (map crowds cs)) (take_all c.classes.class-index c.args.classes.now c.classes-test.false)
