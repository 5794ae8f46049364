use Rattle.std.proofs.Common.{take, ap, sym, [], ◌∷◌, ◌++◌, ◌∙◌, ◌+◌}
use Rattle.std.specs.List.{flat_map}
use Rattle.std.proofs.lemmas.List.{take_more, take_all}
use Rattle.rb_tree.specs.declared.node.Class.{Class}
use Rattle.rb_checker.specs.Fault.{first_of}
use Rattle.rb_checker.specs.Twice.{methods_twice}
use Rattle.rb_checker.proofs.Firsts.{first_of_more}
use Rattle.rb_checker.proofs.repeated.repeated_in_classes.Goals as goal

pub classes-preserved : goal.classes-preserved
classes-preserved c =
    let classes = c.args.classes.now in
    let i = c.classes.class-index in
    let class = c.class-item.result in
    c.first_of_two-found.ensures
    ∙ first_of_more (λ (k : Class). methods_twice k.methods) (take i classes) (take (i + 1) classes) class c.classes.found c.in_ok-next.next
    (take_more classes i class c.classes-test.true ∙ ap (λ k. take i classes ++ k ∷ []) (sym c.class-item.is)) c.classes.invariant
    (c.in_ok-next.ensures ∙ ap (λ ms. first_of (methods_twice ms)) c.as_slice.ensures)

pub returns : goal.returns
returns c = c.classes.invariant ∙ ap (λ cs. first_of (flat_map (λ (k : Class). methods_twice k.methods) cs)) (take_all c.classes.class-index c.args.classes.now c.classes-test.false)
