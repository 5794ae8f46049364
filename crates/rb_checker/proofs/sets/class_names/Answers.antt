use Rattle.std.proofs.Common.{map, take, subst, ap, sym, ◌∙◌, ◌+◌, ◌++◌, ◌∷◌, []}
use Rattle.std.proofs.lemmas.List.{map_more, take_all}
use Rattle.rb_tree.specs.declared.node.Class.{Class}
use Rattle.rb_checker.specs.Sets.{Holds}
use Rattle.rb_checker.proofs.Added.{one_more}
use Rattle.rb_checker.proofs.sets.class_names.Goals as goal

pub classes-preserved : goal.classes-preserved
classes-preserved c =
    let classes = c.args.classes.now in
    let i = c.classes.class-index in
    one_more (map (λ (m : Class). m.name) (take i classes)) (map (λ (m : Class). m.name) (take (i + 1) classes)) c.class-item.result.name c.classes.set c.add.new.set
    (map_more (λ (m : Class). m.name) classes i c.class-item.result c.classes-test.true ∙ ap (λ (m : Class). map (λ (n : Class). n.name) (take i classes) ++ m.name ∷ []) (sym c.class-item.is)) c.classes.invariant c.in_ok-add.ensures

pub returns : goal.returns
returns c = subst (λ ms. Holds c.classes.set (map (λ (m : Class). m.name) ms)) (take_all c.classes.class-index c.args.classes.now c.classes-test.false) c.classes.invariant
