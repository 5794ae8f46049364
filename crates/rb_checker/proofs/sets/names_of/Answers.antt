use Rattle.std.proofs.Common.{map, take, subst, ap, sym, ◌∙◌, ◌+◌, ◌++◌, ◌∷◌, []}
use Rattle.std.proofs.lemmas.List.{map_more, take_all}
use Rattle.rb_tree.specs.declared.node.Method.{Method}
use Rattle.rb_checker.specs.Sets.{Holds}
use Rattle.rb_checker.proofs.Added.{one_more}
use Rattle.rb_checker.proofs.sets.names_of.Goals as goal

pub methods-preserved : goal.methods-preserved
methods-preserved c =
    let methods = c.args.methods.now in
    let i = c.methods.method-index in
    one_more (map (λ (m : Method). m.name) (take i methods)) (map (λ (m : Method). m.name) (take (i + 1) methods)) c.method-item.result.name c.methods.set c.add.new.set
    (map_more (λ (m : Method). m.name) methods i c.method-item.result c.methods-test.true ∙ ap (λ (m : Method). map (λ (n : Method). n.name) (take i methods) ++ m.name ∷ []) (sym c.method-item.is)) c.methods.invariant c.in_ok-add.ensures

pub returns : goal.returns
returns c = subst (λ ms. Holds c.methods.set (map (λ (m : Method). m.name) ms)) (take_all c.methods.method-index c.args.methods.now c.methods-test.false) c.methods.invariant
