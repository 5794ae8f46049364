use Rattle.std.proofs.Common.{take, ap, sym, [], ◌∷◌, ◌++◌, ◌∙◌, ◌+◌}
use Rattle.std.proofs.lemmas.List.{map_more, take_all}
use Rattle.rb_tree.specs.declared.node.Method.{Method}
use Rattle.rb_checker.specs.Fault.{first_of}
use Rattle.rb_checker.specs.Twice.{twice, defined_names, none_taken, of_methods}
use Rattle.rb_checker.proofs.Added.{one_more}
use Rattle.rb_checker.proofs.Repeating.{first_twice, names_behind}
use Rattle.rb_checker.proofs.repeated.repeated_method.Goals as goal

pub methods-preserved : goal.methods-preserved
methods-preserved c =
    let items = c.args.methods.now in
    let i = c.methods.method-index in
    let it = c.method-item.result in
    let before = of_methods (take i items) in
    let more = map_more (λ (m : Method). (m.name, m.at)) items i it c.methods-test.true ∙ ap (λ (m : Method). before ++ (m.name, m.at) ∷ []) (sym c.method-item.is) in (
      one_more (defined_names before) (defined_names (of_methods (take (i + 1) items))) it.name c.methods.set c.define.new.set
          (names_behind before _ (it.name, it.at) more) c.methods.invariant.0 c.in_ok-next.ensures.kept,
      first_twice none_taken before (of_methods (take (i + 1) items)) (it.name, it.at) c.methods.found c.in_ok-next.next c.first_of_two-found.result more
          c.methods.invariant.1 (c.in_ok-next.ensures.fault (defined_names before) c.methods.invariant.0) c.first_of_two-found.ensures,
    )

pub returns : goal.returns
returns c = c.methods.invariant.1 ∙ ap (λ ms. first_of (twice none_taken (of_methods ms))) (take_all c.methods.method-index c.args.methods.now c.methods-test.false)
