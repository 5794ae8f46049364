use Rattle.std.proofs.Common.{take, ap, sym, [], ◌∷◌, ◌++◌, ◌∙◌, ◌+◌}
use Rattle.std.specs.Prelude.{◌||◌}
use Rattle.std.proofs.lemmas.List.{map_more, take_all}
use Rattle.rb_tree.specs.declared.node.Class.{Class}
use Rattle.rb_checker.specs.Fault.{first_of}
use Rattle.rb_checker.specs.Names.{is_among}
use Rattle.rb_checker.specs.Twice.{twice, twice_if, defined_names, is_taken, of_classes}
use Rattle.rb_checker.proofs.Added.{one_more}
use Rattle.rb_checker.proofs.Repeating.{first_twice, names_behind}
use Rattle.rb_checker.proofs.repeated.repeated_class.Goals as goal

pub classes-preserved : goal.classes-preserved
classes-preserved c =
    let items = c.args.classes.now in
    let i = c.classes.class-index in
    let it = c.class-item.result in
    let before = of_classes (take i items) in
    let more = map_more (λ (m : Class). (m.name, m.at)) items i it c.classes-test.true ∙ ap (λ (m : Class). before ++ (m.name, m.at) ∷ []) (sym c.class-item.is) in (
      one_more (defined_names before) (defined_names (of_classes (take (i + 1) items))) it.name c.classes.set c.define.new.set
          (names_behind before _ (it.name, it.at) more) c.classes.invariant.0 c.in_ok-next.ensures.kept,
      first_twice (is_taken c.args.names.now) before (of_classes (take (i + 1) items)) (it.name, it.at) c.classes.found c.in_ok-next.next c.first_of_two-found.result more
          c.classes.invariant.1 (c.in_ok-next.ensures.fault (defined_names before) c.classes.invariant.0 ∙ ap (λ b. first_of (twice_if (b || is_among it.name (defined_names before)) it.at)) c.is_taken.ensures) c.first_of_two-found.ensures,
    )

pub returns : goal.returns
returns c = c.classes.invariant.1 ∙ ap (λ ms. first_of (twice (is_taken c.args.names.now) (of_classes ms))) (take_all c.classes.class-index c.args.classes.now c.classes-test.false)
