use Rattle.std.proofs.Common.{ap, ◌∙◌}
use Rattle.std.specs.List.{flat_map}
use Rattle.rb_tree.specs.declared.node.Class.{Class}
use Rattle.rb_checker.specs.Fault.{first_of}
use Rattle.rb_checker.specs.Twice.{methods_twice, classes_twice}
use Rattle.rb_checker.proofs.Firsts.{first_of_three}
use Rattle.rb_checker.proofs.repeated.find_repeated.Goals as goal

pub returns : goal.returns
returns c =
    let p = c.args.program.now in
    first_of_three (classes_twice p.names p.classes) (methods_twice p.functions) (flat_map (λ (k : Class). methods_twice k.methods) p.classes)
    c.in_ok-in_program.in_program c.in_ok-in_functions.in_functions c.in_ok-in_classes.in_classes c.first_of_two.result c.first_of_two-2.result
    (c.in_ok-in_program.ensures ∙ ap (λ cs. first_of (classes_twice p.names cs)) c.as_slice.ensures)
    (c.in_ok-in_functions.ensures ∙ ap (λ ms. first_of (methods_twice ms)) c.as_slice-2.ensures)
    (c.in_ok-in_classes.ensures ∙ ap (λ cs. first_of (flat_map (λ (k : Class). methods_twice k.methods) cs)) c.as_slice-3.ensures)
    c.first_of_two.ensures c.first_of_two-2.ensures
