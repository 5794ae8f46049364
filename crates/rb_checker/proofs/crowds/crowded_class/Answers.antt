use Rattle.std.proofs.Common.{List, ap, sym, map, ◌∙◌, drop_of_length-le}
use Rattle.std.proofs.lemmas.List.{take_rest}
use Rattle.rb_tree.specs.declared.node.Class.{Class}
use Rattle.rb_checker.specs.declared.fault.CheckFault.TheVariants as fault
use Rattle.rb_checker.specs.Fault.{first_of}
use Rattle.rb_checker.proofs.crowds.crowded_class.Goals as goal

pub returns-then-classes-le-MAX_CLASSES : goal.returns-then-classes-le-MAX_CLASSES
returns-then-classes-le-MAX_CLASSES c =
    ap (λ (cs : List Class). first_of (map (λ (k : Class). fault.TooManyClasses k.at) cs)) (sym (drop_of_length-le c.args.classes.now c.if-classes-le-MAX_CLASSES.true))

pub returns : goal.returns
returns c =
    c.first_class.ensures ∙ ap (λ (cs : List Class). first_of (map (λ (k : Class). fault.TooManyClasses k.at) cs)) (take_rest c.args.classes.now 256)
