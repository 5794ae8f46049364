use Rattle.std.proofs.Common.{take, length, ap, sym, ◌≤◌, ◌+◌, ◌++◌, ◌∷◌, [], ◌∙◌, arith}
use Rattle.std.specs.Prelude.{nat_eq}
use Rattle.std.specs.HashMap as hash
use Rattle.std.proofs.lemmas.List.{take_more, length-take-le}
use Rattle.rb_tree.specs.declared.node.Class.{Class}
use Rattle.rb_resolver.proofs.Grows.{number_next}
use Rattle.rb_resolver.proofs.known.numbers_of_classes.Goals as goal

pub classes-preserved : goal.classes-preserved
classes-preserved c =
    let all = c.args.all.now in
    let i = c.classes.class-index in
    let class = c.class-item.result in
    let more = take_more all i class c.classes-test.true ∙ ap (λ k. take i all ++ k ∷ []) (sym c.class-item.is) in
    let within : i ≤ length all = omega (arith, c.classes-test.true) in
    record {
      number = omega (arith, c.in-Some.ensures.1, c.classes.invariant.number);
      classes = λ name. number_next (λ (k : Class). k.name) name (take i all) (take (i + 1) all) class c.classes.number (hash.get nat_eq c.classes.classes name.0) (hash.get nat_eq c.note_number.new.numbers name.0)
          more (c.classes.invariant.number ∙ sym (length-take-le i all within)) (c.classes.invariant.classes name) (c.in_ok-note_number.ensures name);
    }
