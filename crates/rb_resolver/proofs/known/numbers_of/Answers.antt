use Rattle.std.proofs.Common.{take, length, ap, sym, ◌≤◌, ◌+◌, ◌++◌, ◌∷◌, [], ◌∙◌, arith}
use Rattle.std.specs.Prelude.{nat_eq}
use Rattle.std.specs.HashMap as hash
use Rattle.std.proofs.lemmas.List.{take_more, length-take-le}
use Rattle.rb_tree.specs.declared.node.Method.{Method}
use Rattle.rb_resolver.proofs.Grows.{number_next}
use Rattle.rb_resolver.proofs.known.numbers_of.Goals as goal

pub methods-preserved : goal.methods-preserved
methods-preserved c =
    let methods = c.args.methods.now in
    let i = c.methods.method-index in
    let method = c.method-item.result in
    let more = take_more methods i method c.methods-test.true ∙ ap (λ m. take i methods ++ m ∷ []) (sym c.method-item.is) in
    let within : i ≤ length methods = omega (arith, c.methods-test.true) in
    record {
      number = omega (arith, c.in-Some.ensures.1, c.methods.invariant.number);
      functions = λ name. number_next (λ (m : Method). m.name) name (take i methods) (take (i + 1) methods) method c.methods.number (hash.get nat_eq c.methods.functions name.0) (hash.get nat_eq c.note_number.new.numbers name.0)
          more (c.methods.invariant.number ∙ sym (length-take-le i methods within)) (c.methods.invariant.functions name) (c.in_ok-note_number.ensures name);
    }
