use Rattle.std.proofs.Common.{List, [], ◌∷◌, sym, ap, map, take, None, ◌++◌, ◌+◌, ◌∙◌, append-nil}
use Rattle.std.specs.List.{flat_map}
use Rattle.std.proofs.lemmas.List.{take_all}
use Rattle.rb_tree.specs.declared.node.Method.{Method}
use Rattle.rb_tree.specs.declared.span.NameId.{NameId}
use Rattle.rb_checker.specs.Events.{events_in}
use Rattle.rb_checker.specs.Locals.{uses_in}
use Rattle.rb_checker.specs.Scoped as spec
use Rattle.rb_checker.specs.Texts.{method_events}
use Rattle.rb_checker.proofs.Makes.{next_is, map_next, flat_map_next}
use Rattle.rb_checker.proofs.naming.names_of_methods.Goals as goal

pub methods-init : goal.methods-init
methods-init c = record {
  names = λ b tells. c.new-all.ensures;
  made = λ b tells. sym (append-nil c.args.made.now.items);
}

pub methods-preserved : goal.methods-preserved
methods-preserved c =
    let methods = c.args.methods.now in
    let i = c.methods.method-index in
    let method = c.method-item.result in
    let more = next_is methods i method c.methods-test.true c.method-item.is in
    record {
      names = λ b tells.
          map_next (λ (m : Method). spec.names_in (uses_in (method_events b m)) None) (take i methods) (take (i + 1) methods) method c.methods.all c.push.new.self more (c.methods.invariant.names b tells)
          (c.in_ok-push.ensures.ok ∙ ap (λ (ns : List NameId). c.methods.all ++ ns ∷ []) (c.in_ok-names.ensures.names b tells
          ∙ ap (λ ps. spec.names_in (uses_in (events_in b ps c.as_slice-in-methods.result.now)) None) c.as_slice.ensures
          ∙ ap (λ ns. spec.names_in (uses_in (events_in b method.params ns)) None) c.as_slice-in-methods.ensures));
      made = λ b tells.
          flat_map_next (λ (m : Method). spec.made_in (uses_in (method_events b m))) (take i methods) (take (i + 1) methods) method c.args.made.now.items c.methods.made.items c.names_of_text.new.made.items more
          (c.methods.invariant.made b tells)
          (c.in_ok-names.ensures.made b tells
          ∙ ap (λ ps. c.methods.made.items ++ spec.made_in (uses_in (events_in b ps c.as_slice-in-methods.result.now))) c.as_slice.ensures
          ∙ ap (λ ns. c.methods.made.items ++ spec.made_in (uses_in (events_in b method.params ns))) c.as_slice-in-methods.ensures);
    }

pub returns : goal.returns
returns c =
    let all = take_all c.methods.method-index c.args.methods.now c.methods-test.false in
    record {
      names = λ b tells. c.methods.invariant.names b tells ∙ ap (map (λ (m : Method). spec.names_in (uses_in (method_events b m)) None)) all;
      made = λ b tells. c.methods.invariant.made b tells ∙ ap (λ ms. c.args.made.now.items ++ flat_map (λ (m : Method). spec.made_in (uses_in (method_events b m))) ms) all;
    }
