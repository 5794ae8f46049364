use Rattle.std.proofs.Common.{List, [], ◌∷◌, sym, ap, map, take, None, ◌++◌, ◌+◌, ◌∙◌, append-nil}
use Rattle.std.specs.List.{flat_map}
use Rattle.std.proofs.lemmas.List.{take_all}
use Rattle.rb_tree.specs.declared.node.Class.{Class}
use Rattle.rb_tree.specs.declared.node.Method.{Method}
use Rattle.rb_tree.specs.declared.span.NameId.{NameId}
use Rattle.rb_checker.specs.Locals.{uses_in}
use Rattle.rb_checker.specs.Scoped as spec
use Rattle.rb_checker.specs.Texts.{method_events}
use Rattle.rb_checker.proofs.Makes.{next_is, map_next, flat_map_next}
use Rattle.rb_checker.proofs.naming.names_of_classes.Goals as goal

pub classes-init : goal.classes-init
classes-init c = record {
  names = λ b tells. c.new-all.ensures;
  made = λ b tells. sym (append-nil c.args.made.now.items);
}

pub classes-preserved : goal.classes-preserved
classes-preserved c =
    let classes = c.args.classes.now in
    let i = c.classes.class-index in
    let class = c.class-item.result in
    let more = next_is classes i class c.classes-test.true c.class-item.is in
    record {
      names = λ b tells.
          map_next (λ (k : Class). map (λ (m : Method). spec.names_in (uses_in (method_events b m)) None) k.methods) (take i classes) (take (i + 1) classes) class c.classes.all c.push.new.self more (c.classes.invariant.names b tells)
          (c.in_ok-push.ensures.ok ∙ ap (λ (ns : List (List NameId)). c.classes.all ++ ns ∷ []) (c.in_ok-names.ensures.names b tells
          ∙ ap (map (λ (m : Method). spec.names_in (uses_in (method_events b m)) None)) c.as_slice.ensures));
      made = λ b tells.
          flat_map_next (λ (k : Class). flat_map (λ (m : Method). spec.made_in (uses_in (method_events b m))) k.methods) (take i classes) (take (i + 1) classes) class
          c.args.made.now.items c.classes.made.items c.names_of_methods.new.made.items more (c.classes.invariant.made b tells)
          (c.in_ok-names.ensures.made b tells ∙ ap (λ ms. c.classes.made.items ++ flat_map (λ (m : Method). spec.made_in (uses_in (method_events b m))) ms) c.as_slice.ensures);
    }

pub returns : goal.returns
returns c =
    let all = take_all c.classes.class-index c.args.classes.now c.classes-test.false in
    record {
      names = λ b tells. c.classes.invariant.names b tells ∙ ap (map (λ (k : Class). map (λ (m : Method). spec.names_in (uses_in (method_events b m)) None) k.methods)) all;
      made = λ b tells.
          c.classes.invariant.made b tells
          ∙ ap (λ ks. c.args.made.now.items ++ flat_map (λ (k : Class). flat_map (λ (m : Method). spec.made_in (uses_in (method_events b m))) k.methods) ks) all;
    }
