use Rattle.std.proofs.Common.{List, [], ◌∷◌, ap, map, subst, ◌++◌, ◌∙◌, append_assoc}
use Rattle.std.specs.List.{flat_map}
use Rattle.rb_tree.specs.declared.node.Class.{Class}
use Rattle.rb_checker.specs.declared.event.Event.{Event}
use Rattle.rb_checker.specs.Bodies.{Tells}
use Rattle.rb_checker.specs.Events.{events_in, bodies_from}
use Rattle.rb_checker.specs.Texts.{method_events}
use Rattle.rb_checker.proofs.threads.texts_of.Goals as goal

pub returns : goal.returns
returns c =
    let p = c.args.program.now in
    let bodies = bodies_from 0 p.bodies in
    let tells = subst (λ bs. Tells c.in_ok-bodies.bodies.total (map (λ e. e.items) c.in_ok-bodies.bodies.kept.items) (bodies_from 0 bs)) c.as_slice.ensures c.in_ok-bodies.ensures in
    let classes = flat_map (λ (k : Class). map (method_events bodies) k.methods) p.classes in
    let functions = map (method_events bodies) p.functions in
    let main = events_in bodies [] p.main in
    c.in_ok-push.ensures.ok
    ∙ ap (λ (es : List Event). c.add_methods.new.texts ++ es ∷ []) (c.from_vec.ensures ∙ c.in_ok-main.ensures bodies tells ∙ ap (events_in bodies []) c.as_slice-4.ensures)
    ∙ ap (λ ts. ts ++ main ∷ []) (c.in_ok-add_methods.ensures bodies tells ∙ ap (λ ms. c.add_classes.new.texts ++ map (method_events bodies) ms) c.as_slice-3.ensures)
    ∙ ap (λ ts. (ts ++ functions) ++ main ∷ [])
    (c.in_ok-add_classes.ensures bodies tells
    ∙ ap (λ ks. c.new-texts.result ++ flat_map (λ (k : Class). map (method_events bodies) k.methods) ks) c.as_slice-2.ensures
    ∙ ap (λ ts. ts ++ classes) c.new-texts.ensures)
    ∙ append_assoc classes functions (main ∷ [])
