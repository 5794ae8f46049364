use Rattle.std.proofs.Common.{[], None, Some, map, ap, subst, ◌++◌, ◌∙◌}
use Rattle.std.specs.List.{flat_map}
use Rattle.rb_tree.specs.declared.node.Class.{Class}
use Rattle.rb_tree.specs.declared.node.Method.{Method}
use Rattle.rb_checker.specs.Bodies.{Tells}
use Rattle.rb_checker.specs.Events.{events_in, bodies_from}
use Rattle.rb_checker.specs.Locals.{uses_in}
use Rattle.rb_checker.specs.Scoped as spec
use Rattle.rb_checker.specs.Texts.{method_events}
use Rattle.rb_checker.proofs.Making.{all_made, of_method}
use Rattle.rb_checker.proofs.naming.names_of_scopes.Goals as goal

pub returns : goal.returns
returns c =
    let p = c.args.program.now in
    let bodies = bodies_from 0 p.bodies in
    let tells = subst (λ bs. Tells c.in_ok-bodies.bodies.total (map (λ e. e.items) c.in_ok-bodies.bodies.kept.items) (bodies_from 0 bs)) c.as_slice.ensures c.in_ok-bodies.ensures in
    let start = c.new-made.result.items in
    let classes = c.names_of_classes.new.made.items in
    let functions = c.names_of_methods.new.made.items in
    let made = all_made p start classes functions c.names_of_text.new.made.items c.new-made.ensures.items
    (c.in_ok-classes.ensures.made bodies tells ∙ ap (λ ks. start ++ flat_map (λ (k : Class). flat_map (of_method p) k.methods) ks) c.as_slice-2.ensures)
    (c.in_ok-functions.ensures.made bodies tells ∙ ap (λ ms. classes ++ flat_map (of_method p) ms) c.as_slice-3.ensures)
    (c.in_ok-main.ensures.made bodies tells ∙ ap (λ ns. functions ++ spec.made_in (uses_in (events_in bodies [] ns))) c.as_slice-4.ensures) in
    record {
      blocks = λ at. c.in_ok-blocks.ensures at.from ∙ ap (spec.names_behind [] (Some at.from)) (c.as_slice-5.ensures.value ∙ made);
      classes = c.in_ok-classes.ensures.names bodies tells ∙ ap (map (λ (k : Class). map (λ (m : Method). spec.names_in (uses_in (method_events bodies m)) None) k.methods)) c.as_slice-2.ensures;
      functions = c.in_ok-functions.ensures.names bodies tells ∙ ap (map (λ (m : Method). spec.names_in (uses_in (method_events bodies m)) None)) c.as_slice-3.ensures;
      main = c.in_ok-main.ensures.names bodies tells ∙ ap (λ ns. spec.names_in (uses_in (events_in bodies [] ns)) None) c.as_slice-4.ensures;
    }
