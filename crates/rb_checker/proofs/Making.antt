-- All the locals that the texts of a program make.
use Rattle.std.proofs.Common.{◌≡◌, List, [], ◌∷◌, ◌++◌, refl, sym, ap, ◌∙◌, append_assoc}
use Rattle.std.specs.List.{flat_map}
use Rattle.std.proofs.lemmas.Grind.{flat_map-append}
use Rattle.rb_tree.specs.declared.node.Class.{Class}
use Rattle.rb_tree.specs.declared.node.Method.{Method}
use Rattle.rb_tree.specs.declared.node.Program.{Program}
use Rattle.rb_checker.specs.declared.event.Event.{Event}
use Rattle.rb_checker.specs.declared.locals.Local.{Local}
use Rattle.rb_checker.specs.Check.{texts}
use Rattle.rb_checker.specs.Events.{events_in, bodies_from}
use Rattle.rb_checker.specs.Locals.{uses_in}
use Rattle.rb_checker.specs.Scoped.{made_by, made_in}
use Rattle.rb_checker.specs.Texts.{method_events}
use Rattle.rb_checker.proofs.Scripting.{of_texts}

of_each : (texts : List (List Event)) → made_in (flat_map uses_in texts) ≡ flat_map (λ (es : List Event). made_in (uses_in es)) texts
of_each [] = refl
of_each (es ∷ texts) = flat_map-append made_by (uses_in es) (flat_map uses_in texts) ∙ ap (λ ls. made_in (uses_in es) ++ ls) (of_each texts)

module _ (p : Program) where
  -- the locals that a method makes, those that the methods of classes make, and those of the top level
  abbrev pub of_method : Method → List Local
  of_method m = made_in (uses_in (method_events (bodies_from 0 p.bodies) m))

  abbrev pub of_classes : List Local
  of_classes = flat_map (λ (k : Class). flat_map of_method k.methods) p.classes

  abbrev pub of_functions : List Local
  of_functions = flat_map of_method p.functions

  abbrev pub of_main : List Local
  of_main = made_in (uses_in (events_in (bodies_from 0 p.bodies) [] p.main))

  pub all_made : (none classes functions all : List Local) → none ≡ [] → classes ≡ none ++ of_classes → functions ≡ classes ++ of_functions → all ≡ functions ++ of_main
      → all ≡ made_in (flat_map uses_in (texts p))
  all_made none classes functions all n c f a =
      a ∙ ap (λ ls. ls ++ of_main) (f ∙ ap (λ ls. ls ++ of_functions) (c ∙ ap (λ ls. ls ++ of_classes) n)) ∙ append_assoc of_classes of_functions of_main
      ∙ sym (of_texts (λ (es : List Event). made_in (uses_in es)) (method_events (bodies_from 0 p.bodies)) p.classes p.functions (events_in (bodies_from 0 p.bodies) [] p.main))
      ∙ sym (of_each (texts p))
