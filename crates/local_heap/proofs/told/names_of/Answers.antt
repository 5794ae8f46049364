use Rattle.std.proofs.Common.{◌<◌, ◌∙◌, ◌++◌, Option, ap, sym, subst, length, append-nil}
use Rattle.std.specs.Prelude.{reverse}
use Rattle.shape_core.specs.declared.facts.ShapeId.{ShapeId}
use Rattle.shape_core.specs.Shape.{path_at}
use Rattle.shape_core.specs.Path.{names_on}
use Rattle.local_heap.specs.Fields.{given_name}
use Rattle.local_heap.proofs.Walking.{Known, rest_of, steps_left, walks, known_parent, fewer_steps, whole_slice}
use Rattle.local_heap.proofs.told.names_of.Goals as goal

pub loop-at-preserved : goal.loop-at-preserved
loop-at-preserved g c = record {
  known = known_parent (g.S.ShapeStore.shapes c.args.shapes.now) _ _ c.facts-facts.result.parent c.facts-facts.ensures.parent;
  names =
      walks (g.S.ShapeStore.shapes c.args.shapes.now) _ _ c.facts-facts.result.parent c.loop-at.names.items c.note.new.names.items c.facts-facts.ensures.parent
      (c.in_ok-note.ensures ∙ ap (λ e. c.loop-at.names.items ++ given_name e) c.facts-facts.ensures.edge)
      ∙ ap (λ (o : Option ShapeId). names_on (rest_of (g.S.ShapeStore.shapes c.args.shapes.now) o) ++ reverse c.loop-at.names.items) (sym c.in-Some.is)
      ∙ c.loop-at.invariant.names;
}

pub loop-at-smaller : goal.loop-at-smaller
loop-at-smaller g c =
    subst (λ (o : Option ShapeId). steps_left (g.S.ShapeStore.shapes c.args.shapes.now) c.facts-facts.result.parent < steps_left (g.S.ShapeStore.shapes c.args.shapes.now) o)
    (sym c.in-Some.is) (fewer_steps (g.S.ShapeStore.shapes c.args.shapes.now) _ _ c.facts-facts.result.parent c.facts-facts.ensures.parent)

pub facts-facts-requires : goal.facts-facts-requires
facts-facts-requires g c = subst (Known (g.S.ShapeStore.shapes c.args.shapes.now)) c.in-Some.is c.loop-at.invariant.known

pub loop-at-init : goal.loop-at-init
loop-at-init g c = record {
  known = c.requires;
  names = ap (λ ns. names_on (path_at (g.S.ShapeStore.shapes c.args.shapes.now) c.args.shape) ++ reverse ns) c.new-names.ensures.items ∙ append-nil _;
}

pub returns : goal.returns
returns g c =
    whole_slice c.loop-at.names.items c.reverse.new.self c.loop-at.names.len (c.reverse.ensures.len ∙ ap length c.as_mut_slice.ensures.value) c.loop-at.names.ok.0
    ∙ c.reverse.ensures.after
    ∙ ap reverse c.as_mut_slice.ensures.value
    ∙ ap (λ (o : Option ShapeId). names_on (rest_of (g.S.ShapeStore.shapes c.args.shapes.now) o) ++ reverse c.loop-at.names.items) (sym c.in_default.is)
    ∙ c.loop-at.invariant.names
