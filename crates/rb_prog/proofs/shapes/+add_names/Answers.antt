use Rattle.std.proofs.Common.{subst, refl, arith}
use Rattle.std.proofs.lemmas.Result.{IfOk-weaker}
use Rattle.shape_core.specs.Shape.{IsParent, shape_at, path_at}
use Rattle.rb_prog.proofs.Shaping.{parent_before, parent_known, parent_path, fields_behind}
use Rattle.rb_prog.proofs.shapes.+add_names.Goals as goal

pub add_names-requires : goal.add_names-requires
add_names-requires t c =
    let shapes = c.args.shapes.now in
    let named = c.args.named in
    let parent = subst (IsParent shapes (shape_at shapes named)) c.in-Some.is c.facts-facts.ensures.parent in
    let before = parent_before shapes named c.in-Some.parent (path_at shapes named) c.facts-facts.ensures.valid c.requires.named refl parent in
    (omega (arith, before), (c.requires.known, parent_known shapes (shape_at shapes named).class (path_at shapes named) c.in-Some.parent parent))

pub returns-in_ok-add_names-in-Some : goal.returns-in_ok-add_names-in-Some
returns-in_ok-add_names-in-Some t c =
    let shapes = c.args.shapes.now in
    let named = c.args.named in
    let parent = subst (IsParent shapes (shape_at shapes named)) c.in-Some.is c.facts-facts.ensures.parent in
    let from = parent_path shapes (shape_at shapes named).class (path_at shapes named) c.in-Some.parent parent in
    IfOk-weaker c.add_added.result _ _
    (λ done added.
    fields_behind c.args.program.now (path_at shapes c.args.shape) (path_at shapes c.in-Some.parent) (path_at shapes named) c.facts-facts.result.edge c.args.line.now.items
    c.add_names.new.line.items c.add_added.new.line.items from c.facts-facts.ensures.edge c.in_ok-add_names-in-Some.ensures added)
    c.add_added.ensures
