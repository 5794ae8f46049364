use Rattle.std.proofs.Common.{List, subst}
use Rattle.indexmap.specs.IndexMap.{keys, values}
use Rattle.shape_core.specs.Shape.{Shape, Has, Gains}
use Rattle.shape_tree.specs.declared.key.Key.{Key}
use Rattle.shape_tree.specs.declared.key.Key.TheVariants.{Child}
use Rattle.shape_tree.specs.Shapes.{shape_of}
use Rattle.shape_tree.proofs.Made.{has_shape, gains_none}
use Rattle.shape_tree.proofs.tree.TreeShapeStore.follow.Goals as goal

pub returns-in-Some-clause-answer : goal.returns-in-Some-clause-answer
returns-in-Some-clause-answer c =
    let key : Key = Child c.args.shape c.args.edge in
    let at = c.in-Some.ensures in
    subst (λ (s : List Shape). Has s c.in-Some.known (shape_of s key)) c.self.view_is
    (has_shape (keys c.self.inside.nodes) (values c.self.inside.nodes) c.self.inside.tables c.self.invariant key c.in-Some.known.0 at.0 at.1)

pub returns-in-Some-clause-made : goal.returns-in-Some-clause-made
returns-in-Some-clause-made c =
    let key : Key = Child c.args.shape c.args.edge in
    let at = c.in-Some.ensures in
    subst (λ (s : List Shape). Gains s (shape_of s key) s) c.self.view_is
    (gains_none (keys c.self.inside.nodes) (values c.self.inside.nodes) c.self.inside.tables c.self.invariant key c.in-Some.known.0 at.0 at.1)
