use Rattle.std.proofs.Common.{List, subst}
use Rattle.indexmap.specs.IndexMap.{keys, values}
use Rattle.shape_core.specs.Shape.{Shape, Has, Gains, root_of}
use Rattle.shape_core.proofs.Stores.{Follows-root}
use Rattle.shape_tree.specs.declared.key.Key.{Key}
use Rattle.shape_tree.specs.declared.key.Key.TheVariants.{Root}
use Rattle.shape_tree.specs.Shapes.{shape_of, shapes_of}
use Rattle.shape_tree.proofs.Lookup.{found_at, not_there}
use Rattle.shape_tree.proofs.Made.{has_shape, gains_none}
use Rattle.shape_tree.proofs.Grown.{Grown, grown, not_fresh, IsRow-root}
use Rattle.shape_tree.proofs.tree.TreeShapeStore.root.Goals as goal

pub returns-in-Some-clause-answer : goal.returns-in-Some-clause-answer
returns-in-Some-clause-answer c =
    let key : Key = Root c.args.class in
    let at = c.in-Some.ensures in
    subst (λ (s : List Shape). Has s c.in-Some.known (shape_of s key)) c.self.view_is
    (has_shape (keys c.self.inside.nodes) (values c.self.inside.nodes) c.self.inside.tables c.self.invariant key c.in-Some.known.0 at.0 at.1)

pub returns-in-Some-clause-made : goal.returns-in-Some-clause-made
returns-in-Some-clause-made c =
    let key : Key = Root c.args.class in
    let at = c.in-Some.ensures in
    subst (λ (s : List Shape). Gains s (shape_of s key) s) c.self.view_is
    (gains_none (keys c.self.inside.nodes) (values c.self.inside.nodes) c.self.inside.tables c.self.invariant key c.in-Some.known.0 at.0 at.1)

pub returns-in-Some-get_index_of-clause-answer : goal.returns-in-Some-get_index_of-clause-answer
returns-in-Some-get_index_of-clause-answer c =
    let key : Key = Root c.args.class in
    let at = found_at (keys c.self.inside.nodes) key c.in-Some-get_index_of.at c.in-Some-get_index_of.ensures.index in
    subst (λ (s : List Shape). Has (shapes_of (keys c.self.inside.nodes)) (record { 0 = c.in-Some-get_index_of.at }) (shape_of s key)) c.self.view_is
    (has_shape (keys c.self.inside.nodes) (values c.self.inside.nodes) c.self.inside.tables c.self.invariant key c.in-Some-get_index_of.at at.0 at.1)

pub returns-in-Some-get_index_of-clause-made : goal.returns-in-Some-get_index_of-clause-made
returns-in-Some-get_index_of-clause-made c =
    let key : Key = Root c.args.class in
    let at = found_at (keys c.self.inside.nodes) key c.in-Some-get_index_of.at c.in-Some-get_index_of.ensures.index in
    subst (λ (s : List Shape). Gains s (shape_of s key) (shapes_of (keys c.self.inside.nodes))) c.self.view_is
    (gains_none (keys c.self.inside.nodes) (values c.self.inside.nodes) c.self.inside.tables c.self.invariant key c.in-Some-get_index_of.at at.0 at.1)

-- the tree with the root more
it_grew : (c : goal.In_ok-insert)
    → Grown c.args.self.now (root_of c.args.class) (keys c.insert.new.self) (values c.insert.new.self) c.self.inside.tables (record { 0 = c.len.result })
it_grew c =
    grown c.self.inside.nodes c.insert.new.self c.self.inside.tables (Root c.args.class) _ c.args.self.now
    c.self.invariant c.self.view_is (not_there c.self.inside.nodes (Root c.args.class) c.in_default-get_index_of.ensures.found) tt
    (Follows-root c.args.self.now c.args.class)
    (IsRow-root c.self.inside.tables c.args.class c.root-layout.result c.root-layout.ensures.layout c.root-layout.ensures.fits)
    c.in_ok-insert.ensures.entries c.len.result c.len.ensures.len

pub invariant_of-self-2 : goal.invariant_of-self-2
invariant_of-self-2 c = (it_grew c).tree

pub returns-clause-answer : goal.returns-clause-answer
returns-clause-answer c = (it_grew c).has

pub returns-clause-made : goal.returns-clause-made
returns-clause-made c = (it_grew c).gains

pub returns-clause-valid : goal.returns-clause-valid
returns-clause-valid c = (it_grew c).tree.store

pub returns-in_err-insert-clause-there : goal.returns-in_err-insert-clause-there
returns-in_err-insert-clause-there c = λ there.
    absurd (not_fresh (keys c.self.inside.nodes) (values c.self.inside.nodes) c.self.inside.tables c.args.self.now (Root c.args.class)
    c.self.invariant c.self.view_is tt (not_there c.self.inside.nodes (Root c.args.class) c.in_default-get_index_of.ensures.found) there)
