use Rattle.std.proofs.Common.{List, ◌≡◌, ◌∙◌, ap, sym, subst, Contains}
use Rattle.indexmap.specs.IndexMap.{keys, values}
use Rattle.shape_core.specs.Shape.{Shape, IsStore, Has, Gains}
use Rattle.shape_core.proofs.Stores.{Follows-child}
use Rattle.shape_tree.specs.declared.key.Key.{Key}
use Rattle.shape_tree.specs.declared.key.Key.TheVariants.{Child}
use Rattle.shape_tree.specs.Shapes.{IsRow, shape_of, shapes_of}
use Rattle.shape_tree.proofs.Lookup.{found_at, not_there}
use Rattle.shape_tree.proofs.Made.{has_shape, gains_none}
use Rattle.shape_tree.proofs.Grown.{Grown, grown, not_fresh}
use Rattle.shape_tree.proofs.tree.Tree.follow_unguessed.Goals as goal

pub returns-in-Some-clause-answer : goal.returns-in-Some-clause-answer
returns-in-Some-clause-answer c =
    let key : Key = Child c.args.shape c.args.edge in
    let at = found_at (keys c.self.inside.nodes) key c.in-Some.at c.in-Some.ensures.index in
    subst (λ (s : List Shape). Has (shapes_of (keys c.self.inside.nodes)) (record { 0 = c.in-Some.at }) (shape_of s key)) c.self.view_is
    (has_shape (keys c.self.inside.nodes) (values c.self.inside.nodes) c.self.inside.tables c.self.invariant key c.in-Some.at at.0 at.1)

pub returns-in-Some-clause-made : goal.returns-in-Some-clause-made
returns-in-Some-clause-made c =
    let key : Key = Child c.args.shape c.args.edge in
    let at = found_at (keys c.self.inside.nodes) key c.in-Some.at c.in-Some.ensures.index in
    subst (λ (s : List Shape). Gains s (shape_of s key) (shapes_of (keys c.self.inside.nodes))) c.self.view_is
    (gains_none (keys c.self.inside.nodes) (values c.self.inside.nodes) c.self.inside.tables c.self.invariant key c.in-Some.at at.0 at.1)

-- the tree with the shape more
it_grew : (c : goal.In_ok-insert)
    → Grown c.args.self.now (shape_of c.args.self.now (Child c.args.shape c.args.edge)) (keys c.insert.new.self) (values c.insert.new.self) c.grow.new.tables
    (record { 0 = c.len.result })
it_grew c =
    let key : Key = Child c.args.shape c.args.edge in
    let kept : keys c.self.inside.nodes ≡ keys c.grow.new.nodes = sym c.in_ok-row.ensures.keys in
    let seen : shapes_of (keys c.grow.new.nodes) ≡ c.args.self.now = ap shapes_of (sym kept) ∙ c.self.view_is in
    let new : Contains (keys c.grow.new.nodes) key → ⊥
    = subst (λ (k : List Key). Contains k key → ⊥) kept (not_there c.self.inside.nodes key c.in_default.ensures.found) in
    let valid = subst IsStore c.self.view_is c.self.invariant.store in
    grown c.grow.new.nodes c.insert.new.self c.grow.new.tables key c.in_ok-row.row c.args.self.now
    c.in_ok-row.ensures.tree seen new c.requires.known
    (Follows-child c.args.self.now c.args.shape c.args.edge valid c.requires.known c.requires.allowed)
    (subst (λ (s : List Shape). IsRow c.grow.new.tables (shape_of s key) c.in_ok-row.row) c.self.view_is c.in_ok-row.ensures.row)
    c.in_ok-insert.ensures.entries c.len.result c.len.ensures.len

pub invariant_of-self-2 : goal.invariant_of-self-2
invariant_of-self-2 c = (it_grew c).tree

pub returns-clause-answer : goal.returns-clause-answer
returns-clause-answer c = (it_grew c).has

pub returns-clause-made : goal.returns-clause-made
returns-clause-made c = (it_grew c).gains

pub returns-clause-valid : goal.returns-clause-valid
returns-clause-valid c = (it_grew c).tree.store

pub returns-in_err-row-clause-there : goal.returns-in_err-row-clause-there
returns-in_err-row-clause-there c = λ there.
    absurd (not_fresh (keys c.self.inside.nodes) (values c.self.inside.nodes) c.self.inside.tables c.args.self.now (Child c.args.shape c.args.edge)
    c.self.invariant c.self.view_is c.requires.known
    (not_there c.self.inside.nodes (Child c.args.shape c.args.edge) c.in_default.ensures.found) there)

pub returns-in_err-insert-clause-there : goal.returns-in_err-insert-clause-there
returns-in_err-insert-clause-there c = λ there.
    absurd (not_fresh (keys c.self.inside.nodes) (values c.self.inside.nodes) c.self.inside.tables c.args.self.now (Child c.args.shape c.args.edge)
    c.self.invariant c.self.view_is c.requires.known
    (not_there c.self.inside.nodes (Child c.args.shape c.args.edge) c.in_default.ensures.found) there)
