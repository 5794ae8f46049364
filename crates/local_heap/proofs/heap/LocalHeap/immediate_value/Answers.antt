use Rattle.std.proofs.Common.{◌∙◌, ap, sym}
use Rattle.std.specs.Option.{option_copied}
use Rattle.rb_model.specs.Acts.{KGet}
use Rattle.rb_model.specs.Values.{plain}
use Rattle.rb_model.specs.Immediates.{told_answer}
use Rattle.local_heap.proofs.Looking.{looks_only, none_there, value_told_there}
use Rattle.local_heap.proofs.heap.LocalHeap.immediate_value.Goals as goal

pub returns-in-Some-clause-told : goal.returns-in-Some-clause-told
returns-in-Some-clause-told g c =
    c.immediate_value.ensures ∙ value_told_there c.self.inside.cells.thread (g.S.ShapeStore.shapes c.self.inside.shapes) c.self.inside.cells.items.items c.args.self.now c.self.view_is c.self.invariant c.args.id (option_copied c.cell.result) c.cell.ensures (plain c.args.key.now) c.in-Some.cell.now (ap option_copied c.in-Some.is)

pub returns-in-Some-clause-private : goal.returns-in-Some-clause-private
returns-in-Some-clause-private g c = looks_only c.self.inside.cells.thread (g.S.ShapeStore.shapes c.self.inside.shapes) c.self.inside.cells.items.items c.args.self.now c.self.view_is c.self.invariant c.args.id (plain c.args.key.now)

pub returns-in-None-clause-told : goal.returns-in-None-clause-told
returns-in-None-clause-told g c =
    ap (λ o. told_answer o (KGet (plain c.args.key.now)))
    (sym (none_there c.self.inside.cells.thread (g.S.ShapeStore.shapes c.self.inside.shapes) c.self.inside.cells.items.items c.args.self.now c.self.view_is c.self.invariant c.args.id (option_copied c.cell.result) c.cell.ensures (ap option_copied c.in-None.is)))

pub returns-in-None-clause-private : goal.returns-in-None-clause-private
returns-in-None-clause-private g c = looks_only c.self.inside.cells.thread (g.S.ShapeStore.shapes c.self.inside.shapes) c.self.inside.cells.items.items c.args.self.now c.self.view_is c.self.invariant c.args.id (plain c.args.key.now)
