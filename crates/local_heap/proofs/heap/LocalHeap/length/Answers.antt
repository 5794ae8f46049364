use Rattle.std.proofs.Common.{ap, sym}
use Rattle.std.specs.Option.{option_copied}
use Rattle.local_heap.specs.Contents.{has_length}
use Rattle.local_heap.proofs.Looking.{counts_only, counts_there, none_there}
use Rattle.local_heap.proofs.heap.LocalHeap.length.Goals as goal

pub returns-in-Some-clause-value : goal.returns-in-Some-clause-value
returns-in-Some-clause-value g c =
    counts_there c.self.inside.cells.thread (g.S.ShapeStore.shapes c.self.inside.shapes) c.self.inside.cells.items.items c.args.self.now c.self.view_is c.self.invariant c.args.id (option_copied c.cell.result) c.cell.ensures c.in-Some.cell.now (ap option_copied c.in-Some.is) c.length.result c.length.ensures.value

pub returns-in-Some-clause-private : goal.returns-in-Some-clause-private
returns-in-Some-clause-private g c = counts_only c.self.inside.cells.thread (g.S.ShapeStore.shapes c.self.inside.shapes) c.self.inside.cells.items.items c.args.self.now c.self.view_is c.self.invariant c.args.id

pub returns-in-None-clause-held : goal.returns-in-None-clause-held
returns-in-None-clause-held g c = ap has_length (sym (none_there c.self.inside.cells.thread (g.S.ShapeStore.shapes c.self.inside.shapes) c.self.inside.cells.items.items c.args.self.now c.self.view_is c.self.invariant c.args.id (option_copied c.cell.result) c.cell.ensures (ap option_copied c.in-None.is)))

pub returns-in-None-clause-private : goal.returns-in-None-clause-private
returns-in-None-clause-private g c = counts_only c.self.inside.cells.thread (g.S.ShapeStore.shapes c.self.inside.shapes) c.self.inside.cells.items.items c.args.self.now c.self.view_is c.self.invariant c.args.id
