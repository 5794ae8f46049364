use Rattle.std.proofs.Common.{◌∙◌, ap, sym, Some}
use Rattle.std.proofs.lemmas.Result.{IfOk-weaker}
use Rattle.local_heap.proofs.Acting.{held_is, object_is, sound_is}
use Rattle.local_heap.proofs.heap.LocalHeap.thing.Goals as goal

pub told-requires-clause-object : goal.told-requires-clause-object
told-requires-clause-object g c =
    object_is c.self.inside.cells.thread (g.S.ShapeStore.shapes c.self.inside.shapes) c.self.inside.cells.items.items c.args.self.now c.self.view_is
    c.args.id c.requires c.index.result.now c.in-Object.object c.index.ensures c.in-Object.is c.self.invariant.0 c.self.invariant.1

pub told-requires-clause-sound : goal.told-requires-clause-sound
told-requires-clause-sound g c =
    sound_is c.self.inside.cells.thread (g.S.ShapeStore.shapes c.self.inside.shapes) c.self.inside.cells.items.items c.args.self.now c.self.view_is
    c.args.id c.requires c.index.result.now c.in-Object.object c.index.ensures c.in-Object.is c.self.invariant.0 c.self.invariant.1

pub returns-in-Object : goal.returns-in-Object
returns-in-Object g c =
    IfOk-weaker c.told.result _ _
    (λ thing is. held_is c.self.inside.cells.thread (g.S.ShapeStore.shapes c.self.inside.shapes) c.self.inside.cells.items.items c.args.self.now c.self.view_is
    c.args.id c.requires c.index.result.now c.in-Object.object c.index.ensures c.in-Object.is c.self.invariant.0 c.self.invariant.1 ∙ ap Some (sym is)) c.told.ensures
