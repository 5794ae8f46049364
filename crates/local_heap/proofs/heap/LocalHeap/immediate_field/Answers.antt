use Rattle.std.proofs.Common.{Some, ap, sym, refl, arith}
use Rattle.local_heap.proofs.Adding.{is_sound}
use Rattle.local_heap.proofs.Looking.{cell_there, field_told_there, fields_only, no_field_told_there}
use Rattle.local_heap.proofs.heap.LocalHeap.immediate_field.Goals as goal

pub immediate_field-requires-clause-sound : goal.immediate_field-requires-clause-sound
immediate_field-requires-clause-sound g c =
    let shapes = g.S.ShapeStore.shapes c.self.inside.shapes in
    let found = cell_there c.self.inside.cells.thread shapes c.self.inside.cells.items.items c.args.self.now c.self.view_is c.self.invariant
    c.args.id c.index.result.now (sym c.if-self-id.false) (omega (arith, c.if-at-len.false)) c.index.ensures in
    is_sound c.self.inside.cells.thread shapes c.self.inside.cells.items.items c.args.self.now c.self.view_is c.self.invariant
    c.args.id c.index.result.now found c.index.ensures c.in-Object.object c.in-Object.is

pub returns-in-Object-clause-told : goal.returns-in-Object-clause-told
returns-in-Object-clause-told g c =
    let shapes = g.S.ShapeStore.shapes c.self.inside.shapes in
    let found = cell_there c.self.inside.cells.thread shapes c.self.inside.cells.items.items c.args.self.now c.self.view_is c.self.invariant
    c.args.id c.index.result.now (sym c.if-self-id.false) (omega (arith, c.if-at-len.false)) c.index.ensures in
    field_told_there c.self.inside.cells.thread shapes c.self.inside.cells.items.items c.args.self.now c.self.view_is c.self.invariant
    c.args.id _ found c.args.name c.in-Object.object (ap Some c.in-Object.is) c.immediate_field.result c.immediate_field.ensures

pub returns-in-Object-clause-private : goal.returns-in-Object-clause-private
returns-in-Object-clause-private g c =
    let shapes = g.S.ShapeStore.shapes c.self.inside.shapes in
    fields_only c.self.inside.cells.thread shapes c.self.inside.cells.items.items c.args.self.now c.self.view_is c.self.invariant
    c.args.id c.args.name

pub returns-in_default : goal.returns-in_default
returns-in_default g c =
    let shapes = g.S.ShapeStore.shapes c.self.inside.shapes in
    let found = cell_there c.self.inside.cells.thread shapes c.self.inside.cells.items.items c.args.self.now c.self.view_is c.self.invariant
    c.args.id c.index.result.now (sym c.if-self-id.false) (omega (arith, c.if-at-len.false)) c.index.ensures in
    record {
      told =
          no_field_told_there c.self.inside.cells.thread shapes c.self.inside.cells.items.items c.args.self.now c.self.view_is
          c.self.invariant c.args.id _ found c.args.name c.index.result.now refl c.in_default.not-Object;
      private =
          fields_only c.self.inside.cells.thread shapes c.self.inside.cells.items.items c.args.self.now c.self.view_is c.self.invariant
          c.args.id c.args.name;
    }
