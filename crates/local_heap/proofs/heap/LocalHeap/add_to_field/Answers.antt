use Rattle.std.proofs.Common.{◌≡◌, rules, sym, to_z, of_z, w64, arith}
use Rattle.local_heap.proofs.Adding.{Summed, no_object, sum_there}
use Rattle.local_heap.proofs.Looking.{cell_there, fields_only}
use Rattle.local_heap.proofs.heap.LocalHeap.add_to_field.Given as given
use Rattle.local_heap.proofs.heap.LocalHeap.add_to_field.Goals as goal
use Rattle.local_heap.proofs.heap.LocalHeap.add_to_field.Goals.{in-Object, in_default}

is_summed : (g : given.Over) (c : goal.Joined-index_mut g) → Summed c.args.self.now c.args.id c.args.name c.args.n c.match-index_mut.result
    c.match-index_mut.self-inside.cells.thread (g.S.ShapeStore.shapes c.match-index_mut.self-inside.shapes) c.match-index_mut.self-inside.cells.items.items
is_summed g c =
    let z : to_z w64 (of_z w64 c.args.n) ≡ c.args.n = search rules in
    let found = cell_there c.self.inside.cells.thread (g.S.ShapeStore.shapes c.self.inside.shapes) c.self.inside.cells.items.items c.args.self.now c.self.view_is c.self.invariant
    c.args.id c.index_mut.result.now (sym c.if-self-id.false) (omega (arith, c.if-at-len.false)) c.index_mut.ensures.value in
    elim c.match-index_mut.branch [
      | in-Object w ↦
          rw (w.result-is, w.self-inside-is)
          (sum_there c.self.inside.cells.thread (g.S.ShapeStore.shapes c.self.inside.shapes) c.self.inside.cells.items.items c.args.self.now c.self.view_is c.self.invariant
          c.args.id c.index_mut.result.now found c.index_mut.ensures.value w.in-Object.object w.in-Object.is c.args.name c.args.n
          w.add_to_field.new.self w.add_to_field.result (rw z at w.add_to_field.ensures.sum) w.add_to_field.ensures.written w.add_to_field.ensures.kept)
      | in_default w ↦
          rw (w.result-is, w.self-inside-is)
          (no_object c.self.inside.cells.thread (g.S.ShapeStore.shapes c.self.inside.shapes) c.self.inside.cells.items.items c.args.self.now c.self.view_is c.self.invariant
          c.args.id c.index_mut.result.now found c.index_mut.ensures.value c.args.name c.args.n w.in_default.not-Object)
    ]

pub invariant_of-self : goal.invariant_of-self
invariant_of-self g c = (is_summed g c).whole

pub returns-clause-there : goal.returns-clause-there
returns-clause-there g c = (is_summed g c).there

pub returns-clause-gave : goal.returns-clause-gave
returns-clause-gave g c = (is_summed g c).gave

pub returns-clause-read : goal.returns-clause-read
returns-clause-read g c = fields_only c.self.inside.cells.thread (g.S.ShapeStore.shapes c.self.inside.shapes) c.self.inside.cells.items.items c.args.self.now c.self.view_is c.self.invariant c.args.id c.args.name

pub returns-clause-gives : goal.returns-clause-gives
returns-clause-gives g c = (is_summed g c).gives

pub returns-clause-private : goal.returns-clause-private
returns-clause-private g c = (is_summed g c).private

pub returns-clause-none : goal.returns-clause-none
returns-clause-none g c = (is_summed g c).none

pub returns-clause-exact : goal.returns-clause-exact
returns-clause-exact g c = (is_summed g c).exact
