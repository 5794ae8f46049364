use Rattle.rb_model.specs.Doing.{doing}
use Rattle.local_heap.proofs.Standing.{cell_whole, cell_reply, cell_private, cell_err, cell_refused}
use Rattle.local_heap.proofs.heap.LocalHeap.apply_within.Goals as goal

pub invariant_of-self : goal.invariant_of-self
invariant_of-self g c =
    cell_whole c.self.inside.cells.thread (g.S.ShapeStore.shapes c.self.inside.shapes) c.self.inside.cells.items.items c.args.self.now c.self.view_is c.self.invariant
    c.args.id c.requires.held c.index_mut.result.now c.index_mut.ensures.value c.apply.new.self (doing c.args.act) c.requires.other c.apply.result c.apply.ensures

pub returns-clause-reply : goal.returns-clause-reply
returns-clause-reply g c =
    cell_reply c.self.inside.cells.thread (g.S.ShapeStore.shapes c.self.inside.shapes) c.self.inside.cells.items.items c.args.self.now c.self.view_is c.self.invariant
    c.args.id c.requires.held c.index_mut.result.now c.index_mut.ensures.value c.apply.new.self (doing c.args.act) c.requires.other c.apply.result c.apply.ensures

pub returns-clause-private : goal.returns-clause-private
returns-clause-private g c =
    cell_private c.self.inside.cells.thread (g.S.ShapeStore.shapes c.self.inside.shapes) c.self.inside.cells.items.items c.args.self.now c.self.view_is c.self.invariant
    c.args.id c.requires.held c.index_mut.result.now c.index_mut.ensures.value c.apply.new.self (doing c.args.act) c.requires.other c.apply.result c.apply.ensures

pub returns-clause-err : goal.returns-clause-err
returns-clause-err g c =
    cell_err c.self.inside.cells.thread (g.S.ShapeStore.shapes c.self.inside.shapes) c.self.inside.cells.items.items c.args.self.now c.self.view_is c.self.invariant
    c.args.id c.requires.held c.index_mut.result.now c.index_mut.ensures.value c.apply.new.self (doing c.args.act) c.requires.other c.apply.result c.apply.ensures

pub returns-clause-refused : goal.returns-clause-refused
returns-clause-refused g c =
    cell_refused c.self.inside.cells.thread (g.S.ShapeStore.shapes c.self.inside.shapes) c.self.inside.cells.items.items c.args.self.now c.self.view_is c.self.invariant
    c.args.id c.requires.held c.index_mut.result.now c.index_mut.ensures.value c.apply.new.self (doing c.args.act) c.requires.other c.apply.result c.apply.ensures
