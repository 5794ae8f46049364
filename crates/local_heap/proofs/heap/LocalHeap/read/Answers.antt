use Rattle.std.proofs.Common.{◌∙◌, refl, ap, sym}
use Rattle.std.proofs.lemmas.Result.{IfOk-weaker, on_err_weaker}
use Rattle.rb_model.specs.Acts.{GetField}
use Rattle.rb_model.specs.Things.{Thing, gives_to}
use Rattle.local_heap.specs.Memory.{may_want}
use Rattle.local_heap.specs.Cells.{contents}
use Rattle.local_heap.proofs.Standing.{is_thing, unchanged}
use Rattle.local_heap.proofs.Objects.{always_ok}
use Rattle.local_heap.proofs.Acting.{thing_is, object_is, sound_is, read_private}
use Rattle.local_heap.proofs.heap.LocalHeap.read.Goals as goal

pub give-requires-clause-object : goal.give-requires-clause-object
give-requires-clause-object g c =
    object_is c.self.inside.cells.thread (g.S.ShapeStore.shapes c.self.inside.shapes) c.self.inside.cells.items.items c.args.self.now c.self.view_is
    c.args.id c.requires c.index.result.now c.in-Object.object c.index.ensures c.in-Object.is c.self.invariant.0 c.self.invariant.1

pub give-requires-clause-sound : goal.give-requires-clause-sound
give-requires-clause-sound g c =
    sound_is c.self.inside.cells.thread (g.S.ShapeStore.shapes c.self.inside.shapes) c.self.inside.cells.items.items c.args.self.now c.self.view_is
    c.args.id c.requires c.index.result.now c.in-Object.object c.index.ensures c.in-Object.is c.self.invariant.0 c.self.invariant.1

pub returns-in-Object-clause-reply : goal.returns-in-Object-clause-reply
returns-in-Object-clause-reply g c =
    IfOk-weaker c.give.result _ _
    (λ reply is thing here. is ∙ ap (λ (t : Thing). gives_to c.args.self.now.thread t (GetField c.args.name))
    (thing_is c.self.inside.cells.thread (g.S.ShapeStore.shapes c.self.inside.shapes) c.self.inside.cells.items.items c.args.self.now c.self.view_is
    c.args.id c.requires c.index.result.now c.in-Object.object c.index.ensures c.in-Object.is c.self.invariant.0 c.self.invariant.1 thing here)) c.give.ensures.value

pub returns-in-Object-clause-private : goal.returns-in-Object-clause-private
returns-in-Object-clause-private g c =
    always_ok c.give.result
    (λ thing here. read_private c.self.inside.cells.thread (g.S.ShapeStore.shapes c.self.inside.shapes) c.self.inside.cells.items.items c.args.self.now c.self.view_is
    c.args.id c.requires c.index.result.now c.in-Object.object c.index.ensures c.in-Object.is c.self.invariant.0 c.self.invariant.1 c.args.name thing here)

pub returns-in-Object-clause-refused : goal.returns-in-Object-clause-refused
returns-in-Object-clause-refused g c =
    on_err_weaker c.give.result
    (λ text thing here. ap (λ (t : Thing). may_want t (GetField c.args.name)) (sym
    (thing_is c.self.inside.cells.thread (g.S.ShapeStore.shapes c.self.inside.shapes) c.self.inside.cells.items.items c.args.self.now c.self.view_is
    c.args.id c.requires c.index.result.now c.in-Object.object c.index.ensures c.in-Object.is c.self.invariant.0 c.self.invariant.1 thing here)) ∙ text) c.give.ensures.refused

pub returns-in-List-clause-reply : goal.returns-in-List-clause-reply
returns-in-List-clause-reply g c =
    λ thing here. ap (λ (t : Thing). gives_to c.args.self.now.thread t (GetField c.args.name))
    (is_thing c.self.inside.cells.thread (g.S.ShapeStore.shapes c.self.inside.shapes) c.self.inside.cells.items.items c.args.self.now c.self.view_is c.self.invariant c.args.id c.requires c.index.result.now c.index.ensures _ (ap contents c.in-List.is) thing here)

pub returns-in-List-clause-private : goal.returns-in-List-clause-private
returns-in-List-clause-private g c =
    unchanged c.self.inside.cells.thread (g.S.ShapeStore.shapes c.self.inside.shapes) c.self.inside.cells.items.items c.args.self.now c.self.view_is c.self.invariant c.args.id c.requires c.index.result.now c.index.ensures _ (ap contents c.in-List.is) (GetField c.args.name) refl

pub returns-in-Pairs-clause-reply : goal.returns-in-Pairs-clause-reply
returns-in-Pairs-clause-reply g c =
    λ thing here. ap (λ (t : Thing). gives_to c.args.self.now.thread t (GetField c.args.name))
    (is_thing c.self.inside.cells.thread (g.S.ShapeStore.shapes c.self.inside.shapes) c.self.inside.cells.items.items c.args.self.now c.self.view_is c.self.invariant c.args.id c.requires c.index.result.now c.index.ensures _ (ap contents c.in-Pairs.is) thing here)

pub returns-in-Pairs-clause-private : goal.returns-in-Pairs-clause-private
returns-in-Pairs-clause-private g c =
    unchanged c.self.inside.cells.thread (g.S.ShapeStore.shapes c.self.inside.shapes) c.self.inside.cells.items.items c.args.self.now c.self.view_is c.self.invariant c.args.id c.requires c.index.result.now c.index.ensures _ (ap contents c.in-Pairs.is) (GetField c.args.name) refl

pub returns-in-Mutex-clause-reply : goal.returns-in-Mutex-clause-reply
returns-in-Mutex-clause-reply g c =
    λ thing here. ap (λ (t : Thing). gives_to c.args.self.now.thread t (GetField c.args.name))
    (is_thing c.self.inside.cells.thread (g.S.ShapeStore.shapes c.self.inside.shapes) c.self.inside.cells.items.items c.args.self.now c.self.view_is c.self.invariant c.args.id c.requires c.index.result.now c.index.ensures _ (ap contents c.in-Mutex.is) thing here)

pub returns-in-Mutex-clause-private : goal.returns-in-Mutex-clause-private
returns-in-Mutex-clause-private g c =
    unchanged c.self.inside.cells.thread (g.S.ShapeStore.shapes c.self.inside.shapes) c.self.inside.cells.items.items c.args.self.now c.self.view_is c.self.invariant c.args.id c.requires c.index.result.now c.index.ensures _ (ap contents c.in-Mutex.is) (GetField c.args.name) refl
