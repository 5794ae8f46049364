use Rattle.std.proofs.Common.{◌∙◌, refl, ap, sym, inl, inr}
use Rattle.std.proofs.lemmas.Result.{IfOk-weaker, on_ok_weaker, on_err_weaker}
use Rattle.rb_model.specs.Values.{plain}
use Rattle.rb_model.specs.Acts.{SetField}
use Rattle.rb_model.specs.Things.{Thing, gives_to}
use Rattle.shape_core.specs.Shape.{path_at}
use Rattle.local_heap.specs.Memory.{may_want, write_wants}
use Rattle.local_heap.specs.Slots.{slot_at}
use Rattle.local_heap.specs.Cells.{contents, home_of}
use Rattle.local_heap.proofs.Standing.{is_thing, kept_private, kept_whole, not_empty, unchanged}
use Rattle.local_heap.proofs.Objects.{wide_is}
use Rattle.local_heap.proofs.Cellwise.{either}
use Rattle.local_heap.proofs.Acting.{thing_is, object_is, sound_is, written_acted, acted_cells, acted_private, left_cells, left_private}
use Rattle.local_heap.proofs.heap.LocalHeap.write.Goals as goal

pub set-requires : goal.set-requires
set-requires g c =
    object_is c.self.inside.cells.thread (g.S.ShapeStore.shapes c.self.inside.shapes) c.self.inside.cells.items.items c.args.self.now c.self.view_is
    c.args.id c.requires c.index_mut.result.now c.in-Object.object c.index_mut.ensures.value c.in-Object.is c.self.invariant.0 c.self.invariant.1

pub invariant_of-self-in-Object : goal.invariant_of-self-in-Object
invariant_of-self-in-Object g c =
    elim (either c.set.result c.set.ensures.written c.set.ensures.err) [
      | inl written ↦
          acted_cells c.self.inside.cells.thread (g.S.ShapeStore.shapes c.self.inside.shapes) c.self.inside.cells.items.items c.args.self.now c.self.view_is
          c.args.id c.requires c.index_mut.result.now c.in-Object.object c.index_mut.ensures.value c.in-Object.is c.self.invariant.0 c.self.invariant.1
          (g.S.ShapeStore.shapes c.set.new.shapes) c.set.new.self (SetField c.args.name (plain c.args.value))
          (written_acted (g.S.ShapeStore.shapes c.self.inside.shapes) (home_of (g.S.ShapeStore.shapes c.self.inside.shapes) c.self.inside.cells) c.in-Object.object c.args.name (plain c.args.value) c.whose-whose.result
          (g.S.ShapeStore.shapes c.set.new.shapes) c.set.new.self written
          (sound_is c.self.inside.cells.thread (g.S.ShapeStore.shapes c.self.inside.shapes) c.self.inside.cells.items.items c.args.self.now c.self.view_is
          c.args.id c.requires c.index_mut.result.now c.in-Object.object c.index_mut.ensures.value c.in-Object.is c.self.invariant.0 c.self.invariant.1) c.whose-whose.ensures)
      | inr failed ↦
          left_cells c.self.inside.cells.thread (g.S.ShapeStore.shapes c.self.inside.shapes) c.self.inside.cells.items.items c.args.self.now c.self.view_is
          c.args.id c.requires c.index_mut.result.now c.in-Object.object c.index_mut.ensures.value c.in-Object.is c.self.invariant.0 c.self.invariant.1
          (g.S.ShapeStore.shapes c.set.new.shapes) c.set.new.self failed
    ]

pub returns-in-Object-clause-reply : goal.returns-in-Object-clause-reply
returns-in-Object-clause-reply g c =
    IfOk-weaker c.set.result _ _
    (λ reply is thing here. is ∙ ap (λ (t : Thing). gives_to c.args.self.now.thread t (SetField c.args.name (plain c.args.value)))
    (thing_is c.self.inside.cells.thread (g.S.ShapeStore.shapes c.self.inside.shapes) c.self.inside.cells.items.items c.args.self.now c.self.view_is
    c.args.id c.requires c.index_mut.result.now c.in-Object.object c.index_mut.ensures.value c.in-Object.is c.self.invariant.0 c.self.invariant.1 thing here)) c.set.ensures.done

pub returns-in-Object-clause-private : goal.returns-in-Object-clause-private
returns-in-Object-clause-private g c =
    on_ok_weaker c.set.result
    (λ written. acted_private c.self.inside.cells.thread (g.S.ShapeStore.shapes c.self.inside.shapes) c.self.inside.cells.items.items c.args.self.now c.self.view_is
    c.args.id c.requires c.index_mut.result.now c.in-Object.object c.index_mut.ensures.value c.in-Object.is c.self.invariant.0 c.self.invariant.1
    (g.S.ShapeStore.shapes c.set.new.shapes) c.set.new.self (SetField c.args.name (plain c.args.value))
    (written_acted (g.S.ShapeStore.shapes c.self.inside.shapes) (home_of (g.S.ShapeStore.shapes c.self.inside.shapes) c.self.inside.cells) c.in-Object.object c.args.name (plain c.args.value) c.whose-whose.result
    (g.S.ShapeStore.shapes c.set.new.shapes) c.set.new.self written
    (sound_is c.self.inside.cells.thread (g.S.ShapeStore.shapes c.self.inside.shapes) c.self.inside.cells.items.items c.args.self.now c.self.view_is
    c.args.id c.requires c.index_mut.result.now c.in-Object.object c.index_mut.ensures.value c.in-Object.is c.self.invariant.0 c.self.invariant.1) c.whose-whose.ensures)) c.set.ensures.written

pub returns-in-Object-clause-err : goal.returns-in-Object-clause-err
returns-in-Object-clause-err g c =
    on_err_weaker c.set.result
    (λ failed. left_private c.self.inside.cells.thread (g.S.ShapeStore.shapes c.self.inside.shapes) c.self.inside.cells.items.items c.args.self.now c.self.view_is
    c.args.id c.requires c.index_mut.result.now c.in-Object.object c.index_mut.ensures.value c.in-Object.is c.self.invariant.0 c.self.invariant.1
    (g.S.ShapeStore.shapes c.set.new.shapes) c.set.new.self failed) c.set.ensures.err

pub returns-in-Object-clause-refused : goal.returns-in-Object-clause-refused
returns-in-Object-clause-refused g c =
    on_err_weaker c.set.result
    (λ wants thing here. ap (λ (t : Thing). may_want t (SetField c.args.name (plain c.args.value))) (sym
    (thing_is c.self.inside.cells.thread (g.S.ShapeStore.shapes c.self.inside.shapes) c.self.inside.cells.items.items c.args.self.now c.self.view_is
    c.args.id c.requires c.index_mut.result.now c.in-Object.object c.index_mut.ensures.value c.in-Object.is c.self.invariant.0 c.self.invariant.1 thing here))
    ∙ ap (λ o. write_wants o (plain c.args.value)) (wide_is (home_of (g.S.ShapeStore.shapes c.self.inside.shapes) c.self.inside.cells) (path_at (g.S.ShapeStore.shapes c.self.inside.shapes) c.in-Object.object.shape)
    (slot_at c.in-Object.object) c.args.name
    (object_is c.self.inside.cells.thread (g.S.ShapeStore.shapes c.self.inside.shapes) c.self.inside.cells.items.items c.args.self.now c.self.view_is
    c.args.id c.requires c.index_mut.result.now c.in-Object.object c.index_mut.ensures.value c.in-Object.is c.self.invariant.0 c.self.invariant.1).valid) ∙ wants) c.set.ensures.refused

pub invariant_of-self-in-List : goal.invariant_of-self-in-List
invariant_of-self-in-List g c = kept_whole c.self.inside.cells.thread (g.S.ShapeStore.shapes c.self.inside.shapes) c.self.inside.cells.items.items c.args.self.now c.self.view_is c.self.invariant c.args.id c.requires c.index_mut.result.now c.index_mut.ensures.value

pub returns-in-List-clause-reply : goal.returns-in-List-clause-reply
returns-in-List-clause-reply g c =
    λ thing here. c.no_method.ensures ∙ ap (λ (t : Thing). gives_to c.args.self.now.thread t (SetField c.args.name (plain c.args.value)))
    (is_thing c.self.inside.cells.thread (g.S.ShapeStore.shapes c.self.inside.shapes) c.self.inside.cells.items.items c.args.self.now c.self.view_is c.self.invariant c.args.id c.requires c.index_mut.result.now c.index_mut.ensures.value _ (ap contents c.in-List.is) thing here)

pub returns-in-List-clause-private : goal.returns-in-List-clause-private
returns-in-List-clause-private g c =
    λ thing here.
    kept_private c.self.inside.cells.thread (g.S.ShapeStore.shapes c.self.inside.shapes) c.self.inside.cells.items.items c.args.self.now c.self.view_is c.self.invariant c.args.id c.requires c.index_mut.result.now c.index_mut.ensures.value
    ∙ unchanged c.self.inside.cells.thread (g.S.ShapeStore.shapes c.self.inside.shapes) c.self.inside.cells.items.items c.args.self.now c.self.view_is c.self.invariant c.args.id c.requires c.index_mut.result.now c.index_mut.ensures.value _ (ap contents c.in-List.is) (SetField c.args.name (plain c.args.value)) refl thing here

pub invariant_of-self-in-Pairs : goal.invariant_of-self-in-Pairs
invariant_of-self-in-Pairs g c = kept_whole c.self.inside.cells.thread (g.S.ShapeStore.shapes c.self.inside.shapes) c.self.inside.cells.items.items c.args.self.now c.self.view_is c.self.invariant c.args.id c.requires c.index_mut.result.now c.index_mut.ensures.value

pub returns-in-Pairs-clause-reply : goal.returns-in-Pairs-clause-reply
returns-in-Pairs-clause-reply g c =
    λ thing here. c.no_method-in-Pairs.ensures ∙ ap (λ (t : Thing). gives_to c.args.self.now.thread t (SetField c.args.name (plain c.args.value)))
    (is_thing c.self.inside.cells.thread (g.S.ShapeStore.shapes c.self.inside.shapes) c.self.inside.cells.items.items c.args.self.now c.self.view_is c.self.invariant c.args.id c.requires c.index_mut.result.now c.index_mut.ensures.value _ (ap contents c.in-Pairs.is) thing here)

pub returns-in-Pairs-clause-private : goal.returns-in-Pairs-clause-private
returns-in-Pairs-clause-private g c =
    λ thing here.
    kept_private c.self.inside.cells.thread (g.S.ShapeStore.shapes c.self.inside.shapes) c.self.inside.cells.items.items c.args.self.now c.self.view_is c.self.invariant c.args.id c.requires c.index_mut.result.now c.index_mut.ensures.value
    ∙ unchanged c.self.inside.cells.thread (g.S.ShapeStore.shapes c.self.inside.shapes) c.self.inside.cells.items.items c.args.self.now c.self.view_is c.self.invariant c.args.id c.requires c.index_mut.result.now c.index_mut.ensures.value _ (ap contents c.in-Pairs.is) (SetField c.args.name (plain c.args.value)) refl thing here

pub invariant_of-self-in-Mutex : goal.invariant_of-self-in-Mutex
invariant_of-self-in-Mutex g c = kept_whole c.self.inside.cells.thread (g.S.ShapeStore.shapes c.self.inside.shapes) c.self.inside.cells.items.items c.args.self.now c.self.view_is c.self.invariant c.args.id c.requires c.index_mut.result.now c.index_mut.ensures.value

pub returns-in-Mutex-clause-reply : goal.returns-in-Mutex-clause-reply
returns-in-Mutex-clause-reply g c =
    λ thing here. c.no_method-in-Mutex.ensures ∙ ap (λ (t : Thing). gives_to c.args.self.now.thread t (SetField c.args.name (plain c.args.value)))
    (is_thing c.self.inside.cells.thread (g.S.ShapeStore.shapes c.self.inside.shapes) c.self.inside.cells.items.items c.args.self.now c.self.view_is c.self.invariant c.args.id c.requires c.index_mut.result.now c.index_mut.ensures.value _ (ap contents c.in-Mutex.is) thing here)

pub returns-in-Mutex-clause-private : goal.returns-in-Mutex-clause-private
returns-in-Mutex-clause-private g c =
    λ thing here.
    kept_private c.self.inside.cells.thread (g.S.ShapeStore.shapes c.self.inside.shapes) c.self.inside.cells.items.items c.args.self.now c.self.view_is c.self.invariant c.args.id c.requires c.index_mut.result.now c.index_mut.ensures.value
    ∙ unchanged c.self.inside.cells.thread (g.S.ShapeStore.shapes c.self.inside.shapes) c.self.inside.cells.items.items c.args.self.now c.self.view_is c.self.invariant c.args.id c.requires c.index_mut.result.now c.index_mut.ensures.value _ (ap contents c.in-Mutex.is) (SetField c.args.name (plain c.args.value)) refl thing here

pub returns-in-Empty-clause-refused : goal.returns-in-Empty-clause-refused
returns-in-Empty-clause-refused g c = absurd (not_empty c.self.inside.cells.thread (g.S.ShapeStore.shapes c.self.inside.shapes) c.self.inside.cells.items.items c.args.self.now c.self.view_is c.self.invariant c.args.id c.requires c.index_mut.result.now c.index_mut.ensures.value _ c.in-Empty.is)
