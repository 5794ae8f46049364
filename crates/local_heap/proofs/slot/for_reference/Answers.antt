use Rattle.std.proofs.Common.{subst}
use Rattle.rb_model.specs.Values.{To, Reference}
use Rattle.local_heap.specs.declared.slot.Whose.{Whose}
use Rattle.local_heap.specs.Slots.{IsOwnBy, slot_of}
use Rattle.local_heap.proofs.Slotted.{own_stands, other_stands}
use Rattle.local_heap.proofs.slot.for_reference.Goals as goal

pub returns-then-is_address : goal.returns-then-is_address
returns-then-is_address c = record {
  stands = λ home own.
      let thing : Reference = record { sort = c.args.thing.sort; id = c.args.thing.id } in
      own_stands home thing (slot_of c.in_word.result) (c.is_address.ensures.0 c.if-is_address.true) c.in_word.ensures.word c.in_word.ensures.whole
      (subst (λ (w : Whose). IsOwnBy home w (To thing)) c.in-Own.is own);
}

pub returns-else-is_address : goal.returns-else-is_address
returns-else-is_address c = record {
  stands = λ home own. other_stands home (record { sort = c.args.thing.sort; id = c.args.thing.id }) (slot_of c.beside.result) c.beside.ensures.word c.beside.ensures.whole;
}

pub returns-in-Others : goal.returns-in-Others
returns-in-Others c = record {
  stands = λ home own.
      other_stands home (record { sort = c.args.thing.sort; id = c.args.thing.id }) (slot_of c.beside-in-Others.result) c.beside-in-Others.ensures.word c.beside-in-Others.ensures.whole;
}
