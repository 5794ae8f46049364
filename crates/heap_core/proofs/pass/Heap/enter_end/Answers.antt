use Rattle.std.proofs.Common.{rules, arith, ap, sym, ◌∙◌}
use Rattle.rb_model.specs.Log.{plain_entry}
use Rattle.heap_core.proofs.Ending.{ended_at, ends_in_turn, plain_end}
use Rattle.heap_core.proofs.Printing.{printed_is}
use Rattle.heap_core.proofs.Turning.{handed_back}
use Rattle.heap_core.proofs.pass.Heap.enter_end.Goals as goal

pub store-requires : goal.store-requires
store-requires g c =
    let some_words = c.args.self.now.sizes in
    let how = plain_end c.args.call.now c.requires.end in
    let back = handed_back c.args.seat.now.me c.hand_back.new.seat.me c.args.turn c.end.new.self c.hand_back.ensures.put c.requires.live c.requires.has in (
      search rules,
      omega (arith, some_words),
      ends_in_turn _ _ _ _ c.args.turn c.args.step how.0 _ (c.requires.entry ∙ ap (plain_entry c.args.step) how.1)
          (ended_at c.hand_back.new.seat.me c.args.turn _ c.args.thread _ back.carries c.end.ensures.ended (c.requires.thread ∙ sym back.thread)) back.live back.has how.2 (back.own ∙ c.requires.bare.0, back.ahead ∙ c.requires.bare.1) (back.thread ∙ (sym c.requires.thread ∙ c.requires.main)),
    )

pub returns-clause-ended : goal.returns-clause-ended
returns-clause-ended g c = printed_is c.args.seat.now.me _ _ _ _ _ c.requires.entry c.hand_back.ensures.put c.store.ensures.2
