use Rattle.std.proofs.Common.{rules, arith, sym, ◌∙◌}
use Rattle.heap_core.proofs.Ending.{ended_at}
use Rattle.heap_core.proofs.Parting.{ended_is, ends_in_turn, leaves_out, seat_is}
use Rattle.heap_core.proofs.Turning.{handed_back}
use Rattle.heap_core.proofs.pass.Heap.enter_told.Goals as goal

pub store-requires : goal.store-requires
store-requires g c =
    let some_words = c.args.self.now.sizes in
    let back = handed_back c.args.seat.now.me c.hand_back.new.seat.me c.args.turn c.end.new.self c.hand_back.ensures.put c.requires.live c.requires.has in (
      search rules,
      omega (arith, some_words),
      ends_in_turn _ _ _ _ c.args.turn c.args.step _ c.args.at c.args.state c.args.told c.args.call.now _ c.requires.entry c.requires.place (ended_at c.hand_back.new.seat.me c.args.turn _ c.args.thread _ back.carries c.end.ensures.ended (c.requires.thread ∙ sym back.thread)) back.live back.has
          (leaves_out c.args.seat.now.me.0 _ c.args.call.now c.args.at c.args.state c.args.told (seat_is c.args.seat.now.me c.hand_back.new.seat.me c.end.new.self c.hand_back.ensures.put) c.requires.own c.requires.laid c.requires.ahead c.requires.end),
    )

pub returns-clause-ended : goal.returns-clause-ended
returns-clause-ended g c = ended_is c.args.seat.now.me _ _ _ _ _ _ c.args.at c.requires.entry c.requires.place c.hand_back.ensures.put c.store.ensures.2
