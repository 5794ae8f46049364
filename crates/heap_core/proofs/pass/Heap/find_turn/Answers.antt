use Rattle.std.proofs.Common.{rules, arith}
use Rattle.heap_core.proofs.Turning.{tries_turn, lays_slot, tried_has, tried_is}
use Rattle.heap_core.proofs.pass.Heap.find_turn.Goals as goal

pub compare_exchange-requires : goal.compare_exchange-requires
compare_exchange-requires g c =
    let some_words = c.args.self.now.sizes in
    (search rules, omega (arith, some_words), tries_turn _ _ _ _ c.requires.live c.requires.going)

pub load-requires : goal.load-requires
load-requires g c =
    let some_words = c.args.self.now.sizes in
    let t = c.compare_exchange.ensures.2.0 c.if-compare_exchange-ne0.false in
    let now = tried_has c.args.seat.now.me c.compare_exchange.new.seat.me c.take_out-turn.new.seat.me t.0 t.1 c.take_out-turn.ensures.empty c.requires.live in
    (search rules, omega (arith, some_words), lays_slot _ _ _ _ t.0 now.carries now.live now.has)

pub returns-clause-tried : goal.returns-clause-tried
returns-clause-tried g c =
    let t = c.compare_exchange.ensures.2.0 c.if-compare_exchange-ne0.false in
    tried_is c.args.seat.now.me c.compare_exchange.new.seat.me c.take_out-turn.new.seat.me c.load.new.seat.me t.0 c.take_out-turn.result t.1 c.take_out-turn.ensures.taken c.take_out-turn.ensures.empty c.load.ensures.2
