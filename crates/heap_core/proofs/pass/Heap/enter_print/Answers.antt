use Rattle.std.proofs.Common.{rules, arith, ◌∙◌}
use Rattle.heap_core.proofs.Printing.{makes_in_turn, printed_is}
use Rattle.heap_core.proofs.Turning.{handed_back}
use Rattle.heap_core.proofs.pass.Heap.enter_print.Goals as goal

pub store-requires : goal.store-requires
store-requires g c =
    let some_words = c.args.self.now.sizes in
    let had = c.requires.taken in
    let back = handed_back c.args.seat.now.me c.hand_back.new.seat.me had.0 c.args.turn c.hand_back.ensures.put c.requires.live had.1 in (
      search rules,
      omega (arith, some_words),
      makes_in_turn _ _ _ _ had.0 c.args.turn c.args.step c.args.text.now _ c.requires.entry back.carries back.live back.has had.2 (back.own ∙ c.requires.bare.0) (back.ahead ∙ c.requires.bare.1) had.3,
    )

pub returns-clause-made : goal.returns-clause-made
returns-clause-made g c = printed_is c.args.seat.now.me _ _ c.args.turn _ _ c.requires.entry c.hand_back.ensures.put c.store.ensures.2
