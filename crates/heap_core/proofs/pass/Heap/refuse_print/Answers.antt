use Rattle.std.proofs.Common.{rules, [], arith}
use Rattle.rb_model.specs.Log.{Print}
use Rattle.heap_core.proofs.Printing.{refuses_in_turn, refused_is}
use Rattle.heap_core.proofs.Turning.{handed_back}
use Rattle.heap_core.proofs.pass.Heap.refuse_print.Goals as goal

pub store-requires : goal.store-requires
store-requires g c =
    let some_words = c.args.self.now.sizes in
    let had = c.requires.failed in
    let back = handed_back c.args.seat.now.me c.hand_back.new.seat.me had.0 c.args.turn c.hand_back.ensures.put c.requires.live had.1 in
    (search rules, omega (arith, some_words), refuses_in_turn _ _ _ _ had.0 c.args.turn (Print c.args.text.now) _ [] c.requires.call back.carries back.live back.has had.2 had.3)

pub returns-clause-refused : goal.returns-clause-refused
returns-clause-refused g c = refused_is c.args.seat.now.me _ _ c.args.turn _ _ [] c.requires.call c.hand_back.ensures.put c.store.ensures.2
