use Rattle.std.proofs.Common.{rules, arith, subst, sym, ap, ◌∙◌}
use Rattle.heap_core.specs.Starting.{IsStart, line_for}
use Rattle.heap_core.proofs.Printing.{printed_is}
use Rattle.heap_core.proofs.Starting.{fulls_in_turn}
use Rattle.heap_core.proofs.Turning.{handed_back}
use Rattle.heap_core.proofs.pass.Heap.enter_full.Goals as goal

pub store-requires : goal.store-requires
store-requires g c =
    let some_words = c.args.self.now.sizes in
    let back = handed_back c.args.seat.now.me c.hand_back.new.seat.me c.args.turn c.args.turn c.hand_back.ensures.put c.requires.live c.requires.has in (
      search rules,
      omega (arith, some_words),
      fulls_in_turn _ _ _ _ c.args.turn c.args.step c.args.call.now _ (subst (λ v. IsStart v c.args.call.now) (sym back.view) c.requires.start) c.requires.entry back.carries back.live back.has
          (back.own ∙ c.requires.bare.0, back.ahead ∙ c.requires.bare.1) (ap (λ v. line_for v.generation c.args.turn.lines) back.view ∙ c.requires.full),
    )

pub returns-clause-made : goal.returns-clause-made
returns-clause-made g c = printed_is c.args.seat.now.me _ _ c.args.turn _ _ c.requires.entry c.hand_back.ensures.put c.store.ensures.2
