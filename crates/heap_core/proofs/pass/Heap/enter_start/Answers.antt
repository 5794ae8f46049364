use Rattle.std.proofs.Common.{rules, arith, subst, sym, ap, ◌∙◌}
use Rattle.rb_model.specs.Log.{asked}
use Rattle.heap_core.specs.Starting.{IsStart, born_of, line_for}
use Rattle.heap_core.proofs.Lines.{line_free, position_within}
use Rattle.heap_core.proofs.Starting.{laid_back, started_is, starts_in_turn}
use Rattle.heap_core.proofs.Turning.{handed_back}
use Rattle.heap_core.proofs.pass.Heap.enter_start.Goals as goal

pub start-requires-clause-within : goal.start-requires-clause-within
start-requires-clause-within g c = position_within c.args.turn.lines c.args.line (line_free _ c.args.turn.lines c.args.line c.requires.free)

pub store-requires : goal.store-requires
store-requires g c =
    let some_words = c.args.self.now.sizes in
    let back = handed_back c.args.seat.now.me c.hand_back.new.seat.me c.args.turn c.start.new.self c.hand_back.ensures.put c.requires.live c.requires.has in (
      search rules,
      omega (arith, some_words),
      starts_in_turn _ _ _ _ c.args.turn c.start.new.self c.args.step c.args.line c.args.thread.now c.args.call.now _ (subst (λ v. IsStart v c.args.call.now) (sym back.view) c.requires.start) c.requires.named c.requires.born back.carries c.start.ensures back.live back.has
          (laid_back c.args.seat.now.me.0 c.hand_back.new.seat.me.0 (born_of c.args.step (asked c.args.call.now) c.args.turn.started c.args.thread.now c.args.line) back.own back.ahead back.thread c.requires.laid)
          (ap (λ v. line_for v.generation c.args.turn.lines) back.view ∙ c.requires.free),
    )

pub returns-clause-made : goal.returns-clause-made
returns-clause-made g c = started_is c.args.seat.now.me _ _ _ _ _ c.requires.born c.hand_back.ensures.put c.store.ensures.2
