use Rattle.thing_store.proofs.Taking.{err_then, longer_all}
use Rattle.thing_store.proofs.store.ThingStore.take_in_and_answer.Goals as goal

pub returns-clause-err : goal.returns-clause-err
returns-clause-err c =
    err_then c.answer.result _ _ (λ same. longer_all c.args.thread c.args.self.now c.answer.new.self c.take_in.new.self c.args.moved.now c.requires.things c.in_ok-take_in.ensures.ok same) c.answer.ensures.err
