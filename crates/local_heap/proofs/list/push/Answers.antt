use Rattle.local_heap.proofs.Writes.{does_push}
use Rattle.local_heap.proofs.list.push.Goals as goal

pub returns : goal.returns
returns c =
    does_push c.args.list.now c.push.new.self c.args.value c.push.result c.answered.result c.push.ensures.too_long c.push.ensures.room c.push.ensures.cause c.push.ensures.kept c.answered.ensures c.push.ensures.done
