use Rattle.local_heap.proofs.Writes.{does_unshift}
use Rattle.local_heap.proofs.list.unshift.Goals as goal

pub returns : goal.returns
returns c =
    does_unshift c.args.list.now c.unshift.new.self c.args.value c.unshift.result c.answered.result c.unshift.ensures.too_long c.unshift.ensures.room c.unshift.ensures.cause c.unshift.ensures.kept c.answered.ensures c.unshift.ensures.done
