use Rattle.std.proofs.Common.{◌≡◌, map, subst, sym}
use Rattle.std.proofs.lemmas.Result.{IfOk-weaker}
use Rattle.rb_model.specs.Doing.{pair}
use Rattle.rb_model.specs.Things.{gathered}
use Rattle.local_heap.specs.Limits.{AreKeysOnce}
use Rattle.local_heap.proofs.Keys.{once_gathered}
use Rattle.local_heap.proofs.pairs.made.Goals as goal

pub returns-clause-once : goal.returns-clause-once
returns-clause-once c =
    IfOk-weaker c.from_vec.result (λ pairs. pairs ≡ gathered (map pair c.args.given.items)) AreKeysOnce
    (λ pairs e. subst AreKeysOnce (sym e) (once_gathered (map pair c.args.given.items))) c.from_vec.ensures.pairs
