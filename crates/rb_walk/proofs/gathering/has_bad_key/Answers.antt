use Rattle.std.proofs.Common.{◌∙◌, sym}
use Rattle.rb_model.specs.Values.{Value}
use Rattle.rb_model.specs.Doing.{pair}
use Rattle.rb_machine.specs.Drafts.{is_collection}
use Rattle.rb_walk.proofs.Gathered.{any_next}
use Rattle.rb_walk.proofs.gathering.has_bad_key.Goals as goal

pub returns-then-is_collection : goal.returns-then-is_collection
returns-then-is_collection c =
    let here = any_next (λ (p : Value × Value). is_collection p.0) pair c.args.pairs.now c.pairs.pair-index c.pair-item.result c.pairs-test.true c.pair-item.is (sym c.if-is_collection.ensures) in
    sym here ∙ c.pairs.invariant
