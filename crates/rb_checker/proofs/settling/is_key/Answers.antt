use Rattle.std.proofs.Common.{◌∙◌}
use Rattle.rb_checker.specs.declared.settling.Held.{Held}
use Rattle.rb_checker.specs.Assigned.{same_held}
use Rattle.rb_checker.proofs.Holding.{any_by, held_is}
use Rattle.rb_checker.proofs.settling.is_key.Goals as goal

pub returns : goal.returns
returns c = c.contains.ensures ∙ any_by _ (λ (k : Held). same_held c.args.key k) c.args.set.now.keys (λ k. held_is c.args.key k)
