use Rattle.std.proofs.Common.{ap, sym, ◌∙◌}
use Rattle.std.specs.Prelude.{◌||◌}
use Rattle.std.specs.HashSet.{contains_by}
use Rattle.rb_checker.specs.declared.settling.Held.{Held}
use Rattle.rb_checker.specs.Assigned.{same_held}
use Rattle.rb_checker.proofs.Holding.{key_is, one_held}
use Rattle.rb_checker.proofs.Joining.{so}
use Rattle.rb_checker.proofs.settling.note_around.Goals as goal

pub returns : goal.returns
returns c =
    so c.add_held.result c.add_held.ensures
    (λ more v e.
    one_held c.args.held.now c.add_held.new.set v c.args.local e (c.args.around, c.args.at)
    (λ k. more k ∙ ap (λ b. b || contains_by (λ (h : Held). same_held k h) c.args.held.now) (key_is c.args.local c.args.around c.args.at c.in-Some.enclosure k (sym c.enclosure_of.ensures ∙ c.in-Some.is))))
