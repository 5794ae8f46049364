use Rattle.std.proofs.Common.{◌≡◌, List, [], take, reverse}
use Rattle.rb_tree.specs.declared.span.NameId.{NameId}
use Rattle.rb_checker.specs.Around.{behind_all}
use Rattle.rb_checker.specs.Fault.{first_of}
use Rattle.rb_checker.specs.Owners.{IsOwner}
use Rattle.rb_checker.specs.Rules as rule
use Rattle.rb_checker.specs.Sets.{Holds}
use Rattle.rb_checker.proofs.rules.Given.broken.Given as goal

abbrev pub invariant-events : goal.invariant-events
invariant-events l = (reverse l.round.items ≡ behind_all [] (take l.event-index l.events))
    × ((functions classes : List NameId) (o : rule.Owner) → Holds l.self.functions.now functions → Holds l.self.classes.now classes → IsOwner l.owner o
    → l.found ≡ first_of (rule.broken l.self.names.now functions classes o (take l.event-index l.events)))
