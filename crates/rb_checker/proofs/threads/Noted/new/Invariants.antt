use Rattle.std.proofs.Common.{List, take}
use Rattle.std.specs.List.{flat_map}
use Rattle.rb_checker.specs.declared.event.Event.{Event}
use Rattle.rb_checker.specs.Locals.{uses_in}
use Rattle.rb_checker.specs.Threads.{Notes}
use Rattle.rb_checker.proofs.threads.Noted.new.Given as goal

abbrev pub invariant-texts : goal.invariant-texts
invariant-texts l = Notes l.noted (flat_map uses_in (take l.events-index l.texts)) (flat_map (λ (es : List Event). es) (take l.events-index l.texts))
