-- A program that ordered tokens spell, and that has no fault, has nothing that is not built.
use Rattle.std.proofs.Common.{ap, sym, ◌∙◌}
use Rattle.rb_checker.specs.Check.{fault_of}
use Rattle.rb_accepted.specs.Unbuilt.{first_unbuilt}
use Rattle.rb_accepted.specs.Laws.{AcceptedHasAll}
use Rattle.rb_accepted.proofs.Placed.{blocks_apart}
use Rattle.rb_accepted.proofs.Whole.{apart_has_all}

pub accepted_has_all : AcceptedHasAll
accepted_has_all limit levels tokens program ordered d h =
    ap first_unbuilt d.made
    ∙ apart_has_all limit levels tokens d.found (blocks_apart limit levels tokens d.found ordered d.script) d.script (sym (ap fault_of d.made) ∙ h)
