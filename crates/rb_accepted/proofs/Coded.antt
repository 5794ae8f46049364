-- A program that ordered tokens spell, and that has no fault, has code.
use Rattle.std.proofs.Common.{sym, subst}
use Rattle.rb_accepted.specs.Laws.{AcceptedHasCode}
use Rattle.rb_accepted.proofs.Accepted.{accepted_has_all}
use Rattle.rb_accepted.proofs.HasCode.{seen_has_code}
use Rattle.rb_accepted.proofs.Seen.{IsSeen}
use Rattle.rb_accepted.proofs.SeenScript.{script_is_seen}

pub accepted_has_code : AcceptedHasCode
accepted_has_code limit levels tokens program ordered d h =
    seen_has_code program (subst IsSeen (sym d.made) (script_is_seen limit levels tokens d.found ordered d.script))
    (accepted_has_all limit levels tokens program ordered d h)
