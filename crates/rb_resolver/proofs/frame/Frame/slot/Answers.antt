use Rattle.std.proofs.Common.{◌∙◌, sym, ap}
use Rattle.rb_code.specs.Layout.{slot_of}
use Rattle.rb_resolver.proofs.Built.{seen_has_slot}
use Rattle.rb_resolver.proofs.frame.Frame.slot.Goals as goal

pub returns-in_default-clause-built : goal.returns-in_default-clause-built
returns-in_default-clause-built c = λ seen.
    absurd (seen_has_slot c.args.name c.args.self.now.names.items seen (sym (ap (slot_of c.args.name) c.as_slice.ensures.value) ∙ sym c.in_default.ensures))
