use Rattle.std.proofs.Common.{◌∙◌, ◌+◌, [], ap, take, sym}
use Rattle.std.proofs.lemmas.List.{take_more, take_all}
use Rattle.rb_code.specs.Layout.{have_slots}
use Rattle.rb_resolver.proofs.Started.{slots_next}
use Rattle.rb_resolver.proofs.threads.slots_of.Goals as goal

pub used-init : goal.used-init
used-init c = ap (have_slots [] c.args.frame.now.names.items) c.new-slots.ensures

pub used-preserved : goal.used-preserved
used-preserved c =
    slots_next c.args.frame.now.names.items (take c.used.name-index c.args.used.now) (take (c.used.name-index + 1) c.args.used.now) c.used.slots c.push.new.self _ c.in_ok-slot.slot
    (take_more c.args.used.now c.used.name-index _ c.used-test.true) c.in_ok-push.ensures.ok c.used.invariant c.in_ok-slot.ensures.has

pub returns-clause-has : goal.returns-clause-has
returns-clause-has c = ap (λ ns. have_slots ns c.args.frame.now.names.items c.used.slots) (sym (take_all c.used.name-index c.args.used.now c.used-test.false)) ∙ c.used.invariant
