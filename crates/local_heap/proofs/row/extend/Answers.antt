use Rattle.std.proofs.Common.{List, map, refl, ap, ◌∙◌, rules}
use Rattle.rb_model.specs.declared.value.Value.{Value}
use Rattle.rb_model.specs.Values.{plain}
use Rattle.local_heap.specs.Slots.{whole_at}
use Rattle.local_heap.proofs.Slotted.{alike_pushed}
use Rattle.local_heap.proofs.row.extend.Goals as goal

pub more-init : goal.more-init
more-init c = record { alike = λ p. refl; short = c.requires }

pub more-preserved : goal.more-preserved
more-preserved c = record {
  alike = alike_pushed _ c.more.row.items c.push.new.self.items c.more.invariant.alike c.in_ok-push.ensures.items;
  short = search rules;
}

pub returns-in_err-push-clause-alike : goal.returns-in_err-push-clause-alike
returns-in_err-push-clause-alike c = λ p. ap (λ (r : List Value). whole_at (map plain r) p) c.in_err-push.ensures.items ∙ c.more.invariant.alike p

pub returns-clause-alike : goal.returns-clause-alike
returns-clause-alike c = c.more.invariant.alike
