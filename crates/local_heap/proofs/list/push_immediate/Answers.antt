use Rattle.std.proofs.Common.{◌≡◌, ap, rules, to_z, of_z, w64, false}
use Rattle.rb_model.specs.Acts.{Push}
use Rattle.local_heap.specs.Memory.{at_once}
use Rattle.local_heap.specs.Contents.{listed}
use Rattle.rb_model.specs.declared.value.Value.TheVariants as held
use Rattle.rb_model.specs.Flags.{value_of}
use Rattle.rb_model.specs.Immediates.{value_told}
use Rattle.array_strategy.specs.Elements.{IsFlags}
use Rattle.local_heap.proofs.AtOnce.{does_join, integer_widens, joins_beside, not_joined}
use Rattle.local_heap.proofs.list.push_immediate.Goals as goal

pub returns-in-Int-clause-does : goal.returns-in-Int-clause-does
returns-in-Int-clause-does c =
    let m : to_z w64 (of_z w64 c.in-Int.n) ≡ c.in-Int.n = search rules in
    let y = c.push_int.ensures in
    does_join c.args.list.now c.push_int.new.self (held.Int c.in-Int.n) (value_told c.args.value) (ap value_told c.in-Int.is) c.push_int.result (rw m at y.done) y.room y.kept y.err

pub returns-in-Int-clause-refused : goal.returns-in-Int-clause-refused
returns-in-Int-clause-refused c =
    not_joined c.args.list.now c.push_int.new.self (held.Int c.in-Int.n) (value_told c.args.value) (ap value_told c.in-Int.is) c.push_int.result (IsFlags value_of c.args.list.now)
    (integer_widens c.args.list.now c.in-Int.n) c.push_int.ensures.refused

pub returns-in_default-clause-refused : goal.returns-in_default-clause-refused
returns-in_default-clause-refused c =
    joins_beside c.push_flag.result c.args.value (λ v. at_once (listed c.args.list.now) (Push v) ≡ false) c.in_default.not-Int c.push_flag.ensures.refused
