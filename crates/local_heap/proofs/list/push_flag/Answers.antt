use Rattle.std.proofs.Common.{◌≡◌, false}
use Rattle.rb_model.specs.Acts.{Push}
use Rattle.local_heap.specs.Memory.{at_once}
use Rattle.local_heap.specs.Contents.{listed}
use Rattle.rb_model.specs.declared.value.Value.TheVariants as held
use Rattle.rb_model.specs.Flags.{value_of}
use Rattle.rb_model.specs.Immediates.{value_told}
use Rattle.array_strategy.specs.Elements.{IsRaw}
use Rattle.local_heap.proofs.AtOnce.{does_join, flag_widens, joins_flag, not_joined, told_integer}
use Rattle.local_heap.proofs.list.push_flag.Goals as goal

pub returns-in-Some-clause-does : goal.returns-in-Some-clause-does
returns-in-Some-clause-does c =
    let y = c.push_flag.ensures in
    does_join c.args.list.now c.push_flag.new.self (value_of c.in-Some.flag) (value_told c.args.value) c.in-Some.ensures.some c.push_flag.result y.done y.room y.kept y.err

pub returns-in-Some-clause-refused : goal.returns-in-Some-clause-refused
returns-in-Some-clause-refused c =
    joins_flag c.push_flag.result (value_told c.args.value) (λ v. at_once (listed c.args.list.now) (Push v) ≡ false)
    (not_joined c.args.list.now c.push_flag.new.self (value_of c.in-Some.flag) (value_told c.args.value) c.in-Some.ensures.some c.push_flag.result (IsRaw held.Int c.args.list.now)
    (flag_widens c.args.list.now c.in-Some.flag) c.push_flag.ensures.refused)

pub returns-in-None-clause-refused : goal.returns-in-None-clause-refused
returns-in-None-clause-refused c = λ _. told_integer (value_told c.args.value) (λ v. at_once (listed c.args.list.now) (Push v) ≡ false) (c.flag_told.ensures.none c.in-None.is)
