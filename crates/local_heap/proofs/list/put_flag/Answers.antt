use Rattle.std.proofs.Common.{◌≡◌, rules, to_z, of_z, w64, false}
use Rattle.rb_model.specs.Flags.{value_of}
use Rattle.rb_model.specs.Acts.{Put}
use Rattle.rb_model.specs.Immediates.{value_told}
use Rattle.local_heap.specs.Memory.{at_once}
use Rattle.local_heap.specs.Contents.{listed}
use Rattle.local_heap.proofs.AtOnce.{flag_widens, not_put, told_integer}
use Rattle.local_heap.proofs.Writes.{does_set}
use Rattle.local_heap.proofs.list.put_flag.Goals as goal

pub returns-in-Some-clause-does : goal.returns-in-Some-clause-does
returns-in-Some-clause-does c =
    let z : to_z w64 (of_z w64 c.args.index) ≡ c.args.index = search rules in
    does_set c.args.list.now c.put_flag.new.self c.args.index (value_of c.in-Some.flag) c.put_flag.ensures.bound c.put_flag.result (value_told c.args.value) c.in-Some.ensures.some
    (rw z at c.put_flag.ensures.done) c.put_flag.ensures.kept

pub returns-in-Some-clause-refused : goal.returns-in-Some-clause-refused
returns-in-Some-clause-refused c = λ not_done.
    let z : to_z w64 (of_z w64 c.args.index) ≡ c.args.index = search rules in
    let refused = (rw z at c.put_flag.ensures.refused) not_done in
    rw c.in-Some.ensures.some (λ _. not_put c.args.list.now (value_of c.in-Some.flag) c.args.index (λ here. flag_widens c.args.list.now c.in-Some.flag (refused here)))

pub returns-in-None-clause-refused : goal.returns-in-None-clause-refused
returns-in-None-clause-refused c = λ _. told_integer (value_told c.args.value) (λ v. at_once (listed c.args.list.now) (Put c.args.index v) ≡ false) (c.flag_told.ensures.none c.in-None.is)
