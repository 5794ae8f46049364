use Rattle.std.proofs.Common.{◌≡◌, ap, rules, to_z, of_z, w64, false}
use Rattle.rb_model.specs.declared.value.Value.TheVariants as held
use Rattle.rb_model.specs.Immediates.{value_told}
use Rattle.rb_model.specs.Acts.{Put}
use Rattle.local_heap.specs.Memory.{at_once}
use Rattle.local_heap.specs.Contents.{listed}
use Rattle.local_heap.proofs.AtOnce.{integer_widens, not_put, told_beside}
use Rattle.local_heap.proofs.Writes.{does_set}
use Rattle.local_heap.proofs.list.put_immediate.Goals as goal

pub returns-in-Int-clause-does : goal.returns-in-Int-clause-does
returns-in-Int-clause-does c =
    let z : to_z w64 (of_z w64 c.args.index) ≡ c.args.index = search rules in
    let m : to_z w64 (of_z w64 c.in-Int.n) ≡ c.in-Int.n = search rules in
    does_set c.args.list.now c.put_int.new.self c.args.index (held.Int c.in-Int.n) c.put_int.ensures.bound c.put_int.result (value_told c.args.value) (ap value_told c.in-Int.is)
    (rw (z, m) at c.put_int.ensures.done) c.put_int.ensures.kept

pub returns-in-Int-clause-refused : goal.returns-in-Int-clause-refused
returns-in-Int-clause-refused c = λ not_done.
    let z : to_z w64 (of_z w64 c.args.index) ≡ c.args.index = search rules in
    let refused = (rw z at c.put_int.ensures.refused) not_done in
    rw (ap value_told c.in-Int.is) (not_put c.args.list.now (held.Int c.in-Int.n) c.args.index (λ here. integer_widens c.args.list.now c.in-Int.n (refused here)))

pub returns-in_default-clause-refused : goal.returns-in_default-clause-refused
returns-in_default-clause-refused c = λ not_done.
    let z : to_z w64 (of_z w64 c.args.index) ≡ c.args.index = search rules in
    let refused = (rw z at c.put_flag.ensures.refused) not_done in
    told_beside c.args.value (λ v. at_once (listed c.args.list.now) (Put c.args.index v) ≡ false) c.in_default.not-Int refused
