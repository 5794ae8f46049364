use Rattle.std.proofs.Common.{◌<◌, ◌≤◌, length, map, refl, ap, rules}
use Rattle.rb_model.specs.Values.{plain}
use Rattle.local_heap.proofs.Slotted.{puts_set, puts_push, puts_nil}
use Rattle.local_heap.proofs.row.settle.Goals as goal

pub returns-then-at-len-clause-put : goal.returns-then-at-len-clause-put
returns-then-at-len-clause-put c =
    let within : c.args.at < length c.args.row.now.items = search rules in
    puts_set c.args.row.now.items c.args.at c.args.value _ within refl

pub returns-in-Nil-clause-put : goal.returns-in-Nil-clause-put
returns-in-Nil-clause-put c =
    let beyond : length c.args.row.now.items ≤ c.args.at = search rules in
    puts_nil c.args.row.now.items c.args.at (plain c.args.value) (ap plain c.in-Nil.is) beyond

pub returns : goal.returns
returns c = record {
  put = puts_push (map plain c.args.row.now.items) c.extend.new.row.items c.args.at c.args.value c.push.new.self.items c.extend.ensures.alike c.in_ok-extend.ensures.len c.in_ok-push.ensures.items;
  err = tt;
  refused = tt;
}
