use Rattle.std.proofs.Common.{◌≡◌, rules, to_z, of_z, w64}
use Rattle.array_strategy.proofs.Places.{flags_alone, set_mapped}
use Rattle.array_strategy.proofs.storage.Store.put_int.Goals as goal

pub returns-in-Ints-clause-done : goal.returns-in-Ints-clause-done
returns-in-Ints-clause-done g c =
    let z : to_z w64 (of_z w64 c.args.index) ≡ c.args.index = search rules in
    let m : to_z w64 (of_z w64 c.args.n) ≡ c.args.n = search rules in
    rw c.in-Ints.is (λ e. set_mapped g.V.Item.int c.in-Ints.ints.items c.set_at.new.items.items c.args.index c.args.n (rw (z, m) at c.set_at.ensures.done e))

pub returns-in-Flags-clause-refused : goal.returns-in-Flags-clause-refused
returns-in-Flags-clause-refused g c = λ _ _. flags_alone g.V.Item.int g.V.Item.flag _ c.in-Flags.field-0 c.in-Flags.is
