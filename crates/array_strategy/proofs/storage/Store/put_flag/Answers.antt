use Rattle.std.proofs.Common.{◌≡◌, rules, to_z, of_z, w64}
use Rattle.array_strategy.proofs.Places.{ints_raw, set_mapped}
use Rattle.array_strategy.proofs.storage.Store.put_flag.Goals as goal

pub returns-in-Flags-clause-done : goal.returns-in-Flags-clause-done
returns-in-Flags-clause-done g c =
    let z : to_z w64 (of_z w64 c.args.index) ≡ c.args.index = search rules in
    rw c.in-Flags.is (λ e. set_mapped g.V.Item.flag c.in-Flags.flags.items c.set_at.new.items.items c.args.index c.args.flag (rw z at c.set_at.ensures.done e))

pub returns-in-Ints-clause-refused : goal.returns-in-Ints-clause-refused
returns-in-Ints-clause-refused g c = λ _ _. ints_raw g.V.Item.int g.V.Item.flag _ c.in-Ints.field-0 c.in-Ints.is
