use Rattle.std.proofs.Common.{◌≡◌, to_z, of_z, w64, rules}
use Rattle.rb_thread.proofs.Owning.{if_some}
use Rattle.rb_thread.proofs.store.ThreadedThreadStore.element.Goals as goal

pub returns-in-Ok-clause-value : goal.returns-in-Ok-clause-value
returns-in-Ok-clause-value g c =
    let z : to_z w64 (of_z w64 c.args.index) ≡ c.args.index = search rules in
    rw z at c.in-Ok.ensures.value

pub returns-in-Ok-clause-private : goal.returns-in-Ok-clause-private
returns-in-Ok-clause-private g c =
    let z : to_z w64 (of_z w64 c.args.index) ≡ c.args.index = search rules in
    if_some c.in-Ok.found _ (rw z at c.in-Ok.ensures.private)
