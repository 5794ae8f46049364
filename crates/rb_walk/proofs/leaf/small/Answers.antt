use Rattle.std.proofs.Common.{◌≡◌, refl, ◌∷◌, to_z, of_z, w64, rules}
use Rattle.rb_machine.specs.Control.{Under}
use Rattle.rb_code.proofs.Showing.{shows-int}
use Rattle.rb_walk.proofs.Moves.{on, begins, counts}
use Rattle.rb_walk.proofs.Leaves.{small_if}
use Rattle.rb_walk.proofs.leaf.small.Goals as goal

pub returns-in-Int : goal.returns-in-Int
returns-in-Int c = λ S N names size depth left start h log k me f l p q a.
    let z : to_z w64 (of_z w64 c.in-Int.n) ≡ c.in-Int.n = search rules in
    rw z (on _ (begins _ _ (Under depth ∷ k) _ _ _ (shows-int c.args.code.now c.in-Int.n c.in-Int.field-1 c.in-Int.is) (counts p q a)) refl)

pub returns-in-Local : goal.returns-in-Local
returns-in-Local c = small_if c.args.code.now c.in-Local.slot c.in-Local.field-1 c.in-Local.field-2 c.args.room.now c.integer_at.result c.in-Local.is c.integer_at.ensures
