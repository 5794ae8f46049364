use Rattle.std.proofs.Common.{refl, ap}
use Rattle.rb_thread.specs.Kins.{kin}
use Rattle.rb_thread.proofs.Lines.{got_map, set_map}
use Rattle.rb_thread.proofs.kids.Kids.mark.Goals as goal

pub returns : goal.returns
returns g c =
    let x = c.index_mut.result.now in
    let v = ap (λ y. y.0) c.self.view_is in (
      kin x.number x.thing x.child x.gathered,
      got_map (λ x. kin x.number x.thing x.child x.gathered) c.self.inside.items.items c.args.self.now.0 c.args.place x v c.requires c.index_mut.ensures.value,
      set_map (λ x. kin x.number x.thing x.child x.gathered) c.self.inside.items.items c.args.self.now.0 c.args.place _ _ v refl,
    )
