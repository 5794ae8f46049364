use Rattle.std.proofs.Common.{subst}
use Rattle.rb_thread.specs.Kins.{IsPlaceOf}
use Rattle.rb_thread.proofs.kids.Kids.place_of.Goals as goal

pub returns : goal.returns
returns g c = subst (λ n. IsPlaceOf c.args.maker c.args.id n c.place_by.result) c.len.ensures c.place_by.ensures
