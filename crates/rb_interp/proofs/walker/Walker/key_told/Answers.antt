use Rattle.rb_walk.proofs.Immediates.{told_of}
use Rattle.rb_interp.proofs.walker.Walker.key_told.Goals as goal

pub returns : goal.returns
returns g c =
    let y = c.immediate_value.ensures in
    told_of _ c.args.hash c.args.method _ _ c.immediate_value.result (c.is_value.ensures c.if-not-is_value.false) y.told y.private
