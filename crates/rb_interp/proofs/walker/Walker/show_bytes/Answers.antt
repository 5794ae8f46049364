use Rattle.std.proofs.Common.{◌≡◌, ◌∙◌, ap, sym, refl, false, arith, ◌-◌, ◌<◌, ◌∷◌, length}
use Rattle.std.specs.Prelude.{◌==◌}
use Rattle.rb_machine.specs.Control.{Then}
use Rattle.rb_walk.proofs.Showing.{printed, refused_print, not_zero}
use Rattle.rb_interp.proofs.walker.Walker.show_bytes.Goals as goal

pub returns-in-Done-clause-came : goal.returns-in-Done-clause-came
returns-in-Done-clause-came g c = λ S start h after at k sc d a.
    let ok = c.args.bytes.ok in
    let f : false ≡ (c.args.bytes.len == 0) = c.if-is_empty.ensures in
    let n : (c.args.bytes.len ≡ 0 → ⊥) = not_zero c.args.bytes.len (sym f) in
    let some : 0 < length c.args.bytes.items = omega (arith, n, ok) in
    printed S _ start h _ _ c.args.bytes.items c.in-Ok.text after at k sc d _ c.in-Ok.ensures some c.requires.fits c.in-Done.ensures.answers a

pub returns-in-SinkFailed-clause-came : goal.returns-in-SinkFailed-clause-came
returns-in-SinkFailed-clause-came g c = λ S start h after at k sc d a.
    let ok = c.args.bytes.ok in
    let f : false ≡ (c.args.bytes.len == 0) = c.if-is_empty.ensures in
    let n : (c.args.bytes.len ≡ 0 → ⊥) = not_zero c.args.bytes.len (sym f) in
    let some : 0 < length c.args.bytes.items = omega (arith, n, ok) in
    let o = c.over-in-SinkFailed.ensures in
    rw (o.gives, o.stays.3) (refused_print S _ start h _ _ c.args.bytes.items c.in-Ok.text after at (Then after ∷ k) k sc d _ c.in-Ok.ensures some c.requires.fits c.in-SinkFailed.ensures.answers.1 a)
