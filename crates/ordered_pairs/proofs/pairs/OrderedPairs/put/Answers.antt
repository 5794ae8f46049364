use Rattle.std.proofs.Common.{◌≡◌, true, false, length, sym, ap, ◌∙◌}
use Rattle.rb_model.specs.Values.{plain}
use Rattle.ordered_pairs.proofs.Ordered.{may_come, not_both}
use Rattle.ordered_pairs.proofs.pairs.OrderedPairs.put.Goals as goal

pub returns-in_err-make_place-clause-too_long : goal.returns-in_err-make_place-clause-too_long
returns-in_err-make_place-clause-too_long c =
    let may = may_come (plain c.args.key) c.args.self.now _ (ap length c.self.view_is) c.in_err-make_place.ensures.few in
    (λ e. absurd (not_both c.from_residual.result e c.from_residual.ensures.1), λ e. absurd (let z : true ≡ false = sym may ∙ e in cc))
