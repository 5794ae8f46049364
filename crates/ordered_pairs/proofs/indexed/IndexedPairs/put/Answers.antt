use Rattle.std.proofs.Common.{◌≡◌, ◌≤◌, ◌-◌, true, false, length, refl, sym, ap, ◌∙◌, arith}
use Rattle.std.specs.Prelude.{is_some}
use Rattle.std.specs.Option.{option_copied_mut}
use Rattle.rb_model.specs.Values.{plain}
use Rattle.ordered_pairs.specs.Order.{in_order}
use Rattle.ordered_pairs.proofs.Ordered.{as_long, key_is, put_over, put_last, put_first, may_there, may_full, may_come, not_both}
use Rattle.ordered_pairs.proofs.indexed.IndexedPairs.put.Goals as goal

pub returns-in-Some-clause-done : goal.returns-in-Some-clause-done
returns-in-Some-clause-done c =
    let there = sym c.peek_mut.ensures.value ∙ ap option_copied_mut c.in-Some.is in
    put_over c.args.key _ _ c.are_distinct.ensures c.self.view_is c.args.value (ap is_some there)

pub returns-in-Some-clause-too_long : goal.returns-in-Some-clause-too_long
returns-in-Some-clause-too_long c =
    let there = sym c.peek_mut.ensures.value ∙ ap option_copied_mut c.in-Some.is in
    let has = key_is c.args.key _ _ c.are_distinct.ensures c.self.view_is _ there in
    (λ e. absurd (cc), λ e. absurd (let z : true ≡ false = sym (may_there (plain c.args.key) c.args.self.now has) ∙ e in cc))

pub returns-then-len-ge-MAX_PAIRS-clause-too_long : goal.returns-then-len-ge-MAX_PAIRS-clause-too_long
returns-then-len-ge-MAX_PAIRS-clause-too_long c =
    let none = sym c.peek_mut.ensures.value ∙ ap option_copied_mut c.in_default.is in
    let has = key_is c.args.key _ _ c.are_distinct.ensures c.self.view_is _ none in
    let count = c.len.ensures.len ∙ sym (as_long c.self.inside.entries.entries) ∙ ap length c.self.view_is in
    (λ e. may_full _ _ c.len.result has count c.if-len-ge-MAX_PAIRS.true, λ e. refl)

pub returns-then-len-ge-MAX_PAIRS-clause-there : goal.returns-then-len-ge-MAX_PAIRS-clause-there
returns-then-len-ge-MAX_PAIRS-clause-there c =
    let none = sym c.peek_mut.ensures.value ∙ ap option_copied_mut c.in_default.is in
    let has = key_is c.args.key _ _ c.are_distinct.ensures c.self.view_is _ none in
    λ e. sym has ∙ e

pub returns-in_err-put-clause-too_long : goal.returns-in_err-put-clause-too_long
returns-in_err-put-clause-too_long c =
    let count = c.len.ensures.len ∙ sym (as_long c.self.inside.entries.entries) ∙ ap length c.self.view_is in
    (λ e. absurd (not_both c.from_residual.result e c.from_residual.ensures.1), λ e. absurd (let z : true ≡ false = sym (may_come (plain c.args.key) c.args.self.now c.len.result count c.if-len-ge-MAX_PAIRS.false) ∙ e in cc))

pub returns-in_err-put-clause-there : goal.returns-in_err-put-clause-there
returns-in_err-put-clause-there c =
    let none = sym c.peek_mut.ensures.value ∙ ap option_copied_mut c.in_default.is in
    let has = key_is c.args.key _ _ c.are_distinct.ensures c.self.view_is _ none in
    λ e. absurd (let z : false ≡ true = sym has ∙ e in cc)

pub returns-clause-done : goal.returns-clause-done
returns-clause-done c =
    let none = sym c.peek_mut.ensures.value ∙ ap option_copied_mut c.in_default.is in
    let room : length c.self.inside.entries.entries ≤ c.self.inside.entries.cap - 1 = omega (arith, c.self.invariant, c.len.ensures.len, c.len.ensures.fits) in
    let first = put_first c.args.key c.args.value c.self.inside.entries none room in
    ap (λ x. in_order x.entries) c.in_ok-put.ensures.entries ∙ ap in_order first ∙ put_last c.args.key _ _ c.are_distinct.ensures c.self.view_is c.args.value none

pub returns-clause-too_long : goal.returns-clause-too_long
returns-clause-too_long c =
    let count = c.len.ensures.len ∙ sym (as_long c.self.inside.entries.entries) ∙ ap length c.self.view_is in
    (λ e. absurd (cc), λ e. absurd (let z : true ≡ false = sym (may_come (plain c.args.key) c.args.self.now c.len.result count c.if-len-ge-MAX_PAIRS.false) ∙ e in cc))
