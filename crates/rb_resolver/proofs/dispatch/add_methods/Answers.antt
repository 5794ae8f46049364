use Rattle.std.proofs.Common.{◌≡◌, ◌==◌, ℕ, List, ◌∙◌, ◌++◌, ap, sym, refl, get_or, append-nil, true, rules}
use Rattle.std.proofs.lemmas.List.{at_drop_all}
use Rattle.rb_code.specs.declared.scripted.Found.{Found}
use Rattle.rb_resolver.specs.Rows.{row_at, found_in, is_plain, has_plain, are_plain}
use Rattle.rb_resolver.proofs.Rows.{one_if, rows_next, all_next}
use Rattle.rb_resolver.proofs.dispatch.add_methods.Goals as goal

pub methods-init : goal.methods-init
methods-init c = record { rows = λ n. refl; size = refl; plain = refl }

pub methods-preserved : goal.methods-preserved
methods-preserved c =
    let ms = c.args.methods.now in
    let i = c.methods.i in
    let method = c.index-methods-i.result in
    let number : c.in-Ok.number ≡ i = search rules in
    let one : ℕ → ℕ → List Found = λ n number. one_if (method.name.0 == n) (record { class = c.args.class; method = number }) in
    let plain : has_plain c.args.names.now (get_or ms i method) ≡ true =
    ap (has_plain c.args.names.now) (sym c.index-methods-i.is) ∙ ap is_plain (sym c.name_text.ensures) ∙ sym c.is_plain.ensures ∙ c.if-not-is_plain.false in
    record {
      rows = λ n.
          rows_next c.args.class n ms i method (row_at c.args.rows.now.items n ++ found_in c.args.class n 0 ms) (row_at c.methods.rows.items n) (row_at c.add_found.new.rows.items n)
          c.methods-test.true c.index-methods-i.is (c.methods.invariant.rows n) (c.in_ok-add_found.ensures.rows n ∙ ap (λ k. row_at c.methods.rows.items n ++ one n k) number);
      size = c.add_found.ensures.size ∙ c.methods.invariant.size;
      plain = all_next (has_plain c.args.names.now) ms i method c.methods-test.true c.methods.invariant.plain plain;
    }

pub returns-clause-rows : goal.returns-clause-rows
returns-clause-rows c = λ n.
    sym (append-nil (row_at c.methods.rows.items n)) ∙ sym (ap (λ fs. row_at c.methods.rows.items n ++ fs) (at_drop_all (found_in c.args.class n c.methods.i) c.args.methods.now c.methods.i c.methods-test.false))
    ∙ c.methods.invariant.rows n

pub returns-clause-plain : goal.returns-clause-plain
returns-clause-plain c = sym (c.methods.invariant.plain) ∙ at_drop_all (are_plain c.args.names.now) c.args.methods.now c.methods.i c.methods-test.false
