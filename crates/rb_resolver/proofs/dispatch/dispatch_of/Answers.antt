use Rattle.std.proofs.Common.{◌≡◌, ◌∙◌, ◌++◌, ap, sym, refl, length, get_or, append-nil, true, [], rules}
use Rattle.std.proofs.lemmas.List.{at_drop_all, length-replicate}
use Rattle.rb_tree.specs.declared.node.Class.{Class}
use Rattle.rb_resolver.specs.Rows.{row_at, found_in, found_in_all, are_plain, all_plain, have_words}
use Rattle.rb_resolver.proofs.Built.{handed, all_at}
use Rattle.rb_resolver.proofs.Rows.{all_rows_next, all_next, row_empty}
use Rattle.rb_resolver.proofs.dispatch.dispatch_of.Goals as goal

pub classes-init : goal.classes-init
classes-init c = record {
  rows = λ n. ap (λ rows. row_at rows n ++ found_in_all n 0 c.args.classes.now) c.in_ok-rows.ensures ∙ ap (λ row. row ++ found_in_all n 0 c.args.classes.now) (row_empty c.len-count.result n);
  size = ap length c.in_ok-rows.ensures ∙ length-replicate c.len-count.result [];
  plain = refl;
}

pub classes-preserved : goal.classes-preserved
classes-preserved c =
    let ks = c.args.classes.now in
    let i = c.classes.i in
    let class = c.index-classes-i.result in
    let number : c.in-Ok.number ≡ i = search rules in
    let plain : are_plain c.args.names.now (get_or ks i class).methods ≡ true =
    ap (λ (k : Class). are_plain c.args.names.now k.methods) (sym c.index-classes-i.is) ∙ ap (are_plain c.args.names.now) (sym c.as_slice.ensures) ∙ c.in_ok-add_methods.ensures.plain in
    record {
      rows = λ n.
          all_rows_next n ks i class (found_in_all n 0 ks) (row_at c.classes.rows.items n) (row_at c.add_methods.new.rows.items n) c.classes-test.true c.index-classes-i.is (c.classes.invariant.rows n)
          (c.in_ok-add_methods.ensures.rows n ∙ ap (λ ms. row_at c.classes.rows.items n ++ found_in c.in-Ok.number n 0 ms) c.as_slice.ensures
          ∙ ap (λ k. row_at c.classes.rows.items n ++ found_in k n 0 class.methods) number);
      size = c.add_methods.ensures.size ∙ c.classes.invariant.size;
      plain = all_next (λ (k : Class). are_plain c.args.names.now k.methods) ks i class c.classes-test.true c.classes.invariant.plain plain;
    }

pub returns-clause-rows : goal.returns-clause-rows
returns-clause-rows c = λ n.
    ap (λ rows. row_at rows n) c.from_vec.ensures ∙ sym (append-nil (row_at c.classes.rows.items n))
    ∙ sym (ap (λ fs. row_at c.classes.rows.items n ++ fs) (at_drop_all (found_in_all n c.classes.i) c.args.classes.now c.classes.i c.classes-test.false)) ∙ c.classes.invariant.rows n

pub returns-clause-plain : goal.returns-clause-plain
returns-clause-plain c = sym (c.classes.invariant.plain) ∙ at_drop_all (all_plain c.args.names.now) c.args.classes.now c.classes.i c.classes-test.false

pub returns-clause-different : goal.returns-clause-different
returns-clause-different c = c.len-count.ensures.different

pub returns-in_err-add_methods-clause-built : goal.returns-in_err-add_methods-clause-built
returns-in_err-add_methods-clause-built c = λ h.
    let names = c.args.names.now in
    handed c.from_residual-in_err-add_methods.result _ c.from_residual-in_err-add_methods.ensures.1
    (c.in_err-add_methods.ensures.built (c.classes.invariant.size ∙ c.len-count.ensures.len)
    (ap (have_words names) c.as_slice.ensures ∙ all_at (λ (k : Class). have_words names k.methods) c.args.classes.now c.classes.i c.index-classes-i.result c.classes-test.true c.index-classes-i.is h))
