use Rattle.std.proofs.Common.{◌≡◌, [], ◌∷◌, sym, ap, ◌∙◌}
use Rattle.rb_tree.specs.declared.node.AssignOp.TheVariants as op
use Rattle.rb_code.specs.declared.code.Code.TheVariants as code
use Rattle.rb_walk.proofs.Singles.{single}
use Rattle.rb_walk.proofs.target.added_by.Goals as goal

pub returns : goal.returns
returns c =
    let x = c.in-UpdateField in
    let y = c.in-Local in
    let value : x.value ≡ code.Local 0 y.field-1 y.field-2 = sym c.get.ensures ∙ (y.is ∙ ap (λ n. code.Local n y.field-1 y.field-2) c.if-slot-ne0.false) in
    record {
      params = sym c.len.ensures ∙ c.if-len-ne1.false;
      name = y.field-1;
      from = y.field-2;
      body = single _ _ _ c.as_slice.ensures c.in-len1.len_at_least c.in-len1.len_below c.only-item.is ∙ ap (λ c. c ∷ []) (x.is ∙ ap (λ o. code.UpdateField x.field o x.value x.at) c.in-Plus.is ∙ ap (λ v. code.UpdateField x.field op.Plus v x.at) value);
    }
