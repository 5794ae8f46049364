use Rattle.std.proofs.Common.{◌≡◌, ◌∙◌, ap, sym, Some, rules}
use Rattle.std.proofs.lemmas.List.{at_drop_all}
use Rattle.rb_resolver.specs.Known.{first_in}
use Rattle.rb_resolver.proofs.Rows.{counted, counted-zero, first_here, first_later, is_initialize, tested}
use Rattle.rb_resolver.proofs.known.first_of.Goals as goal

pub methods-init : goal.methods-init
methods-init c = counted-zero (first_in c.args.names.now c.args.methods.now)

pub methods-preserved : goal.methods-preserved
methods-preserved c =
    first_later (is_initialize c.args.names.now) c.args.methods.now c.methods.i c.index-methods-i.result c.methods-test.true c.methods.invariant
    (tested c.args.names.now c.args.methods.now c.methods.i c.index-methods-i.result c.name_text.result.now c.as_slice.result.now c.eq.result c.index-methods-i.is c.name_text.ensures c.as_slice.ensures c.eq.ensures ∙ c.if-eq.false)

pub returns-then-eq : goal.returns-then-eq
returns-then-eq c =
    let e : c.in-Ok.number ≡ c.methods.i = search rules in
    ap Some e
    ∙ first_here (is_initialize c.args.names.now) c.args.methods.now c.methods.i c.index-methods-i.result c.methods-test.true c.methods.invariant
    (tested c.args.names.now c.args.methods.now c.methods.i c.index-methods-i.result c.name_text.result.now c.as_slice.result.now c.eq.result c.index-methods-i.is c.name_text.ensures c.as_slice.ensures c.eq.ensures ∙ c.if-eq.true)

pub returns : goal.returns
returns c = sym (ap (counted c.methods.i) (at_drop_all (first_in c.args.names.now) c.args.methods.now c.methods.i c.methods-test.false)) ∙ c.methods.invariant
