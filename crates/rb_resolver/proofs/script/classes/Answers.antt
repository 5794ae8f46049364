use Rattle.std.proofs.Common.{◌∙◌, List, length, map, ap, sym, get_or, arith}
use Rattle.std.proofs.lemmas.List.{take_all, get_or-map}
use Rattle.rb_tree.specs.declared.node.Class.{Class}
use Rattle.rb_tree.specs.declared.node.Method.{Method}
use Rattle.rb_code.specs.Erase.{erase_class}
use Rattle.rb_code.specs.Resolved.{class_fits}
use Rattle.rb_resolver.proofs.Fitted.{map_pushed, all_pushed, as_many, as_many_at}
use Rattle.rb_resolver.proofs.script.classes.Goals as goal

pub bounds-own-i : goal.bounds-own-i
bounds-own-i c = omega (arith, as_many c.args.own.now c.args.sources.now c.requires, c.classes-test.true)

pub methods-requires : goal.methods-requires
methods-requires c =
    ap length c.as_slice.ensures
    ∙ as_many_at c.args.own.now c.args.sources.now c.requires c.classes.i c.index-own-i.result c.index-sources-i.result c.classes-test.true c.index-own-i.is c.index-sources-i.is
    ∙ sym (ap length c.as_slice-in-classes.ensures)

pub classes-preserved : goal.classes-preserved
classes-preserved c =
    let sources = c.args.sources.now in
    let i = c.classes.i in
    let source = c.index-sources-i.result in
    let own = c.index-own-i.result in
    let methods = c.in_ok-methods in
    let pushed = c.in_ok-push.ensures.ok in
    let with_methods : List Method → Class = λ ms. record { name = source.name; methods = ms; at = source.at } in
    record {
      erases = map_pushed erase_class c.classes.codes c.push.new.self _ sources source i pushed c.classes.invariant.erases (ap with_methods (methods.ensures.erases ∙ c.as_slice-in-classes.ensures)) c.classes-test.true c.index-sources-i.is;
      fits = λ S k same.
          all_pushed (class_fits S) c.classes.codes c.push.new.self _ pushed (c.classes.invariant.fits S k same)
          (methods.ensures.fits S k
          (c.as_slice.ensures ∙ c.index-own-i.is ∙ ap (λ all. get_or all i own) same ∙ get_or-map (λ (k : Class). map S.method_names k.methods) sources i source own c.classes-test.true
          ∙ ap (λ (k : Class). map S.method_names k.methods) (sym c.index-sources-i.is) ∙ sym (ap (map S.method_names) c.as_slice-in-classes.ensures)));
    }

pub returns-clause-erases : goal.returns-clause-erases
returns-clause-erases c = c.classes.invariant.erases ∙ take_all c.classes.i c.args.sources.now c.classes-test.false
