use Rattle.std.proofs.Common.{◌∙◌, ap, sym, get_or}
use Rattle.std.proofs.lemmas.List.{take_all, get_or-map}
use Rattle.rb_code.specs.Erase.{erase_method}
use Rattle.rb_code.specs.Resolved.{method_fits}
use Rattle.rb_resolver.proofs.Fitted.{map_pushed, all_pushed}
use Rattle.rb_resolver.proofs.script.methods.Goals as goal

pub methods-preserved : goal.methods-preserved
methods-preserved c =
    let sources = c.args.sources.now in
    let i = c.methods.i in
    let source = c.index-sources-i.result in
    let own = c.index-own-i.result in
    let code = c.in_ok-code in
    let pushed = c.in_ok-push.ensures.ok in
    record {
      erases = map_pushed erase_method c.methods.codes c.push.new.self code.code sources source i pushed c.methods.invariant.erases code.ensures.erases c.methods-test.true c.index-sources-i.is;
      fits = λ S k same.
          all_pushed (method_fits S) c.methods.codes c.push.new.self code.code pushed (c.methods.invariant.fits S k same)
          (code.ensures.fits S k
          (sym (c.as_slice.ensures ∙ c.index-own-i.is ∙ ap (λ all. get_or all i own) same ∙ get_or-map S.method_names sources i source own c.methods-test.true ∙ ap S.method_names (sym c.index-sources-i.is))));
    }

pub returns-clause-erases : goal.returns-clause-erases
returns-clause-erases c = c.methods.invariant.erases ∙ take_all c.methods.i c.args.sources.now c.methods-test.false
