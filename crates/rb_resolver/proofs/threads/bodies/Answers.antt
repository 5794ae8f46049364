use Rattle.std.proofs.Common.{◌≡◌, ◌∙◌, ◌+◌, ◌∷◌, sym, [], ap, map, length, length-append, arith, rules}
use Rattle.std.proofs.lemmas.List.{take_all}
use Rattle.rb_code.specs.Erase.{erase_body}
use Rattle.rb_code.specs.Stands.{IsBody}
use Rattle.rb_resolver.proofs.Built.{handed, body_at}
use Rattle.rb_resolver.specs.Built.{body_built}
use Rattle.rb_resolver.proofs.Fitted.{map_pushed}
use Rattle.rb_resolver.proofs.Started.{each_pushed, none_there}
use Rattle.rb_resolver.proofs.threads.bodies.Goals as goal

pub bodies-init : goal.bodies-init
bodies-init c = record {
  counted = ap length c.new-codes.ensures;
  erases = ap (map erase_body) c.new-codes.ensures;
  fits = λ S k number it at. absurd (none_there _ number it c.new-codes.ensures at);
}

pub bodies-preserved : goal.bodies-preserved
bodies-preserved c =
    let sources = c.args.sources.now in
    let i = c.bodies.i in
    let source = c.index-sources-i.result in
    let code = c.in_ok-code in
    let inv = c.bodies.invariant in
    let pushed = c.in_ok-push.ensures.ok in
    let number : c.in-Ok.number ≡ i = search rules in
    record {
      counted = omega (arith, ap length pushed, length-append c.bodies.codes (code.code ∷ []), inv.counted);
      erases = map_pushed erase_body c.bodies.codes c.push.new.self code.code sources source i pushed inv.erases code.ensures.erases c.bodies-test.true c.index-sources-i.is;
      fits = λ S k. each_pushed (IsBody S) c.bodies.codes c.push.new.self code.code i c.in-Ok.number pushed inv.counted number (inv.fits S k) (code.ensures.fits S k);
    }

pub returns-clause-erases : goal.returns-clause-erases
returns-clause-erases c = c.bodies.invariant.erases ∙ take_all c.bodies.i c.args.sources.now c.bodies-test.false

pub returns-in_err-code-clause-built : goal.returns-in_err-code-clause-built
returns-in_err-code-clause-built c = λ S k h.
    let number : c.in-Ok.number ≡ c.bodies.i = search rules in
    let from_first : 0 + c.bodies.i ≡ c.bodies.i = omega arith in
    handed c.from_residual.result _ c.from_residual.ensures.1
    (c.in_err-code.ensures.built S k
    (ap (λ n. body_built S c.index-sources-i.result.body (S.thread_names n)) (number ∙ sym from_first) ∙ body_at S 0 c.args.sources.now c.bodies.i c.index-sources-i.result c.bodies-test.true c.index-sources-i.is h))
