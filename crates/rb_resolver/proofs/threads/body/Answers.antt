use Rattle.std.proofs.Common.{◌∙◌, ap, sym, map, length, arith}
use Rattle.rb_code.specs.Erase.{erase}
use Rattle.rb_code.specs.Resolved.{body_fits}
use Rattle.rb_resolver.proofs.Started.{block_is}
use Rattle.rb_resolver.proofs.threads.body.Goals as goal

pub returns-clause-erases : goal.returns-clause-erases
returns-clause-erases c =
    block_is c.args.source.now c.in_ok-params.params (map erase c.in_ok-codes.codes) (c.in_ok-params.ensures ∙ c.as_slice-2.ensures) (c.in_ok-codes.ensures.erases ∙ c.as_slice.ensures)

pub returns-clause-fits : goal.returns-clause-fits
returns-clause-fits c = λ S k.
    let captured = c.in_ok-captured.ensures in
    let params = c.in_ok-params.ensures ∙ c.as_slice-2.ensures in
    let own = c.frame_of-own.ensures ∙ k.threads c.args.number in
    record {
      captured = captured ∙ c.captured_of-captured.ensures ∙ k.captured c.args.number;
      room = omega (arith, ap length captured, ap length params, c.in_ok-codes.ensures.least, c.len.ensures);
      names = omega (arith, ap length own, c.in_ok-codes.ensures.room);
      fits = ap (λ ns. body_fits S c.in_ok-codes.codes ns c.in_ok-codes.size) (sym own) ∙ c.in_ok-codes.ensures.fits S k;
    }
