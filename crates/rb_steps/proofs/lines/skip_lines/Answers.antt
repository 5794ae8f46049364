use Rattle.std.proofs.Common.{◌<◌, length, sym, true≢false, arith}
use Rattle.rb_steps.proofs.Skipping.{no_line_yet, one_more, all_skipped}
use Rattle.rb_steps.proofs.lines.skip_lines.Goals as goal

pub lines-init : goal.lines-init
lines-init c = record {
  skipping = no_line_yet c.args.cursor.now;
  shorter = omega arith;
  less = λ h. absurd (true≢false (sym h));
}

pub lines-smaller : goal.lines-smaller
lines-smaller c = c.in-Some.ensures.less

pub lines-preserved : goal.lines-preserved
lines-preserved c = record {
  skipping = one_more c.lines.any c.args.cursor.now c.lines.cursor c.accept.new.self c.in-Some.field-0.now c.in-Some.ensures.taken c.lines.invariant.skipping;
  shorter = omega (arith, c.lines.invariant.shorter, c.accept.ensures.shorter);
  less = λ h. omega (arith, c.lines.invariant.shorter, c.in-Some.ensures.less);
}

pub returns-clause-skipped : goal.returns-clause-skipped
returns-clause-skipped c =
    all_skipped c.lines.any c.args.cursor.now c.lines.cursor c.accept.new.self c.in_default.ensures.taken.0 c.in_default.ensures.taken.1 c.lines.invariant.skipping

pub returns-clause-shorter : goal.returns-clause-shorter
returns-clause-shorter c = omega (arith, c.lines.invariant.shorter, c.accept.ensures.shorter)

pub returns-clause-less : goal.returns-clause-less
returns-clause-less c = λ h.
    let before : length c.lines.cursor.rest < length c.args.cursor.now.rest = c.lines.invariant.less h in
    omega (arith, before, c.accept.ensures.shorter)
