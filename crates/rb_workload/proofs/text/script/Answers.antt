use Rattle.std.proofs.Common.{◌≡◌, ◌∙◌, refl}
use Rattle.std.specs.Fmt.{decimal}
use Rattle.rb_workload.proofs.Pieces.{added, pieces, short}
use Rattle.rb_workload.proofs.text.script.Goals as goal

grew : (c : goal.In_ok-extend_from_slice-6) → c.extend_from_slice-6.new.self.items ≡ added (decimal c.args.number) (decimal c.args.size)
grew c = rw (
  c.in_ok-extend_from_slice-6.ensures.items,
  c.in_ok-extend_from_slice-5.ensures.items,
  c.in_ok-extend_from_slice-4.ensures.items,
  c.in_ok-extend_from_slice-3.ensures.items,
  c.in_ok-extend_from_slice-2.ensures.items,
  c.in_ok-extend_from_slice.ensures.items,
  c.in_ok-text.ensures.items,
  c.as_bytes.ensures.value,
  c.as_bytes-2.ensures.value,
  c.as_bytes-3.ensures.value,
  c.as_bytes-4.ensures.value,
  c.as_bytes-number.ensures.value,
  c.as_bytes-size.ensures.value,
  c.format.ensures.text,
  c.format-2.ensures.text,
) refl

pub returns-clause-lines : goal.returns-clause-lines
returns-clause-lines c = grew c ∙ pieces c.args.number c.args.size

pub returns-clause-short : goal.returns-clause-short
returns-clause-short c = rw (grew c) (short c.args.number c.args.size c.ranges.number.fits c.ranges.size.fits)
