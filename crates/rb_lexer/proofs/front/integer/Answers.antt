use Rattle.std.proofs.Common.{sym, ◌∙◌, ap, refl, w64, to_z, arith}
use Rattle.std.proofs.lemmas.List.{take_rest}
use Rattle.std.proofs.lemmas.Int.{ints}
use Rattle.rb_lexer.specs.Integer.{joins_integer}
use Rattle.rb_lexer.proofs.Fronts.{integer-wide, integer-joined, integer-token}
use Rattle.rb_lexer.proofs.front.integer.Goals as goal

pub returns-in_default : goal.returns-in_default
returns-in_default c =
    integer-wide c.args.bytes.now c.integer_len-len.result c.requires c.integer_len-len.ensures (c.in_default.ensures.absent refl)

pub returns-then-joins_integer : goal.returns-then-joins_integer
returns-then-joins_integer c =
    let bytes = c.args.bytes.now in
    let len = c.integer_len-len.result in
    integer-joined bytes len c.in-Some.value c.requires c.integer_len-len.ensures c.in-Some.ensures.value c.in-Some.ensures.fits
    (sym (ap joins_integer (take_rest bytes len)) ∙ sym c.joins_integer.ensures ∙ c.if-joins_integer.true)

pub returns : goal.returns
returns c =
    let bytes = c.args.bytes.now in
    let len = c.integer_len-len.result in
    let fits = c.in-Some.ensures.fits in
    integer-token bytes len c.in-Some.value (to_z w64 c.in-Some.value) c.requires c.integer_len-len.ensures c.in-Some.ensures.value fits
    (sym (ap joins_integer (take_rest bytes len)) ∙ sym c.joins_integer.ensures ∙ c.if-joins_integer.false) (omega (arith, ints))
