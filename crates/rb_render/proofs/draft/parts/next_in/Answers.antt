use Rattle.std.proofs.Common.{◌≡◌, ◌+◌, ◌-◌, take, length, get_or, refl, sym, arith}
use Rattle.std.specs.Vec.{vec_len}
use Rattle.rb_render.specs.Drafting.{form_of, opens, open_of}
use Rattle.rb_render.proofs.Drafting.{innermost, innermost_set, goes_on}
use Rattle.rb_render.proofs.draft.parts.next_in.Goals as goal

pub returns : goal.returns
returns c =
    let bs = c.args.begun.now.items in
    let n = vec_len c.args.begun.now - 1 in
    let b = c.in_ok-innermost.innermost.now in
    let last : get_or bs n b ≡ b = sym c.in_ok-innermost.ensures.value in
    let counted : n + 1 ≡ length bs = omega (arith, c.args.begun.now.ok.0, c.in_ok-innermost.ensures.variant.0 refl) in
    goes_on (form_of c.args.form) (opens bs) (opens (take n bs)) (open_of b) (open_of c.next.new.self) c.next.result _ (innermost bs n b counted last) (innermost_set bs n b c.next.new.self counted last) c.next.ensures
