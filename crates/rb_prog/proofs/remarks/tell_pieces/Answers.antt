use Rattle.std.proofs.Common.{arith, get_or, refl}
use Rattle.rb_prog.proofs.Telling.{rose_earlier, empty, adds_piece, told_piece}
use Rattle.rb_prog.proofs.remarks.tell_pieces.Goals as goal

pub returns-in-Err-clause-told : goal.returns-in-Err-clause-told
returns-in-Err-clause-told g c =
    let told = g.E.Sink.told in
    let pieces = c.args.pieces.now in
    let i = c.pieces.piece-index in
    let front = rw c.as_bytes.ensures.value at c.in-Err.ensures.front in
    told_piece pieces i empty (get_or pieces i empty) c.pieces-test.true refl (told c.args.err.now) (told c.pieces.err) (told c.write_all.new.sink) _ c.pieces.invariant.told
    (rose_earlier (g.E.Sink.faults c.args.err.now) _ _ c.pieces.invariant.rises c.in-Err.ensures.cause) front

pub pieces-preserved : goal.pieces-preserved
pieces-preserved g c =
    let told = g.E.Sink.told in
    let pieces = c.args.pieces.now in
    let i = c.pieces.piece-index in
    let all = rw c.as_bytes.ensures.value at c.in_default.ensures.all in
    record {
      told = adds_piece pieces i empty (get_or pieces i empty) c.pieces-test.true refl (told c.args.err.now) (told c.pieces.err) (told c.write_all.new.sink) c.pieces.invariant.told all;
      rises = omega (arith, c.in_default.ensures.rises, c.pieces.invariant.rises);
    }
