use Rattle.std.proofs.Common.{refl, sym}
use Rattle.rb_tree.specs.declared.node.Piece.TheVariants as piece
use Rattle.rb_builder.specs.Builder.{walk_of}
use Rattle.rb_builder.proofs.Walks.{first_walk, second_walk, kept, let_go}
use Rattle.rb_builder.proofs.Pieces.{bytes_pushed}
use Rattle.rb_builder.proofs.builder.Builder.push_bytes.Goals as goal

pub returns-in_ok-push-clause-ok : goal.returns-in_ok-push-clause-ok
returns-in_ok-push-clause-ok c = λ trees r.
    let b = c.args.self.now in
    let old = c.args.row.now in
    let text = c.args.text.now in
    bytes_pushed (walk_of b) old (record { height = old.height; pieces = c.push.new.self; said = old.said }) text trees refl
    (kept (walk_of b) (second_walk b b.numbers refl (sym c.if-is_some.ensures)) (piece.Text text) old.pieces c.push.new.self (rw (sym c.in_ok-text.ensures) c.in_ok-push.ensures.ok)) refl r

pub returns-else-is_some-clause-ok : goal.returns-else-is_some-clause-ok
returns-else-is_some-clause-ok c = λ trees r.
    let b = c.args.self.now in
    let old = c.args.row.now in
    bytes_pushed (walk_of b) old old c.args.text.now trees refl
    (let_go (walk_of b) (piece.Text c.args.text.now) old.pieces old.pieces (first_walk b b.numbers refl (sym c.if-is_some.ensures)) refl) refl r
