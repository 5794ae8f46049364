-- The pieces of texts, one behind the other.
use Rattle.std.proofs.Common.{◌≡◌, List, [], ◌∷◌, ◌++◌, refl, sym, ap, ◌∙◌, arith, max, append-nil}
use Rattle.std.specs.Prelude.{map}
use Rattle.std.proofs.lemmas.List.{map-append}
use Rattle.rb_tree.specs.declared.node.Piece.{Piece}
use Rattle.rb_tree.specs.declared.node.Piece.TheVariants as piece
use Rattle.rb_grammar.specs.Tree.{Text, Tree, PieceTree, bytes, code, heights, names_of, threads_of, piece_by, code_of}
use Rattle.rb_builder.specs.Walk.{Walk, gathering, numbering}
use Rattle.rb_builder.specs.declared.grown.Grown as grown
use Rattle.rb_builder.specs.declared.literal.PieceRow as row
use Rattle.rb_builder.specs.Said.{Joined}
use Rattle.rb_builder.specs.Grown.{Made, Keeps, IsTree}
use Rattle.rb_builder.specs.Literal.{ArePieces}
use Rattle.rb_builder.proofs.Saying.{said-joined}
use Rattle.rb_builder.proofs.Rows.{highest-append, names_of-append, threads_of-append}

pub code_of-append : (a b : List PieceTree) → code_of (a ++ b) ≡ code_of a ++ code_of b
code_of-append [] b = refl
code_of-append (bytes text ∷ a) b = code_of-append a b
code_of-append (code t ∷ a) b = ap (λ x. t ∷ x) (code_of-append a b)

-- bytes have no code in them
pub code_of-bytes : (a : List PieceTree) (text : Text) → code_of (a ++ bytes text ∷ []) ≡ code_of a
code_of-bytes a text = code_of-append a (bytes text ∷ []) ∙ append-nil (code_of a)

-- a piece that is kept stands behind the rest
pieces_kept : (w : Walk) (made : Piece) (old new : List Piece) (trees : List PieceTree) (a : PieceTree) → Keeps w made old new → Made w old (λ n. map (piece_by n) trees)
    → Made w made (λ n. piece_by n a) → Made w new (λ n. map (piece_by n) (trees ++ a ∷ []))
pieces_kept gathering made old new trees a k h m = tt
pieces_kept (numbering n) made old new trees a k h m =
    k ∙ ap (λ x. x ++ made ∷ []) h ∙ ap (λ x. map (piece_by n) trees ++ x ∷ []) m ∙ sym (map-append (piece_by n) trees (a ∷ []))

bytes_made : (w : Walk) (text : Text) → Made w (piece.Text text) (λ n. piece_by n (bytes text))
bytes_made gathering text = tt
bytes_made (numbering n) text = refl

code_made : (w : Walk) (g : grown.Grown) (a : Tree) → Made w g.node a.node → Made w (piece.Code g.node) (λ n. piece_by n (code a))
code_made gathering g a m = tt
code_made (numbering n) g a m = ap (λ x. piece.Code x) m

-- bytes are added behind other pieces
pub bytes_pushed : (w : Walk) (old new : row.PieceRow) (text : Text) (trees : List PieceTree)
    → new.height ≡ old.height → Keeps w (piece.Text text) old.pieces new.pieces → new.said ≡ old.said
    → ArePieces w old trees → ArePieces w new (trees ++ bytes text ∷ [])
bytes_pushed w old new text trees height made said r = record {
  height = rw (code_of-bytes trees text) (height ∙ r.height);
  pieces = pieces_kept w (piece.Text text) old.pieces new.pieces trees (bytes text) made r.pieces (bytes_made w text);
  said = rw (said, code_of-bytes trees text) r.said;
}

-- code is added behind other pieces
pub code_pushed : (w : Walk) (old new : row.PieceRow) (g : grown.Grown) (trees : List PieceTree) (a : Tree)
    → new.height ≡ max old.height g.height → Keeps w (piece.Code g.node) old.pieces new.pieces → Joined old.said g.said new.said
    → ArePieces w old trees → IsTree w g a → ArePieces w new (trees ++ code a ∷ [])
code_pushed w old new g trees a height made said r t = record {
  height = rw (code_of-append trees (code a ∷ []), map-append (λ b. b.height) (code_of trees) (a ∷ []), highest-append (heights (code_of trees)) (a.height ∷ []), height, r.height, t.height) (grind arith);
  pieces = pieces_kept w (piece.Code g.node) old.pieces new.pieces trees (code a) made r.pieces (code_made w g a t.node);
  said = rw (code_of-append trees (code a ∷ []), names_of-append (code_of trees) (a ∷ []), threads_of-append (code_of trees) (a ∷ []), append-nil a.names, append-nil a.threads)
      (said-joined w old.said g.said new.said (names_of (code_of trees)) a.names (threads_of (code_of trees)) a.threads r.said t.said said);
}
