-- The pieces of a text, beside the machine.
use Rattle.std.proofs.Common.{◌≡◌, ℕ, zero, suc, ◌<◌, ◌≤◌, true, false, cond, List, [], ◌∷◌, ◌++◌, length, map, drop, get_or, refl, sym, ap, ◌∙◌, subst, rules, arith}
use Rattle.std.proofs.lemmas.Bool.Decides.{nat_tests}
use Rattle.std.specs.Prelude.{nat_lt}
use Rattle.rb_tree.specs.declared.span.Span.{Span}
use Rattle.rb_tree.specs.declared.span.NameId.{NameId}
use Rattle.rb_tree.specs.declared.node.Node.{Node, the_lemmas}
use Rattle.rb_tree.specs.declared.node.Node.TheOpen as node
use Rattle.rb_tree.specs.declared.node.Piece.{Piece, out-Piece}
use Rattle.rb_model.specs.Values.{Value as Val, Str}
use Rattle.rb_model.specs.declared.fault.Fault.TheVariants.{TextTooLong}
use Rattle.rb_model.specs.Log.{Log}
use Rattle.rb_model.specs.Private.{Private}
use Rattle.rb_machine.specs.Scopes.{Script, Scope}
use Rattle.rb_machine.specs.Texts.{max_bytes}
use Rattle.rb_machine.specs.Control.{State, On, Cont, Then, Eval, Give, Joining, PieceOf, JoinTo}
use Rattle.rb_machine.specs.Call.{raised, give_text}
use Rattle.rb_machine.specs.Give.{join}
use Rattle.rb_machine.specs.Move.{Go, join_piece}
use Rattle.rb_machine.specs.Follows.{At}
use Rattle.rb_code.specs.declared.code.Code.{Code}
use Rattle.rb_code.specs.declared.code.CodePiece.{CodePiece}
use Rattle.rb_code.specs.declared.code.CodePiece.TheVariants as part
use Rattle.rb_code.specs.Erase.{erase, erase_piece}
use Rattle.rb_code.specs.Resolved.{every, fits, piece_fits}
use Rattle.rb_code.proofs.Erasing.{erase_piece-text, erase_piece-code}
use Rattle.rb_code.proofs.Fitting.{piece_fits-code}
use Rattle.rb_walk.proofs.Lists.{fst, snd, next_item}
use Rattle.rb_walk.specs.Outcome.{Outcome, Gave, Came}
use Rattle.rb_walk.specs.Answers.{OrMemory, IsWritten}
use Rattle.rb_walk.proofs.Moves.{on, same}
use Rattle.rb_walk.proofs.Calls.{or_memory}

module _ (S : Script) where
  pieces_drop : (ps : List CodePiece) (i : ℕ) (names : List NameId) (size : ℕ) → every (map (piece_fits S) ps) names size ≡ true → every (map (piece_fits S) (drop i ps)) names size ≡ true
  pieces_drop ps zero names size h = h
  pieces_drop [] (suc i) names size h = refl
  pieces_drop (p ∷ ps) (suc i) names size h = pieces_drop ps i names size (snd _ _ h)

  -- what is right for all pieces is right for the code in one of them
  pub piece_code : (ps : List CodePiece) (i : ℕ) (p : CodePiece) (c : Code) (names : List NameId) (size : ℕ) → i < length ps → p ≡ get_or ps i p → p ≡ part.Code c → every (map (piece_fits S) ps) names size ≡ true → fits S c names size ≡ true
  piece_code ps i p c names size l e q h =
      let one : piece_fits S p names size ≡ true = fst _ _ (subst (λ (qs : List CodePiece). every (map (piece_fits S) qs) names size ≡ true) (next_item ps i p l e) (pieces_drop ps i names size h)) in
      sym (ap (λ p. piece_fits S p names size) q ∙ piece_fits-code S names size c) ∙ one

-- what a piece stands for
pub shows_text : (p : CodePiece) (text bytes : List ℕ) → p ≡ part.Text text → bytes ≡ text → out-Piece (erase_piece p) ≡ node.Text bytes
shows_text p text bytes e f = ap (λ p. out-Piece (erase_piece p)) (e ∙ ap part.Text (sym f)) ∙ (ap out-Piece (erase_piece-text bytes) ∙ search (rules, the_lemmas))

pub shows_code : (p : CodePiece) (c : Code) → p ≡ part.Code c → out-Piece (erase_piece p) ≡ node.Code (erase c)
shows_code p c e = ap (λ p. out-Piece (erase_piece p)) e ∙ (ap out-Piece (erase_piece-code c) ∙ search (rules, the_lemmas))

module _ {S : Script} {N : ℕ} {start : State} {h : Private} where
  -- the pieces that are left, under another name
  pub joining : {l : Log} {bytes : List ℕ} {ps : List Piece} {at : Span} {k : List Cont} {sc : Scope} {d n : ℕ} (qs : List Piece) → qs ≡ ps → At S N start l h (On (Joining bytes ps at) k sc d n) → At S N start l h (On (Joining bytes qs at) k sc d n)
  joining {bytes = bytes} {at = at} {k = k} {sc = sc} {d = d} {n = n} qs e a = same a (ap (λ ps. On (Joining bytes ps at) k sc d n) (sym e))

  -- a piece that is code is evaluated
  pub joins_code : {l : Log} {bytes : List ℕ} {p : Piece} {ps : List Piece} {at : Span} {k : List Cont} {sc : Scope} {d n : ℕ} (c : Node) → out-Piece p ≡ node.Code c → At S N start l h (On (Joining bytes (p ∷ ps) at) k sc d n) → At S N start l h (On (Eval c) (Then (PieceOf bytes ps at) ∷ k) sc d n)
  joins_code {bytes = bytes} {ps = ps} {at = at} {k = k} {sc = sc} {d = d} {n = n} c e a = on _ a (ap (λ f. Go (join_piece S f bytes ps at k sc d n)) e)

  -- bytes that join others are too many with them, or not
  pub too_long : {l : Log} (bytes more : List ℕ) (ps : List Piece) (at : Span) (k : List Cont) (sc : Scope) (d n : ℕ) (all : List ℕ) → all ≡ bytes ++ more → max_bytes < length all → At S N start l h (join bytes more ps at k sc d n) → At S N start l h (raised TextTooLong at n)
  too_long bytes more ps at k sc d n all e q a =
      let t : nat_lt max_bytes (length (bytes ++ more)) ≡ true = ap (λ b. nat_lt max_bytes (length b)) (sym e) ∙ grind (arith, nat_tests) in
      same a (ap (λ t. cond t (raised TextTooLong at n) (On (Joining (bytes ++ more) ps at) k sc d n)) t)

  pub not_long : {l : Log} (bytes more : List ℕ) (ps : List Piece) (at : Span) (k : List Cont) (sc : Scope) (d n : ℕ) (all : List ℕ) → all ≡ bytes ++ more → length all ≤ max_bytes → At S N start l h (join bytes more ps at k sc d n) → At S N start l h (On (Joining all ps at) k sc d n)
  not_long bytes more ps at k sc d n all e q a =
      let t : nat_lt max_bytes (length (bytes ++ more)) ≡ false = ap (λ b. nat_lt max_bytes (length b)) (sym e) ∙ grind (arith, nat_tests) in
      same (same a (ap (λ t. cond t (raised TextTooLong at n) (On (Joining (bytes ++ more) ps at) k sc d n)) t)) (ap (λ b. On (Joining b ps at) k sc d n) (sym e))

  -- a piece that is bytes joins those before it
  pub text_long : {l : Log} (bytes more : List ℕ) (p : Piece) (ps : List Piece) (at : Span) (k : List Cont) (sc : Scope) (d n : ℕ) (all : List ℕ) → out-Piece p ≡ node.Text more → all ≡ bytes ++ more → max_bytes < length all
      → At S N start l h (On (Joining bytes (p ∷ ps) at) k sc d n) → At S N start l h (raised TextTooLong at n)
  text_long bytes more p ps at k sc d n all f e q a = too_long bytes more ps at k sc d n all e q (on _ a (ap (λ f. Go (join_piece S f bytes ps at k sc d n)) f))

  pub text_joins : {l : Log} (bytes more : List ℕ) (p : Piece) (ps : List Piece) (at : Span) (k : List Cont) (sc : Scope) (d n : ℕ) (all : List ℕ) → out-Piece p ≡ node.Text more → all ≡ bytes ++ more → length all ≤ max_bytes
      → At S N start l h (On (Joining bytes (p ∷ ps) at) k sc d n) → At S N start l h (On (Joining all ps at) k sc d n)
  text_joins bytes more p ps at k sc d n all f e q a = not_long bytes more ps at k sc d n all e q (on _ a (ap (λ f. Go (join_piece S f bytes ps at k sc d n)) f))

  -- a value of code is asked for its text
  pub asks_piece : {l : Log} {bytes : List ℕ} {ps : List Piece} {at : Span} {k : List Cont} {sc : Scope} {d n : ℕ} {v : Val} → At S N start l h (On (Give v) (Then (PieceOf bytes ps at) ∷ k) sc d n) → At S N start l h (give_text S v at (Then (JoinTo bytes ps at) ∷ k) sc d n)
  asks_piece a = on _ a refl

module _ (S : Script) (N : ℕ) (start : State) (h : Private) where
  -- a text that is written out as a whole gives its bytes
  pub whole_text : (l : Log) (text : List ℕ) (ps : List CodePiece) (at : Span) (k : List Cont) (sc : Scope) (d n : ℕ) (o : Outcome) → IsWritten ps text → OrMemory (Gave (Str text)) o
      → At S N start l h (On (Joining [] (map erase_piece ps) at) k sc d n) → Came S N start l h o k sc d n
  whole_text l text ps at k sc d n o w m a =
      let one = joining (erase_piece (part.Text text) ∷ []) (sym (ap (map erase_piece) w.0)) a in
      let joined = text_joins [] text (erase_piece (part.Text text)) [] at k sc d n text (shows_text (part.Text text) text text refl refl) refl w.1 one in
      let given : At S N start l h (On (Give (Str text)) k sc d n) = on _ joined refl in
      or_memory S N start h l k sc d n (Gave (Str text)) o (On (Give (Str text)) k sc d n) m given refl given
