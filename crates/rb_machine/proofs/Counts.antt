-- What takes a step.
use Rattle.std.proofs.Common.{◌≡◌, ℕ, zero, suc, ◌+◌, Bool, true, false, cond, List, [], ◌∷◌, refl, sym, ap, ◌∙◌, subst, arith}
use Rattle.std.proofs.lemmas.Bool.Decides.{nat_tests}
use Rattle.std.specs.Prelude.{nat_lt, int_lt, pos, ◌+ℤ◌, ◌&&◌, length, Option, Some, None}
use Rattle.rb_tree.specs.declared.span.Span.{Span}
use Rattle.rb_tree.specs.declared.node.Node.{Node, out-Node}
use Rattle.rb_tree.specs.declared.node.Piece.{Piece, out-Piece}
use Rattle.rb_tree.specs.declared.node.Target.{Target}
use Rattle.rb_tree.specs.declared.node.Block.{Block}
use Rattle.rb_tree.specs.declared.node.Node.TheOpen.{Piece-F}
use Rattle.rb_tree.specs.declared.node.Node.TheOpen as node
use Rattle.rb_tree.specs.Place.{place}
use Rattle.rb_model.specs.declared.fault.Fault.TheVariants.{TooDeep}
use Rattle.rb_model.specs.Values.{Value, Int, Reference}
use Rattle.rb_model.specs.Acts.{Reply}
use Rattle.rb_model.specs.Acts as reply
use Rattle.rb_model.specs.Ends as ending
use Rattle.rb_machine.specs.Scopes.{Script, Scope}
use Rattle.rb_machine.specs.Control.{State, On, Cont, Then, Under, Turns, Counting, Walking, EachPair, WithElement, Locked, LineOf, Draft, Use, Keys, Values, ForEach, ForText, Eval, Give, Leave, Following, Looping, Turning, Passing, Joining, Drafting, Making, Calling, Reading, Showing, Starting, Ended, max_depth}
use Rattle.rb_machine.specs.Drafts.{Needs, Goes, Finished, Element, Copies, Asks, needs, opened}
use Rattle.rb_machine.specs.Call.{raised, going, drafted}
use Rattle.rb_machine.specs.Begin.{begin}
use Rattle.rb_machine.specs.Give.{give}
use Rattle.rb_machine.specs.Turns.{start_turn, start_owning, turn, holding, given}
use Rattle.rb_machine.specs.Move.{Next, Go, move, answered, used, left_in, start_node, join_piece}
use Rattle.rb_machine.specs.Laws.{one_more_if, begins_step, comes_to_element, CountsSteps, RepliesAreFree}
use Rattle.rb_machine.proofs.Measure.{begins_turn_at, give_text_within, join_within, give_within, leave_within, perform_within}
use Rattle.rb_machine.proofs.Down.{begin_left}

going_left : (o : Option Draft) (at : Span) (k : List Cont) (sc : Scope) (d left : ℕ) → left_in (going o at k sc d left) ≡ left
going_left (Some t) at k sc d left = refl
going_left None at k sc d left = refl

module _ (S : Script) where
  abbrev Counted : State → Next → Type 0
  Counted s (Go t) = left_in s ≡ one_more_if (begins_step S s) (left_in t)
  Counted s want = Unit {0}

  node_if : (b : Bool) (left : ℕ) (t u : State) → left_in t ≡ left → left_in u ≡ suc left → suc left ≡ one_more_if b (left_in (cond b t u))
  node_if true left t u p q = ap suc (sym p)
  node_if false left t u p q = sym q

  node_counted : (n : Node) (k : List Cont) (sc : Scope) (d left : ℕ) → Counted (On (Eval n) k sc d left) (Go (start_node S n k sc d left))
  node_counted n k sc d zero = refl
  node_counted n k sc d (suc left) =
      let e : nat_lt 0 (suc left) ≡ true = grind (arith, nat_tests) in
      node_if (nat_lt d max_depth) left (begin S (out-Node n) (Under d ∷ k) sc (d + 1) left) (raised TooDeep (place (out-Node n)) (suc left)) (begin_left S (out-Node n) (Under d ∷ k) sc (d + 1) left) refl
      ∙ ap (λ a. one_more_if (a && nat_lt d max_depth) (left_in (start_node S n k sc d (suc left)))) (sym e)

  same_left : (b : Bool) (left : ℕ) (t u : State) → left_in t ≡ left → left_in u ≡ left → left ≡ left_in (cond b t u)
  same_left true left t u p q = sym p
  same_left false left t u p q = sym q

  turn_started : (later : Turns) (values : List Value) (b : Block) (k : List Cont) (sc : Scope) (d left : ℕ) → left ≡ one_more_if (nat_lt 0 left) (left_in (start_turn S later values b k sc d left))
  turn_started later values b k sc d zero = refl
  turn_started later values b k sc d (suc left) = let e : nat_lt 0 (suc left) ≡ true = grind (arith, nat_tests) in ap (λ a. one_more_if a left) (sym e)

  owning_started : (mutex : Reference) (b : Block) (at : Span) (k : List Cont) (sc : Scope) (d left : ℕ) → left ≡ one_more_if (nat_lt 0 left) (left_in (start_owning S mutex b at k sc d left))
  owning_started mutex b at k sc d zero = refl
  owning_started mutex b at k sc d (suc left) = let e : nat_lt 0 (suc left) ≡ true = grind (arith, nat_tests) in ap (λ a. one_more_if a left) (sym e)

  turn_counted : (turns : Turns) (b : Block) (k : List Cont) (sc : Scope) (d left : ℕ) → Counted (On (Turning turns b) k sc d left) (Go (turn S turns b k sc d left))
  turn_counted (Counting next last answer) b k sc d zero =
      same_left (int_lt next last) zero (start_turn S (Counting (next +ℤ pos 1) last answer) (Int next ∷ []) b k sc d zero) (On (Give answer) k sc d zero) refl refl
  turn_counted (Counting next last answer) b k sc d (suc left) =
      let e : nat_lt 0 (suc left) ≡ true = grind (arith, nat_tests) in
      node_if (int_lt next last) left (start_turn S (Counting (next +ℤ pos 1) last answer) (Int next ∷ []) b k sc d (suc left)) (On (Give answer) k sc d (suc left)) refl refl
      ∙ ap (λ a. one_more_if (a && int_lt next last) (left_in (turn S (Counting next last answer) b k sc d (suc left)))) (sym e)
  turn_counted (Walking array next walk at) b k sc d left = refl
  turn_counted (EachPair [] answer) b k sc d left = refl
  turn_counted (EachPair (p ∷ ps) answer) b k sc d left = turn_started (EachPair ps answer) (p.0 ∷ p.1 ∷ []) b k sc d left

  no_turn : (v : Value) (c : Cont) (k : List Cont) (sc : Scope) (d left : ℕ) → begins_turn_at S c ≡ false → begins_step S (On (Give v) (c ∷ k) sc d left) ≡ false
  no_turn v (Then (WithElement array next walk block at)) k sc d left e = absurd (cc)
  no_turn v (Then (Locked mutex block at)) k sc d left e = absurd (cc)
  no_turn v c k sc d left e = refl

  element_counted : (v : Value) (c : Cont) (k : List Cont) (sc : Scope) (d left : ℕ) → begins_turn_at S c ≡ true → Counted (On (Give v) (c ∷ k) sc d left) (Go (give S v c k sc d left))
  element_counted v (Then (WithElement array next walk block at)) k sc d left e = turn_started (Walking array (suc next) (holding v walk) at) (given v next walk) block k sc d left
  element_counted v (Then (Locked mutex block at)) k sc d left e = owning_started mutex block at k sc d left
  element_counted v c k sc d left e = absurd (cc)

  given_counted : (v : Value) (c : Cont) (k : List Cont) (sc : Scope) (d left : ℕ) (b : Bool) → begins_turn_at S c ≡ b → Counted (On (Give v) (c ∷ k) sc d left) (Go (give S v c k sc d left))
  given_counted v c k sc d left true e = element_counted v c k sc d left e
  given_counted v c k sc d left false e = sym (give_within S v c k sc d left e).0 ∙ ap (λ b. one_more_if b (left_in (give S v c k sc d left))) (sym (no_turn v c k sc d left e))

  -- what a text needs takes a step where it is an element, and else none
  no_element : (b : Bool) (need : Needs) (left : ℕ) (t : State) → comes_to_element need ≡ false → left_in t ≡ left → left ≡ one_more_if (b && comes_to_element need) (left_in t)
  no_element true need left t e h = sym h ∙ ap (λ a. one_more_if a (left_in t)) (sym e)
  no_element false need left t e h = sym h

  drafted_counted : (need : Needs) (at : Span) (k : List Cont) (sc : Scope) (d left : ℕ) → left ≡ one_more_if (nat_lt 0 left && comes_to_element need) (left_in (drafted S need at k sc d left))
  drafted_counted (Goes t) at k sc d left = no_element (nat_lt 0 left) (Goes t) left (going t at k sc d left) refl (going_left t at k sc d left)
  drafted_counted (Finished text) at k sc d left = no_element (nat_lt 0 left) (Finished text) left (drafted S (Finished text) at k sc d left) refl refl
  drafted_counted (Element t) at k sc d zero = refl
  drafted_counted (Element t) at k sc d (suc left) = let e : nat_lt 0 (suc left) ≡ true = grind (arith, nat_tests) in ap (λ a. one_more_if (a && true) left) (sym e)
  drafted_counted (Copies thing t) at k sc d left =
      no_element (nat_lt 0 left) (Copies thing t) left (drafted S (Copies thing t) at k sc d left) refl
      (sym (same_left (nat_lt (d + length t.begun) max_depth) left (On (Reading thing (ForText t) at) k sc d left) (raised TooDeep at left) refl refl))
  drafted_counted (Asks v t) at k sc d left =
      no_element (nat_lt 0 left) (Asks v t) left (drafted S (Asks v t) at k sc d left) refl (give_text_within S v at (Under d ∷ Then (LineOf t at) ∷ k) sc (d + length t.begun) left).0

  piece_counted : (f : Piece-F Node Piece Target Block) (bytes : List ℕ) (p : Piece) (ps : List Piece) (at : Span) (k : List Cont) (sc : Scope) (d left : ℕ)
      → Counted (On (Joining bytes (p ∷ ps) at) k sc d left) (Go (join_piece S f bytes ps at k sc d left))
  piece_counted (node.Text more) bytes p ps at k sc d left = sym (join_within S bytes more ps at k sc d left).0
  piece_counted (node.Code code) bytes p ps at k sc d left = refl

  counted : (s : State) → Counted s (move S s)
  counted (On (Eval n) k sc d left) = node_counted n k sc d left
  counted (On (Give v) [] sc d left) = refl
  counted (On (Give v) (c ∷ k) sc d left) = given_counted v c k sc d left (begins_turn_at S c) refl
  counted (On (Leave e) [] sc d left) = refl
  counted (On (Leave e) (c ∷ k) sc d left) = sym (leave_within S e c k sc d left).0
  counted (On (Following v []) k sc d left) = refl
  counted (On (Following v (n ∷ ns)) k sc d left) = refl
  counted (On (Looping condition body) k sc d left) = refl
  counted (On (Turning turns block) k sc d left) = turn_counted turns block k sc d left
  counted (On (Passing aim done [] at) k sc d left) = sym (perform_within S aim done at k sc d left).0
  counted (On (Passing aim done (n ∷ ns) at) k sc d left) = refl
  counted (On (Joining bytes [] at) k sc d left) = refl
  counted (On (Joining bytes (p ∷ ps) at) k sc d left) = piece_counted (out-Piece p) bytes p ps at k sc d left
  counted (On (Drafting t at) k sc d left) = drafted_counted (needs S.program t) at k sc d left
  counted (On (Making thing) k sc d left) = tt
  counted (On (Calling thing act at) k sc d left) = tt
  counted (On (Reading thing purpose at) k sc d left) = tt
  counted (On (Starting body values at) k sc d left) = tt
  counted (On (Showing bytes) k sc d left) = tt
  counted (On (Ended how) k sc d left) = tt

  pub counted_move : (s t : State) → move S s ≡ Go t → left_in s ≡ one_more_if (begins_step S s) (left_in t)
  counted_move s t e = subst (λ n. Counted s n) e (counted s)

answer_left : (r : Reply) (at : Span) (k : List Cont) (sc : Scope) (d left : ℕ) → left_in (answered r at k sc d left) ≡ left
answer_left (reply.Value v) at k sc d left = refl
answer_left (reply.Elements vs) at k sc d left = refl
answer_left (reply.Pairs ps) at k sc d left = refl
answer_left reply.Done at k sc d left = refl
answer_left (reply.Started number thread) at k sc d left = refl
answer_left (reply.Ended (ending.Value v)) at k sc d left = refl
answer_left (reply.Ended (ending.Raised f p)) at k sc d left = refl
answer_left (reply.Ended ending.Steps) at k sc d left = refl
answer_left (reply.Ended (ending.Full a b)) at k sc d left = refl
answer_left (reply.Ended ending.Sink) at k sc d left = refl
answer_left (reply.Ended ending.Memory) at k sc d left = refl
answer_left (reply.Failed f) at k sc d left = refl

used_left : (purpose : Use) (thing : Reference) (r : Reply) (at : Span) (k : List Cont) (sc : Scope) (d left : ℕ) → left_in (used purpose thing r at k sc d left) ≡ left
used_left Keys thing (reply.Pairs ps) at k sc d left = refl
used_left Values thing (reply.Pairs ps) at k sc d left = refl
used_left (ForEach answer block) thing (reply.Pairs ps) at k sc d left = refl
used_left (ForText t) thing (reply.Elements vs) at k sc d left = going_left (opened t thing (reply.Elements vs)) at k sc d left
used_left (ForText t) thing (reply.Pairs ps) at k sc d left = going_left (opened t thing (reply.Pairs ps)) at k sc d left
used_left purpose thing r at k sc d left = answer_left r at k sc d left

pub counts_steps : CountsSteps
counts_steps S s t e = counted_move S s t e

pub replies_are_free : RepliesAreFree
replies_are_free (On (Making thing) k sc d left) r = answer_left r _ k sc d left
replies_are_free (On (Calling thing act at) k sc d left) r = answer_left r at k sc d left
replies_are_free (On (Reading thing purpose at) k sc d left) r = used_left purpose thing r at k sc d left
replies_are_free (On (Starting body values at) k sc d left) r = answer_left r _ k sc d left
replies_are_free (On (Showing bytes) k sc d left) r = refl
replies_are_free (On (Drafting t at) k sc d left) r = refl
replies_are_free (On (Ended how) k sc d left) r = refl
replies_are_free (On (Eval n) k sc d left) r = refl
replies_are_free (On (Give v) k sc d left) r = refl
replies_are_free (On (Leave e) k sc d left) r = refl
replies_are_free (On (Following v ns) k sc d left) r = refl
replies_are_free (On (Looping condition body) k sc d left) r = refl
replies_are_free (On (Turning turns block) k sc d left) r = refl
replies_are_free (On (Passing aim done ns at) k sc d left) r = refl
replies_are_free (On (Joining bytes ps at) k sc d left) r = refl
