-- Each silent move takes a step, or makes the work that is left less; so every state comes to a want.
use Rattle.std.proofs.Common.{◌≡◌, ◌<◌, ◌≤◌, ◌⊎◌, inl, inr, ℕ, zero, suc, ◌+◌, ◌*◌, Bool, true, false, cond, List, [], ◌∷◌, Option, Some, None, length, refl, sym, ◌∙◌, subst, arith}
use Rattle.std.specs.Prelude.{nat_lt, nat_le, int_lt, pos, ◌+ℤ◌, ◌++◌, codes}
use Rattle.rb_tree.specs.declared.span.Span.{Span}
use Rattle.rb_tree.specs.declared.span.NameId.{NameId}
use Rattle.rb_tree.specs.declared.node.AssignOp.{AssignOp}
use Rattle.rb_tree.specs.declared.node.Node.{Node, out-Node}
use Rattle.rb_tree.specs.declared.node.Piece.{Piece, out-Piece}
use Rattle.rb_tree.specs.declared.node.Target.{Target, out-Target}
use Rattle.rb_tree.specs.declared.node.Block.{Block}
use Rattle.rb_tree.specs.declared.node.Node.TheOpen.{Piece-F, Target-F}
use Rattle.rb_tree.specs.declared.node.Node.TheOpen as node
use Rattle.rb_tree.specs.Layer.{NodeLayer}
use Rattle.rb_tree.specs.Place.{place}
use Rattle.rb_model.specs.declared.fault.Fault.TheVariants.{TooDeep}
use Rattle.rb_model.specs.Values.{Value, Int, To, Reference}
use Rattle.rb_model.specs.Acts.{GetField}
use Rattle.rb_machine.specs.Scopes.{Script, Scope, Text}
use Rattle.rb_machine.specs.Control.{State, On, Cont, Then, Under, Turns, Counting, Walking, EachPair, OfField, Form, Inspected, Lined, Open, OfArray, OfHash, Coming, Between, OfValue, OfPair, Draft, LineOf, WithElement, Locked, Eval, Give, Leave, Following, Looping, Turning, Passing, Joining, Drafting, Making, Calling, Reading, Showing, Starting, Ended, max_depth}
use Rattle.rb_machine.specs.Texts.{max_bytes, inspected}
use Rattle.rb_machine.specs.Drafts.{Needs, Goes, Finished, Element, Copies, Asks, joined, needs, inspects, lines, collection, is_open, again, closing, is_collection_sort, is_list_sort}
use Rattle.rb_machine.specs.Call.{raised, drafted}
use Rattle.rb_machine.specs.Begin.{begin, begin_call, begin_target, begin_return}
use Rattle.rb_machine.specs.Give.{give}
use Rattle.rb_machine.specs.Turns.{start_turn, start_owning, turn}
use Rattle.rb_machine.specs.Move.{Next, Go, Make, Ask, Begin, Show, Stop, move, left_in, start_node, join_piece, IsWant}
use Rattle.rb_machine.specs.Laws.{Quiet, stays, moves, IsNeverStuck}
use Rattle.rb_machine.proofs.Weights.{size, weight, weights, coming_weight, draft_weight}
use Rattle.rb_machine.proofs.Measure.{Within, wider, begins_turn_at, ask_of_within, going_within, give_text_within, join_within, read_within, give_within, leave_within, perform_within}

module _ (S : Script) where
  target_left : (f : Target-F Node Piece Target Block) (o : AssignOp) (value : Node) (at : Span) (k : List Cont) (sc : Scope) (d left : ℕ) → left_in (begin_target S f o value at k sc d left) ≡ left
  target_left (node.«Target::Local» name) o value at k sc d left = refl
  target_left (node.«Target::Field» name) o value at k sc d left = (read_within S (OfField name) o value at k sc d left).0
  target_left (node.«Target::Global» name) o value at k sc d left = refl
  target_left (node.Index receiver index) o value at k sc d left = refl
  target_left (node.Attribute receiver name) o value at k sc d left = refl

  call_left : (receiver : Option Node) (name : NameId) (args : List Node) (block : Option Block) (at : Span) (k : List Cont) (sc : Scope) (d left : ℕ) → left_in (begin_call S receiver name args block at k sc d left) ≡ left
  call_left None name args block at k sc d left = refl
  call_left (Some receiver) name args block at k sc d left = refl

  return_left : (value : Option Node) (k : List Cont) (sc : Scope) (d left : ℕ) → left_in (begin_return S value k sc d left) ≡ left
  return_left None k sc d left = refl
  return_left (Some value) k sc d left = refl

  -- the start of a node takes no step beside its own
  pub begin_left : (f : NodeLayer) (k : List Cont) (sc : Scope) (d left : ℕ) → left_in (begin S f k sc d left) ≡ left
  begin_left (node.«Node::Field» name at) k sc d left = (ask_of_within sc.me (GetField name) at k sc d left).0
  begin_left (node.OpAssign target o value at) k sc d left = target_left (out-Target target) o value at k sc d left
  begin_left (node.Call receiver name args block at) k sc d left = call_left receiver name args block at k sc d left
  begin_left (node.Return value at) k sc d left = return_left value k sc d left
  begin_left other k sc d left = refl

  -- a state that has less to do than another
  abbrev pub Less : State → State → Type 0
  Less t s = (left_in t < left_in s) ⊎ ((left_in t ≡ left_in s) × (size t < size s))

  abbrev pub Down : State → Next → Type 0
  Down s (Go t) = Less t s
  Down s want = Unit {0}

  one_less : (b : Bool) (s t u : State) → Less t s → Less u s → Less (cond b t u) s
  one_less true s t u p q = p
  one_less false s t u p q = q

  within_less : (left bound : ℕ) (s t : State) → left_in s ≡ left → bound < size s → Within left bound t → Less t s
  within_less left bound s t e h w = inr (w.0 ∙ sym e, omega (arith, h, w.1))

  node_less : (n : Node) (k : List Cont) (sc : Scope) (d left : ℕ) → Less (start_node S n k sc d left) (On (Eval n) k sc d left)
  node_less n k sc d zero = inr (refl, omega arith)
  node_less n k sc d (suc left) = one_less (nat_lt d max_depth) (On (Eval n) k sc d (suc left)) (begin S (out-Node n) (Under d ∷ k) sc (d + 1) left) (raised TooDeep (place (out-Node n)) (suc left))
      (let e = begin_left (out-Node n) (Under d ∷ k) sc (d + 1) left in inl (omega (arith, e)))
      (inr (refl, omega arith))

  turn_started : (later : Turns) (values : List Value) (b : Block) (k : List Cont) (sc : Scope) (d left : ℕ) (s : State) → left_in s ≡ left → 0 < size s → Less (start_turn S later values b k sc d left) s
  turn_started later values b k sc d zero s e h = inr (sym e, h)
  turn_started later values b k sc d (suc left) s e h = inl (omega (arith, e))

  owning_started : (mutex : Reference) (b : Block) (at : Span) (k : List Cont) (sc : Scope) (d left : ℕ) (s : State) → left_in s ≡ left → 0 < size s → Less (start_owning S mutex b at k sc d left) s
  owning_started mutex b at k sc d zero s e h = inr (sym e, h)
  owning_started mutex b at k sc d (suc left) s e h = inl (omega (arith, e))

  turn_less : (turns : Turns) (b : Block) (k : List Cont) (sc : Scope) (d left : ℕ) → Less (turn S turns b k sc d left) (On (Turning turns b) k sc d left)
  turn_less (Counting next last answer) b k sc d left =
      one_less (int_lt next last) (On (Turning (Counting next last answer) b) k sc d left) (start_turn S (Counting (next +ℤ pos 1) last answer) (Int next ∷ []) b k sc d left) (On (Give answer) k sc d left)
      (turn_started _ _ b k sc d left (On (Turning (Counting next last answer) b) k sc d left) refl (omega arith)) (inr (refl, omega arith))
  turn_less (Walking array next walk at) b k sc d left = inr (refl, omega arith)
  turn_less (EachPair [] answer) b k sc d left = inr (refl, omega arith)
  turn_less (EachPair (p ∷ ps) answer) b k sc d left = turn_started (EachPair ps answer) (p.0 ∷ p.1 ∷ []) b k sc d left (On (Turning (EachPair (p ∷ ps) answer) b) k sc d left) refl (omega arith)

  element_given : (v : Value) (c : Cont) (k : List Cont) (sc : Scope) (d left : ℕ) → begins_turn_at S c ≡ true → Less (give S v c k sc d left) (On (Give v) (c ∷ k) sc d left)
  element_given v (Then (WithElement array next walk block at)) k sc d left e =
      turn_started _ _ block k sc d left (On (Give v) (Then (WithElement array next walk block at) ∷ k) sc d left) refl (omega arith)
  element_given v (Then (Locked mutex block at)) k sc d left e =
      owning_started mutex block at k sc d left (On (Give v) (Then (Locked mutex block at) ∷ k) sc d left) refl (omega arith)
  element_given v c k sc d left e = absurd (cc)

  given_less : (v : Value) (c : Cont) (k : List Cont) (sc : Scope) (d left : ℕ) (b : Bool) → begins_turn_at S c ≡ b → Less (give S v c k sc d left) (On (Give v) (c ∷ k) sc d left)
  given_less v c k sc d left true e = element_given v c k sc d left e
  given_less v c k sc d left false e = within_less left (1 + weight c + weights k) (On (Give v) (c ∷ k) sc d left) (give S v c k sc d left) refl (omega arith) (give_within S v c k sc d left e)

  piece_less : (f : Piece-F Node Piece Target Block) (bytes : List ℕ) (p : Piece) (ps : List Piece) (at : Span) (k : List Cont) (sc : Scope) (d left : ℕ)
      → Less (join_piece S f bytes ps at k sc d left) (On (Joining bytes (p ∷ ps) at) k sc d left)
  piece_less (node.Text more) bytes p ps at k sc d left = within_less left (3 + length ps + weights k) (On (Joining bytes (p ∷ ps) at) k sc d left) _ refl (omega arith) (join_within S bytes more ps at k sc d left)
  piece_less (node.Code code) bytes p ps at k sc d left = inr (refl, omega arith)

  -- ---- texts in the making

  abbrev a_draft : Form → Coming → Text → List Open → Draft
  a_draft form coming bytes begun = record { form = form; coming = coming; bytes = bytes; begun = begun }

  -- what is needed of a text that has so much to do leaves less
  abbrev NeedsLess : ℕ → Needs → Type 0
  NeedsLess work need = (at : Span) (k : List Cont) (sc : Scope) (d left : ℕ) (s : State) → left_in s ≡ left → size s ≡ 3 + work + weights k → Less (drafted S need at k sc d left) s

  goes_less : (work : ℕ) (fits : Bool) (t : Draft) → draft_weight t < work → NeedsLess work (Goes (cond fits (Some t) None))
  goes_less work fits t h at k sc d left s e f = within_less left (3 + draft_weight t + weights k) s _ e (omega (arith, h, f)) (going_within fits t at k sc d left)

  element_less : (work : ℕ) (t : Draft) → NeedsLess work (Element t)
  element_less work t at k sc d zero s e f = inr (sym e, omega (arith, f))
  element_less work t at k sc d (suc left) s e f = inl (omega (arith, e))

  copies_less : (work : ℕ) (thing : Reference) (t : Draft) → 5 + length t.begun < work → NeedsLess work (Copies thing t)
  copies_less work thing t h at k sc d left s e f =
      one_less (nat_lt (d + length t.begun) max_depth) s _ _ (inr (sym e, omega (arith, h, f))) (inr (sym e, omega (arith, f)))

  asks_less : (work : ℕ) (v : Value) (t : Draft) → 9 + length t.begun < work → NeedsLess work (Asks v t)
  asks_less work v t h at k sc d left s e f =
      within_less left (12 + length t.begun + weights k) s _ e (omega (arith, h, f))
      (wider left _ _ _ (omega arith) (give_text_within S v at (Under d ∷ Then (LineOf t at) ∷ k) sc (d + length t.begun) left))

  needs_if : (work : ℕ) (b : Bool) (m n : Needs) → NeedsLess work m → NeedsLess work n → NeedsLess work (cond b m n)
  needs_if work true m n p q = p
  needs_if work false m n p q = q

  joined_less : (work : ℕ) (t : Draft) (more : Text) (coming : Coming) (begun : List Open) → coming_weight t.form coming + length begun < work → NeedsLess work (Goes (joined t more coming begun))
  joined_less work t more coming begun h = goes_less work (nat_le (length (t.bytes ++ more)) max_bytes) (a_draft t.form coming (t.bytes ++ more) begun) h

  finished_less : (work : ℕ) (text : Text) → NeedsLess work (Finished text)
  finished_less work text at k sc d left s e f = inr (sym e, omega (arith, f))

  between_less : (form : Form) (bytes : Text) (begun : List Open) → NeedsLess (0 + length begun) (needs S.program (a_draft form Between bytes begun))
  between_less form bytes [] = finished_less (0 + 0) bytes
  between_less form bytes (OfArray array lead [] ∷ begun) = joined_less _ (a_draft form Between bytes (OfArray array lead [] ∷ begun)) (closing form) Between begun (omega arith)
  between_less form bytes (OfArray array lead (v ∷ vs) ∷ begun) = element_less _ _
  between_less form bytes (OfHash hash lead [] ∷ begun) = joined_less _ (a_draft form Between bytes (OfHash hash lead [] ∷ begun)) (codes "}") Between begun (omega arith)
  between_less form bytes (OfHash hash lead (p ∷ ps) ∷ begun) = element_less _ _

  collection_less : (work : ℕ) (t : Draft) (lead : Text) (thing : Reference) → 5 + length t.begun < work → NeedsLess work (collection t lead thing)
  collection_less work t lead thing h =
      needs_if work (is_open thing t.begun) _ _ (joined_less work t (lead ++ again t.form thing.sort) Between t.begun (omega (arith, h))) (copies_less work thing t h)

  inspects_less : (work : ℕ) (t : Draft) (lead : Text) (v : Value) → 5 + length t.begun < work → NeedsLess work (inspects S.program t lead v)
  inspects_less work t lead (To thing) h =
      needs_if work (is_collection_sort thing.sort) _ _ (collection_less work t lead thing h) (joined_less work t (lead ++ inspected S.program (To thing)) Between t.begun (omega (arith, h)))
  inspects_less work t lead v h = joined_less work t (lead ++ inspected S.program v) Between t.begun (omega (arith, h))

  lines_less : (work : ℕ) (t : Draft) (lead : Text) (v : Value) → 9 + length t.begun < work → NeedsLess work (lines S.program t lead v)
  lines_less work t lead (To thing) h = needs_if work (is_list_sort thing.sort) _ _ (collection_less work t lead thing (omega (arith, h))) (asks_less work (To thing) t h)
  lines_less work t lead v h = asks_less work v t h

  needs_less : (form : Form) (coming : Coming) (bytes : Text) (begun : List Open) → NeedsLess (coming_weight form coming + length begun) (needs S.program (a_draft form coming bytes begun))
  needs_less form Between bytes begun = between_less form bytes begun
  needs_less Inspected (OfValue lead v) bytes begun = inspects_less _ (a_draft Inspected (OfValue lead v) bytes begun) lead v (omega arith)
  needs_less Lined (OfValue lead v) bytes begun = lines_less _ (a_draft Lined (OfValue lead v) bytes begun) lead v (omega arith)
  needs_less form (OfPair lead k v) bytes begun = joined_less _ (a_draft form (OfPair lead k v) bytes begun) (lead ++ inspected S.program k ++ codes "=>") (OfValue [] v) begun (omega arith)

  -- each silent move goes down
  pub down : (s : State) → Down s (move S s)
  down (On (Eval n) k sc d left) = node_less n k sc d left
  down (On (Give v) [] sc d left) = inr (refl, omega arith)
  down (On (Give v) (c ∷ k) sc d left) = given_less v c k sc d left (begins_turn_at S c) refl
  down (On (Leave e) [] sc d left) = inr (refl, omega arith)
  down (On (Leave e) (c ∷ k) sc d left) = within_less left (1 + weight c + weights k) (On (Leave e) (c ∷ k) sc d left) _ refl (omega arith) (leave_within S e c k sc d left)
  down (On (Following v []) k sc d left) = inr (refl, omega arith)
  down (On (Following v (n ∷ ns)) k sc d left) = inr (refl, omega arith)
  down (On (Looping condition body) k sc d left) = inr (refl, omega arith)
  down (On (Turning turns block) k sc d left) = turn_less turns block k sc d left
  down (On (Passing aim done [] at) k sc d left) = within_less left (10 + 12 * length done + weights k) (On (Passing aim done [] at) k sc d left) _ refl (omega arith) (perform_within S aim done at k sc d left)
  down (On (Passing aim done (n ∷ ns) at) k sc d left) = inr (refl, omega arith)
  down (On (Joining bytes [] at) k sc d left) = inr (refl, omega arith)
  down (On (Joining bytes (p ∷ ps) at) k sc d left) = piece_less (out-Piece p) bytes p ps at k sc d left
  down (On (Drafting t at) k sc d left) = needs_less t.form t.coming t.bytes t.begun at k sc d left (On (Drafting t at) k sc d left) refl (omega arith)
  down (On (Making thing) k sc d left) = tt
  down (On (Calling thing act at) k sc d left) = tt
  down (On (Reading thing purpose at) k sc d left) = tt
  down (On (Starting body values at) k sc d left) = tt
  down (On (Showing bytes) k sc d left) = tt
  down (On (Ended how) k sc d left) = tt

  abbrev pub Wanted : State → Type 0
  Wanted s = (t : State) × Quiet S s t × IsWant (move S t) × (left_in t ≤ left_in s)

  Below : ℕ → ℕ → Type 0
  Below steps work = (s : State) → left_in s ≤ steps → size s ≤ work → Wanted s

  settle : (s : State) (next : Next) → move S s ≡ next → Down s next → ((t : State) → Less t s → Wanted t) → Wanted s
  settle s (Go t) e h later =
      let w = later t h in
      (w.0, moves s t w.0 e w.1, w.2, not_more h w.3)
    where
      not_more : {a b c : ℕ} {X : Type 0} → (a < b) ⊎ ((a ≡ b) × X) → c ≤ a → c ≤ b
      not_more (inl p) q = omega (arith, p, q)
      not_more (inr p) q = omega (arith, p.0, q)
  settle s (Make thing) e h later = (s, stays s, subst IsWant (sym e) tt, omega arith)
  settle s (Ask thing act) e h later = (s, stays s, subst IsWant (sym e) tt, omega arith)
  settle s (Begin body values) e h later = (s, stays s, subst IsWant (sym e) tt, omega arith)
  settle s (Show bytes) e h later = (s, stays s, subst IsWant (sym e) tt, omega arith)
  settle s (Stop how) e h later = (s, stays s, subst IsWant (sym e) tt, omega arith)

  -- what holds of a state where it holds of all that have less to do, holds of all states
  module _ (P : State → Type 0) (from_less : (s : State) → ((t : State) → Less t s → P t) → P s) where
    nowhere : (s : State) → ⊥ → P s
    nowhere s x = absurd x

    -- by the steps that are left, and for these by the work
    by_work : (steps : ℕ) → ((t : State) → left_in t < steps → P t) → (work : ℕ) (s : State) → left_in s ≤ steps → size s ≤ work → P s
    by_work steps fewer zero s p q = from_less s later
      where
        later : (t : State) → Less t s → P t
        later t (inl h) = fewer t (omega (arith, h, p))
        later t (inr h) = nowhere t (omega (arith, h.1, q))
    by_work steps fewer (suc work) s p q = from_less s (λ t h. later t (by_work steps fewer work t) h)
      where
        later : (t : State) → (left_in t ≤ steps → size t ≤ work → P t) → Less t s → P t
        later t less (inl h) = fewer t (omega (arith, h, p))
        later t less (inr h) = less (omega (arith, h.0, p)) (omega (arith, h.1, q))

    by_steps : (steps : ℕ) (s : State) → left_in s < steps → P s
    by_steps zero s h = nowhere s (omega (arith, h))
    by_steps (suc steps) s h = by_work steps (by_steps steps) (size s) s (omega (arith, h)) (omega arith)

    pub by_less : (s : State) → P s
    by_less s = by_steps (suc (left_in s)) s (omega arith)

pub is_never_stuck : IsNeverStuck
is_never_stuck S s = by_less S (Wanted S) (λ t later. settle S t (move S t) refl (down S t) later) s
