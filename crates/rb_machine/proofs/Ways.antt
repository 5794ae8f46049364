-- The same way behind anything that waits.
use Rattle.std.proofs.Common.{◌≡◌, ◌⊎◌, inl, inr, ℕ, List, [], ◌∷◌, ◌++◌, refl, sym, ap, subst}
use Rattle.std.specs.Prelude.{nat_lt, zero, suc, ◌+◌}
use Rattle.rb_tree.specs.declared.node.Node.{Node, out-Node}
use Rattle.rb_tree.specs.declared.node.Piece.{out-Piece}
use Rattle.rb_model.specs.Values.{Nil}
use Rattle.rb_model.specs.Ends as ending
use Rattle.rb_machine.specs.Scopes.{Script, Scope}
use Rattle.rb_machine.specs.Control.{Control, State, On, Cont, Under, Eval, Give, Leave, Following, Looping, Turning, Passing, Joining, Drafting, Making, Calling, Reading, Showing, Starting, Ended, max_depth}
use Rattle.rb_machine.specs.Drafts.{needs}
use Rattle.rb_machine.specs.Move.{Next, Go, Make, Ask, Begin, Show, Stop, move, start_node}
use Rattle.rb_machine.specs.Laws.{Way, arrives, goes, gets, IsAsked, IsAlive, ContextChangesNothing}
use Rattle.rb_machine.proofs.Context.{onto, either, begin_local, give_local, leave_local, perform_local, piece_local, turn_local, drafted_local, replied_local}

abbrev next_onto : List Cont → Next → Next
next_onto r (Go s) = Go (onto r s)
next_onto r want = want

-- the script ends here, with nothing that waits
abbrev IsLast : State → Type 0
IsLast (On (Give v) [] sc d left) = Unit {0}
IsLast (On (Leave e) [] sc d left) = Unit {0}
IsLast s = ⊥

module _ (S : Script) (r : List Cont) where
  abbrev Keeps : State → Next → Type 0
  Keeps s next = (move S (onto r s) ≡ next_onto r next) ⊎ IsLast s

  node_keeps : (n : Node) (k : List Cont) (sc : Scope) (d left : ℕ) → start_node S n (k ++ r) sc d left ≡ onto r (start_node S n k sc d left)
  node_keeps n k sc d zero = refl
  node_keeps n k sc d (suc left) = either (nat_lt d max_depth) r _ _ _ _ (begin_local S (out-Node n) r (Under d ∷ k) sc (d + 1) left) refl

  keeps : (s : State) → Keeps s (move S s)
  keeps (On (Eval n) k sc d left) = inl (ap Go (node_keeps n k sc d left))
  keeps (On (Give v) [] sc d left) = inr tt
  keeps (On (Give v) (c ∷ k) sc d left) = inl (ap Go (give_local S v c r k sc d left))
  keeps (On (Leave e) [] sc d left) = inr tt
  keeps (On (Leave e) (c ∷ k) sc d left) = inl (ap Go (leave_local e c r k sc d left))
  keeps (On (Following v []) k sc d left) = inl refl
  keeps (On (Following v (n ∷ ns)) k sc d left) = inl refl
  keeps (On (Looping condition body) k sc d left) = inl refl
  keeps (On (Turning turns block) k sc d left) = inl (ap Go (turn_local S turns block r k sc d left))
  keeps (On (Passing aim done [] at) k sc d left) = inl (ap Go (perform_local S aim done at r k sc d left))
  keeps (On (Passing aim done (n ∷ ns) at) k sc d left) = inl refl
  keeps (On (Joining bytes [] at) k sc d left) = inl refl
  keeps (On (Joining bytes (p ∷ ps) at) k sc d left) = inl (ap Go (piece_local S (out-Piece p) bytes ps at r k sc d left))
  keeps (On (Drafting t at) k sc d left) = inl (ap Go (drafted_local S (needs S.program t) at r k sc d left))
  keeps (On (Making thing) k sc d left) = inl refl
  keeps (On (Calling thing act at) k sc d left) = inl refl
  keeps (On (Reading thing purpose at) k sc d left) = inl refl
  keeps (On (Starting body values at) k sc d left) = inl refl
  keeps (On (Showing bytes) k sc d left) = inl refl
  keeps (On (Ended how) k sc d left) = inl refl

  -- a state that has not ended
  abbrev Alive : State → Type 0
  Alive (On c k sc d left) = IsAlive c

  abbrev IsOver : State → Type 0
  IsOver s = Alive s → ⊥

  abbrev LastEnds : State → Next → Type 0
  LastEnds s (Go t) = (how : ending.End) × (move S t ≡ Stop how) × IsOver t
  LastEnds s want = ⊥

  last_ends : (s : State) → IsLast s → LastEnds s (move S s)
  last_ends (On (Give v) [] sc d left) h = (ending.Value v, refl, λ x. x)
  last_ends (On (Give v) (c ∷ k) sc d left) h = absurd h
  last_ends (On (Leave e) [] sc d left) h = (ending.Value Nil, refl, λ x. x)
  last_ends (On (Leave e) (c ∷ k) sc d left) h = absurd h
  last_ends other h = absurd h

  -- nothing comes behind an end
  over_stays : {s t : State} → Way S s t → (how : ending.End) → move S s ≡ Stop how → IsOver s → IsOver t
  over_stays (arrives s) how e over = over
  over_stays (goes s t u f way) how e over = absurd (cc)
  over_stays (gets s u a asked way) how e over = absurd (subst IsAsked e asked)

  asked_onto : (s : State) (next : Next) → move S s ≡ next → Keeps s next → IsAsked next → IsAsked (move S (onto r s))
  asked_onto s next e (inl keep) asked = subst IsAsked (sym keep) (same next asked)
    where
      same : (next : Next) → IsAsked next → IsAsked (next_onto r next)
      same (Go t) h = absurd h
      same (Make thing) h = tt
      same (Ask thing act) h = tt
      same (Begin body values) h = tt
      same (Show bytes) h = tt
      same (Stop how) h = absurd h
  asked_onto s next e (inr last) asked = absurd (none next (subst (LastEnds s) e (last_ends s last)) asked)
    where
      none : (next : Next) → LastEnds s next → IsAsked next → ⊥
      none (Go t) h k = k
      none (Make thing) h k = h
      none (Ask thing act) h k = h
      none (Begin body values) h k = h
      none (Show bytes) h k = h
      none (Stop how) h k = k

  goes_onto : (s t u : State) → move S s ≡ Go t → Keeps s (Go t) → Way S t u → Alive u → Way S (onto r t) (onto r u) → Way S (onto r s) (onto r u)
  goes_onto s t u e (inl keep) way alive rest = goes (onto r s) (onto r t) (onto r u) keep rest
  goes_onto s t u e (inr last) way alive rest =
      let over = subst (LastEnds s) e (last_ends s last) in absurd (over_stays way over.0 over.1 over.2 alive)

  pub way_onto : {s t : State} → Way S s t → Alive t → Way S (onto r s) (onto r t)
  way_onto (arrives s) alive = arrives (onto r s)
  way_onto (goes s t u e way) alive = goes_onto s t u e (subst (Keeps s) e (keeps s)) way alive (way_onto way alive)
  way_onto (gets s u a asked way) alive =
      gets (onto r s) (onto r u) a (asked_onto s (move S s) refl (keeps s) asked) (subst (λ t. Way S t (onto r u)) (sym (replied_local s a r)) (way_onto way alive))

  starts : (c : Control) (k : List Cont) (sc : Scope) (d left : ℕ) (t : State) → Way S (On c k sc d left) t → Alive t → Way S (On c (k ++ r) sc d left) (onto r t)
  starts (Ended how) k sc d left t way alive = absurd (over_stays way how refl (λ x. x) alive)
  starts other k sc d left t way alive = way_onto way alive

  alive_onto : (c : Control) (k : List Cont) (sc : Scope) (d left : ℕ) → IsAlive c → onto r (On c k sc d left) ≡ On c (k ++ r) sc d left
  alive_onto (Ended how) k sc d left alive = absurd alive
  alive_onto other k sc d left alive = refl

pub context_changes_nothing : ContextChangesNothing
context_changes_nothing S c c' inner inner' k sc sc' d d' left left' alive way =
    subst (Way S (On c (inner ++ k) sc d left)) (alive_onto S k c' inner' sc' d' left' alive) (starts S k c inner sc d left (On c' inner' sc' d' left') way alive)

-- one way behind another
pub through : {S : Script} {s t u : State} → Way S s t → Way S t u → Way S s u
through (arrives s) q = q
through (goes s t v e p) q = goes s t _ e (through p q)
through (gets s v a asked p) q = gets s _ a asked (through p q)
