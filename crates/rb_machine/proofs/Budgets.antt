-- A run with a budget of steps is the front of one with a greater budget.
use Rattle.std.proofs.Common.{◌≡◌, ◌≤◌, ◌⊎◌, inl, inr, ℕ, zero, suc, ◌+◌, ◌-◌, Bool, true, false, cond, List, [], ◌∷◌, ◌++◌, Some, refl, sym, ap, ◌∙◌, subst, arith}
use Rattle.std.specs.Prelude.{nat_lt, int_lt, pos, ◌+ℤ◌}
use Rattle.rb_tree.specs.declared.span.Span.{Span}
use Rattle.rb_tree.specs.declared.node.Node.{Node, out-Node}
use Rattle.rb_tree.specs.declared.node.Block.{Block}
use Rattle.rb_tree.specs.declared.node.Piece.{out-Piece}
use Rattle.rb_tree.specs.Place.{place}
use Rattle.rb_model.specs.declared.fault.Fault.TheVariants.{TooDeep}
use Rattle.rb_model.specs.Values.{Value, Int, To, Reference}
use Rattle.rb_model.specs.Acts.{Act, Done}
use Rattle.rb_model.specs.Acts as reply
use Rattle.rb_model.specs.Ends.{End, Steps}
use Rattle.rb_model.specs.Ends
use Rattle.rb_model.specs.Things.{Thing, gives_to}
use Rattle.rb_model.specs.Private.{Private, held, entered, acted}
use Rattle.rb_machine.specs.Scopes.{Script, Scope}
use Rattle.rb_machine.specs.Control.{State, On, Cont, Then, Under, Turns, Counting, Walking, EachPair, WithElement, Locked, Eval, Give, Leave, Following, Looping, Turning, Passing, Joining, Drafting, Making, Calling, Reading, Showing, Starting, Ended, max_depth}
use Rattle.rb_machine.specs.Drafts.{Needs, Goes, Finished, Element, Copies, Asks, needs}
use Rattle.rb_machine.specs.Call.{ended, raised, start_element, drafted}
use Rattle.rb_machine.specs.Give.{give}
use Rattle.rb_machine.specs.Turns.{start_turn, start_owning, turn, with_element, holding, given}
use Rattle.rb_machine.specs.Follows.{next_thing}
use Rattle.rb_machine.specs.Move.{Next, Go, Make, Ask, Show, Stop, move, replied, left_in, start_node}
use Rattle.rb_machine.specs.Alone.{Runs, begins, goes, makes, acts, shows, Alone}
use Rattle.rb_machine.specs.Laws.{comes_to_element, MoreStepsChangeNothing, MoreStepsShowMore, FewerStepsEndEarly}
use Rattle.rb_machine.proofs.Uniform.{longer, either, begin_uniform, give_uniform, leave_uniform, perform_uniform, piece_uniform, drafted_uniform, replied_longer}
use Rattle.rb_machine.proofs.Measure.{begins_turn_at}
use Rattle.rb_machine.proofs.Once.{Begins, front, has_one_run}

-- what comes next, with more steps left
abbrev pub next_longer : ℕ → Next → Next
next_longer j (Go s) = Go (longer j s)
next_longer j want = want

-- the state at which the steps are used up
abbrev pub spent : State
spent = ended Steps zero

module _ (S : Script) where
  -- a node, an iteration, or an element or a pair in a text is to begin, and no step is left
  abbrev pub Lacks : State → Type 0
  Lacks (On (Eval n) k sc d left) = left ≡ 0
  Lacks (On (Turning (Counting next last answer) block) k sc d left) = (left ≡ 0) × (int_lt next last ≡ true)
  Lacks (On (Turning (EachPair (p ∷ ps) answer) block) k sc d left) = left ≡ 0
  Lacks (On (Give v) (Then (WithElement array next walk block at) ∷ k) sc d left) = left ≡ 0
  Lacks (On (Give v) (Then (Locked mutex block at) ∷ k) sc d left) = left ≡ 0
  Lacks (On (Drafting t at) k sc d left) = (left ≡ 0) × (comes_to_element (needs S.program t) ≡ true)
  Lacks s = ⊥

  element_spent : (need : Needs) (at : Span) (k : List Cont) (sc : Scope) (d : ℕ) → comes_to_element need ≡ true → drafted S need at k sc d 0 ≡ spent
  element_spent (Element t) at k sc d e = refl
  element_spent need at k sc d e = absurd (cc)

  lacks_spent : (s : State) → Lacks s → move S s ≡ Go spent
  lacks_spent (On (Eval n) k sc d left) h = ap (λ l. Go (start_node S n k sc d l)) h
  lacks_spent (On (Turning (Counting next last answer) block) k sc d left) h =
      ap (λ l. Go (turn S (Counting next last answer) block k sc d l)) h.0 ∙ ap (λ b. Go (cond b spent (On (Give answer) k sc d 0))) h.1
  lacks_spent (On (Turning (EachPair (p ∷ ps) answer) block) k sc d left) h = ap (λ l. Go (turn S (EachPair (p ∷ ps) answer) block k sc d l)) h
  lacks_spent (On (Give v) (Then (WithElement array next walk block at) ∷ k) sc d left) h = ap (λ l. Go (with_element S v array next walk block at k sc d l)) h
  lacks_spent (On (Give v) (Then (Locked mutex block at) ∷ k) sc d left) h = ap (λ l. Go (start_owning S mutex block at k sc d l)) h
  lacks_spent (On (Drafting t at) k sc d left) h = ap (λ l. Go (drafted S (needs S.program t) at k sc d l)) h.0 ∙ ap Go (element_spent (needs S.program t) at k sc d h.1)
  lacks_spent other h = absurd h

module _ (S : Script) (j : ℕ) where
  -- a state goes on as it does with more steps, or it lacks one
  abbrev pub Keeps : State → Next → Type 0
  Keeps s next = (move S (longer j s) ≡ next_longer j next) ⊎ Lacks S s

  one_step : (left : ℕ) → suc left + j ≡ suc (left + j)
  one_step left = omega arith

  node_started : (n : Node) (k : List Cont) (sc : Scope) (d left : ℕ) → start_node S n k sc d (suc left + j) ≡ longer j (start_node S n k sc d (suc left))
  node_started n k sc d left =
      ap (start_node S n k sc d) (one_step left)
      ∙ either (nat_lt d max_depth) j _ _ _ _ (begin_uniform S (out-Node n) (Under d ∷ k) sc (d + 1) j left) (ap (raised TooDeep (place (out-Node n))) (sym (one_step left)))

  node_keeps : (n : Node) (k : List Cont) (sc : Scope) (d left : ℕ) → Keeps (On (Eval n) k sc d left) (Go (start_node S n k sc d left))
  node_keeps n k sc d zero = inr refl
  node_keeps n k sc d (suc left) = inl (ap Go (node_started n k sc d left))

  turn_started : (later : Turns) (values : List Value) (block : Block) (k : List Cont) (sc : Scope) (d left : ℕ) → start_turn S later values block k sc d (suc left + j) ≡ longer j (start_turn S later values block k sc d (suc left))
  turn_started later values block k sc d left = ap (start_turn S later values block k sc d) (one_step left)

  starts_or_lacks : (later : Turns) (values : List Value) (block : Block) (k : List Cont) (sc : Scope) (d left : ℕ)
      → (start_turn S later values block k sc d (left + j) ≡ longer j (start_turn S later values block k sc d left)) ⊎ (left ≡ 0)
  starts_or_lacks later values block k sc d zero = inr refl
  starts_or_lacks later values block k sc d (suc left) = inl (turn_started later values block k sc d left)

  owning_or_lacks : (mutex : Reference) (block : Block) (at : Span) (k : List Cont) (sc : Scope) (d left : ℕ)
      → (start_owning S mutex block at k sc d (left + j) ≡ longer j (start_owning S mutex block at k sc d left)) ⊎ (left ≡ 0)
  owning_or_lacks mutex block at k sc d zero = inr refl
  owning_or_lacks mutex block at k sc d (suc left) = inl (ap (start_owning S mutex block at k sc d) (one_step left))

  -- another iteration, where one begins
  another : (b : Bool) (later : Turns) (values : List Value) (block : Block) (answer : State) (k : List Cont) (sc : Scope) (d left : ℕ)
      → (cond b (start_turn S later values block k sc d (left + j)) (longer j answer) ≡ longer j (cond b (start_turn S later values block k sc d left) answer)) ⊎ ((left ≡ 0) × (b ≡ true))
  another false later values block answer k sc d left = inl refl
  another true later values block answer k sc d zero = inr (refl, refl)
  another true later values block answer k sc d (suc left) = inl (turn_started later values block k sc d left)

  lifted : {X : Type 0} (s t : State) → (s ≡ longer j t) ⊎ X → (Go s ≡ next_longer j (Go t)) ⊎ X
  lifted s t (inl e) = inl (ap Go e)
  lifted s t (inr x) = inr x

  turn_keeps : (turns : Turns) (block : Block) (k : List Cont) (sc : Scope) (d left : ℕ) → Keeps (On (Turning turns block) k sc d left) (Go (turn S turns block k sc d left))
  turn_keeps (Counting next last answer) block k sc d left =
      lifted _ _ (another (int_lt next last) (Counting (next +ℤ pos 1) last answer) (Int next ∷ []) block (On (Give answer) k sc d left) k sc d left)
  turn_keeps (Walking array next walk at) block k sc d left = inl refl
  turn_keeps (EachPair [] answer) block k sc d left = inl refl
  turn_keeps (EachPair (p ∷ ps) answer) block k sc d left = lifted _ _ (starts_or_lacks (EachPair ps answer) (p.0 ∷ p.1 ∷ []) block k sc d left)

  element_keeps : (v : Value) (c : Cont) (k : List Cont) (sc : Scope) (d left : ℕ) → begins_turn_at S c ≡ true → Keeps (On (Give v) (c ∷ k) sc d left) (Go (give S v c k sc d left))
  element_keeps v (Then (WithElement array next walk block at)) k sc d left e =
      lifted _ _ (starts_or_lacks (Walking array (suc next) (holding v walk) at) (given v next walk) block k sc d left)
  element_keeps v (Then (Locked mutex block at)) k sc d left e = lifted _ _ (owning_or_lacks mutex block at k sc d left)
  element_keeps v c k sc d left e = absurd (cc)

  given_keeps : (v : Value) (c : Cont) (k : List Cont) (sc : Scope) (d left : ℕ) (b : Bool) → begins_turn_at S c ≡ b → Keeps (On (Give v) (c ∷ k) sc d left) (Go (give S v c k sc d left))
  given_keeps v c k sc d left true e = element_keeps v c k sc d left e
  given_keeps v c k sc d left false e = inl (ap Go (give_uniform S v c k sc d e j left))

  drafted_keeps : (need : Needs) (at : Span) (k : List Cont) (sc : Scope) (d left : ℕ)
      → (drafted S need at k sc d (left + j) ≡ longer j (drafted S need at k sc d left)) ⊎ ((left ≡ 0) × (comes_to_element need ≡ true))
  drafted_keeps (Element t) at k sc d zero = inr (refl, refl)
  drafted_keeps (Element t) at k sc d (suc left) = inl (ap (start_element t at k sc d) (one_step left))
  drafted_keeps (Goes t) at k sc d left = inl (drafted_uniform S (Goes t) at k sc d refl j left)
  drafted_keeps (Finished text) at k sc d left = inl (drafted_uniform S (Finished text) at k sc d refl j left)
  drafted_keeps (Copies thing t) at k sc d left = inl (drafted_uniform S (Copies thing t) at k sc d refl j left)
  drafted_keeps (Asks v t) at k sc d left = inl (drafted_uniform S (Asks v t) at k sc d refl j left)

  pub keeps : (s : State) → Keeps s (move S s)
  keeps (On (Eval n) k sc d left) = node_keeps n k sc d left
  keeps (On (Give v) [] sc d left) = inl refl
  keeps (On (Give v) (c ∷ k) sc d left) = given_keeps v c k sc d left (begins_turn_at S c) refl
  keeps (On (Leave e) [] sc d left) = inl refl
  keeps (On (Leave e) (c ∷ k) sc d left) = inl (ap Go (leave_uniform e c k sc d j left))
  keeps (On (Following v []) k sc d left) = inl refl
  keeps (On (Following v (n ∷ ns)) k sc d left) = inl refl
  keeps (On (Looping condition body) k sc d left) = inl refl
  keeps (On (Turning turns block) k sc d left) = turn_keeps turns block k sc d left
  keeps (On (Passing aim done [] at) k sc d left) = inl (ap Go (perform_uniform S aim done at k sc d j left))
  keeps (On (Passing aim done (n ∷ ns) at) k sc d left) = inl refl
  keeps (On (Joining bytes [] at) k sc d left) = inl refl
  keeps (On (Joining bytes (p ∷ ps) at) k sc d left) = inl (ap Go (piece_uniform S (out-Piece p) bytes ps at k sc d j left))
  keeps (On (Drafting t at) k sc d left) = lifted _ _ (drafted_keeps (needs S.program t) at k sc d left)
  keeps (On (Making thing) k sc d left) = inl refl
  keeps (On (Calling thing act at) k sc d left) = inl refl
  keeps (On (Reading thing purpose at) k sc d left) = inl refl
  keeps (On (Starting body values at) k sc d left) = inl refl
  keeps (On (Showing bytes) k sc d left) = inl refl
  keeps (On (Ended how) k sc d left) = inl refl

  keeps_at : (s : State) (next : Next) → move S s ≡ next → Keeps s next
  keeps_at s next e = subst (Keeps s) e (keeps s)

  go_is : (s t : State) → Go s ≡ Go t → s ≡ t
  go_is s t e = ap (λ n. state_or s n) e
    where
      state_or : State → Next → State
      state_or s (Go t) = t
      state_or s want = s

module _ (S : Script) (N j : ℕ) where
  -- a run comes with more steps to the same state with more left; or its steps are used up, and that run has shown as much
  abbrev Longer : List ℕ → Private → State → Type 0
  Longer b h s = Runs S (N + j) b h (longer j s) ⊎ ((s ≡ spent) × (t : State) × Runs S (N + j) b h t)

  goes_longer : (b : List ℕ) (h : Private) (s s' : State) → move S s ≡ Go s' → Keeps S j s (Go s') → Longer b h s → Longer b h s'
  goes_longer b h s s' e (inl keep) (inl run) = inl (goes b h (longer j s) (longer j s') run keep)
  goes_longer b h s s' e (inr lacks) (inl run) = inr (go_is S j s' spent (sym e ∙ lacks_spent S s lacks), longer j s, run)
  goes_longer b h s s' e keep (inr out) = let wrong : Stop Steps ≡ Go s' = ap (move S) (sym out.0) ∙ e in absurd (cc)

  makes_longer : (b : List ℕ) (h : Private) (s : State) (thing : Thing) → move S s ≡ Make thing → Keeps S j s (Make thing) → Longer b h s
      → Longer b (entered h thing) (replied s (reply.Value (To (next_thing h thing))))
  makes_longer b h s thing e (inl keep) (inl run) =
      inl (subst (λ t. Runs S (N + j) b (entered h thing) t) (replied_longer j s _) (makes b h (longer j s) thing run keep))
  makes_longer b h s thing e (inr lacks) run = let wrong : Make thing ≡ Go spent = sym e ∙ lacks_spent S s lacks in absurd (cc)
  makes_longer b h s thing e keep (inr out) = let wrong : Stop Steps ≡ Make thing = ap (move S) (sym out.0) ∙ e in absurd (cc)

  acts_longer : (b : List ℕ) (h : Private) (s : State) (r : Reference) (act : Act) (thing : Thing) → move S s ≡ Ask r act → held h r.id ≡ Some thing → Keeps S j s (Ask r act) → Longer b h s
      → Longer b (acted h r.id act thing) (replied s (gives_to h.thread thing act))
  acts_longer b h s r act thing e f (inl keep) (inl run) =
      inl (subst (λ t. Runs S (N + j) b (acted h r.id act thing) t) (replied_longer j s (gives_to h.thread thing act)) (acts b h (longer j s) r act thing run keep f))
  acts_longer b h s r act thing e f (inr lacks) run = let wrong : Ask r act ≡ Go spent = sym e ∙ lacks_spent S s lacks in absurd (cc)
  acts_longer b h s r act thing e f keep (inr out) = let wrong : Stop Steps ≡ Ask r act = ap (move S) (sym out.0) ∙ e in absurd (cc)

  shows_longer : (b : List ℕ) (h : Private) (s : State) (bytes : List ℕ) → move S s ≡ Show bytes → Keeps S j s (Show bytes) → Longer b h s → Longer (b ++ bytes) h (replied s Done)
  shows_longer b h s bytes e (inl keep) (inl run) =
      inl (subst (λ t. Runs S (N + j) (b ++ bytes) h t) (replied_longer j s Done) (shows b h (longer j s) bytes run keep))
  shows_longer b h s bytes e (inr lacks) run = let wrong : Show bytes ≡ Go spent = sym e ∙ lacks_spent S s lacks in absurd (cc)
  shows_longer b h s bytes e keep (inr out) = let wrong : Stop Steps ≡ Show bytes = ap (move S) (sym out.0) ∙ e in absurd (cc)

  runs_longer : {b : List ℕ} {h : Private} {s : State} → Runs S N b h s → Longer b h s
  runs_longer begins = inl begins
  runs_longer (goes b h s s' run e) = goes_longer b h s s' e (keeps_at S j s (Go s') e) (runs_longer run)
  runs_longer (makes b h s thing run e) = makes_longer b h s thing e (keeps_at S j s (Make thing) e) (runs_longer run)
  runs_longer (acts b h s r act thing run e f) = acts_longer b h s r act thing e f (keeps_at S j s (Ask r act) e) (runs_longer run)
  runs_longer (shows b h s bytes run e) = shows_longer b h s bytes e (keeps_at S j s (Show bytes) e) (runs_longer run)

  counted_longer : (s : State) → N + j - left_in (longer j s) ≡ N - left_in s
  counted_longer (On c k sc d left) = omega arith

  ends_longer : (b : List ℕ) (h : Private) (s : State) (e : End) (n : ℕ) → (e ≡ Steps → ⊥) → move S s ≡ Stop e → N - left_in s ≡ n → Keeps S j s (Stop e) → Longer b h s → Alone S (N + j) b e n
  ends_longer b h s e n not_spent stops counted (inl keep) (inl run) =
      record { store = h; last = longer j s; run = run; ends = keep; counted = counted_longer s ∙ counted }
  ends_longer b h s e n not_spent stops counted (inr lacks) run = let wrong : Stop e ≡ Go spent = sym stops ∙ lacks_spent S s lacks in absurd (cc)
  ends_longer b h s e n not_spent stops counted keep (inr out) =
      let wrong : Stop Steps ≡ Stop e = ap (move S) (sym out.0) ∙ stops in absurd (not_spent (stop_is e Steps (sym wrong)))
    where
      end_or : End → Next → End
      end_or e (Stop how) = how
      end_or e next = e

      stop_is : (e f : End) → Stop e ≡ Stop f → e ≡ f
      stop_is e f same = ap (end_or e) same

  same_end : (b : List ℕ) (e : End) (n : ℕ) → (e ≡ Steps → ⊥) → Alone S N b e n → Alone S (N + j) b e n
  same_end b e n not_spent alone =
      ends_longer b alone.store alone.last e n not_spent alone.ends alone.counted (keeps_at S j alone.last (Stop e) alone.ends) (runs_longer alone.run)

  shows_front : (b b' : List ℕ) (h : Private) (s : State) (e' : End) (n' : ℕ) → Longer b h s → Alone S (N + j) b' e' n' → Begins b b'
  shows_front b b' h s e' n' (inl run) alone = front S (N + j) b b' h (longer j s) e' n' run alone
  shows_front b b' h s e' n' (inr out) alone = front S (N + j) b b' h out.1 e' n' out.2 alone

-- a greater budget is this one and more
budget_is : (N M : ℕ) → N ≤ M → N + (M - N) ≡ M
budget_is N M h = omega (arith, h)

pub more_steps_change_nothing : MoreStepsChangeNothing
more_steps_change_nothing S N M b e n h not_spent alone = subst (λ budget. Alone S budget b e n) (budget_is N M h) (same_end S N (M - N) b e n not_spent alone)

pub more_steps_show_more : MoreStepsShowMore
more_steps_show_more S N M b b' e e' n n' h alone greater =
    shows_front S N (M - N) b b' alone.store alone.last e' n' (runs_longer S N (M - N) alone.run) (subst (λ budget. Alone S budget b' e' n') (sym (budget_is N M h)) greater)

-- an end that is not for want of steps would be that of the greater budget, whose count is greater
pub fewer_steps_end_early : FewerStepsEndEarly
fewer_steps_end_early S N M b b' e e' n n' h alone fewer = decided e' refl
  where
    steps_within : {K : ℕ} {bytes : List ℕ} {how : End} {steps : ℕ} → Alone S K bytes how steps → steps ≤ K
    steps_within a = omega (arith, a.counted)

    not_other : (e' ≡ Steps → ⊥) → e' ≡ Steps
    not_other other =
        let same = has_one_run S N b b' e e' n n' alone (more_steps_change_nothing S M N b' e' n' (omega (arith, h, steps_within alone)) other fewer) in
        absurd (omega (arith, h, steps_within fewer, same.2))

    decided : (how : End) → e' ≡ how → e' ≡ Steps
    decided Steps same = same
    decided (Ends.Value v) same = not_other (λ f. let wrong : Ends.Value v ≡ Steps = sym same ∙ f in cc)
    decided (Ends.Raised fault at) same = not_other (λ f. let wrong : Ends.Raised fault at ≡ Steps = sym same ∙ f in cc)
    decided (Ends.Full used asked) same = not_other (λ f. let wrong : Ends.Full used asked ≡ Steps = sym same ∙ f in cc)
    decided Ends.Sink same = not_other (λ f. let wrong : Ends.Sink ≡ Steps = sym same ∙ f in cc)
    decided Ends.Memory same = not_other (λ f. let wrong : Ends.Memory ≡ Steps = sym same ∙ f in cc)
