-- As many steps as a run took are enough for it.
use Rattle.std.proofs.Common.{◌≡◌, ◌≤◌, ◌⊎◌, inl, inr, ℕ, zero, suc, ◌+◌, ◌-◌, Bool, true, false, cond, List, ◌∷◌, ◌++◌, Some, refl, sym, ap, ◌∙◌, subst, arith}
use Rattle.std.specs.Prelude.{[], nat_lt, int_lt, pos, ◌+ℤ◌}
use Rattle.rb_tree.specs.declared.span.Span.{Span}
use Rattle.rb_tree.specs.declared.node.Node.{out-Node}
use Rattle.rb_tree.specs.Place.{place}
use Rattle.rb_model.specs.declared.fault.Fault.TheVariants.{TooDeep}
use Rattle.rb_model.specs.Values.{Int, To, Reference}
use Rattle.rb_model.specs.Acts.{Act, Reply, Done}
use Rattle.rb_model.specs.Acts as reply
use Rattle.rb_model.specs.Ends.{End, Raised}
use Rattle.rb_model.specs.Things.{Thing, gives_to}
use Rattle.rb_model.specs.Private.{Private, held, entered, acted}
use Rattle.rb_machine.specs.Scopes.{Script, Scope}
use Rattle.rb_machine.specs.Control.{State, On, Cont, Then, Under, Counting, EachPair, WithElement, Locked, Eval, Give, Turning, Drafting, max_depth}
use Rattle.rb_machine.specs.Drafts.{Needs, Element, needs}
use Rattle.rb_machine.specs.Call.{raised, drafted}
use Rattle.rb_machine.specs.Turns.{start_turn, start_owning, turn, with_element}
use Rattle.rb_machine.specs.Begin.{begin}
use Rattle.rb_machine.specs.Follows.{next_thing}
use Rattle.rb_machine.specs.Move.{Next, Go, Make, Ask, Begin, Show, Stop, move, replied, left_in, start_node}
use Rattle.rb_machine.specs.Alone.{Runs, begins, goes, makes, acts, shows, opening, Alone}
use Rattle.rb_machine.specs.Laws.{StepsTakenAreEnough, one_more_if, begins_step, comes_to_element}
use Rattle.rb_machine.proofs.Uniform.{longer, replied_longer}
use Rattle.rb_machine.proofs.Down.{begin_left}
use Rattle.rb_machine.proofs.Counts.{counted_move, replies_are_free}
use Rattle.rb_machine.proofs.Budgets.{next_longer, Lacks, Keeps, keeps}

-- steps are never given back
not_fewer : (b : Bool) (m n : ℕ) → m ≡ one_more_if b n → n ≤ m
not_fewer true m n e = omega (arith, e)
not_fewer false m n e = omega (arith, e)

abbrev IsWanted : Next → Type 0
IsWanted (Go s) = ⊥
IsWanted want = Unit {0}

module _ (S : Script) where
  left_within : {N : ℕ} {b : List ℕ} {h : Private} {s : State} → Runs S N b h s → left_in s ≤ N
  left_within begins = omega arith
  left_within (goes b h s t run e) = omega (arith, left_within run, not_fewer (begins_step S s) (left_in s) (left_in t) (counted_move S s t e))
  left_within (makes b h s thing run e) = omega (arith, left_within run, replies_are_free s (reply.Value (To (next_thing h thing))))
  left_within (acts b h s r act thing run e f) = omega (arith, left_within run, replies_are_free s (gives_to h.thread thing act))
  left_within (shows b h s bytes run e) = omega (arith, left_within run, replies_are_free s Done)

  -- the end of a script that is too deep
  abbrev IsTooDeep : State → Type 0
  IsTooDeep t = (at : Span) × (left : ℕ) × (t ≡ raised TooDeep at left)

module _ (S : Script) (j : ℕ) where
  too_deep_or : (b : Bool) (at : Span) (s t : State) → cond b s (raised TooDeep at (suc j)) ≡ t → left_in s ≡ j → suc j ≤ left_in t → IsTooDeep S t
  too_deep_or true at s t e h k = let same = ap left_in e in absurd (omega (arith, same, h, k))
  too_deep_or false at s t e h k = (at, suc j, sym e)

  abbrev state_or : State → Next → State
  state_or s (Go t) = t
  state_or s want = s

  go_is : (s t : State) → Go s ≡ Go t → s ≡ t
  go_is s t e = ap (state_or s) e

  took_one : (b : Bool) (s answer t : State) → b ≡ true → cond b s answer ≡ t → left_in s ≡ j → suc j ≤ left_in t → ⊥
  took_one true s answer t p e h k = let same = ap left_in e in omega (arith, same, h, k)
  took_one false s answer t p e h k = absurd (cc)

  at_more : (left : ℕ) → left ≡ 0 → left + suc j ≡ suc j
  at_more left h = omega (arith, h)

  stepped : (s t : State) → s ≡ t → left_in s ≡ j → suc j ≤ left_in t → ⊥
  stepped s t e h k = let same = ap left_in e in omega (arith, same, h, k)

  element_takes : (need : Needs) (at : Span) (k : List Cont) (sc : Scope) (d : ℕ) → comes_to_element need ≡ true → left_in (drafted S need at k sc d (suc j)) ≡ j
  element_takes (Element t) at k sc d e = refl
  element_takes need at k sc d e = absurd (cc)

  -- where a state lacks a step and has more in another run, it takes one there, or is too deep
  lacks_ends : (s t : State) → Lacks S s → move S (longer (suc j) s) ≡ Go t → suc j ≤ left_in t → IsTooDeep S t
  lacks_ends (On (Eval n) k sc d left) t h e small =
      too_deep_or (nat_lt d max_depth) (place (out-Node n)) (begin S (out-Node n) (Under d ∷ k) sc (d + 1) j) t
      (go_is _ t (ap (λ l. Go (start_node S n k sc d l)) (sym (at_more left h)) ∙ e)) (begin_left S (out-Node n) (Under d ∷ k) sc (d + 1) j) small
  lacks_ends (On (Turning (Counting next last answer) block) k sc d left) t h e small =
      absurd (took_one (int_lt next last) (start_turn S (Counting (next +ℤ pos 1) last answer) (Int next ∷ []) block k sc d (suc j)) (On (Give answer) k sc d (suc j)) t h.1
      (go_is _ t (ap (λ l. Go (turn S (Counting next last answer) block k sc d l)) (sym (at_more left h.0)) ∙ e)) refl small)
  lacks_ends (On (Turning (EachPair (p ∷ ps) answer) block) k sc d left) t h e small =
      absurd (stepped (turn S (EachPair (p ∷ ps) answer) block k sc d (suc j)) t (go_is _ t (ap (λ l. Go (turn S (EachPair (p ∷ ps) answer) block k sc d l)) (sym (at_more left h)) ∙ e)) refl small)
  lacks_ends (On (Give v) (Then (WithElement array next walk block at) ∷ k) sc d left) t h e small =
      absurd (stepped (with_element S v array next walk block at k sc d (suc j)) t (go_is _ t (ap (λ l. Go (with_element S v array next walk block at k sc d l)) (sym (at_more left h)) ∙ e)) refl small)
  lacks_ends (On (Give v) (Then (Locked mutex block at) ∷ k) sc d left) t h e small =
      absurd (stepped (start_owning S mutex block at k sc d (suc j)) t (go_is _ t (ap (λ l. Go (start_owning S mutex block at k sc d l)) (sym (at_more left h)) ∙ e)) refl small)
  lacks_ends (On (Drafting draft at) k sc d left) t h e small =
      let need = needs S.program draft in
      absurd (stepped (drafted S need at k sc d (suc j)) t (go_is _ t (ap (λ l. Go (drafted S need at k sc d l)) (sym (at_more left h.0)) ∙ e)) (element_takes need at k sc d h.1) small)
  lacks_ends other t h e small = absurd h

  lacks_goes : (s : State) (want : Next) → Lacks S s → move S (longer (suc j) s) ≡ want → IsWanted want → ⊥
  lacks_goes (On (Eval n) k sc d left) want h e w = subst IsWanted (sym e) w
  lacks_goes (On (Turning (Counting next last answer) block) k sc d left) want h e w = subst IsWanted (sym e) w
  lacks_goes (On (Turning (EachPair (p ∷ ps) answer) block) k sc d left) want h e w = subst IsWanted (sym e) w
  lacks_goes (On (Give v) (Then (WithElement array next walk block at) ∷ k) sc d left) want h e w = subst IsWanted (sym e) w
  lacks_goes (On (Give v) (Then (Locked mutex block at) ∷ k) sc d left) want h e w = subst IsWanted (sym e) w
  lacks_goes (On (Drafting draft at) k sc d left) want h e w = subst IsWanted (sym e) w
  lacks_goes other want h e w = absurd h

  -- a want is the same with fewer steps
  back : (next want : Next) → IsWanted want → next_longer (suc j) next ≡ want → next ≡ want
  back (Go s) want w e = absurd (subst IsWanted (sym e) w)
  back (Make thing) want w e = e
  back (Ask r act) want w e = e
  back (Begin body values) want w e = e
  back (Show bytes) want w e = e
  back (Stop how) want w e = e

  wanted : (s : State) (want : Next) → IsWanted want → move S (longer (suc j) s) ≡ want → move S s ≡ want
  wanted s want w e = at (keeps S (suc j) s)
    where
      at : Keeps S (suc j) s (move S s) → move S s ≡ want
      at (inl keep) = back (move S s) want w (sym keep ∙ e)
      at (inr lacks) = absurd (lacks_goes s want lacks e w)

  gone : (next : Next) (t : State) → next_longer (suc j) next ≡ Go t → (u : State) × (next ≡ Go u) × (t ≡ longer (suc j) u)
  gone (Go s) t e = (s, refl, sym (go_is (longer (suc j) s) t e))
  gone (Make thing) t e = absurd (cc)
  gone (Ask r act) t e = absurd (cc)
  gone (Begin body values) t e = absurd (cc)
  gone (Show bytes) t e = absurd (cc)
  gone (Stop how) t e = absurd (cc)

module _ (S : Script) (n j : ℕ) where
  -- a run that has steps left comes to the same state with these alone not given; or it ended too deep
  abbrev Shorter : List ℕ → Private → State → Type 0
  Shorter b h s = ((u : State) × (s ≡ longer (suc j) u) × Runs S n b h u) ⊎ IsTooDeep S s

  goes_shorter : (b : List ℕ) (h : Private) (s t : State) → move S s ≡ Go t → suc j ≤ left_in t → Shorter b h s → Shorter b h t
  goes_shorter b h s t e small (inl x) = at (keeps S (suc j) x.0)
    where
      here : move S (longer (suc j) x.0) ≡ Go t
      here = ap (move S) (sym x.1) ∙ e

      at : Keeps S (suc j) x.0 (move S x.0) → Shorter b h t
      at (inl keep) = let g = gone S j (move S x.0) t (sym keep ∙ here) in inl (g.0, g.2, goes b h x.0 g.0 x.2 g.1)
      at (inr lacks) = inr (lacks_ends S j x.0 t lacks here small)
  goes_shorter b h s t e small (inr deep) = let wrong : Stop (Raised TooDeep deep.0) ≡ Go t = ap (move S) (sym deep.2) ∙ e in absurd (cc)

  replied_shorter : (s u : State) (r : Reply) → s ≡ longer (suc j) u → replied s r ≡ longer (suc j) (replied u r)
  replied_shorter s u r e = ap (λ x. replied x r) e ∙ replied_longer (suc j) u r

  makes_shorter : (b : List ℕ) (h : Private) (s : State) (thing : Thing) → move S s ≡ Make thing → Shorter b h s → Shorter b (entered h thing) (replied s (reply.Value (To (next_thing h thing))))
  makes_shorter b h s thing e (inl x) =
      inl (replied x.0 _, replied_shorter s x.0 _ x.1, makes b h x.0 thing x.2 (wanted S j x.0 (Make thing) tt (ap (move S) (sym x.1) ∙ e)))
  makes_shorter b h s thing e (inr deep) = let wrong : Stop (Raised TooDeep deep.0) ≡ Make thing = ap (move S) (sym deep.2) ∙ e in absurd (cc)

  acts_shorter : (b : List ℕ) (h : Private) (s : State) (r : Reference) (act : Act) (thing : Thing) → move S s ≡ Ask r act → held h r.id ≡ Some thing → Shorter b h s
      → Shorter b (acted h r.id act thing) (replied s (gives_to h.thread thing act))
  acts_shorter b h s r act thing e f (inl x) =
      inl (replied x.0 (gives_to h.thread thing act), replied_shorter s x.0 (gives_to h.thread thing act) x.1, acts b h x.0 r act thing x.2 (wanted S j x.0 (Ask r act) tt (ap (move S) (sym x.1) ∙ e)) f)
  acts_shorter b h s r act thing e f (inr deep) = let wrong : Stop (Raised TooDeep deep.0) ≡ Ask r act = ap (move S) (sym deep.2) ∙ e in absurd (cc)

  shows_shorter : (b : List ℕ) (h : Private) (s : State) (bytes : List ℕ) → move S s ≡ Show bytes → Shorter b h s → Shorter (b ++ bytes) h (replied s Done)
  shows_shorter b h s bytes e (inl x) = inl (replied x.0 Done, replied_shorter s x.0 Done x.1, shows b h x.0 bytes x.2 (wanted S j x.0 (Show bytes) tt (ap (move S) (sym x.1) ∙ e)))
  shows_shorter b h s bytes e (inr deep) = let wrong : Stop (Raised TooDeep deep.0) ≡ Show bytes = ap (move S) (sym deep.2) ∙ e in absurd (cc)

  runs_shorter : {b : List ℕ} {h : Private} {s : State} → Runs S (n + suc j) b h s → suc j ≤ left_in s → Shorter b h s
  runs_shorter begins small = inl (opening S n, refl, begins)
  runs_shorter (goes b h s t run e) small =
      goes_shorter b h s t e small (runs_shorter run (omega (arith, small, not_fewer (begins_step S s) (left_in s) (left_in t) (counted_move S s t e))))
  runs_shorter (makes b h s thing run e) small =
      makes_shorter b h s thing e (runs_shorter run (omega (arith, small, replies_are_free s (reply.Value (To (next_thing h thing))))))
  runs_shorter (acts b h s r act thing run e f) small = acts_shorter b h s r act thing e f (runs_shorter run (omega (arith, small, replies_are_free s (gives_to h.thread thing act))))
  runs_shorter (shows b h s bytes run e) small = shows_shorter b h s bytes e (runs_shorter run (omega (arith, small, replies_are_free s Done)))

left_longer : (j : ℕ) (s : State) → left_in (longer j s) ≡ left_in s + j
left_longer j (On c k sc d left) = refl

abbrev end_or : End → Next → End
end_or e (Stop how) = how
end_or e next = e

none_left : (j l m : ℕ) → m ≡ suc j → m ≡ l + suc j → l ≡ 0
none_left j l m e f = omega (arith, e, f)

all_counted : (n l : ℕ) → l ≡ 0 → n - l ≡ n
all_counted n l e = omega (arith, e)

-- the run without the steps that it left
ends_shorter : (S : Script) (n j : ℕ) (b : List ℕ) (h : Private) (s : State) (e : End) → ((at : Span) → e ≡ Raised TooDeep at → ⊥) → move S s ≡ Stop e → left_in s ≡ suc j → Shorter S n j b h s
    → Alone S n b e n
ends_shorter S n j b h s e not_deep stops all (inl x) =
    let none = none_left j (left_in x.0) (left_in s) all (ap left_in x.1 ∙ left_longer (suc j) x.0) in
    record { store = h; last = x.0; run = x.2; ends = wanted S j x.0 (Stop e) tt (ap (move S) (sym x.1) ∙ stops); counted = all_counted n (left_in x.0) none }
ends_shorter S n j b h s e not_deep stops all (inr deep) = absurd (not_deep deep.0 (ap (end_or e) (sym stops ∙ ap (move S) deep.2)))

pub steps_taken_are_enough : StepsTakenAreEnough
steps_taken_are_enough S N b e n not_deep alone = at (left_in alone.last) refl (left_within S alone.run) alone.counted
  where
    at : (left : ℕ) → left_in alone.last ≡ left → left_in alone.last ≤ N → N - left_in alone.last ≡ n → Alone S n b e n
    at zero same within counted = subst (λ budget. Alone S budget b e n) (omega (arith, same, counted)) alone
    at (suc j) same within counted =
        let budget : N ≡ n + suc j = omega (arith, same, within, counted) in
        ends_shorter S n j b alone.store alone.last e not_deep alone.ends same (runs_shorter S n j (subst (λ m. Runs S m b alone.store alone.last) budget alone.run) (omega (arith, same)))
