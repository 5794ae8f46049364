-- Each state of a run has the names of the text in scope, and a run that ends for want of steps has used them all.
use Rattle.std.specs.Prelude.{nat_lt, ◌==◌}
use Rattle.std.proofs.Common.{◌≡◌, ℕ, ◌-◌, Bool, true, false, cond, List, [], ◌∷◌, ◌++◌, length, take, drop, Option, Some, None, refl, sym, ap, ◌∙◌, subst, arith}
use Rattle.std.proofs.lemmas.List.{drop-map, length-map, take-append-drop}
use Rattle.std.proofs.Math.Seq.{drop-append_seam}
use Rattle.rb_tree.specs.declared.span.Span.{Span}
use Rattle.rb_tree.specs.declared.span.NameId.{NameId}
use Rattle.rb_model.specs.Values.{Value, Reference}
use Rattle.rb_tree.specs.declared.node.Piece.{out-Piece}
use Rattle.rb_model.specs.Acts.{Act, Reply, Done}
use Rattle.rb_model.specs.Acts as reply
use Rattle.rb_model.specs.Ends.{Steps}
use Rattle.rb_model.specs.Things.{Thing, Object, Elements, Pairs, Mutex, Thread, gives, gives_to, mutex_gives, put_reply, index_of, has_room, may_put, max_elements}
use Rattle.rb_model.specs.Private.{Private}
use Rattle.rb_machine.specs.Scopes.{Script, Scope, Locals}
use Rattle.rb_machine.specs.Control.{State, On, Cont, Use, Keys, Values, ForEach, ForText, Eval, Give, Leave, Following, Looping, Turning, Passing, Joining, Drafting, Making, Calling, Reading, Showing, Starting, Ended}
use Rattle.rb_machine.specs.Drafts.{needs, opened}
use Rattle.rb_machine.specs.Move.{Next, Go, Stop, move, replied, answered, used, left_in}
use Rattle.rb_machine.specs.Alone.{Runs, begins, goes, makes, acts, shows}
use Rattle.rb_machine.specs.Laws.{KeepsScopes, ScopesFollowTheText, IterationsLeaveTheRest, StepsAreUsedUp, AreInScope, names_in}
use Rattle.rb_machine.proofs.Kept.{Sound, names_in-fresh, names_in-take, raised_sound, perform_sound, piece_sound, give_sound, leave_sound, node_sound, turn_sound, going_sound, drafted_sound}

-- no act on what a thread may own starts or ends a thread
abbrev pub IsNoEnd : Reply → Type 0
IsNoEnd (reply.Ended how) = ⊥
IsNoEnd (reply.Started number thread) = ⊥
IsNoEnd r = Unit {0}

no_end_if : (b : Bool) (r q : Reply) → IsNoEnd r → IsNoEnd q → IsNoEnd (cond b r q)
no_end_if true r q p s = p
no_end_if false r q p s = s

put_no_end : (i : Option ℕ) → IsNoEnd (put_reply i)
put_no_end None = tt
put_no_end (Some n) = no_end_if (nat_lt n max_elements) _ _ tt tt

gives_no_end : (thing : Thing) (act : Act) → IsNoEnd (gives thing act)
gives_no_end (Object class fields) (reply.GetField name) = tt
gives_no_end (Mutex owner) (reply.GetField name) = tt
gives_no_end (Elements vs) (reply.Put i v) = put_no_end (index_of (length vs) i)
gives_no_end (Elements vs) (reply.Push v) = no_end_if (has_room (length vs)) _ _ tt tt
gives_no_end (Elements vs) (reply.Unshift v) = no_end_if (has_room (length vs)) _ _ tt tt
gives_no_end (Pairs ps) (reply.KPut k v) = no_end_if (may_put k ps) _ _ tt tt
gives_no_end thing act = tt

mutex_no_end : (t : ℕ) (act : Act) (owner : Option ℕ) → IsNoEnd (mutex_gives t act owner)
mutex_no_end t reply.Lock None = tt
mutex_no_end t reply.Lock (Some owner) = tt
mutex_no_end t reply.Unlock None = tt
mutex_no_end t reply.Unlock (Some owner) = no_end_if (owner == t) _ _ tt tt
mutex_no_end t act owner = tt

pub gives_to_no_end : (t : ℕ) (thing : Thing) (act : Act) → IsNoEnd (gives_to t thing act)
gives_to_no_end t (Object class fields) act = gives_no_end (Object class fields) act
gives_to_no_end t (Elements vs) act = gives_no_end (Elements vs) act
gives_to_no_end t (Pairs ps) act = gives_no_end (Pairs ps) act
gives_to_no_end t (Mutex owner) act = mutex_no_end t act owner
gives_to_no_end t (Thread s) act = tt

module _ (S : Script) where
  abbrev GoesSound : Next → Type 0
  GoesSound (Go t) = Sound S t
  GoesSound want = Unit {0}

  moved : (s : State) → Sound S s → GoesSound (move S s)
  moved (On (Eval n) k sc d left) h = node_sound S n k sc d left h
  moved (On (Give v) [] sc d left) h = λ e. absurd (cc)
  moved (On (Give v) (c ∷ k) sc d left) h = give_sound S v c k sc d left h
  moved (On (Leave e) [] sc d left) h = λ e. absurd (cc)
  moved (On (Leave e) (c ∷ k) sc d left) h = leave_sound S e c k sc d left h
  moved (On (Following v []) k sc d left) h = h
  moved (On (Following v (n ∷ ns)) k sc d left) h = h
  moved (On (Looping condition body) k sc d left) h = h
  moved (On (Turning turns block) k sc d left) h = turn_sound S turns block k sc d left h
  moved (On (Passing aim done [] at) k sc d left) h = perform_sound S aim done at k sc d left h
  moved (On (Passing aim done (n ∷ ns) at) k sc d left) h = h
  moved (On (Joining bytes [] at) k sc d left) h = h
  moved (On (Joining bytes (p ∷ ps) at) k sc d left) h = piece_sound S (out-Piece p) bytes ps at k sc d left h
  moved (On (Drafting t at) k sc d left) h = drafted_sound S (needs S.program t) at k sc d left h
  moved (On (Making thing) k sc d left) h = tt
  moved (On (Calling thing act at) k sc d left) h = tt
  moved (On (Reading thing purpose at) k sc d left) h = tt
  moved (On (Starting body values at) k sc d left) h = tt
  moved (On (Showing bytes) k sc d left) h = tt
  moved (On (Ended how) k sc d left) h = tt

  answered_sound : (r : Reply) (at : Span) (k : List Cont) (sc : Scope) (d left : ℕ) → IsNoEnd r → AreInScope S k (names_in sc.locals) → Sound S (answered r at k sc d left)
  answered_sound (reply.Value v) at k sc d left plain h = h
  answered_sound (reply.Elements vs) at k sc d left plain h = h
  answered_sound (reply.Pairs ps) at k sc d left plain h = h
  answered_sound reply.Done at k sc d left plain h = h
  answered_sound (reply.Started number thread) at k sc d left plain h = absurd plain
  answered_sound (reply.Ended how) at k sc d left plain h = absurd plain
  answered_sound (reply.Failed f) at k sc d left plain h = raised_sound S f at left

  used_sound : (purpose : Use) (thing : Reference) (r : Reply) (at : Span) (k : List Cont) (sc : Scope) (d left : ℕ) → IsNoEnd r → AreInScope S k (names_in sc.locals)
      → Sound S (used purpose thing r at k sc d left)
  used_sound Keys thing (reply.Pairs ps) at k sc d left plain h = h
  used_sound Values thing (reply.Pairs ps) at k sc d left plain h = h
  used_sound (ForEach answer block) thing (reply.Pairs ps) at k sc d left plain h = h
  used_sound (ForText t) thing (reply.Elements vs) at k sc d left plain h = going_sound S (opened t thing (reply.Elements vs)) at k sc d left h
  used_sound (ForText t) thing (reply.Pairs ps) at k sc d left plain h = going_sound S (opened t thing (reply.Pairs ps)) at k sc d left h
  used_sound purpose thing r at k sc d left plain h = answered_sound r at k sc d left plain h

  reply_sound : (s : State) (r : Reply) → IsNoEnd r → Sound S s → Sound S (replied s r)
  reply_sound (On (Making thing) k sc d left) r plain h = answered_sound r _ k sc d left plain h
  reply_sound (On (Calling thing act at) k sc d left) r plain h = answered_sound r at k sc d left plain h
  reply_sound (On (Reading thing purpose at) k sc d left) r plain h = used_sound purpose thing r at k sc d left plain h
  reply_sound (On (Starting body values at) k sc d left) r plain h = answered_sound r at k sc d left plain h
  reply_sound (On (Showing bytes) k sc d left) r plain h = h
  reply_sound (On (Drafting t at) k sc d left) r plain h = h
  reply_sound (On (Ended how) k sc d left) r plain h = h
  reply_sound (On (Eval n) k sc d left) r plain h = h
  reply_sound (On (Give v) k sc d left) r plain h = h
  reply_sound (On (Leave e) k sc d left) r plain h = h
  reply_sound (On (Following v ns) k sc d left) r plain h = h
  reply_sound (On (Looping condition body) k sc d left) r plain h = h
  reply_sound (On (Turning turns block) k sc d left) r plain h = h
  reply_sound (On (Passing aim done ns at) k sc d left) r plain h = h
  reply_sound (On (Joining bytes ps at) k sc d left) r plain h = h

  runs_sound : {N : ℕ} {b : List ℕ} {h : Private} {s : State} → Runs S N b h s → Sound S s
  runs_sound begins = names_in-fresh S.main_names []
  runs_sound (goes b h s t run e) = subst GoesSound e (moved s (runs_sound run))
  runs_sound (makes b h s thing run e) = reply_sound s _ tt (runs_sound run)
  runs_sound (acts b h s r act thing run e f) = reply_sound s (gives_to h.thread thing act) (gives_to_no_end h.thread thing act) (runs_sound run)
  runs_sound (shows b h s bytes run e) = reply_sound s Done tt (runs_sound run)

  in_scope : (s : State) → Sound S s → KeepsScopes S s
  in_scope (On (Ended how) k sc d left) h = tt
  in_scope (On (Making thing) k sc d left) h = h
  in_scope (On (Calling thing act at) k sc d left) h = h
  in_scope (On (Reading thing purpose at) k sc d left) h = h
  in_scope (On (Starting body values at) k sc d left) h = h
  in_scope (On (Showing bytes) k sc d left) h = h
  in_scope (On (Drafting t at) k sc d left) h = h
  in_scope (On (Eval n) k sc d left) h = h
  in_scope (On (Give v) k sc d left) h = h
  in_scope (On (Leave e) k sc d left) h = h
  in_scope (On (Following v ns) k sc d left) h = h
  in_scope (On (Looping condition body) k sc d left) h = h
  in_scope (On (Turning turns block) k sc d left) h = h
  in_scope (On (Passing aim done ns at) k sc d left) h = h
  in_scope (On (Joining bytes ps at) k sc d left) h = h

  -- where a run stops for want of steps, none is left
  abbrev UsedUp : State → Next → Type 0
  UsedUp s (Stop Steps) = left_in s ≡ 0
  UsedUp s next = Unit {0}

  used_up : (s : State) → Sound S s → UsedUp s (move S s)
  used_up (On (Ended Steps) k sc d left) h = h refl
  used_up (On (Ended how) k sc d left) h = tt
  used_up (On (Eval n) k sc d left) h = tt
  used_up (On (Give v) [] sc d left) h = tt
  used_up (On (Give v) (c ∷ k) sc d left) h = tt
  used_up (On (Leave e) [] sc d left) h = tt
  used_up (On (Leave e) (c ∷ k) sc d left) h = tt
  used_up (On (Following v []) k sc d left) h = tt
  used_up (On (Following v (n ∷ ns)) k sc d left) h = tt
  used_up (On (Looping condition body) k sc d left) h = tt
  used_up (On (Turning turns block) k sc d left) h = tt
  used_up (On (Passing aim done [] at) k sc d left) h = tt
  used_up (On (Passing aim done (n ∷ ns) at) k sc d left) h = tt
  used_up (On (Joining bytes [] at) k sc d left) h = tt
  used_up (On (Joining bytes (p ∷ ps) at) k sc d left) h = tt
  used_up (On (Making thing) k sc d left) h = tt
  used_up (On (Calling thing act at) k sc d left) h = tt
  used_up (On (Reading thing purpose at) k sc d left) h = tt
  used_up (On (Starting body values at) k sc d left) h = tt
  used_up (On (Showing bytes) k sc d left) h = tt
  used_up (On (Drafting t at) k sc d left) h = tt

pub scopes_follow_the_text : ScopesFollowTheText
scopes_follow_the_text S N b h s run = in_scope S s (runs_sound S run)

pub steps_are_used_up : StepsAreUsedUp
steps_are_used_up S N b n alone = all (left_in alone.last) (subst (UsedUp S alone.last) alone.ends (used_up S alone.last (runs_sound S alone.run))) alone.counted
  where
    all : (left : ℕ) → left ≡ 0 → N - left ≡ n → n ≡ N
    all left z e = omega (arith, z, e)

names_in-drop : (outer own : List NameId) (locals : Locals) (kept : ℕ) → names_in locals ≡ outer ++ own → kept ≡ length outer → names_in (drop kept locals) ≡ own
names_in-drop outer own locals kept e h =
    sym (drop-map (λ (b : NameId × Value). b.0) kept locals) ∙ (ap (drop kept) e ∙ (ap (λ n. drop n (outer ++ own)) h ∙ drop-append_seam outer own))

pub iterations_leave_the_rest : IterationsLeaveTheRest
iterations_leave_the_rest S N b h v turns block kept k sc d left run =
    let inside = runs_sound S run in
    let outside = names_in-take inside.0 (S.block_names block.at) sc.locals kept inside.1 inside.2 in (
      take kept sc.locals,
      drop kept sc.locals,
      sym (take-append-drop kept sc.locals),
      sym (length-map (take kept sc.locals) (λ (b : NameId × Value). b.0)) ∙ (ap length outside ∙ sym inside.2),
      names_in-drop inside.0 (S.block_names block.at) sc.locals kept inside.1 inside.2,
      refl,
    )
