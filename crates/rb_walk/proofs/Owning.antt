-- What is done while a mutex is owned.
use Rattle.std.proofs.Common.{◌≡◌, true, false, ℕ, zero, suc, ◌+◌, ◌-◌, ◌<◌, ◌≤◌, List, [], ◌∷◌, ◌++◌, length, map, Some, refl, sym, ap, ◌∙◌, subst, arith}
use Rattle.std.specs.Prelude.{slice_get}
use mathlib.Core.Logic.{inl, inr}
use Rattle.rb_tree.specs.declared.span.Span.{Span}
use Rattle.rb_tree.specs.declared.span.NameId.{NameId}
use Rattle.rb_tree.specs.declared.node.Node.{Node}
use Rattle.rb_tree.specs.declared.node.Block.{Block}
use Rattle.rb_model.specs.Values.{Value as Val, Nil, Reference, plain}
use Rattle.rb_model.specs.declared.value.Value.{Value as Held}
use Rattle.rb_model.specs.Ends as ending
use Rattle.rb_model.specs.Log.{Log}
use Rattle.rb_model.specs.Private.{Private}
use Rattle.rb_machine.specs.Scopes.{Script, Scope, Locals, fresh, with_locals}
use Rattle.rb_machine.specs.Control.{State, On, Cont, Then, Owning, Following, Break, Next, Return, ReturnOf}
use Rattle.rb_machine.specs.Call.{ended}
use Rattle.rb_machine.specs.Give.{back}
use Rattle.rb_machine.specs.Turns.{start_owning}
use Rattle.rb_machine.specs.Move.{left_in}
use Rattle.rb_machine.specs.Follows.{At}
use Rattle.rb_code.specs.declared.code.CodeBlock.{CodeBlock}
use Rattle.rb_code.specs.Erase.{erase, erase_block}
use Rattle.rb_code.specs.Resolved.{block_fits}
use Rattle.rb_code.specs.Layout.{bound}
use Rattle.rb_code.proofs.Erasing.{erase_block-parts}
use Rattle.rb_walk.specs.declared.came.Came.{Came as Registers}
use Rattle.rb_walk.specs.declared.came.Leave.{Leave}
use Rattle.rb_walk.specs.declared.came.Leave.TheVariants as leave
use Rattle.rb_walk.specs.Outcome.{Outcome, Gave, Left, Over, Came, Settles, is_left, left_by, value_of, outcome}
use Rattle.rb_walk.specs.Carries.{Lies, scope_of}
use Rattle.rb_walk.specs.Walks.{slot_value}
use Rattle.rb_walk.specs.Owning.{Unlocks}
use Rattle.rb_walk.proofs.Moves.{on, same}
use Rattle.rb_walk.proofs.Outcomes.{given, gone}
use Rattle.rb_walk.proofs.Rooms.{room_length}
use Rattle.rb_walk.proofs.Turns.{counts_own, starts_at}
use Rattle.rb_walk.proofs.Walks.{slots_open}

-- how many steps are left as the block begins
pub owning_left : (S : Script) (mutex : Reference) (b : Block) (at : Span) (k : List Cont) (sc : Scope) (d n : ℕ) → left_in (start_owning S mutex b at k sc d n) ≡ n - 1
owning_left S mutex b at k sc d zero = omega arith
owning_left S mutex b at k sc d (suc n) = omega arith

begins : (S : Script) (mutex : Reference) (b : Block) (at : Span) (k : List Cont) (sc : Scope) (d n : ℕ) → 0 < n
    → start_owning S mutex b at k sc d n ≡ On (Following Nil b.body) (Owning mutex b at (length sc.locals) ∷ k) (with_locals sc (sc.locals ++ fresh (S.block_names b.at) [])) d (n - 1)
begins S mutex b at k sc d n q = let f : n ≡ suc (n - 1) = omega arith in ap (λ x. start_owning S mutex b at k sc d x) f

same_start : (mutex : Reference) (b : Block) (at : Span) (k : List Cont) (me : Val) (d n kept kept' : ℕ) (ns ns' : List Node) (ls ls' : Locals) → ns ≡ ns' → kept ≡ kept' → ls ≡ ls'
    → On (Following Nil ns) (Owning mutex b at kept ∷ k) (record { me = me; locals = ls }) d n ≡ On (Following Nil ns') (Owning mutex b at kept' ∷ k) (record { me = me; locals = ls' }) d n
same_start mutex b at k me d n kept kept' ns ns' ls ls' e f g = rw (e, f, g) refl

locals_with : (S : Script) (c : CodeBlock) (b : Block) (ls : Locals) → b ≡ record { params = c.params; body = map erase c.body; at = c.at } → ls ++ fresh (S.block_names b.at) [] ≡ ls ++ fresh (S.block_names c.at) []
locals_with S c b ls e = rw e refl

module _ {S : Script} {N : ℕ} {start : State} {h : Private} where
  -- the block begins where its slots have nil
  pub owning_opens : {log : Log} {k : List Cont} {me : Val} {names : List NameId} {size base d n : ℕ} (c : CodeBlock) (before after : List Held) (mutex : Reference) (at : Span)
      → Lies (block_fits S c) names size base (length before) → length after ≡ length before → 0 < n
      → ((i : ℕ) → i < c.from → slice_get after i ≡ slice_get before i)
      → ((i : ℕ) → i < c.count → slice_get (map plain after) (c.from + i) ≡ Some (slot_value [] i))
      → At S N start log h (start_owning S mutex (erase_block c) at k (scope_of me names before) d n)
      → At S N start log h (On (Following Nil (map erase c.body)) (Owning mutex (erase_block c) at (length names) ∷ k) (scope_of me (names ++ S.block_names c.at) after) d (n - 1))
  owning_opens {k = k} {me = me} {names = names} {d = d} {n = n} c before after mutex at l e p below within a =
      let own = S.block_names c.at in
      let from = starts_at S c l in
      let count = counts_own S c l in
      let wide : length names ≤ length before = omega (arith, l.within, l.below, l.room) in
      let opened = slots_open names own before after [] (omega (arith, wide, e)) (λ i q. below i (omega (arith, from, q)))
      (λ i q. subst (λ j. slice_get (map plain after) (j + i) ≡ Some (slot_value [] i)) from (within i (omega (arith, count, q)))) in
      let is = erase_block-parts c in
      same (same a (begins S mutex (erase_block c) at k (scope_of me names before) d n p))
      (same_start mutex (erase_block c) at k me d (n - 1) _ _ _ _ _ _ (ap (λ (b : Block). b.body) is) (room_length names before wide)
      (locals_with S c (erase_block c) (bound names (map plain before)) is ∙ sym opened))

  -- no step is left for it
  pub no_owning : {l : Log} (mutex : Reference) (b : Block) (at : Span) (k : List Cont) (sc : Scope) (d n : ℕ) → n ≡ 0
      → At S N start l h (start_owning S mutex b at k sc d n) → At S N start l h (ended ending.Steps n)
  no_owning mutex b at k sc d n e a = same a (ap (λ x. start_owning S mutex b at k sc d x) e ∙ ap (λ x. ended ending.Steps x) (sym e))

-- the end of a thread is its end wherever it stands
over_anywhere : (S : Script) (N : ℕ) (start : State) (l : Log) (h : Private) (how : ending.End) (k k' : List Cont) (sc sc' : Scope) (d d' n : ℕ) → Came S N start l h (Over how) k sc d n → Came S N start l h (Over how) k' sc' d' n
over_anywhere S N start l h (ending.Value v) k k' sc sc' d d' n a = a
over_anywhere S N start l h (ending.Raised f at) k k' sc sc' d d' n a = a
over_anywhere S N start l h ending.Steps k k' sc sc' d d' n a = a
over_anywhere S N start l h (ending.Full used wanted) k k' sc sc' d d' n a = a
over_anywhere S N start l h ending.Sink k k' sc sc' d d' n a = a
over_anywhere S N start l h ending.Memory k k' sc sc' d d' n a = a

left_no_value : (y : Leave) (x : Held) (v : Val) → left_by y x ≡ Gave v → ⊥
left_no_value leave.Break x v e = cc
left_no_value leave.Next x v e = cc
left_no_value leave.Return x v e = cc
left_no_value (leave.Over how) x v e = cc

-- what was left gave no value
never_gave : (r : Registers) (x : Held) (y : Leave) (v : Val) → is_left r ≡ true → outcome r x y ≡ Gave v → ⊥
never_gave r x y v none e = left_no_value y x v (sym (gone r x y none) ∙ e)

module _ (S : Script) (N : ℕ) (start : State) (l l' : Log) (h h' : Private) (mutex : Reference) (at : Span) (b : Block) (k : List Cont) (sc : Scope) (d n kept : ℕ) where
  -- a value is given on behind the block
  pub value_back : (v : Val) (o : Outcome) → Unlocks N mutex at v n l l' h h' o → Came S N start l h (Gave v) (Owning mutex b at kept ∷ k) sc d n → Came S N start l' h' o k (back kept sc) d n
  value_back v o f a = f S start k (back kept sc) d (on _ a refl)

  -- a break and a next give nil behind it
  pub break_back : (o : Outcome) → Unlocks N mutex at Nil n l l' h h' o → Came S N start l h (Left Break) (Owning mutex b at kept ∷ k) sc d n → Came S N start l' h' o k (back kept sc) d n
  break_back o f a = f S start k (back kept sc) d (on _ a refl)

  pub next_back : (o : Outcome) → Unlocks N mutex at Nil n l l' h h' o → Came S N start l h (Left Next) (Owning mutex b at kept ∷ k) sc d n → Came S N start l' h' o k (back kept sc) d n
  next_back o f a = f S start k (back kept sc) d (on _ a refl)

  -- a return leaves its method behind it
  returning : (v : Val) → Came S N start l' h' (Gave v) (Then ReturnOf ∷ k) (back kept sc) d n → Came S N start l' h' (Left (Return v)) k (back kept sc) d n
  returning v a = on _ a refl

  -- with the value that the mutex was given back with
  pub return_back : (v : Val) (r : Registers) (x : Held) (y : Leave) → is_left r ≡ false → Unlocks N mutex at v n l l' h h' (outcome r x y) → Came S N start l h (Left (Return v)) (Owning mutex b at kept ∷ k) sc d n
      → Came S N start l' h' (Left (Return (value_of r x))) k (back kept sc) d n
  return_back v r x y some f a = returning (value_of r x) (given r x y some (f S start (Then ReturnOf ∷ k) (back kept sc) d (on _ a refl)))

  -- or the thread ends
  return_over : (v : Val) (o : Outcome) (how : ending.End) → o ≡ Over how → Unlocks N mutex at v n l l' h h' o → Came S N start l h (Left (Return v)) (Owning mutex b at kept ∷ k) sc d n → Came S N start l' h' o k (back kept sc) d n
  return_over v o how e f a =
      let ends = subst (λ (o : Outcome). Came S N start l' h' o (Then ReturnOf ∷ k) (back kept sc) d n) e (f S start (Then ReturnOf ∷ k) (back kept sc) d (on _ a refl)) in
      subst (λ (o : Outcome). Came S N start l' h' o k (back kept sc) d n) (sym e) (over_anywhere S N start l' h' how (Then ReturnOf ∷ k) k (back kept sc) (back kept sc) d d n ends)

  return_settled : (v : Val) (r : Registers) (x : Held) (y : Leave) → is_left r ≡ true → Settles v (outcome r x y) → Unlocks N mutex at v n l l' h h' (outcome r x y) → Came S N start l h (Left (Return v)) (Owning mutex b at kept ∷ k) sc d n
      → Came S N start l' h' (outcome r x y) k (back kept sc) d n
  return_settled v r x y none (inl e) f a = absurd (never_gave r x y v none e)
  return_settled v r x y none (inr o) f a = return_over v (outcome r x y) o.0 o.1 f a

  pub return_left : (v : Val) (r : Registers) (x : Held) (y : Leave) → is_left r ≡ true → Settles v (outcome r x y) → Unlocks N mutex at v n l l' h h' (outcome r x y) → Came S N start l h (Left (Return v)) (Owning mutex b at kept ∷ k) sc d n
      → Came S N start l' h' (outcome r x y) k (back kept sc) d n
  return_left v r x y none s f a = return_settled v r x y none s f a

module _ (S : Script) (N : ℕ) (start : State) (l : Log) (h : Private) (mutex : Reference) (at : Span) (b : Block) (k : List Cont) (sc : Scope) (d n kept : ℕ) where
  -- a thread that has ended gives nothing back here
  pub over_back : (how : ending.End) → Came S N start l h (Over how) (Owning mutex b at kept ∷ k) sc d n → Came S N start l h (Over how) k (back kept sc) d n
  over_back how a = over_anywhere S N start l h how (Owning mutex b at kept ∷ k) k sc (back kept sc) d d n a
