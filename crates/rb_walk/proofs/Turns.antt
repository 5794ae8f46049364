-- Blocks: where their slots lie, how an iteration begins and ends, and calls of methods with one.
use Rattle.std.proofs.Common.{◌≡◌, ℕ, zero, suc, ◌+◌, ◌-◌, ◌<◌, ◌≤◌, Bool, true, false, List, [], ◌∷◌, ◌++◌, length, map, take, Some, refl, sym, ap, ◌∙◌, subst, arith, None}
use Rattle.std.proofs.lemmas.Bool.Decides.{nat_tests}
use Rattle.std.proofs.lemmas.Int.{ints}
use Rattle.std.specs.Prelude.{ℤ, pos, ◌+ℤ◌, ◌≤ℤ◌, int_lt, not, ◌&&◌, ◌==◌, nat_le, slice_get, IsTrue}
use Rattle.rb_tree.specs.declared.span.Span.{Span}
use Rattle.rb_tree.specs.declared.span.NameId.{NameId}
use Rattle.rb_tree.specs.declared.node.Node.{Node}
use Rattle.rb_tree.specs.declared.node.Block.{Block}
use Rattle.rb_model.specs.Values.{Value as Val, Nil, Int, plain}
use Rattle.rb_model.specs.declared.value.Value.{Value as Held}
use Rattle.rb_model.specs.Log.{Log}
use Rattle.rb_model.specs.Private.{Private}
use Rattle.rb_machine.specs.Scopes.{Script, Scope, Locals, Text, fresh}
use Rattle.rb_machine.specs.Control.{State, On, Cont, Turn, Give, Following, Turning, Passing, Turns, Counting, OnReceiver}
use Rattle.rb_machine.specs.Call.{answered, params_of, texted, methods_of}
use Rattle.rb_machine.specs.Give.{back}
use Rattle.rb_machine.specs.Turns.{turned}
use Rattle.rb_machine.specs.Methods.{Answer, Gives, Raises, Loops, LoopsOver, Asks, Reads, EachPairOf, Inspects, Synchronizes, deed}
use Rattle.rb_machine.specs.Follows.{At}
use Rattle.rb_code.specs.declared.code.CodeBlock.{CodeBlock}
use Rattle.rb_code.specs.Layout.{bound}
use Rattle.rb_code.specs.Erase.{erase, erase_block}
use Rattle.rb_code.specs.Resolved.{every, fits, block_fits}
use Rattle.rb_code.proofs.Erasing.{erase_block-parts}
use Rattle.rb_code.proofs.Fitting.{block_fits-parts}
use Rattle.rb_model.specs.Ends.{Memory}
use Rattle.rb_machine.specs.Move.{left_in}
use Rattle.rb_walk.specs.Outcome.{Outcome, Over, Came}
use Rattle.rb_walk.specs.Answers.{IsDone}
use Rattle.rb_walk.specs.Carries.{Lies, scope_of, goes_on, loop_exit}
use Rattle.rb_walk.specs.Slots.{first_of_block}
use Rattle.rb_walk.proofs.Moves.{on, same, gives}
use Rattle.rb_walk.proofs.Lists.{fst, snd, eq_test, le_test, len_append}
use Rattle.rb_walk.proofs.Rooms.{lies, block_opens, block_closes, room_length, turn_values}
use Rattle.rb_walk.proofs.Outcomes.{turn_starts, turns_end, turn_value, turned_goes, turned_out}
use Rattle.rb_walk.proofs.Calls.{by_table}

-- ---- counting

pub some_left : (next last : ℤ) → next ≤ℤ last → int_lt next (last +ℤ pos 1) ≡ true
some_left next last h = grind (arith, ints)

pub none_left : (next last : ℤ) → int_lt last next ≡ true → int_lt next (last +ℤ pos 1) ≡ false
none_left next last h = grind (arith, ints)

pub last_done : (next last : ℤ) → last ≤ℤ next → int_lt (next +ℤ pos 1) (last +ℤ pos 1) ≡ false
last_done next last h = grind (arith, ints)

-- ---- where a block lies

parts : (S : Script) (b : CodeBlock) (names : List NameId) (size : ℕ) → block_fits S b names size ≡ true
    → ((b.from == length names) && ((b.count == length (S.block_names b.at)) && (nat_le (length names + length (S.block_names b.at)) size && every (map (fits S) b.body) (names ++ S.block_names b.at) size))) ≡ true
parts S b names size h = sym (block_fits-parts S names size b) ∙ h

-- behind the names round it
pub starts_at : (S : Script) (b : CodeBlock) {names : List NameId} {size base end : ℕ} → Lies (block_fits S b) names size base end → b.from ≡ length names
starts_at S b {names = names} {size = size} l = eq_test _ _ (fst _ _ (parts S b names size l.fits))

pub counts_own : (S : Script) (b : CodeBlock) {names : List NameId} {size base end : ℕ} → Lies (block_fits S b) names size base end → b.count ≡ length (S.block_names b.at)
counts_own S b {names = names} {size = size} l = eq_test _ _ (fst _ _ (snd _ _ (parts S b names size l.fits)))

pub ends_within : (S : Script) (b : CodeBlock) {names : List NameId} {size base end : ℕ} → Lies (block_fits S b) names size base end → b.from + b.count ≤ size
ends_within S b {names = names} {size = size} l =
    let p = starts_at S b l in
    let q = counts_own S b l in
    let r = le_test (length names + length (S.block_names b.at)) size (fst _ _ (snd _ _ (snd _ _ (parts S b names size l.fits)))) in
    omega (arith, p, q, r)

body_right : (S : Script) (b : CodeBlock) (names : List NameId) (size : ℕ) → block_fits S b names size ≡ true → every (map (fits S) b.body) (names ++ S.block_names b.at) size ≡ true
body_right S b names size h =
    let counts = snd (b.from == length names) _ (parts S b names size h) in
    let within = snd (b.count == length (S.block_names b.at)) _ counts in
    snd (nat_le (length names + length (S.block_names b.at)) size) _ within

-- its body lies in the same frame
pub deeper : (S : Script) (b : CodeBlock) {names : List NameId} {size base end : ℕ} → Lies (block_fits S b) names size base end → Lies (every (map (fits S) b.body)) (names ++ S.block_names b.at) size base end
deeper S b {names = names} {size = size} {base = base} {end = end} l =
    let p = starts_at S b l in
    let q = counts_own S b l in
    let r = ends_within S b l in
    let n = len_append names (S.block_names b.at) in
    let room : base ≤ end = l.room in
    lies (every (map (fits S) b.body)) (names ++ S.block_names b.at) size base end (body_right S b names size l.fits) (omega (arith, p, q, r, n)) l.below room

-- ---- an iteration

take_none : {A : Type 0} (n : ℕ) (xs : List A) → xs ≡ [] → take n xs ≡ []
take_none zero xs e = refl
take_none (suc n) xs e = rw e refl

-- what it gives its block
values_taken : {A : Type 0} (params : List A) (n : ℤ) → take (length params) (Int n ∷ []) ≡ turn_values (not (length params == 0)) n
values_taken [] n = refl
values_taken (x ∷ xs) n =
    let t : (suc (length xs) == 0) ≡ false = grind (arith, nat_tests) in
    rw t (ap (λ vs. Int n ∷ vs) (take_none (length xs) [] refl))

-- and whether it gives any
pub takes_is : {A : Type 0} (b : Bool) (xs : List A) → (IsTrue b → xs ≡ []) × (xs ≡ [] → IsTrue b) → not b ≡ not (length xs == 0)
takes_is true [] h = refl
takes_is true (x ∷ xs) h = let e : x ∷ xs ≡ [] = h.0 refl in absurd (cc)
takes_is false [] h = let e : false ≡ true = h.1 refl in absurd (cc)
takes_is false (x ∷ xs) h =
    let t : (suc (length xs) == 0) ≡ false = grind (arith, nat_tests) in
    rw t refl

pub same_start : (turns : Turns) (b : Block) (k : List Cont) (me : Val) (d n kept kept' : ℕ) (ns ns' : List Node) (ls ls' : Locals) → ns ≡ ns' → kept ≡ kept' → ls ≡ ls'
    → On (Following Nil ns) (Turn turns b kept ∷ k) (record { me = me; locals = ls }) d n ≡ On (Following Nil ns') (Turn turns b kept' ∷ k) (record { me = me; locals = ls' }) d n
same_start turns b k me d n kept kept' ns ns' ls ls' e f g = rw (e, f, g) refl

locals_opened : (S : Script) (c : CodeBlock) (b : Block) (ls : Locals) (next : ℤ) (takes : Bool) → b ≡ record { params = c.params; body = map erase c.body; at = c.at } → takes ≡ not (length c.params == 0)
    → ls ++ fresh (S.block_names b.at) (take (length b.params) (Int next ∷ [])) ≡ ls ++ fresh (S.block_names c.at) (turn_values takes next)
locals_opened S c b ls next takes e f = rw (e, f) (ap (λ vs. ls ++ fresh (S.block_names c.at) vs) (values_taken c.params next))

module _ {S : Script} {N : ℕ} {start : State} {h : Private} where
  -- it begins where the slots of the block have what it gives, and nil
  pub opens : {log : Log} {k : List Cont} {me : Val} {names : List NameId} {size base d n : ℕ} (c : CodeBlock) (before after : List Held) (takes : Bool) (next last : ℤ) (answer : Val)
      → Lies (block_fits S c) names size base (length before) → length after ≡ length before → takes ≡ not (length c.params == 0) → int_lt next last ≡ true → 0 < n
      → ((i : ℕ) → i < c.from → slice_get after i ≡ slice_get before i)
      → ((i : ℕ) → i < c.count → slice_get after (c.from + i) ≡ Some (first_of_block takes next i))
      → At S N start log h (On (Turning (Counting next last answer) (erase_block c)) k (scope_of me names before) d n)
      → At S N start log h (On (Following Nil (map erase c.body)) (Turn (Counting (next +ℤ pos 1) last answer) (erase_block c) (length names) ∷ k) (scope_of me (names ++ S.block_names c.at) after) d (n - 1))
  opens {k = k} {me = me} {names = names} {size = size} {base = base} {d = d} {n = n} c before after takes next last answer l e f t p below within a =
      let own = S.block_names c.at in
      let from = starts_at S c l in
      let count = counts_own S c l in
      let wide : length names ≤ length before = omega (arith, l.within, l.below, l.room) in
      let opened = block_opens names own before after takes next (omega (arith, wide, e)) (λ i q. below i (omega (arith, from, q)))
      (λ i q. subst (λ j. slice_get after (j + i) ≡ Some (first_of_block takes next i)) from (within i (omega (arith, count, q)))) in
      let is = erase_block-parts c in
      same (turn_starts t p a)
      (same_start (Counting (next +ℤ pos 1) last answer) (erase_block c) k me d (n - 1) _ _ _ _ _ _ (ap (λ (b : Block). b.body) is) (room_length names before wide)
      (locals_opened S c (erase_block c) (bound names (map plain before)) next takes is f ∙ sym opened))

-- behind it the scope is that round the block
pub back_is : (me : Val) (names own : List NameId) (room : List Held) → length names ≤ length room → back (length names) (scope_of me (names ++ own) room) ≡ scope_of me names room
back_is me names own room l = ap (λ (ls : Locals). record { me = me; locals = ls }) (block_closes names own room l)

module _ (S : Script) (N : ℕ) (start : State) (h : Private) where
  pub closes : (o : Outcome) (log : Log) (turns : Turns) (b : Block) (k : List Cont) (me : Val) (names own : List NameId) (room : List Held) (d n : ℕ) → length names ≤ length room → goes_on o ≡ true
      → Came S N start log h o (Turn turns b (length names) ∷ k) (scope_of me (names ++ own) room) d n → At S N start log h (On (Turning (turned (turn_value o) turns) b) k (scope_of me names room) d n)
  closes o log turns b k me names own room d n l e a =
      subst (λ sc. At S N start log h (On (Turning (turned (turn_value o) turns) b) k sc d n)) (back_is me names own room l) (turned_goes S N start h o log turns b (length names) k (scope_of me (names ++ own) room) d n e a)

  pub closes_out : (o : Outcome) (log : Log) (turns : Turns) (b : Block) (k : List Cont) (me : Val) (names own : List NameId) (room : List Held) (d n : ℕ) → length names ≤ length room → goes_on o ≡ false
      → Came S N start log h o (Turn turns b (length names) ∷ k) (scope_of me (names ++ own) room) d n → Came S N start log h (loop_exit o) k (scope_of me names room) d n
  closes_out o log turns b k me names own room d n l e a =
      subst (λ sc. Came S N start log h (loop_exit o) k sc d n) (back_is me names own room l) (turned_out S N start h o log turns b (length names) k (scope_of me (names ++ own) room) d n e a)

-- ---- calls with a block

with_params : (S : Script) (c : CodeBlock) → params_of S (Some (erase_block c)) ≡ Some (length c.params)
with_params S c = ap (λ (b : Block). Some (length b.params)) (erase_block-parts c)

module _ {S : Script} {N : ℕ} {start : State} {h : Private} where
  -- a call of a method of a value with a block is answered by the table
  pub answers_block : {log : Log} {k : List Cont} {sc : Scope} {d n : ℕ} (c : CodeBlock) (v : Val) (name : Text) (args : List Val) (at : Span) (a : Answer) → texted S name (methods_of S v) ≡ None → a ≡ deed S.program v name args (Some (length c.params))
      → At S N start log h (On (Passing (OnReceiver v name (Some (erase_block c))) args [] at) k sc d n) → At S N start log h (answered S a (Some (erase_block c)) at k sc d n)
  answers_block {k = k} {sc = sc} {d = d} {n = n} c v name args at a e f come =
      same (on _ come refl) (by_table S v name args (Some (erase_block c)) at k sc d n e
      ∙ ap (λ x. answered S x (Some (erase_block c)) at k sc d n) (ap (λ p. deed S.program v name args p) (with_params S c) ∙ sym f))

module _ (S : Script) (N : ℕ) (start : State) (h : Private) where
  -- a cut by memory at a state with as many steps left
  pub cut : (l : Log) (s : State) (k : List Cont) (sc : Scope) (d n : ℕ) (o : Outcome) → o ≡ Over Memory → At S N start l h s → left_in s ≡ n → Came S N start l h o k sc d n
  cut l s k sc d n o e a q = subst (λ o. Came S N start l h o k sc d n) (sym e) (s, a, q)

left_block : (S : Script) (a : Answer) (b : Block) (at : Span) (k : List Cont) (sc : Scope) (d n : ℕ) → left_in (answered S a (Some b) at k sc d n) ≡ n
left_block S (Gives v) b at k sc d n = refl
left_block S (Raises fault) b at k sc d n = refl
left_block S (Loops turns) b at k sc d n = refl
left_block S (LoopsOver array walk) b at k sc d n = refl
left_block S (Asks thing act None) b at k sc d n = refl
left_block S (Asks thing act (Some step)) b at k sc d n = refl
left_block S (Reads thing purpose) b at k sc d n = refl
left_block S (EachPairOf hash) b at k sc d n = refl
left_block S (Inspects collection) b at k sc d n = refl
left_block S (Synchronizes mutex) b at k sc d n = refl

module _ (S : Script) (N : ℕ) (start : State) (h : Private) where
  -- the iterations of a call with a block
  pub block_turns : (l : Log) (a : Answer) (turns : Turns) (b : Block) (at : Span) (k : List Cont) (sc : Scope) (d n : ℕ) → a ≡ Loops turns
      → At S N start l h (answered S a (Some b) at k sc d n) → At S N start l h (On (Turning turns b) k sc d n)
  block_turns l a turns b at k sc d n e come = same come (ap (λ x. answered S x (Some b) at k sc d n) e)

  done_by : (l : Log) (turns : Turns) (i : ℤ) (b : Block) (k : List Cont) (sc : Scope) (d n : ℕ) → IsDone i turns
      → At S N start l h (On (Turning turns b) k sc d n) → At S N start l h (On (Give (Int i)) k sc d n)
  done_by l (Counting next last answer) i b k sc d n e come = gives (Int i) e.1 (turns_end e.0 come)
  done_by l other i b k sc d n e come = absurd e

  -- one that makes none
  pub block_done : (l : Log) (a : Answer) (turns : Turns) (i : ℤ) (b : Block) (at : Span) (k : List Cont) (sc : Scope) (d n : ℕ) → a ≡ Loops turns → IsDone i turns
      → At S N start l h (answered S a (Some b) at k sc d n) → At S N start l h (On (Give (Int i)) k sc d n)
  block_done l a turns i b at k sc d n e f come = done_by l turns i b k sc d n f (same come (ap (λ x. answered S x (Some b) at k sc d n) e))

  -- and one that memory cuts
  pub block_cut : (l : Log) (a : Answer) (o : Outcome) (b : Block) (at : Span) (k : List Cont) (sc : Scope) (d n : ℕ) → o ≡ Over Memory
      → At S N start l h (answered S a (Some b) at k sc d n) → Came S N start l h o k sc d n
  block_cut l a o b at k sc d n e come = cut S N start h l (answered S a (Some b) at k sc d n) k sc d n o e come (left_block S a b at k sc d n)
