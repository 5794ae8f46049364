-- Iterations of blocks over arrays and hashes, and calls that come to them.
use Rattle.std.proofs.Common.{◌≡◌, ℕ, zero, suc, ◌+◌, ◌-◌, ◌<◌, ◌≤◌, Bool, true, false, nat_lt, cond, List, [], ◌∷◌, ◌++◌, length, map, drop, take, Some, refl, sym, ap, ◌∙◌, subst, arith}
use Rattle.std.proofs.lemmas.Bool.Decides.{nat_tests}
use Rattle.std.specs.Prelude.{pos, slice_get, slice_set}
use Rattle.rb_tree.specs.declared.span.Span.{Span}
use Rattle.rb_tree.specs.declared.span.NameId.{NameId}
use Rattle.rb_tree.specs.declared.node.Block.{Block}
use Rattle.rb_model.specs.Values.{Value as Val, Nil, Reference, plain}
use Rattle.rb_model.specs.declared.value.Value.{Value as Held}
use Rattle.rb_model.specs.declared.value.Value.TheVariants as held
use Rattle.rb_model.specs.Doing.{pair}
use Rattle.rb_model.specs.Acts.{At as ElementAt, Len, Reply}
use Rattle.rb_model.specs.Acts as reply
use Rattle.rb_model.specs.Ends.{End}
use Rattle.rb_model.specs.Ends as ending
use Rattle.rb_model.specs.Log.{Log}
use Rattle.rb_model.specs.Private.{Private}
use Rattle.rb_machine.specs.Scopes.{Script, Scope, Locals, fresh, with_locals}
use Rattle.rb_machine.specs.Control.{State, On, Cont, Then, Turn, Give, Following, Turning, Turns, Walking, EachPair, Walk, ForEach, ElementBelow, WithElement, Break, Next, Return}
use Rattle.rb_machine.specs.Call.{ask, ended}
use Rattle.rb_machine.specs.Call as call
use Rattle.rb_machine.specs.Give.{back}
use Rattle.rb_machine.specs.Methods.{Answer, Loops}
use Rattle.rb_machine.specs.Move.{Go, answered, used, left_in}
use Rattle.rb_machine.specs.Turns.{start_turn, turned, walked, holding, given, finish, is_below}
use Rattle.rb_machine.specs.Follows.{At}
use Rattle.rb_builtin.specs.declared.deed.Pass.{Pass}
use Rattle.rb_builtin.specs.declared.deed.Pass.TheVariants as pass
use Rattle.rb_builtin.specs.Deeds.{walk_of}
use Rattle.rb_code.specs.declared.code.CodeBlock.{CodeBlock}
use Rattle.rb_code.specs.Layout.{bound}
use Rattle.rb_code.specs.Erase.{erase, erase_block}
use Rattle.rb_code.specs.Resolved.{block_fits}
use Rattle.rb_code.proofs.Erasing.{erase_block-parts}
use Rattle.rb_code.proofs.Slots.{bound_append, bound_fresh}
use Rattle.rb_walk.specs.declared.came.Leave.{Leave}
use Rattle.rb_walk.specs.declared.rounds.Iterations.{Iterations}
use Rattle.rb_walk.specs.declared.rounds.Iterations.TheVariants as iterations
use Rattle.rb_walk.specs.Outcome.{Outcome, Gave, Left, Over, Came}
use Rattle.rb_walk.specs.Carries.{Lies, scope_of, goes_on}
use Rattle.rb_walk.specs.Walks.{Counts, OpensBy, slot_value, value_on, walking, second_value}
use Rattle.rb_walk.proofs.Lists.{len_map, len_set, get_map, get_set, get_set_same, get_drop, set_map}
use Rattle.rb_walk.proofs.Moves.{on, same}
use Rattle.rb_walk.proofs.Rooms.{rooms_agree, room_length}
use Rattle.rb_walk.proofs.Turns.{starts_at, counts_own, same_start, back_is, block_done}

-- ---- slots that a block begins with

take_none : {A : Type 0} (n : ℕ) (xs : List A) → xs ≡ [] → take n xs ≡ []
take_none zero xs e = refl
take_none (suc n) xs e = rw e refl

take_two : {A : Type 0} (n : ℕ) (x y : A) → 2 ≤ n → take n (x ∷ y ∷ []) ≡ x ∷ y ∷ []
take_two zero x y h = absurd (omega (arith, h))
take_two (suc zero) x y h = absurd (omega (arith, h))
take_two (suc (suc n)) x y h = ap (λ xs. x ∷ y ∷ xs) (take_none n [] refl)

take_first : (n : ℕ) (v w : Val) → 0 < n → slot_value (take n (v ∷ w ∷ [])) 0 ≡ v
take_first zero v w h = absurd (omega (arith, h))
take_first (suc n) v w h = refl

slot_of : (xs : List Held) (j : ℕ) (v : Held) → slice_get xs j ≡ Some v → slice_get (map plain xs) j ≡ Some (plain v)
slot_of xs j v e = get_map plain xs j (Some v) e

-- a block that takes none
pub opens_none : (xs : List Held) (from count takes : ℕ) (v w : Val) → takes ≡ 0 → ((i : ℕ) → from ≤ i → i < from + count → slice_get xs i ≡ Some held.Nil)
    → (i : ℕ) → i < count → slice_get (map plain xs) (from + i) ≡ Some (slot_value (take takes (v ∷ w ∷ [])) i)
opens_none xs from count takes v w t n i q = rw t (slot_of xs (from + i) held.Nil (n (from + i) (omega arith) (omega (arith, q))))

opens_first : (xs : List Held) (from count : ℕ) (v : Held) (w : Val) → from + count ≤ length xs → ((i : ℕ) → from ≤ i → i < from + count → slice_get xs i ≡ Some held.Nil)
    → (i : ℕ) → i < count → slice_get (map plain (slice_set xs from v)) (from + i) ≡ Some (slot_value (plain v ∷ []) i)
opens_first xs from count v w l n zero q = let e : from + 0 ≡ from = omega arith in slot_of (slice_set xs from v) (from + 0) v (rw e (get_set_same xs from v (omega (arith, l, q))))
opens_first xs from count v w l n (suc i) q =
    slot_of (slice_set xs from v) (from + suc i) held.Nil (get_set xs from (from + suc i) v (λ e. omega (arith, e)) ∙ n (from + suc i) (omega arith) (omega (arith, q)))

-- a block that takes one
pub opens_one : (xs : List Held) (from count takes : ℕ) (v : Held) (w : Val) → takes ≡ 1 → from + count ≤ length xs → ((i : ℕ) → from ≤ i → i < from + count → slice_get xs i ≡ Some held.Nil)
    → (i : ℕ) → i < count → slice_get (map plain (slice_set xs from v)) (from + i) ≡ Some (slot_value (take takes (plain v ∷ w ∷ [])) i)
opens_one xs from count takes v w t l n i q = rw t (opens_first xs from count v w l n i q)

-- a block with one slot
pub opens_alone : (xs : List Held) (from count takes : ℕ) (v : Held) (w : Val) → 0 < takes → count ≡ 1 → from + count ≤ length xs
    → (i : ℕ) → i < count → slice_get (map plain (slice_set xs from v)) (from + i) ≡ Some (slot_value (take takes (plain v ∷ w ∷ [])) i)
opens_alone xs from count takes v w t c l zero q =
    let e : from + 0 ≡ from = omega arith in
    slot_of (slice_set xs from v) (from + 0) v (rw e (get_set_same xs from v (omega (arith, l, c)))) ∙ ap Some (sym (take_first takes (plain v) w t))
opens_alone xs from count takes v w t c l (suc i) q = absurd (omega (arith, q, c))

opens_second : (xs : List Held) (from count : ℕ) (v w : Held) → 1 < count → from + count ≤ length xs → ((i : ℕ) → from ≤ i → i < from + count → slice_get xs i ≡ Some held.Nil)
    → (i : ℕ) → i < count → slice_get (map plain (slice_set (slice_set xs from v) (from + 1) w)) (from + i) ≡ Some (slot_value (plain v ∷ plain w ∷ []) i)
opens_second xs from count v w c l n zero q =
    let e : from + 0 ≡ from = omega arith in
    slot_of _ (from + 0) v (get_set (slice_set xs from v) (from + 1) (from + 0) w (λ e. omega (arith, e)) ∙ rw e (get_set_same xs from v (omega (arith, l, q))))
opens_second xs from count v w c l n (suc zero) q =
    let m = len_set xs from v in
    slot_of _ (from + 1) w (get_set_same (slice_set xs from v) (from + 1) w (omega (arith, l, c, m)))
opens_second xs from count v w c l n (suc (suc i)) q =
    slot_of _ (from + suc (suc i)) held.Nil (get_set (slice_set xs from v) (from + 1) (from + suc (suc i)) w (λ e. omega (arith, e))
    ∙ (get_set xs from (from + suc (suc i)) v (λ e. omega (arith, e)) ∙ n (from + suc (suc i)) (omega arith) (omega (arith, q))))

-- a block that takes two
pub opens_two : (xs : List Held) (from count takes : ℕ) (v w : Held) → 1 < takes → 1 < count → from + count ≤ length xs → ((i : ℕ) → from ≤ i → i < from + count → slice_get xs i ≡ Some held.Nil)
    → (i : ℕ) → i < count → slice_get (map plain (slice_set (slice_set xs from v) (from + 1) w)) (from + i) ≡ Some (slot_value (take takes (plain v ∷ plain w ∷ [])) i)
opens_two xs from count takes v w t c l n i q =
    opens_second xs from count v w c l n i q ∙ ap (λ vs. Some (slot_value vs i)) (sym (take_two takes (plain v) (plain w) (omega (arith, t))))

-- slots beside one that is written
pub stays_below : (old xs : List Held) (from slot : ℕ) (v : Held) → from ≤ slot → ((i : ℕ) → i < from → slice_get xs i ≡ slice_get old i) → (i : ℕ) → i < from → slice_get (slice_set xs slot v) i ≡ slice_get old i
stays_below old xs from slot v s h i q = get_set xs slot i v (λ e. omega (arith, e, q, s)) ∙ h i q

pub stays_above : (old xs : List Held) (end slot : ℕ) (v : Held) → slot < end → ((i : ℕ) → end ≤ i → slice_get xs i ≡ slice_get old i) → (i : ℕ) → end ≤ i → slice_get (slice_set xs slot v) i ≡ slice_get old i
stays_above old xs end slot v s h i q = get_set xs slot i v (λ e. omega (arith, e, q, s)) ∙ h i q

-- a slot more of a frame has its value
laid_by : (t : Bool) (room : List Held) (slot : ℕ) (w : Held) (vs : List Val) (i : ℕ) → nat_lt i slot ≡ t → slot < length room → plain w ≡ slot_value vs slot
    → ((j : ℕ) → j < slot → slice_get (map plain room) j ≡ Some (slot_value vs j)) → i < slot + 1 → slice_get (map plain (slice_set room slot w)) i ≡ Some (slot_value vs i)
laid_by true room slot w vs i t l e h q =
    let below : i < slot = grind (arith, nat_tests) in
    ap (λ xs. slice_get xs i) (set_map plain room slot w) ∙ (get_set (map plain room) slot i (plain w) (λ z. omega (arith, z, below)) ∙ h i below)
laid_by false room slot w vs i t l e h q =
    let is : i ≡ slot = grind (arith, nat_tests) in
    let long : slot < length (map plain room) = omega (arith, l, len_map plain room) in
    rw is (ap (λ xs. slice_get xs slot) (set_map plain room slot w) ∙ (get_set_same (map plain room) slot (plain w) long ∙ ap Some e))

pub laid_more : (room : List Held) (slot : ℕ) (w : Held) (vs : List Val) → slot < length room → plain w ≡ slot_value vs slot → ((j : ℕ) → j < slot → slice_get (map plain room) j ≡ Some (slot_value vs j))
    → (i : ℕ) → i < slot + 1 → slice_get (map plain (slice_set room slot w)) i ≡ Some (slot_value vs i)
laid_more room slot w vs l e h i q = laid_by (nat_lt i slot) room slot w vs i refl l e h q

-- ---- an iteration with any values

-- the scope of a block, where its slots have them, and nil
pub slots_open : (names own : List NameId) (before after : List Held) (values : List Val) → length names ≤ length after
    → ((i : ℕ) → i < length names → slice_get after i ≡ slice_get before i)
    → ((i : ℕ) → i < length own → slice_get (map plain after) (length names + i) ≡ Some (slot_value values i))
    → bound (names ++ own) (map plain after) ≡ bound names (map plain before) ++ fresh own values
slots_open names own before after values l h g =
    let m = len_map plain after in
    let a : bound names (map plain after) ≡ bound names (map plain before) = rooms_agree names after before h in
    let b : bound own (drop (length names) (map plain after)) ≡ fresh own values = bound_fresh own (drop (length names) (map plain after)) values (λ i q. get_drop (map plain after) (length names) i ∙ g i q) in
    bound_append names own (map plain after) (omega (arith, l, m)) ∙ rw (a, b) refl

locals_with : (S : Script) (c : CodeBlock) (b : Block) (ls : Locals) (values : List Val) → b ≡ record { params = c.params; body = map erase c.body; at = c.at }
    → ls ++ fresh (S.block_names b.at) (take (length b.params) values) ≡ ls ++ fresh (S.block_names c.at) (take (length c.params) values)
locals_with S c b ls values e = rw e refl

begins : (S : Script) (later : Turns) (values : List Val) (b : Block) (k : List Cont) (sc : Scope) (d n : ℕ) → 0 < n
    → start_turn S later values b k sc d n
    ≡ On (Following Nil b.body) (Turn later b (length sc.locals) ∷ k) (with_locals sc (sc.locals ++ fresh (S.block_names b.at) (take (length b.params) values))) d (n - 1)
begins S later values b k sc d n q = let f : n ≡ suc (n - 1) = omega arith in ap (λ x. start_turn S later values b k sc d x) f

-- how many steps are left as it begins
pub start_left : (S : Script) (later : Turns) (values : List Val) (b : Block) (k : List Cont) (sc : Scope) (d n : ℕ) → left_in (start_turn S later values b k sc d n) ≡ n - 1
start_left S later values b k sc d zero = omega arith
start_left S later values b k sc d (suc n) = omega arith

module _ {S : Script} {N : ℕ} {start : State} {h : Private} where
  pub iteration_opens : {log : Log} {k : List Cont} {me : Val} {names : List NameId} {size base d n : ℕ} (c : CodeBlock) (before after : List Held) (values : List Val) (later : Turns)
      → Lies (block_fits S c) names size base (length before) → length after ≡ length before → 0 < n
      → ((i : ℕ) → i < c.from → slice_get after i ≡ slice_get before i)
      → ((i : ℕ) → i < c.count → slice_get (map plain after) (c.from + i) ≡ Some (slot_value (take (length c.params) values) i))
      → At S N start log h (start_turn S later values (erase_block c) k (scope_of me names before) d n)
      → At S N start log h (On (Following Nil (map erase c.body)) (Turn later (erase_block c) (length names) ∷ k) (scope_of me (names ++ S.block_names c.at) after) d (n - 1))
  iteration_opens {k = k} {me = me} {names = names} {d = d} {n = n} c before after values later l e p below within a =
      let own = S.block_names c.at in
      let from = starts_at S c l in
      let count = counts_own S c l in
      let wide : length names ≤ length before = omega (arith, l.within, l.below, l.room) in
      let opened = slots_open names own before after (take (length c.params) values) (omega (arith, wide, e)) (λ i q. below i (omega (arith, from, q)))
      (λ i q. subst (λ j. slice_get (map plain after) (j + i) ≡ Some (slot_value (take (length c.params) values) i)) from (within i (omega (arith, count, q)))) in
      let is = erase_block-parts c in
      same (same a (begins S later values (erase_block c) k (scope_of me names before) d n p))
      (same_start later (erase_block c) k me d (n - 1) _ _ _ _ _ _ (ap (λ (b : Block). b.body) is) (room_length names before wide)
      (locals_with S c (erase_block c) (bound names (map plain before)) values is ∙ sym opened))

  -- no step is left for it
  pub no_step : {l : Log} (later : Turns) (values : List Val) (b : Block) (k : List Cont) (sc : Scope) (d n : ℕ) → n ≡ 0
      → At S N start l h (start_turn S later values b k sc d n) → At S N start l h (ended ending.Steps n)
  no_step later values b k sc d n e a = same a (ap (λ x. start_turn S later values b k sc d x) e ∙ ap (λ x. ended ending.Steps x) (sym e))

module _ (S : Script) (N : ℕ) (start : State) (h : Private) where
  turn_goes : (o : Outcome) (l : Log) (later : Turns) (b : Block) (kept : ℕ) (k : List Cont) (sc : Scope) (d n : ℕ) → goes_on o ≡ true → Came S N start l h o (Turn later b kept ∷ k) sc d n
      → At S N start l h (On (Turning (turned (value_on o) later) b) k (back kept sc) d n)
  turn_goes (Gave v) l later b kept k sc d n e a = on _ a refl
  turn_goes (Left Next) l later b kept k sc d n e a = on _ a refl
  turn_goes (Left Break) l later b kept k sc d n e a = absurd (cc)
  turn_goes (Left (Return v)) l later b kept k sc d n e a = absurd (cc)
  turn_goes (Over x) l later b kept k sc d n e a = absurd (cc)

  -- behind an iteration that goes on
  pub iteration_goes : (o : Outcome) (log : Log) (later : Turns) (b : Block) (k : List Cont) (me : Val) (names own : List NameId) (room : List Held) (d n : ℕ) → length names ≤ length room → goes_on o ≡ true
      → Came S N start log h o (Turn later b (length names) ∷ k) (scope_of me (names ++ own) room) d n → At S N start log h (On (Turning (turned (value_on o) later) b) k (scope_of me names room) d n)
  iteration_goes o log later b k me names own room d n l e a =
      subst (λ sc. At S N start log h (On (Turning (turned (value_on o) later) b) k sc d n)) (back_is me names own room l) (turn_goes o log later b (length names) k (scope_of me (names ++ own) room) d n e a)

-- an outcome that is an end leaves no iteration behind it
pub over_stops : (how : End) (o : Outcome) → o ≡ Over how → goes_on o ≡ true → ⊥
over_stops how o e f = let g = rw e at f in absurd (cc)

-- ---- walks over arrays

begun : (p : Pass) → walk_of p ≡ walking p [] Nil
begun pass.Each = refl
begun pass.WithIndex = refl
begun pass.Map = refl
begun pass.Select = refl

pub begun_at : (S : Script) (N : ℕ) (start : State) (h : Private) (l : Log) (array : Reference) (p : Pass) (at : Span) (b : Block) (k : List Cont) (sc : Scope) (d n : ℕ)
    → At S N start l h (On (Turning (Walking array 0 (walk_of p) at) b) k sc d n) → At S N start l h (On (Turning (Walking array 0 (walking p [] Nil) at) b) k sc d n)
begun_at S N start h l array p at b k sc d n a = same a (ap (λ w. On (Turning (Walking array 0 w at) b) k sc d n) (begun p))

fresh_nil : (own : List NameId) (vs : List Val) → vs ≡ [] → fresh own [] ≡ fresh own (Nil ∷ vs)
fresh_nil [] vs e = refl
fresh_nil (n ∷ ns) vs e = rw e refl

-- a second value that is nil is as good as none
fresh_one : (own : List NameId) (m : ℕ) (v : Val) → fresh own (take m (v ∷ [])) ≡ fresh own (take m (v ∷ Nil ∷ []))
fresh_one [] m v = refl
fresh_one (n ∷ ns) zero v = refl
fresh_one (n ∷ ns) (suc zero) v = refl
fresh_one (n ∷ ns) (suc (suc m)) v = ap (λ ls. (n, v) ∷ ls) (fresh_nil ns (take m []) (take_none m [] refl))

start_one : (S : Script) (later : Turns) (v : Val) (b : Block) (k : List Cont) (sc : Scope) (d n : ℕ) → start_turn S later (v ∷ []) b k sc d n ≡ start_turn S later (v ∷ Nil ∷ []) b k sc d n
start_one S later v b k sc d zero = refl
start_one S later v b k sc d (suc n) = ap (λ ls. On (Following Nil b.body) (Turn later b (length sc.locals) ∷ k) (with_locals sc (sc.locals ++ ls)) d n) (fresh_one (S.block_names b.at) (length b.params) v)

given_two : (S : Script) (p : Pass) (made : List Val) (last v : Val) (index : ℕ) (later : Turns) (b : Block) (k : List Cont) (sc : Scope) (d n : ℕ)
    → start_turn S later (given v index (walking p made last)) b k sc d n ≡ start_turn S later (v ∷ second_value p index ∷ []) b k sc d n
given_two S pass.Each made last v index later b k sc d n = start_one S later v b k sc d n
given_two S pass.WithIndex made last v index later b k sc d n = refl
given_two S pass.Map made last v index later b k sc d n = start_one S later v b k sc d n
given_two S pass.Select made last v index later b k sc d n = start_one S later v b k sc d n

module _ {S : Script} {N : ℕ} {start : State} {h : Private} where
  -- the length of an array is asked before each iteration
  pub asks_length : {l : Log} {array : Reference} {next : ℕ} {walk : Walk} {at : Span} {b : Block} {k : List Cont} {sc : Scope} {d n : ℕ} → At S N start l h (On (Turning (Walking array next walk at) b) k sc d n)
      → At S N start l h (ask array Len at (Then (ElementBelow array next walk b at) ∷ k) sc d n)
  asks_length a = on _ a refl

  -- then the element, where there is one
  pub asks_element : {l : Log} {v : Val} {array : Reference} {next : ℕ} {walk : Walk} {at : Span} {b : Block} {k : List Cont} {sc : Scope} {d n : ℕ} → is_below next v ≡ true
      → At S N start l h (On (Give v) (Then (ElementBelow array next walk b at) ∷ k) sc d n)
      → At S N start l h (ask array (ElementAt (pos next)) at (Then (WithElement array next walk b at) ∷ k) sc d n)
  asks_element {array = array} {next = next} {walk = walk} {at = at} {b = b} {k = k} {sc = sc} {d = d} {n = n} e a =
      on _ a (ap (λ t. Go (cond t (ask array (ElementAt (pos next)) at (Then (WithElement array next walk b at) ∷ k) sc d n) (finish array walk k sc d n))) e)

  pub no_element : {l : Log} {v : Val} {array : Reference} {next : ℕ} {walk : Walk} {at : Span} {b : Block} {k : List Cont} {sc : Scope} {d n : ℕ} → is_below next v ≡ false
      → At S N start l h (On (Give v) (Then (ElementBelow array next walk b at) ∷ k) sc d n) → At S N start l h (finish array walk k sc d n)
  no_element {array = array} {next = next} {walk = walk} {at = at} {b = b} {k = k} {sc = sc} {d = d} {n = n} e a =
      on _ a (ap (λ t. Go (cond t (ask array (ElementAt (pos next)) at (Then (WithElement array next walk b at) ∷ k) sc d n) (finish array walk k sc d n))) e)

  -- an iteration with it begins
  pub element_begins : {l : Log} {array : Reference} {next : ℕ} {at : Span} {b : Block} {k : List Cont} {sc : Scope} {d n : ℕ} (p : Pass) (made : List Val) (last v : Val)
      → At S N start l h (On (Give v) (Then (WithElement array next (walking p made last) b at) ∷ k) sc d n)
      → At S N start l h (start_turn S (Walking array (suc next) (holding v (walking p made last)) at) (v ∷ second_value p next ∷ []) b k sc d n)
  element_begins {array = array} {next = next} {at = at} {b = b} {k = k} {sc = sc} {d = d} {n = n} p made last v a =
      same (on _ a refl) (given_two S p made last v next (Walking array (suc next) (holding v (walking p made last)) at) b k sc d n)

  -- what it makes joins what was made
  pub element_ends : {l : Log} {array : Reference} {next next' : ℕ} {at : Span} {b : Block} {k : List Cont} {sc : Scope} {d n : ℕ} (p : Pass) (made made' : List Val) (last held v gave : Val)
      → holding v (walking p made last) ≡ walking p made held → walking p made' held ≡ walked gave (walking p made held) → next' ≡ next + 1
      → At S N start l h (On (Turning (turned gave (Walking array (suc next) (holding v (walking p made last)) at)) b) k sc d n)
      → At S N start l h (On (Turning (Walking array next' (walking p made' held) at) b) k sc d n)
  element_ends {array = array} {next = next} {next' = next'} {at = at} {b = b} {k = k} {sc = sc} {d = d} {n = n} p made made' last held v gave e f g a =
      let u : suc next ≡ next' = omega (arith, g) in
      same a (ap (λ w. On (Turning (Walking array (suc next) (walked gave w) at) b) k sc d n) e
      ∙ (ap (λ w. On (Turning (Walking array (suc next) w at) b) k sc d n) (sym f) ∙ ap (λ m. On (Turning (Walking array m (walking p made' held) at) b) k sc d n) u))

  -- ---- pairs

  pub pair_begins : {l : Log} {p : Val × Val} {ps qs : List (Val × Val)} {answer : Val} {b : Block} {k : List Cont} {sc : Scope} {d n : ℕ} → qs ≡ p ∷ ps
      → At S N start l h (On (Turning (EachPair qs answer) b) k sc d n) → At S N start l h (start_turn S (EachPair ps answer) (p.0 ∷ p.1 ∷ []) b k sc d n)
  pair_begins {answer = answer} {b = b} {k = k} {sc = sc} {d = d} {n = n} e a = on _ (same a (ap (λ qs. On (Turning (EachPair qs answer) b) k sc d n) e)) refl

  pub pairs_end : {l : Log} {qs : List (Val × Val)} {answer : Val} {b : Block} {k : List Cont} {sc : Scope} {d n : ℕ} → qs ≡ []
      → At S N start l h (On (Turning (EachPair qs answer) b) k sc d n) → At S N start l h (On (Give answer) k sc d n)
  pairs_end {answer = answer} {b = b} {k = k} {sc = sc} {d = d} {n = n} e a = on _ (same a (ap (λ qs. On (Turning (EachPair qs answer) b) k sc d n) e)) refl

-- none are left where there are none
pub no_pairs : (ps : List (Held × Held)) → length ps ≡ 0 → map pair ps ≡ []
no_pairs [] e = refl
no_pairs (p ∷ ps) e = absurd (omega (arith, e))

module _ (at : Span) (k : List Cont) (sc : Scope) (d n : ℕ) where
  ended_left : (e : End) → left_in (answered (reply.Ended e) at k sc d n) ≡ n
  ended_left (ending.Value v) = refl
  ended_left (ending.Raised f place) = refl
  ended_left ending.Steps = refl
  ended_left (ending.Full p q) = refl
  ended_left ending.Memory = refl
  ended_left ending.Sink = refl

  -- how many steps are left behind a copy of a hash
  pub copied_left : (answer : Val) (b : Block) (r : Reference) (a : Reply) → left_in (used (ForEach answer b) r a at k sc d n) ≡ n
  copied_left answer b r (reply.Value v) = refl
  copied_left answer b r (reply.Elements vs) = refl
  copied_left answer b r (reply.Pairs ps) = refl
  copied_left answer b r reply.Done = refl
  copied_left answer b r (reply.Started number thread) = refl
  copied_left answer b r (reply.Ended e) = ended_left e
  copied_left answer b r (reply.Failed f) = refl

-- ---- what a call with a block comes to

-- the same answer under another name
pub block_comes : (S : Script) (N : ℕ) (start : State) (h : Private) (l : Log) (a a' : Answer) (b : Block) (at : Span) (k : List Cont) (sc : Scope) (d n : ℕ) → a ≡ a'
    → At S N start l h (call.answered S a (Some b) at k sc d n) → At S N start l h (call.answered S a' (Some b) at k sc d n)
block_comes S N start h l a a' b at k sc d n e come = same come (ap (λ x. call.answered S x (Some b) at k sc d n) e)

pub counted : (N : ℕ) (at : Span) (left : ℕ) (l : Log) (i : Iterations) (value : Held) (leave : Leave) (turns : Turns) → Counts turns i → OpensBy (Loops turns) N at left l i value leave
counted N at left l (iterations.Counting r) value leave turns c = ap Loops c
counted N at left l (iterations.Elements array p) value leave turns c = absurd c
counted N at left l (iterations.Pairs hash) value leave turns c = absurd c
counted N at left l (iterations.Owned mutex) value leave turns c = absurd c
counted N at left l (iterations.Done c) value leave turns done = λ S start h b k sc d a.
    rw done.1 (block_done S N start h l (Loops turns) turns done.0 b at k sc d left refl done.2 a)

-- where a row was, it still is; and what lies behind a frame lies in it
pub still_within : {b b' n n' : ℕ} → b' ≡ b → n' ≡ n → b ≤ n → b' ≤ n'
still_within e f q = omega (arith, e, f, q)

pub up_to_end : (b e n count : ℕ) → e ≤ n → e ≡ b + count → b + count ≤ n
up_to_end b e n count q f = omega (arith, q, f)
