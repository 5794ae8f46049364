-- How outcomes go on behind what waits.
use Rattle.std.proofs.Common.{◌≡◌, ℕ, suc, ◌-◌, ◌<◌, Bool, true, false, cond, List, [], ◌∷◌, ◌++◌, length, refl, sym, ap, ◌∙◌, subst, arith}
use Rattle.std.specs.Prelude.{ℤ, pos, ◌+ℤ◌, int_lt, take}
use mathlib.Core.Logic.{inl, inr}
use Rattle.rb_tree.specs.declared.node.Node.{Node}
use Rattle.rb_tree.specs.declared.node.Block.{Block}
use Rattle.rb_model.specs.Values.{Value as Val, Nil, Int}
use Rattle.rb_model.specs.declared.value.Value.{Value as Held}
use Rattle.rb_model.specs.Ends as ending
use Rattle.rb_model.specs.Log.{Log}
use Rattle.rb_model.specs.Private.{Private}
use Rattle.rb_machine.specs.Scopes.{Script, Scope, fresh, with_locals}
use Rattle.rb_machine.specs.Control.{State, On, Cont, Then, Test, Again, Turn, Frame, Give, Following, Looping, Turning, Break, Next, Return, Turns, Counting, Step, Rest, Instead}
use Rattle.rb_machine.specs.Call.{ended}
use Rattle.rb_machine.specs.Give.{back}
use Rattle.rb_machine.specs.Turns.{turned, start_turn}
use Rattle.rb_machine.specs.Move.{Go}
use Rattle.rb_machine.specs.Follows.{At}
use Rattle.rb_walk.specs.declared.came.Came.{Came as Registers}
use Rattle.rb_walk.specs.declared.came.Came.TheVariants as came
use Rattle.rb_walk.specs.declared.came.Leave.{Leave}
use Rattle.rb_walk.specs.declared.came.Leave.TheVariants as leave
use Rattle.rb_walk.specs.Outcome.{Outcome, Gave, Left, Over, Came, Settles, is_left, value_of, left_by, outcome}
use Rattle.rb_walk.specs.Carries.{goes_on, loop_exit, call_exit}
use Rattle.rb_walk.proofs.Moves.{on}

-- a value that came
pub gave : (c : Registers) (v : Held) (l : Leave) → is_left c ≡ false → outcome c v l ≡ Gave (value_of c v)
gave came.Nil v l h = refl
gave came.False v l h = refl
gave came.True v l h = refl
gave (came.Int n) v l h = refl
gave came.Other v l h = refl
gave came.Left v l h = absurd (cc)

-- registers that hold the value hold it whatever lies in the walker
pub value_kept : (c : Registers) (v w : Held) → is_left c ≡ false → (c ≡ came.Other → ⊥) → value_of c v ≡ value_of c w
value_kept came.Nil v w h n = refl
value_kept came.False v w h n = refl
value_kept came.True v w h n = refl
value_kept (came.Int i) v w h n = refl
value_kept came.Other v w h n = absurd (n refl)
value_kept came.Left v w h n = absurd (cc)

-- none that came
pub gone : (c : Registers) (v : Held) (l : Leave) → is_left c ≡ true → outcome c v l ≡ left_by l v
gone came.Left v l h = refl
gone came.Nil v l h = absurd (cc)
gone came.False v l h = absurd (cc)
gone came.True v l h = absurd (cc)
gone (came.Int n) v l h = absurd (cc)
gone came.Other v l h = absurd (cc)

-- what does not go on was left
pub stopped_left : (c : Registers) (v : Held) (l : Leave) → goes_on (outcome c v l) ≡ false → is_left c ≡ true
stopped_left came.Left v l h = refl
stopped_left came.Nil v l h = absurd (cc)
stopped_left came.False v l h = absurd (cc)
stopped_left came.True v l h = absurd (cc)
stopped_left (came.Int n) v l h = absurd (cc)
stopped_left came.Other v l h = absurd (cc)

module _ {S : Script} {N : ℕ} {start : State} {h : Private} where
  -- where a value came, the machine gives it
  pub given : {l : Log} {k : List Cont} {sc : Scope} {d n : ℕ} (c : Registers) (v : Held) (x : Leave) → is_left c ≡ false → Came S N start l h (outcome c v x) k sc d n → At S N start l h (On (Give (value_of c v)) k sc d n)
  given {l = l} {k = k} {sc = sc} {d = d} {n = n} c v x e a = subst (λ o. Came S N start l h o k sc d n) (gave c v x e) a

-- a call of a method that gives this value or ends comes out so
pub settled_exit : (v : Val) (o : Outcome) → Settles v o → call_exit o ≡ o
settled_exit v o (inl e) = ap call_exit e ∙ sym e
settled_exit v o (inr over) = ap call_exit over.1 ∙ sym over.1

-- what an iteration of a block gave
abbrev pub turn_value : Outcome → Val
turn_value (Gave v) = v
turn_value o = Nil

module _ (S : Script) (N : ℕ) (start : State) (h : Private) where
  -- the outcome under another name
  pub comes : (l : Log) (k : List Cont) (sc : Scope) (d n : ℕ) (o p : Outcome) → p ≡ o → Came S N start l h o k sc d n → Came S N start l h p k sc d n
  comes l k sc d n o p e a = subst (λ o. Came S N start l h o k sc d n) (sym e) a

  -- whether a value came of it
  abbrev pub is_given : Outcome → Bool
  is_given (Gave v) = true
  is_given o = false

  -- what leaves goes past a step inside a node
  pub passes_by : (o : Outcome) (l : Log) (step : Step) (k : List Cont) (sc : Scope) (d n : ℕ) → is_given o ≡ false → Came S N start l h o (Then step ∷ k) sc d n → Came S N start l h o k sc d n
  passes_by (Gave v) l step k sc d n e a = absurd (cc)
  passes_by (Left x) l step k sc d n e a = on _ a refl
  passes_by (Over (ending.Value v)) l step k sc d n e a = a
  passes_by (Over (ending.Raised f at)) l step k sc d n e a = a
  passes_by (Over ending.Steps) l step k sc d n e a = a
  passes_by (Over (ending.Full p q)) l step k sc d n e a = a
  passes_by (Over ending.Sink) l step k sc d n e a = a
  passes_by (Over ending.Memory) l step k sc d n e a = a

  not_given : (x : Leave) (v : Held) → is_given (left_by x v) ≡ false
  not_given leave.Break v = refl
  not_given leave.Next v = refl
  not_given leave.Return v = refl
  not_given (leave.Over e) v = refl

  pub passes : (c : Registers) (v : Held) (x : Leave) (l : Log) (step : Step) (k : List Cont) (sc : Scope) (d n : ℕ) → is_left c ≡ true → Came S N start l h (outcome c v x) (Then step ∷ k) sc d n → Came S N start l h (outcome c v x) k sc d n
  passes c v x l step k sc d n e a =
      comes l k sc d n _ _ (gone c v x e) (passes_by (left_by x v) l step k sc d n (not_given x v) (comes l (Then step ∷ k) sc d n _ _ (sym (gone c v x e)) a))

  -- an assignment that gives its value or ends goes on behind it so
  pub stored : (v : Val) (o : Outcome) (l : Log) (k : List Cont) (sc : Scope) (d n : ℕ) → Settles v o → Came S N start l h o (Then (Instead v) ∷ k) sc d n → Came S N start l h o k sc d n
  stored v o l k sc d n (inl e) a = comes l k sc d n (Gave v) o e (on _ (comes l (Then (Instead v) ∷ k) sc d n o (Gave v) (sym e) a) refl)
  stored v o l k sc d n (inr over) a = passes_by o l (Instead v) k sc d n (ap is_given over.1) a

  -- behind the last statement of a body
  pub statements_end : (l : Log) (o : Outcome) (k : List Cont) (sc : Scope) (d n : ℕ) → Came S N start l h o (Then (Rest []) ∷ k) sc d n → Came S N start l h o k sc d n
  statements_end l (Gave v) k sc d n a = on _ (on _ a refl) refl
  statements_end l (Left e) k sc d n a = on _ a refl
  statements_end l (Over (ending.Value v)) k sc d n a = a
  statements_end l (Over (ending.Raised f at)) k sc d n a = a
  statements_end l (Over ending.Steps) k sc d n a = a
  statements_end l (Over (ending.Full p q)) k sc d n a = a
  statements_end l (Over ending.Sink) k sc d n a = a
  statements_end l (Over ending.Memory) k sc d n a = a

  -- behind the body of a loop, and behind its condition where it is left
  pub again : (o : Outcome) (l : Log) (c : Node) (b : List Node) (k : List Cont) (sc : Scope) (d n : ℕ) → goes_on o ≡ true → Came S N start l h o (Again c b ∷ k) sc d n → At S N start l h (On (Looping c b) k sc d n)
  again (Gave v) l c b k sc d n e a = on _ a refl
  again (Left Next) l c b k sc d n e a = on _ a refl
  again (Left Break) l c b k sc d n e a = absurd (cc)
  again (Left (Return v)) l c b k sc d n e a = absurd (cc)
  again (Over x) l c b k sc d n e a = absurd (cc)

  -- the same of a body whose value no one reads
  pub again_unread : (r : Registers) (v : Held) (lv : Leave) (l : Log) (c : Node) (b : List Node) (k : List Cont) (sc : Scope) (d n : ℕ) → goes_on (outcome r v lv) ≡ true
      → (is_left r ≡ true → Came S N start l h (outcome r v lv) (Again c b ∷ k) sc d n) → (is_left r ≡ false → (w : Val) × Came S N start l h (Gave w) (Again c b ∷ k) sc d n)
      → At S N start l h (On (Looping c b) k sc d n)
  again_unread came.Left v lv l c b k sc d n e p q = again (outcome came.Left v lv) l c b k sc d n e (p refl)
  again_unread came.Nil v lv l c b k sc d n e p q = let some = q refl in again (Gave some.0) l c b k sc d n refl some.1
  again_unread came.False v lv l c b k sc d n e p q = let some = q refl in again (Gave some.0) l c b k sc d n refl some.1
  again_unread came.True v lv l c b k sc d n e p q = let some = q refl in again (Gave some.0) l c b k sc d n refl some.1
  again_unread (came.Int m) v lv l c b k sc d n e p q = let some = q refl in again (Gave some.0) l c b k sc d n refl some.1
  again_unread came.Other v lv l c b k sc d n e p q = let some = q refl in again (Gave some.0) l c b k sc d n refl some.1

  pub again_out : (o : Outcome) (l : Log) (c : Node) (b : List Node) (k : List Cont) (sc : Scope) (d n : ℕ) → goes_on o ≡ false → Came S N start l h o (Again c b ∷ k) sc d n → Came S N start l h (loop_exit o) k sc d n
  again_out (Gave v) l c b k sc d n e a = absurd (cc)
  again_out (Left Next) l c b k sc d n e a = absurd (cc)
  again_out (Left Break) l c b k sc d n e a = on _ a refl
  again_out (Left (Return v)) l c b k sc d n e a = on _ a refl
  again_out (Over (ending.Value v)) l c b k sc d n e a = a
  again_out (Over (ending.Raised f at)) l c b k sc d n e a = a
  again_out (Over ending.Steps) l c b k sc d n e a = a
  again_out (Over (ending.Full p q)) l c b k sc d n e a = a
  again_out (Over ending.Sink) l c b k sc d n e a = a
  again_out (Over ending.Memory) l c b k sc d n e a = a

  pub tested_again : (x : Leave) (v : Held) (l : Log) (c : Node) (b : List Node) (k : List Cont) (sc : Scope) (d n : ℕ) → goes_on (left_by x v) ≡ true → Came S N start l h (left_by x v) (Test c b ∷ k) sc d n → At S N start l h (On (Looping c b) k sc d n)
  tested_again leave.Next v l c b k sc d n e a = on _ a refl
  tested_again leave.Break v l c b k sc d n e a = absurd (cc)
  tested_again leave.Return v l c b k sc d n e a = absurd (cc)
  tested_again (leave.Over x) v l c b k sc d n e a = absurd (cc)

  pub tested_out : (o : Outcome) (l : Log) (c : Node) (b : List Node) (k : List Cont) (sc : Scope) (d n : ℕ) → goes_on o ≡ false → Came S N start l h o (Test c b ∷ k) sc d n → Came S N start l h (loop_exit o) k sc d n
  tested_out (Gave v) l c b k sc d n e a = absurd (cc)
  tested_out (Left Next) l c b k sc d n e a = absurd (cc)
  tested_out (Left Break) l c b k sc d n e a = on _ a refl
  tested_out (Left (Return v)) l c b k sc d n e a = on _ a refl
  tested_out (Over (ending.Value v)) l c b k sc d n e a = a
  tested_out (Over (ending.Raised f at)) l c b k sc d n e a = a
  tested_out (Over ending.Steps) l c b k sc d n e a = a
  tested_out (Over (ending.Full p q)) l c b k sc d n e a = a
  tested_out (Over ending.Sink) l c b k sc d n e a = a
  tested_out (Over ending.Memory) l c b k sc d n e a = a

  -- behind an iteration of a block
  pub turned_goes : (o : Outcome) (l : Log) (turns : Turns) (b : Block) (kept : ℕ) (k : List Cont) (sc : Scope) (d n : ℕ) → goes_on o ≡ true → Came S N start l h o (Turn turns b kept ∷ k) sc d n
      → At S N start l h (On (Turning (turned (turn_value o) turns) b) k (back kept sc) d n)
  turned_goes (Gave v) l turns b kept k sc d n e a = on _ a refl
  turned_goes (Left Next) l turns b kept k sc d n e a = on _ a refl
  turned_goes (Left Break) l turns b kept k sc d n e a = absurd (cc)
  turned_goes (Left (Return v)) l turns b kept k sc d n e a = absurd (cc)
  turned_goes (Over x) l turns b kept k sc d n e a = absurd (cc)

  pub turned_out : (o : Outcome) (l : Log) (turns : Turns) (b : Block) (kept : ℕ) (k : List Cont) (sc : Scope) (d n : ℕ) → goes_on o ≡ false → Came S N start l h o (Turn turns b kept ∷ k) sc d n → Came S N start l h (loop_exit o) k (back kept sc) d n
  turned_out (Gave v) l turns b kept k sc d n e a = absurd (cc)
  turned_out (Left Next) l turns b kept k sc d n e a = absurd (cc)
  turned_out (Left Break) l turns b kept k sc d n e a = on _ a refl
  turned_out (Left (Return v)) l turns b kept k sc d n e a = on _ a refl
  turned_out (Over (ending.Value v)) l turns b kept k sc d n e a = a
  turned_out (Over (ending.Raised f at)) l turns b kept k sc d n e a = a
  turned_out (Over ending.Steps) l turns b kept k sc d n e a = a
  turned_out (Over (ending.Full p q)) l turns b kept k sc d n e a = a
  turned_out (Over ending.Sink) l turns b kept k sc d n e a = a
  turned_out (Over ending.Memory) l turns b kept k sc d n e a = a

  -- behind the body of a method
  pub called : (o : Outcome) (l : Log) (saved : Scope) (k : List Cont) (sc : Scope) (d n : ℕ) → Came S N start l h o (Frame saved ∷ k) sc d n → Came S N start l h (call_exit o) k saved d n
  called (Gave v) l saved k sc d n a = on _ a refl
  called (Left Next) l saved k sc d n a = on _ a refl
  called (Left Break) l saved k sc d n a = on _ a refl
  called (Left (Return v)) l saved k sc d n a = on _ a refl
  called (Over (ending.Value v)) l saved k sc d n a = a
  called (Over (ending.Raised f at)) l saved k sc d n a = a
  called (Over ending.Steps) l saved k sc d n a = a
  called (Over (ending.Full p q)) l saved k sc d n a = a
  called (Over ending.Sink) l saved k sc d n a = a
  called (Over ending.Memory) l saved k sc d n a = a

module _ {S : Script} {N : ℕ} {start : State} {h : Private} where
  -- an iteration begins, or there are too many steps, or there is none left to begin
  pub turn_starts : {l : Log} {next last : ℤ} {answer : Val} {b : Block} {k : List Cont} {sc : Scope} {d n : ℕ} → int_lt next last ≡ true → 0 < n
      → At S N start l h (On (Turning (Counting next last answer) b) k sc d n)
      → At S N start l h (On (Following Nil b.body) (Turn (Counting (next +ℤ pos 1) last answer) b (length sc.locals) ∷ k) (with_locals sc (sc.locals ++ fresh (S.block_names b.at) (take (length b.params) (Int next ∷ [])))) d (n - 1))
  turn_starts {next = next} {last = last} {answer = answer} {b = b} {k = k} {sc = sc} {d = d} {n = n} e q a =
      let f : n ≡ suc (n - 1) = omega arith in
      on _ a (ap (λ t. Go (cond t (start_turn S (Counting (next +ℤ pos 1) last answer) (Int next ∷ []) b k sc d n) (On (Give answer) k sc d n))) e ∙ ap (λ x. Go (start_turn S (Counting (next +ℤ pos 1) last answer) (Int next ∷ []) b k sc d x)) f)

  pub turn_too_many : {l : Log} {next last : ℤ} {answer : Val} {b : Block} {k : List Cont} {sc : Scope} {d n : ℕ} → int_lt next last ≡ true → n ≡ 0
      → At S N start l h (On (Turning (Counting next last answer) b) k sc d n) → At S N start l h (ended ending.Steps n)
  turn_too_many {next = next} {last = last} {answer = answer} {b = b} {k = k} {sc = sc} {d = d} {n = n} e q a =
      on _ a (ap (λ t. Go (cond t (start_turn S (Counting (next +ℤ pos 1) last answer) (Int next ∷ []) b k sc d n) (On (Give answer) k sc d n))) e ∙ (ap (λ x. Go (start_turn S (Counting (next +ℤ pos 1) last answer) (Int next ∷ []) b k sc d x)) q ∙ ap (λ x. Go (ended ending.Steps x)) (sym q)))

  pub turns_end : {l : Log} {next last : ℤ} {answer : Val} {b : Block} {k : List Cont} {sc : Scope} {d n : ℕ} → int_lt next last ≡ false
      → At S N start l h (On (Turning (Counting next last answer) b) k sc d n) → At S N start l h (On (Give answer) k sc d n)
  turns_end {next = next} {last = last} {answer = answer} {b = b} {k = k} {sc = sc} {d = d} {n = n} e a = on _ a (ap (λ t. Go (cond t (start_turn S (Counting (next +ℤ pos 1) last answer) (Int next ∷ []) b k sc d n) (On (Give answer) k sc d n))) e)
