-- Moves of the machine, one after another.
use Rattle.std.proofs.Common.{◌≡◌, ℕ, suc, ◌+◌, ◌-◌, ◌<◌, ◌≤◌, true, false, cond, List, ◌∷◌, refl, sym, ap, ◌∙◌, subst, arith}
use Rattle.std.proofs.lemmas.Bool.Decides.{nat_tests}
use Rattle.std.specs.Prelude.{nat_lt}
use Rattle.rb_tree.specs.declared.node.Node.{Node, out-Node}
use Rattle.rb_tree.specs.Layer.{NodeLayer}
use Rattle.rb_tree.specs.Place.{place}
use Rattle.rb_model.specs.declared.fault.Fault.TheVariants.{TooDeep}
use Rattle.rb_model.specs.Values.{Value as Val, Nil, truthy}
use Rattle.rb_model.specs.Ends.{End}
use Rattle.rb_model.specs.Ends as ending
use Rattle.rb_model.specs.Log.{Log}
use Rattle.rb_model.specs.Private.{Private}
use Rattle.rb_machine.specs.Scopes.{Script, Scope}
use Rattle.rb_machine.specs.Control.{State, On, Cont, Under, Test, Again, Eval, Give, Following}
use Rattle.rb_machine.specs.Call.{ended, raised}
use Rattle.rb_machine.specs.Begin.{begin}
use Rattle.rb_machine.specs.Move.{Go, move, start_node}
use Rattle.rb_machine.specs.Follows.{At, goes}
use Rattle.rb_walk.specs.Outcome.{Outcome, Gave, Left, Over, Came}

module _ {S : Script} {N : ℕ} {start : State} {h : Private} where
  -- one move
  pub on : {l : Log} {s : State} (t : State) → At S N start l h s → move S s ≡ Go t → At S N start l h t
  on t a e = goes _ _ _ t a e

  -- the same place under another name
  pub same : {l : Log} {s t : State} → At S N start l h s → s ≡ t → At S N start l h t
  same {l = l} a e = subst (λ s. At S N start l h s) e a

  -- a node whose layer is known begins
  pub begins : {l : Log} (n : Node) (f : NodeLayer) (k : List Cont) (sc : Scope) (d left : ℕ) → out-Node n ≡ f → At S N start l h (begin S (out-Node n) k sc d left) → At S N start l h (begin S f k sc d left)
  begins n f k sc d left e a = same a (ap (λ f. begin S f k sc d left) e)

  pub follows : {l : Log} {v : Val} {ns : List Node} {k : List Cont} {sc : Scope} {d left : ℕ} (ms : List Node) → ms ≡ ns → At S N start l h (On (Following v ns) k sc d left) → At S N start l h (On (Following v ms) k sc d left)
  follows {v = v} {k = k} {sc = sc} {d = d} {left = left} ms e a = same a (ap (λ ns. On (Following v ns) k sc d left) (sym e))

  -- the same value
  pub gives : {l : Log} {v : Val} {k : List Cont} {sc : Scope} {d left : ℕ} (w : Val) → v ≡ w → At S N start l h (On (Give v) k sc d left) → At S N start l h (On (Give w) k sc d left)
  gives {k = k} {sc = sc} {d = d} {left = left} w e a = same a (ap (λ v. On (Give v) k sc d left) e)

  -- the test of a loop
  pub test_true : {l : Log} {v : Val} {c : Node} {b : List Node} {k : List Cont} {sc : Scope} {d left : ℕ} → truthy v ≡ true → At S N start l h (On (Give v) (Test c b ∷ k) sc d left) → At S N start l h (On (Following Nil b) (Again c b ∷ k) sc d left)
  test_true {v = v} {c = c} {b = b} {k = k} {sc = sc} {d = d} {left = left} e a = on _ a (ap (λ t. Go (cond t (On (Following Nil b) (Again c b ∷ k) sc d left) (On (Give Nil) k sc d left))) e)

  pub test_false : {l : Log} {v : Val} {c : Node} {b : List Node} {k : List Cont} {sc : Scope} {d left : ℕ} → truthy v ≡ false → At S N start l h (On (Give v) (Test c b ∷ k) sc d left) → At S N start l h (On (Give Nil) k sc d left)
  test_false {v = v} {c = c} {b = b} {k = k} {sc = sc} {d = d} {left = left} e a = on _ a (ap (λ t. Go (cond t (On (Following Nil b) (Again c b ∷ k) sc d left) (On (Give Nil) k sc d left))) e)

  -- the start of a node
  pub counts : {l : Log} {n : Node} {k : List Cont} {sc : Scope} {d left : ℕ} → 0 < left → d < 1000 → At S N start l h (On (Eval n) k sc d left) → At S N start l h (begin S (out-Node n) (Under d ∷ k) sc (d + 1) (left - 1))
  counts {n = n} {k = k} {sc = sc} {d = d} {left = left} p q a =
      let e : left ≡ suc (left - 1) = omega arith in
      let t : nat_lt d 1000 ≡ true = grind (arith, nat_tests) in
      on _ a (ap (λ m. Go (start_node S n k sc d m)) e ∙ ap (λ b. Go (cond b (begin S (out-Node n) (Under d ∷ k) sc (d + 1) (left - 1)) (raised TooDeep (place (out-Node n)) (suc (left - 1))))) t)

  pub too_many : {l : Log} {n : Node} {k : List Cont} {sc : Scope} {d left : ℕ} → left ≡ 0 → At S N start l h (On (Eval n) k sc d left) → At S N start l h (ended ending.Steps left)
  too_many {n = n} {k = k} {sc = sc} {d = d} {left = left} e a = on _ a (ap (λ m. Go (start_node S n k sc d m)) e ∙ ap (λ m. Go (ended ending.Steps m)) (sym e))

  pub too_deep : {l : Log} {n : Node} {k : List Cont} {sc : Scope} {d left : ℕ} → 0 < left → 1000 ≤ d → At S N start l h (On (Eval n) k sc d left) → At S N start l h (raised TooDeep (place (out-Node n)) left)
  too_deep {n = n} {k = k} {sc = sc} {d = d} {left = left} p q a =
      let e : left ≡ suc (left - 1) = omega arith in
      let t : nat_lt d 1000 ≡ false = grind (arith, nat_tests) in
      on _ a (ap (λ m. Go (start_node S n k sc d m)) e ∙ (ap (λ b. Go (cond b (begin S (out-Node n) (Under d ∷ k) sc (d + 1) (left - 1)) (raised TooDeep (place (out-Node n)) (suc (left - 1))))) t ∙ ap (λ m. Go (raised TooDeep (place (out-Node n)) m)) (sym e)))

module _ (S : Script) (N : ℕ) (start : State) (h : Private) where
  -- what leaves the innermost node leaves it with the depth from before
  pub left : (l : Log) (o : Outcome) (k : List Cont) (sc : Scope) (d d' n : ℕ) → Came S N start l h o (Under d ∷ k) sc d' n → Came S N start l h o k sc d n
  left l (Gave v) k sc d d' n a = on _ a refl
  left l (Left e) k sc d d' n a = on _ a refl
  left l (Over (ending.Value v)) k sc d d' n a = a
  left l (Over (ending.Raised f at)) k sc d d' n a = a
  left l (Over ending.Steps) k sc d d' n a = a
  left l (Over (ending.Full p q)) k sc d d' n a = a
  left l (Over ending.Sink) k sc d d' n a = a
  left l (Over ending.Memory) k sc d d' n a = a
