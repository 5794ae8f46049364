-- What steps inside a node do with a value.
use Rattle.std.proofs.Common.{◌≡◌, ℕ, ◌≤◌, Bool, true, false, cond, List, ◌∷◌, length, map, refl, sym, ap, ◌∙◌}
use Rattle.std.specs.Prelude.{not, slice_get}
use Rattle.rb_tree.specs.declared.node.Node.{Node}
use Rattle.rb_model.specs.Values.{Value as Val, Nil, truthy, truth}
use Rattle.rb_model.specs.Log.{Log}
use Rattle.rb_model.specs.Private.{Private}
use Rattle.rb_machine.specs.Scopes.{Script, Scope}
use Rattle.rb_machine.specs.Control.{State, On, Cont, Then, Eval, Give, Following, RightOfAnd, RightOfOr, Negate, Choose}
use Rattle.rb_machine.specs.Move.{Go}
use Rattle.rb_machine.specs.Follows.{At}
use Rattle.rb_tree.specs.declared.span.NameId.{NameId}
use Rattle.rb_model.specs.Values.{plain}
use Rattle.rb_model.specs.declared.value.Value.{Value as Held}
use Rattle.rb_machine.specs.Scopes.{assign, with_locals}
use Rattle.rb_machine.specs.Control.{Step}
use Rattle.rb_code.specs.Layout.{bound, has_slot}
use Rattle.rb_walk.specs.Outcome.{Outcome, Came}
use Rattle.rb_walk.specs.Carries.{scope_of, Assigns, plainly, updating}
use Rattle.rb_walk.specs.Answers.{Writes, wrote, wanted}
use Rattle.rb_walk.proofs.Lists.{get_set}
use Rattle.rb_walk.proofs.Rooms.{write_room}
use Rattle.rb_walk.proofs.Moves.{on, same}

module _ {S : Script} {N : ℕ} {start : State} {h : Private} where
  pub and_goes : {l : Log} {v : Val} {r : Node} {k : List Cont} {sc : Scope} {d n : ℕ} → truthy v ≡ true → At S N start l h (On (Give v) (Then (RightOfAnd r) ∷ k) sc d n) → At S N start l h (On (Eval r) k sc d n)
  and_goes {v = v} {r = r} {k = k} {sc = sc} {d = d} {n = n} e a = on _ a (ap (λ t. Go (cond t (On (Eval r) k sc d n) (On (Give v) k sc d n))) e)

  pub and_stops : {l : Log} {v : Val} {r : Node} {k : List Cont} {sc : Scope} {d n : ℕ} → truthy v ≡ false → At S N start l h (On (Give v) (Then (RightOfAnd r) ∷ k) sc d n) → At S N start l h (On (Give v) k sc d n)
  and_stops {v = v} {r = r} {k = k} {sc = sc} {d = d} {n = n} e a = on _ a (ap (λ t. Go (cond t (On (Eval r) k sc d n) (On (Give v) k sc d n))) e)

  pub or_stops : {l : Log} {v : Val} {r : Node} {k : List Cont} {sc : Scope} {d n : ℕ} → truthy v ≡ true → At S N start l h (On (Give v) (Then (RightOfOr r) ∷ k) sc d n) → At S N start l h (On (Give v) k sc d n)
  or_stops {v = v} {r = r} {k = k} {sc = sc} {d = d} {n = n} e a = on _ a (ap (λ t. Go (cond t (On (Give v) k sc d n) (On (Eval r) k sc d n))) e)

  pub or_goes : {l : Log} {v : Val} {r : Node} {k : List Cont} {sc : Scope} {d n : ℕ} → truthy v ≡ false → At S N start l h (On (Give v) (Then (RightOfOr r) ∷ k) sc d n) → At S N start l h (On (Eval r) k sc d n)
  or_goes {v = v} {r = r} {k = k} {sc = sc} {d = d} {n = n} e a = on _ a (ap (λ t. Go (cond t (On (Give v) k sc d n) (On (Eval r) k sc d n))) e)

  pub negated : {l : Log} {v : Val} {k : List Cont} {sc : Scope} {d n : ℕ} (b : Bool) → truthy v ≡ b → At S N start l h (On (Give v) (Then Negate ∷ k) sc d n) → At S N start l h (On (Give (truth (not b))) k sc d n)
  negated {v = v} {k = k} {sc = sc} {d = d} {n = n} b e a = on _ a (ap (λ t. Go (On (Give (truth (not t))) k sc d n)) e)

  pub chosen_first : {l : Log} {v : Val} {p q : List Node} {k : List Cont} {sc : Scope} {d n : ℕ} → truthy v ≡ true → At S N start l h (On (Give v) (Then (Choose p q) ∷ k) sc d n) → At S N start l h (On (Following Nil p) k sc d n)
  chosen_first {v = v} {p = p} {q = q} {k = k} {sc = sc} {d = d} {n = n} e a = on _ a (ap (λ t. Go (On (Following Nil (cond t p q)) k sc d n)) e)

  pub chosen_second : {l : Log} {v : Val} {p q : List Node} {k : List Cont} {sc : Scope} {d n : ℕ} → truthy v ≡ false → At S N start l h (On (Give v) (Then (Choose p q) ∷ k) sc d n) → At S N start l h (On (Following Nil q) k sc d n)
  chosen_second {v = v} {p = p} {q = q} {k = k} {sc = sc} {d = d} {n = n} e a = on _ a (ap (λ t. Go (On (Following Nil (cond t p q)) k sc d n)) e)

module _ {S : Script} {N : ℕ} {start : State} {h : Private} where
  given_to : {l : Log} {v : Val} {k : List Cont} {sc : Scope} {d n : ℕ} (name : NameId) (step : Step) → Assigns name step
      → At S N start l h (On (Give v) (Then step ∷ k) sc d n) → At S N start l h (On (Give v) k (with_locals sc (assign name v sc.locals)) d n)
  given_to name step plainly a = on _ a refl
  given_to name step (updating at) a = on _ a refl

  -- a value that is assigned is written into the slot of its name
  pub assigned : {l : Log} {k : List Cont} {d n : ℕ} (name : NameId) (step : Step) (names : List NameId) (slot : ℕ) (old new : List Held) (v me : Val) (o : Outcome) → Assigns name step → length names ≤ length old → has_slot name names slot ≡ true
      → Writes slot v old new o → At S N start l h (On (Give v) (Then step ∷ k) (scope_of me names old) d n) → Came S N start l h o k (scope_of me names new) d n
  assigned {k = k} {d = d} {n = n} name step names slot old new v me o is p s (wrote w e f) a =
      let q : bound names (map plain new) ≡ assign name v (bound names (map plain old)) = ap (λ r. bound names (map plain r)) f ∙ (write_room name names old slot w p s ∙ ap (λ u. assign name u (bound names (map plain old))) e) in
      same (given_to name step is a) (ap (λ ls. On (Give v) k (record { me = me; locals = ls }) d n) (sym q))
  assigned {k = k} {d = d} {n = n} name step names slot old new v me o is p s (wanted f) a = (On (Give v) (Then step ∷ k) (scope_of me names old) d n, a, refl)

-- other slots stay
pub kept_write : (slot i : ℕ) (v : Val) (old new : List Held) (o : Outcome) → (i ≡ slot → ⊥) → Writes slot v old new o → slice_get new i ≡ slice_get old i
kept_write slot i v old new o h (wrote w e f) = ap (λ r. slice_get r i) f ∙ get_set old slot i w h
kept_write slot i v old new o h (wanted f) = ap (λ r. slice_get r i) f
