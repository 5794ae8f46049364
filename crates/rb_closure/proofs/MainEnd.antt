-- The own end of a main thread is nil, or no value: whatever else is in its state, the value of its top level is put aside at last.
use Rattle.std.proofs.Common.{◌≡◌, ◌⊎◌, inl, inr, ℕ, List, [], ◌∷◌, ◌++◌, map, refl, sym, ap, ◌∙◌, subst}
use Rattle.rb_model.specs.Values.{Value, Nil, To, Reference}
use Rattle.rb_model.specs.Acts.{Reply}
use Rattle.rb_tree.specs.declared.span.NameId.{NameId}
use Rattle.rb_model.specs.Ends.{End, told}
use Rattle.rb_model.specs.Log.{Log}
use Rattle.rb_model.specs.Private.{Private}
use Rattle.rb_model.specs.Ends as ending
use Rattle.rb_machine.specs.Scopes.{Script, Scope, fresh}
use Rattle.rb_machine.specs.Control.{State, On, Cont, Then, Give, Leave, Exit, Instead}
use Rattle.rb_machine.specs.Call.{ended}
use Rattle.rb_machine.specs.Move.{Next, Go, Stop, move, replied}
use Rattle.rb_machine.specs.Follows.{At}
use Rattle.rb_machine.specs.Follows as thread
use Rattle.rb_machine.specs.Alone.{opening}
use Rattle.rb_closure.specs.Mentions.{values_in_cont, values_in_reply}
use Rattle.rb_closure.specs.Closure.{IfReference}
use Rattle.rb_closure.proofs.Lists.{all_of}
use Rattle.rb_closure.proofs.Parts.{Code, Rules, code_in_nodes, code_in_cont, FitsMethod, FitsClass, GoodState, GoodCont}
use Rattle.rb_closure.proofs.Moves.{GoodNext, move_good, reply_good}

-- at last a value is given in the place of that of the top level
abbrev bottom : List Cont
bottom = Then (Instead Nil) ∷ []

abbrev Any : Reference → Type 0
Any r = Unit {0}

abbrev AnyCode : Code → Type 0
AnyCode c = Unit {0}

any_value : (v : Value) → IfReference Any v
any_value (To r) = tt
any_value v = tt

-- all that is said is that this waits at last, and that an end has no value
abbrev over_bottom : (S : Script) → Rules S
over_bottom S = record {
  Refers = Any;
  Has = AnyCode;
  Waits = λ k. (inner : List Cont) × (k ≡ inner ++ bottom);
  Ends = λ how. told how ≡ [];
  parts = λ n u. all_of AnyCode _ (λ c. tt);
  global = λ u. tt;
  functions = all_of (FitsMethod AnyCode) S.program.functions (λ m. all_of AnyCode _ (λ c. tt));
  classes = all_of (FitsClass AnyCode) S.program.classes (λ k. all_of (FitsMethod AnyCode) k.methods (λ m. all_of AnyCode _ (λ c. tt)));
  waits = λ c k fits w. (c ∷ w.0, ap (λ l. c ∷ l) w.1);
  early = λ how e. e;
}

module _ (S : Script) where
  -- a state of a main thread: one where that waits at last, or one behind it
  data OfMain : State → Type 0 where
    within : (s : State) → GoodState S (over_bottom S) s → OfMain s
    giving : (sc : Scope) (d left : ℕ) → OfMain (On (Give Nil) [] sc d left)
    leaving : (e : Exit) (sc : Scope) (d left : ℕ) → OfMain (On (Leave e) [] sc d left)
    over : (left : ℕ) → OfMain (ended (ending.Value Nil) left)

  -- what waits first is that, or it waits further on
  no_bottom : (inner : List Cont) → [] ≡ inner ++ bottom → ⊥
  no_bottom [] e = cc
  no_bottom (c ∷ inner) e = cc

  cont_good : (c : Cont) → GoodCont S (over_bottom S) c
  cont_good c = (all_of (IfReference Any) (values_in_cont c) any_value, all_of AnyCode (code_in_cont c) (λ c. tt))

  abbrev Left : Cont → List Cont → Type 0
  Left c k = ((c ≡ Then (Instead Nil)) × (k ≡ [])) ⊎ ((inner : List Cont) × (k ≡ inner ++ bottom))

  what_waits : (c : Cont) (k inner : List Cont) → (c ∷ k) ≡ inner ++ bottom → Left c k
  what_waits c k [] e = inl (cc, cc)
  what_waits c k (b ∷ inner) e = inr (inner, cc)

  -- where a state goes
  abbrev GoesOn : Next → Type 0
  GoesOn (Go s) = OfMain s
  GoesOn (Stop how) = (told how ≡ []) ⊎ (how ≡ ending.Value Nil)
  GoesOn next = Unit {0}

  good_goes : (next : Next) → GoodNext S (over_bottom S) next → GoesOn next
  good_goes (Go s) g = within s g
  good_goes (Stop how) g = inl g
  good_goes next g = tt

  given : (v : Value) (c : Cont) (k : List Cont) (sc : Scope) (d left : ℕ) → GoodState S (over_bottom S) (On (Give v) (c ∷ k) sc d left) → Left c k → GoesOn (move S (On (Give v) (c ∷ k) sc d left))
  given v c k sc d left h (inl (e, f)) = subst (λ (p : Cont × List Cont). GoesOn (move S (On (Give v) (p.0 ∷ p.1) sc d left))) (sym (ap (λ x. (x, k)) e ∙ ap (λ x. (Then (Instead Nil), x)) f)) (giving sc d left)
  given v c k sc d left h (inr w) = good_goes (move S (On (Give v) (c ∷ k) sc d left)) (move_good S (over_bottom S) (On (Give v) (c ∷ k) sc d left) (cont_good c, w) h)

  left_at : (x : Exit) (c : Cont) (k : List Cont) (sc : Scope) (d left : ℕ) → GoodState S (over_bottom S) (On (Leave x) (c ∷ k) sc d left) → Left c k → GoesOn (move S (On (Leave x) (c ∷ k) sc d left))
  left_at x c k sc d left h (inl (e, f)) = subst (λ (p : Cont × List Cont). GoesOn (move S (On (Leave x) (p.0 ∷ p.1) sc d left))) (sym (ap (λ x. (x, k)) e ∙ ap (λ x. (Then (Instead Nil), x)) f)) (leaving x sc d left)
  left_at x c k sc d left h (inr w) = good_goes (move S (On (Leave x) (c ∷ k) sc d left)) (move_good S (over_bottom S) (On (Leave x) (c ∷ k) sc d left) (cont_good c, w) h)

  good_moves : (s : State) → GoodState S (over_bottom S) s → GoesOn (move S s)
  good_moves (On (Give v) [] sc d left) h = absurd (no_bottom h.1.0.0 h.1.0.1)
  good_moves (On (Give v) (c ∷ k) sc d left) h = given v c k sc d left h (what_waits c k h.1.0.0 h.1.0.1)
  good_moves (On (Leave x) [] sc d left) h = absurd (no_bottom h.1.0.0 h.1.0.1)
  good_moves (On (Leave x) (c ∷ k) sc d left) h = left_at x c k sc d left h (what_waits c k h.1.0.0 h.1.0.1)
  good_moves s h = good_goes (move S s) (move_good S (over_bottom S) s tt h)

  moves : {s : State} → OfMain s → GoesOn (move S s)
  moves (within s h) = good_moves s h
  moves (giving sc d left) = over left
  moves (leaving e sc d left) = over left
  moves (over left) = inr refl

  replies : {s : State} (r : Reply) → OfMain s → OfMain (replied s r)
  replies r (within s h) = within (replied s r) (reply_good S (over_bottom S) s r h (all_of (IfReference Any) (values_in_reply r) any_value))
  replies r (giving sc d left) = giving sc d left
  replies r (leaving e sc d left) = leaving e sc d left
  replies r (over left) = over left

  module _ (N : ℕ) where
    begins : OfMain (opening S N)
    begins = within (opening S N) (
      ((tt, tt), all_of AnyCode (code_in_nodes S.program.main) (λ c. tt)),
      (([], refl), (tt, all_of (IfReference Any) (map (λ (b : NameId × Value). b.1) (fresh S.main_names [])) any_value)),
    )

    of_main : {l : Log} {h : Private} {s : State} → At S N (opening S N) l h s → OfMain s
    of_main (thread.here t) = begins
    of_main (thread.goes l h s s' a e) = subst GoesOn e (moves (of_main a))
    of_main (thread.makes l h s thing a e) = replies _ (of_main a)
    of_main (thread.acts l h s r act thing a e f) = replies _ (of_main a)
    of_main (thread.asks l h h' s r act moved answer a e f g) = replies answer (of_main a)
    of_main (thread.starts l h h' s body values moved answer a e g) = replies answer (of_main a)
    of_main (thread.prints l h s bytes a e) = replies _ (of_main a)

    pub main_ends : {l : Log} {h : Private} {s : State} {how : End} → At S N (opening S N) l h s → move S s ≡ Stop how → (told how ≡ []) ⊎ (how ≡ ending.Value Nil)
    main_ends {how = how} a e = subst GoesOn e (moves (of_main a))
