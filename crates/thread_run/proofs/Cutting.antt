-- A thread that has done nothing, and the causes of a thread's own end.
use Rattle.std.proofs.Common.{◌≡◌, ℕ, [], ◌∷◌, inl, inr, refl, sym, subst, ◌∙◌}
use Rattle.rb_model.specs.Ends.{End, Value, Raised, Steps, Full, Sink, Memory}
use Rattle.rb_model.specs.Private.{Private, bare}
use Rattle.rb_model.specs.Log.{Log, fresh}
use Rattle.rb_shared.specs.Lists.{Has}
use Rattle.rb_shared.proofs.Runs.{has_behind}
use Rattle.rb_machine.specs.Scopes.{Script}
use Rattle.rb_machine.specs.Control.{State}
use Rattle.rb_walk.specs.Ending.{GoesOut, IsCaused}
use Rattle.rb_walk.proofs.Endings.{memory_caused}
use Rattle.rb_thread.specs.Family.{HasCause}
use Rattle.rb_thread.proofs.Begun.{cut_at_once}
use Rattle.rb_thread.proofs.Lines.{some_same}

pub cut_before : (S : Script) (N : ℕ) (start : State) (t : ℕ) (l : Log) (h : Private) → l ≡ fresh → h ≡ bare t → GoesOut S N start l h Memory 0
cut_before S N start t l h e f =
    subst (λ o. GoesOut S N start o h Memory 0) (sym e)
    (subst (λ o. GoesOut S N start fresh o Memory 0) (sym f) (record { comes = cut_at_once S N start t; caused = memory_caused fresh }))

-- what the walk says of the cause of an end
pub caused : (l : Log) (how : End) → IsCaused l how → HasCause l how
caused l (Value v) c words e = absurd (cc)
caused l (Raised fault at) c words e = absurd (cc)
caused l Steps c words e = absurd (cc)
caused l Memory c words e = absurd (cc)
caused l Sink c words e = elim (c.refused refl) [
  | inl r ↦ inl (r.1, subst (λ rs. Has rs r.1) (sym r.2) (has_behind r.0 (r.1 ∷ []) r.1 (inl refl)), r.3 ∙ some_same _ words e)
  | inr t ↦ inr (t.1, subst (λ es. Has es t.1) (sym t.2) (has_behind t.0 (t.1 ∷ []) t.1 (inl refl)), t.4)
]
caused l (Full used wanted) c words e = elim (c.filled used wanted refl) [
  | inl r ↦ inl (r.1, subst (λ rs. Has rs r.1) (sym r.2) (has_behind r.0 (r.1 ∷ []) r.1 (inl refl)), r.3 ∙ some_same _ words e)
  | inr t ↦ inr (t.1, subst (λ es. Has es t.1) (sym t.2) (has_behind t.0 (t.1 ∷ []) t.1 (inl refl)), t.4)
]
