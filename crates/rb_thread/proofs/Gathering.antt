-- The end of one thread is taken over.
use Rattle.std.proofs.Common.{◌≡◌, ℕ, suc, zero, List, [], ◌∷◌, set, Some, None, inl, inr, refl, sym, ap, subst, ◌∙◌, slice_get}
use Rattle.atomic_table.specs.Seated.{TableId}
use Rattle.rb_model.specs.declared.value.Ref.{Ref}
use Rattle.rb_model.specs.declared.act.Reply.TheVariants as answered
use Rattle.rb_model.specs.declared.call.End.{End as HeldEnd}
use Rattle.rb_model.specs.Acts.{Join}
use Rattle.rb_model.specs.Ends.{over}
use Rattle.rb_model.specs.Immediates.{reference}
use Rattle.rb_model.specs.Private.{Private}
use Rattle.rb_shared.specs.declared.answer.Answer.{Answer}
use Rattle.rb_shared.specs.declared.answer.Answer.TheVariants as answer
use Rattle.rb_shared.specs.Lists.{Has}
use Rattle.rb_shared.specs.View.{View}
use Rattle.rb_machine.specs.Scopes.{Script}
use Rattle.rb_thread.specs.declared.job.Job.{Job as HeldJob}
use Rattle.rb_thread.specs.Family.{Job}
use Rattle.rb_thread.specs.Kins.{Kin, names, childless, done, one}
use Rattle.rb_thread.specs.Seats as seats
use Rattle.rb_thread.specs.Handing.{refs_told}
use Rattle.rb_thread.specs.Alive.{Alive}
use Rattle.rb_thread.proofs.Lines.{got, some_same}
use Rattle.rb_model.specs.declared.call.Call.TheVariants as held
use Rattle.rb_thread.proofs.Keeping.{alive_quiet, alive_taken}
use Rattle.rb_shared.specs.Asking.{MayAsk}
use Rattle.rb_shared.specs.Replies.{Serves}
use Rattle.rb_machine.specs.Follows.{gather_entry}
use Rattle.rb_model.specs.Log.{logged}
use Rattle.rb_thread.specs.Asking.{ended_in}
use Rattle.rb_thread.specs.Kins.{ChangesAt}
use Rattle.rb_thread.proofs.Lines.{settled_one, get_set}
use Rattle.rb_thread.proofs.Entries.{may_gather}
use Rattle.rb_thread.proofs.Sounding.{was_told}
use Rattle.rb_thread.proofs.Noting.{notes_none}
use Rattle.rb_thread.proofs.Tails.{left_out, told_as}

has_name : {Q : Type 0} (ks : List (Kin Q)) (x : Kin Q) → Has ks x → Has (names ks) (x.number, reference x.thing)
has_name (y ∷ ks) x (inl e) = inl (ap (λ (o : Kin _). (o.number, reference o.thing)) e)
has_name (y ∷ ks) x (inr h) = inr (has_name ks x h)
has_name [] x h = absurd h

set_set : {A : Type 0} (xs : List A) (k : ℕ) (y z : A) → set (set xs k y) k z ≡ set xs k z
set_set [] k y z = refl
set_set (x ∷ xs) zero y z = refl
set_set (x ∷ xs) (suc k) y z = ap (λ ys. x ∷ ys) (set_set xs k y z)

-- the one at a place whose child was taken out is the same but for that
pub settled_as : {Q : Type 0} (ks now : List (Kin Q)) (k : ℕ) (x y : Kin Q) → slice_get ks k ≡ Some x → now ≡ set ks k (childless x) → slice_get now k ≡ Some y → y ≡ childless x
settled_as ks now k x y e q f = some_same y (childless x) (sym f ∙ subst (λ xs. slice_get xs k ≡ Some (childless x)) (sym q) (get_set ks k x (childless x) e))

pub changes_childless : {Q : Type 0} (ks new : List (Kin Q)) (k : ℕ) (x : Kin Q) → slice_get ks k ≡ Some x → new ≡ set ks k (childless x) → ChangesAt k ks new
changes_childless ks new k x e q = (x, childless x, e, refl, q)

pub changes_done : {Q : Type 0} (ks now new : List (Kin Q)) (k : ℕ) (x y : Kin Q) → slice_get ks k ≡ Some x → now ≡ set ks k (childless x) → slice_get now k ≡ Some y → new ≡ set now k (done y) → ChangesAt k ks new
changes_done ks now new k x y e q f r =
    let same = settled_as ks now k x y e q f in
    (x, done (childless x), e, refl, r ∙ ((λ i. set (q i) k (done (same i))) ∙ set_set ks k (childless x) (done (childless x))))

-- the log behind a Gather that was answered by an end
pub gathered_log : (v0 v w : View) (n : ℕ) (t r : Ref) (a : Answer) (how : HeldEnd) → v.log ≡ v0.log → t ≡ r → ended_in a ≡ Some how → seats.Answered v n (held.Gather t) [] a [] w → w.log ≡ logged v0.log (gather_entry n (reference r) (over how))
gathered_log v0 v w n t r a how l i e x =
    let x' = subst (λ b. seats.Answered v n (held.Gather t) [] b [] w) (told_as a how e) x in
    ap (λ (y : View). y.log) x'.0 ∙ (λ j. logged (l j) (gather_entry n (reference (i j)) (over how)))

module _ {Pass Q Z F : Type 0} {of : Pass → TableId} {view : Pass → View} {kept : Q → Pass → Type 0} {pre : F → Z → HeldJob → Pass → Type 0} {post : F → Z → HeldJob → Pass → Q → Type 0}
    {home : TableId} {S : Script} {N : ℕ} {j : Job} where
  pub may_gather_at : {here : TableId} {v : View} {own : Private} {number : ℕ} {refs : List Ref} {ks : List (Kin Q)} {f : F} {z : Z} (k : ℕ) (x : Kin Q) (t : Ref) → Alive of view kept pre post home S N j here v own number refs ks f z
      → slice_get ks k ≡ Some x → x.child ≡ None → t ≡ x.thing → MayAsk v (held.Gather t) []
  may_gather_at {v = v} {ks = ks} k x t l e c q =
      let s = l.sound in
      let known = s.known x (got ks k x e) in
      subst (λ o. MayAsk v (held.Gather o) []) (sym q) (may_gather v x.number x.thing known.0 (subst (λ o. Serves o Join) (sym known.1) tt)
      (subst (λ ns. Has ns (x.number, reference x.thing)) s.named (has_name ks x (got ks k x e)))
      (was_told v ks x.thing.id s (settled_one v.thread ks k x s.placed e c)))

  pub alive_gathered : {here here' : TableId} {v w : View} {own : Private} {number : ℕ} {refs : List Ref} {ks ls : List (Kin Q)} {f : F} {z : Z} (n k : ℕ) (t : Ref) (a : Answer) (how : HeldEnd) (x y : Kin Q)
      → Alive of view kept pre post home S N j here v own number refs ks f z → here' ≡ here → ended_in a ≡ Some how → seats.Answered v n (held.Gather t) [] a [] w → slice_get ks k ≡ Some x → t ≡ x.thing
      → slice_get ks k ≡ Some y → ls ≡ set ks k (done y) → Alive of view kept pre post home S N j here' w own number refs ls f z
  alive_gathered {v = v} {w = w} {refs = refs} {ks = ks} n k t a how x y l h e s q i q' g =
      let s' = subst (λ b. seats.Answered v n (held.Gather t) [] b [] w) (told_as a how e) s in
      let same : y ≡ x = some_same y x (sym q' ∙ q) in
      alive_taken n (held.Gather t) (answered.Ended how) t.id l h refl (refl, (λ rs. refl), refl) s' (one k y q' (ap (λ (o : Kin Q). o.thing.id) same ∙ ap (λ (o : Ref). o.id) (sym i)) g)
      (notes_none refs (refs_told (answer.Done (answered.Ended how))))

  pub alive_left : {here here' : TableId} {v w : View} {own : Private} {number : ℕ} {refs : List Ref} {ks : List (Kin Q)} {f : F} {z : Z} (n : ℕ) (t : Ref) (a : Answer)
      → Alive of view kept pre post home S N j here v own number refs ks f z → here' ≡ here → ended_in a ≡ None → seats.Answered v n (held.Gather t) [] a [] w
      → Alive of view kept pre post home S N j here' w own number refs ks f z
  alive_left {v = v} {w = w} {refs = refs} n t a l h e s = alive_quiet n (held.Gather t) a l h refl (left_out v w n t a e s).1 s (notes_none refs (refs_told a))
