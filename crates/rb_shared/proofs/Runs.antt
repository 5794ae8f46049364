-- Runs, event by event, and what is found in stores.
use Rattle.std.proofs.Common.{◌≡◌, inl, inr, ℕ, ◌==◌, Bool, true, false, List, [], ◌∷◌, ◌++◌, Option, Some, refl, sym, ap, ◌∙◌, subst, cond}
use Rattle.std.proofs.lemmas.Bool.{and_parts, and_from, eqb-true, eq-eqb}
use Rattle.std.proofs.lemmas.List.{append-nil}
use mathlib.Core.List.{append_assoc}
use Rattle.rb_model.specs.declared.value.Id.{Id}
use Rattle.rb_model.specs.Values.{same_id}
use Rattle.rb_model.specs.Things.{Thing}
use Rattle.rb_model.specs.Private.{Item}
use Rattle.rb_shared.specs.Lists.{Has, Each}
use Rattle.rb_shared.specs.Store.{Store, found}
use Rattle.rb_shared.specs.Step.{Steps}
use Rattle.rb_shared.specs.History.{Event, Leads}

-- ---- lists

pub has_front : {X : Type 0} (xs ys : List X) (x : X) → Has xs x → Has (xs ++ ys) x
has_front [] ys x h = absurd h
has_front (w ∷ xs) ys x (inl e) = inl e
has_front (w ∷ xs) ys x (inr h) = inr (has_front xs ys x h)

pub has_behind : {X : Type 0} (xs ys : List X) (x : X) → Has ys x → Has (xs ++ ys) x
has_behind [] ys x h = h
has_behind (w ∷ xs) ys x h = inr (has_behind xs ys x h)

pub each_has : {X : Type 0} (P : X → Type 0) (xs : List X) (x : X) → Each P xs → Has xs x → P x
each_has P [] x e h = absurd h
each_has P (y ∷ xs) x (p, ps) (inl e) = subst P (sym e) p
each_has P (y ∷ xs) x (p, ps) (inr h) = each_has P xs x ps h

pub each_append : {X : Type 0} (P : X → Type 0) (xs ys : List X) → Each P xs → Each P ys → Each P (xs ++ ys)
each_append P [] ys p q = q
each_append P (x ∷ xs) ys (p, ps) q = (p, each_append P xs ys ps q)

pub each_front : {X : Type 0} (P : X → Type 0) (xs ys : List X) → Each P (xs ++ ys) → Each P xs
each_front P [] ys p = tt
each_front P (x ∷ xs) ys (p, ps) = (p, each_front P xs ys ps)

pub each_behind : {X : Type 0} (P : X → Type 0) (xs ys : List X) → Each P (xs ++ ys) → Each P ys
each_behind P [] ys p = p
each_behind P (x ∷ xs) ys (p, ps) = each_behind P xs ys ps

pub each_more : {X : Type 0} (P Q : X → Type 0) → ((x : X) → P x → Q x) → (xs : List X) → Each P xs → Each Q xs
each_more P Q f [] p = tt
each_more P Q f (x ∷ xs) (p, ps) = (f x p, each_more P Q f xs ps)

-- ---- ids

pub same_is : (a b : Id) → same_id a b ≡ true → a ≡ b
same_is a b e =
    let p = and_parts (a.thread == b.thread) (a.serial == b.serial) e in
    let t = eqb-true a.thread b.thread p.0 in
    let n = eqb-true a.serial b.serial p.1 in
    let first : ℕ → Id = λ x. record { thread = x; serial = a.serial } in
    let second : ℕ → Id = λ y. record { thread = b.thread; serial = y } in
    ap first t ∙ ap second n

pub same_self : (a b : Id) → a ≡ b → same_id a b ≡ true
same_self a b e =
    and_from (a.thread == b.thread) (a.serial == b.serial) (eq-eqb a.thread b.thread (ap (λ (i : Id). i.thread) e)) (eq-eqb a.serial b.serial (ap (λ (i : Id). i.serial) e))

-- ---- stores

-- the thing that is found stands in the store, under its id
abbrev Stands : Store → Id → Thing → Type 0
Stands z id thing = (x : Item) × Has z x × (x.id ≡ id) × (x.thing ≡ thing)

found_first : (b : Bool) (x : Item) (xs : Store) (id : Id) (thing : Thing) → same_id x.id id ≡ b → (found xs id ≡ Some thing → Stands xs id thing)
    → cond b (Some x.thing) (found xs id) ≡ Some thing → Stands (x ∷ xs) id thing
found_first true x xs id thing s more f = let is : x.thing ≡ thing = cc in (x, inl refl, same_is x.id id s, is)
found_first false x xs id thing s more f = let r = more f in (r.0, inr r.1, r.2, r.3)

pub found_has : (z : Store) (id : Id) (thing : Thing) → found z id ≡ Some thing → (x : Item) × Has z x × (x.id ≡ id) × (x.thing ≡ thing)
found_has [] id thing e = absurd (cc)
found_has (x ∷ xs) id thing e = found_first (same_id x.id id) x xs id thing refl (found_has xs id thing) e

found_either : (b : Bool) (first : Option Thing) (rest rest' : Option Thing) (thing : Thing) → (rest ≡ Some thing → rest' ≡ Some thing) → cond b first rest ≡ Some thing → cond b first rest' ≡ Some thing
found_either true first rest rest' thing more f = f
found_either false first rest rest' thing more f = more f

-- what is there is found with more behind it as well
pub found_more : (z more : Store) (id : Id) (thing : Thing) → found z id ≡ Some thing → found (z ++ more) id ≡ Some thing
found_more [] more id thing e = absurd (cc)
found_more (x ∷ xs) more id thing e = found_either (same_id x.id id) (Some x.thing) (found xs id) (found (xs ++ more) id) thing (found_more xs more id thing) e

-- ---- runs

module _ (slots : ℕ) where
  pub leads_split : (xs ys : List Event) (z z' : Store) → Leads slots z (xs ++ ys) z' → (y : Store) × Leads slots z xs y × Leads slots y ys z'
  leads_split [] ys z z' l = (z, refl, l)
  leads_split (e ∷ xs) ys z z' (y, s, l) = let r = leads_split xs ys y z' l in (r.0, (y, s, r.1), r.2)

  -- what each step keeps, a run keeps
  pub run_keeps : (P : List Event → Store → Type 0) (Q : Event → Type 0)
      → ((done : List Event) (z z' : Store) (e : Event) → P done z → Q e → Steps slots z e.thread e.entry z' → P (done ++ e ∷ []) z')
      → (es done : List Event) (z z' : Store) → P done z → Each Q es → Leads slots z es z' → P (done ++ es) z'
  run_keeps P Q step [] done z z' p q l = subst (λ d. P d z') (sym (append-nil done)) (subst (λ x. P done x) (sym l) p)
  run_keeps P Q step (e ∷ es) done z z' p (q, qs) (y, s, l) =
      subst (λ d. P d z') (append_assoc done (e ∷ []) es) (run_keeps P Q step es (done ++ e ∷ []) y z' (step done z y e p q s) qs l)
