-- What a private store has behind a thing more, an act on one of its things, and what moves out of it.
use Rattle.std.proofs.Common.{◌≡◌, ◌⊎◌, inl, inr, ℕ, zero, suc, ◌==◌, Bool, true, false, cond, List, [], ◌∷◌, ◌++◌, length, set, slice_get, map, Option, Some, None, refl, sym, ap, ◌∙◌, eq-eqb}
use Rattle.std.proofs.lemmas.Bool.{eqb-true}
use Rattle.rb_model.specs.declared.value.Id.{Id}
use Rattle.rb_model.specs.declared.value.Sort.{Sort}
use Rattle.rb_model.specs.Values.{Value, To, Reference}
use Rattle.rb_model.specs.Acts.{Act}
use Rattle.rb_model.specs.Things.{Thing, Object, mentioned, becomes_by}
use Rattle.rb_model.specs.Private.{Private, Item, Leaves, nothing_waits, no_thing, elsewhere, moves, bare, held, or_none, entered, acted, left}
use Rattle.rb_machine.specs.Follows.{sort_of, next_thing}
use Rattle.rb_machine.specs.Alone.{globals_alone}
use Rattle.rb_closure.specs.Closure.{Each, IfReference, IsHeld, Among, Covered, IsClosedStore, item_reference, IsOutside}
use Rattle.rb_closure.proofs.Lists.{front, behind, each_of}
use Rattle.rb_closure.proofs.Things.{sort_stays}

-- ---- things by their numbers

abbrev pub thing_at : List (Option Thing) → ℕ → Option Thing
thing_at os n = or_none (slice_get os n)

some_same : (x t : Thing) → Some x ≡ Some t → x ≡ t
some_same x t e = cc

nothing : (t : Thing) → None ≡ Some t → ⊥
nothing t e = cc

at_more : (os : List (Option Thing)) (x : Option Thing) (n : ℕ) (t : Thing) → thing_at os n ≡ Some t → thing_at (os ++ x ∷ []) n ≡ Some t
at_more [] x n t e = absurd (nothing t e)
at_more (o ∷ os) x zero t e = e
at_more (o ∷ os) x (suc n) t e = at_more os x n t e

at_end : (os : List (Option Thing)) (x : Thing) → thing_at (os ++ Some x ∷ []) (length os) ≡ Some x
at_end [] x = refl
at_end (o ∷ os) x = at_end os x

at_last : (os : List (Option Thing)) (x : Thing) (n : ℕ) (t : Thing) → thing_at (os ++ Some x ∷ []) n ≡ Some t → (thing_at os n ≡ Some t) ⊎ (x ≡ t)
at_last [] x zero t e = inr (some_same x t e)
at_last [] x (suc n) t e = absurd (nothing t e)
at_last (o ∷ os) x zero t e = inl e
at_last (o ∷ os) x (suc n) t e = at_last os x n t e

-- what stands somewhere behind a change is what is new, or stood there
at_set : (os : List (Option Thing)) (i j : ℕ) (o : Option Thing) (t : Thing) → thing_at (set os i o) j ≡ Some t → (o ≡ Some t) ⊎ (thing_at os j ≡ Some t)
at_set [] i j o t e = absurd (nothing t e)
at_set (p ∷ os) zero zero o t e = inl e
at_set (p ∷ os) zero (suc j) o t e = inr e
at_set (p ∷ os) (suc i) zero o t e = inr e
at_set (p ∷ os) (suc i) (suc j) o t e = at_set os i j o t e

-- what stood somewhere stands there still, or has become what is new
at_still : (os : List (Option Thing)) (i j : ℕ) (x y t : Thing) → thing_at os i ≡ Some x → thing_at os j ≡ Some t → (thing_at (set os i (Some y)) j ≡ Some t) ⊎ ((thing_at (set os i (Some y)) j ≡ Some y) × (x ≡ t))
at_still [] i j x y t e f = absurd (nothing t f)
at_still (o ∷ os) zero zero x y t e f = inr (refl, some_same x t (sym e ∙ f))
at_still (o ∷ os) zero (suc j) x y t e f = inl f
at_still (o ∷ os) (suc i) zero x y t e f = inl f
at_still (o ∷ os) (suc i) (suc j) x y t e f = at_still os i j x y t e f

-- or it was what has gone
at_gone : (os : List (Option Thing)) (i j : ℕ) (x t : Thing) → thing_at os i ≡ Some x → thing_at os j ≡ Some t → (thing_at (set os i None) j ≡ Some t) ⊎ ((i ≡ j) × (x ≡ t))
at_gone [] i j x t e f = absurd (nothing t f)
at_gone (o ∷ os) zero zero x t e f = inr (refl, some_same x t (sym e ∙ f))
at_gone (o ∷ os) zero (suc j) x t e f = inl f
at_gone (o ∷ os) (suc i) zero x t e f = inl f
at_gone (o ∷ os) (suc i) (suc j) x t e f = one_on (at_gone os i j x t e f)
  where
    one_on : {X : Type 0} → X ⊎ ((i ≡ j) × (x ≡ t)) → X ⊎ ((suc i ≡ suc j) × (x ≡ t))
    one_on (inl a) = inl a
    one_on (inr (a, b)) = inr (ap suc a, b)

-- ---- by the thread that is asked for

only_if : (b : Bool) (o : Option Thing) (t : Thing) → cond b o None ≡ Some t → (b ≡ true) × (o ≡ Some t)
only_if true o t e = (refl, e)
only_if false o t e = absurd (nothing t e)

then_so : (b : Bool) (o p : Option Thing) → b ≡ true → o ≡ p → cond b o None ≡ p
then_so true o p e f = f
then_so false o p e f = absurd (let wrong : false ≡ true = e in cc)

pub bare_holds_none : (t : ℕ) (id : Id) (thing : Thing) → held (bare t) id ≡ Some thing → ⊥
bare_holds_none t id thing e = none_there id.serial (only_if (id.thread == t) (thing_at (None ∷ []) id.serial) thing e).1
  where
    none_there : (n : ℕ) → thing_at (None ∷ []) n ≡ Some thing → ⊥
    none_there zero e = nothing thing e
    none_there (suc n) e = nothing thing e

-- the store of a script that has begun has the thing of the global variables alone
pub globals_only : (id : Id) (thing : Thing) → held globals_alone id ≡ Some thing → Object 4294967295 [] ≡ thing
globals_only id thing e = the_first id.serial (only_if (id.thread == 0) (thing_at (Some (Object 4294967295 []) ∷ []) id.serial) thing e).1
  where
    the_first : (n : ℕ) → thing_at (Some (Object 4294967295 []) ∷ []) n ≡ Some thing → Object 4294967295 [] ≡ thing
    the_first zero e = some_same (Object 4294967295 []) thing e
    the_first (suc n) e = absurd (nothing thing e)

-- ---- a new thing

pub still_entered : (h : Private) (x : Thing) (r : Reference) → IsHeld h r → IsHeld (entered h x) r
still_entered h x r (t, e, s) =
    let p = only_if (r.id.thread == h.thread) (thing_at h.things r.id.serial) t e in
    (t, then_so (r.id.thread == h.thread) (thing_at (h.things ++ Some x ∷ []) r.id.serial) (Some t) p.0 (at_more h.things (Some x) r.id.serial t p.1), s)

pub new_held : (h : Private) (x : Thing) → IsHeld (entered h x) (next_thing h x)
new_held h x = (x, then_so (h.thread == h.thread) (thing_at (h.things ++ Some x ∷ []) (length h.things)) (Some x) (eq-eqb h.thread h.thread refl) (at_end h.things x), refl)

pub entered_from : (h : Private) (x : Thing) (id : Id) (t : Thing) → held (entered h x) id ≡ Some t → (held h id ≡ Some t) ⊎ (x ≡ t)
entered_from h x id t e =
    let p = only_if (id.thread == h.thread) (thing_at (h.things ++ Some x ∷ []) id.serial) t e in
    back (at_last h.things x id.serial t p.1) p.0
  where
    back : (thing_at h.things id.serial ≡ Some t) ⊎ (x ≡ t) → (id.thread == h.thread) ≡ true → (held h id ≡ Some t) ⊎ (x ≡ t)
    back (inl f) b = inl (then_so (id.thread == h.thread) (thing_at h.things id.serial) (Some t) b f)
    back (inr f) b = inr f

-- ---- an act on a thing

pub still_acted : (h : Private) (id : Id) (act : Act) (x : Thing) (r : Reference) → held h id ≡ Some x → IsHeld h r → IsHeld (acted h id act x) r
still_acted h id act x r f (t, e, s) =
    let p = only_if (r.id.thread == h.thread) (thing_at h.things r.id.serial) t e in
    let q = only_if (id.thread == h.thread) (thing_at h.things id.serial) x f in
    again (at_still h.things id.serial r.id.serial x (becomes_by h.thread x act) t q.1 p.1) p.0
  where
    again : (thing_at (set h.things id.serial (Some (becomes_by h.thread x act))) r.id.serial ≡ Some t)
        ⊎ ((thing_at (set h.things id.serial (Some (becomes_by h.thread x act))) r.id.serial ≡ Some (becomes_by h.thread x act)) × (x ≡ t))
        → (r.id.thread == h.thread) ≡ true → IsHeld (acted h id act x) r
    again (inl g) b = (t, then_so (r.id.thread == h.thread) (thing_at (set h.things id.serial (Some (becomes_by h.thread x act))) r.id.serial) (Some t) b g, s)
    again (inr (g, same)) b = (
      becomes_by h.thread x act,
      then_so (r.id.thread == h.thread) (thing_at (set h.things id.serial (Some (becomes_by h.thread x act))) r.id.serial) (Some (becomes_by h.thread x act)) b g,
      sort_stays h.thread x act ∙ (ap sort_of same ∙ s),
    )

pub acted_from : (h : Private) (id : Id) (act : Act) (x : Thing) (j : Id) (t : Thing) → held (acted h id act x) j ≡ Some t → (held h j ≡ Some t) ⊎ (becomes_by h.thread x act ≡ t)
acted_from h id act x j t e =
    let p = only_if (j.thread == h.thread) (thing_at (set h.things id.serial (Some (becomes_by h.thread x act))) j.serial) t e in
    back (at_set h.things id.serial j.serial (Some (becomes_by h.thread x act)) t p.1) p.0
  where
    back : (Some (becomes_by h.thread x act) ≡ Some t) ⊎ (thing_at h.things j.serial ≡ Some t) → (j.thread == h.thread) ≡ true → (held h j ≡ Some t) ⊎ (becomes_by h.thread x act ≡ t)
    back (inl f) b = inr (some_same (becomes_by h.thread x act) t f)
    back (inr f) b = inl (then_so (j.thread == h.thread) (thing_at h.things j.serial) (Some t) b f)

-- ---- what moves

left_from : (h : Private) (id j : Id) (t : Thing) → held (left h id) j ≡ Some t → held h j ≡ Some t
left_from h id j t e =
    let p = only_if (j.thread == h.thread) (thing_at (set h.things id.serial None) j.serial) t e in
    then_so (j.thread == h.thread) (thing_at h.things j.serial) (Some t) p.0 (back (at_set h.things id.serial j.serial None t p.1))
  where
    back : (None ≡ Some t) ⊎ (thing_at h.things j.serial ≡ Some t) → thing_at h.things j.serial ≡ Some t
    back (inl f) = absurd (nothing t f)
    back (inr f) = f

-- a reference by its parts
abbrev to_thing : ℕ → ℕ → Sort → Reference
to_thing thread serial s = record { sort = s; id = record { thread = thread; serial = serial } }

of_parts : (a b m n : ℕ) (s u : Sort) → a ≡ b → m ≡ n → s ≡ u → to_thing a m s ≡ to_thing b n u
of_parts a b m n s u e f g = ap (λ x. to_thing x m s) e ∙ (ap (λ x. to_thing b x s) f ∙ ap (λ x. to_thing b n x) g)

-- what was held is held behind a thing that left, or is that thing
left_or_gone : (h : Private) (id : Id) (x : Thing) (r : Reference) → held h id ≡ Some x → IsHeld h r → IsHeld (left h id) r ⊎ (item_reference (record { id = id; thing = x }) ≡ r)
left_or_gone h id x r f (t, e, s) =
    let p = only_if (r.id.thread == h.thread) (thing_at h.things r.id.serial) t e in
    let q = only_if (id.thread == h.thread) (thing_at h.things id.serial) x f in
    which (at_gone h.things id.serial r.id.serial x t q.1 p.1) p.0 q.0
  where
    which : (thing_at (set h.things id.serial None) r.id.serial ≡ Some t) ⊎ ((id.serial ≡ r.id.serial) × (x ≡ t)) → (r.id.thread == h.thread) ≡ true → (id.thread == h.thread) ≡ true
        → IsHeld (left h id) r ⊎ (item_reference (record { id = id; thing = x }) ≡ r)
    which (inl g) b c = inl (t, then_so (r.id.thread == h.thread) (thing_at (set h.things id.serial None) r.id.serial) (Some t) b g, s)
    which (inr (g, same)) b c =
        inr (of_parts id.thread r.id.thread id.serial r.id.serial (sort_of x) r.sort (eqb-true id.thread h.thread c ∙ sym (eqb-true r.id.thread h.thread b)) g (ap sort_of same ∙ s))

-- what is left was held
pub leaves_from : {h h' : Private} {vs : List Value} {ms : List Item} (j : Id) (t : Thing) → Leaves h vs ms h' → held h' j ≡ Some t → held h j ≡ Some t
leaves_from j t (nothing_waits h) e = e
leaves_from j t (no_thing h h' v vs ms f l) e = leaves_from j t l e
leaves_from j t (elsewhere h h' r vs ms f l) e = leaves_from j t l e
leaves_from j t (moves h h' r x vs ms f l) e = left_from h r.id j t (leaves_from j t l e)

-- what was held is left, or is one of the things that moved
pub leaves_or_moves : {h h' : Private} {vs : List Value} {ms : List Item} (q : Reference) → Leaves h vs ms h' → IsHeld h q → IsHeld h' q ⊎ Among (map item_reference ms) q
leaves_or_moves q (nothing_waits h) p = inl p
leaves_or_moves q (no_thing h h' v vs ms f l) p = leaves_or_moves q l p
leaves_or_moves q (elsewhere h h' r vs ms f l) p = leaves_or_moves q l p
leaves_or_moves q (moves h h' r x vs ms f l) p = on (left_or_gone h r.id x q f p) (λ still. leaves_or_moves q l still)
  where
    on : IsHeld (left h r.id) q ⊎ (item_reference (record { id = r.id; thing = x }) ≡ q) → (IsHeld (left h r.id) q → IsHeld h' q ⊎ Among (map item_reference ms) q)
        → IsHeld h' q ⊎ ((item_reference (record { id = r.id; thing = x }) ≡ q) ⊎ Among (map item_reference ms) q)
    on (inr same) later = inr (inl same)
    on (inl still) later = added (later still)
      where
        added : IsHeld h' q ⊎ Among (map item_reference ms) q → IsHeld h' q ⊎ ((item_reference (record { id = r.id; thing = x }) ≡ q) ⊎ Among (map item_reference ms) q)
        added (inl a) = inl a
        added (inr a) = inr (inr a)

-- what leaves is held no more
pub at_none : (os : List (Option Thing)) (n : ℕ) → thing_at (set os n None) n ≡ None
at_none [] n = refl
at_none (o ∷ os) zero = refl
at_none (o ∷ os) (suc n) = at_none os n

then_none : (b : Bool) (o : Option Thing) → o ≡ None → cond b o None ≡ None
then_none true o e = e
then_none false o e = refl

-- what is not held is not held behind what leaves
pub stays_out : {h h' : Private} {vs : List Value} {ms : List Item} (j : Id) → Leaves h vs ms h' → held h j ≡ None → held h' j ≡ None
stays_out {h = h} {h' = h'} j l e = by (held h' j) refl
  where
    by : (o : Option Thing) → held h' j ≡ o → o ≡ None
    by None f = refl
    by (Some t) f = absurd (let wrong : None ≡ Some t = sym e ∙ leaves_from j t l f in cc)

-- no value that leaves names what is left
leaves_out_all : {h h' : Private} {vs : List Value} {ms : List Item} → Leaves h vs ms h' → Each (IfReference (λ r. held h' r.id ≡ None)) vs
leaves_out_all (nothing_waits h) = tt
leaves_out_all (no_thing h h' v vs ms f l) = (no_reference v f, leaves_out_all l)
  where
    no_reference : (v : Value) → ((r : Reference) → v ≡ To r → ⊥) → IfReference (λ r. held h' r.id ≡ None) v
    no_reference (To r) f = absurd (f r refl)
    no_reference v f = tt
leaves_out_all (elsewhere h h' r vs ms f l) = (stays_out r.id l f, leaves_out_all l)
leaves_out_all (moves h h' r x vs ms f l) =
    (stays_out r.id l (then_none (r.id.thread == h.thread) _ (at_none h.things r.id.serial)), front (IfReference (λ r. held h' r.id ≡ None)) vs (mentioned x) (leaves_out_all l))

-- nor does a thing that moves
moved_out : {h h' : Private} {vs : List Value} {ms : List Item} → Leaves h vs ms h' → Each (λ (x : Item). Each (IfReference (λ r. held h' r.id ≡ None)) (mentioned x.thing)) ms
moved_out (nothing_waits h) = tt
moved_out (no_thing h h' v vs ms f l) = moved_out l
moved_out (elsewhere h h' r vs ms f l) = moved_out l
moved_out (moves h h' r x vs ms f l) = (behind (IfReference (λ r. held h' r.id ≡ None)) vs (mentioned x) (leaves_out_all l), moved_out l)

-- each thing that moves was held
moved_held : {h h' : Private} {vs : List Value} {ms : List Item} → Leaves h vs ms h' → Each (λ (x : Item). held h x.id ≡ Some x.thing) ms
moved_held (nothing_waits h) = tt
moved_held (no_thing h h' v vs ms f l) = moved_held l
moved_held (elsewhere h h' r vs ms f l) = moved_held l
moved_held (moves h h' r x vs ms f l) =
    (f, each_of (λ (y : Item). held (left h r.id) y.id ≡ Some y.thing) (λ (y : Item). held h y.id ≡ Some y.thing) ms (λ y e. left_from h r.id y.id y.thing e) (moved_held l))

-- so what was known and is named outside was told, or moves
module _ (h h' : Private) (told_refs : List Reference) (vs : List Value) (ms : List Item) (l : Leaves h vs ms h') where
  outside : (v : Value) → Covered h told_refs v → IfReference (λ r. held h' r.id ≡ None) v → IfReference (IsOutside told_refs ms) v
  outside (To r) (inr t) f = inl t
  outside (To r) (inl p) f = moved (leaves_or_moves r l p)
    where
      moved : IsHeld h' r ⊎ Among (map item_reference ms) r → IsOutside told_refs ms r
      moved (inl (t, e, s)) = absurd (let wrong : None ≡ Some t = sym f ∙ e in cc)
      moved (inr m) = inr m
  outside v p f = tt

  all_outside : (ws : List Value) → Each (Covered h told_refs) ws → Each (IfReference (λ r. held h' r.id ≡ None)) ws → Each (IfReference (IsOutside told_refs ms)) ws
  all_outside [] a f = tt
  all_outside (v ∷ ws) a f = (outside v a.0 f.0, all_outside ws a.1 f.1)

  pub handed_over : Each (Covered h told_refs) vs → Each (IfReference (IsOutside told_refs ms)) vs
  handed_over a = all_outside vs a (leaves_out_all l)

  each_moved : (xs : List Item) → IsClosedStore h told_refs → Each (λ (x : Item). held h x.id ≡ Some x.thing) xs → Each (λ (x : Item). Each (IfReference (λ r. held h' r.id ≡ None)) (mentioned x.thing)) xs
      → Each (λ (x : Item). Each (IfReference (IsOutside told_refs ms)) (mentioned x.thing)) xs
  each_moved [] c a f = tt
  each_moved (x ∷ xs) c a f = (all_outside (mentioned x.thing) (c x.id x.thing a.0) f.0, each_moved xs c a.1 f.1)

  pub moved_over : IsClosedStore h told_refs → Each (λ (x : Item). Each (IfReference (IsOutside told_refs ms)) (mentioned x.thing)) ms
  moved_over c = each_moved ms c (moved_held l) (moved_out l)
