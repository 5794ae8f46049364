-- What leaves a private store.
use Rattle.std.proofs.Common.{◌≡◌, ◌<◌, ◌≤◌, ◌+◌, ◌==◌, ℕ, zero, suc, Bool, true, false, cond, List, [], ◌∷◌, ◌++◌, set, length, Option, Some, None, inl, inr, refl, sym, ap, ◌∙◌, subst, arith, append_assoc, append-nil, length-append}
use Rattle.std.specs.Prelude.{slice_get, is_some}
use Rattle.std.specs.List.{list_any}
use Rattle.std.proofs.lemmas.Bool.Decides.{eqb_tells}
use Rattle.rb_model.specs.declared.value.Id.{Id}
use Rattle.rb_model.specs.Values.{Value as Val, Nil, False, True, Int, Sym, Str, To, Reference}
use Rattle.rb_model.specs.Things.{Thing, mentioned}
use Rattle.rb_model.specs.Private.{Private, Item, Leaves, nothing_waits, no_thing, elsewhere, moves, or_none, held, left}
use Rattle.publish_barrier.specs.Leaving.{ArePrivate, Looked, Rest, serials, things_in, without}

-- what is left is the store without what moved
pub leaves_without : {h h' : Private} {vs : List Val} {ms : List Item} → Leaves h vs ms h' → h' ≡ without h ms
leaves_without (nothing_waits h) = refl
leaves_without (no_thing h h' v vs ms apart l) = leaves_without l
leaves_without (elsewhere h h' r vs ms e l) = leaves_without l
leaves_without (moves h h' r thing vs ms e l) = leaves_without l

-- what moves was private
pub leaves_private : {h h' : Private} {vs : List Val} {ms : List Item} → Leaves h vs ms h' → ArePrivate h ms
leaves_private (nothing_waits h) = tt
leaves_private (no_thing h h' v vs ms apart l) = leaves_private l
leaves_private (elsewhere h h' r vs ms e l) = leaves_private l
leaves_private (moves h h' r thing vs ms e l) = (e, leaves_private l)

-- one more
pub without-append : (h : Private) (ms : List Item) (m : Item) → without h (ms ++ m ∷ []) ≡ left (without h ms) m.id
without-append h [] m = refl
without-append h (n ∷ ms) m = without-append (left h n.id) ms m

pub private_append : (h : Private) (ms : List Item) (m : Item) → ArePrivate h ms → held (without h ms) m.id ≡ Some m.thing → ArePrivate h (ms ++ m ∷ [])
private_append h [] m are is = (is, tt)
private_append h (n ∷ ms) m are is = (are.0, private_append (left h n.id) ms m are.1 is)

-- the thing at a number
abbrev pub thing_at : List (Option Thing) → ℕ → Option Thing
thing_at os i = or_none (slice_get os i)

kept_at : (os : List (Option Thing)) (i j : ℕ) (thing : Thing) → thing_at (set os i None) j ≡ Some thing → thing_at os j ≡ Some thing
kept_at [] i j thing e = e
kept_at (o ∷ os) zero zero thing e = absurd (cc)
kept_at (o ∷ os) zero (suc j) thing e = e
kept_at (o ∷ os) (suc i) zero thing e = e
kept_at (o ∷ os) (suc i) (suc j) thing e = kept_at os i j thing e

-- a thing that did not leave is as it was
pub still_held : (h : Private) (ms : List Item) (id : Id) (thing : Thing) → held (without h ms) id ≡ Some thing → held h id ≡ Some thing
still_held h [] id thing e = e
still_held h (m ∷ ms) id thing e = step (id.thread == h.thread) (still_held (left h m.id) ms id thing e)
  where
    step : (b : Bool) → cond b (thing_at (set h.things m.id.serial None) id.serial) None ≡ Some thing → cond b (thing_at h.things id.serial) None ≡ Some thing
    step true e = kept_at h.things m.id.serial id.serial thing e
    step false e = e

gone_at : (os : List (Option Thing)) (i j : ℕ) → thing_at os j ≡ None → thing_at (set os i None) j ≡ None
gone_at [] i j e = e
gone_at (o ∷ os) zero zero e = refl
gone_at (o ∷ os) zero (suc j) e = e
gone_at (o ∷ os) (suc i) zero e = e
gone_at (o ∷ os) (suc i) (suc j) e = gone_at os i j e

-- what is not private does not become so
pub still_none : (h : Private) (ms : List Item) (id : Id) → held h id ≡ None → held (without h ms) id ≡ None
still_none h [] id e = e
still_none h (m ∷ ms) id e = still_none (left h m.id) ms id (step (id.thread == h.thread) e)
  where
    step : (b : Bool) → cond b (thing_at h.things id.serial) None ≡ None → cond b (thing_at (set h.things m.id.serial None) id.serial) None ≡ None
    step true e = gone_at h.things m.id.serial id.serial e
    step false e = refl

-- ---- who has left, by serial number

set_there : (os : List (Option Thing)) (i : ℕ) → thing_at (set os i None) i ≡ None
set_there [] i = refl
set_there (o ∷ os) zero = refl
set_there (o ∷ os) (suc i) = set_there os i

set_elsewhere : (os : List (Option Thing)) (i j : ℕ) → (j ≡ i → ⊥) → thing_at (set os i None) j ≡ thing_at os j
set_elsewhere [] i j apart = refl
set_elsewhere (o ∷ os) zero zero apart = absurd (apart refl)
set_elsewhere (o ∷ os) zero (suc j) apart = refl
set_elsewhere (o ∷ os) (suc i) zero apart = refl
set_elsewhere (o ∷ os) (suc i) (suc j) apart = set_elsewhere os i j (λ e. apart (ap suc e))

pub left_gone : (h : Private) (id other : Id) → id.serial ≡ other.serial → held (left h other) id ≡ None
left_gone h id other same = by (id.thread == h.thread)
  where
    by : (b : Bool) → cond b (thing_at (set h.things other.serial None) id.serial) None ≡ None
    by true = ap (thing_at (set h.things other.serial None)) same ∙ set_there h.things other.serial
    by false = refl

pub left_here : (h : Private) (id other : Id) → (id.serial ≡ other.serial → ⊥) → held (left h other) id ≡ held h id
left_here h id other apart = by (id.thread == h.thread)
  where
    by : (b : Bool) → cond b (thing_at (set h.things other.serial None) id.serial) None ≡ cond b (thing_at h.things id.serial) None
    by true = set_elsewhere h.things other.serial id.serial apart
    by false = refl

pub has_left : (h : Private) (ms : List Item) (id : Id) → list_any (λ s. id.serial == s) (serials ms) ≡ true → held (without h ms) id ≡ None
has_left h [] id e = absurd (cc)
has_left h (m ∷ ms) id e =
    elim (eqb_tells id.serial m.id.serial) [
      | inl w ↦ still_none (left h m.id) ms id (left_gone h id m.id w.1)
      | inr w ↦ has_left (left h m.id) ms id (rw w.0 at e)
    ]

pub has_stayed : (h : Private) (ms : List Item) (id : Id) → list_any (λ s. id.serial == s) (serials ms) ≡ false → held (without h ms) id ≡ held h id
has_stayed h [] id e = refl
has_stayed h (m ∷ ms) id e =
    elim (eqb_tells id.serial m.id.serial) [
      | inl w ↦ absurd (let wrong : true ≡ false = rw w.0 at e in cc)
      | inr w ↦ has_stayed (left h m.id) ms id (rw w.0 at e) ∙ left_here h id m.id w.1
    ]

-- ---- each look makes less of what there is to look at

abbrev pub weight_of : Option Thing → ℕ
weight_of None = 0
weight_of (Some thing) = length (mentioned thing) + 1

abbrev pub weight : List (Option Thing) → ℕ
weight [] = 0
weight (o ∷ os) = weight_of o + weight os

pub weight-none : (os : List (Option Thing)) (i : ℕ) (thing : Thing) → thing_at os i ≡ Some thing → weight (set os i None) + (length (mentioned thing) + 1) ≡ weight os
weight-none [] i thing e = absurd (cc)
weight-none (o ∷ os) zero thing e = let w = ap weight_of e in omega (arith, w)
weight-none (o ∷ os) (suc i) thing e = let w = weight-none os i thing e in omega (arith, w)

few_things : (vs : List Val) → length (things_in vs) ≤ length vs
few_things [] = omega arith
few_things (Nil ∷ vs) = let w = few_things vs in omega (arith, w)
few_things (False ∷ vs) = let w = few_things vs in omega (arith, w)
few_things (True ∷ vs) = let w = few_things vs in omega (arith, w)
few_things (Int n ∷ vs) = let w = few_things vs in omega (arith, w)
few_things (Sym n ∷ vs) = let w = few_things vs in omega (arith, w)
few_things (Str n ∷ vs) = let w = few_things vs in omega (arith, w)
few_things (To r ∷ vs) = let w = few_things vs in omega (arith, w)

pub in_store : (os : List (Option Thing)) (i : ℕ) (thing : Thing) (b : Bool) → cond b (thing_at os i) None ≡ Some thing → thing_at os i ≡ Some thing
in_store os i thing true e = e
in_store os i thing false e = absurd (cc)

pub lighter : (h : Private) (ms ms' : List Item) (id : Id) (vs vs' : List Val) → Looked (held (without h ms) id) id ms ms' vs vs'
    → weight (without h ms').things + length vs' < weight (without h ms).things + (length vs + 1)
lighter h ms ms' id vs vs' t = by (held (without h ms) id) refl t
  where
    by : (o : Option Thing) → held (without h ms) id ≡ o → Looked o id ms ms' vs vs' → weight (without h ms').things + length vs' < weight (without h ms).things + (length vs + 1)
    by None e (a, b) = rw (a, b) (omega arith)
    by (Some thing) e (a, b) =
        let m : Item = record { id = id; thing = thing } in
        let w = weight-none (without h ms).things id.serial thing (in_store (without h ms).things id.serial thing (id.thread == (without h ms).thread) e) in
        let l = length-append vs (things_in (mentioned thing)) in
        let f = few_things (mentioned thing) in
        rw (a, b, without-append h ms m) (omega (arith, w, l, f))

-- ---- values among which others stand that are no things

abbrev IsNoThing : Val → Type 0
IsNoThing v = (r : Reference) → v ≡ To r → ⊥

abbrev AreNoThings : List Val → Type 0
AreNoThings [] = Unit {0}
AreNoThings (v ∷ vs) = IsNoThing v × AreNoThings vs

-- ws are vs without some that are no things
abbrev IsThin : List Val → List Val → Type 0
IsThin [] vs = AreNoThings vs
IsThin (w ∷ ws) vs = (front : List Val) × (rest : List Val) × AreNoThings front × (vs ≡ front ++ w ∷ rest) × IsThin ws rest

none_wait : (h : Private) (vs : List Val) → AreNoThings vs → Leaves h vs [] h
none_wait h [] apart = nothing_waits h
none_wait h (v ∷ vs) apart = no_thing h h v vs [] apart.0 (none_wait h vs apart.1)

skips : (h h' : Private) (front vs : List Val) (ms : List Item) → AreNoThings front → Leaves h vs ms h' → Leaves h (front ++ vs) ms h'
skips h h' [] vs ms apart l = l
skips h h' (v ∷ front) vs ms apart l = no_thing h h' v (front ++ vs) ms apart.0 (skips h h' front vs ms apart.1 l)

join_none : (us vs : List Val) → AreNoThings us → AreNoThings vs → AreNoThings (us ++ vs)
join_none [] vs a b = b
join_none (u ∷ us) vs a b = (a.0, join_none us vs a.1 b)

-- what is put before the rest is put before the first that stays
more_front : (front ws vs : List Val) → AreNoThings front → IsThin ws vs → IsThin ws (front ++ vs)
more_front front [] vs apart thin = join_none front vs apart thin
more_front front (w ∷ ws) vs apart thin =
    (front ++ thin.0, thin.1, join_none front thin.0 apart thin.2, ap (λ us. front ++ us) thin.3 ∙ sym (append_assoc front thin.0 (w ∷ thin.1)), thin.4)

thin_append : (ws vs us xs : List Val) → IsThin ws vs → IsThin us xs → IsThin (ws ++ us) (vs ++ xs)
thin_append [] vs us xs a b = more_front vs us xs a b
thin_append (w ∷ ws) vs us xs a b =
    (a.0, a.1 ++ xs, a.2, ap (λ ys. ys ++ xs) a.3 ∙ append_assoc a.0 (w ∷ a.1) xs, thin_append ws a.1 us xs a.4 b)

thin_same : (ws : List Val) → IsThin ws ws
thin_same [] = tt
thin_same (w ∷ ws) = ([], ws, tt, refl, thin_same ws)

thin_things : (vs : List Val) → IsThin (things_in vs) vs
thin_things [] = tt
thin_things (Nil ∷ vs) = more_front (Nil ∷ []) (things_in vs) vs (λ r e. absurd (cc), tt) (thin_things vs)
thin_things (False ∷ vs) = more_front (False ∷ []) (things_in vs) vs (λ r e. absurd (cc), tt) (thin_things vs)
thin_things (True ∷ vs) = more_front (True ∷ []) (things_in vs) vs (λ r e. absurd (cc), tt) (thin_things vs)
thin_things (Int n ∷ vs) = more_front (Int n ∷ []) (things_in vs) vs (λ r e. absurd (cc), tt) (thin_things vs)
thin_things (Sym n ∷ vs) = more_front (Sym n ∷ []) (things_in vs) vs (λ r e. absurd (cc), tt) (thin_things vs)
thin_things (Str n ∷ vs) = more_front (Str n ∷ []) (things_in vs) vs (λ r e. absurd (cc), tt) (thin_things vs)
thin_things (To r ∷ vs) = ([], vs, tt, refl, thin_things vs)

-- what leaves with the things among values leaves with the values
pub fatten : {h h' : Private} {ws : List Val} {ms : List Item} → Leaves h ws ms h' → (vs : List Val) → IsThin ws vs → Leaves h vs ms h'
fatten (nothing_waits h) vs thin = none_wait h vs thin
fatten (no_thing h h' w ws ms apart l) vs thin =
    subst (λ us. Leaves h us ms h') (sym thin.3) (skips h h' thin.0 (w ∷ thin.1) ms thin.2 (no_thing h h' w thin.1 ms apart (fatten l thin.1 thin.4)))
fatten (elsewhere h h' r ws ms e l) vs thin =
    subst (λ us. Leaves h us ms h') (sym thin.3) (skips h h' thin.0 (To r ∷ thin.1) ms thin.2 (elsewhere h h' r thin.1 ms e (fatten l thin.1 thin.4)))
fatten (moves h h' r thing ws ms e l) vs thin =
    subst (λ us. Leaves h us (record { id = r.id; thing = thing } ∷ ms) h') (sym thin.3)
    (skips h h' thin.0 (To r ∷ thin.1) (record { id = r.id; thing = thing } ∷ ms) thin.2
    (moves h h' r thing thin.1 ms e (fatten l (thin.1 ++ mentioned thing) (thin_append ws thin.1 (mentioned thing) (mentioned thing) thin.4 (thin_same (mentioned thing))))))

-- ---- one look

pub looked : (h : Private) (whole : List Val) (ms ms' : List Item) (r : Reference) (vs vs' : List Val) → Looked (held (without h ms) r.id) r.id ms ms' vs vs'
    → Rest h whole ms (To r ∷ vs) → Rest h whole ms' vs'
looked h whole ms ms' r vs vs' t rest more h' l = by (held (without h ms) r.id) refl t
  where
    by : (o : Option Thing) → held (without h ms) r.id ≡ o → Looked o r.id ms ms' vs vs' → Leaves h whole (ms' ++ more) h'
    by None e (a, b) = rw a (rest more h' (elsewhere _ _ r _ _ e (rw (a, b) at l)))
    by (Some thing) e (a, b) =
        let m : Item = record { id = r.id; thing = thing } in
        let one : Leaves (left (without h ms) r.id) (vs ++ things_in (mentioned thing)) more h' = rw (a, b, without-append h ms m) at l in
        let whole_one = fatten one (vs ++ mentioned thing) (thin_append vs vs (things_in (mentioned thing)) (mentioned thing) (thin_same vs) (thin_things (mentioned thing))) in
        rw (a, append_assoc) (rest (m ∷ more) h' (moves _ _ r thing _ _ e whole_one))

-- one that is not private any more is passed over
pub passes : (h : Private) (ms : List Item) (id : Id) (vs : List Val) → held (without h ms) id ≡ None → Looked (held (without h ms) id) id ms ms vs vs
passes h ms id vs gone = subst (λ o. Looked o id ms ms vs vs) (sym gone) (refl, refl)

not_some : (o : Option Thing) → is_some o ≡ false → o ≡ None
not_some None e = refl
not_some (Some thing) e = absurd (cc)

pub never_here : (h : Private) (ms : List Item) (id : Id) (b : Bool) → b ≡ is_some (held h id) → b ≡ false → held (without h ms) id ≡ None
never_here h ms id b is e = still_none h ms id (not_some (held h id) (sym is ∙ e))

pub seen_before : (h : Private) (ms : List Item) (id : Id) (keys : List ℕ) → keys ≡ serials ms → list_any (λ s. id.serial == s) keys ≡ true → held (without h ms) id ≡ None
seen_before h ms id keys same e = has_left h ms id (ap (list_any (λ s. id.serial == s)) (sym same) ∙ e)

pub not_before : (h : Private) (ms : List Item) (id : Id) (keys : List ℕ) → keys ≡ serials ms → list_any (λ s. id.serial == s) keys ≡ false → held (without h ms) id ≡ held h id
not_before h ms id keys same e = has_stayed h ms id (ap (list_any (λ s. id.serial == s)) (sym same) ∙ e)

-- what waits first
pub at_first : (h : Private) (whole : List Val) (ms : List Item) (vs : List Val) → ms ≡ [] → vs ≡ things_in whole → Rest h whole ms vs
at_first h whole ms vs empty all more h' l =
    let first : Leaves h (things_in whole) more h' = rw (empty, all) at l in
    rw empty (fatten first whole (thin_things whole))

-- the references that values hold may be gone through in place of the values
pub leaves_named : (h k : Private) (whole vs : List Val) (ms : List Item) → whole ≡ things_in vs → Leaves h whole ms k → Leaves h vs ms k
leaves_named h k whole vs ms e l = fatten l vs (subst (λ us. IsThin us vs) (sym e) (thin_things vs))

-- the last look
pub finished : (h : Private) (whole : List Val) (ms : List Item) → Rest h whole ms [] → Leaves h whole ms (without h ms)
finished h whole ms r = rw (append-nil ms) at (r [] (without h ms) (nothing_waits _))
