-- What leaves is determined, and leaves nothing behind that it mentions.
use Rattle.std.proofs.Common.{◌≡◌, ◌<◌, ◌+◌, ◌==◌, ℕ, zero, suc, List, [], ◌∷◌, ◌++◌, length, Option, Some, None, refl, sym, ap, ◌∙◌, subst, arith, length-append}
use Rattle.rb_model.specs.declared.value.Id.{Id}
use Rattle.rb_model.specs.Values.{Value as Val, Nil, False, True, Int, Sym, Str, To, Reference}
use Rattle.rb_model.specs.Things.{Thing, mentioned}
use Rattle.rb_model.specs.Private.{Private, Item, Leaves, nothing_waits, no_thing, elsewhere, moves, held, left}
use Rattle.publish_barrier.specs.Leaving.{AllOut, IsOut, ItemsOut, SomeLeave}
use Rattle.publish_barrier.proofs.Leaving.{in_store, leaves_without, left_gone, still_none, weight, weight-none}

abbrev item : Id → Thing → Item
item id thing = record { id = id; thing = thing }

abbrev InvertTo : Option Thing → Private → Reference → List Val → List Item → Private → Type 0
InvertTo None h r vs ms h' = Leaves h vs ms h'
InvertTo (Some thing) h r vs ms h' = (more : List Item) × (ms ≡ item r.id thing ∷ more) × Leaves (left h r.id) (vs ++ mentioned thing) more h'

-- how a list of values comes to leave
abbrev Inverted : Private → List Val → List Item → Private → Type 0
Inverted h [] ms h' = (ms ≡ []) × (h' ≡ h)
Inverted h (Nil ∷ vs) ms h' = Leaves h vs ms h'
Inverted h (False ∷ vs) ms h' = Leaves h vs ms h'
Inverted h (True ∷ vs) ms h' = Leaves h vs ms h'
Inverted h (Int n ∷ vs) ms h' = Leaves h vs ms h'
Inverted h (Sym n ∷ vs) ms h' = Leaves h vs ms h'
Inverted h (Str n ∷ vs) ms h' = Leaves h vs ms h'
Inverted h (To r ∷ vs) ms h' = InvertTo (held h r.id) h r vs ms h'

plain_inverted : (h h' : Private) (v : Val) (vs : List Val) (ms : List Item) → ((r : Reference) → v ≡ To r → ⊥) → Leaves h vs ms h' → Inverted h (v ∷ vs) ms h'
plain_inverted h h' Nil vs ms apart l = l
plain_inverted h h' False vs ms apart l = l
plain_inverted h h' True vs ms apart l = l
plain_inverted h h' (Int n) vs ms apart l = l
plain_inverted h h' (Sym n) vs ms apart l = l
plain_inverted h h' (Str n) vs ms apart l = l
plain_inverted h h' (To r) vs ms apart l = absurd (apart r refl)

invert : {h h' : Private} {vs : List Val} {ms : List Item} → Leaves h vs ms h' → Inverted h vs ms h'
invert (nothing_waits h) = (refl, refl)
invert (no_thing h h' v vs ms apart l) = plain_inverted h h' v vs ms apart l
invert (elsewhere h h' r vs ms e l) = subst (λ (o : Option Thing). InvertTo o h r vs ms h') (sym e) l
invert (moves h h' r thing vs ms e l) = subst (λ (o : Option Thing). InvertTo o h r vs (item r.id thing ∷ ms) h') (sym e) (ms, refl, l)

plain_invert : (h h' : Private) (v : Val) (vs : List Val) (ms : List Item) → ((r : Reference) → v ≡ To r → ⊥) → Inverted h (v ∷ vs) ms h' → Leaves h vs ms h'
plain_invert h h' Nil vs ms apart l = l
plain_invert h h' False vs ms apart l = l
plain_invert h h' True vs ms apart l = l
plain_invert h h' (Int n) vs ms apart l = l
plain_invert h h' (Sym n) vs ms apart l = l
plain_invert h h' (Str n) vs ms apart l = l
plain_invert h h' (To r) vs ms apart l = absurd (apart r refl)

-- what leaves is one list, and what is left one store
pub one_leaves : {h h' : Private} {vs : List Val} {ms : List Item} (ns : List Item) (k : Private) → Leaves h vs ms h' → Leaves h vs ns k → (ms ≡ ns) × (h' ≡ k)
one_leaves ns k (nothing_waits h) m = let i = invert m in (sym i.0, sym i.1)
one_leaves ns k (no_thing h h' v vs ms apart l) m = one_leaves ns k l (plain_invert h k v vs ns apart (invert m))
one_leaves ns k (elsewhere h h' r vs ms e l) m = one_leaves ns k l (subst (λ (o : Option Thing). InvertTo o h r vs ns k) e (invert m))
one_leaves ns k (moves h h' r thing vs ms e l) m =
    let i : InvertTo (Some thing) h r vs ns k = subst (λ (o : Option Thing). InvertTo o h r vs ns k) e (invert m) in
    let same = one_leaves i.0 k l i.2 in
    (ap (λ (xs : List Item). item r.id thing ∷ xs) same.0 ∙ sym i.1, same.1)

-- ---- something leaves

module _ (n : ℕ) (less : (h : Private) (vs : List Val) → weight h.things + length vs < n → SomeLeave h vs) where
  by_case : (h : Private) (r : Reference) (vs : List Val) (o : Option Thing) → held h r.id ≡ o → weight h.things + (length vs + 1) < n + 1 → SomeLeave h (To r ∷ vs)
  by_case h r vs None e q =
      let l = less h vs (omega (arith, q)) in
      (l.0, l.1, elsewhere h l.1 r vs l.0 e l.2)
  by_case h r vs (Some thing) e q =
      let w = weight-none h.things r.id.serial thing (in_store h.things r.id.serial thing (r.id.thread == h.thread) e) in
      let long = length-append vs (mentioned thing) in
      let l = less (left h r.id) (vs ++ mentioned thing) (omega (arith, q, w, long)) in
      (item r.id thing ∷ l.0, l.1, moves h l.1 r thing vs l.0 e l.2)

  passed : (h : Private) (v : Val) (vs : List Val) → ((r : Reference) → v ≡ To r → ⊥) → weight h.things + (length vs + 1) < n + 1 → SomeLeave h (v ∷ vs)
  passed h v vs apart q = let l = less h vs (omega (arith, q)) in (l.0, l.1, no_thing h l.1 v vs l.0 apart l.2)

  one_more : (h : Private) (vs : List Val) → weight h.things + length vs < n + 1 → SomeLeave h vs
  one_more h [] q = ([], h, nothing_waits h)
  one_more h (Nil ∷ vs) q = passed h Nil vs (λ r e. absurd (cc)) (omega (arith, q))
  one_more h (False ∷ vs) q = passed h False vs (λ r e. absurd (cc)) (omega (arith, q))
  one_more h (True ∷ vs) q = passed h True vs (λ r e. absurd (cc)) (omega (arith, q))
  one_more h (Int m ∷ vs) q = passed h (Int m) vs (λ r e. absurd (cc)) (omega (arith, q))
  one_more h (Sym m ∷ vs) q = passed h (Sym m) vs (λ r e. absurd (cc)) (omega (arith, q))
  one_more h (Str m ∷ vs) q = passed h (Str m) vs (λ r e. absurd (cc)) (omega (arith, q))
  one_more h (To r ∷ vs) q = by_case h r vs (held h r.id) refl (omega (arith, q))

up_to : (n : ℕ) (h : Private) (vs : List Val) → weight h.things + length vs < n → SomeLeave h vs
up_to zero h vs q = absurd (omega (arith, q))
up_to (suc n) h vs q = one_more n (up_to n) h vs (omega (arith, q))

-- from each private store, whatever the values, something leaves
pub some_leaves : (h : Private) (vs : List Val) → SomeLeave h vs
some_leaves h vs = up_to (weight h.things + length vs + 1) h vs (omega arith)

-- ---- nothing that left mentions what is private

front_out : (h : Private) (vs ws : List Val) → AllOut h (vs ++ ws) → AllOut h vs
front_out h [] ws a = tt
front_out h (v ∷ vs) ws a = (a.0, front_out h vs ws a.1)

back_out : (h : Private) (vs ws : List Val) → AllOut h (vs ++ ws) → AllOut h ws
back_out h [] ws a = a
back_out h (v ∷ vs) ws a = back_out h vs ws a.1

-- what was not private is not
stays_out : {h h' : Private} {vs : List Val} {ms : List Item} (id : Id) → Leaves h vs ms h' → held h id ≡ None → held h' id ≡ None
stays_out {h = h} {ms = ms} id l e = ap (λ (k : Private). held k id) (leaves_without l) ∙ still_none h ms id e

plain_out : (h : Private) (v : Val) → ((r : Reference) → v ≡ To r → ⊥) → IsOut h v
plain_out h Nil apart = tt
plain_out h False apart = tt
plain_out h True apart = tt
plain_out h (Int n) apart = tt
plain_out h (Sym n) apart = tt
plain_out h (Str n) apart = tt
plain_out h (To r) apart = absurd (apart r refl)

pub all_out : {h h' : Private} {vs : List Val} {ms : List Item} → Leaves h vs ms h' → AllOut h' vs × ItemsOut h' ms
all_out (nothing_waits h) = (tt, tt)
all_out (no_thing h h' v vs ms apart l) = let r = all_out l in ((plain_out h' v apart, r.0), r.1)
all_out (elsewhere h h' r vs ms e l) = let rest = all_out l in ((stays_out r.id l e, rest.0), rest.1)
all_out (moves h h' r thing vs ms e l) =
    let rest = all_out l in
    let gone = stays_out r.id l (left_gone h r.id r.id refl) in
    ((gone, front_out h' vs (mentioned thing) rest.0), (gone, back_out h' vs (mentioned thing) rest.0, rest.1))
