-- A private store and the shared store beside it, as parts of the one store of a run alone.
use Rattle.std.proofs.Common.{◌≡◌, ◌⊎◌, inl, inr, ℕ, zero, suc, ◌+◌, ◌==◌, ◌&&◌, Bool, true, false, cond, List, [], ◌∷◌, ◌++◌, length, set, Option, Some, None, refl, sym, ap, ◌∙◌, subst, eq-eqb}
use Rattle.std.proofs.lemmas.Bool.{eqb-true}
use Rattle.std.proofs.Math.Dec.{eqb-suc-zero, eqb-zero-suc, eqb-suc-suc}
use Rattle.std.proofs.lemmas.List.{length-set, length-append}
use Rattle.rb_model.specs.declared.value.Id.{Id}
use Rattle.rb_model.specs.Values.{Value as Val, same_id}
use Rattle.rb_model.specs.Acts.{Act}
use Rattle.rb_model.specs.Things.{Thing, becomes_by}
use Rattle.rb_model.specs.Private.{Private, Item, Leaves, nothing_waits, no_thing, elsewhere, moves, bare, held, entered, acted, left}
use Rattle.rb_shared.specs.Store.{Store, opening as opening_store, found, with_thing}
use Rattle.rb_shared.specs.Step.{AreNew}
use Rattle.rb_shared.proofs.Runs.{same_is, same_self, found_more}
use Rattle.rb_machine.specs.Alone.{globals_alone}
use Rattle.rb_closure.proofs.Stores.{thing_at}
use Rattle.run_laws.proofs.Own.{held_there}
use Rattle.run_laws.proofs.Stores.{found_with, found_other, not_there}

-- the first of two that there is
abbrev pub first_of : Option Thing → Option Thing → Option Thing
first_of None o = o
first_of (Some x) o = Some x

-- One store has all that two have: what is private, and what is shared. What shapes its objects have is not looked at, since no reply tells it.
pub record Joint (h : Private) (z : Store) (all : Private) : Type 0 where
  pub whose : all.thread ≡ h.thread
  pub count : length all.things ≡ length h.things
  pub same : (id : Id) → held all id ≡ first_of (held h id) (found z id)

-- ---- what is held behind changes

at_entered : (os : List (Option Thing)) (x : Thing) (n : ℕ) → thing_at (os ++ Some x ∷ []) n ≡ cond (n == length os) (Some x) (thing_at os n)
at_entered [] x zero = refl
at_entered [] x (suc n) = rw (eqb-suc-zero n) refl
at_entered (o ∷ os) x zero = rw (eqb-zero-suc (length os)) refl
at_entered (o ∷ os) x (suc n) = rw (eqb-suc-suc n (length os)) (at_entered os x n)

abbrev is_next : ℕ → ℕ → Id → Bool
is_next thread count id = id.thread == thread && id.serial == count

held_entered : (h : Private) (x : Thing) (id : Id) → held (entered h x) id ≡ cond (is_next h.thread (length h.things) id) (Some x) (held h id)
held_entered h x id = ap (λ o. cond (id.thread == h.thread) o None) (at_entered h.things x id.serial) ∙ by (id.thread == h.thread) (id.serial == length h.things) (thing_at h.things id.serial)
  where
    by : (b c : Bool) (o : Option Thing) → cond b (cond c (Some x) o) None ≡ cond (b && c) (Some x) (cond b o None)
    by true c o = refl
    by false c o = refl

at_here : (os : List (Option Thing)) (i : ℕ) (x : Thing) (o : Option Thing) → thing_at os i ≡ Some x → thing_at (set os i o) i ≡ o
at_here [] i x o e = absurd (let no : None ≡ Some x = e in cc)
at_here (p ∷ os) zero x o e = refl
at_here (p ∷ os) (suc i) x o e = at_here os i x o e

at_other : (os : List (Option Thing)) (i j : ℕ) (o : Option Thing) → (i ≡ j → ⊥) → thing_at (set os i o) j ≡ thing_at os j
at_other [] i j o f = refl
at_other (p ∷ os) zero zero o f = absurd (f refl)
at_other (p ∷ os) zero (suc j) o f = refl
at_other (p ∷ os) (suc i) zero o f = refl
at_other (p ∷ os) (suc i) (suc j) o f = at_other os i j o (λ e. f (ap suc e))

-- with something else in the place of a thing that is held
held_set : (h k : Private) (id : Id) (x : Thing) (o : Option Thing) → k.thread ≡ h.thread → k.things ≡ set h.things id.serial o → held h id ≡ Some x → (j : Id) → held k j ≡ cond (same_id id j) o (held h j)
held_set h k id x o whose things f j =
    ap (λ t. cond (j.thread == t) (thing_at k.things j.serial) None) whose
    ∙ (ap (λ os. cond (j.thread == h.thread) (thing_at os j.serial) None) things ∙ by (same_id id j) refl)
  where
    id_is : (i : Id) → id.thread ≡ i.thread → id.serial ≡ i.serial → id ≡ i
    id_is i e g =
        let first : ℕ → Id = λ t. record { thread = t; serial = id.serial } in
        let second : ℕ → Id = λ n. record { thread = i.thread; serial = n } in
        ap first e ∙ ap second g

    other : same_id id j ≡ false → (b : Bool) → (j.thread == h.thread) ≡ b → cond b (thing_at (set h.things id.serial o) j.serial) None ≡ cond b (thing_at h.things j.serial) None
    other s true b =
        at_other h.things id.serial j.serial o (λ n. let yes : same_id id j ≡ true = same_self id j (id_is j ((held_there h id x f).0 ∙ sym (eqb-true j.thread h.thread b)) n) in let no : true ≡ false = sym yes ∙ s in cc)
    other s false b = refl

    by : (b : Bool) → same_id id j ≡ b → cond (j.thread == h.thread) (thing_at (set h.things id.serial o) j.serial) None ≡ cond b o (held h j)
    by true s =
        let is : id ≡ j = same_is id j s in
        let here : (j.thread == h.thread) ≡ true = eq-eqb j.thread h.thread (ap (λ (i : Id). i.thread) (sym is) ∙ (held_there h id x f).0) in
        ap (λ b. cond b (thing_at (set h.things id.serial o) j.serial) None) here
        ∙ (ap (λ (i : Id). thing_at (set h.things id.serial o) i.serial) (sym is) ∙ at_here h.things id.serial x o (held_there h id x f).1)
    by false s = other s (j.thread == h.thread) refl

pub held_acted : (h : Private) (id : Id) (act : Act) (x : Thing) → held h id ≡ Some x → (j : Id) → held (acted h id act x) j ≡ cond (same_id id j) (Some (becomes_by h.thread x act)) (held h j)
held_acted h id act x f j = held_set h (acted h id act x) id x (Some (becomes_by h.thread x act)) refl refl f j

held_left : (h : Private) (id : Id) (x : Thing) → held h id ≡ Some x → (j : Id) → held (left h id) j ≡ cond (same_id id j) None (held h j)
held_left h id x f j = held_set h (left h id) id x None refl refl f j

-- ---- at the opening

pub opening_joint : Joint (bare 0) opening_store globals_alone
opening_joint = record { whose = refl; count = refl; same = λ id. by id.thread id.serial }
  where
    by : (t n : ℕ) → held globals_alone (record { thread = t; serial = n }) ≡ first_of (held (bare 0) (record { thread = t; serial = n })) (found opening_store (record { thread = t; serial = n }))
    by zero zero = refl
    by zero (suc n) = rw (eqb-zero-suc n) refl
    by (suc t) zero = rw (eqb-suc-zero t) (rw (eqb-zero-suc t) refl)
    by (suc t) (suc n) = rw (eqb-suc-zero t) (rw (eqb-zero-suc t) refl)

-- ---- own work

first_cond : (b : Bool) (x : Thing) (o p : Option Thing) → cond b (Some x) (first_of o p) ≡ first_of (cond b (Some x) o) p
first_cond true x o p = refl
first_cond false x o p = refl

pub makes_joint : (h : Private) (z : Store) (all : Private) (x : Thing) → Joint h z all → Joint (entered h x) z (entered all x)
makes_joint h z all x j = record {
  whose = j.whose;
  count = length-append all.things (Some x ∷ []) ∙ (ap (λ n. n + 1) j.count ∙ sym (length-append h.things (Some x ∷ [])));
  same = λ id.
      held_entered all x id
      ∙ (ap (λ t. cond (is_next t (length all.things) id) (Some x) (held all id)) j.whose
      ∙ (ap (λ n. cond (is_next h.thread n id) (Some x) (held all id)) j.count
      ∙ (ap (λ o. cond (is_next h.thread (length h.things) id) (Some x) o) (j.same id)
      ∙ (first_cond (is_next h.thread (length h.things) id) x (held h id) (found z id) ∙ ap (λ o. first_of o (found z id)) (sym (held_entered h x id))))));
}

pub private_there : (h : Private) (z : Store) (all : Private) (id : Id) (x : Thing) → Joint h z all → held h id ≡ Some x → held all id ≡ Some x
private_there h z all id x j f = j.same id ∙ ap (λ o. first_of o (found z id)) f

pub acts_joint : (h : Private) (z : Store) (all : Private) (id : Id) (act : Act) (x : Thing) → Joint h z all → held h id ≡ Some x → Joint (acted h id act x) z (acted all id act x)
acts_joint h z all id act x j f = record {
  whose = j.whose;
  count = length-set all.things id.serial (Some (becomes_by all.thread x act)) ∙ (j.count ∙ sym (length-set h.things id.serial (Some (becomes_by h.thread x act))));
  same = λ i.
      held_acted all id act x (private_there h z all id x j f) i
      ∙ (ap (λ t. cond (same_id id i) (Some (becomes_by t x act)) (held all i)) j.whose
      ∙ (ap (λ o. cond (same_id id i) (Some (becomes_by h.thread x act)) o) (j.same i)
      ∙ (first_cond (same_id id i) (becomes_by h.thread x act) (held h i) (found z i) ∙ ap (λ o. first_of o (found z i)) (sym (held_acted h id act x f i)))));
}

-- ---- what moves goes from one part to the other

-- a thing stays where it was, or leaves and is one of those that move
abbrev StaysOrMoves : Private → Private → List Item → Id → Type 0
StaysOrMoves h h' ms id = ((held h' id ≡ held h id) × (found ms id ≡ None)) ⊎ ((held h' id ≡ None) × (held h id ≡ found ms id))

stays_or_moves : {h h' : Private} {vs : List Val} {ms : List Item} (id : Id) → Leaves h vs ms h' → StaysOrMoves h h' ms id
stays_or_moves id (nothing_waits h) = inl (refl, refl)
stays_or_moves id (no_thing h h' v vs ms f l) = stays_or_moves id l
stays_or_moves id (elsewhere h h' r vs ms f l) = stays_or_moves id l
stays_or_moves id (moves h h' r x vs ms f l) = by (same_id r.id id) refl (stays_or_moves id l)
  where
    by : (b : Bool) → same_id r.id id ≡ b → StaysOrMoves (left h r.id) h' ms id → StaysOrMoves h h' (record { id = r.id; thing = x } ∷ ms) id
    by true s later =
        let is : r.id ≡ id = same_is r.id id s in
        let gone : held (left h r.id) id ≡ None = held_left h r.id x f id ∙ ap (λ b. cond b None (held h id)) s in
        let moved : found (record { id = r.id; thing = x } ∷ ms) id ≡ Some x = ap (λ b. cond b (Some x) (found ms id)) s in
        inr (out later gone, ap (held h) (sym is) ∙ (f ∙ sym moved))
      where
        out : StaysOrMoves (left h r.id) h' ms id → held (left h r.id) id ≡ None → held h' id ≡ None
        out (inl p) gone = p.0 ∙ gone
        out (inr p) gone = p.0
    by false s later = more later
      where
        was : held (left h r.id) id ≡ held h id
        was = held_left h r.id x f id ∙ ap (λ b. cond b None (held h id)) s

        next : found (record { id = r.id; thing = x } ∷ ms) id ≡ found ms id
        next = ap (λ b. cond b (Some x) (found ms id)) s

        more : StaysOrMoves (left h r.id) h' ms id → StaysOrMoves h h' (record { id = r.id; thing = x } ∷ ms) id
        more (inl p) = inl (p.0 ∙ was, next ∙ p.1)
        more (inr p) = inr (p.0, sym was ∙ (p.1 ∙ sym next))

found_parts : (xs ys : Store) (id : Id) → found (xs ++ ys) id ≡ first_of (found xs id) (found ys id)
found_parts [] ys id = refl
found_parts (x ∷ xs) ys id = by (same_id x.id id) (found_parts xs ys id)
  where
    by : (b : Bool) → found (xs ++ ys) id ≡ first_of (found xs id) (found ys id) → cond b (Some x.thing) (found (xs ++ ys) id) ≡ first_of (cond b (Some x.thing) (found xs id)) (found ys id)
    by true e = refl
    by false e = e

first_none : (o : Option Thing) → first_of o None ≡ o
first_none None = refl
first_none (Some x) = refl

-- what moves was not shared
moved_new : (z xs : Store) (id : Id) (x : Thing) → AreNew z xs → found xs id ≡ Some x → found z id ≡ None
moved_new z [] id x n f = absurd (let no : None ≡ Some x = f in cc)
moved_new z (y ∷ ys) id x (n, a) f = by (same_id y.id id) refl f (moved_new (z ++ y ∷ []) ys id x a)
  where
    earlier : (o : Option Thing) → found z id ≡ o → found (z ++ y ∷ []) id ≡ None → o ≡ None
    earlier None e g = refl
    earlier (Some t) e g = absurd (let no : Some t ≡ None = sym (found_more z (y ∷ []) id t e) ∙ g in cc)

    by : (b : Bool) → same_id y.id id ≡ b → cond b (Some y.thing) (found ys id) ≡ Some x → (found ys id ≡ Some x → found (z ++ y ∷ []) id ≡ None) → found z id ≡ None
    by true s g later = ap (found z) (sym (same_is y.id id s)) ∙ not_there z y.id n
    by false s g later = earlier (found z id) refl (later g)

pub leaves_count : {h h' : Private} {vs : List Val} {ms : List Item} → Leaves h vs ms h' → (h'.thread ≡ h.thread) × (length h'.things ≡ length h.things)
leaves_count (nothing_waits h) = (refl, refl)
leaves_count (no_thing h h' v vs ms f l) = leaves_count l
leaves_count (elsewhere h h' r vs ms f l) = leaves_count l
leaves_count (moves h h' r x vs ms f l) = let p = leaves_count l in (p.0, p.1 ∙ length-set h.things r.id.serial None)

pub moves_joint : (h h' : Private) (z : Store) (all : Private) (vs : List Val) (ms : List Item) → Leaves h vs ms h' → AreNew z ms → Joint h z all → Joint h' (z ++ ms) all
moves_joint h h' z all vs ms l new j = record {
  whose = j.whose ∙ sym (leaves_count l).0;
  count = j.count ∙ sym (leaves_count l).1;
  same = λ id. j.same id ∙ (by id (stays_or_moves id l) ∙ ap (first_of (held h' id)) (sym (found_parts z ms id)));
}
  where
    swapped : (id : Id) (o : Option Thing) → found ms id ≡ o → first_of o (found z id) ≡ first_of (found z id) o
    swapped id None f = sym (first_none (found z id))
    swapped id (Some x) f = ap (λ p. first_of p (Some x)) (sym (moved_new z ms id x new f))

    by : (id : Id) → StaysOrMoves h h' ms id → first_of (held h id) (found z id) ≡ first_of (held h' id) (first_of (found z id) (found ms id))
    by id (inl p) = ap (λ o. first_of o (found z id)) (sym p.0) ∙ ap (first_of (held h' id)) (sym (ap (first_of (found z id)) p.1 ∙ first_none (found z id)))
    by id (inr p) = ap (λ o. first_of o (found z id)) p.1 ∙ (swapped id (found ms id) refl ∙ ap (λ o. first_of o (first_of (found z id) (found ms id))) (sym p.0))

-- ---- an act on a shared thing

pub shared_there : (h : Private) (w : Store) (all : Private) (id : Id) (x : Thing) → Joint h w all → held h id ≡ None → found w id ≡ Some x → held all id ≡ Some x
shared_there h w all id x j none f = j.same id ∙ (ap (λ o. first_of o (found w id)) none ∙ f)

found_set : (w : Store) (id : Id) (x new : Thing) → found w id ≡ Some x → (i : Id) → found (with_thing w id new) i ≡ cond (same_id id i) (Some new) (found w i)
found_set w id x new f i = by (same_id id i) refl
  where
    by : (b : Bool) → same_id id i ≡ b → found (with_thing w id new) i ≡ cond b (Some new) (found w i)
    by true s = subst (λ k. found (with_thing w id new) k ≡ Some new) (same_is id i s) (found_with w id x new f)
    by false s = found_other w id i new s

pub asks_joint : (h : Private) (w : Store) (all : Private) (id : Id) (act : Act) (x : Thing) → Joint h w all → held h id ≡ None → found w id ≡ Some x
    → Joint h (with_thing w id (becomes_by all.thread x act)) (acted all id act x)
asks_joint h w all id act x j none f = record {
  whose = j.whose;
  count = length-set all.things id.serial (Some (becomes_by all.thread x act)) ∙ j.count;
  same = λ i.
      held_acted all id act x (shared_there h w all id x j none f) i
      ∙ (by i (same_id id i) refl ∙ ap (first_of (held h i)) (sym (found_set w id x (becomes_by all.thread x act) f i)));
}
  where
    by : (i : Id) (b : Bool) → same_id id i ≡ b → cond b (Some (becomes_by all.thread x act)) (held all i) ≡ first_of (held h i) (cond b (Some (becomes_by all.thread x act)) (found w i))
    by i true s = ap (λ o. first_of o (Some (becomes_by all.thread x act))) (sym (ap (held h) (sym (same_is id i s)) ∙ none))
    by i false s = j.same i
