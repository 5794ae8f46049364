-- Lists of threads that were started.
use Rattle.std.proofs.Common.{arith, ◌≡◌, ℕ, suc, zero, ◌+◌, ◌^◌, ◌<◌, ◌≤◌, ◌==◌, Bool, true, false, not, ◌&&◌, List, [], ◌∷◌, ◌++◌, length, map, set, drop, Option, Some, None, ◌⊎◌, inl, inr, refl, sym, ap, subst, ◌∙◌, slice_get, slice_index_or, if◌then◌else◌}
use Rattle.std.proofs.lemmas.List.{map-set, length-map}
use Rattle.std.proofs.lemmas.Bool.{ne_eqb}
use Rattle.rb_model.specs.declared.value.Id.{Id}
use Rattle.rb_model.specs.declared.value.Ref.{Ref}
use Rattle.rb_model.specs.Values.{Reference, same_id}
use Rattle.rb_model.specs.Immediates.{reference}
use Rattle.rb_model.specs.Started.{without, thread_id}
use Rattle.rb_shared.specs.Lists.{Has}
use Rattle.rb_shared.proofs.Runs.{same_is, same_self}
use Rattle.rb_thread.specs.Kins.{Kin, kin, childless, done, names, waits, ArePlaced, AreSettled, AreCleared, IsPlaceOf, Changes, one, none_is}

-- ---- over the list that the code has

get_map : {A B : Type 0} (f : A → B) (xs : List A) (k : ℕ) (a : A) → k < length xs → a ≡ slice_index_or xs k a → slice_get (map f xs) k ≡ Some (f a)
get_map f [] k a l e = absurd (omega (arith, l))
get_map f (x ∷ xs) zero a l e = ap (λ y. Some (f y)) (sym e)
get_map f (x ∷ xs) (suc k) a l e = get_map f xs k a (omega (arith, l)) e

pub got_map : {A B : Type 0} (f : A → B) (xs : List A) (ys : List B) (k : ℕ) (a : A) → map f xs ≡ ys → k < length ys → a ≡ slice_index_or xs k a → slice_get ys k ≡ Some (f a)
got_map f xs ys k a v l e = subst (λ y. slice_get y k ≡ Some (f a)) v (get_map f xs k a (omega (arith, l, ap length v, length-map xs f)) e)

pub set_map : {A B : Type 0} (f : A → B) (xs : List A) (ys : List B) (k : ℕ) (a : A) (b : B) → map f xs ≡ ys → f a ≡ b → map f (set xs k a) ≡ set ys k b
set_map f xs ys k a b v e = map-set f xs k a ∙ (ap (λ y. set y k (f a)) v ∙ ap (λ y. set ys k y) e)

pub some_same : {A : Type 0} (x y : A) → Some x ≡ Some y → x ≡ y
some_same x y e = cc

pub is_none_by : {A : Type 0} (o : Option A) → ((x : A) → o ≡ Some x → ⊥) → o ≡ None
is_none_by None f = refl
is_none_by (Some x) f = absurd (f x refl)

-- ---- one of the list is changed, but for its number and its thing

names_if : {Q : Type 0} (ks : List (Kin Q)) (k : ℕ) (x y : Kin Q) → slice_get ks k ≡ Some x → y.number ≡ x.number → y.thing ≡ x.thing → names (set ks k y) ≡ names ks
names_if [] k x y e n t = cc
names_if (z ∷ ks) zero x y e n t =
    let q : z ≡ x = cc in
    let pn : y.number ≡ z.number = n ∙ ap (λ (o : Kin _). o.number) (sym q) in
    let pt : y.thing ≡ z.thing = t ∙ ap (λ (o : Kin _). o.thing) (sym q) in
    λ i. (pn i, reference (pt i)) ∷ names ks
names_if (z ∷ ks) (suc k) x y e n t = ap (λ zs. (z.number, reference z.thing) ∷ zs) (names_if ks k x y e n t)

pub names_childless : {Q : Type 0} (ks : List (Kin Q)) (k : ℕ) (x : Kin Q) → slice_get ks k ≡ Some x → names (set ks k (childless x)) ≡ names ks
names_childless ks k x e = names_if ks k x (childless x) e refl refl

pub names_done : {Q : Type 0} (ks : List (Kin Q)) (k : ℕ) (x : Kin Q) → slice_get ks k ≡ Some x → names (set ks k (done x)) ≡ names ks
names_done ks k x e = names_if ks k x (done x) e refl refl

placed_if : {Q : Type 0} (t count : ℕ) (ks : List (Kin Q)) (k : ℕ) (x y : Kin Q) → slice_get ks k ≡ Some x → y.thing ≡ x.thing → ArePlaced t count ks → ArePlaced t count (set ks k y)
placed_if t count [] k x y e q p = p
placed_if t count (z ∷ ks) zero x y e q p =
    let same : z ≡ x = cc in
    (ap (λ (r : Ref). r.id) (q ∙ ap (λ (o : Kin _). o.thing) (sym same)) ∙ p.0, p.1)
placed_if t count (z ∷ ks) (suc k) x y e q p = (p.0, placed_if t (suc count) ks k x y e q p.1)

pub placed_childless : {Q : Type 0} (t count : ℕ) (ks : List (Kin Q)) (k : ℕ) (x : Kin Q) → slice_get ks k ≡ Some x → ArePlaced t count ks → ArePlaced t count (set ks k (childless x))
placed_childless t count ks k x e p = placed_if t count ks k x (childless x) e refl p

pub placed_done : {Q : Type 0} (t count : ℕ) (ks : List (Kin Q)) (k : ℕ) (x : Kin Q) → slice_get ks k ≡ Some x → ArePlaced t count ks → ArePlaced t count (set ks k (done x))
placed_done t count ks k x e p = placed_if t count ks k x (done x) e refl p

pub placed_more : {Q : Type 0} (t count : ℕ) (ks : List (Kin Q)) (y : Kin Q) → ArePlaced t count ks → y.thing.id ≡ thread_id t (count + length ks) → ArePlaced t count (ks ++ y ∷ [])
placed_more t count [] y p e =
    let z : count + 0 ≡ count = omega arith in
    (e ∙ ap (thread_id t) z, tt)
placed_more t count (x ∷ ks) y p e =
    let z : count + suc (length ks) ≡ suc count + length ks = omega arith in
    (p.0, placed_more t (suc count) ks y p.1 (e ∙ ap (thread_id t) z))

-- the id of the one at a place
pub placed_at : {Q : Type 0} (t count : ℕ) (ks : List (Kin Q)) (k : ℕ) (x : Kin Q) → slice_get ks k ≡ Some x → ArePlaced t count ks → x.thing.id ≡ thread_id t (count + k)
placed_at t count [] k x e p = cc
placed_at t count (y ∷ ks) zero x e p =
    let q : y ≡ x = cc in
    let z : count ≡ count + 0 = omega arith in
    ap (λ (o : Kin _). o.thing.id) (sym q) ∙ (p.0 ∙ ap (thread_id t) z)
placed_at t count (y ∷ ks) (suc k) x e p =
    let z : suc count + k ≡ count + suc k = omega arith in
    placed_at t (suc count) ks k x e p.1 ∙ ap (thread_id t) z

-- ---- ids of threads

and_false : (b : Bool) → (b && false) ≡ false
and_false true = refl
and_false false = refl

other_id : (t c d : ℕ) → c < d → same_id (thread_id t d) (thread_id t c) ≡ false
other_id t c d l =
    let e : (2 ^ 63 + suc d == 2 ^ 63 + suc c) ≡ false = ne_eqb (2 ^ 63 + suc d) (2 ^ 63 + suc c) (λ q. omega (arith, l, q)) in
    rw e (and_false (t == t))

later_id : (t c d : ℕ) → c < d → same_id (thread_id t c) (thread_id t d) ≡ false
later_id t c d l =
    let e : (2 ^ 63 + suc c == 2 ^ 63 + suc d) ≡ false = ne_eqb (2 ^ 63 + suc c) (2 ^ 63 + suc d) (λ q. omega (arith, l, q)) in
    rw e (and_false (t == t))

pub same_count : (t c d : ℕ) → thread_id t c ≡ thread_id t d → c ≡ d
same_count t c d e = let q = ap (λ (i : Id). i.serial) e in omega (arith, q)

-- ---- those that wait

waits_cons : {Q : Type 0} (x : Kin Q) (ks : List (Kin Q)) (id : Id) → same_id x.thing.id id ≡ false → without id (waits (x ∷ ks)) ≡ (if x.gathered then without id (waits ks) else reference x.thing ∷ without id (waits ks))
waits_cons x ks id e = by x.gathered where
  by : (b : Bool) → without id (if b then waits ks else reference x.thing ∷ waits ks) ≡ (if b then without id (waits ks) else reference x.thing ∷ without id (waits ks))
  by true = refl
  by false = rw e refl

-- none behind has an id of an earlier count
pub waits_without_earlier : {Q : Type 0} (t c count : ℕ) (ks : List (Kin Q)) → c < count → ArePlaced t count ks → without (thread_id t c) (waits ks) ≡ waits ks
waits_without_earlier t c count [] l p = refl
waits_without_earlier t c count (x ∷ ks) l p =
    let e : same_id x.thing.id (thread_id t c) ≡ false = rw p.0 (other_id t c count l) in
    waits_cons x ks (thread_id t c) e ∙ ap (λ rs. if x.gathered then rs else reference x.thing ∷ rs) (waits_without_earlier t c (suc count) ks (omega (arith, l)) p.1)

-- one that is gathered waits no more
pub waits_done : {Q : Type 0} (t count : ℕ) (ks : List (Kin Q)) (k : ℕ) (x : Kin Q) → slice_get ks k ≡ Some x → ArePlaced t count ks → waits (set ks k (done x)) ≡ without (thread_id t (count + k)) (waits ks)
waits_done t count [] k x e p = cc
waits_done t count (y ∷ ks) zero x e p =
    let z : count + 0 ≡ count = omega arith in
    rw z (by y.gathered)
  where
    by : (b : Bool) → waits ks ≡ without (thread_id t count) (if b then waits ks else reference y.thing ∷ waits ks)
    by true = sym (waits_without_earlier t count (suc count) ks (omega arith) p.1)
    by false = let s : same_id y.thing.id (thread_id t count) ≡ true = rw p.0 (same_self (thread_id t count) (thread_id t count) refl) in rw s refl
waits_done t count (y ∷ ks) (suc k) x e p =
    let z : count + suc k ≡ suc count + k = omega arith in
    let o : same_id y.thing.id (thread_id t (suc count + k)) ≡ false = rw p.0 (later_id t count (suc count + k) (omega arith)) in
    rw z (ap (λ rs. if y.gathered then rs else reference y.thing ∷ rs) (waits_done t (suc count) ks k x e p.1) ∙ sym (waits_cons y ks (thread_id t (suc count + k)) o))

-- an id that is none of theirs
pub waits_without_other : {Q : Type 0} (ks : List (Kin Q)) (id : Id) → ((i : ℕ) (x : Kin Q) → slice_get ks i ≡ Some x → x.thing.id ≡ id → ⊥) → without id (waits ks) ≡ waits ks
waits_without_other [] id other = refl
waits_without_other (x ∷ ks) id other =
    waits_cons x ks id (differs x.thing.id id (other 0 x refl)) ∙ ap (λ rs. if x.gathered then rs else reference x.thing ∷ rs) (waits_without_other ks id (λ i y e. other (suc i) y e))
  where
    by : (a b : Id) (c : Bool) → same_id a b ≡ c → (a ≡ b → ⊥) → same_id a b ≡ false
    by a b true e n = absurd (n (same_is a b e))
    by a b false e n = e

    differs : (a b : Id) → (a ≡ b → ⊥) → same_id a b ≡ false
    differs a b n = by a b (same_id a b) refl n

pub waits_childless : {Q : Type 0} (ks : List (Kin Q)) (k : ℕ) (x : Kin Q) → slice_get ks k ≡ Some x → waits (set ks k (childless x)) ≡ waits ks
waits_childless [] k x e = cc
waits_childless (y ∷ ks) zero x e = let q : y ≡ x = cc in ap (λ (z : Kin _). if z.gathered then waits ks else reference z.thing ∷ waits ks) (sym q)
waits_childless (y ∷ ks) (suc k) x e = ap (λ zs. if y.gathered then zs else reference y.thing ∷ zs) (waits_childless ks k x e)

-- ---- members

pub got : {A : Type 0} (ks : List A) (k : ℕ) (x : A) → slice_get ks k ≡ Some x → Has ks x
got [] k x e = cc
got (y ∷ ks) zero x e = let q : y ≡ x = cc in inl (sym q)
got (y ∷ ks) (suc k) x e = inr (got ks k x e)

-- what stands in the list after one was changed
pub has_set : {A : Type 0} (ks : List A) (k : ℕ) (x y z : A) → slice_get ks k ≡ Some x → Has (set ks k y) z → Has ks z ⊎ ((z ≡ y) × Has ks x)
has_set [] k x y z e h = inl h
has_set (w ∷ ks) zero x y z e (inl h) = let q : w ≡ x = cc in inr (h, inl (sym q))
has_set (w ∷ ks) zero x y z e (inr h) = inl (inr h)
has_set (w ∷ ks) (suc k) x y z e (inl h) = inl (inl h)
has_set (w ∷ ks) (suc k) x y z e (inr h) = elim (has_set ks k x y z e h) [ inl i ↦ inl (inr i) | inr i ↦ inr (i.0, inr i.1) ]

-- one of a name stands somewhere
pub named_at : {Q : Type 0} (ks : List (Kin Q)) (n : ℕ) (thing : Reference) → Has (names ks) (n, thing) → (i : ℕ) × (x : Kin Q) × (slice_get ks i ≡ Some x) × (x.number ≡ n) × (reference x.thing ≡ thing)
named_at [] n thing h = absurd h
named_at (x ∷ ks) n thing (inl e) = (0, x, refl, ap (λ (p : ℕ × Reference). p.0) (sym e), ap (λ (p : ℕ × Reference). p.1) (sym e))
named_at (x ∷ ks) n thing (inr h) = let q = named_at ks n thing h in (suc q.0, q.1, q.2, q.3, q.4)

pub names_more : {Q : Type 0} (ks : List (Kin Q)) (x : Kin Q) → names (ks ++ x ∷ []) ≡ names ks ++ (x.number, reference x.thing) ∷ []
names_more [] x = refl
names_more (y ∷ ks) x = ap (λ zs. (y.number, reference y.thing) ∷ zs) (names_more ks x)

waits_more_if : (b : Bool) (i : Reference) (xs ys zs : List Reference) → xs ≡ ys ++ zs → (if b then xs else i ∷ xs) ≡ (if b then ys else i ∷ ys) ++ zs
waits_more_if true i xs ys zs e = e
waits_more_if false i xs ys zs e = ap (λ m. i ∷ m) e

pub waits_more : {Q : Type 0} (ks : List (Kin Q)) (n : ℕ) (thing : Ref) (c : Option Q) → waits (ks ++ kin n thing c false ∷ []) ≡ waits ks ++ reference thing ∷ []
waits_more [] n thing c = refl
waits_more (y ∷ ks) n thing c = waits_more_if y.gathered (reference y.thing) _ (waits ks) (reference thing ∷ []) (waits_more ks n thing c)

-- ---- the tail

waits_at : {Q : Type 0} (ks : List (Kin Q)) (k : ℕ) (x : Kin Q) → slice_get ks k ≡ Some x → waits (drop k ks) ≡ (if x.gathered then waits (drop (suc k) ks) else reference x.thing ∷ waits (drop (suc k) ks))
waits_at [] k x e = cc
waits_at (y ∷ ks) zero x e = let q : y ≡ x = cc in ap (λ (z : Kin _). if z.gathered then waits ks else reference z.thing ∷ waits ks) q
waits_at (y ∷ ks) (suc k) x e = waits_at ks k x e

if_false : {A : Type 0} (b : Bool) (x y : A) → b ≡ false → (if b then x else y) ≡ y
if_false b x y e = rw e refl

if_true : {A : Type 0} (b : Bool) (x y : A) → b ≡ true → (if b then x else y) ≡ x
if_true b x y e = rw e refl

pub waits_next : {Q : Type 0} (ks : List (Kin Q)) (k : ℕ) (x : Kin Q) → slice_get ks k ≡ Some x → x.gathered ≡ false → waits (drop k ks) ≡ reference x.thing ∷ waits (drop (suc k) ks)
waits_next ks k x e g = waits_at ks k x e ∙ if_false x.gathered _ _ g

pub waits_skip : {Q : Type 0} (ks : List (Kin Q)) (k : ℕ) (x : Kin Q) → slice_get ks k ≡ Some x → x.gathered ≡ true → waits (drop k ks) ≡ waits (drop (suc k) ks)
waits_skip ks k x e g = waits_at ks k x e ∙ if_true x.gathered _ _ g

drop_none : {A : Type 0} (k : ℕ) → drop {A = A} k [] ≡ []
drop_none zero = refl
drop_none (suc k) = refl

pub waits_over : {Q : Type 0} (ks : List (Kin Q)) (k : ℕ) → length ks ≤ k → waits (drop k ks) ≡ []
waits_over [] k l = ap waits (drop_none k)
waits_over (y ∷ ks) zero l = absurd (omega (arith, l))
waits_over (y ∷ ks) (suc k) l = waits_over ks k (omega (arith, l))

pub drop_set : {A : Type 0} (ks : List A) (k : ℕ) (y : A) → drop (suc k) (set ks k y) ≡ drop (suc k) ks
drop_set [] k y = refl
drop_set (x ∷ ks) zero y = refl
drop_set (x ∷ ks) (suc k) y = drop_set ks k y

pub not_true : (b : Bool) → not b ≡ true → b ≡ false
not_true true e = sym e
not_true false e = refl

pub not_false : (b : Bool) → not b ≡ false → b ≡ true
not_false true e = refl
not_false false e = sym e

-- ---- children taken out

same_place : {Q : Type 0} (t : ℕ) (ks : List (Kin Q)) (i k : ℕ) (x y : Kin Q) → ArePlaced t 0 ks → slice_get ks k ≡ Some x → slice_get ks i ≡ Some y → y.thing.id ≡ x.thing.id → i ≡ k
same_place t ks i k x y p e f same =
    let q = same_count t (0 + i) (0 + k) (sym (placed_at t 0 ks i y f p) ∙ (same ∙ placed_at t 0 ks k x e p)) in
    omega (arith, q)

-- where the one at a place has no child any more, none of its id has
pub settled_one : {Q : Type 0} (t : ℕ) (ks : List (Kin Q)) (k : ℕ) (x : Kin Q) → ArePlaced t 0 ks → slice_get ks k ≡ Some x → x.child ≡ None → AreSettled x.thing.id ks
settled_one t ks k x p e c i y f same =
    let at = same_place t ks i k x y p e f same in
    let is : y ≡ x = some_same y x (sym f ∙ (ap (λ m. slice_get ks m) at ∙ e)) in
    ap (λ (o : Kin _). o.child) is ∙ c

pub get_set : {A : Type 0} (ks : List A) (k : ℕ) (x y : A) → slice_get ks k ≡ Some x → slice_get (set ks k y) k ≡ Some y
get_set [] k x y e = cc
get_set (z ∷ ks) zero x y e = refl
get_set (z ∷ ks) (suc k) x y e = get_set ks k x y e

pub length_set : {A : Type 0} (ks : List A) (k : ℕ) (y : A) → length (set ks k y) ≡ length ks
length_set [] k y = refl
length_set (x ∷ ks) zero y = refl
length_set (x ∷ ks) (suc k) y = ap suc (length_set ks k y)

get_set_other : {A : Type 0} (xs : List A) (i k : ℕ) (y : A) → i < k → slice_get (set xs k y) i ≡ slice_get xs i
get_set_other [] i k y l = refl
get_set_other (x ∷ xs) i zero y l = absurd (omega (arith, l))
get_set_other (x ∷ xs) zero (suc k) y l = refl
get_set_other (x ∷ xs) (suc i) (suc k) y l = get_set_other xs i k y (omega (arith, l))

-- the first k have no child any more
pub cleared_more : {Q : Type 0} (k : ℕ) (x : Kin Q) (ks ls : List (Kin Q)) → slice_get ls k ≡ Some x → x.child ≡ None → ((i : ℕ) (y : Kin Q) → i < k → slice_get ls i ≡ slice_get ks i)
    → AreCleared k ks → AreCleared (k + 1) ls
cleared_more k x ks ls e c same cleared i y l f = by (below i k l) where
  below : (i k : ℕ) → i < k + 1 → (i < k) ⊎ (i ≡ k)
  below zero zero l = inr refl
  below zero (suc k) l = inl (omega arith)
  below (suc i) zero l = absurd (omega (arith, l))
  below (suc i) (suc k) l = elim (below i k (omega (arith, l))) [ inl h ↦ inl (omega (arith, h)) | inr h ↦ inr (ap suc h) ]

  by : (i < k) ⊎ (i ≡ k) → y.child ≡ None
  by (inl h) = cleared i y h (sym (same i y h) ∙ f)
  by (inr h) = let is : y ≡ x = some_same y x (sym f ∙ (ap (λ m. slice_get ls m) h ∙ e)) in ap (λ (o : Kin _). o.child) is ∙ c

pub unchanged_before : {A : Type 0} (ks : List A) (k : ℕ) (y : A) (i : ℕ) (z : A) → i < k → slice_get (set ks k y) i ≡ slice_get ks i
unchanged_before ks k y i z l = get_set_other ks i k y l

-- one that is taken is there
pub got_below : {A : Type 0} (ks : List A) (k : ℕ) (x : A) → slice_get ks k ≡ Some x → k < length ks
got_below [] k x e = cc
got_below (y ∷ ks) zero x e = omega arith
got_below (y ∷ ks) (suc k) x e = let l = got_below ks k x e in omega (arith, l)

-- ---- places by ids

pub place_one : {Q : Type 0} (t : ℕ) (ks : List (Kin Q)) (k : ℕ) (x : Kin Q) (id : Id) → ArePlaced t 0 ks → slice_get ks k ≡ Some x → id ≡ thread_id t k → x.thing.id ≡ id
place_one t ks k x id p e i = let z : 0 + k ≡ k = omega arith in placed_at t 0 ks k x e p ∙ (ap (thread_id t) z ∙ sym i)

pub place_none : {Q : Type 0} (t : ℕ) (ks : List (Kin Q)) (id : Id) (o : Option ℕ) → ArePlaced t 0 ks → IsPlaceOf t id (length ks) o → ((k : ℕ) → o ≡ Some k → ⊥) → (i : ℕ) (x : Kin Q) → slice_get ks i ≡ Some x → x.thing.id ≡ id → ⊥
place_none t ks id (Some k) p is never i x e same = absurd (never k refl)
place_none t ks id None p is never i x e same =
    let z : 0 + i ≡ i = omega arith in
    is i (got_below ks i x e) (sym same ∙ (placed_at t 0 ks i x e p ∙ ap (thread_id t) z))

-- ---- places of a list

pub get_set_cases : {A : Type 0} (xs : List A) (k i : ℕ) (x y z : A) → slice_get xs k ≡ Some x → slice_get (set xs k y) i ≡ Some z → ((i ≡ k) × (z ≡ y)) ⊎ (slice_get xs i ≡ Some z)
get_set_cases [] k i x y z e f = inr f
get_set_cases (w ∷ xs) zero zero x y z e f = inl (refl, sym (some_same y z f))
get_set_cases (w ∷ xs) zero (suc i) x y z e f = inr f
get_set_cases (w ∷ xs) (suc k) zero x y z e f = inr f
get_set_cases (w ∷ xs) (suc k) (suc i) x y z e f = elim (get_set_cases xs k i x y z e f) [ inl h ↦ inl (ap suc h.0, h.1) | inr h ↦ inr h ]

pub get_snoc : {A : Type 0} (xs : List A) (y : A) (i : ℕ) (z : A) → slice_get (xs ++ y ∷ []) i ≡ Some z → (slice_get xs i ≡ Some z) ⊎ ((i ≡ length xs) × (z ≡ y))
get_snoc [] y zero z e = inr (refl, sym (some_same y z e))
get_snoc [] y (suc i) z e = absurd (cc)
get_snoc (x ∷ xs) y zero z e = inl e
get_snoc (x ∷ xs) y (suc i) z e = elim (get_snoc xs y i z e) [ inl h ↦ inl h | inr h ↦ inr (ap suc h.0, h.1) ]

pub get_front : {A : Type 0} (xs ys : List A) (i : ℕ) → i < length xs → slice_get (xs ++ ys) i ≡ slice_get xs i
get_front [] ys i l = absurd (omega (arith, l))
get_front (x ∷ xs) ys zero l = refl
get_front (x ∷ xs) ys (suc i) l = get_front xs ys i (omega (arith, l))

pub get_last : {A : Type 0} (xs : List A) (y : A) → slice_get (xs ++ y ∷ []) (length xs) ≡ Some y
get_last [] y = refl
get_last (x ∷ xs) y = get_last xs y

pub has_at : {A : Type 0} (xs : List A) (x : A) → Has xs x → (i : ℕ) × (slice_get xs i ≡ Some x)
has_at (y ∷ xs) x (inl e) = (0, ap Some (sym e))
has_at (y ∷ xs) x (inr h) = let q = has_at xs x h in (suc q.0, q.1)
has_at [] x h = absurd h

pub get_there : {A : Type 0} (xs : List A) (i : ℕ) → i < length xs → (x : A) × (slice_get xs i ≡ Some x)
get_there [] i l = absurd (omega (arith, l))
get_there (x ∷ xs) zero l = (x, refl)
get_there (x ∷ xs) (suc i) l = get_there xs i (omega (arith, l))

pub get_names : {Q : Type 0} (ks : List (Kin Q)) (i : ℕ) (x : Kin Q) → slice_get ks i ≡ Some x → slice_get (names ks) i ≡ Some (x.number, reference x.thing)
get_names [] i x e = cc
get_names (y ∷ ks) zero x e = ap (λ (o : Kin _). Some (o.number, reference o.thing)) (some_same y x e)
get_names (y ∷ ks) (suc i) x e = get_names ks i x e

-- each stands where it stood, but for whether it was gathered
pub get_changed : {Q : Type 0} (ks ls : List (Kin Q)) (id : Id) (i : ℕ) (y : Kin Q) → Changes done id ks ls → slice_get ls i ≡ Some y → (z : Kin Q) × (slice_get ks i ≡ Some z) × (z.child ≡ y.child)
get_changed ks ls id i y (one k x e h q) f = elim (get_set_cases ks k i x (done x) y e (subst (λ m. slice_get m i ≡ Some y) q f)) [
  | inl o ↦ (x, ap (λ m. slice_get ks m) o.0 ∙ e, ap (λ (m : Kin _). m.child) (sym o.1))
  | inr o ↦ (y, o, refl)
]
get_changed ks ls id i y (none_is other q) f = (y, subst (λ m. slice_get m i ≡ Some y) q f, refl)
