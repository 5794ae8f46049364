-- Values as they are handed over, one after another.
use Rattle.std.proofs.Common.{arith, ◌≡◌, ℕ, zero, suc, ◌+◌, ◌<◌, ◌≤◌, true, false, List, [], ◌∷◌, ◌++◌, length, map, set, take, drop, get_or, slice_get, Option, Some, None, inl, inr, refl, sym, ap, subst, ◌∙◌, append_assoc}
use Rattle.std.proofs.lemmas.List.{append-nil, drop_all, drop_more, drop-set-lt, set-set, take_all, take_more_set}
use Rattle.std.specs.Option.{is_some, option_map}
use Rattle.std.specs.Prelude.{◌⊎◌}
use Rattle.std.specs.List.{flat_map}
use Rattle.rb_model.specs.declared.value.Ref.{Ref}
use Rattle.rb_model.specs.declared.value.Value.{Value as Held}
use Rattle.rb_model.specs.Values.{plain}
use Rattle.rb_model.specs.Moving.{refs_in}
use Rattle.rb_model.specs.Private.{Private, held}
use Rattle.rb_shared.specs.Lists.{Each}
use Rattle.rb_shared.proofs.Runs.{each_append}
use Rattle.publish_barrier.specs.Gathers.{Addresses, AddressesAll, IsAddressed, address, address_all, address_ref}
use Rattle.publish_barrier.specs.Sorts.{noted_same}

-- ---- lists

each_from : {A : Type 0} (P : A → Type 0) (xs : List A) → ((i : ℕ) (x : A) → slice_get xs i ≡ Some x → P x) → Each P xs
each_from P [] f = tt
each_from P (x ∷ xs) f = (f 0 x refl, each_from P xs (λ i y e. f (suc i) y e))

each_flat : {A B : Type 0} (P : B → Type 0) (f : A → List B) (xs : List A) → Each (λ x. Each P (f x)) xs → Each P (flat_map f xs)
each_flat P f [] e = tt
each_flat P f (x ∷ xs) e = each_append P (f x) (flat_map f xs) e.0 (each_flat P f xs e.1)

some_same : {A : Type 0} (x y : A) → Some x ≡ Some y → x ≡ y
some_same x y e = cc

length_set : {A : Type 0} (xs : List A) (i : ℕ) (x : A) → length (set xs i x) ≡ length xs
length_set [] i x = refl
length_set (y ∷ xs) zero x = refl
length_set (y ∷ xs) (suc i) x = let q = length_set xs i x in omega (arith, q)

-- the k-th is taken out and put back
abbrev put_back : List Held → ℕ → (hole w : Held) → List Held
put_back xs k hole w = set (set xs k hole) k w

plain_back : (xs : List Held) (k : ℕ) (hole v w : Held) → k < length xs → v ≡ get_or xs k v → plain w ≡ plain v → map plain (put_back xs k hole w) ≡ map plain xs
plain_back [] k hole v w l e p = refl
plain_back (x ∷ xs) zero hole v w l e p = ap (λ y. y ∷ map plain xs) (p ∙ ap plain e)
plain_back (x ∷ xs) (suc k) hole v w l e p = ap (λ ys. plain x ∷ ys) (plain_back xs k hole v w (omega (arith, l)) e p)

get_back : (xs : List Held) (k i : ℕ) (hole w x : Held) → slice_get (put_back xs k hole w) i ≡ Some x → i < k + 1 → ((i < k) × (slice_get xs i ≡ Some x)) ⊎ (x ≡ w)
get_back [] k i hole w x e l = absurd (cc)
get_back (y ∷ ys) zero zero hole w x e l = inr (some_same x w (sym e))
get_back (y ∷ ys) zero (suc i) hole w x e l = absurd (omega (arith, l))
get_back (y ∷ ys) (suc k) zero hole w x e l = inl (omega arith, e)
get_back (y ∷ ys) (suc k) (suc i) hole w x e l = elim (get_back ys k i hole w x e (omega (arith, l))) [ inl h ↦ inl ((let q = h.0 in omega (arith, q)), h.1) | inr h ↦ inr h ]

-- ---- the first k are as they are handed over

abbrev pub AreAddressed : Private → List Ref → (k : ℕ) → (old now : List Held) → Type 0
AreAddressed h rs k old now =
    (map plain now ≡ map plain old) × (length now ≡ length old)
    × ((i : ℕ) (x : Held) → i < k → slice_get now i ≡ Some x → Each (IsAddressed h rs) (refs_in x))

pub out_begins : (h : Private) (rs : List Ref) (old : List Held) → AreAddressed h rs 0 old old
out_begins h rs old = (refl, refl, λ i x l e. absurd (omega (arith, l)))

pub out_more : (h : Private) (rs : List Ref) (k : ℕ) (old now new : List Held) (hole v w : Held) → AreAddressed h rs k old now → k < length now → v ≡ get_or now k v
    → Addresses h rs (plain v) w → new ≡ put_back now k hole w → AreAddressed h rs (k + 1) old new
out_more h rs k old now new hole v w a l e o q = (
  ap (map plain) q ∙ (plain_back now k hole v w l e o.0 ∙ a.0),
  ap length q ∙ (length_set (set now k hole) k w ∙ (length_set now k hole ∙ a.1)),
  λ i x j f. elim (get_back now k i hole w x (subst (λ ys. slice_get ys i ≡ Some x) q f) j) [
    | inl y ↦ a.2 i x y.0 y.1
    | inr y ↦ subst (λ (u : Held). Each (IsAddressed h rs) (refs_in u)) (sym y) o.1
  ],
)

below : (xs : List Held) (i : ℕ) (x : Held) (k : ℕ) → slice_get xs i ≡ Some x → length xs ≤ k → i < k
below [] i x k e l = absurd (cc)
below (y ∷ ys) zero x k e l = omega (arith, l)
below (y ∷ ys) (suc i) x zero e l = absurd (omega (arith, l))
below (y ∷ ys) (suc i) x (suc k) e l = let q = below ys i x k e (omega (arith, l)) in omega (arith, q)

pub out_done : (h : Private) (rs : List Ref) (k : ℕ) (old now : List Held) → length now ≤ k → AreAddressed h rs k old now → AddressesAll h rs old now
out_done h rs k old now l a =
    (a.0, each_flat (IsAddressed h rs) refs_in now (each_from (λ x. Each (IsAddressed h rs) (refs_in x)) now (λ i x e. a.2 i x (below now i x k e l) e)))

-- ---- exactly

-- what becomes of values, of which the first k are as they are handed over
abbrev pub AddressedTo : Private → List Ref → (k : ℕ) → (old now : List Held) → Type 0
AddressedTo h rs k old now = address_all h rs old ≡ option_map (λ (more : List Held). take k now ++ more) (address_all h rs (drop k now))

pub to_begins : (h : Private) (rs : List Ref) (old : List Held) → AddressedTo h rs 0 old old
to_begins h rs old = sym (map-none (address_all h rs old)) where
  map-none : (o : Option (List Held)) → option_map (λ (more : List Held). more) o ≡ o
  map-none None = refl
  map-none (Some ws) = refl

module _ (h : Private) (rs : List Ref) (k : ℕ) (old now : List Held) (v : Held) (inside : k < length now) (is : v ≡ get_or now k v) (to : AddressedTo h rs k old now) where
  rest_is : drop k now ≡ v ∷ drop (k + 1) now
  rest_is = drop_more now k v inside ∙ ap (λ x. x ∷ drop (k + 1) now) (sym is)

  -- the next is not handed over, and so nothing is
  pub to_nothing : address h rs v ≡ None → address_all h rs old ≡ None
  to_nothing e = to ∙ ap (λ ys. option_map (λ (more : List Held). take k now ++ more) (address_all h rs ys)) rest_is ∙ rw e refl

  pub to_next : (w hole : Held) (new : List Held) → address h rs v ≡ Some w → new ≡ put_back now k hole w → AddressedTo h rs (k + 1) old new
  to_next w hole new e q =
      to ∙ ap (λ ys. option_map (λ (more : List Held). take k now ++ more) (address_all h rs ys)) rest_is
      ∙ rw e (joined (address_all h rs (drop (k + 1) now)))
      ∙ ap (λ ys. option_map (λ (more : List Held). ys ++ more) (address_all h rs (drop (k + 1) now))) (sym front)
      ∙ ap (λ ys. option_map (λ (more : List Held). take (k + 1) new ++ more) (address_all h rs ys)) (sym behind)
    where
      joined : (o : Option (List Held)) → option_map (λ (more : List Held). take k now ++ more) (option_map (λ (ws : List Held). w ∷ ws) o) ≡ option_map (λ (more : List Held). (take k now ++ w ∷ []) ++ more) o
      joined None = refl
      joined (Some ws) = ap Some (sym (append_assoc (take k now) (w ∷ []) ws))

      front : take (k + 1) new ≡ take k now ++ w ∷ []
      front = ap (take (k + 1)) (q ∙ set-set now k hole w) ∙ take_more_set now k w inside

      behind : drop (k + 1) new ≡ drop (k + 1) now
      behind = ap (drop (k + 1)) (q ∙ set-set now k hole w) ∙ drop-set-lt (k + 1) now k w (omega arith)

pub to_end : (h : Private) (rs : List Ref) (k : ℕ) (old now : List Held) → length now ≤ k → AddressedTo h rs k old now → address_all h rs old ≡ Some now
to_end h rs k old now l to =
    to ∙ ap (λ ys. option_map (λ (more : List Held). take k now ++ more) (address_all h rs ys)) (drop_all k now l)
    ∙ ap Some (append-nil (take k now) ∙ take_all k now l)

pub ref_private : (h : Private) (rs : List Ref) (r : Ref) → is_some (held h r.id) ≡ true → Some r ≡ address_ref h rs r
ref_private h rs r e = rw e refl

pub ref_noted : (h : Private) (rs : List Ref) (r : Ref) (o : Option Ref) → is_some (held h r.id) ≡ false → o ≡ noted_same rs r → o ≡ address_ref h rs r
ref_noted h rs r o e q = rw e q
