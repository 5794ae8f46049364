-- What holds of each of a list.
use Rattle.std.proofs.Common.{◌≡◌, ◌⊎◌, inl, inr, ℕ, zero, suc, Bool, true, false, cond, List, [], ◌∷◌, ◌++◌, Option, Some, None, find, slice_get}
use Rattle.rb_model.specs.Values.{Reference}
use Rattle.rb_closure.specs.Closure.{Each, Among}

-- ---- each of a list

pub both : {X : Type 0} (P : X → Type 0) (xs ys : List X) → Each P xs → Each P ys → Each P (xs ++ ys)
both P [] ys a b = b
both P (x ∷ xs) ys (p, a) b = (p, both P xs ys a b)

pub front : {X : Type 0} (P : X → Type 0) (xs ys : List X) → Each P (xs ++ ys) → Each P xs
front P [] ys a = tt
front P (x ∷ xs) ys (p, a) = (p, front P xs ys a)

pub behind : {X : Type 0} (P : X → Type 0) (xs ys : List X) → Each P (xs ++ ys) → Each P ys
behind P [] ys a = a
behind P (x ∷ xs) ys (p, a) = behind P xs ys a

pub each_of : {X : Type 0} (P Q : X → Type 0) (xs : List X) → ((x : X) → P x → Q x) → Each P xs → Each Q xs
each_of P Q [] f a = tt
each_of P Q (x ∷ xs) f (p, a) = (f x p, each_of P Q xs f a)

-- what holds of all holds of each
pub all_of : {X : Type 0} (P : X → Type 0) (xs : List X) → ((x : X) → P x) → Each P xs
all_of P [] f = tt
all_of P (x ∷ xs) f = (f x, all_of P xs f)

pub each_if : {X : Type 0} (P : X → Type 0) (b : Bool) (xs ys : List X) → Each P xs → Each P ys → Each P (cond b xs ys)
each_if P true xs ys p q = p
each_if P false xs ys p q = q

-- ---- one of a list, where there is one

abbrev pub IfSome : {X : Type 0} → (X → Type 0) → Option X → Type 0
IfSome P None = Unit {0}
IfSome P (Some x) = P x

some_if : {X : Type 0} (P : X → Type 0) (b : Bool) (x : X) (o : Option X) → P x → IfSome P o → IfSome P (cond b (Some x) o)
some_if P true x o p q = p
some_if P false x o p q = q

pub found_of : {X : Type 0} (P : X → Type 0) (test : X → Bool) (xs : List X) → Each P xs → IfSome P (find test xs)
found_of P test [] a = tt
found_of P test (x ∷ xs) (p, a) = some_if P (test x) x (find test xs) p (found_of P test xs a)

pub at_of : {X : Type 0} (P : X → Type 0) (xs : List X) (n : ℕ) → Each P xs → IfSome P (slice_get xs n)
at_of P [] n a = tt
at_of P (x ∷ xs) zero (p, a) = p
at_of P (x ∷ xs) (suc n) (p, a) = at_of P xs n a

-- ---- references among references

pub among_front : (ts us : List Reference) (r : Reference) → Among ts r → Among (ts ++ us) r
among_front [] us r a = absurd a
among_front (t ∷ ts) us r (inl e) = inl e
among_front (t ∷ ts) us r (inr a) = inr (among_front ts us r a)

pub among_behind : (ts us : List Reference) (r : Reference) → Among us r → Among (ts ++ us) r
among_behind [] us r a = a
among_behind (t ∷ ts) us r a = inr (among_behind ts us r a)

pub among_split : (ts us : List Reference) (r : Reference) → Among (ts ++ us) r → Among ts r ⊎ Among us r
among_split [] us r a = inr a
among_split (t ∷ ts) us r (inl e) = inl (inl e)
among_split (t ∷ ts) us r (inr a) = later (among_split ts us r a)
  where
    later : Among ts r ⊎ Among us r → ((t ≡ r) ⊎ Among ts r) ⊎ Among us r
    later (inl a) = inl (inr a)
    later (inr a) = inr a
