-- What holds of each of a list, with those before it.
use Rattle.std.proofs.Common.{◌⊎◌, inl, inr, List, [], ◌∷◌, ◌++◌, refl, sym, subst}
use Rattle.std.specs.List.{flat_map}
use Rattle.std.proofs.lemmas.List.{append-nil, append_assoc}
use Rattle.rb_model.specs.Values.{Reference}
use Rattle.rb_model.specs.Log.{Entry}
use Rattle.rb_shared.specs.Lists.{Has}
use Rattle.rb_closure.specs.Closure.{Each, told_by, NamesTold, EachNamesTold}

-- ---- each, with those before it

abbrev pub EachAfter : {X : Type 0} → (List X → X → Type 0) → List X → List X → Type 0
EachAfter P done [] = Unit {0}
EachAfter P done (x ∷ xs) = P done x × EachAfter P (done ++ x ∷ []) xs

pub after_last : {X : Type 0} (P : List X → X → Type 0) (done xs : List X) (x : X) → EachAfter P done xs → P (done ++ xs) x → EachAfter P done (xs ++ x ∷ [])
after_last P done [] x a p = (subst (λ d. P d x) (append-nil done) p, tt)
after_last P done (y ∷ xs) x (q, a) p = (q, after_last P (done ++ y ∷ []) xs x a (subst (λ d. P d x) (sym (append_assoc done (y ∷ []) xs)) p))

pub after_at : {X : Type 0} (P : List X → X → Type 0) (done xs ys : List X) (x : X) → EachAfter P done (xs ++ x ∷ ys) → P (done ++ xs) x
after_at P done [] ys x (p, a) = subst (λ d. P d x) (sym (append-nil done)) p
after_at P done (y ∷ xs) ys x (q, a) = subst (λ d. P d x) (append_assoc done (y ∷ []) xs) (after_at P (done ++ y ∷ []) xs ys x a)

-- one entry names what was told before it
pub names_told_at : (told : List Reference) (xs ys : List Entry) (e : Entry) → EachNamesTold told (xs ++ e ∷ ys) → NamesTold (told ++ flat_map told_by xs) e
names_told_at told [] ys e (p, a) = subst (λ ts. NamesTold ts e) (sym (append-nil told)) p
names_told_at told (x ∷ xs) ys e (q, a) = subst (λ ts. NamesTold ts e) (append_assoc told (told_by x) (flat_map told_by xs)) (names_told_at (told ++ told_by x) xs ys e a)

-- ---- one of a list

pub each_at : {X : Type 0} (P : X → Type 0) (xs ys : List X) (x : X) → Each P (xs ++ x ∷ ys) → P x
each_at P [] ys x a = a.0
each_at P (y ∷ xs) ys x a = each_at P xs ys x a.1

pub has_split : {X : Type 0} (xs ys : List X) (x : X) → Has (xs ++ ys) x → Has xs x ⊎ Has ys x
has_split [] ys x h = inr h
has_split (y ∷ xs) ys x (inl e) = inl (inl e)
has_split (y ∷ xs) ys x (inr h) = later (has_split xs ys x h)
  where
    later : Has xs x ⊎ Has ys x → Has (y ∷ xs) x ⊎ Has ys x
    later (inl a) = inl (inr a)
    later (inr a) = inr a

pub each_of_has : {X : Type 0} (P : X → Type 0) (xs : List X) → ((x : X) → Has xs x → P x) → Each P xs
each_of_has P [] f = tt
each_of_has P (x ∷ xs) f = (f x (inl refl), each_of_has P xs (λ y h. f y (inr h)))

pub has_of_each : {X : Type 0} (P : X → Type 0) (xs : List X) (x : X) → Each P xs → Has xs x → P x
has_of_each P [] x a h = absurd h
has_of_each P (y ∷ xs) x (p, a) (inl e) = subst P (sym e) p
has_of_each P (y ∷ xs) x (p, a) (inr h) = has_of_each P xs x a h
