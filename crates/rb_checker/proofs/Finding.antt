-- The first faults of texts, one behind the other.
use Rattle.std.proofs.Common.{◌≡◌, List, [], ◌∷◌, ◌++◌, Option, refl, sym, ap, ◌∙◌, append_assoc, append-nil}
use Rattle.std.specs.List.{flat_map}
use Rattle.std.proofs.lemmas.Grind.{flat_map-append}
use Rattle.rb_checker.specs.declared.event.Event.{Event}
use Rattle.rb_checker.specs.declared.fault.CheckFault.{CheckFault}
use Rattle.rb_checker.specs.declared.found.Found.{Found}
use Rattle.rb_checker.specs.Crowd.{Uses}
use Rattle.rb_checker.specs.Fault.{first_of, first_of_two}
use Rattle.rb_checker.specs.Findings.{Faults, joined, gathered, firsts}
use Rattle.rb_checker.proofs.Firsts.{first_of_both}

-- what was found, by its parts
pub found_is : (found : Found) (a : Faults) → found.misplaced ≡ first_of a.misplaced → found.params ≡ first_of a.params → found.unsettled ≡ first_of a.unsettled → found.fields ≡ first_of a.fields
    → found ≡ firsts a
found_is found a m p u f =
    ap (λ (o : Option CheckFault). let x : Found = record { misplaced = o; params = found.params; unsettled = found.unsettled; fields = found.fields } in x) m
    ∙ ap (λ (o : Option CheckFault). let x : Found = record { misplaced = first_of a.misplaced; params = o; unsettled = found.unsettled; fields = found.fields } in x) p
    ∙ ap (λ (o : Option CheckFault). let x : Found = record { misplaced = first_of a.misplaced; params = first_of a.params; unsettled = o; fields = found.fields } in x) u
    ∙ ap (λ (o : Option CheckFault). let x : Found = record { misplaced = first_of a.misplaced; params = first_of a.params; unsettled = first_of a.unsettled; fields = o } in x) f

pub found_both : (one later both : Found) (a b : Faults) → one ≡ firsts a → later ≡ firsts b
    → both.misplaced ≡ first_of_two one.misplaced later.misplaced → both.params ≡ first_of_two one.params later.params
    → both.unsettled ≡ first_of_two one.unsettled later.unsettled → both.fields ≡ first_of_two one.fields later.fields
    → both ≡ firsts (joined a b)
found_both one later both a b e l m p u f =
    found_is both (joined a b)
    (first_of_both a.misplaced b.misplaced (a.misplaced ++ b.misplaced) one.misplaced later.misplaced both.misplaced refl (ap (λ (x : Found). x.misplaced) e) (ap (λ (x : Found). x.misplaced) l) m)
    (first_of_both a.params b.params (a.params ++ b.params) one.params later.params both.params refl (ap (λ (x : Found). x.params) e) (ap (λ (x : Found). x.params) l) p)
    (first_of_both a.unsettled b.unsettled (a.unsettled ++ b.unsettled) one.unsettled later.unsettled both.unsettled refl (ap (λ (x : Found). x.unsettled) e) (ap (λ (x : Found). x.unsettled) l) u)
    (first_of_both a.fields b.fields (a.fields ++ b.fields) one.fields later.fields both.fields refl (ap (λ (x : Found). x.fields) e) (ap (λ (x : Found). x.fields) l) f)

module _ {A : Type 0} where
  flat_map-more : {B : Type 0} (f : A → List B) (xs more : List A) (x : A) → more ≡ xs ++ x ∷ [] → flat_map f more ≡ flat_map f xs ++ f x
  flat_map-more f xs more x is = ap (flat_map f) is ∙ flat_map-append f xs (x ∷ []) ∙ ap (λ l. flat_map f xs ++ l) (append-nil (f x))

  -- with one text more
  pub found_more : (f : A → Faults) (xs more : List A) (x : A) (found next new : Found) → more ≡ xs ++ x ∷ [] → found ≡ firsts (gathered f xs) → next ≡ firsts (f x)
      → ((a b : Faults) → found ≡ firsts a → next ≡ firsts b → new ≡ firsts (joined a b)) → new ≡ firsts (gathered f more)
  found_more f xs more x found next new is e n joins =
      let both = joins (gathered f xs) (f x) e n in
      found_is new (gathered f more)
      (ap (λ (y : Found). y.misplaced) both ∙ ap first_of (sym (flat_map-more (λ y. (f y).misplaced) xs more x is)))
      (ap (λ (y : Found). y.params) both ∙ ap first_of (sym (flat_map-more (λ y. (f y).params) xs more x is)))
      (ap (λ (y : Found). y.unsettled) both ∙ ap first_of (sym (flat_map-more (λ y. (f y).unsettled) xs more x is)))
      (ap (λ (y : Found). y.fields) both ∙ ap first_of (sym (flat_map-more (λ y. (f y).fields) xs more x is)))

  -- variables, with those of one text more
  pub variables_more : (g : Event → Uses) (events : A → List Event) (xs more : List A) (x : A) (start old new : Uses) → more ≡ xs ++ x ∷ []
      → old ≡ start ++ flat_map g (flat_map events xs) → new ≡ old ++ flat_map g (events x) → new ≡ start ++ flat_map g (flat_map events more)
  variables_more g events xs more x start old new is o n =
      n ∙ ap (λ us. us ++ flat_map g (events x)) o ∙ append_assoc start (flat_map g (flat_map events xs)) (flat_map g (events x))
      ∙ ap (λ us. start ++ us) (sym (ap (flat_map g) (flat_map-more events xs more x is) ∙ flat_map-append g (flat_map events xs) (events x)))

-- variables of three texts, one behind the other
pub uses_of_three : (g : Event → Uses) (xs ys zs : List Event) (start a b c : Uses) → a ≡ start ++ flat_map g xs → b ≡ a ++ flat_map g ys → c ≡ b ++ flat_map g zs
    → c ≡ start ++ flat_map g (xs ++ (ys ++ zs))
uses_of_three g xs ys zs start a b c x y z =
    z ∙ ap (λ us. us ++ flat_map g zs) (y ∙ ap (λ us. us ++ flat_map g ys) x) ∙ ap (λ us. us ++ flat_map g zs) (append_assoc start (flat_map g xs) (flat_map g ys))
    ∙ append_assoc start (flat_map g xs ++ flat_map g ys) (flat_map g zs)
    ∙ ap (λ us. start ++ us)
    (append_assoc (flat_map g xs) (flat_map g ys) (flat_map g zs) ∙ ap (λ us. flat_map g xs ++ us) (sym (flat_map-append g ys zs)) ∙ sym (flat_map-append g xs (ys ++ zs)))
