-- References that are noted one after the other.
use Rattle.std.proofs.Common.{◌≡◌, ◌<◌, ◌≤◌, ◌+◌, ℕ, zero, suc, List, [], ◌∷◌, ◌++◌, take, drop, length, get_or, inl, inr, refl, sym, ap, subst, ◌∙◌, arith}
use Rattle.std.proofs.lemmas.List.{take_all, take-append-drop}
use Rattle.std.proofs.lemmas.Grind.{flat_map-append}
use Rattle.std.specs.List.{flat_map}
use Rattle.rb_model.specs.declared.value.Ref.{Ref}
use Rattle.rb_shared.specs.Lists.{Has}
use Rattle.rb_shared.proofs.Runs.{has_front}
use Rattle.publish_barrier.specs.Known.{with_all_noted, NotesOf}
use Rattle.publish_barrier.proofs.Noting.{all_noted, all_on, notes_on}
use Rattle.publish_barrier.proofs.Rows.{flat-append, taken_next}

-- what the first n of some tell is noted
abbrev pub NotedOf : {X : Type 0} → (X → List Ref) → List X → ℕ → (old now : List Ref) → Type 0
NotedOf tells xs n old now = now ≡ with_all_noted old (flat_map tells (take n xs))

-- more may be told than was
notes_wider : (old new xs ys : List Ref) → NotesOf old xs new → NotesOf old (xs ++ ys) new
notes_wider old new xs ys f r h = elim (f r h) [ inl i ↦ inl i | inr i ↦ inr (has_front xs ys r i) ]

module _ {X : Type 0} (tells : X → List Ref) (xs : List X) (n : ℕ) (x : X) (old now new : List Ref) (inside : n < length xs) (is : x ≡ get_or xs n x)
    (sofar : NotedOf tells xs n old now) where
  next_tells : flat_map tells (take (n + 1) xs) ≡ flat_map tells (take n xs) ++ tells x
  next_tells = ap (flat_map tells) (taken_next xs n x inside is) ∙ flat-append tells (take n xs) x

  -- the next is noted
  pub told_next : new ≡ with_all_noted now (tells x) → NotedOf tells xs (n + 1) old new
  told_next e = all_on old now new (flat_map tells (take n xs)) (tells x) sofar e ∙ ap (with_all_noted old) (sym next_tells)

  -- it was noted in part
  pub told_some : NotesOf now (tells x) new → NotesOf old (flat_map tells xs) new
  told_some f =
      let front = notes_on old now new (flat_map tells (take n xs)) (tells x) (all_noted old now (flat_map tells (take n xs)) sofar) f in
      let wide = notes_wider old new (flat_map tells (take (n + 1) xs)) (flat_map tells (drop (n + 1) xs)) (subst (λ rs. NotesOf old rs new) (sym next_tells) front) in
      subst (λ rs. NotesOf old rs new) (sym (flat_map-append tells (take (n + 1) xs) (drop (n + 1) xs)) ∙ ap (flat_map tells) (take-append-drop (n + 1) xs)) wide

-- all of them are
pub told_all : {X : Type 0} (tells : X → List Ref) (xs : List X) (n : ℕ) (old now : List Ref) → length xs ≤ n → NotedOf tells xs n old now → now ≡ with_all_noted old (flat_map tells xs)
told_all tells xs n old now h e = e ∙ ap (λ ys. with_all_noted old (flat_map tells ys)) (take_all n xs h)

pub same_get : {X : Type 0} (xs : List X) (n : ℕ) (d e : X) → n < length xs → get_or xs n d ≡ get_or xs n e
same_get [] n d e h = absurd (omega (arith, h))
same_get (x ∷ xs) zero d e h = refl
same_get (x ∷ xs) (suc n) d e h = same_get xs n d e (omega (arith, h))

-- a reference tells itself
pub one_each : (rs : List Ref) → flat_map (λ (r : Ref). r ∷ []) rs ≡ rs
one_each [] = refl
one_each (r ∷ rs) = ap (λ ss. r ∷ ss) (one_each rs)
