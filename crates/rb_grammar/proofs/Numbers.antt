-- The bodies of threads are numbered from 0 in the order of the text.
use Rattle.std.proofs.Common.{◌≡◌, ◌≢◌, ℕ, ◌+◌, ◌<◌, Bool, true, false, not, cond, nat_eq, List, [], ◌∷◌, ◌++◌, length, position, refl, sym, ◌∙◌, ap, subst, append_assoc, length-append, arith}
use Rattle.std.specs.List.{position_or_len}
use Rattle.std.proofs.lemmas.Bool.Decides.{nat_tests}
use Rattle.rb_tree.proofs.Numbering.{position_within}
use Rattle.rb_grammar.specs.Tree.{Thread, Items}
use Rattle.rb_grammar.specs.Faithful.{Each}
use Rattle.rb_grammar.specs.Program.{numbering_of, place_or_first}
use Rattle.rb_grammar.specs.Order.{blocks_of, Distinct, NumberedFrom}
use Rattle.rb_grammar.specs.Laws.{NumbersBodies}

-- whether the block of a thread stands at this place
abbrev At : ℕ → Thread → Bool
At place t = nat_eq t.at.from place

differ : (a b : ℕ) → a ≢ b → nat_eq a b ≡ false
differ a b no_same = grind (arith, nat_tests)

same : (a : ℕ) → nat_eq a a ≡ true
same a = grind (arith, nat_tests)

-- where no thread before stands at a place, and the next does, the first that stands there is behind those before
first_at : (before : List Thread) (t : Thread) (more : List Thread) → Each (λ place. place ≢ t.at.from) (blocks_of before)
    → position_or_len (At t.at.from) (before ++ t ∷ more) ≡ length before
first_at [] t more h = ap (λ b. cond (not b) (1 + position_or_len (At t.at.from) more) 0) (same t.at.from)
first_at (x ∷ before) t more h =
    ap (λ b. cond (not b) (1 + position_or_len (At t.at.from) (before ++ t ∷ more)) 0) (differ x.at.from t.at.from h.0)
    ∙ ap (λ n. 1 + n) (first_at before t more h.1) ∙ omega arith

-- its number is how many are before it
number_at : (before : List Thread) (t : Thread) (more : List Thread) → Each (λ place. place ≢ t.at.from) (blocks_of before)
    → place_or_first (position (At t.at.from) (before ++ t ∷ more)) ≡ length before
number_at before t more h =
    let here = first_at before t more h in
    let few : length before < length (before ++ t ∷ more) = omega (arith, length-append before (t ∷ more)) in
    sym (ap place_or_first (position_within (At t.at.from) (before ++ t ∷ more) (length before) (sym here) few))

-- places that differ from one more
with_last : (before : List Thread) (t : Thread) (place : ℕ) → Each (λ other. other ≢ place) (blocks_of before) → t.at.from ≢ place
    → Each (λ other. other ≢ place) (blocks_of (before ++ t ∷ []))
with_last [] t place h no_same = (no_same, tt)
with_last (x ∷ before) t place h no_same = (h.0, with_last before t place h.1 no_same)

-- and each place behind differs from all of them
all_clear : (before : List Thread) (t : Thread) (more : List Thread) → Each (λ other. t.at.from ≢ other) (blocks_of more)
    → Each (λ place. Each (λ other. other ≢ place) (blocks_of before)) (blocks_of more)
    → Each (λ place. Each (λ other. other ≢ place) (blocks_of (before ++ t ∷ []))) (blocks_of more)
all_clear before t [] own h = tt
all_clear before t (x ∷ more) own h = (with_last before t x.at.from h.0 own.0, all_clear before t more own.1 h.1)

-- the threads behind some others are numbered from the number of those on
numbered_behind : (found : Items) (before more : List Thread) → found.threads ≡ before ++ more
    → Distinct (blocks_of more) → Each (λ place. Each (λ other. other ≢ place) (blocks_of before)) (blocks_of more)
    → NumberedFrom (numbering_of found) (length before) more
numbered_behind found before [] split apart clear = tt
numbered_behind found before (t ∷ more) split apart clear = (
  ap (λ ts. place_or_first (position (At t.at.from) ts)) split ∙ number_at before t more clear.0,
  subst (λ n. NumberedFrom (numbering_of found) n more) (length-append before (t ∷ []) ∙ omega arith)
      (numbered_behind found (before ++ t ∷ []) more (split ∙ sym (append_assoc before (t ∷ []) more)) apart.1 (all_clear before t more apart.0 clear.1)),
)

nothing_before : (places : List ℕ) → Each (λ place. Each (λ other. other ≢ place) []) places
nothing_before [] = tt
nothing_before (x ∷ xs) = (tt, nothing_before xs)

pub bodies_numbered : NumbersBodies
bodies_numbered found apart = numbered_behind found [] found.threads refl apart (nothing_before (blocks_of found.threads))
