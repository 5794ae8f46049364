-- The bodies of threads by their numbers, where those are numbered from 0 on.
use Rattle.std.proofs.Common.{◌≡◌, ap, sym, ◌∙◌, ℕ, zero, suc, ◌+◌, ◌-◌, ◌≤◌, true, false, List, [], ◌∷◌, drop, arith}
use Rattle.std.specs.Prelude.{◌==◌, if◌then◌else◌}
use Rattle.std.proofs.lemmas.Bool.Decides.{nat_tests}
use Rattle.std.proofs.lemmas.List.{drop-drop}
use Rattle.rb_tree.specs.declared.span.Span.{Span}
use Rattle.rb_tree.specs.declared.node.Block.{Block}
use Rattle.rb_checker.specs.Events.{block_part, bodies_from}
use Rattle.rb_checker.proofs.AllMade.{Events}
use Rattle.rb_grammar.specs.Tree.{Numbering, Thread}
use Rattle.rb_grammar.specs.Order.{NumberedFrom}

-- the events of the bodies from a number on, of all bodies
abbrev pub bodies_of : List Block → ℕ → ℕ → Events
bodies_of blocks k = bodies_from k (drop k blocks)

own_number : (k : ℕ) → (k + 0 == k) ≡ true
own_number k = grind (arith, nat_tests)

other_number : (k d : ℕ) → (k + suc d == k) ≡ false
other_number k d = grind (arith, nat_tests)

-- the body so many behind the first of a list
body_at : (d k : ℕ) (bs : List Block) (b : Block) (rest : List Block) → drop d bs ≡ b ∷ rest
    → bodies_from k bs (k + d) ≡ (block_part (bodies_from (suc (k + d)) rest) b).events
body_at d k [] b rest e = absurd (nothing_left d e)
  where
    nothing_left : (m : ℕ) → drop {A = Block} m [] ≡ b ∷ rest → ⊥
    nothing_left zero h = cc
    nothing_left (suc m) h = cc
body_at zero k (x ∷ xs) b rest e =
    let next : k + 1 ≡ suc (k + 0) = omega arith in
    ap (λ bs. bodies_from k bs (k + 0)) e
    ∙ ap (λ t. if t then (block_part (bodies_from (k + 1) rest) b).events else bodies_from (k + 1) rest (k + 0)) (own_number k)
    ∙ ap (λ m. (block_part (bodies_from m rest) b).events) next
body_at (suc d) k (x ∷ xs) b rest e =
    let same : k + suc d ≡ (k + 1) + d = omega arith in
    ap (λ t. if t then (block_part (bodies_from (k + 1) xs) x).events else bodies_from (k + 1) xs (k + suc d)) (other_number k d)
    ∙ ap (bodies_from (k + 1) xs) same
    ∙ body_at d (k + 1) xs b rest e
    ∙ ap (λ m. (block_part (bodies_from (suc m) rest) b).events) (sym same)

-- what is left behind the first of what is left
pub left_behind : {A : Type 0} (xs : List A) (k : ℕ) (x : A) (rest : List A) → drop k xs ≡ x ∷ rest → drop (suc k) xs ≡ rest
left_behind xs k x rest e =
    let next : suc k ≡ k + 1 = omega arith in
    ap (λ m. drop m xs) next ∙ sym (drop-drop 1 k xs) ∙ ap (drop 1) e

-- the body of a number, from any number on that is not above it
pub body_known : (blocks : List Block) (j k : ℕ) (b : Block) (rest : List Block) → j ≤ k → drop k blocks ≡ b ∷ rest
    → bodies_of blocks j k ≡ (block_part (bodies_of blocks (suc k)) b).events
body_known blocks j k b rest l e =
    let same : j + (k - j) ≡ k = omega arith in
    let here : drop (k - j) (drop j blocks) ≡ b ∷ rest = drop-drop (k - j) j blocks ∙ ap (λ m. drop m blocks) same ∙ e in
    ap (bodies_of blocks j) (sym same)
    ∙ body_at (k - j) j (drop j blocks) b rest here
    ∙ ap (λ m. (block_part (bodies_from (suc m) rest) b).events) same
    ∙ ap (λ bs. (block_part (bodies_from (suc k) bs) b).events) (sym (left_behind blocks k b rest e))

-- numbers by two numberings that number bodies alike
pub numbered_alike : (n m : Numbering) → ((at : Span) → n.body at ≡ m.body at) → (k : ℕ) (ts : List Thread) → NumberedFrom n k ts → NumberedFrom m k ts
numbered_alike n m alike k [] h = tt
numbered_alike n m alike k (t ∷ more) h = (sym (alike t.at) ∙ h.0, numbered_alike n m alike (suc k) more h.1)
