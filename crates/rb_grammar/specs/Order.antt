-- The names and the thread bodies of a script stand in the order of its text.
use Rattle.std.specs.Prelude.{◌≡◌, ◌≢◌, ℕ, suc, ◌≤◌, List, [], ◌∷◌, map}
use Rattle.rb_grammar.specs.Tree.{Word, Thread, Numbering}
use Rattle.rb_grammar.specs.Faithful.{Each}

-- places from one up to another, none before the one in front of it
abbrev pub Rising : ℕ → ℕ → List ℕ → Type 0
Rising low high [] = low ≤ high
Rising low high (place ∷ places) = (low ≤ place) × Rising place high places

-- where the tokens that give names stand
abbrev pub places_of : List Word → List ℕ
places_of = map (λ w. w.at.from)

-- where the blocks of threads stand
abbrev pub blocks_of : List Thread → List ℕ
blocks_of = map (λ t. t.at.from)

-- places that all differ
abbrev pub Distinct : List ℕ → Type 0
Distinct [] = Unit {0}
Distinct (place ∷ places) = Each (λ other. place ≢ other) places × Distinct places

-- threads whose bodies have the numbers from one on, in their order
abbrev pub NumberedFrom : Numbering → ℕ → List Thread → Type 0
NumberedFrom n number [] = Unit {0}
NumberedFrom n number (t ∷ more) = (n.body t.at ≡ number) × NumberedFrom n (suc number) more
