-- Conditions and the bodies beside them.
use Rattle.std.proofs.Common.{◌≡◌, ℕ, List, [], ◌∷◌, ◌++◌, sym, ap, ◌∙◌, arith, max, append_assoc, append-nil}
use Rattle.std.proofs.lemmas.List.{map-append}
use Rattle.rb_tree.specs.Height.{highest}
use Rattle.rb_grammar.specs.Tree.{Tree, heights, names_of, threads_of}
use Rattle.rb_builder.specs.Walk.{Walk}
use Rattle.rb_builder.specs.Said.{IsSaid, Joined}
use Rattle.rb_builder.specs.declared.said.Said.{Said}
use Rattle.rb_builder.proofs.Saying.{said-joined, said_same}
use Rattle.rb_builder.proofs.Rows.{highest-append, threads_of-append}

-- the highest of a condition and two bodies
pub bodies_high : (h : ℕ) (first second : List Tree)
    → max h (max (highest (heights first)) (highest (heights second))) ≡ highest (h ∷ heights (first ++ second))
bodies_high h first second =
    sym (ap (λ x. max h (highest x)) (map-append (λ b. b.height) first second) ∙ ap (λ x. max h x) (highest-append (heights first) (heights second)))

-- a condition and two bodies, each behind the one before
pub bodies_say : (w : Walk) (a : Tree) (first second : List Tree) (s t u mid both : Said)
    → IsSaid w s a.names a.threads → IsSaid w t (names_of first) (threads_of first) → IsSaid w u (names_of second) (threads_of second)
    → Joined s t mid → Joined mid u both
    → IsSaid w both (a.names ++ (names_of first ++ names_of second)) (a.threads ++ threads_of (first ++ second))
bodies_say w a first second s t u mid both x y z j k =
    said_same w both (append_assoc a.names (names_of first) (names_of second))
    (append_assoc a.threads (threads_of first) (threads_of second) ∙ ap (λ q. a.threads ++ q) (sym (threads_of-append first second)))
    (said-joined w mid u both (a.names ++ names_of first) (names_of second) (a.threads ++ threads_of first) (threads_of second)
    (said-joined w s t mid a.names (names_of first) a.threads (threads_of first) x y j) z k)

-- the highest of a tree alone and one behind it
pub behind_high : (m n : ℕ) → max (max m 0) n ≡ max m (max n 0)
behind_high m n = grind arith

-- a tree alone, and one behind it
pub behind_says : (w : Walk) (a b : Tree) (s t both : Said)
    → IsSaid w s (names_of (a ∷ [])) (threads_of (a ∷ [])) → IsSaid w t b.names b.threads → Joined s t both
    → IsSaid w both (a.names ++ b.names) (threads_of (a ∷ b ∷ []))
behind_says w a b s t both x y j =
    said_same w both (ap (λ q. q ++ b.names) (append-nil a.names))
    (ap (λ q. q ++ b.threads) (append-nil a.threads) ∙ ap (λ q. a.threads ++ q) (sym (append-nil b.threads)))
    (said-joined w s t both (a.names ++ []) b.names (a.threads ++ []) b.threads x y j)
