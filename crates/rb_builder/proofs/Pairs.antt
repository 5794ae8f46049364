-- The pairs of hashes, one behind the other.
use Rattle.std.proofs.Common.{◌≡◌, ℕ, List, [], ◌∷◌, ◌++◌, refl, sym, ap, ◌∙◌, arith, max, append_assoc, append-nil}
use Rattle.std.specs.Prelude.{map}
use Rattle.std.proofs.lemmas.List.{map-append}
use Rattle.rb_tree.specs.declared.node.Node.{Node}
use Rattle.rb_tree.specs.Height.{highest}
use Rattle.rb_grammar.specs.Tree.{Tree, heights, names_of, threads_of, flat}
use Rattle.rb_builder.specs.Walk.{Walk, gathering, numbering}
use Rattle.rb_builder.specs.declared.grown.Grown as grown
use Rattle.rb_builder.specs.declared.literal.PairRow as row
use Rattle.rb_builder.specs.declared.said.Said.{Said}
use Rattle.rb_builder.specs.Said.{IsSaid, Joined}
use Rattle.rb_builder.specs.Grown.{Made, Keeps, IsTree}
use Rattle.rb_builder.specs.Literal.{ArePairs}
use Rattle.rb_builder.proofs.Saying.{said-joined, said_same}
use Rattle.rb_builder.proofs.Rows.{highest-append, names_of-append, threads_of-append}

pub flat-append : (a b : List (Tree × Tree)) → flat (a ++ b) ≡ flat a ++ flat b
flat-append [] b = refl
flat-append (p ∷ a) b = ap (λ x. p.0 ∷ p.1 ∷ x) (flat-append a b)

-- a pair that is kept stands behind the rest
pairs_kept : (w : Walk) (key value : Node) (old new : List (Node × Node)) (trees : List (Tree × Tree)) (a b : Tree) → Keeps w (key, value) old new
    → Made w old (λ n. map (λ p. (p.0.node n, p.1.node n)) trees) → Made w key a.node → Made w value b.node
    → Made w new (λ n. map (λ p. (p.0.node n, p.1.node n)) (trees ++ (a, b) ∷ []))
pairs_kept gathering key value old new trees a b k h m o = tt
pairs_kept (numbering n) key value old new trees a b k h m o =
    k ∙ ap (λ x. x ++ (key, value) ∷ []) h
    ∙ ap (λ x. map (λ p. (p.0.node n, p.1.node n)) trees ++ (x, value) ∷ []) m
    ∙ ap (λ x. map (λ p. (p.0.node n, p.1.node n)) trees ++ (a.node n, x) ∷ []) o
    ∙ sym (map-append (λ p. (p.0.node n, p.1.node n)) trees ((a, b) ∷ []))

-- what a key says and then its value, behind the rest
pair_says : (w : Walk) (all : List Tree) (a b : Tree) (s t u mid both : Said)
    → IsSaid w s (names_of all) (threads_of all) → IsSaid w t a.names a.threads → IsSaid w u b.names b.threads
    → Joined s t mid → Joined mid u both → IsSaid w both (names_of (all ++ a ∷ b ∷ [])) (threads_of (all ++ a ∷ b ∷ []))
pair_says w all a b s t u mid both x y z j k =
    said_same w both
    (append_assoc (names_of all) a.names b.names ∙ ap (λ q. names_of all ++ (a.names ++ q)) (sym (append-nil b.names)) ∙ sym (names_of-append all (a ∷ b ∷ [])))
    (append_assoc (threads_of all) a.threads b.threads ∙ ap (λ q. threads_of all ++ (a.threads ++ q)) (sym (append-nil b.threads)) ∙ sym (threads_of-append all (a ∷ b ∷ [])))
    (said-joined w mid u both (names_of all ++ a.names) b.names (threads_of all ++ a.threads) b.threads
    (said-joined w s t mid (names_of all) a.names (threads_of all) a.threads x y j) z k)

pair_high : (l m n : ℕ) → max l (max m n) ≡ max l (max m (max n 0))
pair_high l m n = grind arith

-- a pair is added behind others
pub pair_pushed : (w : Walk) (old new : row.PairRow) (g h : grown.Grown) (mid : Said) (trees : List (Tree × Tree)) (a b : Tree)
    → new.height ≡ max old.height (max g.height h.height) → Keeps w (g.node, h.node) old.pairs new.pairs
    → Joined old.said g.said mid → Joined mid h.said new.said
    → ArePairs w old trees → IsTree w g a → IsTree w h b → ArePairs w new (trees ++ (a, b) ∷ [])
pair_pushed w old new g h mid trees a b height made first second r t u = record {
  height = rw (flat-append trees ((a, b) ∷ []), map-append (λ x. x.height) (flat trees) (a ∷ b ∷ []), highest-append (heights (flat trees)) (a.height ∷ b.height ∷ []), height, r.height, t.height, u.height)
      (pair_high (highest (heights (flat trees))) a.height b.height);
  pairs = pairs_kept w g.node h.node old.pairs new.pairs trees a b made r.pairs t.node u.node;
  said = rw (flat-append trees ((a, b) ∷ [])) (pair_says w (flat trees) a b old.said g.said h.said mid new.said r.said t.said u.said first second);
}
