-- A tree says what its node is: how high it is, where it stands, and which names and thread bodies are in it.
use Rattle.std.specs.Prelude.{◌≡◌, ℕ, ◌≤◌, List, [], ◌∷◌, map}
use Rattle.rb_tree.specs.declared.node.Node.{out-Node}
use Rattle.rb_tree.specs.Height.{height, block_height}
use Rattle.rb_tree.specs.Place.{place}
use Rattle.rb_grammar.specs.Tree.{Word, Numbering, Thread, Tree, MethodTree, ClassTree, Items, nodes, method_by, class_by}

-- a fact of each element of a list
abbrev pub Each : {X : Type 0} → (X → Type 0) → List X → Type 0
Each P [] = Unit {0}
Each P (x ∷ xs) = P x × Each P xs

-- two numberings that give these names, and the bodies of these threads, the same numbers
pub record Agree (names : List Word) (threads : List Thread) (n m : Numbering) : Type 0 where
  pub named : Each (λ w. n.name w.text ≡ m.name w.text) names
  pub bodied : Each (λ t. n.body t.at ≡ m.body t.at) threads

-- what a tree says of its node is so, and no node in it is higher than limit
pub record IsFaithful (limit : ℕ) (a : Tree) : Type 0 where
  pub measured : (n : Numbering) → height (a.node n) ≡ a.height
  pub placed : (n : Numbering) → place (out-Node (a.node n)) ≡ a.at
  pub low : a.height ≤ limit
  -- its node, and the bodies of its threads, hang on the numbers of its names and threads alone
  pub named : (n m : Numbering) → Agree a.names a.threads n m → a.node n ≡ a.node m
  pub bodied : (n m : Numbering) → Agree a.names a.threads n m → Each (λ t. t.block n ≡ t.block m) a.threads
  -- and no node in those bodies is higher than limit
  pub bodies_low : (n : Numbering) → Each (λ t. block_height (t.block n) ≤ limit) a.threads

-- each statement of a method is faithful, and each method of a class
abbrev pub MethodIsFaithful : ℕ → MethodTree → Type 0
MethodIsFaithful limit m = Each (IsFaithful limit) m.body

abbrev pub ClassIsFaithful : ℕ → ClassTree → Type 0
ClassIsFaithful limit c = Each (MethodIsFaithful limit) c.members.methods

-- two numberings make one script of these items
pub record SameScript (n m : Numbering) (found : Items) : Type 0 where
  pub classes : map (class_by n) found.classes ≡ map (class_by m) found.classes
  pub functions : map (method_by n) found.functions ≡ map (method_by m) found.functions
  pub main : nodes n found.main ≡ nodes m found.main
  pub bodies : map (λ t. t.block n) found.threads ≡ map (λ t. t.block m) found.threads

-- the trees of a script are faithful, and its names and threads are all that its numbers hang on
pub record ItemsAreFaithful (limit : ℕ) (found : Items) : Type 0 where
  pub classes : Each (ClassIsFaithful limit) found.classes
  pub functions : Each (MethodIsFaithful limit) found.functions
  pub main : Each (IsFaithful limit) found.main
  pub bodies_low : (n : Numbering) → Each (λ t. block_height (t.block n) ≤ limit) found.threads
  pub named : (n m : Numbering) → Agree found.names found.threads n m → SameScript n m found
