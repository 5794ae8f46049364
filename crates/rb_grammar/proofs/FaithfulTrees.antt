-- Each making of a tree makes a faithful one of faithful ones, where it is not too high, and never more than one too high.
use Rattle.std.proofs.Common.{◌≡◌, ℕ, suc, ◌≤◌, max, List, [], ◌∷◌, ◌++◌, map, Some, None, refl, ◌∙◌, arith, rules}
use Rattle.std.specs.Prelude.{ℤ}
use Rattle.rb_tree.specs.declared.span.Span.{Span}
use Rattle.rb_tree.specs.declared.node.Node.{Node, out-Node, the_lemmas}
use Rattle.rb_tree.specs.declared.node.Node.TheVariants as node
use Rattle.rb_tree.specs.declared.node.Param.{Param}
use Rattle.rb_tree.specs.declared.node.Block.{roll-Block}
use Rattle.rb_tree.specs.declared.node.Target.TheVariants as target
use Rattle.rb_tree.specs.declared.node.AssignOp.{AssignOp}
use Rattle.rb_tree.specs.Height.{height, highest, highest_pair, piece_height, pair_heights, block_height}
use Rattle.rb_tree.specs.Place.{place}
use Rattle.rb_tree.proofs.Heights.{height-int, height-sym, height-str, height-array, height-hash, height-local, height-field, height-global}
use Rattle.rb_tree.proofs.Heights.{height-set_local, height-set_field, height-set_global, height-store, height-op_assign, height-call, height-new}
use Rattle.rb_tree.proofs.Heights.{height-thread_new, height-and, height-or, height-not, height-if, height-while, height-return}
use Rattle.rb_tree.proofs.Heights.{piece_height-text, piece_height-code, block_height-body}
use Rattle.rb_tree.proofs.Heights.{target_height-local, target_height-field, target_height-global, target_height-index, target_height-attribute}
use Rattle.rb_grammar.proofs.Placed.{place-int, place-sym, place-str, place-array, place-hash, place-local, place-field, place-global}
use Rattle.rb_grammar.proofs.Placed.{place-set_local, place-set_field, place-set_global, place-store, place-op_assign, place-call, place-new}
use Rattle.rb_grammar.proofs.Placed.{place-thread_new, place-and, place-or, place-not, place-if, place-while, place-return}
use Rattle.rb_grammar.specs.Tree.{Text, Word, Numbering, Thread, Tree, BlockTree, PieceTree, TargetTree}
use Rattle.rb_grammar.specs.Tree.{heights, nodes, names_of, threads_of, texts, params_by, block_by, block_names, code_of, piece_by, flat}
use Rattle.rb_grammar.specs.Tree as tree
use Rattle.rb_grammar.specs.Faithful.{Each, IsFaithful}
use Rattle.rb_grammar.proofs.Each.{each_left, each_right, each_append, each_map}

-- what two numberings have in common
abbrev pub SameNames : Numbering → Numbering → List Word → Type 0
SameNames n m = Each (λ w. n.name w.text ≡ m.name w.text)

abbrev pub SameBodies : Numbering → Numbering → List Thread → Type 0
SameBodies n m = Each (λ t. n.body t.at ≡ m.body t.at)

-- they make the same of the blocks of threads, and of the node of a tree
abbrev pub SameBlocks : Numbering → Numbering → List Thread → Type 0
SameBlocks n m = Each (λ t. t.block n ≡ t.block m)

abbrev pub SameNode : Numbering → Numbering → Tree → Type 0
SameNode n m a = a.node n ≡ a.node m

-- no node in these blocks is higher than limit
abbrev pub LowBlocks : ℕ → Numbering → List Thread → Type 0
LowBlocks limit n = Each (λ t. block_height (t.block n) ≤ limit)

-- what a tree says of its height is so
abbrev pub Measured : Numbering → Tree → Type 0
Measured n a = height (a.node n) ≡ a.height

-- names that two numberings number alike, in a list of two and in each of them
pub names_left : (n m : Numbering) (xs ys : List Word) → SameNames n m (xs ++ ys) → SameNames n m xs
names_left n m = each_left (λ w. n.name w.text ≡ m.name w.text)

pub names_right : (n m : Numbering) (xs ys : List Word) → SameNames n m (xs ++ ys) → SameNames n m ys
names_right n m = each_right (λ w. n.name w.text ≡ m.name w.text)

pub names_append : (n m : Numbering) (xs ys : List Word) → SameNames n m xs → SameNames n m ys → SameNames n m (xs ++ ys)
names_append n m = each_append (λ w. n.name w.text ≡ m.name w.text)

-- the names of two lists of trees
names_of_both : (n m : Numbering) (xs ys : List Tree) → SameNames n m (names_of xs) → SameNames n m (names_of ys) → SameNames n m (names_of (xs ++ ys))
names_of_both n m [] ys h k = k
names_of_both n m (x ∷ xs) ys h k =
    names_append n m x.names (names_of (xs ++ ys)) (names_left n m x.names (names_of xs) h) (names_of_both n m xs ys (names_right n m x.names (names_of xs) h) k)

-- a name between two lists of names
names_round : (n m : Numbering) (xs : List Word) (x : Word) (ys : List Word) → SameNames n m (xs ++ x ∷ ys) → SameNames n m (xs ++ ys)
names_round n m xs x ys h = names_append n m xs ys (names_left n m xs (x ∷ ys) h) (names_right n m xs (x ∷ ys) h).1

-- the names of one tree, and of two
names_of_one : (n m : Numbering) (xs : List Word) → SameNames n m xs → SameNames n m (xs ++ [])
names_of_one n m xs h = names_append n m xs [] h tt

names_of_two : (n m : Numbering) (xs ys : List Word) → SameNames n m (xs ++ ys) → SameNames n m (xs ++ (ys ++ []))
names_of_two n m xs ys h = names_append n m xs (ys ++ []) (names_left n m xs ys h) (names_of_one n m ys (names_right n m xs ys h))

-- ---- lists of trees, parameters, blocks, pieces and pairs: how high they are, and that they are the same where what is in them is

nodes_measured : (n : Numbering) (xs : List Tree) → Each (Measured n) xs → highest (map height (nodes n xs)) ≡ highest (heights xs)
nodes_measured n [] h = refl
nodes_measured n (x ∷ xs) h = omega (arith, nodes_measured n xs h.1)

pub nodes_same : (n m : Numbering) (xs : List Tree) → Each (SameNode n m) xs → nodes n xs ≡ nodes m xs
nodes_same n m [] h = refl
nodes_same n m (x ∷ xs) h = cc (nodes_same n m xs h.1, h.0)

heights_append : (xs ys : List Tree) → highest (heights (xs ++ ys)) ≡ max (highest (heights xs)) (highest (heights ys))
heights_append [] ys = omega arith
heights_append (x ∷ xs) ys = omega (arith, heights_append xs ys)

pub params_same : (n m : Numbering) (ws : List Word) → SameNames n m ws → params_by n ws ≡ params_by m ws
params_same n m [] h = refl
params_same n m (w ∷ ws) h = λ i. record { name = h.0 i; at = w.at } ∷ params_same n m ws h.1 i

block_same : (n m : Numbering) (b : BlockTree) → SameNames n m b.params → Each (SameNode n m) b.body → block_by n b ≡ block_by m b
block_same n m b h k = λ i. roll-Block (record { params = params_same n m b.params h i; body = nodes_same n m b.body k i; at = b.at })

pieces_measured : (n : Numbering) (pieces : List PieceTree) → Each (Measured n) (code_of pieces)
    → highest (map piece_height (map (piece_by n) pieces)) ≡ highest (heights (code_of pieces))
pieces_measured n [] h = refl
pieces_measured n (tree.bytes text ∷ more) h = omega (arith, pieces_measured n more h, piece_height-text text)
pieces_measured n (tree.code a ∷ more) h = omega (arith, pieces_measured n more h.1, piece_height-code (a.node n))

pieces_same : (n m : Numbering) (pieces : List PieceTree) → Each (SameNode n m) (code_of pieces) → map (piece_by n) pieces ≡ map (piece_by m) pieces
pieces_same n m [] h = refl
pieces_same n m (tree.bytes text ∷ more) h = cc (pieces_same n m more h)
pieces_same n m (tree.code a ∷ more) h = cc (pieces_same n m more h.1, h.0)

abbrev pub pairs_by : Numbering → List (Tree × Tree) → List (Node × Node)
pairs_by n = map (λ p. (p.0.node n, p.1.node n))

pairs_measured : (n : Numbering) (pairs : List (Tree × Tree)) → Each (Measured n) (flat pairs)
    → highest_pair (map pair_heights (pairs_by n pairs)) ≡ highest (heights (flat pairs))
pairs_measured n [] h = refl
pairs_measured n (p ∷ ps) h = omega (arith, pairs_measured n ps h.1.1)

pairs_same : (n m : Numbering) (pairs : List (Tree × Tree)) → Each (SameNode n m) (flat pairs) → pairs_by n pairs ≡ pairs_by m pairs
pairs_same n m [] h = refl
pairs_same n m (p ∷ ps) h = λ i. (h.0 i, h.1.0 i) ∷ pairs_same n m ps h.1.1 i

-- a block is as high as its body
block_rolled : (params : List Param) (body : List Node) (at : Span)
    → block_height (roll-Block (record { params = params; body = body; at = at })) ≡ highest (map height body)
block_rolled params body at = search (rules, the_lemmas, block_height-body)

block_measured : (n : Numbering) (b : BlockTree) → Each (Measured n) b.body → block_height (block_by n b) ≡ highest (heights b.body)
block_measured n b h = block_rolled (params_by n b.params) (nodes n b.body) b.at ∙ nodes_measured n b.body h

-- the body of a thread, by its block
abbrev own : BlockTree → Thread
own b = record { at = b.at; block = λ n. block_by n b }

-- ---- trees of faithful trees

-- a tree that is at most one too high, and faithful where it is not too high
abbrev pub WellMade : ℕ → Tree → Type 0
WellMade limit a = a.height ≤ suc limit × (a.height ≤ limit → IsFaithful limit a)

module _ (limit : ℕ) where
  -- a faithful tree is not too high
  pub faithful_made : (a : Tree) → IsFaithful limit a → WellMade limit a
  faithful_made a f = (omega (arith, f.low), λ low. f)

  -- the highest of faithful trees is not too high
  trees_low : (xs : List Tree) → Each (IsFaithful limit) xs → highest (heights xs) ≤ limit
  trees_low [] h = omega arith
  trees_low (x ∷ xs) h = omega (arith, trees_low xs h.1, h.0.low)

  -- what faithful trees say of their heights is so
  trees_measured : (xs : List Tree) → Each (IsFaithful limit) xs → (n : Numbering) → Each (Measured n) xs
  trees_measured xs h n = each_map (IsFaithful limit) (Measured n) (λ a f. f.measured n) xs h

  -- their nodes hang on their names and threads alone
  pub trees_named : (xs : List Tree) → Each (IsFaithful limit) xs → (n m : Numbering) → SameNames n m (names_of xs) → SameBodies n m (threads_of xs)
      → Each (SameNode n m) xs
  trees_named [] h n m names bodies = tt
  trees_named (x ∷ xs) h n m names bodies = (
    h.0.named n m (record {
      named = names_left n m x.names (names_of xs) names;
      bodied = each_left (λ t. n.body t.at ≡ m.body t.at) x.threads (threads_of xs) bodies;
    }),
    trees_named xs h.1 n m (names_right n m x.names (names_of xs) names) (each_right (λ t. n.body t.at ≡ m.body t.at) x.threads (threads_of xs) bodies),
  )

  -- and so do the blocks of their threads
  pub trees_bodied : (xs : List Tree) → Each (IsFaithful limit) xs → (n m : Numbering) → SameNames n m (names_of xs) → SameBodies n m (threads_of xs)
      → SameBlocks n m (threads_of xs)
  trees_bodied [] h n m names bodies = tt
  trees_bodied (x ∷ xs) h n m names bodies =
      each_append (λ t. t.block n ≡ t.block m) x.threads (threads_of xs)
      (h.0.bodied n m (record {
        named = names_left n m x.names (names_of xs) names;
        bodied = each_left (λ t. n.body t.at ≡ m.body t.at) x.threads (threads_of xs) bodies;
      }))
      (trees_bodied xs h.1 n m (names_right n m x.names (names_of xs) names) (each_right (λ t. n.body t.at ≡ m.body t.at) x.threads (threads_of xs) bodies))

  -- no node in the bodies of their threads is too high
  pub trees_bodies_low : (xs : List Tree) → Each (IsFaithful limit) xs → (n : Numbering) → LowBlocks limit n (threads_of xs)
  trees_bodies_low [] h n = tt
  trees_bodies_low (x ∷ xs) h n =
      each_append (λ t. block_height (t.block n) ≤ limit) x.threads (threads_of xs) (h.0.bodies_low n) (trees_bodies_low xs h.1 n)

  -- a leaf whose node hangs on its names alone
  leaf_faithful : (at : Span) (names : List Word) (make : Numbering → Node) → 1 ≤ limit
      → ((n : Numbering) → height (make n) ≡ 1)
      → ((n : Numbering) → place (out-Node (make n)) ≡ at)
      → ((n m : Numbering) → SameNames n m names → make n ≡ make m)
      → IsFaithful limit (tree.leaf at names make)
  leaf_faithful at names make one measured placed named = record {
    measured = measured;
    placed = placed;
    low = one;
    named = λ n m agree. named n m agree.named;
    bodied = λ n m agree. tt;
    bodies_low = λ n. tt;
  }

  -- a branch with faithful trees in it, whose node hangs on its names and on their nodes
  branch_made : (at : Span) (names : List Word) (inside : List Tree) (make : Numbering → Node)
      → Each (IsFaithful limit) inside
      → ((n : Numbering) → Each (Measured n) inside → height (make n) ≡ suc (highest (heights inside)))
      → ((n : Numbering) → place (out-Node (make n)) ≡ at)
      → ((n m : Numbering) → SameNames n m names → SameNames n m (names_of inside))
      → ((n m : Numbering) → SameNames n m names → Each (SameNode n m) inside → make n ≡ make m)
      → WellMade limit (tree.branch at names inside make)
  branch_made at names inside make all measured placed inner named = (
    omega (arith, trees_low inside all),
    λ low. record {
      measured = λ n. measured n (trees_measured inside all n);
      placed = placed;
      low = low;
      named = λ n m agree. named n m agree.named (trees_named inside all n m (inner n m agree.named) agree.bodied);
      bodied = λ n m agree. trees_bodied inside all n m (inner n m agree.named) agree.bodied;
      bodies_low = trees_bodies_low inside all;
    },
  )

  -- ---- leaves

  pub local_faithful : (w : Word) → 1 ≤ limit → IsFaithful limit (tree.local w)
  local_faithful w one =
      leaf_faithful w.at (w ∷ []) (λ n. node.Local (n.name w.text) w.at) one (λ n. height-local (n.name w.text) w.at)
      (λ n. place-local (n.name w.text) w.at) (λ n m h i. node.Local (h.0 i) w.at)

  pub field_faithful : (w : Word) → 1 ≤ limit → IsFaithful limit (tree.field w)
  field_faithful w one =
      leaf_faithful w.at (w ∷ []) (λ n. node.Field (n.name w.text) w.at) one (λ n. height-field (n.name w.text) w.at)
      (λ n. place-field (n.name w.text) w.at) (λ n m h i. node.Field (h.0 i) w.at)

  pub global_faithful : (w : Word) → 1 ≤ limit → IsFaithful limit (tree.global w)
  global_faithful w one =
      leaf_faithful w.at (w ∷ []) (λ n. node.Global (n.name w.text) w.at) one (λ n. height-global (n.name w.text) w.at)
      (λ n. place-global (n.name w.text) w.at) (λ n m h i. node.Global (h.0 i) w.at)

  pub symbol_faithful : (w : Word) → 1 ≤ limit → IsFaithful limit (tree.symbol w)
  symbol_faithful w one =
      leaf_faithful w.at (w ∷ []) (λ n. node.Sym (n.name w.text) w.at) one (λ n. height-sym (n.name w.text) w.at)
      (λ n. place-sym (n.name w.text) w.at) (λ n m h i. node.Sym (h.0 i) w.at)

  pub integer_faithful : (value : ℤ) (at : Span) → 1 ≤ limit → IsFaithful limit (tree.integer value at)
  integer_faithful value at one =
      leaf_faithful at [] (λ n. node.Int value at) one (λ n. height-int value at) (λ n. place-int value at) (λ n m h. refl)

  pub constant_faithful : (make : Span → Node) (at : Span) → 1 ≤ limit → height (make at) ≡ 1 → place (out-Node (make at)) ≡ at
      → IsFaithful limit (tree.constant make at)
  constant_faithful make at one high stands = leaf_faithful at [] (λ n. make at) one (λ n. high) (λ n. stands) (λ n m h. refl)

  pub return_nothing_faithful : (at : Span) → 1 ≤ limit → IsFaithful limit (tree.return_nothing at)
  return_nothing_faithful at one =
      leaf_faithful at [] (λ n. node.Return None at) one (λ n. height-return None at) (λ n. place-return None at) (λ n m h. refl)

  -- ---- calls

  pub call_made : (w : Word) (args : List Tree) → Each (IsFaithful limit) args → WellMade limit (tree.call None w args)
  call_made w args f =
      branch_made w.at (w ∷ names_of args) args (λ n. node.Call None (n.name w.text) (nodes n args) None w.at) f
      (λ n h. omega (arith, height-call None (n.name w.text) (nodes n args) None w.at, nodes_measured n args h))
      (λ n. place-call None (n.name w.text) (nodes n args) None w.at)
      (λ n m h. h.1)
      (λ n m h k i. node.Call None (h.0 i) (nodes_same n m args k i) None w.at)

  pub call_of_made : (a : Tree) (w : Word) (args : List Tree) → IsFaithful limit a → Each (IsFaithful limit) args
      → WellMade limit (tree.call (Some a) w args)
  call_of_made a w args f g =
      branch_made w.at (a.names ++ w ∷ names_of args) (a ∷ args)
      (λ n. node.Call (Some (a.node n)) (n.name w.text) (nodes n args) None w.at) (f, g)
      (λ n h. omega (arith, height-call (Some (a.node n)) (n.name w.text) (nodes n args) None w.at, nodes_measured n args h.1, h.0))
      (λ n. place-call (Some (a.node n)) (n.name w.text) (nodes n args) None w.at)
      (λ n m. names_round n m a.names w (names_of args))
      (λ n m h k i. node.Call (Some (k.0 i)) ((names_right n m a.names (w ∷ names_of args) h).0 i) (nodes_same n m args k.1 i) None w.at)

  pub call_with_block_made : (a : Tree) (w : Word) (args : List Tree) (b : BlockTree) → IsFaithful limit a → Each (IsFaithful limit) args
      → Each (IsFaithful limit) b.body → WellMade limit (tree.call_with_block a w args b)
  call_with_block_made a w args b f g e =
      branch_made w.at (a.names ++ w ∷ (names_of args ++ block_names b)) (a ∷ (args ++ b.body))
      (λ n. node.Call (Some (a.node n)) (n.name w.text) (nodes n args) (Some (block_by n b)) w.at)
      (f, each_append (IsFaithful limit) args b.body g e)
      (λ n h. omega (
        arith,
        height-call (Some (a.node n)) (n.name w.text) (nodes n args) (Some (block_by n b)) w.at,
        h.0,
        nodes_measured n args (each_left (Measured n) args b.body h.1),
        block_measured n b (each_right (Measured n) args b.body h.1),
        heights_append args b.body,
      ))
      (λ n. place-call (Some (a.node n)) (n.name w.text) (nodes n args) (Some (block_by n b)) w.at)
      (λ n m h.
      let others = (names_right n m a.names (w ∷ (names_of args ++ block_names b)) h).1 in
      names_append n m a.names (names_of (args ++ b.body)) (names_left n m a.names (w ∷ (names_of args ++ block_names b)) h)
      (names_of_both n m args b.body (names_left n m (names_of args) (block_names b) others)
      (names_right n m b.params (names_of b.body) (names_right n m (names_of args) (block_names b) others))))
      (λ n m h k.
      let own = names_right n m a.names (w ∷ (names_of args ++ block_names b)) h in
      let params = names_left n m b.params (names_of b.body) (names_right n m (names_of args) (block_names b) own.1) in
      let block = block_same n m b params (each_right (SameNode n m) args b.body k.1) in
      let given = nodes_same n m args (each_left (SameNode n m) args b.body k.1) in
      λ i. node.Call (Some (k.0 i)) (own.0 i) (given i) (Some (block i)) w.at)

  pub binary_made : (operator : Text) (at : Span) (a b : Tree) → IsFaithful limit a → IsFaithful limit b
      → WellMade limit (tree.binary operator at a b)
  binary_made operator at a b f g =
      branch_made at (a.names ++ tree.given operator at ∷ b.names) (a ∷ b ∷ [])
      (λ n. node.Call (Some (a.node n)) (n.name operator) (b.node n ∷ []) None at) (f, (g, tt))
      (λ n h. omega (arith, height-call (Some (a.node n)) (n.name operator) (b.node n ∷ []) None at, h.0, h.1.0))
      (λ n. place-call (Some (a.node n)) (n.name operator) (b.node n ∷ []) None at)
      (λ n m h. names_of_two n m a.names b.names (names_round n m a.names (tree.given operator at) b.names h))
      (λ n m h k i. node.Call (Some (k.0 i)) ((names_right n m a.names (tree.given operator at ∷ b.names) h).0 i) (k.1.0 i ∷ []) None at)

  pub negated_made : (at : Span) (a : Tree) → IsFaithful limit a → WellMade limit (tree.negated at a)
  negated_made at a f =
      branch_made at a.names (a ∷ []) (λ n. node.Not (a.node n) at) (f, tt)
      (λ n h. omega (arith, height-not (a.node n) at, h.0))
      (λ n. place-not (a.node n) at)
      (λ n m h. names_of_one n m a.names h)
      (λ n m h k i. node.Not (k.0 i) at)

  pub minus_made : (at : Span) (a : Tree) → IsFaithful limit a → WellMade limit (tree.minus at a)
  minus_made at a f =
      branch_made at (tree.given tree.minus_name at ∷ a.names) (a ∷ []) (λ n. node.Call (Some (a.node n)) (n.name tree.minus_name) [] None at) (f, tt)
      (λ n h. omega (arith, height-call (Some (a.node n)) (n.name tree.minus_name) [] None at, h.0))
      (λ n. place-call (Some (a.node n)) (n.name tree.minus_name) [] None at)
      (λ n m h. names_of_one n m a.names h.1)
      (λ n m h k i. node.Call (Some (k.0 i)) (h.0 i) [] None at)

  pub and_also_made : (at : Span) (a b : Tree) → IsFaithful limit a → IsFaithful limit b → WellMade limit (tree.and_also at a b)
  and_also_made at a b f g =
      branch_made at (a.names ++ b.names) (a ∷ b ∷ []) (λ n. node.And (a.node n) (b.node n) at) (f, (g, tt))
      (λ n h. omega (arith, height-and (a.node n) (b.node n) at, h.0, h.1.0))
      (λ n. place-and (a.node n) (b.node n) at)
      (λ n m. names_of_two n m a.names b.names)
      (λ n m h k i. node.And (k.0 i) (k.1.0 i) at)

  pub or_else_made : (at : Span) (a b : Tree) → IsFaithful limit a → IsFaithful limit b → WellMade limit (tree.or_else at a b)
  or_else_made at a b f g =
      branch_made at (a.names ++ b.names) (a ∷ b ∷ []) (λ n. node.Or (a.node n) (b.node n) at) (f, (g, tt))
      (λ n h. omega (arith, height-or (a.node n) (b.node n) at, h.0, h.1.0))
      (λ n. place-or (a.node n) (b.node n) at)
      (λ n m. names_of_two n m a.names b.names)
      (λ n m h k i. node.Or (k.0 i) (k.1.0 i) at)

  pub index_made : (a j : Tree) (at : Span) → IsFaithful limit a → IsFaithful limit j → WellMade limit (tree.index a j at)
  index_made a j at f g = binary_made tree.index_name at a j f g

  pub new_made : (class : Word) (at : Span) (args : List Tree) → Each (IsFaithful limit) args → WellMade limit (tree.new class at args)
  new_made class at args f =
      branch_made at (class ∷ names_of args) args (λ n. node.New (n.name class.text) (nodes n args) at) f
      (λ n h. omega (arith, height-new (n.name class.text) (nodes n args) at, nodes_measured n args h))
      (λ n. place-new (n.name class.text) (nodes n args) at)
      (λ n m h. h.1)
      (λ n m h k i. node.New (h.0 i) (nodes_same n m args k i) at)

  -- The body of a thread does not make its node higher. It is not too high itself, since its statements are not.
  pub thread_new_made : (at : Span) (args : List Tree) (b : BlockTree) → Each (IsFaithful limit) args → Each (IsFaithful limit) b.body
      → WellMade limit (tree.thread_new at args b)
  thread_new_made at args b f g = (
    omega (arith, trees_low args f),
    λ low. record {
      measured = λ n. omega (arith, height-thread_new (nodes n args) (n.body b.at) at, nodes_measured n args (trees_measured args f n));
      placed = λ n. place-thread_new (nodes n args) (n.body b.at) at;
      low = low;
      named = λ n m agree.
          let given = nodes_same n m args (trees_named args f n m (names_left n m (names_of args) (block_names b) agree.named)
          (each_left (λ t. n.body t.at ≡ m.body t.at) (threads_of args) (own b ∷ threads_of b.body) agree.bodied)) in
          let body = (each_right (λ t. n.body t.at ≡ m.body t.at) (threads_of args) (own b ∷ threads_of b.body) agree.bodied).0 in
          λ i. node.ThreadNew (given i) (body i) at;
      bodied = λ n m agree.
          let names = names_right n m (names_of args) (block_names b) agree.named in
          let inner = names_right n m b.params (names_of b.body) names in
          let bodies = each_right (λ t. n.body t.at ≡ m.body t.at) (threads_of args) (own b ∷ threads_of b.body) agree.bodied in
          each_append (λ t. t.block n ≡ t.block m) (threads_of args) (own b ∷ threads_of b.body)
          (trees_bodied args f n m (names_left n m (names_of args) (block_names b) agree.named)
          (each_left (λ t. n.body t.at ≡ m.body t.at) (threads_of args) (own b ∷ threads_of b.body) agree.bodied)) (
            block_same n m b (names_left n m b.params (names_of b.body) names) (trees_named b.body g n m inner bodies.1),
            trees_bodied b.body g n m inner bodies.1,
          );
      bodies_low = λ n.
          each_append (λ t. block_height (t.block n) ≤ limit) (threads_of args) (own b ∷ threads_of b.body) (trees_bodies_low args f n)
          (omega (arith, block_measured n b (trees_measured b.body g n), trees_low b.body g), trees_bodies_low b.body g n);
    },
  )

  -- ---- literals

  pub string_made : (at : Span) (pieces : List PieceTree) → Each (IsFaithful limit) (code_of pieces) → WellMade limit (tree.string at pieces)
  string_made at pieces f =
      branch_made at (names_of (code_of pieces)) (code_of pieces) (λ n. node.Str (map (piece_by n) pieces) at) f
      (λ n h. omega (arith, height-str (map (piece_by n) pieces) at, pieces_measured n pieces h))
      (λ n. place-str (map (piece_by n) pieces) at)
      (λ n m h. h)
      (λ n m h k i. node.Str (pieces_same n m pieces k i) at)

  pub array_made : (at : Span) (items : List Tree) → Each (IsFaithful limit) items → WellMade limit (tree.array at items)
  array_made at items f =
      branch_made at (names_of items) items (λ n. node.Array (nodes n items) at) f
      (λ n h. omega (arith, height-array (nodes n items) at, nodes_measured n items h))
      (λ n. place-array (nodes n items) at)
      (λ n m h. h)
      (λ n m h k i. node.Array (nodes_same n m items k i) at)

  pub hash_made : (at : Span) (pairs : List (Tree × Tree)) → Each (IsFaithful limit) (flat pairs) → WellMade limit (tree.hash at pairs)
  hash_made at pairs f =
      branch_made at (names_of (flat pairs)) (flat pairs) (λ n. node.Hash (pairs_by n pairs) at) f
      (λ n h. omega (arith, height-hash (pairs_by n pairs) at, pairs_measured n pairs h))
      (λ n. place-hash (pairs_by n pairs) at)
      (λ n m h. h)
      (λ n m h k i. node.Hash (pairs_same n m pairs k i) at)

  -- ---- control

  pub choice_made : (at : Span) (c : Tree) (xs ys : List Tree) → IsFaithful limit c → Each (IsFaithful limit) xs → Each (IsFaithful limit) ys
      → WellMade limit (tree.choice at c xs ys)
  choice_made at c xs ys e f g =
      branch_made at (c.names ++ (names_of xs ++ names_of ys)) (c ∷ (xs ++ ys)) (λ n. node.If (c.node n) (nodes n xs) (nodes n ys) at)
      (e, each_append (IsFaithful limit) xs ys f g)
      (λ n h. omega (
        arith,
        height-if (c.node n) (nodes n xs) (nodes n ys) at,
        h.0,
        nodes_measured n xs (each_left (Measured n) xs ys h.1),
        nodes_measured n ys (each_right (Measured n) xs ys h.1),
        heights_append xs ys,
      ))
      (λ n. place-if (c.node n) (nodes n xs) (nodes n ys) at)
      (λ n m h.
      let both = names_right n m c.names (names_of xs ++ names_of ys) h in
      names_append n m c.names (names_of (xs ++ ys)) (names_left n m c.names (names_of xs ++ names_of ys) h)
      (names_of_both n m xs ys (names_left n m (names_of xs) (names_of ys) both) (names_right n m (names_of xs) (names_of ys) both)))
      (λ n m h k.
      let then = nodes_same n m xs (each_left (SameNode n m) xs ys k.1) in
      let otherwise = nodes_same n m ys (each_right (SameNode n m) xs ys k.1) in
      λ i. node.If (k.0 i) (then i) (otherwise i) at)

  pub loop_made : (at : Span) (c : Tree) (xs : List Tree) → IsFaithful limit c → Each (IsFaithful limit) xs → WellMade limit (tree.loop at c xs)
  loop_made at c xs e f =
      branch_made at (c.names ++ names_of xs) (c ∷ xs) (λ n. node.While (c.node n) (nodes n xs) at) (e, f)
      (λ n h. omega (arith, height-while (c.node n) (nodes n xs) at, h.0, nodes_measured n xs h.1))
      (λ n. place-while (c.node n) (nodes n xs) at)
      (λ n m h. h)
      (λ n m h k i. node.While (k.0 i) (nodes_same n m xs k.1 i) at)

  pub choice_behind_made : (at : Span) (b c : Tree) → IsFaithful limit b → IsFaithful limit c → WellMade limit (tree.choice_behind at b c)
  choice_behind_made at b c f g =
      branch_made at (b.names ++ c.names) (b ∷ c ∷ []) (λ n. node.If (c.node n) (b.node n ∷ []) [] at) (f, (g, tt))
      (λ n h. omega (arith, height-if (c.node n) (b.node n ∷ []) [] at, h.0, h.1.0))
      (λ n. place-if (c.node n) (b.node n ∷ []) [] at)
      (λ n m. names_of_two n m b.names c.names)
      (λ n m h k i. node.If (k.1.0 i) (k.0 i ∷ []) [] at)

  pub loop_behind_made : (at : Span) (b c : Tree) → IsFaithful limit b → IsFaithful limit c → WellMade limit (tree.loop_behind at b c)
  loop_behind_made at b c f g =
      branch_made at (b.names ++ c.names) (b ∷ c ∷ []) (λ n. node.While (c.node n) (b.node n ∷ []) at) (f, (g, tt))
      (λ n h. omega (arith, height-while (c.node n) (b.node n ∷ []) at, h.0, h.1.0))
      (λ n. place-while (c.node n) (b.node n ∷ []) at)
      (λ n m. names_of_two n m b.names c.names)
      (λ n m h k i. node.While (k.1.0 i) (k.0 i ∷ []) at)

  pub return_value_made : (at : Span) (a : Tree) → IsFaithful limit a → WellMade limit (tree.return_value at a)
  return_value_made at a f =
      branch_made at a.names (a ∷ []) (λ n. node.Return (Some (a.node n)) at) (f, tt)
      (λ n h. omega (arith, height-return (Some (a.node n)) at, h.0))
      (λ n. place-return (Some (a.node n)) at)
      (λ n m. names_of_one n m a.names)
      (λ n m h k i. node.Return (Some (k.0 i)) at)

  -- ---- what stands before an assignment mark

  -- the trees in a target are faithful
  abbrev pub TargetIsFaithful : TargetTree → Type 0
  TargetIsFaithful (tree.to_index r j bracket) = IsFaithful limit r × IsFaithful limit j
  TargetIsFaithful (tree.to_attribute r w) = IsFaithful limit r
  TargetIsFaithful variable = Unit {0}

  -- target "=" value
  pub assigned_made : (t : TargetTree) (at : Span) (a : Tree) → TargetIsFaithful t → IsFaithful limit a → WellMade limit (tree.assigned t at a)
  assigned_made (tree.to_local w) at a e f =
      branch_made at (w ∷ a.names) (a ∷ []) (λ n. node.SetLocal (n.name w.text) (a.node n) at) (f, tt)
      (λ n h. omega (arith, height-set_local (n.name w.text) (a.node n) at, h.0))
      (λ n. place-set_local (n.name w.text) (a.node n) at)
      (λ n m h. names_of_one n m a.names h.1)
      (λ n m h k i. node.SetLocal (h.0 i) (k.0 i) at)
  assigned_made (tree.to_field w) at a e f =
      branch_made at (w ∷ a.names) (a ∷ []) (λ n. node.SetField (n.name w.text) (a.node n) at) (f, tt)
      (λ n h. omega (arith, height-set_field (n.name w.text) (a.node n) at, h.0))
      (λ n. place-set_field (n.name w.text) (a.node n) at)
      (λ n m h. names_of_one n m a.names h.1)
      (λ n m h k i. node.SetField (h.0 i) (k.0 i) at)
  assigned_made (tree.to_global w) at a e f =
      branch_made at (w ∷ a.names) (a ∷ []) (λ n. node.SetGlobal (n.name w.text) (a.node n) at) (f, tt)
      (λ n h. omega (arith, height-set_global (n.name w.text) (a.node n) at, h.0))
      (λ n. place-set_global (n.name w.text) (a.node n) at)
      (λ n m h. names_of_one n m a.names h.1)
      (λ n m h k i. node.SetGlobal (h.0 i) (k.0 i) at)
  assigned_made (tree.to_index r j bracket) at a e f =
      branch_made at (r.names ++ tree.given tree.store_name bracket ∷ (j.names ++ a.names)) (r ∷ j ∷ a ∷ [])
      (λ n. node.Store (r.node n) (n.name tree.store_name) (j.node n ∷ a.node n ∷ []) at) (e.0, (e.1, (f, tt)))
      (λ n h. omega (arith, height-store (r.node n) (n.name tree.store_name) (j.node n ∷ a.node n ∷ []) at, h.0, h.1.0, h.1.1.0))
      (λ n. place-store (r.node n) (n.name tree.store_name) (j.node n ∷ a.node n ∷ []) at)
      (λ n m h.
      names_append n m r.names (j.names ++ (a.names ++ [])) (names_left n m r.names (tree.given tree.store_name bracket ∷ (j.names ++ a.names)) h)
      (names_of_two n m j.names a.names (names_right n m r.names (tree.given tree.store_name bracket ∷ (j.names ++ a.names)) h).1))
      (λ n m h k i. node.Store (k.0 i) ((names_right n m r.names (tree.given tree.store_name bracket ∷ (j.names ++ a.names)) h).0 i) (k.1.0 i ∷ k.1.1.0 i ∷ []) at)
  assigned_made (tree.to_attribute r w) at a e f =
      branch_made at (r.names ++ tree.given (tree.setter_of w.text) w.at ∷ a.names) (r ∷ a ∷ [])
      (λ n. node.Store (r.node n) (n.name (tree.setter_of w.text)) (a.node n ∷ []) at) (e, (f, tt))
      (λ n h. omega (arith, height-store (r.node n) (n.name (tree.setter_of w.text)) (a.node n ∷ []) at, h.0, h.1.0))
      (λ n. place-store (r.node n) (n.name (tree.setter_of w.text)) (a.node n ∷ []) at)
      (λ n m h. names_of_two n m r.names a.names (names_round n m r.names (tree.given (tree.setter_of w.text) w.at) a.names h))
      (λ n m h k i. node.Store (k.0 i) ((names_right n m r.names (tree.given (tree.setter_of w.text) w.at ∷ a.names) h).0 i) (k.1.0 i ∷ []) at)

  -- target "+=" value, and so on
  pub operated_made : (t : TargetTree) (op : AssignOp) (at : Span) (a : Tree) → TargetIsFaithful t → IsFaithful limit a
      → WellMade limit (tree.operated t op at a)
  operated_made (tree.to_local w) op at a e f =
      branch_made at (w ∷ a.names) (a ∷ []) (λ n. node.OpAssign (target.Local (n.name w.text)) op (a.node n) at) (f, tt)
      (λ n h. omega (arith, height-op_assign (target.Local (n.name w.text)) op (a.node n) at, target_height-local (n.name w.text), h.0))
      (λ n. place-op_assign (target.Local (n.name w.text)) op (a.node n) at)
      (λ n m h. names_of_one n m a.names h.1)
      (λ n m h k i. node.OpAssign (target.Local (h.0 i)) op (k.0 i) at)
  operated_made (tree.to_field w) op at a e f =
      branch_made at (w ∷ a.names) (a ∷ []) (λ n. node.OpAssign (target.Field (n.name w.text)) op (a.node n) at) (f, tt)
      (λ n h. omega (arith, height-op_assign (target.Field (n.name w.text)) op (a.node n) at, target_height-field (n.name w.text), h.0))
      (λ n. place-op_assign (target.Field (n.name w.text)) op (a.node n) at)
      (λ n m h. names_of_one n m a.names h.1)
      (λ n m h k i. node.OpAssign (target.Field (h.0 i)) op (k.0 i) at)
  operated_made (tree.to_global w) op at a e f =
      branch_made at (w ∷ a.names) (a ∷ []) (λ n. node.OpAssign (target.Global (n.name w.text)) op (a.node n) at) (f, tt)
      (λ n h. omega (arith, height-op_assign (target.Global (n.name w.text)) op (a.node n) at, target_height-global (n.name w.text), h.0))
      (λ n. place-op_assign (target.Global (n.name w.text)) op (a.node n) at)
      (λ n m h. names_of_one n m a.names h.1)
      (λ n m h k i. node.OpAssign (target.Global (h.0 i)) op (k.0 i) at)
  operated_made (tree.to_index r j bracket) op at a e f =
      branch_made at ((r.names ++ j.names) ++ a.names) (r ∷ j ∷ a ∷ [])
      (λ n. node.OpAssign (target.Index (r.node n) (j.node n)) op (a.node n) at) (e.0, (e.1, (f, tt)))
      (λ n h. omega (arith, height-op_assign (target.Index (r.node n) (j.node n)) op (a.node n) at, target_height-index (r.node n) (j.node n), h.0, h.1.0, h.1.1.0))
      (λ n. place-op_assign (target.Index (r.node n) (j.node n)) op (a.node n) at)
      (λ n m h.
      let both = names_left n m (r.names ++ j.names) a.names h in
      names_append n m r.names (j.names ++ (a.names ++ [])) (names_left n m r.names j.names both)
      (names_append n m j.names (a.names ++ []) (names_right n m r.names j.names both)
      (names_of_one n m a.names (names_right n m (r.names ++ j.names) a.names h))))
      (λ n m h k i. node.OpAssign (target.Index (k.0 i) (k.1.0 i)) op (k.1.1.0 i) at)
  operated_made (tree.to_attribute r w) op at a e f =
      branch_made at ((r.names ++ w ∷ []) ++ a.names) (r ∷ a ∷ [])
      (λ n. node.OpAssign (target.Attribute (r.node n) (n.name w.text)) op (a.node n) at) (e, (f, tt))
      (λ n h. omega (
        arith,
        height-op_assign (target.Attribute (r.node n) (n.name w.text)) op (a.node n) at,
        target_height-attribute (r.node n) (n.name w.text),
        h.0,
        h.1.0,
      ))
      (λ n. place-op_assign (target.Attribute (r.node n) (n.name w.text)) op (a.node n) at)
      (λ n m h.
      names_append n m r.names (a.names ++ []) (names_left n m r.names (w ∷ []) (names_left n m (r.names ++ w ∷ []) a.names h))
      (names_of_one n m a.names (names_right n m (r.names ++ w ∷ []) a.names h)))
      (λ n m h k i.
      node.OpAssign (target.Attribute (k.0 i) ((names_right n m r.names (w ∷ []) (names_left n m (r.names ++ w ∷ []) a.names h)).0 i))
      op (k.1.0 i) at)
