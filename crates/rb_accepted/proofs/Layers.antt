-- What is found in each node, from its parts.
use Rattle.std.proofs.Common.{◌≡◌, ◌∙◌, ap, ℕ, List, [], ◌∷◌, Option, Some, None, map, refl, rules}
use Rattle.std.specs.Prelude.{ℤ, is_some, not}
use Rattle.std.specs.Option.{option_map}
use Rattle.rb_tree.specs.declared.span.Span.{Span}
use Rattle.rb_tree.specs.declared.span.NameId.{NameId}
use Rattle.rb_tree.specs.declared.node.AssignOp.{AssignOp}
use Rattle.rb_tree.specs.declared.node.Node.{Node, the_lemmas}
use Rattle.rb_tree.specs.declared.node.Node.TheVariants as node
use Rattle.rb_tree.specs.declared.node.Piece.{Piece}
use Rattle.rb_tree.specs.declared.node.Piece.TheVariants as piece
use Rattle.rb_tree.specs.declared.node.Target.{Target}
use Rattle.rb_tree.specs.declared.node.Target.TheVariants as target
use Rattle.rb_tree.specs.declared.node.Block.{Block, out-Block}
use Rattle.rb_tree.specs.declared.node.Class.{Class}
use Rattle.rb_accepted.specs.Unbuilt.{Found, earlier, first_of, in_any, in_pair, here, is_call, is_built_class, found_in, found_in_pair, found_in_piece, found_in_target, found_in_block, found_in_all}

-- pairs, with what is found in their parts, and then in them
of_pairs : (f : Node → Found) (pairs : List (Node × Node)) → first_of (map in_pair (map (λ (p : Node × Node). (f p.0, f p.1)) pairs)) ≡ first_of (map (λ (p : Node × Node). earlier (f p.0) (f p.1)) pairs)
of_pairs f [] = refl
of_pairs f (p ∷ ps) = ap (earlier (earlier (f p.0) (f p.1))) (of_pairs f ps)

-- whether something is there is the same of what is found in it
some_of : {A B : Type 0} (f : A → B) (o : Option A) → is_some (option_map f o) ≡ is_some o
some_of f None = refl
some_of f (Some x) = refl

module _ (names : List (List ℕ)) (classes : List Class) where
  pub found-nil : (at : Span) → found_in names classes (node.Nil at) ≡ None
  unfolding found_in
  found-nil at = search (rules, the_lemmas)

  pub found-false : (at : Span) → found_in names classes (node.False at) ≡ None
  unfolding found_in
  found-false at = search (rules, the_lemmas)

  pub found-true : (at : Span) → found_in names classes (node.True at) ≡ None
  unfolding found_in
  found-true at = search (rules, the_lemmas)

  pub found-self_ref : (at : Span) → found_in names classes (node.SelfRef at) ≡ None
  unfolding found_in
  found-self_ref at = search (rules, the_lemmas)

  pub found-int : (n : ℤ) (at : Span) → found_in names classes (node.Int n at) ≡ None
  unfolding found_in
  found-int n at = search (rules, the_lemmas)

  pub found-sym : (name : NameId) (at : Span) → found_in names classes (node.Sym name at) ≡ None
  unfolding found_in
  found-sym name at = search (rules, the_lemmas)

  pub found-str : (pieces : List Piece) (at : Span) → found_in names classes (node.Str pieces at) ≡ first_of (map (found_in_piece names classes) pieces)
  unfolding found_in found_in_piece
  found-str pieces at = search (rules, the_lemmas)

  pub found-array : (items : List Node) (at : Span) → found_in names classes (node.Array items at) ≡ found_in_all names classes items
  unfolding found_in
  found-array items at = search (rules, the_lemmas)

  raw_hash : (pairs : List (Node × Node)) (at : Span)
      → found_in names classes (node.Hash pairs at)
      ≡ first_of (map in_pair (map (λ (p : Node × Node). (found_in names classes p.0, found_in names classes p.1)) pairs))
  unfolding found_in
  raw_hash pairs at = search (rules, the_lemmas)

  pub found-hash : (pairs : List (Node × Node)) (at : Span) → found_in names classes (node.Hash pairs at) ≡ first_of (map (found_in_pair names classes) pairs)
  found-hash pairs at = raw_hash pairs at ∙ of_pairs (found_in names classes) pairs

  pub found-local : (name : NameId) (at : Span) → found_in names classes (node.Local name at) ≡ None
  unfolding found_in
  found-local name at = search (rules, the_lemmas)

  pub found-field : (name : NameId) (at : Span) → found_in names classes (node.Field name at) ≡ None
  unfolding found_in
  found-field name at = search (rules, the_lemmas)

  pub found-global : (name : NameId) (at : Span) → found_in names classes (node.Global name at) ≡ None
  unfolding found_in
  found-global name at = search (rules, the_lemmas)

  pub found-set_local : (name : NameId) (value : Node) (at : Span) → found_in names classes (node.SetLocal name value at) ≡ found_in names classes value
  unfolding found_in
  found-set_local name value at = search (rules, the_lemmas)

  pub found-set_field : (name : NameId) (value : Node) (at : Span) → found_in names classes (node.SetField name value at) ≡ found_in names classes value
  unfolding found_in
  found-set_field name value at = search (rules, the_lemmas)

  pub found-set_global : (name : NameId) (value : Node) (at : Span) → found_in names classes (node.SetGlobal name value at) ≡ found_in names classes value
  unfolding found_in
  found-set_global name value at = search (rules, the_lemmas)

  pub found-store : (receiver : Node) (name : NameId) (args : List Node) (at : Span) → found_in names classes (node.Store receiver name args at) ≡ earlier (found_in names classes receiver) (found_in_all names classes args)
  unfolding found_in
  found-store receiver name args at = search (rules, the_lemmas)

  pub found-op_assign : (written : Target) (op : AssignOp) (value : Node) (at : Span) → found_in names classes (node.OpAssign written op value at) ≡ earlier (found_in_target names classes written) (found_in names classes value)
  unfolding found_in found_in_target
  found-op_assign written op value at = search (rules, the_lemmas)

  pub found-new : (class : NameId) (args : List Node) (at : Span) → found_in names classes (node.New class args at) ≡ earlier (here (not (is_built_class names classes class)) at) (found_in_all names classes args)
  unfolding found_in
  found-new class args at = search (rules, the_lemmas)

  pub found-thread_new : (args : List Node) (body : ℕ) (at : Span) → found_in names classes (node.ThreadNew args body at) ≡ found_in_all names classes args
  unfolding found_in
  found-thread_new args body at = search (rules, the_lemmas)

  pub found-and : (first second : Node) (at : Span) → found_in names classes (node.And first second at) ≡ earlier (found_in names classes first) (found_in names classes second)
  unfolding found_in
  found-and first second at = search (rules, the_lemmas)

  pub found-or : (first second : Node) (at : Span) → found_in names classes (node.Or first second at) ≡ earlier (found_in names classes first) (found_in names classes second)
  unfolding found_in
  found-or first second at = search (rules, the_lemmas)

  pub found-not : (value : Node) (at : Span) → found_in names classes (node.Not value at) ≡ found_in names classes value
  unfolding found_in
  found-not value at = search (rules, the_lemmas)

  pub found-if : (condition : Node) (first second : List Node) (at : Span) → found_in names classes (node.If condition first second at) ≡ earlier (found_in names classes condition) (earlier (found_in_all names classes first) (found_in_all names classes second))
  unfolding found_in
  found-if condition first second at = search (rules, the_lemmas)

  pub found-while : (condition : Node) (body : List Node) (at : Span) → found_in names classes (node.While condition body at) ≡ earlier (found_in names classes condition) (found_in_all names classes body)
  unfolding found_in
  found-while condition body at = search (rules, the_lemmas)

  pub found-return : (value : Option Node) (at : Span) → found_in names classes (node.Return value at) ≡ in_any (option_map (found_in names classes) value)
  unfolding found_in
  found-return value at = search (rules, the_lemmas)

  pub found-break : (at : Span) → found_in names classes (node.Break at) ≡ None
  unfolding found_in
  found-break at = search (rules, the_lemmas)

  pub found-next : (at : Span) → found_in names classes (node.Next at) ≡ None
  unfolding found_in
  found-next at = search (rules, the_lemmas)

  raw_call : (receiver : Option Node) (name : NameId) (args : List Node) (block : Option Block) (at : Span)
      → found_in names classes (node.Call receiver name args block at)
      ≡ earlier (here (is_call (is_some (option_map (found_in names classes) receiver)) (is_some (option_map (found_in_block names classes) block))) at)
      (earlier (in_any (option_map (found_in names classes) receiver)) (earlier (found_in_all names classes args) (in_any (option_map (found_in_block names classes) block))))
  unfolding found_in found_in_block
  raw_call receiver name args block at = search (rules, the_lemmas)

  pub found-call : (receiver : Option Node) (name : NameId) (args : List Node) (block : Option Block) (at : Span)
      → found_in names classes (node.Call receiver name args block at)
      ≡ earlier (here (is_call (is_some receiver) (is_some block)) at)
      (earlier (in_any (option_map (found_in names classes) receiver)) (earlier (found_in_all names classes args) (in_any (option_map (found_in_block names classes) block))))
  found-call receiver name args block at =
      let inside = earlier (in_any (option_map (found_in names classes) receiver)) (earlier (found_in_all names classes args) (in_any (option_map (found_in_block names classes) block))) in
      let block_found = is_some (option_map (found_in_block names classes) block) in
      raw_call receiver name args block at
      ∙ ap (λ r. earlier (here (is_call r block_found) at) inside) (some_of (found_in names classes) receiver)
      ∙ ap (λ b. earlier (here (is_call (is_some receiver) b) at) inside) (some_of (found_in_block names classes) block)

  pub piece-text : (text : List ℕ) → found_in_piece names classes (piece.Text text) ≡ None
  unfolding found_in_piece
  piece-text text = search (rules, the_lemmas)

  pub piece-code : (code : Node) → found_in_piece names classes (piece.Code code) ≡ found_in names classes code
  unfolding found_in found_in_piece
  piece-code code = search (rules, the_lemmas)

  pub target-local : (name : NameId) → found_in_target names classes (target.Local name) ≡ None
  unfolding found_in_target
  target-local name = search (rules, the_lemmas)

  pub target-field : (name : NameId) → found_in_target names classes (target.Field name) ≡ None
  unfolding found_in_target
  target-field name = search (rules, the_lemmas)

  pub target-global : (name : NameId) → found_in_target names classes (target.Global name) ≡ None
  unfolding found_in_target
  target-global name = search (rules, the_lemmas)

  pub target-index : (receiver index : Node) → found_in_target names classes (target.Index receiver index) ≡ earlier (found_in names classes receiver) (found_in names classes index)
  unfolding found_in found_in_target
  target-index receiver index = search (rules, the_lemmas)

  pub target-attribute : (receiver : Node) (name : NameId) → found_in_target names classes (target.Attribute receiver name) ≡ found_in names classes receiver
  unfolding found_in found_in_target
  target-attribute receiver name = search (rules, the_lemmas)

  pub block-body : (block : Block) → found_in_block names classes block ≡ found_in_all names classes (out-Block block).body
  unfolding found_in found_in_block
  block-body block = search (rules, the_lemmas)

pub ruleset layers = (found-nil, found-false, found-true, found-self_ref, found-int, found-sym, found-str, found-array, found-hash, found-local, found-field, found-global, found-set_local, found-set_field, found-set_global, found-store, found-op_assign, found-new, found-thread_new, found-and, found-or, found-not, found-if, found-while, found-return, found-break, found-next, found-call, piece-text, piece-code, target-local, target-field, target-global, target-index, target-attribute, block-body)
