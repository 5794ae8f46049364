-- Whether the names of attributes in a node are words, from its parts.
use Rattle.std.proofs.Common.{◌≡◌, ◌∙◌, ap, refl, ℕ, Bool, true, List, [], ◌∷◌, Option, map, rules}
use Rattle.std.specs.Prelude.{ℤ, ◌&&◌}
use Rattle.std.specs.Option.{option_map}
use Rattle.rb_tree.specs.declared.span.Span.{Span}
use Rattle.rb_tree.specs.declared.span.NameId.{NameId}
use Rattle.rb_tree.specs.declared.node.AssignOp.{AssignOp}
use Rattle.rb_tree.specs.declared.node.Node.{Node, the_lemmas}
use Rattle.rb_tree.specs.declared.node.Node.TheVariants as node
use Rattle.rb_tree.specs.declared.node.Piece.{Piece}
use Rattle.rb_tree.specs.declared.node.Piece.TheVariants as piece
use Rattle.rb_tree.specs.declared.node.Target.{Target}
use Rattle.rb_tree.specs.declared.node.Target.TheVariants as target
use Rattle.rb_tree.specs.declared.node.Block.{Block, out-Block}
use Rattle.rb_accepted.specs.Unbuilt.{text_of}
use Rattle.rb_accepted.specs.Coded.{begins_word}
use Rattle.rb_accepted.proofs.Seen.{pair_worded, all_true, if_there, worded, piece_is_worded, target_is_worded, block_is_worded, all_worded}

-- pairs, with what their parts come to, and then in them
of_pairs : (f : Node → Bool) (pairs : List (Node × Node))
    → all_true (map pair_worded (map (λ (p : Node × Node). (f p.0, f p.1)) pairs)) ≡ all_true (map (λ (p : Node × Node). f p.0 && f p.1) pairs)
of_pairs f [] = refl
of_pairs f (p ∷ ps) = ap (λ rest. (f p.0 && f p.1) && rest) (of_pairs f ps)

module _ (names : List (List ℕ)) where
  abbrev pub pair_has : Node × Node → Bool
  pair_has p = worded names p.0 && worded names p.1

  pub worded-nil : (at : Span) → worded names (node.Nil at) ≡ true
  unfolding worded
  worded-nil at = search (rules, the_lemmas)

  pub worded-false : (at : Span) → worded names (node.False at) ≡ true
  unfolding worded
  worded-false at = search (rules, the_lemmas)

  pub worded-true : (at : Span) → worded names (node.True at) ≡ true
  unfolding worded
  worded-true at = search (rules, the_lemmas)

  pub worded-self_ref : (at : Span) → worded names (node.SelfRef at) ≡ true
  unfolding worded
  worded-self_ref at = search (rules, the_lemmas)

  pub worded-break : (at : Span) → worded names (node.Break at) ≡ true
  unfolding worded
  worded-break at = search (rules, the_lemmas)

  pub worded-next : (at : Span) → worded names (node.Next at) ≡ true
  unfolding worded
  worded-next at = search (rules, the_lemmas)

  pub worded-int : (n : ℤ) (at : Span) → worded names (node.Int n at) ≡ true
  unfolding worded
  worded-int n at = search (rules, the_lemmas)

  pub worded-sym : (name : NameId) (at : Span) → worded names (node.Sym name at) ≡ true
  unfolding worded
  worded-sym name at = search (rules, the_lemmas)

  pub worded-field : (name : NameId) (at : Span) → worded names (node.Field name at) ≡ true
  unfolding worded
  worded-field name at = search (rules, the_lemmas)

  pub worded-global : (name : NameId) (at : Span) → worded names (node.Global name at) ≡ true
  unfolding worded
  worded-global name at = search (rules, the_lemmas)

  pub worded-local : (name : NameId) (at : Span) → worded names (node.Local name at) ≡ true
  unfolding worded
  worded-local name at = search (rules, the_lemmas)

  pub worded-str : (pieces : List Piece) (at : Span) → worded names (node.Str pieces at) ≡ all_true (map (piece_is_worded names) pieces)
  unfolding worded piece_is_worded
  worded-str pieces at = search (rules, the_lemmas)

  pub worded-array : (items : List Node) (at : Span) → worded names (node.Array items at) ≡ all_worded names items
  unfolding worded
  worded-array items at = search (rules, the_lemmas)

  pub worded-set_local : (name : NameId) (value : Node) (at : Span) → worded names (node.SetLocal name value at) ≡ worded names value
  unfolding worded
  worded-set_local name value at = search (rules, the_lemmas)

  pub worded-set_field : (name : NameId) (value : Node) (at : Span) → worded names (node.SetField name value at) ≡ worded names value
  unfolding worded
  worded-set_field name value at = search (rules, the_lemmas)

  pub worded-set_global : (name : NameId) (value : Node) (at : Span) → worded names (node.SetGlobal name value at) ≡ worded names value
  unfolding worded
  worded-set_global name value at = search (rules, the_lemmas)

  pub worded-store : (receiver : Node) (name : NameId) (args : List Node) (at : Span) → worded names (node.Store receiver name args at)
      ≡ (worded names receiver && all_worded names args)
  unfolding worded
  worded-store receiver name args at = search (rules, the_lemmas)

  pub worded-op_assign : (written : Target) (op : AssignOp) (value : Node) (at : Span) → worded names (node.OpAssign written op value at)
      ≡ (target_is_worded names written && worded names value)
  unfolding worded target_is_worded
  worded-op_assign written op value at = search (rules, the_lemmas)

  pub worded-new : (class : NameId) (args : List Node) (at : Span) → worded names (node.New class args at) ≡ all_worded names args
  unfolding worded
  worded-new class args at = search (rules, the_lemmas)

  pub worded-thread_new : (args : List Node) (body : ℕ) (at : Span) → worded names (node.ThreadNew args body at) ≡ all_worded names args
  unfolding worded
  worded-thread_new args body at = search (rules, the_lemmas)

  pub worded-and : (first second : Node) (at : Span) → worded names (node.And first second at) ≡ (worded names first && worded names second)
  unfolding worded
  worded-and first second at = search (rules, the_lemmas)

  pub worded-or : (first second : Node) (at : Span) → worded names (node.Or first second at) ≡ (worded names first && worded names second)
  unfolding worded
  worded-or first second at = search (rules, the_lemmas)

  pub worded-not : (value : Node) (at : Span) → worded names (node.Not value at) ≡ worded names value
  unfolding worded
  worded-not value at = search (rules, the_lemmas)

  pub worded-if : (condition : Node) (first second : List Node) (at : Span) → worded names (node.If condition first second at)
      ≡ (worded names condition && (all_worded names first && all_worded names second))
  unfolding worded
  worded-if condition first second at = search (rules, the_lemmas)

  pub worded-while : (condition : Node) (body : List Node) (at : Span) → worded names (node.While condition body at)
      ≡ (worded names condition && all_worded names body)
  unfolding worded
  worded-while condition body at = search (rules, the_lemmas)

  pub worded-return : (value : Option Node) (at : Span) → worded names (node.Return value at) ≡ if_there (option_map (worded names) value)
  unfolding worded
  worded-return value at = search (rules, the_lemmas)

  pub worded-call : (receiver : Option Node) (name : NameId) (args : List Node) (block : Option Block) (at : Span)
      → worded names (node.Call receiver name args block at) ≡
      (if_there (option_map (worded names) receiver) && (all_worded names args && if_there (option_map (block_is_worded names) block)))
  unfolding worded block_is_worded
  worded-call receiver name args block at = search (rules, the_lemmas)

  raw_hash : (pairs : List (Node × Node)) (at : Span)
      → worded names (node.Hash pairs at) ≡ all_true (map pair_worded (map (λ (p : Node × Node). (worded names p.0, worded names p.1)) pairs))
  unfolding worded
  raw_hash pairs at = search (rules, the_lemmas)

  pub worded-hash : (pairs : List (Node × Node)) (at : Span) → worded names (node.Hash pairs at) ≡ all_true (map pair_has pairs)
  worded-hash pairs at = raw_hash pairs at ∙ of_pairs (worded names) pairs

  pub worded-piece_text : (bytes : List ℕ) → piece_is_worded names (piece.Text bytes) ≡ true
  unfolding piece_is_worded
  worded-piece_text bytes = search (rules, the_lemmas)

  pub worded-piece_code : (n : Node) → piece_is_worded names (piece.Code n) ≡ worded names n
  unfolding worded piece_is_worded
  worded-piece_code n = search (rules, the_lemmas)

  pub worded-target_local : (name : NameId) → target_is_worded names (target.Local name) ≡ true
  unfolding target_is_worded
  worded-target_local name = search (rules, the_lemmas)

  pub worded-target_field : (name : NameId) → target_is_worded names (target.Field name) ≡ true
  unfolding target_is_worded
  worded-target_field name = search (rules, the_lemmas)

  pub worded-target_global : (name : NameId) → target_is_worded names (target.Global name) ≡ true
  unfolding target_is_worded
  worded-target_global name = search (rules, the_lemmas)

  pub worded-index : (receiver index : Node) → target_is_worded names (target.Index receiver index) ≡ (worded names receiver && worded names index)
  unfolding worded target_is_worded
  worded-index receiver index = search (rules, the_lemmas)

  pub worded-attribute : (receiver : Node) (name : NameId) → target_is_worded names (target.Attribute receiver name)
      ≡ (begins_word (text_of names name) && worded names receiver)
  unfolding worded target_is_worded
  worded-attribute receiver name = search (rules, the_lemmas)

  pub worded-block : (b : Block) → block_is_worded names b ≡ all_worded names (out-Block b).body
  unfolding worded block_is_worded
  worded-block b = search (rules, the_lemmas)
