-- Whether the attributes in a node have words for their names, from its parts.
use Rattle.std.proofs.Common.{◌≡◌, ◌∙◌, ap, refl, ℕ, Bool, List, [], ◌∷◌, Option, map, rules}
use Rattle.std.specs.Prelude.{◌&&◌}
use Rattle.std.specs.Option.{option_map}
use Rattle.rb_tree.specs.declared.span.Span.{Span}
use Rattle.rb_tree.specs.declared.span.NameId.{NameId}
use Rattle.rb_tree.specs.declared.node.AssignOp.{AssignOp}
use Rattle.rb_tree.specs.declared.node.Node.{Node, the_lemmas}
use Rattle.rb_tree.specs.declared.node.Node.TheVariants as node
use Rattle.rb_tree.specs.declared.node.Piece.{Piece}
use Rattle.rb_tree.specs.declared.node.Piece.TheVariants as piece
use Rattle.rb_tree.specs.declared.node.Target.{Target}
use Rattle.rb_tree.specs.declared.node.Target.TheVariants as target
use Rattle.rb_tree.specs.declared.node.Block.{Block, out-Block}
use Rattle.rb_accepted.specs.Unbuilt.{text_of}
use Rattle.rb_accepted.specs.Coded.{begins_word}
use Rattle.rb_accepted.proofs.Seen.{all_true, if_there, pair_worded, worded, all_worded, piece_is_worded, target_is_worded, block_is_worded}

-- pairs, with what their parts come to, and then in them
of_pairs : (f : Node → Bool) (pairs : List (Node × Node))
    → all_true (map pair_worded (map (λ (p : Node × Node). (f p.0, f p.1)) pairs)) ≡ all_true (map (λ (p : Node × Node). f p.0 && f p.1) pairs)
of_pairs f [] = refl
of_pairs f (p ∷ ps) = ap (λ rest. (f p.0 && f p.1) && rest) (of_pairs f ps)

module _ (names : List (List ℕ)) where
  abbrev has : Node → Bool
  has n = worded names n

  abbrev pub pair_is_worded : Node × Node → Bool
  pair_is_worded p = worded names p.0 && worded names p.1

  pub worded-str : (pieces : List Piece) (at : Span)
      → has (node.Str pieces at) ≡ all_true (map (piece_is_worded names) pieces)
  unfolding worded piece_is_worded
  worded-str pieces at = search (rules, the_lemmas)

  pub worded-array : (items : List Node) (at : Span)
      → has (node.Array items at) ≡ all_worded names items
  unfolding worded
  worded-array items at = search (rules, the_lemmas)

  pub worded-set_local : (name : NameId) (value : Node) (at : Span)
      → has (node.SetLocal name value at) ≡ has value
  unfolding worded
  worded-set_local name value at = search (rules, the_lemmas)

  pub worded-set_field : (name : NameId) (value : Node) (at : Span)
      → has (node.SetField name value at) ≡ has value
  unfolding worded
  worded-set_field name value at = search (rules, the_lemmas)

  pub worded-set_global : (name : NameId) (value : Node) (at : Span)
      → has (node.SetGlobal name value at) ≡ has value
  unfolding worded
  worded-set_global name value at = search (rules, the_lemmas)

  pub worded-store : (receiver : Node) (name : NameId) (args : List Node) (at : Span)
      → has (node.Store receiver name args at) ≡ (has receiver && all_worded names args)
  unfolding worded
  worded-store receiver name args at = search (rules, the_lemmas)

  pub worded-op_assign : (written : Target) (op : AssignOp) (value : Node) (at : Span)
      → has (node.OpAssign written op value at) ≡ (target_is_worded names written && has value)
  unfolding worded target_is_worded
  worded-op_assign written op value at = search (rules, the_lemmas)

  pub worded-call : (receiver : Option Node) (name : NameId) (args : List Node) (block : Option Block) (at : Span)
      → has (node.Call receiver name args block at) ≡ (if_there (option_map (worded names) receiver) && (all_worded names args && if_there (option_map (block_is_worded names) block)))
  unfolding worded block_is_worded
  worded-call receiver name args block at = search (rules, the_lemmas)

  pub worded-new : (class : NameId) (args : List Node) (at : Span)
      → has (node.New class args at) ≡ all_worded names args
  unfolding worded
  worded-new class args at = search (rules, the_lemmas)

  pub worded-thread_new : (args : List Node) (body : ℕ) (at : Span)
      → has (node.ThreadNew args body at) ≡ all_worded names args
  unfolding worded
  worded-thread_new args body at = search (rules, the_lemmas)

  pub worded-and : (first second : Node) (at : Span)
      → has (node.And first second at) ≡ (has first && has second)
  unfolding worded
  worded-and first second at = search (rules, the_lemmas)

  pub worded-or : (first second : Node) (at : Span)
      → has (node.Or first second at) ≡ (has first && has second)
  unfolding worded
  worded-or first second at = search (rules, the_lemmas)

  pub worded-not : (value : Node) (at : Span)
      → has (node.Not value at) ≡ has value
  unfolding worded
  worded-not value at = search (rules, the_lemmas)

  pub worded-if : (condition : Node) (first second : List Node) (at : Span)
      → has (node.If condition first second at) ≡ (has condition && (all_worded names first && all_worded names second))
  unfolding worded
  worded-if condition first second at = search (rules, the_lemmas)

  pub worded-while : (condition : Node) (body : List Node) (at : Span)
      → has (node.While condition body at) ≡ (has condition && all_worded names body)
  unfolding worded
  worded-while condition body at = search (rules, the_lemmas)

  pub worded-return : (value : Option Node) (at : Span)
      → has (node.Return value at) ≡ if_there (option_map (worded names) value)
  unfolding worded
  worded-return value at = search (rules, the_lemmas)

  raw_hash : (pairs : List (Node × Node)) (at : Span)
      → has (node.Hash pairs at) ≡ all_true (map pair_worded (map (λ (p : Node × Node). (worded names p.0, worded names p.1)) pairs))
  unfolding worded
  raw_hash pairs at = search (rules, the_lemmas)

  pub worded-hash : (pairs : List (Node × Node)) (at : Span) → has (node.Hash pairs at) ≡ all_true (map pair_is_worded pairs)
  worded-hash pairs at = raw_hash pairs at ∙ of_pairs (worded names) pairs

  pub worded-piece_code : (n : Node) → piece_is_worded names (piece.Code n) ≡ has n
  unfolding worded piece_is_worded
  worded-piece_code n = search (rules, the_lemmas)

  pub worded-index : (receiver index : Node) → target_is_worded names (target.Index receiver index) ≡ (has receiver && has index)
  unfolding worded target_is_worded
  worded-index receiver index = search (rules, the_lemmas)

  pub worded-attribute : (receiver : Node) (name : NameId)
      → target_is_worded names (target.Attribute receiver name) ≡ (begins_word (text_of names name) && has receiver)
  unfolding worded target_is_worded
  worded-attribute receiver name = search (rules, the_lemmas)

  pub worded-block : (b : Block) → block_is_worded names b ≡ all_worded names (out-Block b).body
  unfolding worded block_is_worded
  worded-block b = search (rules, the_lemmas)
