-- What has code, from its parts.
use Rattle.std.proofs.Common.{◌≡◌, ◌∙◌, ap, refl, sym, ℕ, Bool, true, false, List, [], ◌∷◌, ◌++◌, Option, Some, None, map, rules}
use Rattle.std.specs.Prelude.{ℤ, ◌&&◌, not, is_some}
use Rattle.std.specs.Option.{option_map}
use Rattle.rb_tree.specs.declared.span.Span.{Span}
use Rattle.rb_tree.specs.declared.span.NameId.{NameId}
use Rattle.rb_tree.specs.declared.node.AssignOp.{AssignOp}
use Rattle.rb_tree.specs.declared.node.Node.{Node, the_lemmas}
use Rattle.rb_tree.specs.declared.node.Node.TheVariants as node
use Rattle.rb_tree.specs.declared.node.Piece.{Piece}
use Rattle.rb_tree.specs.declared.node.Piece.TheVariants as piece
use Rattle.rb_tree.specs.declared.node.Target.{Target}
use Rattle.rb_tree.specs.declared.node.Target.TheVariants as target
use Rattle.rb_tree.specs.declared.node.Block.{Block, out-Block}
use Rattle.rb_tree.specs.declared.node.Class.{Class}
use Rattle.rb_accepted.specs.Unbuilt.{is_call, is_built_class, text_of}
use Rattle.rb_accepted.specs.Coded.{Coded, every, if_some, is_seen, are_seen, begins_word, pair_coded, coded, piece_is_coded, target_is_coded, block_is_coded, body_is_coded}

-- pairs, with what their parts come to, and then in them
of_pairs : (f : Node → Coded) (scope : List NameId) (pairs : List (Node × Node))
    → every (map pair_coded (map (λ (p : Node × Node). (f p.0, f p.1)) pairs)) scope ≡ every (map (λ (p : Node × Node). pair_coded (f p.0, f p.1)) pairs) scope
of_pairs f scope [] = refl
of_pairs f scope (p ∷ ps) = ap (λ rest. (f p.0 scope && f p.1 scope) && rest) (of_pairs f scope ps)

-- whether something is there is the same of what it comes to
some_of : {A B : Type 0} (f : A → B) (o : Option A) → is_some (option_map f o) ≡ is_some o
some_of f None = refl
some_of f (Some x) = refl

module _ (names : List (List ℕ)) (classes : List Class) (block_names : Span → List NameId) (captured_names : ℕ → List NameId) (scope : List NameId) where
  abbrev has : Node → Bool
  has n = coded names classes block_names captured_names n scope

  abbrev all_have : List Node → Bool
  all_have ns = body_is_coded names classes block_names captured_names ns scope

  abbrev pub pair_has : Node × Node → Coded
  pair_has p = pair_coded (coded names classes block_names captured_names p.0, coded names classes block_names captured_names p.1)

  pub coded-nil : (at : Span) → has (node.Nil at) ≡ true
  unfolding coded
  coded-nil at = search (rules, the_lemmas)

  pub coded-false : (at : Span) → has (node.False at) ≡ true
  unfolding coded
  coded-false at = search (rules, the_lemmas)

  pub coded-true : (at : Span) → has (node.True at) ≡ true
  unfolding coded
  coded-true at = search (rules, the_lemmas)

  pub coded-self_ref : (at : Span) → has (node.SelfRef at) ≡ true
  unfolding coded
  coded-self_ref at = search (rules, the_lemmas)

  pub coded-break : (at : Span) → has (node.Break at) ≡ true
  unfolding coded
  coded-break at = search (rules, the_lemmas)

  pub coded-next : (at : Span) → has (node.Next at) ≡ true
  unfolding coded
  coded-next at = search (rules, the_lemmas)

  pub coded-int : (n : ℤ) (at : Span) → has (node.Int n at) ≡ true
  unfolding coded
  coded-int n at = search (rules, the_lemmas)

  pub coded-sym : (name : NameId) (at : Span) → has (node.Sym name at) ≡ true
  unfolding coded
  coded-sym name at = search (rules, the_lemmas)

  pub coded-field : (name : NameId) (at : Span) → has (node.Field name at) ≡ true
  unfolding coded
  coded-field name at = search (rules, the_lemmas)

  pub coded-global : (name : NameId) (at : Span) → has (node.Global name at) ≡ true
  unfolding coded
  coded-global name at = search (rules, the_lemmas)

  pub coded-local : (name : NameId) (at : Span) → has (node.Local name at) ≡ is_seen name scope
  unfolding coded
  coded-local name at = search (rules, the_lemmas)

  pub coded-str : (pieces : List Piece) (at : Span) → has (node.Str pieces at) ≡ every (map (piece_is_coded names classes block_names captured_names) pieces) scope
  unfolding coded piece_is_coded
  coded-str pieces at = search (rules, the_lemmas)

  pub coded-array : (items : List Node) (at : Span) → has (node.Array items at) ≡ all_have items
  unfolding coded
  coded-array items at = search (rules, the_lemmas)

  pub coded-set_local : (name : NameId) (value : Node) (at : Span) → has (node.SetLocal name value at) ≡ (is_seen name scope && has value)
  unfolding coded
  coded-set_local name value at = search (rules, the_lemmas)

  pub coded-set_field : (name : NameId) (value : Node) (at : Span) → has (node.SetField name value at) ≡ has value
  unfolding coded
  coded-set_field name value at = search (rules, the_lemmas)

  pub coded-set_global : (name : NameId) (value : Node) (at : Span) → has (node.SetGlobal name value at) ≡ has value
  unfolding coded
  coded-set_global name value at = search (rules, the_lemmas)

  pub coded-store : (receiver : Node) (name : NameId) (args : List Node) (at : Span) → has (node.Store receiver name args at) ≡ (has receiver && all_have args)
  unfolding coded
  coded-store receiver name args at = search (rules, the_lemmas)

  pub coded-op_assign : (written : Target) (op : AssignOp) (value : Node) (at : Span) → has (node.OpAssign written op value at) ≡ (target_is_coded names classes block_names captured_names written scope && has value)
  unfolding coded target_is_coded
  coded-op_assign written op value at = search (rules, the_lemmas)

  pub coded-new : (class : NameId) (args : List Node) (at : Span) → has (node.New class args at) ≡ (is_built_class names classes class && all_have args)
  unfolding coded
  coded-new class args at = search (rules, the_lemmas)

  pub coded-thread_new : (args : List Node) (body : ℕ) (at : Span) → has (node.ThreadNew args body at) ≡ (are_seen (captured_names body) scope && all_have args)
  unfolding coded
  coded-thread_new args body at = search (rules, the_lemmas)

  pub coded-and : (first second : Node) (at : Span) → has (node.And first second at) ≡ (has first && has second)
  unfolding coded
  coded-and first second at = search (rules, the_lemmas)

  pub coded-or : (first second : Node) (at : Span) → has (node.Or first second at) ≡ (has first && has second)
  unfolding coded
  coded-or first second at = search (rules, the_lemmas)

  pub coded-not : (value : Node) (at : Span) → has (node.Not value at) ≡ has value
  unfolding coded
  coded-not value at = search (rules, the_lemmas)

  pub coded-if : (condition : Node) (first second : List Node) (at : Span) → has (node.If condition first second at) ≡ (has condition && (all_have first && all_have second))
  unfolding coded
  coded-if condition first second at = search (rules, the_lemmas)

  pub coded-while : (condition : Node) (body : List Node) (at : Span) → has (node.While condition body at) ≡ (has condition && all_have body)
  unfolding coded
  coded-while condition body at = search (rules, the_lemmas)

  pub coded-return : (value : Option Node) (at : Span) → has (node.Return value at) ≡ if_some (option_map (coded names classes block_names captured_names) value) scope
  unfolding coded
  coded-return value at = search (rules, the_lemmas)

  raw_hash : (pairs : List (Node × Node)) (at : Span)
      → has (node.Hash pairs at)
      ≡ every (map pair_coded (map (λ (p : Node × Node). (coded names classes block_names captured_names p.0, coded names classes block_names captured_names p.1)) pairs)) scope
  unfolding coded
  raw_hash pairs at = search (rules, the_lemmas)

  pub coded-hash : (pairs : List (Node × Node)) (at : Span) → has (node.Hash pairs at) ≡ every (map pair_has pairs) scope
  coded-hash pairs at = raw_hash pairs at ∙ of_pairs (coded names classes block_names captured_names) scope pairs

  raw_call : (receiver : Option Node) (name : NameId) (args : List Node) (block : Option Block) (at : Span)
      → has (node.Call receiver name args block at)
      ≡ (not (is_call (is_some (option_map (coded names classes block_names captured_names) receiver)) (is_some (option_map (block_is_coded names classes block_names captured_names) block)))
      && (if_some (option_map (coded names classes block_names captured_names) receiver) scope
      && (all_have args && if_some (option_map (block_is_coded names classes block_names captured_names) block) scope)))
  unfolding coded block_is_coded
  raw_call receiver name args block at = search (rules, the_lemmas)

  pub coded-call : (receiver : Option Node) (name : NameId) (args : List Node) (block : Option Block) (at : Span)
      → has (node.Call receiver name args block at)
      ≡ (not (is_call (is_some receiver) (is_some block))
      && (if_some (option_map (coded names classes block_names captured_names) receiver) scope
      && (all_have args && if_some (option_map (block_is_coded names classes block_names captured_names) block) scope)))
  coded-call receiver name args block at =
      let block_there = is_some (option_map (block_is_coded names classes block_names captured_names) block) in
      let inside =
      if_some (option_map (coded names classes block_names captured_names) receiver) scope
      && (all_have args && if_some (option_map (block_is_coded names classes block_names captured_names) block) scope) in
      raw_call receiver name args block at
      ∙ ap (λ r. not (is_call r block_there) && inside) (some_of (coded names classes block_names captured_names) receiver)
      ∙ ap (λ b. not (is_call (is_some receiver) b) && inside) (some_of (block_is_coded names classes block_names captured_names) block)

  pub coded-piece_text : (bytes : List ℕ) → piece_is_coded names classes block_names captured_names (piece.Text bytes) scope ≡ true
  unfolding piece_is_coded
  coded-piece_text bytes = search (rules, the_lemmas)

  pub coded-piece_code : (n : Node) → piece_is_coded names classes block_names captured_names (piece.Code n) scope ≡ has n
  unfolding coded piece_is_coded
  coded-piece_code n = search (rules, the_lemmas)

  pub coded-target_local : (name : NameId) → target_is_coded names classes block_names captured_names (target.Local name) scope ≡ is_seen name scope
  unfolding target_is_coded
  coded-target_local name = search (rules, the_lemmas)

  pub coded-target_field : (name : NameId) → target_is_coded names classes block_names captured_names (target.Field name) scope ≡ true
  unfolding target_is_coded
  coded-target_field name = search (rules, the_lemmas)

  pub coded-target_global : (name : NameId) → target_is_coded names classes block_names captured_names (target.Global name) scope ≡ true
  unfolding target_is_coded
  coded-target_global name = search (rules, the_lemmas)

  pub coded-index : (receiver index : Node) → target_is_coded names classes block_names captured_names (target.Index receiver index) scope ≡ (has receiver && has index)
  unfolding coded target_is_coded
  coded-index receiver index = search (rules, the_lemmas)

  pub coded-attribute : (receiver : Node) (name : NameId)
      → target_is_coded names classes block_names captured_names (target.Attribute receiver name) scope ≡ (begins_word (text_of names name) && has receiver)
  unfolding coded target_is_coded
  coded-attribute receiver name = search (rules, the_lemmas)

  pub coded-block : (b : Block)
      → block_is_coded names classes block_names captured_names b scope
      ≡ body_is_coded names classes block_names captured_names (out-Block b).body (scope ++ block_names (out-Block b).at)
  unfolding coded block_is_coded
  coded-block b = search (rules, the_lemmas)
