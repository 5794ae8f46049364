-- In a script whose identifiers and symbols are words, so are the names of methods of classes and of attributes.
use Rattle.std.proofs.Common.{◌≡◌, refl, ap, sym, subst, ◌∙◌, rules, ◌≤◌, ◌<◌, Bool, true, false, List, [], ◌∷◌, ◌++◌, map, Some, None, arith}
use Rattle.std.specs.Prelude.{codes, ◌&&◌, slice_get, unwrap_or, if◌then◌else◌}
use Rattle.std.specs.Str.{bytes_eq}
use Rattle.rb_tree.specs.declared.span.Span.{Span}
use Rattle.rb_tree.specs.declared.span.NameId.{NameId}
use Rattle.rb_tree.specs.declared.node.AssignOp.{AssignOp}
use Rattle.rb_tree.specs.declared.node.Node.{Node, the_lemmas}
use Rattle.rb_tree.specs.declared.node.Node.TheVariants as node
use Rattle.rb_tree.specs.declared.node.Target.TheVariants as target
use Rattle.rb_tree.specs.declared.node.Param.{Param}
use Rattle.rb_tree.specs.declared.node.Block.{roll-Block}
use Rattle.rb_grammar.specs.Tree.{Text, Word, Numbering, Thread, Tree, BlockTree, PieceTree, TargetTree, MethodTree, ClassTree, Members, Items, nodes, names_of, threads_of, block_by, params_by, code_of, piece_by, flat, given}
use Rattle.rb_grammar.specs.Tree as tree
use Rattle.rb_grammar.specs.Scope.{with_params, enter_method, enter_block}
use Rattle.rb_grammar.specs.Faithful.{Each}
use Rattle.rb_grammar.proofs.Each.{each_left, each_right, each_append}
use Rattle.rb_accepted.specs.Unbuilt.{text_of}
use Rattle.rb_accepted.specs.Coded.{begins_word}
use Rattle.rb_accepted.proofs.Seen.{all_true, worded, piece_is_worded, target_is_worded, block_is_worded, all_worded}
use Rattle.rb_accepted.proofs.Wordings as wording
use Rattle.rb_accepted.proofs.Walked.{Point, changed, On, Within, IsNamed, Walks, TargetIn, BodyIn, BlockIn, MethodIn, IsWalked}
use Rattle.rb_accepted.proofs.Makings.{setter_named}

-- of two truths, both
both_true : (a b : Bool) → a ≡ true → b ≡ true → (a && b) ≡ true
both_true a b h k = ap (λ t. t && b) h ∙ k

-- points with a place between them
between : (x y : Point) (at : Span) → Within x at y → x.from ≤ y.from
between x y at w =
    let above : x.from ≤ at.from = w.above in
    let below : at.from < y.from = w.below in
    omega arith

rolled_worded : (names : List Text) (params : List Param) (body : List Node) (at : Span)
    → block_is_worded names (roll-Block (record { params = params; body = body; at = at })) ≡ all_worded names body
rolled_worded names params body at = search (rules, the_lemmas, wording.worded-block)

-- the body of a thread, by its block
abbrev own : BlockTree → Thread
own b = record { at = b.at; block = λ n. block_by n b }

-- by these texts of names and this numbering
module _ (names : List Text) (n : Numbering) where
  -- these words have their numbers
  abbrev Has : Word → Type 0
  Has w = slice_get names (n.name w.text).0 ≡ Some w.text

  abbrev pub Have : List Word → Type 0
  Have ws = Each Has ws

  abbrev Fits : Tree → Type 0
  Fits a = worded names (a.node n) ≡ true

  abbrev pub ThreadFits : Thread → Type 0
  ThreadFits t = block_is_worded names (t.block n) ≡ true

  -- attributes have words for names in a tree, and in the bodies of its threads
  abbrev IsWorded : Tree → Type 0
  IsWorded a = Have a.names → Fits a × Each ThreadFits a.threads

  abbrev pub Words : Point → Tree → Point → Type 0
  Words x a y = (x.from ≤ y.from) × IsWorded a

  -- ---- lists of trees

  walked : (x y : Point) (xs : List Tree) → Walks Words x xs y → Each IsWorded xs
  walked x y [] g = tt
  walked x y (a ∷ more) g = (g.1.0.1, walked g.0 y more g.1.1)

  trees_worded : (xs : List Tree) → Each IsWorded xs → Each (λ a. Have a.names) xs → Each Fits xs × Each ThreadFits (threads_of xs)
  trees_worded [] g h = (tt, tt)
  trees_worded (a ∷ more) g h =
      let first = g.0 h.0 in
      let rest = trees_worded more g.1 h.1 in
      ((first.0, rest.0), each_append ThreadFits a.threads (threads_of more) first.1 rest.1)

  have_each : (xs : List Tree) → Have (names_of xs) → Each (λ a. Have a.names) xs
  have_each [] h = tt
  have_each (a ∷ more) h = (each_left Has a.names (names_of more) h, have_each more (each_right Has a.names (names_of more) h))

  pub all_fit : (xs : List Tree) → Each Fits xs → all_worded names (nodes n xs) ≡ true
  all_fit [] h = refl
  all_fit (a ∷ more) h = both_true (worded names (a.node n)) (all_worded names (nodes n more)) h.0 (all_fit more h.1)

  -- a tree, by the trees in it
  branch_worded : (made : Tree) (inside : List Tree) → Each IsWorded inside → (Have made.names → Each (λ a. Have a.names) inside)
      → made.threads ≡ threads_of inside → (Each Fits inside → Fits made) → IsWorded made
  branch_worded made inside g split same fits = λ h.
      let all = trees_worded inside g (split h) in
      (fits all.0, subst (Each ThreadFits) (sym same) all.1)

  left : (xs ys : List Word) → Have (xs ++ ys) → Have xs
  left = each_left Has

  right : (xs ys : List Word) → Have (xs ++ ys) → Have ys
  right = each_right Has

  -- ---- calls

  call_worded : (w : Word) (args : List Tree) → Each IsWorded args → IsWorded (tree.call None w args)
  call_worded w args g =
      branch_worded (tree.call None w args) args g (λ h. have_each args h.1) refl
      (λ f. wording.worded-call names None (n.name w.text) (nodes n args) None w.at ∙ both_true (all_worded names (nodes n args)) true (all_fit args f) refl)

  -- a call of one receiver with arguments
  fits_call : (made : Tree) (a : Tree) (id : NameId) (args : List Tree) (at : Span) → made.node n ≡ node.Call (Some (a.node n)) id (nodes n args) None at
      → Each Fits (a ∷ args) → Fits made
  fits_call made a id args at is f =
      ap (worded names) is ∙ wording.worded-call names (Some (a.node n)) id (nodes n args) None at
      ∙ both_true (worded names (a.node n)) (all_worded names (nodes n args) && true) f.0 (both_true (all_worded names (nodes n args)) true (all_fit args f.1) refl)

  member_worded : (a : Tree) (w : Word) (args : List Tree) → IsWorded a → Each IsWorded args → IsWorded (tree.call (Some a) w args)
  member_worded a w args g h =
      branch_worded (tree.call (Some a) w args) (a ∷ args) (g, h)
      (λ k. (left a.names (w ∷ names_of args) k, have_each args (right a.names (w ∷ names_of args) k).1)) refl
      (fits_call (tree.call (Some a) w args) a (n.name w.text) args w.at refl)

  binary_worded : (operator : Text) (at : Span) (a b : Tree) → IsWorded a → IsWorded b → IsWorded (tree.binary operator at a b)
  binary_worded operator at a b g h =
      branch_worded (tree.binary operator at a b) (a ∷ b ∷ []) (g, (h, tt))
      (λ k. (left a.names (given operator at ∷ b.names) k, ((right a.names (given operator at ∷ b.names) k).1, tt))) refl
      (fits_call (tree.binary operator at a b) a (n.name operator) (b ∷ []) at refl)

  minus_worded : (at : Span) (a : Tree) → IsWorded a → IsWorded (tree.minus at a)
  minus_worded at a g =
      branch_worded (tree.minus at a) (a ∷ []) (g, tt) (λ k. (k.1, tt)) refl (fits_call (tree.minus at a) a (n.name tree.minus_name) [] at refl)

  block_fits : (b : BlockTree) → Each Fits b.body → block_is_worded names (block_by n b) ≡ true
  block_fits b f = rolled_worded names (params_by n b.params) (nodes n b.body) b.at ∙ all_fit b.body f

  block_call_worded : (a : Tree) (w : Word) (args : List Tree) (b : BlockTree) → IsWorded a → Each IsWorded args → Each IsWorded b.body
      → IsWorded (tree.call_with_block a w args b)
  block_call_worded a w args b g h i =
      branch_worded (tree.call_with_block a w args b) (a ∷ (args ++ b.body)) (g, each_append IsWorded args b.body h i)
      (λ k.
      let rest = (right a.names (w ∷ (names_of args ++ tree.block_names b)) k).1 in (
        left a.names (w ∷ (names_of args ++ tree.block_names b)) k,
        each_append (λ c. Have c.names) args b.body (have_each args (left (names_of args) (tree.block_names b) rest))
            (have_each b.body (right b.params (names_of b.body) (right (names_of args) (tree.block_names b) rest))),
      )) refl
      (λ f.
      let given_fit = all_fit args (each_left Fits args b.body f.1) in
      let block_fit = block_fits b (each_right Fits args b.body f.1) in
      wording.worded-call names (Some (a.node n)) (n.name w.text) (nodes n args) (Some (block_by n b)) w.at
      ∙ both_true (worded names (a.node n)) (all_worded names (nodes n args) && block_is_worded names (block_by n b)) f.0
      (both_true (all_worded names (nodes n args)) (block_is_worded names (block_by n b)) given_fit block_fit))

  new_worded : (class : Word) (at : Span) (args : List Tree) → Each IsWorded args → IsWorded (tree.new class at args)
  new_worded class at args g =
      branch_worded (tree.new class at args) args g (λ h. have_each args h.1) refl
      (λ f. wording.worded-new names (n.name class.text) (nodes n args) at ∙ all_fit args f)

  thread_worded : (at : Span) (args : List Tree) (b : BlockTree) → Each IsWorded args → Each IsWorded b.body → IsWorded (tree.thread_new at args b)
  thread_worded at args b g i = λ h.
      let first = trees_worded args g (have_each args (left (names_of args) (tree.block_names b) h)) in
      let inner = trees_worded b.body i (have_each b.body (right b.params (names_of b.body) (right (names_of args) (tree.block_names b) h))) in (
        wording.worded-thread_new names (nodes n args) (n.body b.at) at ∙ all_fit args first.0,
        each_append ThreadFits (threads_of args) (own b ∷ threads_of b.body) first.1 (block_fits b inner.0, inner.1),
      )

  -- ---- one tree, and two

  negated_worded : (at : Span) (a : Tree) → IsWorded a → IsWorded (tree.negated at a)
  negated_worded at a g = branch_worded (tree.negated at a) (a ∷ []) (g, tt) (λ k. (k, tt)) refl (λ f. wording.worded-not names (a.node n) at ∙ f.0)

  return_value_worded : (at : Span) (a : Tree) → IsWorded a → IsWorded (tree.return_value at a)
  return_value_worded at a g =
      branch_worded (tree.return_value at a) (a ∷ []) (g, tt) (λ k. (k, tt)) refl (λ f. wording.worded-return names (Some (a.node n)) at ∙ f.0)

  and_worded : (at : Span) (a b : Tree) → IsWorded a → IsWorded b → IsWorded (tree.and_also at a b)
  and_worded at a b g h =
      branch_worded (tree.and_also at a b) (a ∷ b ∷ []) (g, (h, tt)) (λ k. (left a.names b.names k, (right a.names b.names k, tt))) refl
      (λ f. wording.worded-and names (a.node n) (b.node n) at ∙ both_true (worded names (a.node n)) (worded names (b.node n)) f.0 f.1.0)

  or_worded : (at : Span) (a b : Tree) → IsWorded a → IsWorded b → IsWorded (tree.or_else at a b)
  or_worded at a b g h =
      branch_worded (tree.or_else at a b) (a ∷ b ∷ []) (g, (h, tt)) (λ k. (left a.names b.names k, (right a.names b.names k, tt))) refl
      (λ f. wording.worded-or names (a.node n) (b.node n) at ∙ both_true (worded names (a.node n)) (worded names (b.node n)) f.0 f.1.0)

  -- ---- literals

  pieces_fit : (pieces : List PieceTree) → Each Fits (code_of pieces) → all_true (map (piece_is_worded names) (map (piece_by n) pieces)) ≡ true
  pieces_fit [] f = refl
  pieces_fit (tree.bytes text ∷ more) f =
      both_true (piece_is_worded names (piece_by n (tree.bytes text))) (all_true (map (piece_is_worded names) (map (piece_by n) more)))
      (wording.worded-piece_text names text) (pieces_fit more f)
  pieces_fit (tree.code a ∷ more) f =
      both_true (piece_is_worded names (piece_by n (tree.code a))) (all_true (map (piece_is_worded names) (map (piece_by n) more)))
      (wording.worded-piece_code names (a.node n) ∙ f.0) (pieces_fit more f.1)

  string_worded : (at : Span) (pieces : List PieceTree) → Each IsWorded (code_of pieces) → IsWorded (tree.string at pieces)
  string_worded at pieces g =
      branch_worded (tree.string at pieces) (code_of pieces) g (λ h. have_each (code_of pieces) h) refl
      (λ f. wording.worded-str names (map (piece_by n) pieces) at ∙ pieces_fit pieces f)

  array_worded : (at : Span) (items : List Tree) → Each IsWorded items → IsWorded (tree.array at items)
  array_worded at items g =
      branch_worded (tree.array at items) items g (λ h. have_each items h) refl (λ f. wording.worded-array names (nodes n items) at ∙ all_fit items f)

  abbrev pairs_by : List (Tree × Tree) → List (Node × Node)
  pairs_by = map (λ p. (p.0.node n, p.1.node n))

  pairs_fit : (pairs : List (Tree × Tree)) → Each Fits (flat pairs) → all_true (map (wording.pair_has names) (pairs_by pairs)) ≡ true
  pairs_fit [] f = refl
  pairs_fit (p ∷ more) f =
      both_true (worded names (p.0.node n) && worded names (p.1.node n)) (all_true (map (wording.pair_has names) (pairs_by more)))
      (both_true (worded names (p.0.node n)) (worded names (p.1.node n)) f.0 f.1.0) (pairs_fit more f.1.1)

  hash_worded : (at : Span) (pairs : List (Tree × Tree)) → Each IsWorded (flat pairs) → IsWorded (tree.hash at pairs)
  hash_worded at pairs g =
      branch_worded (tree.hash at pairs) (flat pairs) g (λ h. have_each (flat pairs) h) refl
      (λ f. wording.worded-hash names (pairs_by pairs) at ∙ pairs_fit pairs f)

  -- ---- control

  choice_worded : (at : Span) (c : Tree) (xs ys : List Tree) → IsWorded c → Each IsWorded xs → Each IsWorded ys → IsWorded (tree.choice at c xs ys)
  choice_worded at c xs ys g h i =
      branch_worded (tree.choice at c xs ys) (c ∷ (xs ++ ys)) (g, each_append IsWorded xs ys h i)
      (λ k.
      let rest = right c.names (names_of xs ++ names_of ys) k in (
        left c.names (names_of xs ++ names_of ys) k,
        each_append (λ a. Have a.names) xs ys (have_each xs (left (names_of xs) (names_of ys) rest)) (have_each ys (right (names_of xs) (names_of ys) rest)),
      )) refl
      (λ f.
      wording.worded-if names (c.node n) (nodes n xs) (nodes n ys) at
      ∙ both_true (worded names (c.node n)) (all_worded names (nodes n xs) && all_worded names (nodes n ys)) f.0
      (both_true (all_worded names (nodes n xs)) (all_worded names (nodes n ys)) (all_fit xs (each_left Fits xs ys f.1)) (all_fit ys (each_right Fits xs ys f.1))))

  loop_worded : (at : Span) (c : Tree) (xs : List Tree) → IsWorded c → Each IsWorded xs → IsWorded (tree.loop at c xs)
  loop_worded at c xs g h =
      branch_worded (tree.loop at c xs) (c ∷ xs) (g, h) (λ k. (left c.names (names_of xs) k, have_each xs (right c.names (names_of xs) k))) refl
      (λ f. wording.worded-while names (c.node n) (nodes n xs) at ∙ both_true (worded names (c.node n)) (all_worded names (nodes n xs)) f.0 (all_fit xs f.1))

  choice_behind_worded : (at : Span) (b c : Tree) → IsWorded b → IsWorded c → IsWorded (tree.choice_behind at b c)
  choice_behind_worded at b c g h =
      branch_worded (tree.choice_behind at b c) (b ∷ c ∷ []) (g, (h, tt)) (λ k. (left b.names c.names k, (right b.names c.names k, tt))) refl
      (λ f.
      wording.worded-if names (c.node n) (b.node n ∷ []) [] at
      ∙ both_true (worded names (c.node n)) (all_worded names (nodes n (b ∷ [])) && true) f.1.0
      (both_true (all_worded names (nodes n (b ∷ []))) true (all_fit (b ∷ []) (f.0, tt)) refl))

  loop_behind_worded : (at : Span) (b c : Tree) → IsWorded b → IsWorded c → IsWorded (tree.loop_behind at b c)
  loop_behind_worded at b c g h =
      branch_worded (tree.loop_behind at b c) (b ∷ c ∷ []) (g, (h, tt)) (λ k. (left b.names c.names k, (right b.names c.names k, tt))) refl
      (λ f.
      wording.worded-while names (c.node n) (b.node n ∷ []) at
      ∙ both_true (worded names (c.node n)) (all_worded names (nodes n (b ∷ []))) f.1.0 (all_fit (b ∷ []) (f.0, tt)))

  -- ---- assignments

  store_fits : (made : Tree) (r : Tree) (id : NameId) (args : List Tree) (at : Span) → made.node n ≡ node.Store (r.node n) id (nodes n args) at
      → Each Fits (r ∷ args) → Fits made
  store_fits made r id args at is f =
      ap (worded names) is ∙ wording.worded-store names (r.node n) id (nodes n args) at
      ∙ both_true (worded names (r.node n)) (all_worded names (nodes n args)) f.0 (all_fit args f.1)

  -- the name of an attribute is a word
  named_fits : (w : Word) → Has w → IsNamed w → begins_word (text_of names (n.name w.text)) ≡ true
  named_fits w h is = ap (λ o. begins_word (unwrap_or o [])) h ∙ is

  assigned_worded : (x y : Point) (t : TargetTree) (at : Span) (a : Tree) → TargetIn Words x t y → IsWorded a → IsWorded (tree.assigned t at a)
  assigned_worded x y (tree.to_local w) at a e g =
      branch_worded (tree.assigned (tree.to_local w) at a) (a ∷ []) (g, tt) (λ k. (k.1, tt)) refl
      (λ f. wording.worded-set_local names (n.name w.text) (a.node n) at ∙ f.0)
  assigned_worded x y (tree.to_field w) at a e g =
      branch_worded (tree.assigned (tree.to_field w) at a) (a ∷ []) (g, tt) (λ k. (k.1, tt)) refl
      (λ f. wording.worded-set_field names (n.name w.text) (a.node n) at ∙ f.0)
  assigned_worded x y (tree.to_global w) at a e g =
      branch_worded (tree.assigned (tree.to_global w) at a) (a ∷ []) (g, tt) (λ k. (k.1, tt)) refl
      (λ f. wording.worded-set_global names (n.name w.text) (a.node n) at ∙ f.0)
  assigned_worded x y (tree.to_index r j bracket) at a e g =
      branch_worded (tree.assigned (tree.to_index r j bracket) at a) (r ∷ j ∷ a ∷ []) (e.1.0.1, (e.1.1.1, (g, tt)))
      (λ k.
      let rest = (right r.names (given tree.store_name bracket ∷ (j.names ++ a.names)) k).1 in
      (left r.names (given tree.store_name bracket ∷ (j.names ++ a.names)) k, (left j.names a.names rest, (right j.names a.names rest, tt)))) refl
      (store_fits (tree.assigned (tree.to_index r j bracket) at a) r (n.name tree.store_name) (j ∷ a ∷ []) at refl)
  assigned_worded x y (tree.to_attribute r w) at a e g =
      branch_worded (tree.assigned (tree.to_attribute r w) at a) (r ∷ a ∷ []) (e.0.1, (g, tt))
      (λ k. (left r.names (given (tree.setter_of w.text) w.at ∷ a.names) k, ((right r.names (given (tree.setter_of w.text) w.at ∷ a.names) k).1, tt))) refl
      (store_fits (tree.assigned (tree.to_attribute r w) at a) r (n.name (tree.setter_of w.text)) (a ∷ []) at refl)

  operated_worded : (x y : Point) (t : TargetTree) (op : AssignOp) (at : Span) (a : Tree) → TargetIn Words x t y → IsWorded a → IsWorded (tree.operated t op at a)
  operated_worded x y (tree.to_local w) op at a e g =
      branch_worded (tree.operated (tree.to_local w) op at a) (a ∷ []) (g, tt) (λ k. (k.1, tt)) refl
      (λ f.
      wording.worded-op_assign names (target.Local (n.name w.text)) op (a.node n) at
      ∙ both_true (target_is_worded names (target.Local (n.name w.text))) (worded names (a.node n)) (wording.worded-target_local names (n.name w.text)) f.0)
  operated_worded x y (tree.to_field w) op at a e g =
      branch_worded (tree.operated (tree.to_field w) op at a) (a ∷ []) (g, tt) (λ k. (k.1, tt)) refl
      (λ f.
      wording.worded-op_assign names (target.Field (n.name w.text)) op (a.node n) at
      ∙ both_true (target_is_worded names (target.Field (n.name w.text))) (worded names (a.node n)) (wording.worded-target_field names (n.name w.text)) f.0)
  operated_worded x y (tree.to_global w) op at a e g =
      branch_worded (tree.operated (tree.to_global w) op at a) (a ∷ []) (g, tt) (λ k. (k.1, tt)) refl
      (λ f.
      wording.worded-op_assign names (target.Global (n.name w.text)) op (a.node n) at
      ∙ both_true (target_is_worded names (target.Global (n.name w.text))) (worded names (a.node n)) (wording.worded-target_global names (n.name w.text)) f.0)
  operated_worded x y (tree.to_index r j bracket) op at a e g =
      branch_worded (tree.operated (tree.to_index r j bracket) op at a) (r ∷ j ∷ a ∷ []) (e.1.0.1, (e.1.1.1, (g, tt)))
      (λ k.
      let before = left (r.names ++ j.names) a.names k in
      (left r.names j.names before, (right r.names j.names before, (right (r.names ++ j.names) a.names k, tt)))) refl
      (λ f.
      wording.worded-op_assign names (target.Index (r.node n) (j.node n)) op (a.node n) at
      ∙ both_true (target_is_worded names (target.Index (r.node n) (j.node n))) (worded names (a.node n))
      (wording.worded-index names (r.node n) (j.node n) ∙ both_true (worded names (r.node n)) (worded names (j.node n)) f.0 f.1.0) f.1.1.0)
  operated_worded x y (tree.to_attribute r w) op at a e g = λ h.
      let before = left (r.names ++ w ∷ []) a.names h in
      let word = (right r.names (w ∷ []) before).0 in
      let all = trees_worded (r ∷ a ∷ []) (e.0.1, (g, tt)) (left r.names (w ∷ []) before, (right (r.names ++ w ∷ []) a.names h, tt)) in (
        wording.worded-op_assign names (target.Attribute (r.node n) (n.name w.text)) op (a.node n) at
            ∙ both_true (target_is_worded names (target.Attribute (r.node n) (n.name w.text))) (worded names (a.node n))
            (wording.worded-attribute names (r.node n) (n.name w.text)
            ∙ both_true (begins_word (text_of names (n.name w.text))) (worded names (r.node n)) (named_fits w word e.1) all.0.0) all.0.1.0,
        all.1,
      )

  -- ---- methods, classes and items

  abbrev pub NameFits : MethodTree → Type 0
  NameFits f = begins_word (text_of names (n.name f.name.text)) ≡ true

  abbrev pub BodyFits : MethodTree → Type 0
  BodyFits f = all_worded names (nodes n f.body) ≡ true

  pub record MembersFit (m : Members) : Type 0 where
    pub members : Each NameFits m.methods
    pub methods : Each BodyFits m.methods
    pub threads : Each ThreadFits m.threads

  abbrev pub MembersWorded : Point → Members → Point → Type 0
  MembersWorded x m y = Have m.names → MembersFit m

  body_worded : (x y : Point) (ws : List Word) (xs : List Tree) → BodyIn Words x ws xs y → Have (names_of xs)
      → (all_worded names (nodes n xs) ≡ true) × Each ThreadFits (threads_of xs)
  body_worded x y ws xs g h =
      let all = trees_worded xs (walked (changed (with_params ws) x) g.last xs g.walks) (have_each xs h) in
      (all_fit xs all.0, all.1)

  with_method_worded : (x y z : Point) (m : Members) (f : MethodTree) → MembersWorded x m y → MethodIn Words y f z → MembersWorded x (tree.with_method m f) z
  with_method_worded x y z m f g h = λ k.
      let before = g (left m.names (tree.method_names f) k) in
      let own_names = right m.names (tree.method_names f) k in
      let body = body_worded (changed enter_method y) z f.params f.body h.1 (right f.params (names_of f.body) own_names.1) in
      record {
        members = each_append NameFits m.methods (f ∷ []) before.members (named_fits f.name own_names.0 h.0, tt);
        methods = each_append BodyFits m.methods (f ∷ []) before.methods (body.0, tt);
        threads = each_append ThreadFits m.threads (threads_of f.body) before.threads body.1;
      }

  -- the methods of `attr` lines
  reader_fits : (w : Word) → BodyFits (tree.reader_of w)
  reader_fits w = both_true _ true (wording.worded-field names (n.name (tree.field_of w.text)) w.at) refl

  writer_fits : (w : Word) → BodyFits (tree.writer_of w)
  writer_fits w =
      both_true _ true
      (wording.worded-set_field names (n.name (tree.field_of w.text)) (node.Local (n.name (codes "v")) w.at) w.at
      ∙ wording.worded-local names (n.name (codes "v")) w.at) refl

  writer_named : (w : Word) → Has (given (tree.setter_of w.text) w.at) → IsNamed w → NameFits (tree.writer_of w)
  writer_named w h is = named_fits (given (tree.setter_of w.text) w.at) h (setter_named w.text is)

  attributes_fit : (reads writes : Bool) (w : Word) → IsNamed w
      → Have (
      if reads then w ∷ given (tree.field_of w.text) w.at ∷ []
      else if writes then given (tree.field_of w.text) w.at ∷ given (tree.setter_of w.text) w.at ∷ given (codes "v") w.at ∷ []
      else w ∷ given (tree.field_of w.text) w.at ∷ given (tree.setter_of w.text) w.at ∷ given (codes "v") w.at ∷ [])
      → Each NameFits (if reads then tree.reader_of w ∷ [] else if writes then tree.writer_of w ∷ [] else tree.reader_of w ∷ tree.writer_of w ∷ [])
      × Each BodyFits (if reads then tree.reader_of w ∷ [] else if writes then tree.writer_of w ∷ [] else tree.reader_of w ∷ tree.writer_of w ∷ [])
  attributes_fit true writes w is h = ((named_fits w h.0 is, tt), (reader_fits w, tt))
  attributes_fit false true w is h = ((writer_named w h.1.0 is, tt), (writer_fits w, tt))
  attributes_fit false false w is h = ((named_fits w h.0 is, (writer_named w h.1.1.0 is, tt)), (reader_fits w, (writer_fits w, tt)))

  with_attributes_worded : (x y : Point) (m : Members) (kind : Text) (ws : List Word) → MembersWorded x m y → Each IsNamed ws
      → MembersWorded x (tree.with_attributes m kind ws) y
  with_attributes_worded x y m kind [] g is = g
  with_attributes_worded x y m kind (w ∷ ws) g is =
      with_attributes_worded x y
      (record { methods = m.methods ++ tree.attribute_methods kind w; names = m.names ++ tree.attribute_names kind w; threads = m.threads }) kind ws
      (λ k.
      let before = g (left m.names (tree.attribute_names kind w) k) in
      let fit = attributes_fit (bytes_eq kind (codes "attr_reader")) (bytes_eq kind (codes "attr_writer")) w is.0 (right m.names (tree.attribute_names kind w) k) in
      record {
        members = each_append NameFits m.methods (tree.attribute_methods kind w) before.members fit.0;
        methods = each_append BodyFits m.methods (tree.attribute_methods kind w) before.methods fit.1;
        threads = before.threads;
      }) is.1

  abbrev pub ClassNames : ClassTree → Type 0
  ClassNames c = Each NameFits c.members.methods

  abbrev pub ClassBodies : ClassTree → Type 0
  ClassBodies c = Each BodyFits c.members.methods

  pub record ItemsFit (i : Items) : Type 0 where
    pub members : Each ClassNames i.classes
    pub in_classes : Each ClassBodies i.classes
    pub in_functions : Each BodyFits i.functions
    pub in_main : Each Fits i.main
    pub in_threads : Each ThreadFits i.threads

  abbrev pub ItemsWorded : Items → Point → Type 0
  ItemsWorded i y = Have i.names → ItemsFit i

  with_class_worded : (x y : Point) (i : Items) (c : ClassTree) → ItemsWorded i x → MembersWorded x c.members y → ItemsWorded (tree.with_class i c) y
  with_class_worded x y i c g h = λ k.
      let before = g (left i.names (c.name ∷ c.members.names) k) in
      let own = h (right i.names (c.name ∷ c.members.names) k).1 in
      record {
        members = each_append ClassNames i.classes (c ∷ []) before.members (own.members, tt);
        in_classes = each_append ClassBodies i.classes (c ∷ []) before.in_classes (own.methods, tt);
        in_functions = before.in_functions;
        in_main = before.in_main;
        in_threads = each_append ThreadFits i.threads c.members.threads before.in_threads own.threads;
      }

  with_function_worded : (x y : Point) (i : Items) (f : MethodTree) → ItemsWorded i x → MethodIn Words x f y → ItemsWorded (tree.with_function i f) y
  with_function_worded x y i f g h = λ k.
      let before = g (left i.names (tree.method_names f) k) in
      let own = body_worded (changed enter_method x) y f.params f.body h.1 (right f.params (names_of f.body) (right i.names (tree.method_names f) k).1) in
      record {
        members = before.members;
        in_classes = before.in_classes;
        in_functions = each_append BodyFits i.functions (f ∷ []) before.in_functions (own.0, tt);
        in_main = before.in_main;
        in_threads = each_append ThreadFits i.threads (threads_of f.body) before.in_threads own.1;
      }

  with_statement_worded : (x y : Point) (i : Items) (a : Tree) → ItemsWorded i x → Words x a y → ItemsWorded (tree.with_statement i a) y
  with_statement_worded x y i a g h = λ k.
      let before = g (left i.names a.names k) in
      let own = h.1 (right i.names a.names k) in
      record {
        members = before.members;
        in_classes = before.in_classes;
        in_functions = before.in_functions;
        in_main = each_append Fits i.main (a ∷ []) before.in_main (own.0, tt);
        in_threads = each_append ThreadFits i.threads a.threads before.in_threads own.1;
      }

  walks_wide : (x y : Point) (xs : List Tree) → Walks Words x xs y → x.from ≤ y.from
  walks_wide x y [] g = g.1
  walks_wide x y (a ∷ more) g =
      let one : x.from ≤ g.0.from = g.1.0.0 in
      let two : g.0.from ≤ y.from = walks_wide g.0 y more g.1.1 in
      omega arith

  thread_wide : (x y z u : Point) (args : List Tree) (b : BlockTree) → x.from ≤ y.from → Walks Words y args z → BlockIn Words z b u → x.from ≤ u.from
  thread_wide x y z u args b l g i =
      let middle : y.from ≤ z.from = walks_wide y z args g in
      let inner : z.from ≤ i.last.from = walks_wide (changed (with_params b.params) (changed enter_block z)) i.last b.body i.walks in
      let outer : i.last.from ≤ u.from = i.on in
      omega arith

  words_wider : (w x y z : Point) (a : Tree) → On w x → Words x a y → On y z → Words w a z
  words_wider w x y z a h g k =
      let one : w.from ≤ x.from = h.1 in
      let two : x.from ≤ y.from = g.0 in
      let three : y.from ≤ z.from = k.1 in
      (omega arith, g.1)

  -- each making carries on that names are words
  pub words_are_walked : IsWalked Words MembersWorded ItemsWorded
  words_are_walked = record {
    mono = λ x y a g. g.0;
    wider = words_wider;
    of_local = λ x y w is on within. (on.1, λ h. (wording.worded-local names (n.name w.text) w.at, tt));
    of_field = λ x y w on within. (on.1, λ h. (wording.worded-field names (n.name w.text) w.at, tt));
    of_global = λ x y w on within. (on.1, λ h. (wording.worded-global names (n.name w.text) w.at, tt));
    of_symbol = λ x y w on within. (on.1, λ h. (wording.worded-sym names (n.name w.text) w.at, tt));
    of_integer = λ x y value at on within. (on.1, λ h. (wording.worded-int names value at, tt));
    of_nil = λ x y at on within. (on.1, λ h. (wording.worded-nil names at, tt));
    of_true = λ x y at on within. (on.1, λ h. (wording.worded-true names at, tt));
    of_false = λ x y at on within. (on.1, λ h. (wording.worded-false names at, tt));
    of_self = λ x y at on within. (on.1, λ h. (wording.worded-self_ref names at, tt));
    of_break = λ x y at on within. (on.1, λ h. (wording.worded-break names at, tt));
    of_next = λ x y at on within. (on.1, λ h. (wording.worded-next names at, tt));
    of_return = λ x y at on within. (on.1, λ h. (wording.worded-return names None at, tt));
    of_return_value = λ x y at a g within. (g.0, return_value_worded at a g.1);
    of_call = λ x y w args g within. (between x y w.at within, call_worded w args (walked x y args g));
    of_member = λ x y z a w args g h within. (between x z w.at within, member_worded a w args g.1 (walked y z args h));
    of_block_call = λ x y z u a w args b g h i within. (
      between x u w.at within,
      block_call_worded a w args b g.1 (walked y z args h)
          (walked (changed (with_params b.params) (changed enter_block z)) i.last b.body i.walks),
    );
    of_binary = λ x y z operator at a b g h within. (between x z at within, binary_worded operator at a b g.1 h.1);
    of_negated = λ x y at a g within. (g.0, negated_worded at a g.1);
    of_minus = λ x y at a g within. (g.0, minus_worded at a g.1);
    of_and = λ x y z at a b g h within. (between x z at within, and_worded at a b g.1 h.1);
    of_or = λ x y z at a b g h within. (between x z at within, or_worded at a b g.1 h.1);
    of_new = λ x y class at args g within. (between x y at within, new_worded class at args (walked x y args g));
    of_thread = λ x y z u at args b on within g i. (
      thread_wide x y z u args b on.1 g i,
      thread_worded at args b (walked y z args g) (walked (changed (with_params b.params) (changed enter_block z)) i.last b.body i.walks),
    );
    of_string = λ x y at pieces g within. (between x y at within, string_worded at pieces (walked x y (code_of pieces) g));
    of_array = λ x y at items g within. (between x y at within, array_worded at items (walked x y items g));
    of_hash = λ x y at pairs g within. (between x y at within, hash_worded at pairs (walked x y (flat pairs) g));
    of_choice = λ x y z u at c xs ys g l h i within. (between x u at within, choice_worded at c xs ys g.1 (walked y z xs h) (walked z u ys i));
    of_loop = λ x y z at c xs g l h within. (between x z at within, loop_worded at c xs g.1 (walked y z xs h));
    of_choice_behind = λ x y z at b c g l h within. (between x z at within, choice_behind_worded at b c g.1 h.1);
    of_loop_behind = λ x y z at b c g l h within. (between x z at within, loop_behind_worded at b c g.1 h.1);
    of_assigned = λ x y z t at a e g within. (between x z at within, assigned_worded x y t at a e g.1);
    of_operated = λ x y z t op at a e g within. (between x z at within, operated_worded x y t op at a e g.1);
    members_on = λ x y z m g h. g;
    no_members = λ x y h k. record { members = tt; methods = tt; threads = tt };
    with_method = with_method_worded;
    with_attributes = with_attributes_worded;
    items_on = λ x y i g h. g;
    no_items = λ k. record { members = tt; in_classes = tt; in_functions = tt; in_main = tt; in_threads = tt };
    with_class = with_class_worded;
    with_function = with_function_worded;
    with_statement = with_statement_worded;
  }
