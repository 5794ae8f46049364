-- In each tree of a script nothing is found that is not built, where each class that its events name is found.
use Rattle.std.proofs.Common.{◌≡◌, refl, ap, sym, subst, ◌∙◌, rules, ℕ, suc, ◌≤◌, Bool, true, false, List, [], ◌∷◌, ◌++◌, map, Option, Some, None, arith}
use Rattle.std.specs.Prelude.{codes, not, ◌||◌, ◌==◌, slice_get, unwrap_or, if◌then◌else◌}
use Rattle.std.specs.Str.{bytes_eq}
use Rattle.std.proofs.lemmas.Bool.{false≢true}
use Rattle.rb_tree.specs.declared.span.Span.{Span}
use Rattle.rb_tree.specs.declared.span.NameId.{NameId}
use Rattle.rb_tree.specs.declared.node.AssignOp.{AssignOp}
use Rattle.rb_tree.specs.declared.node.Node.{Node, the_lemmas}
use Rattle.rb_tree.specs.declared.node.Node.TheVariants as node
use Rattle.rb_tree.specs.declared.node.Target.TheVariants as target
use Rattle.rb_tree.specs.declared.node.Param.{Param}
use Rattle.rb_tree.specs.declared.node.Block.{roll-Block}
use Rattle.rb_tree.specs.declared.node.Class.{Class}
use Rattle.rb_checker.specs.Events.{part_of, block_part, events_of, events_of_all, params_of, in_order, piece_events, pieces_of, pairs_of, pair_parts}
use Rattle.rb_checker.specs.Names.{Text, is_among, text_among, built_in_classes}
use Rattle.rb_checker.specs.Rules.{finds_class}
use Rattle.rb_checker.specs.Misplaced.{class_names}
use Rattle.rb_checker.proofs.AllMade.{Events, AllFound, found_left, found_right}
use Rattle.rb_checker.proofs.Parts as part
use Rattle.rb_accepted.specs.Unbuilt.{Found, earlier, first_of, here, is_builtin, has_class, is_built_class, found_in, found_in_all, found_in_block, found_in_piece, found_in_pair}
use Rattle.rb_accepted.proofs.Layers as layer
use Rattle.rb_grammar.specs.Tree.{Word, Numbering, Thread, Tree, BlockTree, PieceTree, TargetTree, MethodTree, ClassTree, Members, Items, nodes, threads_of, block_by, params_by, code_of, piece_by, flat}
use Rattle.rb_grammar.specs.Tree as tree
use Rattle.rb_grammar.specs.Faithful.{Each}
use Rattle.rb_grammar.proofs.Each.{each_left, each_right, each_append}
use Rattle.rb_accepted.proofs.Kept.{IsObject, TargetHas, IsKept}

-- nothing is found in two parts, where nothing is in either
pub both_none : {o r : Found} → o ≡ None → r ≡ None → earlier o r ≡ None
both_none {r = r} h k = ap (λ x. earlier x r) h ∙ k

-- a text that is not `Thread` is built in for both, where the checker has it built in
same_builtin : (array hash mutex thread listed : Bool) → thread ≡ false → (listed || (array || (hash || (mutex || (thread || false))))) ≡ true
    → (listed || ((array || hash) || mutex)) ≡ true
same_builtin array hash mutex thread true h e = refl
same_builtin true hash mutex thread false h e = refl
same_builtin false true mutex thread false h e = refl
same_builtin false false true thread false h e = refl
same_builtin false false false true false h e = absurd (false≢true (sym h))
same_builtin false false false false false h e = e

same_listed : (listed : Bool) → (listed || false) ≡ true → (b : Bool) → (listed || b) ≡ true
same_listed true e b = refl
same_listed false e b = absurd (false≢true e)

-- a class that the checker finds is there, by the text that its name has
has_text : (text : Text) (listed there : Bool) (given : Option Text) → given ≡ (if there then Some text else None) → bytes_eq text (codes "Thread") ≡ false
    → (listed || text_among given built_in_classes) ≡ true → (listed || is_builtin (unwrap_or given [])) ≡ true
has_text text listed true given e h found =
    subst (λ (g : Option Text). (listed || is_builtin (unwrap_or g [])) ≡ true) (sym e)
    (same_builtin (bytes_eq text (codes "Array")) (bytes_eq text (codes "Hash")) (bytes_eq text (codes "Mutex")) (bytes_eq text (codes "Thread")) listed h
    (subst (λ (g : Option Text). (listed || text_among g built_in_classes) ≡ true) e found))
has_text text listed false given e h found =
    same_listed listed (subst (λ (g : Option Text). (listed || text_among g built_in_classes) ≡ true) e found) (is_builtin (unwrap_or given []))

-- a name is among those of classes where a class has it
among_classes : (classes : List Class) (name : NameId) → is_among name (class_names classes) ≡ has_class classes name
among_classes [] name = refl
among_classes (c ∷ more) name = ap (λ b. (c.name.0 == name.0) || b) (among_classes more name)

-- a block that is made of its parts
rolled_events : (b : ℕ → Events) (params : List Param) (body : List Node) (at : Span)
    → (block_part b (roll-Block (record { params = params; body = body; at = at }))).events ≡ params_of params ++ events_of_all b body
rolled_events b params body at = search (rules, the_lemmas, part.block-parts)

rolled_found : (names : List Text) (classes : List Class) (params : List Param) (body : List Node) (at : Span)
    → found_in_block names classes (roll-Block (record { params = params; body = body; at = at })) ≡ found_in_all names classes body
rolled_found names classes params body at = search (rules, the_lemmas, layer.block-body)

-- the body of a thread, by its block
abbrev own : BlockTree → Thread
own b = record { at = b.at; block = λ n. block_by n b }

-- In a script with these names of texts and classes; its numbering gives each name the number of its text, or one that no text has; the events of the
-- bodies of its threads are given, as they are from each number on.
module _ (names : List Text) (functions : List NameId) (classes : List Class) (n : Numbering) (bodies : ℕ → ℕ → Events)
    (reads : (text : Text) → (there : Bool) × (slice_get names (n.name text).0 ≡ (if there then Some text else None))) where
  abbrev pub Finds : Events → Type 0
  Finds events = AllFound names functions (class_names classes) events

  -- each class of which objects are made in these trees is found
  abbrev pub Fine : ℕ → Tree → Type 0
  Fine k a = Finds (events_of (bodies k) (a.node n))

  -- nothing is found in a node that is not built, and in the body of a thread
  abbrev pub Bare : Tree → Type 0
  Bare a = found_in names classes (a.node n) ≡ None

  abbrev pub BareThread : Thread → Type 0
  BareThread t = found_in_block names classes (t.block n) ≡ None

  -- Threads whose bodies are numbered from one on, each above the one before it: each is known with the events of those behind it.
  abbrev pub KnownFrom : ℕ → List Thread → Type 0
  KnownFrom k [] = Unit {0}
  KnownFrom k (t ∷ more) =
      (k ≤ n.body t.at)
      × (((j : ℕ) → j ≤ n.body t.at → bodies j (n.body t.at) ≡ (block_part (bodies (suc (n.body t.at))) (t.block n)).events)
      × KnownFrom (suc (n.body t.at)) more)

  known_below : (j k : ℕ) (ts : List Thread) → j ≤ k → KnownFrom k ts → KnownFrom j ts
  known_below j k [] l r = tt
  known_below j k (t ∷ more) l r = let above : k ≤ n.body t.at = r.0 in (omega arith, r.1)

  pub known_left : (k : ℕ) (xs ys : List Thread) → KnownFrom k (xs ++ ys) → KnownFrom k xs
  known_left k [] ys r = tt
  known_left k (t ∷ more) ys r = (r.0, (r.1.0, known_left (suc (n.body t.at)) more ys r.1.1))

  pub known_right : (k : ℕ) (xs ys : List Thread) → KnownFrom k (xs ++ ys) → KnownFrom k ys
  known_right k [] ys r = r
  known_right k (t ∷ more) ys r =
      let above : k ≤ n.body t.at = r.0 in
      known_below k (suc (n.body t.at)) ys (omega arith) (known_right (suc (n.body t.at)) more ys r.1.1)

  -- Nothing is found in a tree, nor in the bodies of its threads, where its classes are found.
  abbrev pub IsThere : Tree → Type 0
  IsThere a = (k : ℕ) → KnownFrom k a.threads → Fine k a → Bare a × Each BareThread a.threads

  -- ---- lists of trees

  pub trees_there : (xs : List Tree) → Each IsThere xs → (k : ℕ) → KnownFrom k (threads_of xs) → Each (Fine k) xs → Each Bare xs × Each BareThread (threads_of xs)
  trees_there [] h k r f = (tt, tt)
  trees_there (x ∷ xs) h k r f =
      let first = h.0 k (known_left k x.threads (threads_of xs) r) f.0 in
      let rest = trees_there xs h.1 k (known_right k x.threads (threads_of xs) r) f.1 in
      ((first.0, rest.0), each_append BareThread x.threads (threads_of xs) first.1 rest.1)

  left : (xs ys : Events) → Finds (xs ++ ys) → Finds xs
  left = found_left names functions (class_names classes)

  right : (xs ys : Events) → Finds (xs ++ ys) → Finds ys
  right = found_right names functions (class_names classes)

  pub all_fine : (k : ℕ) (xs : List Tree) → Finds (events_of_all (bodies k) (nodes n xs)) → Each (Fine k) xs
  all_fine k [] f = tt
  all_fine k (x ∷ xs) f =
      let first = events_of (bodies k) (x.node n) in
      let rest = events_of_all (bodies k) (nodes n xs) in
      (left first rest f, all_fine k xs (right first rest f))

  pub all_bare : (xs : List Tree) → Each Bare xs → found_in_all names classes (nodes n xs) ≡ None
  all_bare [] h = refl
  all_bare (x ∷ xs) h = both_none h.0 (all_bare xs h.1)

  -- a node, by the trees in it
  branch_there : (inside : List Tree) (made : Node) → Each IsThere inside
      → ((k : ℕ) → Finds (events_of (bodies k) made) → Each (Fine k) inside)
      → (Each Bare inside → found_in names classes made ≡ None)
      → (k : ℕ) → KnownFrom k (threads_of inside) → Finds (events_of (bodies k) made) → (found_in names classes made ≡ None) × Each BareThread (threads_of inside)
  branch_there inside made h fine bare k r f = let all = trees_there inside h k r (fine k f) in (bare all.0, all.1)

  -- ---- calls

  call_there : (w : Word) (args : List Tree) → Each IsThere args → IsThere (tree.call None w args)
  call_there w args h =
      branch_there args (node.Call None (n.name w.text) (nodes n args) None w.at) h
      (λ k f.
      let e = subst Finds (part.events-call (bodies k) None (n.name w.text) (nodes n args) None w.at) f in
      all_fine k args (left (events_of_all (bodies k) (nodes n args)) [] e.1))
      (λ b. layer.found-call names classes None (n.name w.text) (nodes n args) None w.at ∙ both_none (all_bare args b) refl)

  -- a call of one receiver with arguments
  args_there : (a : Tree) (name : NameId) (args : List Tree) (at : Span) → IsThere a → Each IsThere args → (k : ℕ) → KnownFrom k (threads_of (a ∷ args))
      → Finds (events_of (bodies k) (node.Call (Some (a.node n)) name (nodes n args) None at))
      → (found_in names classes (node.Call (Some (a.node n)) name (nodes n args) None at) ≡ None) × Each BareThread (threads_of (a ∷ args))
  args_there a name args at g h =
      branch_there (a ∷ args) (node.Call (Some (a.node n)) name (nodes n args) None at) (g, h)
      (λ k f.
      let given = events_of_all (bodies k) (nodes n args) in
      let e = subst Finds (part.events-call (bodies k) (Some (a.node n)) name (nodes n args) None at) f in
      (left (events_of (bodies k) (a.node n)) (given ++ []) e, all_fine k args (left given [] (right (events_of (bodies k) (a.node n)) (given ++ []) e))))
      (λ b. layer.found-call names classes (Some (a.node n)) name (nodes n args) None at ∙ both_none b.0 (both_none (all_bare args b.1) refl))

  member_there : (a : Tree) (w : Word) (args : List Tree) → IsThere a → Each IsThere args → IsThere (tree.call (Some a) w args)
  member_there a w args g h = args_there a (n.name w.text) args w.at g h

  -- the events of a block, and what is found in it
  block_fine : (k : ℕ) (b : BlockTree) → Finds ((block_part (bodies k) (block_by n b)).events) → Each (Fine k) b.body
  block_fine k b f =
      all_fine k b.body
      (right (params_of (params_by n b.params)) (events_of_all (bodies k) (nodes n b.body))
      (subst Finds (rolled_events (bodies k) (params_by n b.params) (nodes n b.body) b.at) f))

  block_bare : (b : BlockTree) → Each Bare b.body → found_in_block names classes (block_by n b) ≡ None
  block_bare b h = rolled_found names classes (params_by n b.params) (nodes n b.body) b.at ∙ all_bare b.body h

  block_call_there : (a : Tree) (w : Word) (args : List Tree) (b : BlockTree) → IsThere a → Each IsThere args → Each IsThere b.body
      → IsThere (tree.call_with_block a w args b)
  block_call_there a w args b g h i =
      branch_there (a ∷ (args ++ b.body)) (node.Call (Some (a.node n)) (n.name w.text) (nodes n args) (Some (block_by n b)) w.at)
      (g, each_append IsThere args b.body h i)
      (λ k f.
      let block = block_part (bodies k) (block_by n b) in
      let given = events_of_all (bodies k) (nodes n args) in
      let e = subst Finds (part.events-call (bodies k) (Some (a.node n)) (n.name w.text) (nodes n args) (Some (block_by n b)) w.at) f in
      let behind = right (events_of (bodies k) (a.node n)) _ e in (
        left (events_of (bodies k) (a.node n)) _ e,
        each_append (Fine k) args b.body (all_fine k args (left given _ behind)) (block_fine k b (left block.events _ (right given _ behind).1)),
      ))
      (λ c.
      layer.found-call names classes (Some (a.node n)) (n.name w.text) (nodes n args) (Some (block_by n b)) w.at
      ∙ both_none c.0 (both_none (all_bare args (each_left Bare args b.body c.1)) (block_bare b (each_right Bare args b.body c.1))))

  -- the class of a new object is there
  class_there : (class : Word) → IsObject class → finds_class names functions (class_names classes) (n.name class.text) ≡ true
      → is_built_class names classes (n.name class.text) ≡ true
  class_there class is e =
      let text = reads class.text in
      has_text class.text (has_class classes (n.name class.text)) text.0 (slice_get names (n.name class.text).0) text.1 is
      (ap (λ b. b || text_among (slice_get names (n.name class.text).0) built_in_classes) (sym (among_classes classes (n.name class.text))) ∙ e)

  new_there : (class : Word) (at : Span) (args : List Tree) → IsObject class → Each IsThere args → IsThere (tree.new class at args)
  new_there class at args is h = λ k r f.
      let e = subst Finds (part.events-new (bodies k) (n.name class.text) (nodes n args) at) f in
      let all = trees_there args h k r (all_fine k args e.1) in (
        layer.found-new names classes (n.name class.text) (nodes n args) at
            ∙ both_none (ap (λ b. here (not b) at) (class_there class is e.0)) (all_bare args all.0),
        all.1,
      )

  -- The body of a thread has its number, and its events stand where the thread is started.
  thread_there : (at : Span) (args : List Tree) (b : BlockTree) → Each IsThere args → Each IsThere b.body → IsThere (tree.thread_new at args b)
  thread_there at args b h i = λ k r f.
      let given = events_of_all (bodies k) (nodes n args) in
      let number = n.body b.at in
      let e = subst Finds (part.events-thread_new (bodies k) (nodes n args) number at) f in
      let known = known_right k (threads_of args) (own b ∷ threads_of b.body) r in
      let first = trees_there args h k (known_left k (threads_of args) (own b ∷ threads_of b.body) r) (all_fine k args (left given _ e.1)) in
      let body = left (bodies k number) _ (right given _ e.1).1 in
      let inner = trees_there b.body i (suc number) known.1.1 (block_fine (suc number) b (subst Finds (known.1.0 k known.0) body)) in (
        layer.found-thread_new names classes (nodes n args) number at ∙ all_bare args first.0,
        each_append BareThread (threads_of args) (own b ∷ threads_of b.body) first.1 (block_bare b inner.0, inner.1),
      )

  -- ---- one tree, and two

  -- a node that says what its one part says
  one_there : (a : Tree) (made : Node) → IsThere a → ((k : ℕ) → Finds (events_of (bodies k) made) → Fine k a)
      → (found_in names classes made ≡ found_in names classes (a.node n))
      → (k : ℕ) → KnownFrom k (threads_of (a ∷ [])) → Finds (events_of (bodies k) made)
      → (found_in names classes made ≡ None) × Each BareThread (threads_of (a ∷ []))
  one_there a made h fine found = branch_there (a ∷ []) made (h, tt) (λ k f. (fine k f, tt)) (λ b. found ∙ b.0)

  -- one whose events are those of its two parts, in either order
  two_there : (a b : Tree) (made : Node) → IsThere a → IsThere b → ((k : ℕ) → Finds (events_of (bodies k) made) → Fine k a × Fine k b)
      → (found_in names classes made ≡ earlier (found_in names classes (a.node n)) (found_in names classes (b.node n)))
      → (k : ℕ) → KnownFrom k (threads_of (a ∷ b ∷ [])) → Finds (events_of (bodies k) made)
      → (found_in names classes made ≡ None) × Each BareThread (threads_of (a ∷ b ∷ []))
  two_there a b made g h fine found =
      branch_there (a ∷ b ∷ []) made (g, (h, tt)) (λ k f. let both = fine k f in (both.0, (both.1, tt))) (λ c. found ∙ both_none c.0 c.1.0)

  binary_there : (operator : Text) (at : Span) (a b : Tree) → IsThere a → IsThere b → IsThere (tree.binary operator at a b)
  binary_there operator at a b g h = args_there a (n.name operator) (b ∷ []) at g (h, tt)

  minus_there : (at : Span) (a : Tree) → IsThere a → IsThere (tree.minus at a)
  minus_there at a g = args_there a (n.name tree.minus_name) [] at g tt

  negated_there : (at : Span) (a : Tree) → IsThere a → IsThere (tree.negated at a)
  negated_there at a g =
      one_there a (node.Not (a.node n) at) g (λ k f. subst Finds (part.events-not (bodies k) (a.node n) at) f) (layer.found-not names classes (a.node n) at)

  and_there : (at : Span) (a b : Tree) → IsThere a → IsThere b → IsThere (tree.and_also at a b)
  and_there at a b g h =
      two_there a b (node.And (a.node n) (b.node n) at) g h
      (λ k f.
      let e = subst Finds (part.events-and (bodies k) (a.node n) (b.node n) at) f in
      (left (events_of (bodies k) (a.node n)) (events_of (bodies k) (b.node n)) e, right (events_of (bodies k) (a.node n)) (events_of (bodies k) (b.node n)) e))
      (layer.found-and names classes (a.node n) (b.node n) at)

  or_there : (at : Span) (a b : Tree) → IsThere a → IsThere b → IsThere (tree.or_else at a b)
  or_there at a b g h =
      two_there a b (node.Or (a.node n) (b.node n) at) g h
      (λ k f.
      let e = subst Finds (part.events-or (bodies k) (a.node n) (b.node n) at) f in
      (left (events_of (bodies k) (a.node n)) (events_of (bodies k) (b.node n)) e, right (events_of (bodies k) (a.node n)) (events_of (bodies k) (b.node n)) e))
      (layer.found-or names classes (a.node n) (b.node n) at)

  return_value_there : (at : Span) (a : Tree) → IsThere a → IsThere (tree.return_value at a)
  return_value_there at a g =
      one_there a (node.Return (Some (a.node n)) at) g (λ k f. (subst Finds (part.events-return (bodies k) (Some (a.node n)) at) f).1)
      (layer.found-return names classes (Some (a.node n)) at)

  -- ---- literals

  pieces_fine : (k : ℕ) (pieces : List PieceTree) → Finds (pieces_of (map (piece_events (bodies k)) (map (piece_by n) pieces))) → Each (Fine k) (code_of pieces)
  pieces_fine k [] f = tt
  pieces_fine k (tree.bytes text ∷ more) f = pieces_fine k more (right (piece_events (bodies k) (piece_by n (tree.bytes text))) _ f)
  pieces_fine k (tree.code a ∷ more) f = (
    subst Finds (part.piece-code (bodies k) (a.node n)) (left (piece_events (bodies k) (piece_by n (tree.code a))) _ f),
    pieces_fine k more (right (piece_events (bodies k) (piece_by n (tree.code a))) _ f),
  )

  pieces_bare : (pieces : List PieceTree) → Each Bare (code_of pieces) → first_of (map (found_in_piece names classes) (map (piece_by n) pieces)) ≡ None
  pieces_bare [] b = refl
  pieces_bare (tree.bytes text ∷ more) b = both_none (layer.piece-text names classes text) (pieces_bare more b)
  pieces_bare (tree.code a ∷ more) b = both_none (layer.piece-code names classes (a.node n) ∙ b.0) (pieces_bare more b.1)

  string_there : (at : Span) (pieces : List PieceTree) → Each IsThere (code_of pieces) → IsThere (tree.string at pieces)
  string_there at pieces h =
      branch_there (code_of pieces) (node.Str (map (piece_by n) pieces) at) h
      (λ k f. pieces_fine k pieces (subst Finds (part.events-str (bodies k) (map (piece_by n) pieces) at) f))
      (λ b. layer.found-str names classes (map (piece_by n) pieces) at ∙ pieces_bare pieces b)

  array_there : (at : Span) (items : List Tree) → Each IsThere items → IsThere (tree.array at items)
  array_there at items h =
      branch_there items (node.Array (nodes n items) at) h (λ k f. all_fine k items (subst Finds (part.events-array (bodies k) (nodes n items) at) f))
      (λ b. layer.found-array names classes (nodes n items) at ∙ all_bare items b)

  abbrev pairs_by : List (Tree × Tree) → List (Node × Node)
  pairs_by = map (λ p. (p.0.node n, p.1.node n))

  pairs_fine : (k : ℕ) (pairs : List (Tree × Tree)) → Finds (pairs_of (map (pair_parts (bodies k)) (pairs_by pairs))) → Each (Fine k) (flat pairs)
  pairs_fine k [] f = tt
  pairs_fine k (p ∷ more) f =
      let first = events_of (bodies k) (p.0.node n) in
      let second = events_of (bodies k) (p.1.node n) in
      let both = left (first ++ second) _ f in
      (left first second both, (right first second both, pairs_fine k more (right (first ++ second) _ f)))

  pairs_bare : (pairs : List (Tree × Tree)) → Each Bare (flat pairs) → first_of (map (found_in_pair names classes) (pairs_by pairs)) ≡ None
  pairs_bare [] b = refl
  pairs_bare (p ∷ more) b = both_none (both_none b.0 b.1.0) (pairs_bare more b.1.1)

  hash_there : (at : Span) (pairs : List (Tree × Tree)) → Each IsThere (flat pairs) → IsThere (tree.hash at pairs)
  hash_there at pairs h =
      branch_there (flat pairs) (node.Hash (pairs_by pairs) at) h (λ k f. pairs_fine k pairs (subst Finds (part.events-hash (bodies k) (pairs_by pairs) at) f))
      (λ b. layer.found-hash names classes (pairs_by pairs) at ∙ pairs_bare pairs b)

  -- ---- control

  -- a condition and a body, in either order
  either_order : (behind : Bool) (condition body : Events) → Finds (if behind then body ++ condition else condition ++ body) → Finds condition × Finds body
  either_order true condition body f = (right body condition f, left body condition f)
  either_order false condition body f = (left condition body f, right condition body f)

  order_fine : (k : ℕ) (at : Span) (c : Tree) (xs : List Tree) → Finds (in_order at (events_of (bodies k) (c.node n)) (map (part_of (bodies k)) (nodes n xs)))
      → Fine k c × Each (Fine k) xs
  order_fine k at c xs f =
      let both = either_order _ (events_of (bodies k) (c.node n)) (events_of_all (bodies k) (nodes n xs)) f in
      (both.0, all_fine k xs both.1)

  choice_there : (at : Span) (c : Tree) (xs ys : List Tree) → IsThere c → Each IsThere xs → Each IsThere ys → IsThere (tree.choice at c xs ys)
  choice_there at c xs ys g h i =
      branch_there (c ∷ (xs ++ ys)) (node.If (c.node n) (nodes n xs) (nodes n ys) at) (g, each_append IsThere xs ys h i)
      (λ k f.
      let ordered = in_order at (events_of (bodies k) (c.node n)) (map (part_of (bodies k)) (nodes n xs)) in
      let e = subst Finds (part.events-if (bodies k) (c.node n) (nodes n xs) (nodes n ys) at) f in
      let first = order_fine k at c xs (left ordered _ e) in
      (first.0, each_append (Fine k) xs ys first.1 (all_fine k ys (right ordered _ e))))
      (λ b.
      layer.found-if names classes (c.node n) (nodes n xs) (nodes n ys) at
      ∙ both_none b.0 (both_none (all_bare xs (each_left Bare xs ys b.1)) (all_bare ys (each_right Bare xs ys b.1))))

  loop_there : (at : Span) (c : Tree) (xs : List Tree) → IsThere c → Each IsThere xs → IsThere (tree.loop at c xs)
  loop_there at c xs g h =
      branch_there (c ∷ xs) (node.While (c.node n) (nodes n xs) at) (g, h)
      (λ k f.
      let e = subst Finds (part.events-while (bodies k) (c.node n) (nodes n xs) at) f in
      order_fine k at c xs (left (in_order at (events_of (bodies k) (c.node n)) (map (part_of (bodies k)) (nodes n xs))) _ e.1))
      (λ b. layer.found-while names classes (c.node n) (nodes n xs) at ∙ both_none b.0 (all_bare xs b.1))

  choice_behind_there : (at : Span) (b c : Tree) → IsThere b → IsThere c → IsThere (tree.choice_behind at b c)
  choice_behind_there at b c g h =
      branch_there (b ∷ c ∷ []) (node.If (c.node n) (b.node n ∷ []) [] at) (g, (h, tt))
      (λ k f.
      let e = subst Finds (part.events-if (bodies k) (c.node n) (b.node n ∷ []) [] at) f in
      let both = order_fine k at c (b ∷ []) (left (in_order at (events_of (bodies k) (c.node n)) (map (part_of (bodies k)) (nodes n (b ∷ [])))) _ e) in
      (both.1.0, (both.0, tt)))
      (λ d. layer.found-if names classes (c.node n) (b.node n ∷ []) [] at ∙ both_none d.1.0 (both_none (both_none d.0 refl) refl))

  loop_behind_there : (at : Span) (b c : Tree) → IsThere b → IsThere c → IsThere (tree.loop_behind at b c)
  loop_behind_there at b c g h =
      branch_there (b ∷ c ∷ []) (node.While (c.node n) (b.node n ∷ []) at) (g, (h, tt))
      (λ k f.
      let e = subst Finds (part.events-while (bodies k) (c.node n) (b.node n ∷ []) at) f in
      let both = order_fine k at c (b ∷ []) (left (in_order at (events_of (bodies k) (c.node n)) (map (part_of (bodies k)) (nodes n (b ∷ [])))) _ e.1) in
      (both.1.0, (both.0, tt)))
      (λ d. layer.found-while names classes (c.node n) (b.node n ∷ []) at ∙ both_none d.1.0 (both_none d.0 refl))

  -- ---- assignments

  store_there : (r : Tree) (name : NameId) (args : List Tree) (at : Span) → IsThere r → Each IsThere args → (k : ℕ) → KnownFrom k (threads_of (r ∷ args))
      → Finds (events_of (bodies k) (node.Store (r.node n) name (nodes n args) at))
      → (found_in names classes (node.Store (r.node n) name (nodes n args) at) ≡ None) × Each BareThread (threads_of (r ∷ args))
  store_there r name args at g h =
      branch_there (r ∷ args) (node.Store (r.node n) name (nodes n args) at) (g, h)
      (λ k f.
      let e = subst Finds (part.events-store (bodies k) (r.node n) name (nodes n args) at) f in
      (left (events_of (bodies k) (r.node n)) _ e, all_fine k args (right (events_of (bodies k) (r.node n)) _ e)))
      (λ b. layer.found-store names classes (r.node n) name (nodes n args) at ∙ both_none b.0 (all_bare args b.1))

  assigned_there : (t : TargetTree) (at : Span) (a : Tree) → TargetHas IsThere t → IsThere a → IsThere (tree.assigned t at a)
  assigned_there (tree.to_local w) at a e g =
      one_there a (node.SetLocal (n.name w.text) (a.node n) at) g
      (λ k f. left (events_of (bodies k) (a.node n)) _ (subst Finds (part.events-set_local (bodies k) (n.name w.text) (a.node n) at) f).1.1)
      (layer.found-set_local names classes (n.name w.text) (a.node n) at)
  assigned_there (tree.to_field w) at a e g =
      one_there a (node.SetField (n.name w.text) (a.node n) at) g (λ k f. (subst Finds (part.events-set_field (bodies k) (n.name w.text) (a.node n) at) f).1)
      (layer.found-set_field names classes (n.name w.text) (a.node n) at)
  assigned_there (tree.to_global w) at a e g =
      one_there a (node.SetGlobal (n.name w.text) (a.node n) at) g (λ k f. (subst Finds (part.events-set_global (bodies k) (n.name w.text) (a.node n) at) f).1)
      (layer.found-set_global names classes (n.name w.text) (a.node n) at)
  assigned_there (tree.to_index r j bracket) at a e g = store_there r (n.name tree.store_name) (j ∷ a ∷ []) at e.0 (e.1, (g, tt))
  assigned_there (tree.to_attribute r w) at a e g = store_there r (n.name (tree.setter_of w.text)) (a ∷ []) at e (g, tt)

  operated_there : (t : TargetTree) (op : AssignOp) (at : Span) (a : Tree) → TargetHas IsThere t → IsThere a → IsThere (tree.operated t op at a)
  operated_there (tree.to_local w) op at a e g =
      one_there a (node.OpAssign (target.Local (n.name w.text)) op (a.node n) at) g
      (λ k f.
      let first = subst Finds (part.events-op_assign (bodies k) (target.Local (n.name w.text)) op (a.node n) at) f in
      left (events_of (bodies k) (a.node n)) _ (subst Finds (part.target-local (bodies k) (n.name w.text) at (events_of (bodies k) (a.node n))) first).1.1)
      (layer.found-op_assign names classes (target.Local (n.name w.text)) op (a.node n) at
      ∙ ap (λ o. earlier o (found_in names classes (a.node n))) (layer.target-local names classes (n.name w.text)))
  operated_there (tree.to_field w) op at a e g =
      one_there a (node.OpAssign (target.Field (n.name w.text)) op (a.node n) at) g
      (λ k f.
      let first = subst Finds (part.events-op_assign (bodies k) (target.Field (n.name w.text)) op (a.node n) at) f in
      (subst Finds (part.target-field (bodies k) (n.name w.text) at (events_of (bodies k) (a.node n))) first).1)
      (layer.found-op_assign names classes (target.Field (n.name w.text)) op (a.node n) at
      ∙ ap (λ o. earlier o (found_in names classes (a.node n))) (layer.target-field names classes (n.name w.text)))
  operated_there (tree.to_global w) op at a e g =
      one_there a (node.OpAssign (target.Global (n.name w.text)) op (a.node n) at) g
      (λ k f.
      let first = subst Finds (part.events-op_assign (bodies k) (target.Global (n.name w.text)) op (a.node n) at) f in
      (subst Finds (part.target-global (bodies k) (n.name w.text) at (events_of (bodies k) (a.node n))) first).1)
      (layer.found-op_assign names classes (target.Global (n.name w.text)) op (a.node n) at
      ∙ ap (λ o. earlier o (found_in names classes (a.node n))) (layer.target-global names classes (n.name w.text)))
  operated_there (tree.to_index r j bracket) op at a e g =
      branch_there (r ∷ j ∷ a ∷ []) (node.OpAssign (target.Index (r.node n) (j.node n)) op (a.node n) at) (e.0, (e.1, (g, tt)))
      (λ k f.
      let value = events_of (bodies k) (a.node n) in
      let first = subst Finds (part.events-op_assign (bodies k) (target.Index (r.node n) (j.node n)) op (a.node n) at) f in
      let all = subst Finds (part.target-index (bodies k) (r.node n) (j.node n) at value) first in
      let rest = right (events_of (bodies k) (r.node n)) _ all in
      (left (events_of (bodies k) (r.node n)) _ all, (left (events_of (bodies k) (j.node n)) value rest, (right (events_of (bodies k) (j.node n)) value rest, tt))))
      (λ b.
      layer.found-op_assign names classes (target.Index (r.node n) (j.node n)) op (a.node n) at
      ∙ both_none (layer.target-index names classes (r.node n) (j.node n) ∙ both_none b.0 b.1.0) b.1.1.0)
  operated_there (tree.to_attribute r w) op at a e g =
      branch_there (r ∷ a ∷ []) (node.OpAssign (target.Attribute (r.node n) (n.name w.text)) op (a.node n) at) (e, (g, tt))
      (λ k f.
      let value = events_of (bodies k) (a.node n) in
      let first = subst Finds (part.events-op_assign (bodies k) (target.Attribute (r.node n) (n.name w.text)) op (a.node n) at) f in
      let all = subst Finds (part.target-attribute (bodies k) (r.node n) (n.name w.text) at value) first in
      (left (events_of (bodies k) (r.node n)) value all, (right (events_of (bodies k) (r.node n)) value all, tt)))
      (λ b.
      layer.found-op_assign names classes (target.Attribute (r.node n) (n.name w.text)) op (a.node n) at
      ∙ both_none (layer.target-attribute names classes (r.node n) (n.name w.text) ∙ b.0) b.1.0)

  -- ---- methods, classes and items

  abbrev pub FineMethod : MethodTree → Type 0
  FineMethod f = Finds (events_of_all (bodies 0) (nodes n f.body))

  abbrev pub BareMethod : MethodTree → Type 0
  BareMethod f = found_in_all names classes (nodes n f.body) ≡ None

  abbrev pub FineClass : ClassTree → Type 0
  FineClass c = Each FineMethod c.members.methods

  abbrev pub BareClass : ClassTree → Type 0
  BareClass c = Each BareMethod c.members.methods

  -- nothing is found in the methods of a class, nor in the bodies of their threads
  abbrev pub MembersThere : Members → Type 0
  MembersThere m = KnownFrom 0 m.threads → Each FineMethod m.methods → Each BareMethod m.methods × Each BareThread m.threads

  -- nor in the items of a script
  pub record ItemsBare (i : Items) : Type 0 where
    pub in_classes : Each BareClass i.classes
    pub in_functions : Each BareMethod i.functions
    pub in_main : Each Bare i.main
    pub in_threads : Each BareThread i.threads

  abbrev pub ItemsThere : Items → Type 0
  ItemsThere i = KnownFrom 0 i.threads → Each FineClass i.classes → Each FineMethod i.functions → Each (Fine 0) i.main → ItemsBare i

  body_there : (body : List Tree) → Each IsThere body → KnownFrom 0 (threads_of body) → Finds (events_of_all (bodies 0) (nodes n body))
      → (found_in_all names classes (nodes n body) ≡ None) × Each BareThread (threads_of body)
  body_there body h r f = let all = trees_there body h 0 r (all_fine 0 body f) in (all_bare body all.0, all.1)

  with_method_there : (m : Members) (f : MethodTree) → MembersThere m → Each IsThere f.body → MembersThere (tree.with_method m f)
  with_method_there m f g h = λ r fine.
      let before = g (known_left 0 m.threads (threads_of f.body) r) (each_left FineMethod m.methods (f ∷ []) fine) in
      let own = body_there f.body h (known_right 0 m.threads (threads_of f.body) r) (each_right FineMethod m.methods (f ∷ []) fine).0 in
      (each_append BareMethod m.methods (f ∷ []) before.0 (own.0, tt), each_append BareThread m.threads (threads_of f.body) before.1 own.1)

  -- the methods of `attr` lines
  reader_bare : (w : Word) → BareMethod (tree.reader_of w)
  reader_bare w = both_none (layer.found-field names classes (n.name (tree.field_of w.text)) w.at) refl

  writer_bare : (w : Word) → BareMethod (tree.writer_of w)
  writer_bare w =
      both_none (layer.found-set_field names classes (n.name (tree.field_of w.text)) (node.Local (n.name (codes "v")) w.at) w.at
      ∙ layer.found-local names classes (n.name (codes "v")) w.at) refl

  attributes_bare : (reads writes : Bool) (w : Word)
      → Each BareMethod (if reads then tree.reader_of w ∷ [] else if writes then tree.writer_of w ∷ [] else tree.reader_of w ∷ tree.writer_of w ∷ [])
  attributes_bare true writes w = (reader_bare w, tt)
  attributes_bare false true w = (writer_bare w, tt)
  attributes_bare false false w = (reader_bare w, (writer_bare w, tt))

  with_attributes_there : (m : Members) (kind : Text) (ws : List Word) → MembersThere m → MembersThere (tree.with_attributes m kind ws)
  with_attributes_there m kind [] g = g
  with_attributes_there m kind (w ∷ ws) g =
      with_attributes_there
      (record { methods = m.methods ++ tree.attribute_methods kind w; names = m.names ++ tree.attribute_names kind w; threads = m.threads }) kind ws
      (λ r fine.
      let before = g r (each_left FineMethod m.methods (tree.attribute_methods kind w) fine) in (
        each_append BareMethod m.methods (tree.attribute_methods kind w) before.0
            (attributes_bare (bytes_eq kind (codes "attr_reader")) (bytes_eq kind (codes "attr_writer")) w),
        before.1,
      ))

  with_class_there : (i : Items) (c : ClassTree) → ItemsThere i → MembersThere c.members → ItemsThere (tree.with_class i c)
  with_class_there i c g h = λ r classes_fine functions main.
      let before = g (known_left 0 i.threads c.members.threads r) (each_left FineClass i.classes (c ∷ []) classes_fine) functions main in
      let own = h (known_right 0 i.threads c.members.threads r) (each_right FineClass i.classes (c ∷ []) classes_fine).0 in
      record {
        in_classes = each_append BareClass i.classes (c ∷ []) before.in_classes (own.0, tt);
        in_functions = before.in_functions;
        in_main = before.in_main;
        in_threads = each_append BareThread i.threads c.members.threads before.in_threads own.1;
      }

  with_function_there : (i : Items) (f : MethodTree) → ItemsThere i → Each IsThere f.body → ItemsThere (tree.with_function i f)
  with_function_there i f g h = λ r classes_fine functions main.
      let before = g (known_left 0 i.threads (threads_of f.body) r) classes_fine (each_left FineMethod i.functions (f ∷ []) functions) main in
      let own = body_there f.body h (known_right 0 i.threads (threads_of f.body) r) (each_right FineMethod i.functions (f ∷ []) functions).0 in
      record {
        in_classes = before.in_classes;
        in_functions = each_append BareMethod i.functions (f ∷ []) before.in_functions (own.0, tt);
        in_main = before.in_main;
        in_threads = each_append BareThread i.threads (threads_of f.body) before.in_threads own.1;
      }

  with_statement_there : (i : Items) (a : Tree) → ItemsThere i → IsThere a → ItemsThere (tree.with_statement i a)
  with_statement_there i a g h = λ r classes_fine functions main.
      let before = g (known_left 0 i.threads a.threads r) classes_fine functions (each_left (Fine 0) i.main (a ∷ []) main) in
      let own = h 0 (known_right 0 i.threads a.threads r) (each_right (Fine 0) i.main (a ∷ []) main).0 in
      record {
        in_classes = before.in_classes;
        in_functions = before.in_functions;
        in_main = each_append Bare i.main (a ∷ []) before.in_main (own.0, tt);
        in_threads = each_append BareThread i.threads a.threads before.in_threads own.1;
      }

  -- each making keeps that nothing is found
  pub there_is_kept : IsKept IsThere MembersThere ItemsThere
  there_is_kept = record {
    of_local = λ w k r f. (layer.found-local names classes (n.name w.text) w.at, tt);
    of_field = λ w k r f. (layer.found-field names classes (n.name w.text) w.at, tt);
    of_global = λ w k r f. (layer.found-global names classes (n.name w.text) w.at, tt);
    of_symbol = λ w k r f. (layer.found-sym names classes (n.name w.text) w.at, tt);
    of_integer = λ value at k r f. (layer.found-int names classes value at, tt);
    of_nil = λ at k r f. (layer.found-nil names classes at, tt);
    of_true = λ at k r f. (layer.found-true names classes at, tt);
    of_false = λ at k r f. (layer.found-false names classes at, tt);
    of_self = λ at k r f. (layer.found-self_ref names classes at, tt);
    of_break = λ at k r f. (layer.found-break names classes at, tt);
    of_next = λ at k r f. (layer.found-next names classes at, tt);
    of_call = call_there;
    of_member = member_there;
    of_block_call = block_call_there;
    of_binary = binary_there;
    of_negated = negated_there;
    of_minus = minus_there;
    of_and = and_there;
    of_or = or_there;
    of_new = new_there;
    of_thread = thread_there;
    of_string = string_there;
    of_array = array_there;
    of_hash = hash_there;
    of_choice = choice_there;
    of_loop = loop_there;
    of_choice_behind = choice_behind_there;
    of_loop_behind = loop_behind_there;
    of_return = λ at k r f. (layer.found-return names classes None at, tt);
    of_return_value = return_value_there;
    of_assigned = assigned_there;
    of_operated = operated_there;
    no_members = λ r f. (tt, tt);
    with_method = with_method_there;
    with_attributes = with_attributes_there;
    no_items = λ r c f m. record { in_classes = tt; in_functions = tt; in_main = tt; in_threads = tt };
    with_class = with_class_there;
    with_function = with_function_there;
    with_statement = with_statement_there;
  }
