-- What a tree tells of its text: each local that is read is known there, and its threads start in order. Each making of a tree carries that on.
use Rattle.std.proofs.Common.{◌≡◌, refl, ap, sym, subst, ◌∙◌, rules, ℕ, suc, ◌≤◌, ◌<◌, true, false, List, [], ◌∷◌, ◌++◌, map, append_assoc, Some, None, arith}
use Rattle.std.specs.Prelude.{nat_lt, if◌then◌else◌}
use Rattle.std.proofs.lemmas.Bool.Decides.{nat_tests}
use Rattle.rb_tree.specs.declared.span.Span.{Span}
use Rattle.rb_tree.specs.declared.span.NameId.{NameId}
use Rattle.rb_tree.specs.declared.node.AssignOp.{AssignOp}
use Rattle.rb_tree.specs.declared.node.Node.{Node, out-Node, the_lemmas}
use Rattle.rb_tree.specs.declared.node.Node.TheVariants as node
use Rattle.rb_tree.specs.declared.node.Target.TheVariants as target
use Rattle.rb_tree.specs.declared.node.Param.{Param}
use Rattle.rb_tree.specs.declared.node.Block.{roll-Block}
use Rattle.rb_tree.specs.Place.{place}
use Rattle.rb_grammar.specs.Tree.{Text, Word, Numbering, Thread, Tree, BlockTree, PieceTree, TargetTree, nodes, threads_of, block_by, params_by, code_of, piece_by, flat}
use Rattle.rb_grammar.specs.Tree as tree
use Rattle.rb_grammar.specs.Scope.{enter_block, with_params, with_target}
use Rattle.rb_grammar.proofs.Placed as placing
use Rattle.rb_checker.specs.declared.event.Sight.TheVariants as sight
use Rattle.rb_checker.specs.declared.event.Around.TheVariants as around
use Rattle.rb_checker.specs.Events.{part_of, block_part, events_of, events_of_all, params_of, in_order, alone, inside, piece_events, pieces_of, pairs_of, pair_parts}
use Rattle.rb_checker.proofs.AllMade.{Events}
use Rattle.rb_checker.proofs.Parts as part
use Rattle.rb_accepted.proofs.Walked.{Point, changed, On, Within, stay, Walks, TargetIn, BodyIn, BlockIn}
use Rattle.rb_accepted.proofs.Runs.{Run, run_none, run_both, run_on, run_field, run_global, run_calls, run_makes, run_returns, run_assigns, run_starts}
use Rattle.rb_accepted.proofs.Runs.{run_value, run_loop, run_block, run_thread, run_params}

-- a block that is made of its parts
pub rolled : (b : ℕ → Events) (params : List Param) (body : List Node) (at : Span)
    → (block_part b (roll-Block (record { params = params; body = body; at = at }))).events ≡ params_of params ++ events_of_all b body
rolled b params body at = search (rules, the_lemmas, part.block-parts)

-- the body of a thread, by its block
abbrev own : BlockTree → Thread
own b = record { at = b.at; block = λ n. block_by n b }

threads_append : (xs ys : List Tree) → threads_of (xs ++ ys) ≡ threads_of xs ++ threads_of ys
threads_append [] ys = refl
threads_append (x ∷ xs) ys = ap (λ ts. x.threads ++ ts) (threads_append xs ys) ∙ sym (append_assoc x.threads (threads_of xs) (threads_of ys))

-- By a numbering, where the events of the bodies of threads are given, as they are from each number on.
module _ (n : Numbering) (bodies : ℕ → ℕ → Events) where
  -- Threads whose bodies are numbered from one on, each above the one before it: each is known with the events of those behind it.
  abbrev pub KnownFrom : ℕ → List Thread → Type 0
  KnownFrom k [] = Unit {0}
  KnownFrom k (t ∷ more) =
      (k ≤ n.body t.at)
      × (((j : ℕ) → j ≤ n.body t.at → bodies j (n.body t.at) ≡ (block_part (bodies (suc (n.body t.at))) (t.block n)).events)
      × KnownFrom (suc (n.body t.at)) more)

  known_below : (j k : ℕ) (ts : List Thread) → j ≤ k → KnownFrom k ts → KnownFrom j ts
  known_below j k [] l r = tt
  known_below j k (t ∷ more) l r = let above : k ≤ n.body t.at = r.0 in (omega arith, r.1)

  pub known_left : (k : ℕ) (xs ys : List Thread) → KnownFrom k (xs ++ ys) → KnownFrom k xs
  known_left k [] ys r = tt
  known_left k (t ∷ more) ys r = (r.0, (r.1.0, known_left (suc (n.body t.at)) more ys r.1.1))

  pub known_right : (k : ℕ) (xs ys : List Thread) → KnownFrom k (xs ++ ys) → KnownFrom k ys
  known_right k [] ys r = r
  known_right k (t ∷ more) ys r =
      let above : k ≤ n.body t.at = r.0 in
      known_below k (suc (n.body t.at)) ys (omega arith) (known_right (suc (n.body t.at)) more ys r.1.1)

  abbrev pub Runs : Point → Events → Point → Type 0
  Runs x es y = Run n.name x es y

  -- the place of a tree's node is between two points, and its events run from one to the other
  pub record Told (x : Point) (a : Tree) (y : Point) : Type 0 where
    pub within : Within x a.at y
    pub stands : place (out-Node (a.node n)) ≡ a.at
    pub tells : (k : ℕ) → KnownFrom k a.threads → Runs x (events_of (bodies k) (a.node n)) y

  pub told_mono : (x y : Point) (a : Tree) → Told x a y → x.from ≤ y.from
  told_mono x y a g =
      let one : x.from ≤ a.at.from = g.within.above in
      let two : a.at.from < y.from = g.within.below in
      omega arith

  pub told_wider : (w x y z : Point) (a : Tree) → On w x → Told x a y → On y z → Told w a z
  told_wider w x y z a h g k =
      let one : x.from ≤ a.at.from = g.within.above in
      let two : a.at.from < y.from = g.within.below in
      let three : w.from ≤ x.from = h.1 in
      let four : y.from ≤ z.from = k.1 in
      record {
        within = record { above = omega arith; below = omega arith };
        stands = g.stands;
        tells = λ j r. run_on n.name w x y z (events_of (bodies j) (a.node n)) h (g.tells j r) k;
      }

  -- a tree, by its events
  pub told : (x y : Point) (a : Tree) → Within x a.at y → place (out-Node (a.node n)) ≡ a.at
      → ((k : ℕ) → KnownFrom k a.threads → (es : Events) × ((events_of (bodies k) (a.node n) ≡ es) × Runs x es y)) → Told x a y
  told x y a w e f = record { within = w; stands = e; tells = λ k r. let g = f k r in subst (λ es. Runs x es y) (sym g.1.0) g.1.1 }

  both : (x y z : Point) (es fs : Events) → Runs x es y → Runs y fs z → Runs x (es ++ fs) z
  both = run_both n.name

  nothing : (x : Point) → Runs x [] x
  nothing x = run_none n.name x x (stay x)

  -- ---- lists of trees

  pub trees_run : (x y : Point) (xs : List Tree) → Walks Told x xs y → (k : ℕ) → KnownFrom k (threads_of xs) → Runs x (events_of_all (bodies k) (nodes n xs)) y
  trees_run x y [] g k r = run_none n.name x y g
  trees_run x y (a ∷ more) g k r =
      both x g.0 y (events_of (bodies k) (a.node n)) (events_of_all (bodies k) (nodes n more)) (g.1.0.tells k (known_left k a.threads (threads_of more) r))
      (trees_run g.0 y more g.1.1 k (known_right k a.threads (threads_of more) r))

  -- with nothing behind them
  trees_alone : (x y : Point) (xs : List Tree) → Walks Told x xs y → (k : ℕ) → KnownFrom k (threads_of xs) → Runs x (events_of_all (bodies k) (nodes n xs) ++ []) y
  trees_alone x y xs g k r = both x y y (events_of_all (bodies k) (nodes n xs)) [] (trees_run x y xs g k r) (nothing y)

  one_run : (x y : Point) (a : Tree) → Told x a y → (k : ℕ) → KnownFrom k (threads_of (a ∷ [])) → Runs x (events_of (bodies k) (a.node n)) y
  one_run x y a g k r = g.tells k (known_left k a.threads [] r)

  two_run : (x y z : Point) (a b : Tree) → Told x a y → Told y b z → (k : ℕ) → KnownFrom k (threads_of (a ∷ b ∷ []))
      → Runs x (events_of (bodies k) (a.node n)) y × Runs y (events_of (bodies k) (b.node n)) z
  two_run x y z a b g h k r =
      (g.tells k (known_left k a.threads (threads_of (b ∷ [])) r), one_run y z b h k (known_right k a.threads (threads_of (b ∷ [])) r))

  walks_mono : (x y : Point) (xs : List Tree) → Walks Told x xs y → x.from ≤ y.from
  walks_mono x y [] g = g.1
  walks_mono x y (a ∷ more) g =
      let one : x.from ≤ g.0.from = told_mono x g.0 a g.1.0 in
      let two : g.0.from ≤ y.from = walks_mono g.0 y more g.1.1 in
      omega arith

  -- ---- bodies

  pub body_run : (x y : Point) (ws : List Word) (xs : List Tree) (at : Span) (g : BodyIn Told x ws xs y) (k : ℕ) → KnownFrom k (threads_of xs)
      → Runs x (params_of (params_by n ws) ++ events_of_all (bodies k) (nodes n xs)) g.last
  body_run x y ws xs at g k r =
      both x (changed (with_params ws) x) g.last (params_of (params_by n ws)) (events_of_all (bodies k) (nodes n xs)) (run_params n x ws)
      (trees_run (changed (with_params ws) x) g.last xs g.walks k r)

  block_run : (x y : Point) (b : BlockTree) → (g : BlockIn Told x b y) (k : ℕ) → KnownFrom k (threads_of b.body)
      → Runs (changed enter_block x) (block_part (bodies k) (block_by n b)).events g.last
  block_run x y b g k r =
      subst (λ es. Runs (changed enter_block x) es g.last) (sym (rolled (bodies k) (params_by n b.params) (nodes n b.body) b.at))
      (body_run (changed enter_block x) y b.params b.body b.at g k r)

  -- ---- calls

  pub call_told : (x y : Point) (w : Word) (args : List Tree) → Walks Told x args y → Within x w.at y → Told x (tree.call None w args) y
  call_told x y w args g within =
      told x y (tree.call None w args) within (placing.place-call None (n.name w.text) (nodes n args) None w.at)
      (λ k r. (
        _,
        (
          part.events-call (bodies k) None (n.name w.text) (nodes n args) None w.at,
          both x x y (alone (sight.Calls (n.name w.text)) w.at) (events_of_all (bodies k) (nodes n args) ++ [])
              (run_calls n.name x x (n.name w.text) w.at (stay x)) (trees_alone x y args g k r),
        ),
      ))

  pub args_told : (x y z : Point) (made : Tree) (a : Tree) (id : NameId) (args : List Tree) → Told x a y → Walks Told y args z → Within x made.at z
      → made.threads ≡ threads_of (a ∷ args) → made.node n ≡ node.Call (Some (a.node n)) id (nodes n args) None made.at → Told x made z
  args_told x y z made a id args g h within same is =
      told x z made within (ap (λ m. place (out-Node m)) is ∙ placing.place-call (Some (a.node n)) id (nodes n args) None made.at)
      (λ k r.
      let known = subst (KnownFrom k) same r in (
        _,
        (
          ap (λ m. events_of (bodies k) m) is ∙ part.events-call (bodies k) (Some (a.node n)) id (nodes n args) None made.at,
          both x y z (events_of (bodies k) (a.node n)) (events_of_all (bodies k) (nodes n args) ++ []) (g.tells k (known_left k a.threads (threads_of args) known))
              (trees_alone y z args h k (known_right k a.threads (threads_of args) known)),
        ),
      ))

  pub member_told : (x y z : Point) (a : Tree) (w : Word) (args : List Tree) → Told x a y → Walks Told y args z → Within x w.at z
      → Told x (tree.call (Some a) w args) z
  member_told x y z a w args g h within = args_told x y z (tree.call (Some a) w args) a (n.name w.text) args g h within refl refl

  pub binary_told : (x y z : Point) (operator : Text) (at : Span) (a b : Tree) → Told x a y → Told y b z → Within x at z → Told x (tree.binary operator at a b) z
  binary_told x y z operator at a b g h within =
      args_told x y z (tree.binary operator at a b) a (n.name operator) (b ∷ []) g (z, (h, stay z)) within refl refl

  pub minus_told : (x y : Point) (at : Span) (a : Tree) → Told x a y → Within x at y → Told x (tree.minus at a) y
  minus_told x y at a g within = args_told x y y (tree.minus at a) a (n.name tree.minus_name) [] g (stay y) within refl refl

  known_both : (j : ℕ) (xs ys : List Tree) → KnownFrom j (threads_of (xs ++ ys)) → KnownFrom j (threads_of xs) × KnownFrom j (threads_of ys)
  known_both j xs ys r =
      let split = subst (KnownFrom j) (threads_append xs ys) r in
      (known_left j (threads_of xs) (threads_of ys) split, known_right j (threads_of xs) (threads_of ys) split)

  known_three : (k : ℕ) (a : Tree) (args body : List Tree) → KnownFrom k (threads_of (a ∷ (args ++ body)))
      → KnownFrom k a.threads × (KnownFrom k (threads_of args) × KnownFrom k (threads_of body))
  known_three k a args body r =
      (known_left k a.threads (threads_of (args ++ body)) r, known_both k args body (known_right k a.threads (threads_of (args ++ body)) r))

  pub block_call_told : (x y z u : Point) (a : Tree) (w : Word) (args : List Tree) (b : BlockTree) → Told x a y → Walks Told y args z → BlockIn Told z b u
      → Within x w.at u → Told x (tree.call_with_block a w args b) u
  block_call_told x y z u a w args b g h i within =
      told x u (tree.call_with_block a w args b) within
      (placing.place-call (Some (a.node n)) (n.name w.text) (nodes n args) (Some (block_by n b)) w.at)
      (λ k r.
      let known = known_three k a args b.body r in
      let block = block_part (bodies k) (block_by n b) in (
        _,
        (
          part.events-call (bodies k) (Some (a.node n)) (n.name w.text) (nodes n args) (Some (block_by n b)) w.at,
          both x y u (events_of (bodies k) (a.node n)) (events_of_all (bodies k) (nodes n args) ++ inside around.Block block.at block.events) (g.tells k known.0)
              (both y z u (events_of_all (bodies k) (nodes n args)) (inside around.Block block.at block.events) (trees_run y z args h k known.1.0)
              (run_block n.name z i.last u block.at block.events (block_run z u b i k known.1.1) i.left i.on)),
        ),
      ))

  pub new_told : (x y : Point) (class : Word) (at : Span) (args : List Tree) → Walks Told x args y → Within x at y → Told x (tree.new class at args) y
  new_told x y class at args g within =
      told x y (tree.new class at args) within (placing.place-new (n.name class.text) (nodes n args) at)
      (λ k r. (
        _,
        (
          part.events-new (bodies k) (n.name class.text) (nodes n args) at,
          both x x y (alone (sight.Makes (n.name class.text)) at) (events_of_all (bodies k) (nodes n args))
              (run_makes n.name x x (n.name class.text) at (stay x)) (trees_run x y args g k r),
        ),
      ))

  -- the word that starts a thread, its arguments, and its body
  pub thread_told : (x y z u : Point) (at : Span) (args : List Tree) (b : BlockTree) → On x y → Within x at y → Walks Told y args z → BlockIn Told z b u
      → Told x (tree.thread_new at args b) u
  thread_told x y z u at args b on word g i =
      let low : at.from < y.from = word.below in
      let middle : y.from ≤ z.from = walks_mono y z args g in
      let inner : z.from ≤ i.last.from = walks_mono (changed (with_params b.params) (changed enter_block z)) i.last b.body i.walks in
      let outer : i.last.from ≤ u.from = i.on in
      told x u (tree.thread_new at args b) (record { above = word.above; below = omega arith })
      (placing.place-thread_new (nodes n args) (n.body b.at) at)
      (λ k r.
      let known = known_right k (threads_of args) (own b ∷ threads_of b.body) r in
      let given = known_left k (threads_of args) (own b ∷ threads_of b.body) r in
      let body = subst (λ es. Runs (changed enter_block z) es i.last) (sym (known.1.0 k known.0)) (block_run z u b i (suc (n.body b.at)) known.1.1) in (
        _,
        (
          part.events-thread_new (bodies k) (nodes n args) (n.body b.at) at,
          both x y u (alone (sight.Starts (n.body b.at)) at) (events_of_all (bodies k) (nodes n args) ++ inside around.Thread at (bodies k (n.body b.at)))
              (run_starts n.name x y (n.body b.at) at on word)
              (both y z u (events_of_all (bodies k) (nodes n args)) (inside around.Thread at (bodies k (n.body b.at))) (trees_run y z args g k given)
              (run_thread n.name z i.last u at (bodies k (n.body b.at)) body i.left i.on)),
        ),
      ))

  -- ---- one tree, and two

  pub one_told : (x y : Point) (made : Tree) (a : Tree) → Told x a y → Within x made.at y → place (out-Node (made.node n)) ≡ made.at
      → made.threads ≡ threads_of (a ∷ []) → ((k : ℕ) → events_of (bodies k) (made.node n) ≡ events_of (bodies k) (a.node n)) → Told x made y
  one_told x y made a g within e same is =
      told x y made within e (λ k r. (_, (is k, one_run x y a g k (subst (KnownFrom k) same r))))

  pub negated_told : (x y : Point) (at : Span) (a : Tree) → Told x a y → Within x at y → Told x (tree.negated at a) y
  negated_told x y at a g within =
      one_told x y (tree.negated at a) a g within (placing.place-not (a.node n) at) refl (λ k. part.events-not (bodies k) (a.node n) at)

  pub two_told : (x y z : Point) (made : Tree) (a b : Tree) → Told x a y → Told y b z → Within x made.at z → place (out-Node (made.node n)) ≡ made.at
      → made.threads ≡ threads_of (a ∷ b ∷ [])
      → ((k : ℕ) → events_of (bodies k) (made.node n) ≡ events_of (bodies k) (a.node n) ++ events_of (bodies k) (b.node n)) → Told x made z
  two_told x y z made a b g h within e same is =
      told x z made within e
      (λ k r.
      let run = two_run x y z a b g h k (subst (KnownFrom k) same r) in
      (_, (is k, both x y z (events_of (bodies k) (a.node n)) (events_of (bodies k) (b.node n)) run.0 run.1)))

  pub and_told : (x y z : Point) (at : Span) (a b : Tree) → Told x a y → Told y b z → Within x at z → Told x (tree.and_also at a b) z
  and_told x y z at a b g h within =
      two_told x y z (tree.and_also at a b) a b g h within (placing.place-and (a.node n) (b.node n) at) refl
      (λ k. part.events-and (bodies k) (a.node n) (b.node n) at)

  pub or_told : (x y z : Point) (at : Span) (a b : Tree) → Told x a y → Told y b z → Within x at z → Told x (tree.or_else at a b) z
  or_told x y z at a b g h within =
      two_told x y z (tree.or_else at a b) a b g h within (placing.place-or (a.node n) (b.node n) at) refl (λ k. part.events-or (bodies k) (a.node n) (b.node n) at)

  pub return_value_told : (x y : Point) (at : Span) (a : Tree) → Told x a y → Within x at y → Told x (tree.return_value at a) y
  return_value_told x y at a g within =
      told x y (tree.return_value at a) within (placing.place-return (Some (a.node n)) at)
      (λ k r. (
        _,
        (
          part.events-return (bodies k) (Some (a.node n)) at,
          both x x y (alone sight.Returns at) (events_of (bodies k) (a.node n)) (run_returns n.name x x at (stay x)) (one_run x y a g k r),
        ),
      ))

  -- ---- literals

  pieces_run : (x y : Point) (pieces : List PieceTree) → Walks Told x (code_of pieces) y → (k : ℕ) → KnownFrom k (threads_of (code_of pieces))
      → Runs x (pieces_of (map (piece_events (bodies k)) (map (piece_by n) pieces))) y
  pieces_run x y [] g k r = run_none n.name x y g
  pieces_run x y (tree.bytes text ∷ more) g k r =
      subst (λ es. Runs x (es ++ pieces_of (map (piece_events (bodies k)) (map (piece_by n) more))) y) (sym (part.piece-text (bodies k) text))
      (pieces_run x y more g k r)
  pieces_run x y (tree.code a ∷ more) g k r =
      subst (λ es. Runs x (es ++ pieces_of (map (piece_events (bodies k)) (map (piece_by n) more))) y) (sym (part.piece-code (bodies k) (a.node n)))
      (both x g.0 y (events_of (bodies k) (a.node n)) (pieces_of (map (piece_events (bodies k)) (map (piece_by n) more)))
      (g.1.0.tells k (known_left k a.threads (threads_of (code_of more)) r))
      (pieces_run g.0 y more g.1.1 k (known_right k a.threads (threads_of (code_of more)) r)))

  pub string_told : (x y : Point) (at : Span) (pieces : List PieceTree) → Walks Told x (code_of pieces) y → Within x at y → Told x (tree.string at pieces) y
  string_told x y at pieces g within =
      told x y (tree.string at pieces) within (placing.place-str (map (piece_by n) pieces) at)
      (λ k r. (_, (part.events-str (bodies k) (map (piece_by n) pieces) at, pieces_run x y pieces g k r)))

  pub array_told : (x y : Point) (at : Span) (items : List Tree) → Walks Told x items y → Within x at y → Told x (tree.array at items) y
  array_told x y at items g within =
      told x y (tree.array at items) within (placing.place-array (nodes n items) at)
      (λ k r. (_, (part.events-array (bodies k) (nodes n items) at, trees_run x y items g k r)))

  abbrev pairs_by : List (Tree × Tree) → List (Node × Node)
  pairs_by = map (λ p. (p.0.node n, p.1.node n))

  pairs_run : (x y : Point) (pairs : List (Tree × Tree)) → Walks Told x (flat pairs) y → (k : ℕ) → KnownFrom k (threads_of (flat pairs))
      → Runs x (pairs_of (map (pair_parts (bodies k)) (pairs_by pairs))) y
  pairs_run x y [] g k r = run_none n.name x y g
  pairs_run x y (p ∷ more) g k r =
      let first = events_of (bodies k) (p.0.node n) in
      let second = events_of (bodies k) (p.1.node n) in
      let rest = known_right k p.0.threads (threads_of (p.1 ∷ flat more)) r in
      both x g.1.1.0 y (first ++ second) (pairs_of (map (pair_parts (bodies k)) (pairs_by more)))
      (both x g.0 g.1.1.0 first second (g.1.0.tells k (known_left k p.0.threads (threads_of (p.1 ∷ flat more)) r))
      (g.1.1.1.0.tells k (known_left k p.1.threads (threads_of (flat more)) rest)))
      (pairs_run g.1.1.0 y more g.1.1.1.1 k (known_right k p.1.threads (threads_of (flat more)) rest))

  pub hash_told : (x y : Point) (at : Span) (pairs : List (Tree × Tree)) → Walks Told x (flat pairs) y → Within x at y → Told x (tree.hash at pairs) y
  hash_told x y at pairs g within =
      told x y (tree.hash at pairs) within (placing.place-hash (pairs_by pairs) at)
      (λ k r. (_, (part.events-hash (bodies k) (pairs_by pairs) at, pairs_run x y pairs g k r)))

  -- ---- control

  -- a place that is behind another is not before it, and so the other way round
  not_before : (p q : ℕ) → q ≤ p → nat_lt p q ≡ false
  not_before p q l = grind (arith, nat_tests, l)

  is_before : (p q : ℕ) → p < q → nat_lt p q ≡ true
  is_before p q l = grind (arith, nat_tests, l)

  -- a body that stands behind its word stands behind its condition
  condition_first : (x y : Point) (at : Span) (b : ℕ → Events) (c : Events) (xs : List Tree) → at.from ≤ x.from → Walks Told x xs y
      → in_order at c (map (part_of b) (nodes n xs)) ≡ c ++ events_of_all b (nodes n xs)
  condition_first x y at b c [] l g = refl
  condition_first x y at b c (a ∷ more) l g =
      let stands : (part_of b (a.node n)).at ≡ a.at = part.part_place b (a.node n) ∙ g.1.0.stands in
      let above : x.from ≤ a.at.from = g.1.0.within.above in
      let test : nat_lt (part_of b (a.node n)).at.from at.from ≡ false =
      ap (λ (s : Span). nat_lt s.from at.from) stands ∙ not_before a.at.from at.from (omega arith) in
      ap (λ t. if t then events_of_all b (nodes n (a ∷ more)) ++ c else c ++ events_of_all b (nodes n (a ∷ more))) test

  -- and one that stands before it, before its condition
  body_first : (x y : Point) (at : Span) (b : ℕ → Events) (c : Events) (a : Tree) → y.from ≤ at.from → Told x a y
      → in_order at c (map (part_of b) (nodes n (a ∷ []))) ≡ events_of_all b (nodes n (a ∷ [])) ++ c
  body_first x y at b c a l g =
      let stands : (part_of b (a.node n)).at ≡ a.at = part.part_place b (a.node n) ∙ g.stands in
      let below : a.at.from < y.from = g.within.below in
      let test : nat_lt (part_of b (a.node n)).at.from at.from ≡ true =
      ap (λ (s : Span). nat_lt s.from at.from) stands ∙ is_before a.at.from at.from (omega arith) in
      ap (λ t. if t then events_of_all b (nodes n (a ∷ [])) ++ c else c ++ events_of_all b (nodes n (a ∷ []))) test

  pub choice_told : (x y z u : Point) (at : Span) (c : Tree) (xs ys : List Tree) → Told x c y → at.from ≤ y.from → Walks Told y xs z → Walks Told z ys u
      → Within x at u → Told x (tree.choice at c xs ys) u
  choice_told x y z u at c xs ys g l h i within =
      told x u (tree.choice at c xs ys) within (placing.place-if (c.node n) (nodes n xs) (nodes n ys) at)
      (λ k r.
      let known = known_three k c xs ys r in
      let condition = events_of (bodies k) (c.node n) in
      let first = events_of_all (bodies k) (nodes n xs) in
      let second = events_of_all (bodies k) (nodes n ys) in (
        _,
        (
          part.events-if (bodies k) (c.node n) (nodes n xs) (nodes n ys) at
              ∙ ap (λ es. es ++ second) (condition_first y z at (bodies k) condition xs l h),
          both x z u (condition ++ first) second (both x y z condition first (g.tells k known.0) (trees_run y z xs h k known.1.0))
              (trees_run z u ys i k known.1.1),
        ),
      ))

  pub loop_told : (x y z : Point) (at : Span) (c : Tree) (xs : List Tree) → Told x c y → at.from ≤ y.from → Walks Told y xs z → Within x at z
      → Told x (tree.loop at c xs) z
  loop_told x y z at c xs g l h within =
      told x z (tree.loop at c xs) within (placing.place-while (c.node n) (nodes n xs) at)
      (λ k r.
      let condition = events_of (bodies k) (c.node n) in
      let first = events_of_all (bodies k) (nodes n xs) in (
        _,
        (
          part.events-while (bodies k) (c.node n) (nodes n xs) at
              ∙ ap (inside around.Loop at) (condition_first y z at (bodies k) condition xs l h),
          run_loop n.name x z at (condition ++ first)
              (both x y z condition first (g.tells k (known_left k c.threads (threads_of xs) r)) (trees_run y z xs h k (known_right k c.threads (threads_of xs) r))),
        ),
      ))

  -- a body, and a condition behind it
  behind_run : (x y z : Point) (b c : Tree) → Told x b y → Told y c z → (k : ℕ) → KnownFrom k (threads_of (b ∷ c ∷ []))
      → Runs x (events_of_all (bodies k) (nodes n (b ∷ [])) ++ events_of (bodies k) (c.node n)) z
  behind_run x y z b c g h k r =
      let run = two_run x y z b c g h k r in
      both x y z (events_of_all (bodies k) (nodes n (b ∷ []))) (events_of (bodies k) (c.node n))
      (both x y y (events_of (bodies k) (b.node n)) [] run.0 (nothing y)) run.1

  pub choice_behind_told : (x y z : Point) (at : Span) (b c : Tree) → Told x b y → y.from ≤ at.from → Told y c z → Within x at z
      → Told x (tree.choice_behind at b c) z
  choice_behind_told x y z at b c g l h within =
      told x z (tree.choice_behind at b c) within (placing.place-if (c.node n) (b.node n ∷ []) [] at)
      (λ k r.
      let condition = events_of (bodies k) (c.node n) in
      let body = events_of_all (bodies k) (nodes n (b ∷ [])) in (
        _,
        (
          part.events-if (bodies k) (c.node n) (b.node n ∷ []) [] at
              ∙ ap (λ es. es ++ events_of_all (bodies k) []) (body_first x y at (bodies k) condition b l g),
          both x z z (body ++ condition) [] (behind_run x y z b c g h k r) (nothing z),
        ),
      ))

  pub loop_behind_told : (x y z : Point) (at : Span) (b c : Tree) → Told x b y → y.from ≤ at.from → Told y c z → Within x at z → Told x (tree.loop_behind at b c) z
  loop_behind_told x y z at b c g l h within =
      told x z (tree.loop_behind at b c) within (placing.place-while (c.node n) (b.node n ∷ []) at)
      (λ k r.
      let condition = events_of (bodies k) (c.node n) in
      let body = events_of_all (bodies k) (nodes n (b ∷ [])) in (
        _,
        (
          part.events-while (bodies k) (c.node n) (b.node n ∷ []) at
              ∙ ap (inside around.Loop at) (body_first x y at (bodies k) condition b l g),
          run_loop n.name x z at (body ++ condition) (behind_run x y z b c g h k r),
        ),
      ))

  -- ---- assignments

  -- a receiver and two more, as what `[]=` is given, and as what `+=` is
  pub store_told : (x y z : Point) (made : Tree) (r : Tree) (id : NameId) (args : List Tree) → Told x r y → Walks Told y args z → Within x made.at z
      → made.threads ≡ threads_of (r ∷ args) → made.node n ≡ node.Store (r.node n) id (nodes n args) made.at → Told x made z
  store_told x y z made r id args g h within same is =
      told x z made within (ap (λ m. place (out-Node m)) is ∙ placing.place-store (r.node n) id (nodes n args) made.at)
      (λ k f.
      let known = subst (KnownFrom k) same f in (
        _,
        (
          ap (λ m. events_of (bodies k) m) is ∙ part.events-store (bodies k) (r.node n) id (nodes n args) made.at,
          both x y z (events_of (bodies k) (r.node n)) (events_of_all (bodies k) (nodes n args)) (g.tells k (known_left k r.threads (threads_of args) known))
              (trees_run y z args h k (known_right k r.threads (threads_of args) known)),
        ),
      ))

  -- a local that is assigned, and its value
  value_run : (x y z : Point) (w : Word) (at : Span) (a : Tree) → On x y → Told (changed (with_target (tree.to_local w)) y) a z → (k : ℕ)
      → KnownFrom k (threads_of (a ∷ []))
      → Runs x (alone (sight.Assigns (n.name w.text)) at ++ inside (around.Value (n.name w.text)) at (events_of (bodies k) (a.node n))) z
  value_run x y z w at a on g k r =
      let after = changed (with_target (tree.to_local w)) y in
      both x after z (alone (sight.Assigns (n.name w.text)) at) (inside (around.Value (n.name w.text)) at (events_of (bodies k) (a.node n)))
      (run_on n.name x y after after (alone (sight.Assigns (n.name w.text)) at) on (run_assigns n.name y w at) (stay after))
      (run_value n.name after z (n.name w.text) at (events_of (bodies k) (a.node n)) (one_run after z a g k r))

  pub assigned_told : (x y z : Point) (t : TargetTree) (at : Span) (a : Tree) → TargetIn Told x t y → Told (changed (with_target t) y) a z → Within x at z
      → Told x (tree.assigned t at a) z
  assigned_told x y z (tree.to_local w) at a e g within =
      told x z (tree.assigned (tree.to_local w) at a) within (placing.place-set_local (n.name w.text) (a.node n) at)
      (λ k r. (_, (part.events-set_local (bodies k) (n.name w.text) (a.node n) at, value_run x y z w at a e g k r)))
  assigned_told x y z (tree.to_field w) at a e g within =
      let after = changed (with_target (tree.to_field w)) y in
      told x z (tree.assigned (tree.to_field w) at a) within (placing.place-set_field (n.name w.text) (a.node n) at)
      (λ k r. (
        _,
        (
          part.events-set_field (bodies k) (n.name w.text) (a.node n) at,
          both x after z (alone (sight.Field (n.name w.text)) at) (events_of (bodies k) (a.node n)) (run_field n.name x after (n.name w.text) at e)
              (one_run after z a g k r),
        ),
      ))
  assigned_told x y z (tree.to_global w) at a e g within =
      let after = changed (with_target (tree.to_global w)) y in
      told x z (tree.assigned (tree.to_global w) at a) within (placing.place-set_global (n.name w.text) (a.node n) at)
      (λ k r. (
        _,
        (
          part.events-set_global (bodies k) (n.name w.text) (a.node n) at,
          both x after z (alone (sight.Global (n.name w.text)) at) (events_of (bodies k) (a.node n)) (run_global n.name x after (n.name w.text) at e)
              (one_run after z a g k r),
        ),
      ))
  assigned_told x y z (tree.to_index r j bracket) at a e g within =
      store_told x e.0 z (tree.assigned (tree.to_index r j bracket) at a) r (n.name tree.store_name) (j ∷ a ∷ []) e.1.0
      (y, (e.1.1, (z, (g, stay z)))) within refl refl
  assigned_told x y z (tree.to_attribute r w) at a e g within =
      store_told x y z (tree.assigned (tree.to_attribute r w) at a) r (n.name (tree.setter_of w.text)) (a ∷ []) e.0 (z, (g, stay z)) within refl refl

  pub operated_told : (x y z : Point) (t : TargetTree) (op : AssignOp) (at : Span) (a : Tree) → TargetIn Told x t y
      → Told (changed (with_target t) y) a z → Within x at z
      → Told x (tree.operated t op at a) z
  operated_told x y z (tree.to_local w) op at a e g within =
      told x z (tree.operated (tree.to_local w) op at a) within (placing.place-op_assign (target.Local (n.name w.text)) op (a.node n) at)
      (λ k r. (
        _,
        (
          part.events-op_assign (bodies k) (target.Local (n.name w.text)) op (a.node n) at
              ∙ part.target-local (bodies k) (n.name w.text) at (events_of (bodies k) (a.node n)),
          value_run x y z w at a e g k r,
        ),
      ))
  operated_told x y z (tree.to_field w) op at a e g within =
      let after = changed (with_target (tree.to_field w)) y in
      told x z (tree.operated (tree.to_field w) op at a) within (placing.place-op_assign (target.Field (n.name w.text)) op (a.node n) at)
      (λ k r. (
        _,
        (
          part.events-op_assign (bodies k) (target.Field (n.name w.text)) op (a.node n) at
              ∙ part.target-field (bodies k) (n.name w.text) at (events_of (bodies k) (a.node n)),
          both x after z (alone (sight.Field (n.name w.text)) at) (events_of (bodies k) (a.node n)) (run_field n.name x after (n.name w.text) at e)
              (one_run after z a g k r),
        ),
      ))
  operated_told x y z (tree.to_global w) op at a e g within =
      let after = changed (with_target (tree.to_global w)) y in
      told x z (tree.operated (tree.to_global w) op at a) within (placing.place-op_assign (target.Global (n.name w.text)) op (a.node n) at)
      (λ k r. (
        _,
        (
          part.events-op_assign (bodies k) (target.Global (n.name w.text)) op (a.node n) at
              ∙ part.target-global (bodies k) (n.name w.text) at (events_of (bodies k) (a.node n)),
          both x after z (alone (sight.Global (n.name w.text)) at) (events_of (bodies k) (a.node n)) (run_global n.name x after (n.name w.text) at e)
              (one_run after z a g k r),
        ),
      ))
  operated_told x y z (tree.to_index r j bracket) op at a e g within =
      told x z (tree.operated (tree.to_index r j bracket) op at a) within (placing.place-op_assign (target.Index (r.node n) (j.node n)) op (a.node n) at)
      (λ k f.
      let value = events_of (bodies k) (a.node n) in
      let rest = known_right k r.threads (threads_of (j ∷ a ∷ [])) f in
      let run = two_run e.0 y z j a e.1.1 g k rest in (
        _,
        (
          part.events-op_assign (bodies k) (target.Index (r.node n) (j.node n)) op (a.node n) at
              ∙ part.target-index (bodies k) (r.node n) (j.node n) at value,
          both x e.0 z (events_of (bodies k) (r.node n)) (events_of (bodies k) (j.node n) ++ value)
              (e.1.0.tells k (known_left k r.threads (threads_of (j ∷ a ∷ [])) f)) (both e.0 y z (events_of (bodies k) (j.node n)) value run.0 run.1),
        ),
      ))
  operated_told x y z (tree.to_attribute r w) op at a e g within =
      told x z (tree.operated (tree.to_attribute r w) op at a) within (placing.place-op_assign (target.Attribute (r.node n) (n.name w.text)) op (a.node n) at)
      (λ k f.
      let value = events_of (bodies k) (a.node n) in
      let run = two_run x y z r a e.0 g k f in (
        _,
        (
          part.events-op_assign (bodies k) (target.Attribute (r.node n) (n.name w.text)) op (a.node n) at
              ∙ part.target-attribute (bodies k) (r.node n) (n.name w.text) at value,
          both x y z (events_of (bodies k) (r.node n)) value run.0 run.1,
        ),
      ))
