-- How often the body of a number is started in the texts of a script: as often as it is among its threads.
use Rattle.std.proofs.Common.{◌≡◌, refl, ap, sym, subst, ◌∙◌, ℕ, suc, ◌+◌, ◌≤◌, Bool, true, false, List, [], ◌∷◌, ◌++◌, map, Some, None, arith}
use Rattle.std.specs.Prelude.{codes, nat_eq, if◌then◌else◌}
use Rattle.std.specs.Str.{bytes_eq}
use Rattle.std.proofs.lemmas.Grind.{flat_map-append}
use Rattle.rb_tree.specs.declared.span.Span.{Span}
use Rattle.rb_tree.specs.declared.span.NameId.{NameId}
use Rattle.rb_tree.specs.declared.node.AssignOp.{AssignOp}
use Rattle.rb_tree.specs.declared.node.Node.{Node}
use Rattle.rb_tree.specs.declared.node.Node.TheVariants as node
use Rattle.rb_tree.specs.declared.node.Target.TheVariants as target
use Rattle.rb_tree.specs.declared.node.Param.{Param}
use Rattle.rb_tree.proofs.Numbering.{map-append}
use Rattle.rb_grammar.specs.Tree.{Text, Word, Numbering, Thread, Tree, BlockTree, PieceTree, TargetTree, MethodTree, ClassTree, Members, Items, nodes, threads_of, block_by, params_by, code_of, piece_by, flat}
use Rattle.rb_grammar.specs.Tree as tree
use Rattle.rb_grammar.specs.Faithful.{Each}
use Rattle.rb_grammar.proofs.Each.{each_append}
use Rattle.rb_checker.specs.declared.event.Sight.TheVariants as sight
use Rattle.rb_checker.specs.declared.event.Around.{Around as Enclosure}
use Rattle.rb_checker.specs.declared.event.Around.TheVariants as around
use Rattle.rb_checker.specs.Events.{part_of, block_part, events_of, events_of_all, params_of, in_order, alone, inside, piece_events, pieces_of, pairs_of, pair_parts}
use Rattle.rb_checker.proofs.AllMade.{Events}
use Rattle.rb_checker.proofs.Parts as part
use Rattle.rb_accepted.proofs.Seen.{Start, start_at, starts_in, numbers_of}
use Rattle.rb_accepted.proofs.Kept.{TargetHas, IsKept}
use Rattle.rb_accepted.proofs.Runs.{once, times}
use Rattle.rb_accepted.proofs.Told.{rolled}
use Rattle.rb_accepted.proofs.ToldScript.{joined, method_text, texts_of, class_texts, main_text}

-- what is between two counts: that they are the same, or that one is not more than the other
pub record IsRelation (R : ℕ → ℕ → Type 0) : Type 0 where
  pub same : (a : ℕ) → R a a
  pub plus : (a b c d : ℕ) → R a b → R c d → R (a + c) (b + d)
  pub on : (a b c : ℕ) → R a b → R b c → R a c

-- the body of a thread, by its block
abbrev own : BlockTree → Thread
own b = record { at = b.at; block = λ n. block_by n b }

-- how often the body of a number is started
abbrev pub numbering : ℕ → Events → ℕ
numbering m es = times m (numbers_of (starts_in es))

numbers_append : (m : ℕ) (xs ys : List Start) → times m (numbers_of (xs ++ ys)) ≡ times m (numbers_of xs) + times m (numbers_of ys)
numbers_append m [] ys = omega arith
numbers_append m (x ∷ xs) ys = omega (arith, numbers_append m xs ys)

pub numbering_append : (m : ℕ) (es fs : Events) → numbering m (es ++ fs) ≡ numbering m es + numbering m fs
numbering_append m [] fs = omega arith
numbering_append m (e ∷ es) fs =
    let own = start_at e.sight e.at in
    let one : times m (numbers_of (own ++ starts_in (es ++ fs))) ≡ times m (numbers_of own) + numbering m (es ++ fs) = numbers_append m own (starts_in (es ++ fs)) in
    let two : times m (numbers_of (own ++ starts_in es)) ≡ times m (numbers_of own) + numbering m es = numbers_append m own (starts_in es) in
    omega (arith, one, two, numbering_append m es fs)

pub joined_numbering : (m : ℕ) (xs ys : List Events) → numbering m (joined (xs ++ ys)) ≡ numbering m (joined xs) + numbering m (joined ys)
joined_numbering m [] ys = omega arith
joined_numbering m (x ∷ xs) ys =
    omega (arith, numbering_append m x (joined (xs ++ ys)), numbering_append m x (joined xs), joined_numbering m xs ys)

-- nothing is started by parameters, nor by what stands round
params_numbering : (m : ℕ) (ps : List Param) (es : Events) → numbering m (params_of ps ++ es) ≡ numbering m es
params_numbering m [] es = refl
params_numbering m (p ∷ ps) es = params_numbering m ps es

inside_numbering : (m : ℕ) (a : Enclosure) (at : Span) (es : Events) → numbering m (inside a at es) ≡ numbering m es
inside_numbering m a at es = omega (arith, numbering_append m es (alone sight.Ends at))

nothing_behind : (m : ℕ) (es : Events) → numbering m (es ++ []) ≡ numbering m es
nothing_behind m es = omega (arith, numbering_append m es [])

-- the order of a condition and a body does not matter
order_numbering : (m : ℕ) (test : Bool) (c b : Events) → numbering m (if test then b ++ c else c ++ b) ≡ numbering m c + numbering m b
order_numbering m true c b = omega (arith, numbering_append m b c)
order_numbering m false c b = numbering_append m c b

module _ (n : Numbering) (m : ℕ) where
  -- how often a number is that of a thread
  abbrev pub listed : List Thread → ℕ
  listed ts = times m (map (λ (t : Thread). n.body t.at) ts)

  listed_append : (xs ys : List Thread) → listed (xs ++ ys) ≡ listed xs + listed ys
  listed_append [] ys = omega arith
  listed_append (x ∷ xs) ys = omega (arith, listed_append xs ys)

  module _ (bodies : ℕ → ℕ → Events) (R : ℕ → ℕ → Type 0) (rel : IsRelation R) where
    -- Threads whose bodies are numbered from one on, each above the one before it: each is known with the events of those behind it.
    abbrev pub CountsFrom : ℕ → List Thread → Type 0
    CountsFrom k [] = Unit {0}
    CountsFrom k (t ∷ more) =
        (k ≤ n.body t.at)
        × (((j : ℕ) → j ≤ n.body t.at → R (numbering m (bodies j (n.body t.at))) (numbering m (block_part (bodies (suc (n.body t.at))) (t.block n)).events))
        × CountsFrom (suc (n.body t.at)) more)

    counts_below : (j k : ℕ) (ts : List Thread) → j ≤ k → CountsFrom k ts → CountsFrom j ts
    counts_below j k [] l r = tt
    counts_below j k (t ∷ more) l r = let above : k ≤ n.body t.at = r.0 in (omega arith, r.1)

    counts_left : (k : ℕ) (xs ys : List Thread) → CountsFrom k (xs ++ ys) → CountsFrom k xs
    counts_left k [] ys r = tt
    counts_left k (t ∷ more) ys r = (r.0, (r.1.0, counts_left (suc (n.body t.at)) more ys r.1.1))

    counts_right : (k : ℕ) (xs ys : List Thread) → CountsFrom k (xs ++ ys) → CountsFrom k ys
    counts_right k [] ys r = r
    counts_right k (t ∷ more) ys r =
        let above : k ≤ n.body t.at = r.0 in
        counts_below k (suc (n.body t.at)) ys (omega arith) (counts_right (suc (n.body t.at)) more ys r.1.1)

    -- what a body starts is among threads of greater numbers
    abbrev pub Inner : Thread → Type 0
    Inner t = (ts : List Thread)
        × (CountsFrom (suc (n.body t.at)) ts × R (numbering m (block_part (bodies (suc (n.body t.at))) (t.block n)).events) (listed ts))

    -- a body is started in a tree as often as it is among its threads
    abbrev pub IsNumbered : Tree → Type 0
    IsNumbered a = (k : ℕ) → CountsFrom k a.threads → R (numbering m (events_of (bodies k) (a.node n))) (listed a.threads) × Each Inner a.threads

    -- equal counts
    by_equal : (a b c d : ℕ) → a ≡ b → c ≡ d → R b d → R a c
    by_equal a b c d e f r = subst (λ x. R x c) (sym e) (subst (R b) (sym f) r)

    trees_numbered : (xs : List Tree) → Each IsNumbered xs → (k : ℕ) → CountsFrom k (threads_of xs)
        → R (numbering m (events_of_all (bodies k) (nodes n xs))) (listed (threads_of xs)) × Each Inner (threads_of xs)
    trees_numbered [] g k r = (rel.same 0, tt)
    trees_numbered (a ∷ more) g k r =
        let first = g.0 k (counts_left k a.threads (threads_of more) r) in
        let rest = trees_numbered more g.1 k (counts_right k a.threads (threads_of more) r) in
        let here = events_of (bodies k) (a.node n) in
        let behind = events_of_all (bodies k) (nodes n more) in (
          by_equal (numbering m (here ++ behind)) (numbering m here + numbering m behind) (listed (a.threads ++ threads_of more))
              (listed a.threads + listed (threads_of more))
              (numbering_append m here behind) (listed_append a.threads (threads_of more))
              (rel.plus (numbering m here) (listed a.threads) (numbering m behind) (listed (threads_of more)) first.0 rest.0),
          each_append Inner a.threads (threads_of more) first.1 rest.1,
        )

    -- a tree, by the trees in it
    branch_numbered : (made : Tree) (inside : List Tree) → Each IsNumbered inside → made.threads ≡ threads_of inside
        → ((k : ℕ) → numbering m (events_of (bodies k) (made.node n)) ≡ numbering m (events_of_all (bodies k) (nodes n inside))) → IsNumbered made
    branch_numbered made inside g same is = λ k r.
        let all = trees_numbered inside g k (subst (CountsFrom k) same r) in (
          by_equal (numbering m (events_of (bodies k) (made.node n))) (numbering m (events_of_all (bodies k) (nodes n inside)))
              (listed made.threads) (listed (threads_of inside))
              (is k) (ap listed same) all.0,
          subst (Each Inner) (sym same) all.1,
        )

    leaf_numbered : (made : Tree) → made.threads ≡ [] → ((k : ℕ) → numbering m (events_of (bodies k) (made.node n)) ≡ 0) → IsNumbered made
    leaf_numbered made same is = branch_numbered made [] tt same is

    all_both : (b : ℕ → Events) (xs ys : List Tree)
        → numbering m (events_of_all b (nodes n (xs ++ ys))) ≡ numbering m (events_of_all b (nodes n xs)) + numbering m (events_of_all b (nodes n ys))
    all_both b [] ys = omega arith
    all_both b (x ∷ xs) ys =
        omega (
          arith,
          numbering_append m (events_of b (x.node n)) (events_of_all b (nodes n (xs ++ ys))),
          numbering_append m (events_of b (x.node n)) (events_of_all b (nodes n xs)),
          all_both b xs ys,
        )

    -- ---- calls

    call_numbered : (w : Word) (args : List Tree) → Each IsNumbered args → IsNumbered (tree.call None w args)
    call_numbered w args g =
        branch_numbered (tree.call None w args) args g refl
        (λ k. ap (numbering m) (part.events-call (bodies k) None (n.name w.text) (nodes n args) None w.at) ∙ nothing_behind m
        (events_of_all (bodies k) (nodes n args)))

    -- a call of one receiver with arguments
    args_count : (made : Tree) (a : Tree) (id : NameId) (args : List Tree) (at : Span) → made.node n ≡ node.Call (Some (a.node n)) id (nodes n args) None at
        → (k : ℕ) → numbering m (events_of (bodies k) (made.node n)) ≡ numbering m (events_of_all (bodies k) (nodes n (a ∷ args)))
    args_count made a id args at is k =
        let here = events_of (bodies k) (a.node n) in
        let given = events_of_all (bodies k) (nodes n args) in
        let one : numbering m (events_of (bodies k) (made.node n)) ≡ numbering m (here ++ (given ++ [])) =
        ap (numbering m) (ap (λ x. events_of (bodies k) x) is ∙ part.events-call (bodies k) (Some (a.node n)) id (nodes n args) None at) in
        omega (arith, one, numbering_append m here (given ++ []), nothing_behind m given, numbering_append m here given)

    member_numbered : (a : Tree) (w : Word) (args : List Tree) → IsNumbered a → Each IsNumbered args → IsNumbered (tree.call (Some a) w args)
    member_numbered a w args g h =
        branch_numbered (tree.call (Some a) w args) (a ∷ args) (g, h) refl (args_count (tree.call (Some a) w args) a (n.name w.text) args w.at refl)

    binary_numbered : (operator : Text) (at : Span) (a b : Tree) → IsNumbered a → IsNumbered b → IsNumbered (tree.binary operator at a b)
    binary_numbered operator at a b g h =
        branch_numbered (tree.binary operator at a b) (a ∷ b ∷ []) (g, (h, tt)) refl (args_count (tree.binary operator at a b) a (n.name operator) (b ∷ []) at refl)

    minus_numbered : (at : Span) (a : Tree) → IsNumbered a → IsNumbered (tree.minus at a)
    minus_numbered at a g = branch_numbered (tree.minus at a) (a ∷ []) (g, tt) refl (args_count (tree.minus at a) a (n.name tree.minus_name) [] at refl)

    block_count : (b : ℕ → Events) (x : BlockTree) → numbering m (block_part b (block_by n x)).events ≡ numbering m (events_of_all b (nodes n x.body))
    block_count b x =
        ap (numbering m) (rolled b (params_by n x.params) (nodes n x.body) x.at) ∙ params_numbering m (params_by n x.params) (events_of_all b (nodes n x.body))

    block_call_numbered : (a : Tree) (w : Word) (args : List Tree) (b : BlockTree) → IsNumbered a → Each IsNumbered args → Each IsNumbered b.body
        → IsNumbered (tree.call_with_block a w args b)
    block_call_numbered a w args b g h i =
        branch_numbered (tree.call_with_block a w args b) (a ∷ (args ++ b.body)) (g, each_append IsNumbered args b.body h i) refl
        (λ k.
        let here = events_of (bodies k) (a.node n) in
        let given = events_of_all (bodies k) (nodes n args) in
        let block = block_part (bodies k) (block_by n b) in
        let one : numbering m (events_of (bodies k) (node.Call (Some (a.node n)) (n.name w.text) (nodes n args) (Some (block_by n b)) w.at))
        ≡ numbering m (here ++ (given ++ inside around.Block block.at block.events)) =
        ap (numbering m) (part.events-call (bodies k) (Some (a.node n)) (n.name w.text) (nodes n args) (Some (block_by n b)) w.at) in
        omega (
          arith,
          one,
          numbering_append m here (given ++ inside around.Block block.at block.events),
          numbering_append m given
              (inside around.Block block.at block.events),
          inside_numbering m around.Block block.at block.events,
          block_count (bodies k) b,
          all_both (bodies k) args b.body,
          numbering_append m here (events_of_all (bodies k) (nodes n (args ++ b.body))),
        ))

    new_numbered : (class : Word) (at : Span) (args : List Tree) → Each IsNumbered args → IsNumbered (tree.new class at args)
    new_numbered class at args g =
        branch_numbered (tree.new class at args) args g refl (λ k. ap (numbering m) (part.events-new (bodies k) (n.name class.text) (nodes n args) at))

    -- the body of a thread is started where the thread is
    thread_numbered : (at : Span) (args : List Tree) (b : BlockTree) → Each IsNumbered args → Each IsNumbered b.body → IsNumbered (tree.thread_new at args b)
    thread_numbered at args b g i = λ k r.
        let number = n.body b.at in
        let known = counts_right k (threads_of args) (own b ∷ threads_of b.body) r in
        let first = trees_numbered args g k (counts_left k (threads_of args) (own b ∷ threads_of b.body) r) in
        let inner = trees_numbered b.body i (suc number) known.1.1 in
        let given = events_of_all (bodies k) (nodes n args) in
        let block = (block_part (bodies (suc number)) (block_by n b)).events in
        let body = bodies k number in
        let of_block : R (numbering m block) (listed (threads_of b.body)) =
        by_equal (numbering m block) (numbering m (events_of_all (bodies (suc number)) (nodes n b.body))) (listed (threads_of b.body))
        (listed (threads_of b.body))
        (block_count (bodies (suc number)) b) refl inner.0 in
        let of_body : R (numbering m body) (listed (threads_of b.body)) =
        rel.on (numbering m body) (numbering m block) (listed (threads_of b.body)) (known.1.0 k known.0) of_block in
        let start = once (nat_eq number m) in
        let one : numbering m (events_of (bodies k) (node.ThreadNew (nodes n args) number at)) ≡ start + numbering m (given ++ inside around.Thread at body) =
        ap (numbering m) (part.events-thread_new (bodies k) (nodes n args) number at) in (
          by_equal (numbering m (events_of (bodies k) (node.ThreadNew (nodes n args) number at))) (numbering m given + (start + numbering m body))
              (listed (threads_of args ++ own b ∷ threads_of b.body)) (listed (threads_of args) + (start + listed (threads_of b.body)))
              (omega (arith, one, numbering_append m given (inside around.Thread at body), inside_numbering m around.Thread at body))
              (listed_append (threads_of args) (own b ∷ threads_of b.body))
              (rel.plus (numbering m given) (listed (threads_of args)) (start + numbering m body) (start + listed (threads_of b.body)) first.0
              (rel.plus start start (numbering m body) (listed (threads_of b.body)) (rel.same start) of_body)),
          each_append Inner (threads_of args) (own b ∷ threads_of b.body) first.1 ((threads_of b.body, (known.1.1, of_block)), inner.1),
        )

    -- ---- one tree, and two

    one_numbered : (made : Tree) (a : Tree) → IsNumbered a → made.threads ≡ threads_of (a ∷ [])
        → ((k : ℕ) → numbering m (events_of (bodies k) (made.node n)) ≡ numbering m (events_of (bodies k) (a.node n))) → IsNumbered made
    one_numbered made a g same is =
        branch_numbered made (a ∷ []) (g, tt) same (λ k. is k ∙ sym (nothing_behind m (events_of (bodies k) (a.node n))))

    two_numbered : (made : Tree) (a b : Tree) → IsNumbered a → IsNumbered b → made.threads ≡ threads_of (a ∷ b ∷ [])
        → ((k : ℕ) → numbering m (events_of (bodies k) (made.node n)) ≡ numbering m (events_of (bodies k) (a.node n)) + numbering m
        (events_of (bodies k) (b.node n)))
        → IsNumbered made
    two_numbered made a b g h same is =
        branch_numbered made (a ∷ b ∷ []) (g, (h, tt)) same
        (λ k.
        let first = events_of (bodies k) (a.node n) in
        let second = events_of (bodies k) (b.node n) in
        omega (arith, is k, numbering_append m first (second ++ []), nothing_behind m second))

    negated_numbered : (at : Span) (a : Tree) → IsNumbered a → IsNumbered (tree.negated at a)
    negated_numbered at a g = one_numbered (tree.negated at a) a g refl (λ k. ap (numbering m) (part.events-not (bodies k) (a.node n) at))

    return_value_numbered : (at : Span) (a : Tree) → IsNumbered a → IsNumbered (tree.return_value at a)
    return_value_numbered at a g = one_numbered (tree.return_value at a) a g refl (λ k. ap (numbering m) (part.events-return (bodies k) (Some (a.node n)) at))

    and_numbered : (at : Span) (a b : Tree) → IsNumbered a → IsNumbered b → IsNumbered (tree.and_also at a b)
    and_numbered at a b g h =
        two_numbered (tree.and_also at a b) a b g h refl
        (λ k. ap (numbering m) (part.events-and (bodies k) (a.node n) (b.node n) at) ∙ numbering_append m (events_of (bodies k) (a.node n))
        (events_of (bodies k) (b.node n)))

    or_numbered : (at : Span) (a b : Tree) → IsNumbered a → IsNumbered b → IsNumbered (tree.or_else at a b)
    or_numbered at a b g h =
        two_numbered (tree.or_else at a b) a b g h refl
        (λ k. ap (numbering m) (part.events-or (bodies k) (a.node n) (b.node n) at) ∙ numbering_append m (events_of (bodies k) (a.node n))
        (events_of (bodies k) (b.node n)))

    -- ---- literals

    pieces_count : (b : ℕ → Events) (pieces : List PieceTree)
        → numbering m (pieces_of (map (piece_events b) (map (piece_by n) pieces))) ≡ numbering m (events_of_all b (nodes n (code_of pieces)))
    pieces_count b [] = refl
    pieces_count b (tree.bytes text ∷ more) =
        ap (λ es. numbering m (es ++ pieces_of (map (piece_events b) (map (piece_by n) more)))) (part.piece-text b text) ∙ pieces_count b more
    pieces_count b (tree.code a ∷ more) =
        let rest = pieces_of (map (piece_events b) (map (piece_by n) more)) in
        let one : numbering m (piece_events b (piece_by n (tree.code a)) ++ rest) ≡ numbering m (events_of b (a.node n) ++ rest) =
        ap (λ es. numbering m (es ++ rest)) (part.piece-code b (a.node n)) in
        omega (
          arith,
          one,
          numbering_append m (events_of b (a.node n)) rest,
          pieces_count b more,
          numbering_append m (events_of b (a.node n)) (events_of_all b (nodes n (code_of more))),
        )

    string_numbered : (at : Span) (pieces : List PieceTree) → Each IsNumbered (code_of pieces) → IsNumbered (tree.string at pieces)
    string_numbered at pieces g =
        branch_numbered (tree.string at pieces) (code_of pieces) g refl
        (λ k. ap (numbering m) (part.events-str (bodies k) (map (piece_by n) pieces) at) ∙ pieces_count (bodies k) pieces)

    array_numbered : (at : Span) (items : List Tree) → Each IsNumbered items → IsNumbered (tree.array at items)
    array_numbered at items g =
        branch_numbered (tree.array at items) items g refl (λ k. ap (numbering m) (part.events-array (bodies k) (nodes n items) at))

    abbrev pairs_by : List (Tree × Tree) → List (Node × Node)
    pairs_by = map (λ p. (p.0.node n, p.1.node n))

    pairs_count : (b : ℕ → Events) (pairs : List (Tree × Tree))
        → numbering m (pairs_of (map (pair_parts b) (pairs_by pairs))) ≡ numbering m (events_of_all b (nodes n (flat pairs)))
    pairs_count b [] = refl
    pairs_count b (p ∷ more) =
        let first = events_of b (p.0.node n) in
        let second = events_of b (p.1.node n) in
        let rest = pairs_of (map (pair_parts b) (pairs_by more)) in
        let other = events_of_all b (nodes n (flat more)) in
        omega (
          arith,
          numbering_append m (first ++ second) rest,
          numbering_append m first second,
          pairs_count b more,
          numbering_append m first (second ++ other),
          numbering_append m second other,
        )

    hash_numbered : (at : Span) (pairs : List (Tree × Tree)) → Each IsNumbered (flat pairs) → IsNumbered (tree.hash at pairs)
    hash_numbered at pairs g =
        branch_numbered (tree.hash at pairs) (flat pairs) g refl
        (λ k. ap (numbering m) (part.events-hash (bodies k) (pairs_by pairs) at) ∙ pairs_count (bodies k) pairs)

    -- ---- control

    ordered_count : (k : ℕ) (at : Span) (c : Tree) (xs : List Tree)
        → numbering m (in_order at (events_of (bodies k) (c.node n)) (map (part_of (bodies k)) (nodes n xs)))
        ≡ numbering m (events_of (bodies k) (c.node n)) + numbering m (events_of_all (bodies k) (nodes n xs))
    ordered_count k at c xs = order_numbering m _ (events_of (bodies k) (c.node n)) (events_of_all (bodies k) (nodes n xs))

    choice_numbered : (at : Span) (c : Tree) (xs ys : List Tree) → IsNumbered c → Each IsNumbered xs → Each IsNumbered ys → IsNumbered (tree.choice at c xs ys)
    choice_numbered at c xs ys g h i =
        branch_numbered (tree.choice at c xs ys) (c ∷ (xs ++ ys)) (g, each_append IsNumbered xs ys h i) refl
        (λ k.
        let condition = events_of (bodies k) (c.node n) in
        let ordered = in_order at condition (map (part_of (bodies k)) (nodes n xs)) in
        let second = events_of_all (bodies k) (nodes n ys) in
        let one : numbering m (events_of (bodies k) (node.If (c.node n) (nodes n xs) (nodes n ys) at)) ≡ numbering m (ordered ++ second) =
        ap (numbering m) (part.events-if (bodies k) (c.node n) (nodes n xs) (nodes n ys) at) in
        omega (
          arith,
          one,
          numbering_append m ordered second,
          ordered_count k at c xs,
          all_both (bodies k) xs ys,
          numbering_append m condition (events_of_all (bodies k) (nodes n (xs ++ ys))),
        ))

    loop_numbered : (at : Span) (c : Tree) (xs : List Tree) → IsNumbered c → Each IsNumbered xs → IsNumbered (tree.loop at c xs)
    loop_numbered at c xs g h =
        branch_numbered (tree.loop at c xs) (c ∷ xs) (g, h) refl
        (λ k.
        let condition = events_of (bodies k) (c.node n) in
        let ordered = in_order at condition (map (part_of (bodies k)) (nodes n xs)) in
        let one : numbering m (events_of (bodies k) (node.While (c.node n) (nodes n xs) at)) ≡ numbering m (inside around.Loop at ordered) =
        ap (numbering m) (part.events-while (bodies k) (c.node n) (nodes n xs) at) in
        omega (
          arith,
          one,
          inside_numbering m around.Loop at ordered,
          ordered_count k at c xs,
          numbering_append m condition (events_of_all (bodies k) (nodes n xs)),
        ))

    choice_behind_numbered : (at : Span) (b c : Tree) → IsNumbered b → IsNumbered c → IsNumbered (tree.choice_behind at b c)
    choice_behind_numbered at b c g h =
        two_numbered (tree.choice_behind at b c) b c g h refl
        (λ k.
        let condition = events_of (bodies k) (c.node n) in
        let ordered = in_order at condition (map (part_of (bodies k)) (nodes n (b ∷ []))) in
        let one : numbering m (events_of (bodies k) (node.If (c.node n) (b.node n ∷ []) [] at)) ≡ numbering m (ordered ++ []) =
        ap (numbering m) (part.events-if (bodies k) (c.node n) (b.node n ∷ []) [] at) in
        omega (arith, one, nothing_behind m ordered, ordered_count k at c (b ∷ []), nothing_behind m (events_of (bodies k) (b.node n))))

    loop_behind_numbered : (at : Span) (b c : Tree) → IsNumbered b → IsNumbered c → IsNumbered (tree.loop_behind at b c)
    loop_behind_numbered at b c g h =
        two_numbered (tree.loop_behind at b c) b c g h refl
        (λ k.
        let condition = events_of (bodies k) (c.node n) in
        let ordered = in_order at condition (map (part_of (bodies k)) (nodes n (b ∷ []))) in
        let one : numbering m (events_of (bodies k) (node.While (c.node n) (b.node n ∷ []) at)) ≡ numbering m (inside around.Loop at ordered) =
        ap (numbering m) (part.events-while (bodies k) (c.node n) (b.node n ∷ []) at) in
        omega (arith, one, inside_numbering m around.Loop at ordered, ordered_count k at c (b ∷ []), nothing_behind m (events_of (bodies k) (b.node n))))

    -- ---- assignments

    store_count : (made : Tree) (r : Tree) (id : NameId) (args : List Tree) (at : Span) → made.node n ≡ node.Store (r.node n) id (nodes n args) at
        → (k : ℕ) → numbering m (events_of (bodies k) (made.node n)) ≡ numbering m (events_of_all (bodies k) (nodes n (r ∷ args)))
    store_count made r id args at is k = ap (numbering m) (ap (λ x. events_of (bodies k) x) is ∙ part.events-store (bodies k) (r.node n) id (nodes n args) at)

    assigned_numbered : (t : TargetTree) (at : Span) (a : Tree) → TargetHas IsNumbered t → IsNumbered a → IsNumbered (tree.assigned t at a)
    assigned_numbered (tree.to_local w) at a e g =
        one_numbered (tree.assigned (tree.to_local w) at a) a g refl
        (λ k. ap (numbering m) (part.events-set_local (bodies k) (n.name w.text) (a.node n) at) ∙ inside_numbering m
        (around.Value (n.name w.text)) at (events_of (bodies k) (a.node n)))
    assigned_numbered (tree.to_field w) at a e g =
        one_numbered (tree.assigned (tree.to_field w) at a) a g refl (λ k. ap (numbering m) (part.events-set_field (bodies k) (n.name w.text) (a.node n) at))
    assigned_numbered (tree.to_global w) at a e g =
        one_numbered (tree.assigned (tree.to_global w) at a) a g refl (λ k. ap (numbering m) (part.events-set_global (bodies k) (n.name w.text) (a.node n) at))
    assigned_numbered (tree.to_index r j bracket) at a e g =
        branch_numbered (tree.assigned (tree.to_index r j bracket) at a) (r ∷ j ∷ a ∷ []) (e.0, (e.1, (g, tt))) refl
        (store_count (tree.assigned (tree.to_index r j bracket) at a) r (n.name tree.store_name) (j ∷ a ∷ []) at refl)
    assigned_numbered (tree.to_attribute r w) at a e g =
        branch_numbered (tree.assigned (tree.to_attribute r w) at a) (r ∷ a ∷ []) (e, (g, tt)) refl
        (store_count (tree.assigned (tree.to_attribute r w) at a) r (n.name (tree.setter_of w.text)) (a ∷ []) at refl)

    operated_numbered : (t : TargetTree) (op : AssignOp) (at : Span) (a : Tree) → TargetHas IsNumbered t → IsNumbered a → IsNumbered (tree.operated t op at a)
    operated_numbered (tree.to_local w) op at a e g =
        one_numbered (tree.operated (tree.to_local w) op at a) a g refl
        (λ k.
        ap (numbering m) (part.events-op_assign (bodies k) (target.Local (n.name w.text)) op (a.node n) at
        ∙ part.target-local (bodies k) (n.name w.text) at (events_of (bodies k) (a.node n)))
        ∙ inside_numbering m (around.Value (n.name w.text)) at (events_of (bodies k) (a.node n)))
    operated_numbered (tree.to_field w) op at a e g =
        one_numbered (tree.operated (tree.to_field w) op at a) a g refl
        (λ k.
        ap (numbering m) (part.events-op_assign (bodies k) (target.Field (n.name w.text)) op (a.node n) at
        ∙ part.target-field (bodies k) (n.name w.text) at (events_of (bodies k) (a.node n))))
    operated_numbered (tree.to_global w) op at a e g =
        one_numbered (tree.operated (tree.to_global w) op at a) a g refl
        (λ k.
        ap (numbering m) (part.events-op_assign (bodies k) (target.Global (n.name w.text)) op (a.node n) at
        ∙ part.target-global (bodies k) (n.name w.text) at (events_of (bodies k) (a.node n))))
    operated_numbered (tree.to_index r j bracket) op at a e g =
        branch_numbered (tree.operated (tree.to_index r j bracket) op at a) (r ∷ j ∷ a ∷ []) (e.0, (e.1, (g, tt))) refl
        (λ k.
        let first = events_of (bodies k) (r.node n) in
        let second = events_of (bodies k) (j.node n) in
        let value = events_of (bodies k) (a.node n) in
        let one : numbering m (events_of (bodies k) (node.OpAssign (target.Index (r.node n) (j.node n)) op (a.node n) at)) ≡ numbering m
        (first ++ (second ++ value)) =
        ap (numbering m) (part.events-op_assign (bodies k) (target.Index (r.node n) (j.node n)) op (a.node n) at
        ∙ part.target-index (bodies k) (r.node n) (j.node n) at value) in
        omega (
          arith,
          one,
          numbering_append m first (second ++ value),
          numbering_append m second value,
          numbering_append m first (second ++ (value ++ [])),
          numbering_append m second (value ++ []),
          nothing_behind m value,
        ))
    operated_numbered (tree.to_attribute r w) op at a e g =
        two_numbered (tree.operated (tree.to_attribute r w) op at a) r a e g refl
        (λ k.
        let first = events_of (bodies k) (r.node n) in
        let value = events_of (bodies k) (a.node n) in
        ap (numbering m) (part.events-op_assign (bodies k) (target.Attribute (r.node n) (n.name w.text)) op (a.node n) at
        ∙ part.target-attribute (bodies k) (r.node n) (n.name w.text) at value) ∙ numbering_append m first value)

    -- ---- methods, classes and items

    abbrev pub MembersNumbered : Members → Type 0
    MembersNumbered x = CountsFrom 0 x.threads → R (numbering m (joined (texts_of n bodies x.methods))) (listed x.threads) × Each Inner x.threads

    abbrev pub items_count : Items → ℕ
    items_count i = numbering m (joined (class_texts n bodies i.classes)) +
        (numbering m (joined (texts_of n bodies i.functions)) + numbering m (main_text n bodies i.main))

    abbrev pub ItemsNumbered : Items → Type 0
    ItemsNumbered i = CountsFrom 0 i.threads → R (items_count i) (listed i.threads) × Each Inner i.threads

    texts_both : (fs gs : List MethodTree)
        → numbering m (joined (texts_of n bodies (fs ++ gs))) ≡ numbering m (joined (texts_of n bodies fs)) + numbering m (joined (texts_of n bodies gs))
    texts_both fs gs = ap (λ ts. numbering m (joined ts)) (map-append (method_text n bodies) fs gs) ∙ joined_numbering m (texts_of n bodies fs)
        (texts_of n bodies gs)

    method_count : (f : MethodTree) → numbering m (joined (texts_of n bodies (f ∷ []))) ≡ numbering m (events_of_all (bodies 0) (nodes n f.body))
    method_count f = nothing_behind m (method_text n bodies f) ∙ params_numbering m (params_by n f.params) (events_of_all (bodies 0) (nodes n f.body))

    -- what was counted, and one more
    counted : (whole one more : ℕ) (xs ys : List Thread) → whole ≡ one + more → R one (listed xs) → R more (listed ys) → R whole (listed (xs ++ ys))
    counted whole one more xs ys e r s =
        by_equal whole (one + more) (listed (xs ++ ys)) (listed xs + listed ys) e (listed_append xs ys) (rel.plus one (listed xs) more (listed ys) r s)

    with_method_numbered : (x : Members) (f : MethodTree) → MembersNumbered x → Each IsNumbered f.body → MembersNumbered (tree.with_method x f)
    with_method_numbered x f g h = λ r.
        let before = g (counts_left 0 x.threads (threads_of f.body) r) in
        let body = trees_numbered f.body h 0 (counts_right 0 x.threads (threads_of f.body) r) in (
          counted _ (numbering m (joined (texts_of n bodies x.methods))) (numbering m (events_of_all (bodies 0) (nodes n f.body))) x.threads (threads_of f.body)
              (texts_both x.methods (f ∷ []) ∙ ap (λ c. numbering m (joined (texts_of n bodies x.methods)) + c) (method_count f)) before.0 body.0,
          each_append Inner x.threads (threads_of f.body) before.1 body.1,
        )

    -- methods of `attr` lines start nothing
    reader_count : (w : Word) → numbering m (method_text n bodies (tree.reader_of w)) ≡ 0
    reader_count w = ap (λ es. numbering m (es ++ [])) (part.events-field (bodies 0) (n.name (tree.field_of w.text)) w.at)

    writer_count : (w : Word) → numbering m (method_text n bodies (tree.writer_of w)) ≡ 0
    writer_count w =
        let v = n.name (codes "v") in
        ap (λ es. numbering m (alone (sight.Param v) w.at ++ (es ++ [])))
        (part.events-set_field (bodies 0) (n.name (tree.field_of w.text)) (node.Local v w.at) w.at
        ∙ ap (λ es. alone (sight.Field (n.name (tree.field_of w.text))) w.at ++ es) (part.events-local (bodies 0) v w.at))

    attributes_count : (reads writes : Bool) (w : Word)
        → numbering m (joined (texts_of n bodies (if reads then tree.reader_of w ∷ [] else if writes then tree.writer_of w ∷ [] else tree.reader_of w ∷ tree.writer_of w ∷ []))) ≡ 0
    attributes_count true writes w = nothing_behind m (method_text n bodies (tree.reader_of w)) ∙ reader_count w
    attributes_count false true w = nothing_behind m (method_text n bodies (tree.writer_of w)) ∙ writer_count w
    attributes_count false false w =
        let reader = method_text n bodies (tree.reader_of w) in
        let writer = method_text n bodies (tree.writer_of w) in
        omega (arith, numbering_append m reader (writer ++ []), nothing_behind m writer, reader_count w, writer_count w)

    with_attributes_numbered : (x : Members) (kind : Text) (ws : List Word) → MembersNumbered x → MembersNumbered (tree.with_attributes x kind ws)
    with_attributes_numbered x kind [] g = g
    with_attributes_numbered x kind (w ∷ ws) g =
        with_attributes_numbered
        (record { methods = x.methods ++ tree.attribute_methods kind w; names = x.names ++ tree.attribute_names kind w; threads = x.threads }) kind ws
        (λ r.
        let before = g r in
        let more = attributes_count (bytes_eq kind (codes "attr_reader")) (bytes_eq kind (codes "attr_writer")) w in
        let count = numbering m (joined (texts_of n bodies x.methods)) in
        let whole : numbering m (joined (texts_of n bodies (x.methods ++ tree.attribute_methods kind w))) ≡ count =
        omega (arith, texts_both x.methods (tree.attribute_methods kind w), more) in
        (subst (λ c. R c (listed x.threads)) (sym whole) before.0, before.1))

    with_class_numbered : (i : Items) (c : ClassTree) → ItemsNumbered i → MembersNumbered c.members → ItemsNumbered (tree.with_class i c)
    with_class_numbered i c g h = λ r.
        let before = g (counts_left 0 i.threads c.members.threads r) in
        let body = h (counts_right 0 i.threads c.members.threads r) in
        let split =
        ap (λ ts. numbering m (joined ts)) (flat_map-append (λ (k : ClassTree). texts_of n bodies k.members.methods) i.classes (c ∷ []))
        ∙ joined_numbering m (class_texts n bodies i.classes) (class_texts n bodies (c ∷ [])) in
        let last = joined_numbering m (texts_of n bodies c.members.methods) [] in (
          counted _ (items_count i) (numbering m (joined (texts_of n bodies c.members.methods))) i.threads c.members.threads
              (omega (arith, split, last)) before.0 body.0,
          each_append Inner i.threads c.members.threads before.1 body.1,
        )

    with_function_numbered : (i : Items) (f : MethodTree) → ItemsNumbered i → Each IsNumbered f.body → ItemsNumbered (tree.with_function i f)
    with_function_numbered i f g h = λ r.
        let before = g (counts_left 0 i.threads (threads_of f.body) r) in
        let body = trees_numbered f.body h 0 (counts_right 0 i.threads (threads_of f.body) r) in (
          counted _ (items_count i) (numbering m (events_of_all (bodies 0) (nodes n f.body))) i.threads (threads_of f.body)
              (omega (arith, texts_both i.functions (f ∷ []), method_count f)) before.0 body.0,
          each_append Inner i.threads (threads_of f.body) before.1 body.1,
        )

    with_statement_numbered : (i : Items) (a : Tree) → ItemsNumbered i → IsNumbered a → ItemsNumbered (tree.with_statement i a)
    with_statement_numbered i a g h = λ r.
        let before = g (counts_left 0 i.threads a.threads r) in
        let body = h 0 (counts_right 0 i.threads a.threads r) in (
          counted _ (items_count i) (numbering m (events_of (bodies 0) (a.node n))) i.threads a.threads
              (omega (arith, all_both (bodies 0) i.main (a ∷ []), nothing_behind m (events_of (bodies 0) (a.node n)))) before.0 body.0,
          each_append Inner i.threads a.threads before.1 body.1,
        )

    -- each making keeps the count
    pub numbers_are_kept : IsKept IsNumbered MembersNumbered ItemsNumbered
    numbers_are_kept = record {
      of_local = λ w. leaf_numbered (tree.local w) refl (λ k. ap (numbering m) (part.events-local (bodies k) (n.name w.text) w.at));
      of_field = λ w. leaf_numbered (tree.field w) refl (λ k. ap (numbering m) (part.events-field (bodies k) (n.name w.text) w.at));
      of_global = λ w. leaf_numbered (tree.global w) refl (λ k. ap (numbering m) (part.events-global (bodies k) (n.name w.text) w.at));
      of_symbol = λ w. leaf_numbered (tree.symbol w) refl (λ k. ap (numbering m) (part.events-sym (bodies k) (n.name w.text) w.at));
      of_integer = λ value at. leaf_numbered (tree.integer value at) refl (λ k. ap (numbering m) (part.events-int (bodies k) value at));
      of_nil = λ at. leaf_numbered (tree.constant node.Nil at) refl (λ k. ap (numbering m) (part.events-nil (bodies k) at));
      of_true = λ at. leaf_numbered (tree.constant node.True at) refl (λ k. ap (numbering m) (part.events-true (bodies k) at));
      of_false = λ at. leaf_numbered (tree.constant node.False at) refl (λ k. ap (numbering m) (part.events-false (bodies k) at));
      of_self = λ at. leaf_numbered (tree.constant node.SelfRef at) refl (λ k. ap (numbering m) (part.events-self_ref (bodies k) at));
      of_break = λ at. leaf_numbered (tree.constant node.Break at) refl (λ k. ap (numbering m) (part.events-break (bodies k) at));
      of_next = λ at. leaf_numbered (tree.constant node.Next at) refl (λ k. ap (numbering m) (part.events-next (bodies k) at));
      of_call = call_numbered;
      of_member = member_numbered;
      of_block_call = block_call_numbered;
      of_binary = binary_numbered;
      of_negated = negated_numbered;
      of_minus = minus_numbered;
      of_and = and_numbered;
      of_or = or_numbered;
      of_new = λ class at args is g. new_numbered class at args g;
      of_thread = thread_numbered;
      of_string = string_numbered;
      of_array = array_numbered;
      of_hash = hash_numbered;
      of_choice = choice_numbered;
      of_loop = loop_numbered;
      of_choice_behind = choice_behind_numbered;
      of_loop_behind = loop_behind_numbered;
      of_return = λ at. leaf_numbered (tree.return_nothing at) refl (λ k. ap (numbering m) (part.events-return (bodies k) None at));
      of_return_value = return_value_numbered;
      of_assigned = assigned_numbered;
      of_operated = operated_numbered;
      no_members = λ r. (rel.same 0, tt);
      with_method = with_method_numbered;
      with_attributes = with_attributes_numbered;
      no_items = λ r. (rel.same 0, tt);
      with_class = with_class_numbered;
      with_function = with_function_numbered;
      with_statement = with_statement_numbered;
    }
