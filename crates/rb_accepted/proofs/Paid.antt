-- A token opens one block at the most: what the blocks of the threads of a script cost is no more than what its tokens cost, whatever each place costs.
use Rattle.std.proofs.Common.{◌≡◌, refl, ◌∙◌, ℕ, zero, suc, ◌+◌, ◌-◌, ◌≤◌, Bool, List, [], ◌∷◌, ◌++◌, Option, Some, None, arith}
use Rattle.std.specs.Prelude.{codes}
use Rattle.rb_tree.specs.declared.span.Span.{Span}
use Rattle.rb_tree.specs.declared.node.AssignOp.{AssignOp}
use Rattle.rb_lexer.specs.declared.token.Token.{Token}
use Rattle.rb_grammar.specs.Look.{class_of, if_word}
use Rattle.rb_grammar.specs.Tree.{Text, Word, Thread, Tree, BlockTree, PieceTree, TargetTree, Members, Items, threads_of, code_of, flat}
use Rattle.rb_grammar.specs.Tree as tree
use Rattle.rb_grammar.specs.Scope.{Scope, top_level}
use Rattle.rb_grammar.specs.Phrase.{Operand, Head, Part, Tier, Phrase, Value}
use Rattle.rb_grammar.specs.Phrase.{or_tier, and_tier, equal_tier, less_tier, shift_tier, sum_tier, product_tier, unary_tier}
use Rattle.rb_grammar.specs.Phrase as p
use Rattle.rb_grammar.specs.Rule.{Rule, done, refuse, token, phrase, nested, built, either, look, pick, known, touching, ahead, scope, Spelling, Spells}
use Rattle.rb_grammar.specs.Rule as l
use Rattle.rb_grammar.specs.Grammar.{rule, spelled, text_of, word_of, tree_of, operand, made, unless_head, target_of, operator_name, joined}
use Rattle.rb_grammar.specs.Grammar.{chained, operator_of, assigning, decided, modify, with_block, going_on, plain_member}
use Rattle.rb_grammar.specs.Grammar.{called, called_with, thread, object, command_of, commanded, is_one, chosen, looped}
use Rattle.rb_grammar.specs.Script.{IsScript}

module _ (cost : Span → ℕ) where
  -- what tokens cost, and what the blocks of threads do
  abbrev pub price : List Token → ℕ
  price [] = 0
  price (t ∷ ts) = cost t.at + price ts

  abbrev pub load : List Thread → ℕ
  load [] = 0
  load (t ∷ ts) = cost t.at + load ts

  abbrev loads : List Tree → ℕ
  loads xs = load (threads_of xs)

  abbrev load_of : Tree → ℕ
  load_of a = load a.threads

  load-append : (xs ys : List Thread) → load (xs ++ ys) ≡ load xs + load ys
  load-append [] ys = omega arith
  load-append (x ∷ xs) ys = omega (arith, load-append xs ys)

  loads-append : (xs ys : List Tree) → loads (xs ++ ys) ≡ loads xs + loads ys
  loads-append [] ys = omega arith
  loads-append (x ∷ xs) ys = omega (arith, loads-append xs ys, load-append x.threads (threads_of xs), load-append x.threads (threads_of (xs ++ ys)))

  -- of one tree, of two and of one more
  load_one : (a : Tree) → loads (a ∷ []) ≡ load_of a
  load_one a = omega (arith, load-append a.threads [])

  load_two : (a b : Tree) → loads (a ∷ b ∷ []) ≡ load_of a + load_of b
  load_two a b = omega (arith, load-append a.threads (threads_of (b ∷ [])), load_one b)

  load_more : (found : List Tree) (a : Tree) → loads (found ++ a ∷ []) ≡ loads found + load_of a
  load_more found a = omega (arith, loads-append found (a ∷ []), load_one a)

  load_next : (a : Tree) (xs : List Tree) → loads (a ∷ xs) ≡ load_of a + loads xs
  load_next a xs = load-append a.threads (threads_of xs)

  load_three : (a : Tree) (xs ys : List Tree) → loads (a ∷ (xs ++ ys)) ≡ load_of a + (loads xs + loads ys)
  load_three a xs ys = omega (arith, load_next a (xs ++ ys), loads-append xs ys)

  pieces_code : (found : List PieceTree) (a : Tree) → loads (code_of (found ++ tree.code a ∷ [])) ≡ loads (code_of found) + load_of a
  pieces_code [] a = omega (arith, load_one a)
  pieces_code (tree.bytes text ∷ more) a = pieces_code more a
  pieces_code (tree.code b ∷ more) a = omega (arith, load_next b (code_of more), load_next b (code_of (more ++ tree.code a ∷ [])), pieces_code more a)

  pieces_text : (found : List PieceTree) (text : Text) → loads (code_of (found ++ tree.bytes text ∷ [])) ≡ loads (code_of found)
  pieces_text [] text = refl
  pieces_text (tree.bytes other ∷ more) text = pieces_text more text
  pieces_text (tree.code b ∷ more) text = omega (arith, load_next b (code_of more), load_next b (code_of (more ++ tree.bytes text ∷ [])), pieces_text more text)

  pairs_next : (a b : Tree) (more : List (Tree × Tree)) → loads (flat ((a, b) ∷ more)) ≡ load_of a + (load_of b + loads (flat more))
  pairs_next a b more = omega (arith, load_next a (b ∷ flat more), load_next b (flat more))

  pairs_more : (found : List (Tree × Tree)) (ab : Tree × Tree) → loads (flat (found ++ ab ∷ [])) ≡ loads (flat found) + (load_of ab.0 + load_of ab.1)
  pairs_more [] ab = omega (arith, pairs_next ab.0 ab.1 [])
  pairs_more (p ∷ more) ab = omega (arith, pairs_next p.0 p.1 more, pairs_next p.0 p.1 (more ++ ab ∷ []), pairs_more more ab)

  -- ---- what each phrase costs

  abbrev operand_load : Operand → ℕ
  operand_load (p.value a) = load_of a
  operand_load (p.indexed a j at) = load_of a + load_of j
  operand_load (p.member a w) = load_of a
  operand_load name = 0

  abbrev head_load : Head → ℕ
  head_load (p.of_call (Some a) w) = load_of a
  head_load (p.of_call None w) = 0
  head_load (p.of_new class at) = 0

  abbrev part_load : Part → ℕ
  part_load (p.plain o) = operand_load o
  part_load (p.head h) = head_load h

  abbrev target_load : Option TargetTree → ℕ
  target_load (Some (tree.to_index r j bracket)) = load_of r + load_of j
  target_load (Some (tree.to_attribute r w)) = load_of r
  target_load other = 0

  abbrev weight : (n : Phrase) → Value n → ℕ
  weight (p.items found) v = load v.threads
  weight (p.items_rest found) v = load v.threads
  weight p.class_rest v = load v.members.threads
  weight (p.members_rest found) v = load v.threads
  weight p.symbols v = 0
  weight (p.symbols_rest found) v = 0
  weight p.method_rest v = loads v.body
  weight p.params v = 0
  weight p.one_param v = 0
  weight (p.params_rest found) v = 0
  weight (p.method_body name words) v = loads v.body
  weight (p.body found) v = loads v
  weight (p.body_rest found) v = loads v
  weight p.statement v = load_of v
  weight p.simple v = load_of v
  weight (p.modified a) v = load_of v
  weight (p.expression d) v = load_of v
  weight (p.assignment d) v = part_load v
  weight (p.argument d) v = load_of v
  weight (p.ternary d) v = part_load v
  weight (p.unary d) v = part_load v
  weight (p.postfix d) v = part_load v
  weight (p.primary d) v = part_load v
  weight (p.assignment_rest d part) v = part_load v
  weight (p.ternary_rest d part) v = part_load v
  weight (p.postfix_rest d part) v = part_load v
  weight (p.branches d) v = load_of v.0 + load_of v.1
  weight (p.chain d tier) v = part_load v
  weight (p.chain_rest d tier part) v = part_load v
  weight p.command_arguments v = loads v
  weight p.arguments v = loads v
  weight (p.command_arguments_rest found) v = loads v
  weight (p.arguments_rest found) v = loads v
  weight p.index_rest v = load_of v
  weight p.group_rest v = load_of v
  weight p.code_rest v = load_of v
  weight p.array_rest v = loads v
  weight (p.array_items_rest found) v = loads v
  weight p.hash_rest v = loads (flat v)
  weight p.pair v = load_of v.0 + load_of v.1
  weight (p.pairs_rest found) v = loads (flat v)
  weight (p.conditional word) v = load_of v
  weight (p.loop_rest word) v = load_of v
  weight p.then v = 0
  weight (p.otherwise may_go_on) v = loads v
  weight (p.text_rest found) v = loads (code_of v)
  weight (p.block_rest in_braces at) v = cost v.at + loads v.body
  weight (p.bar_params_rest found) v = 0
  weight (p.block_body in_braces at words) v = cost v.at + loads v.body

  -- what it goes on behind costs
  abbrev given : Phrase → ℕ
  given (p.items found) = load found.threads
  given (p.items_rest found) = load found.threads
  given (p.members_rest found) = load found.threads
  given (p.body found) = loads found
  given (p.body_rest found) = loads found
  given (p.modified a) = load_of a
  given (p.assignment_rest d part) = part_load part
  given (p.ternary_rest d part) = part_load part
  given (p.postfix_rest d part) = part_load part
  given (p.chain_rest d tier part) = part_load part
  given (p.command_arguments_rest found) = loads found
  given (p.arguments_rest found) = loads found
  given (p.array_items_rest found) = loads found
  given (p.pairs_rest found) = loads (flat found)
  given (p.text_rest found) = loads (code_of found)
  given (p.block_rest in_braces at) = cost at
  given (p.block_body in_braces at words) = cost at
  given other = 0

  -- What a rule stands for weighs no more than what is paid: what was paid before, and the tokens that the rule takes.
  abbrev Pays : {A : Type 0} → Rule A → (A → ℕ) → ℕ → Type 0
  Pays (done a) W g = W a ≤ g
  Pays refuse W g = Unit {0}
  Pays (token test k) W g = (t : Token) → Pays (k t) W (cost t.at + g)
  Pays (phrase n k) W g = (given n ≤ g) × ((v : Value n) (h : ℕ) → h + given n ≡ g + weight n v → Pays (k v) W h)
  Pays (nested at n k) W g = (given n ≤ g) × ((v : Value n) (h : ℕ) → h + given n ≡ g + weight n v → Pays (k v) W h)
  Pays (built a rule) W g = Pays rule W g
  Pays (either one other) W g = Pays one W g × Pays other W g
  Pays (look test rule) W g = Pays rule W g
  Pays (pick b one other) W g = Pays one W g × Pays other W g
  Pays (known text one other) W g = Pays one W g × Pays other W g
  Pays (touching place one other) W g = Pays one W g × Pays other W g
  Pays (ahead one other) W g = Pays one W g × Pays other W g
  Pays (scope f rule) W g = Pays rule W g

  module _ (limit : ℕ) (inner : ℕ → Spelling)
      (sound : (levels : ℕ) (n : Phrase) (s : Scope) (ts : List Token) (v : Value n) (s' : Scope) (us : List Token)
      → inner levels n s ts v s' us → weight n v + price us ≤ given n + price ts)
      (levels : ℕ) where
    -- what is paid behind a phrase
    over : (n : Phrase) (v : Value n) (g before behind rest whole : ℕ) → given n ≤ g → weight n v + behind ≤ given n + before
        → ((h : ℕ) → h + given n ≡ g + weight n v → whole + rest ≤ h + behind) → whole + rest ≤ g + before
    over n v g before behind rest whole l e k =
        let paid : whole + rest ≤ ((g - given n) + weight n v) + behind = k ((g - given n) + weight n v) (omega arith) in
        omega arith

    spells_pays : {A : Type 0} (W : A → ℕ) {r : Rule A} {s : Scope} {ts : List Token} {a : A} {s' : Scope} {us : List Token}
        → Spells limit inner levels r s ts a s' us → (g : ℕ) → Pays r W g → W a + price us ≤ g + price ts
    spells_pays W l.stops g e = omega arith
    spells_pays W (l.takes {t = t} {ts = ts} {us = us} {a = a} met d) g e =
        let more : W a + price us ≤ (cost t.at + g) + price ts = spells_pays W d (cost t.at + g) (e t) in omega arith
    spells_pays W (l.holds {n = n} {ts = ts} {us = us} {vs = vs} {v = v} {a = a} i d) g e =
        over n v g (price ts) (price us) (price vs) (W a) e.0 (sound levels n _ _ v _ _ i) (λ h x. spells_pays W d h (e.1 v h x))
    spells_pays W (l.opens {n = n} {ts = ts} {us = us} {vs = vs} {v = v} {a = a} {left = left} is i d) g e =
        over n v g (price ts) (price us) (price vs) (W a) e.0 (sound left n _ _ v _ _ i) (λ h x. spells_pays W d h (e.1 v h x))
    spells_pays W (l.builds low d) g e = spells_pays W d g e
    spells_pays W (l.first d) g e = spells_pays W d g e.0
    spells_pays W (l.second d) g e = spells_pays W d g e.1
    spells_pays W (l.looks met d) g e = spells_pays W d g e
    spells_pays W (l.picks d) g e = spells_pays W d g e.0
    spells_pays W (l.picks_not d) g e = spells_pays W d g e.1
    spells_pays W (l.knows is d) g e = spells_pays W d g e.0
    spells_pays W (l.touches is d) g e = spells_pays W d g e.0
    spells_pays W (l.knows_not is d) g e = spells_pays W d g e.1
    spells_pays W (l.touches_not is d) g e = spells_pays W d g e.1
    spells_pays W (l.commands follow d) g e = spells_pays W d g e.0
    spells_pays W (l.commands_not follow d) g e = spells_pays W d g e.1
    spells_pays W (l.changes d) g e = spells_pays W d g e

  -- ---- operands

  tree_load : (o : Operand) → load_of (tree_of o) ≡ operand_load o
  tree_load (p.value a) = refl
  tree_load (p.variable w) = refl
  tree_load (p.bare w) = refl
  tree_load (p.of_field w) = refl
  tree_load (p.of_global w) = refl
  tree_load (p.indexed a j at) = load_two a j
  tree_load (p.member a w) = load_one a

  pays_operand : {A : Type 0} (W : A → ℕ) (part : Part) (k : Tree → Rule A) (g : ℕ) → ((a : Tree) → load_of a ≡ part_load part → Pays (k a) W g)
      → Pays (operand part k) W g
  pays_operand W (p.plain o) k g h = h (tree_of o) (tree_load o)
  pays_operand W (p.head head) k g h = tt

  pays_unless_head : (part : Part) (r : Rule Part) (g : ℕ) → part_load part ≤ g → Pays r part_load g → Pays (unless_head part r) part_load g
  pays_unless_head (p.plain o) r g f h = h
  pays_unless_head (p.head head) r g f h = f

  same_target : (part : Part) → target_load (target_of part) ≤ part_load part
  same_target (p.plain (p.value a)) = omega arith
  same_target (p.plain (p.variable w)) = omega arith
  same_target (p.plain (p.bare w)) = omega arith
  same_target (p.plain (p.of_field w)) = omega arith
  same_target (p.plain (p.of_global w)) = omega arith
  same_target (p.plain (p.indexed a j at)) = omega arith
  same_target (p.plain (p.member a w)) = omega arith
  same_target (p.head h) = omega arith

  assigned_load : (t : TargetTree) (at : Span) (a : Tree) → load_of (tree.assigned t at a) ≡ target_load (Some t) + load_of a
  assigned_load (tree.to_local w) at a = omega (arith, load_one a)
  assigned_load (tree.to_field w) at a = omega (arith, load_one a)
  assigned_load (tree.to_global w) at a = omega (arith, load_one a)
  assigned_load (tree.to_index r j bracket) at a = omega (arith, load_next r (j ∷ a ∷ []), load_two j a)
  assigned_load (tree.to_attribute r w) at a = load_two r a

  operated_load : (t : TargetTree) (o : AssignOp) (at : Span) (a : Tree) → load_of (tree.operated t o at a) ≡ target_load (Some t) + load_of a
  operated_load (tree.to_local w) o at a = omega (arith, load_one a)
  operated_load (tree.to_field w) o at a = omega (arith, load_one a)
  operated_load (tree.to_global w) o at a = omega (arith, load_one a)
  operated_load (tree.to_index r j bracket) o at a = omega (arith, load_next r (j ∷ a ∷ []), load_two j a)
  operated_load (tree.to_attribute r w) o at a = load_two r a

  pays_assigning : (d : Bool) (part : Part) (target : Option TargetTree) (g : ℕ) → target_load target ≤ part_load part → part_load part ≤ g
      → Pays (assigning d part target) part_load g
  pays_assigning d part None g e f = f
  pays_assigning d part (Some target) g e f = (
    λ t. (
      omega arith,
      λ a h x. (
        omega (arith, assigned_load target t.at a),
        omega (arith, operated_load target (operator_of (class_of t.kind)) t.at a),
      ),
    ),
    f,
  )

  -- ---- operators

  pays_joined : {A : Type 0} (W : A → ℕ) (tier : Tier) (t : Token) (a b : Tree) (k : Tree → Rule A) (g : ℕ)
      → ((c : Tree) → load_of c ≡ load_of a + load_of b → Pays (k c) W g) → Pays (joined tier t a b k) W g
  pays_joined W or_tier t a b k g h = h (tree.or_else t.at a b) (load_two a b)
  pays_joined W and_tier t a b k g h = h (tree.and_also t.at a b) (load_two a b)
  pays_joined W equal_tier t a b k g h =
      let equal : Tree = tree.binary (codes "==") t.at a b in
      (h (tree.negated t.at equal) (load_one equal ∙ load_two a b), h equal (load_two a b))
  pays_joined W tier t a b k g h = h (tree.binary (operator_name (class_of t.kind)) t.at a b) (load_two a b)

  pays_chained : (d : Bool) (tier : Tier) (a : Tree) (g : ℕ) → load_of a ≤ g → Pays (chained d tier a) part_load g
  pays_chained d equal_tier a g f = f
  pays_chained d tier a g f = (f, λ v h e. omega arith)

  -- ---- conditions

  pays_decided : {A : Type 0} (W : A → ℕ) (t : Token) (a : Tree) (k : Tree → Rule A) (g : ℕ) → ((c : Tree) → load_of c ≡ load_of a → Pays (k c) W g)
      → Pays (decided t a k) W g
  pays_decided W t a k g h = (h (tree.negated t.at a) (load_one a), h a refl)

  pays_modify : (t : Token) (a condition : Tree) (g : ℕ) → load_of a + load_of condition ≤ g → Pays (modify t a condition) load_of g
  pays_modify t a condition g f = (
    (omega (arith, load_two a condition), λ v h e. omega (arith, load_two a condition)),
    (omega (arith, load_two a condition), λ v h e. omega (arith, load_two a condition)),
  )

  -- ---- blocks and calls

  pays_with_block : {A : Type 0} (W : A → ℕ) (d : Bool) (k : BlockTree → Rule A) (without : Rule A) (g : ℕ)
      → ((b : BlockTree) (h : ℕ) → h ≡ g + (cost b.at + loads b.body) → Pays (k b) W h) → Pays without W g → Pays (with_block d k without) W g
  pays_with_block W d k without g f w =
      (λ t. (omega arith, λ b h e. f b h (omega arith)), (λ t. (omega arith, λ b h e. f b h (omega arith)), w))

  pays_going_on : (d : Bool) (a : Tree) (g : ℕ) → load_of a ≤ g → Pays (going_on d a) part_load g
  pays_going_on d a g f = (f, λ v h e. omega arith)

  pays_plain_member : (d : Bool) (a : Tree) (w : Word) (g : ℕ) → load_of a ≤ g → Pays (plain_member d a w) part_load g
  pays_plain_member d a w g f =
      (f, (pays_going_on d (tree.call (Some a) w []) g (omega (arith, load_one a)), (f, λ v h e. omega arith)))

  pays_called_with : (d : Bool) (a : Tree) (w : Word) (args : List Tree) (g : ℕ) → load_of a + loads args ≤ g
      → Pays (called_with d a w args) part_load g
  pays_called_with d a w args g f =
      let plain = pays_going_on d (tree.call (Some a) w args) g (omega (arith, load_next a args)) in (
        pays_with_block part_load d (λ b. going_on d (tree.call_with_block a w args b)) (going_on d (tree.call (Some a) w args)) g
            (λ b h e. pays_going_on d (tree.call_with_block a w args b) h (omega (arith, load_three a args b.body))) plain,
        plain,
      )

  pays_called : (d : Bool) (a : Tree) (w : Word) (g : ℕ) → load_of a ≤ g → Pays (called d a w) part_load g
  pays_called d a w g f = (
    λ o. (omega arith, λ args h e. pays_called_with d a w args h (omega arith)),
    (
      pays_with_block part_load d (λ b. going_on d (tree.call_with_block a w [] b)) (plain_member d a w) g
          (λ b h e. pays_going_on d (tree.call_with_block a w [] b) h (omega (arith, load_three a [] b.body))) (pays_plain_member d a w g f),
      pays_plain_member d a w g f,
    ),
  )

  pays_thread_with : (d : Bool) (t : Token) (args : List Tree) (g : ℕ) → loads args ≤ g
      → Pays (with_block d (λ b. made (tree.thread_new t.at args b)) refuse) part_load g
  pays_thread_with d t args g f =
      pays_with_block part_load d (λ b. made (tree.thread_new t.at args b)) refuse g
      (λ b h e. omega (arith, load-append (threads_of args) (record { at = b.at; block = λ n. tree.block_by n b } ∷ threads_of b.body))) tt

  pays_thread : (d : Bool) (t : Token) (g : ℕ) → Pays (thread d t) part_load g
  pays_thread d t g = (λ o. (omega arith, λ args h e. pays_thread_with d t args h (omega arith)), pays_thread_with d t [] g (omega arith))

  pays_object : (class : Word) (t : Token) (g : ℕ) → Pays (object class t) part_load g
  pays_object class t g = (λ o. (omega arith, λ args h e. omega arith), (omega arith, omega arith))

  command_load : (head : Head) (args : List Tree) → load_of (command_of head args) ≡ head_load head + loads args
  command_load (p.of_call None w) args = omega arith
  command_load (p.of_call (Some a) w) args = load_next a args
  command_load (p.of_new class at) args = omega arith

  pays_commanded : (part : Part) (g : ℕ) → part_load part ≤ g → Pays (commanded part) load_of g
  pays_commanded (p.head head) g f = (omega arith, λ args h e. omega (arith, command_load head args))
  pays_commanded (p.plain o) g f = omega (arith, tree_load o)

  pays_opposite : (d : Bool) (at : Span) (part : Part) (g : ℕ) → part_load part ≤ g → Pays (operand part (λ a. made (tree.minus at a))) part_load g
  pays_opposite d at part g f = pays_operand part_load part (λ a. made (tree.minus at a)) g (λ a e. omega (arith, load_one a))

  -- lines of `attr` start no thread
  attributes_load : (m : Members) (kind : Text) (ws : List Word) → load (tree.with_attributes m kind ws).threads ≡ load m.threads
  attributes_load m kind [] = refl
  attributes_load m kind (w ∷ ws) =
      attributes_load (record { methods = m.methods ++ tree.attribute_methods kind w; names = m.names ++ tree.attribute_names kind w; threads = m.threads }) kind ws

  -- ---- the phrases

  pays : (n : Phrase) → Pays (rule n) (weight n) (given n)
  unfolding rule
  pays (p.items found) = (
    λ t. (omega arith, λ v h e. omega arith),
    (
      λ t. (
        omega arith,
        λ c h e. (
          omega (arith, load-append found.threads c.members.threads),
          λ v j i. omega (arith, load-append found.threads c.members.threads),
        ),
      ),
      (
        λ t. (
          omega arith,
          λ f h e. (
            omega (arith, load-append found.threads (threads_of f.body)),
            λ v j i. omega (arith, load-append found.threads (threads_of f.body)),
          ),
        ),
        (
          (
            omega arith,
            λ a h e. (
              omega (arith, load-append found.threads a.threads),
              λ v j i. omega (arith, load-append found.threads a.threads),
            ),
          ),
          λ t. omega arith,
        ),
      ),
    ),
  )
  pays (p.items_rest found) = (λ t. (omega arith, λ v h e. omega arith), λ t. omega arith)
  pays p.class_rest = λ t l. (omega arith, λ m h e. omega arith)
  pays (p.members_rest found) = (
    λ t. (
      omega arith,
      λ f h e l. (
        omega (arith, load-append found.threads (threads_of f.body)),
        λ v j i. omega (arith, load-append found.threads (threads_of f.body)),
      ),
    ),
    (
      λ t. (
        omega arith,
        λ ws h e l. (
          omega (arith, attributes_load found (text_of t.kind) ws),
          λ v j i. omega (arith, attributes_load found (text_of t.kind) ws),
        ),
      ),
      λ t. omega arith,
    ),
  )
  pays p.symbols = λ t. (omega arith, λ v h e. omega arith)
  pays (p.symbols_rest found) = (λ t w. (omega arith, λ v h e. omega arith), omega arith)
  pays p.method_rest = λ t. (λ e o. (omega arith, λ w h i. (omega arith, λ v j i. omega arith)), (λ o. (omega arith, λ ws h i. (omega arith, λ v j i. omega arith)), (omega arith, λ v h e. omega arith)))
  pays p.params = (λ t. omega arith, λ t. (omega arith, λ v h e. omega arith))
  pays (p.params_rest found) = (λ t w. (omega arith, λ v h e. omega arith), λ t. omega arith)
  pays p.one_param = λ t e. omega arith
  pays (p.method_body w ws) = (omega arith, λ b h e t. omega arith)
  pays (p.body found) = (λ t. (omega arith, λ v h e. omega arith), ((omega arith, λ a h e. (omega (arith, load_more found a), λ v j i. omega (arith, load_more found a))), omega arith))
  pays (p.body_rest found) = (λ t. (omega arith, λ v h e. omega arith), omega arith)
  pays p.statement = (omega arith, λ a h e. (omega arith, λ v j i. omega arith))
  pays p.simple = (
    λ t. ((omega arith, λ a h e. omega (arith, load_one a)), omega arith),
    (
      λ t. omega arith,
      (
        λ t. omega arith,
        (omega arith, λ v h e. omega arith),
      ),
    ),
  )
  pays (p.modified a) = (
    λ t. (omega arith, λ b h e. pays_decided load_of t b (modify t a) h (λ condition i. pays_modify t a condition h (omega arith))),
    omega arith,
  )
  pays (p.expression d) = (omega arith, λ part h e. pays_commanded part h (omega arith))
  pays (p.assignment d) = (omega arith, λ part h e. (omega arith, λ v j i. omega arith))
  pays (p.assignment_rest d part) = pays_assigning d part (target_of part) (part_load part) (same_target part) (omega arith)
  pays (p.argument d) = (omega arith, λ part h e. pays_operand load_of part done h (λ a i. omega arith))
  pays p.command_arguments = (omega arith, λ a h e. (omega (arith, load_one a), λ v j i. omega (arith, load_one a)))
  pays (p.command_arguments_rest found) =
      (λ t. (omega arith, λ a h e. (omega (arith, load_more found a), λ v j i. omega (arith, load_more found a))), omega arith)
  pays (p.ternary d) = (omega arith, λ part h e. (omega arith, λ v j i. omega arith))
  pays (p.ternary_rest d part) =
      pays_unless_head part _ (part_load part) (omega arith) (
        λ t. pays_operand part_load part _ (cost t.at + part_load part) (λ c e. (
          omega arith,
          λ ab h i. omega (arith, load_three c (ab.0 ∷ []) (ab.1 ∷ []), load_one ab.0, load_one ab.1),
        )),
        omega arith,
      )
  pays (p.branches d) = (
    omega arith,
    λ part h e. pays_operand (λ (v : Tree × Tree). load_of v.0 + load_of v.1) part _ h (λ a i t. (
      omega arith,
      λ other j k. pays_operand (λ (v : Tree × Tree). load_of v.0 + load_of v.1) other _ j (λ b m. omega arith),
    )),
  )
  pays (p.chain d or_tier) = (omega arith, λ part h e. (omega arith, λ v j i. omega arith))
  pays (p.chain d and_tier) = (omega arith, λ part h e. (omega arith, λ v j i. omega arith))
  pays (p.chain d equal_tier) = (omega arith, λ part h e. (omega arith, λ v j i. omega arith))
  pays (p.chain d less_tier) = (omega arith, λ part h e. (omega arith, λ v j i. omega arith))
  pays (p.chain d shift_tier) = (omega arith, λ part h e. (omega arith, λ v j i. omega arith))
  pays (p.chain d sum_tier) = (omega arith, λ part h e. (omega arith, λ v j i. omega arith))
  pays (p.chain d product_tier) = (omega arith, λ part h e. (omega arith, λ v j i. omega arith))
  pays (p.chain d unary_tier) = (omega arith, λ v h e. omega arith)
  pays (p.chain_rest d tier part) =
      pays_unless_head part _ (part_load part) (omega arith) (
        λ t. pays_operand part_load part _ (cost t.at + part_load part) (λ a e. (
          omega arith,
          λ next h i. pays_operand part_load next _ h (λ b j.
              pays_joined part_load tier t a b _ h (λ both k. pays_chained d tier both h (omega arith))),
        )),
        omega arith,
      )
  pays (p.unary d) = (
    λ t. (omega arith, λ part h e. pays_operand part_load part _ h (λ a i. omega (arith, load_one a))),
    (
      λ t. (
        (
          λ j. (omega arith, λ v h e. omega arith),
          (omega arith, λ part h e. pays_opposite d t.at part h (omega arith)),
        ),
        (omega arith, λ part h e. pays_opposite d t.at part h (omega arith)),
      ),
      (omega arith, λ v h e. omega arith),
    ),
  )
  pays (p.postfix d) = (omega arith, λ part h e. (omega arith, λ v j i. omega arith))
  pays (p.postfix_rest d part) =
      pays_unless_head part _ (part_load part) (omega arith) (
        λ t. pays_operand part_load part _ (cost t.at + part_load part) (λ a e w. pays_called d a (word_of w) (cost w.at + (cost t.at + part_load part)) (omega arith)),
        (
          λ t. pays_operand part_load part _ (cost t.at + part_load part) (λ a e. (omega arith, λ c h i. (omega arith, λ v j k. omega arith))),
          omega arith,
        ),
      )
  pays p.arguments = (λ t. omega arith, (omega arith, λ a h e. (omega (arith, load_one a), λ v j i. omega (arith, load_one a))))
  pays (p.arguments_rest found) =
      (λ t. (omega arith, λ a h e. (omega (arith, load_more found a), λ v j i. omega (arith, load_more found a))), λ t. omega arith)
  pays p.index_rest = (omega arith, λ a h e t. omega arith)
  pays (p.primary d) = (
    λ t. omega arith,
    (
      λ t. (omega arith, λ pieces h e. omega arith),
      (
        λ t. omega arith,
        (
          λ t. omega arith,
          (
            λ t. omega arith,
            (
              λ t. omega arith,
              (
                λ t. omega arith,
                (
                  λ t. omega arith,
                  (
                    λ t. omega arith,
                    (
                      λ t. (λ o. (omega arith, λ args h e. omega arith), (omega arith, (omega arith, (omega arith, omega arith)))),
                      (
                        λ t o w. (pays_thread d w (cost w.at + (cost o.at + (cost t.at + 0))), pays_object (word_of t) w (cost w.at + (cost o.at + (cost t.at + 0)))),
                        (
                          λ t. (omega arith, λ items h e. omega arith),
                          (
                            λ t. (omega arith, λ pairs h e. omega arith),
                            (
                              λ t. (omega arith, λ a h e. omega arith),
                              (
                                λ t. (omega arith, λ a h e. omega arith),
                                λ t. (omega arith, λ a h e. omega arith),
                              ),
                            ),
                          ),
                        ),
                      ),
                    ),
                  ),
                ),
              ),
            ),
          ),
        ),
      ),
    ),
  )
  pays p.array_rest = (λ t. omega arith, (omega arith, λ a h e. (omega (arith, load_one a), λ v j i. omega (arith, load_one a))))
  pays (p.array_items_rest found) =
      (λ t. (λ e. omega arith, (omega arith, λ a h e. (omega (arith, load_more found a), λ v j i. omega (arith, load_more found a)))), λ t. omega arith)
  pays p.hash_rest = (λ t. omega arith, (omega arith, λ ab h e. (omega (arith, pairs_more [] ab), λ v j i. omega (arith, pairs_more [] ab))))
  pays (p.pairs_rest found) =
      (λ t. (λ e. omega arith, (omega arith, λ ab h e. (omega (arith, pairs_more found ab), λ v j i. omega (arith, pairs_more found ab)))), λ t. omega arith)
  pays p.pair = (λ t. (omega arith, λ b h e. omega arith), (omega arith, λ a h e t. (omega arith, λ b j i. omega arith)))
  pays p.group_rest = (omega arith, λ a h e t. omega arith)
  pays (p.conditional t) = (
    omega arith,
    λ a h e. pays_decided load_of t a (λ c. chosen (is_one (if_word ∷ []) t) t c done) h (λ c f. (omega arith, λ o i j. (omega arith, λ xs k m. (omega arith, λ ys q x. omega (arith, load_three c xs ys))))),
  )
  pays p.then = (λ t. omega arith, λ t. (λ w. omega arith, omega arith))
  pays (p.otherwise may_go_on) = (
    λ t. (
      omega arith,
      λ c h e. (
        omega arith,
        λ o i j. (
          omega arith,
          λ xs k m. (omega arith, λ ys q x. omega (arith, load_three c xs ys, load_one (tree.choice t.at c xs ys))),
        ),
      ),
    ),
    (
      λ t. (omega arith, λ b h e u. omega arith),
      λ t. omega arith,
    ),
  )
  pays (p.loop_rest t) = (
    omega arith,
    λ a h e. pays_decided load_of t a (looped t) h (λ c f o. (omega arith, λ xs i j u. omega (arith, load_next c xs))),
  )
  pays (p.text_rest found) = (
    λ t. (omega (arith, pieces_text found (text_of t.kind)), λ v h e. omega (arith, pieces_text found (text_of t.kind))),
    (
      λ t. (omega arith, λ a h e. (omega (arith, pieces_code found a), λ v j i. omega (arith, pieces_code found a))),
      λ t. omega arith,
    ),
  )
  pays p.code_rest = (omega arith, λ a h e t. omega arith)
  pays (p.block_rest in_braces at) = (λ t w. (omega arith, λ ws h e. (omega arith, λ v j i. omega arith)), (omega arith, λ v h e. omega arith))
  pays (p.bar_params_rest found) = (λ t w. (omega arith, λ v h e. omega arith), λ t. omega arith)
  pays (p.block_body in_braces at ws) = (omega arith, λ b h e t. omega arith)

  spelled_pays : (limit depth levels : ℕ) (n : Phrase) (s : Scope) (ts : List Token) (v : Value n) (s' : Scope) (us : List Token)
      → spelled limit depth levels n s ts v s' us → weight n v + price us ≤ given n + price ts
  spelled_pays limit zero levels n s ts v s' us d = absurd d
  spelled_pays limit (suc depth) levels n s ts v s' us d =
      spells_pays limit (spelled limit depth) (spelled_pays limit depth) levels (weight n) d (given n) (pays n)

  -- the blocks of the threads of a script cost no more than its tokens
  pub threads_paid : (limit levels : ℕ) (tokens : List Token) (found : Items) → IsScript limit levels tokens found → load found.threads ≤ price tokens
  threads_paid limit levels tokens found script =
      let paid : load found.threads + 0 ≤ 0 + price tokens =
      spelled_pays limit script.depth levels (p.items tree.no_items) top_level tokens found script.scopes [] script.spells in
      omega arith
