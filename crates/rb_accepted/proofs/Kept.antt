-- A property that each making of a tree keeps is one of all trees in a script.
use Rattle.std.proofs.Common.{◌≡◌, refl, ℕ, zero, suc, Bool, true, false, List, [], ◌∷◌, ◌++◌, Option, Some, None}
use Rattle.std.specs.Prelude.{ℤ, codes, neg_ℤ}
use Rattle.std.specs.Str.{bytes_eq}
use Rattle.rb_tree.specs.declared.span.Span.{Span}
use Rattle.rb_tree.specs.declared.node.AssignOp.{AssignOp}
use Rattle.rb_tree.specs.declared.node.Node.TheVariants as node
use Rattle.rb_lexer.specs.declared.token.Token.{Token}
use Rattle.rb_grammar.specs.Look.{class_of}
use Rattle.rb_grammar.specs.Tree.{Text, Word, Tree, BlockTree, PieceTree, TargetTree, MethodTree, ClassTree, Members, Items, code_of, flat}
use Rattle.rb_grammar.specs.Tree as tree
use Rattle.rb_grammar.specs.Scope.{Scope, top_level}
use Rattle.rb_grammar.specs.Phrase.{Operand, Head, Part, Tier, Phrase, Value}
use Rattle.rb_grammar.specs.Phrase.{or_tier, and_tier, equal_tier, less_tier, shift_tier, sum_tier, product_tier, unary_tier}
use Rattle.rb_grammar.specs.Phrase as p
use Rattle.rb_grammar.specs.Rule.{Rule, done, refuse, token, phrase, nested, built, either, look, pick, known, touching, ahead, scope, Spelling, Spells}
use Rattle.rb_grammar.specs.Rule as l
use Rattle.rb_grammar.specs.Grammar.{rule, spelled, text_of, word_of, integer_of, tree_of, operand, made, unless_head, target_of, operator_name, joined}
use Rattle.rb_grammar.specs.Grammar.{chained, operator_of, assigning, decided, modify, with_block, with_block_of, going_on, plain_member}
use Rattle.rb_grammar.specs.Grammar.{called, thread, object, constructed, command_of, commanded}
use Rattle.rb_grammar.specs.Script.{IsScript}
use Rattle.rb_grammar.specs.Faithful.{Each}
use Rattle.rb_grammar.proofs.Each.{each_append}

-- ---- what is kept

-- objects are made by `new` of classes with other names than this: a thread is a tree of its own
abbrev pub IsObject : Word → Type 0
IsObject class = bytes_eq class.text (codes "Thread") ≡ false

-- the trees in a target have the property
abbrev pub TargetHas : (Tree → Type 0) → TargetTree → Type 0
TargetHas P (tree.to_index r j bracket) = P r × P j
TargetHas P (tree.to_attribute r w) = P r
TargetHas P variable = Unit {0}

-- each tree has it that a rule makes of trees that have it, and so for the methods of a class and the items of a script
pub record IsKept (P : Tree → Type 0) (M : Members → Type 0) (I : Items → Type 0) : Type 0 where
  pub of_local : (w : Word) → P (tree.local w)
  pub of_field : (w : Word) → P (tree.field w)
  pub of_global : (w : Word) → P (tree.global w)
  pub of_symbol : (w : Word) → P (tree.symbol w)
  pub of_integer : (value : ℤ) (at : Span) → P (tree.integer value at)
  pub of_nil : (at : Span) → P (tree.constant node.Nil at)
  pub of_true : (at : Span) → P (tree.constant node.True at)
  pub of_false : (at : Span) → P (tree.constant node.False at)
  pub of_self : (at : Span) → P (tree.constant node.SelfRef at)
  pub of_break : (at : Span) → P (tree.constant node.Break at)
  pub of_next : (at : Span) → P (tree.constant node.Next at)
  pub of_call : (w : Word) (args : List Tree) → Each P args → P (tree.call None w args)
  pub of_member : (a : Tree) (w : Word) (args : List Tree) → P a → Each P args → P (tree.call (Some a) w args)
  pub of_block_call : (a : Tree) (w : Word) (args : List Tree) (b : BlockTree) → P a → Each P args → Each P b.body → P (tree.call_with_block a w args b)
  pub of_binary : (operator : Text) (at : Span) (a b : Tree) → P a → P b → P (tree.binary operator at a b)
  pub of_negated : (at : Span) (a : Tree) → P a → P (tree.negated at a)
  pub of_minus : (at : Span) (a : Tree) → P a → P (tree.minus at a)
  pub of_and : (at : Span) (a b : Tree) → P a → P b → P (tree.and_also at a b)
  pub of_or : (at : Span) (a b : Tree) → P a → P b → P (tree.or_else at a b)
  pub of_new : (class : Word) (at : Span) (args : List Tree) → IsObject class → Each P args → P (tree.new class at args)
  pub of_thread : (at : Span) (args : List Tree) (b : BlockTree) → Each P args → Each P b.body → P (tree.thread_new at args b)
  pub of_string : (at : Span) (pieces : List PieceTree) → Each P (code_of pieces) → P (tree.string at pieces)
  pub of_array : (at : Span) (items : List Tree) → Each P items → P (tree.array at items)
  pub of_hash : (at : Span) (pairs : List (Tree × Tree)) → Each P (flat pairs) → P (tree.hash at pairs)
  pub of_choice : (at : Span) (c : Tree) (xs ys : List Tree) → P c → Each P xs → Each P ys → P (tree.choice at c xs ys)
  pub of_loop : (at : Span) (c : Tree) (xs : List Tree) → P c → Each P xs → P (tree.loop at c xs)
  pub of_choice_behind : (at : Span) (b c : Tree) → P b → P c → P (tree.choice_behind at b c)
  pub of_loop_behind : (at : Span) (b c : Tree) → P b → P c → P (tree.loop_behind at b c)
  pub of_return : (at : Span) → P (tree.return_nothing at)
  pub of_return_value : (at : Span) (a : Tree) → P a → P (tree.return_value at a)
  pub of_assigned : (t : TargetTree) (at : Span) (a : Tree) → TargetHas P t → P a → P (tree.assigned t at a)
  pub of_operated : (t : TargetTree) (op : AssignOp) (at : Span) (a : Tree) → TargetHas P t → P a → P (tree.operated t op at a)
  pub no_members : M tree.no_members
  pub with_method : (m : Members) (f : MethodTree) → M m → Each P f.body → M (tree.with_method m f)
  pub with_attributes : (m : Members) (kind : Text) (ws : List Word) → M m → M (tree.with_attributes m kind ws)
  pub no_items : I tree.no_items
  pub with_class : (i : Items) (c : ClassTree) → I i → M c.members → I (tree.with_class i c)
  pub with_function : (i : Items) (f : MethodTree) → I i → Each P f.body → I (tree.with_function i f)
  pub with_statement : (i : Items) (a : Tree) → I i → P a → I (tree.with_statement i a)

module _ (P : Tree → Type 0) (M : Members → Type 0) (I : Items → Type 0) where
  -- The trees in an operand have the property, and so do those in a head.
  abbrev OperandHas : Operand → Type 0
  OperandHas (p.value a) = P a
  OperandHas (p.indexed a j at) = P a × P j
  OperandHas (p.member a w) = P a
  OperandHas name = Unit {0}

  abbrev HeadHas : Head → Type 0
  HeadHas (p.of_call (Some a) w) = P a
  HeadHas (p.of_call None w) = Unit {0}
  HeadHas (p.of_new class at) = IsObject class

  abbrev PartHas : Part → Type 0
  PartHas (p.plain o) = OperandHas o
  PartHas (p.head h) = HeadHas h

  abbrev PairHas : Tree × Tree → Type 0
  PairHas ab = P ab.0 × P ab.1

  abbrev PieceHas : PieceTree → Type 0
  PieceHas (tree.bytes text) = Unit {0}
  PieceHas (tree.code a) = P a

  -- what a phrase stands for has it
  abbrev Good : (n : Phrase) → Value n → Type 0
  Good (p.items found) v = I v
  Good (p.items_rest found) v = I v
  Good p.class_rest v = M v.members
  Good (p.members_rest found) v = M v
  Good p.symbols v = Unit {0}
  Good (p.symbols_rest found) v = Unit {0}
  Good p.method_rest v = Each P v.body
  Good p.params v = Unit {0}
  Good p.one_param v = Unit {0}
  Good (p.params_rest found) v = Unit {0}
  Good (p.method_body name words) v = Each P v.body
  Good (p.body found) v = Each P v
  Good (p.body_rest found) v = Each P v
  Good p.statement v = P v
  Good p.simple v = P v
  Good (p.modified a) v = P v
  Good (p.expression d) v = P v
  Good (p.assignment d) v = PartHas v
  Good (p.argument d) v = P v
  Good (p.ternary d) v = PartHas v
  Good (p.unary d) v = PartHas v
  Good (p.postfix d) v = PartHas v
  Good (p.primary d) v = PartHas v
  Good (p.assignment_rest d part) v = PartHas v
  Good (p.ternary_rest d part) v = PartHas v
  Good (p.postfix_rest d part) v = PartHas v
  Good (p.branches d) v = PairHas v
  Good (p.chain d tier) v = PartHas v
  Good (p.chain_rest d tier part) v = PartHas v
  Good p.command_arguments v = Each P v
  Good p.arguments v = Each P v
  Good (p.command_arguments_rest found) v = Each P v
  Good (p.arguments_rest found) v = Each P v
  Good p.index_rest v = P v
  Good p.group_rest v = P v
  Good p.code_rest v = P v
  Good p.array_rest v = Each P v
  Good (p.array_items_rest found) v = Each P v
  Good p.hash_rest v = Each PairHas v
  Good p.pair v = PairHas v
  Good (p.pairs_rest found) v = Each PairHas v
  Good (p.conditional word) v = P v
  Good (p.loop_rest word) v = P v
  Good p.then v = Unit {0}
  Good (p.otherwise may_go_on) v = Each P v
  Good (p.text_rest found) v = Each PieceHas v
  Good (p.block_rest in_braces at) v = Each P v.body
  Good (p.bar_params_rest found) v = Unit {0}
  Good (p.block_body in_braces at words) v = Each P v.body

  -- what a phrase goes on behind has it
  abbrev Given : Phrase → Type 0
  Given (p.items found) = I found
  Given (p.items_rest found) = I found
  Given (p.members_rest found) = M found
  Given (p.body found) = Each P found
  Given (p.body_rest found) = Each P found
  Given (p.modified a) = P a
  Given (p.assignment_rest d part) = PartHas part
  Given (p.ternary_rest d part) = PartHas part
  Given (p.postfix_rest d part) = PartHas part
  Given (p.chain_rest d tier part) = PartHas part
  Given (p.command_arguments_rest found) = Each P found
  Given (p.arguments_rest found) = Each P found
  Given (p.array_items_rest found) = Each P found
  Given (p.pairs_rest found) = Each PairHas found
  Given (p.text_rest found) = Each PieceHas found
  Given other = Unit {0}

  -- What a rule stands for is Q, where what the phrases in it stand for has the property.
  abbrev Keeps : {A : Type 0} → Rule A → (A → Type 0) → Type 0
  Keeps (done a) Q = Q a
  Keeps refuse Q = Unit {0}
  Keeps (token test k) Q = (t : Token) → Keeps (k t) Q
  Keeps (phrase n k) Q = Given n × ((v : Value n) → Good n v → Keeps (k v) Q)
  Keeps (nested at n k) Q = Given n × ((v : Value n) → Good n v → Keeps (k v) Q)
  Keeps (built a rule) Q = Keeps rule Q
  Keeps (either one other) Q = Keeps one Q × Keeps other Q
  Keeps (look test rule) Q = Keeps rule Q
  Keeps (pick b one other) Q = (b ≡ true → Keeps one Q) × (b ≡ false → Keeps other Q)
  Keeps (known text one other) Q = Keeps one Q × Keeps other Q
  Keeps (touching place one other) Q = Keeps one Q × Keeps other Q
  Keeps (ahead one other) Q = Keeps one Q × Keeps other Q
  Keeps (scope f rule) Q = Keeps rule Q

  module _ (limit : ℕ) (inner : ℕ → Spelling)
      (sound : (levels : ℕ) (n : Phrase) (s : Scope) (ts : List Token) (v : Value n) (s' : Scope) (us : List Token)
      → Given n → inner levels n s ts v s' us → Good n v)
      (levels : ℕ) where
    -- what a rule spells is what the rule stands for
    spells_keeps : {A : Type 0} (Q : A → Type 0) {r : Rule A} {s : Scope} {ts : List Token} {a : A} {s' : Scope} {us : List Token}
        → Spells limit inner levels r s ts a s' us → Keeps r Q → Q a
    spells_keeps Q l.stops g = g
    spells_keeps Q (l.takes {t = t} met d) g = spells_keeps Q d (g t)
    spells_keeps Q (l.holds {n = n} {v = v} i d) g = spells_keeps Q d (g.1 v (sound levels n _ _ v _ _ g.0 i))
    spells_keeps Q (l.opens {n = n} {v = v} {left = left} e i d) g = spells_keeps Q d (g.1 v (sound left n _ _ v _ _ g.0 i))
    spells_keeps Q (l.builds low d) g = spells_keeps Q d g
    spells_keeps Q (l.first d) g = spells_keeps Q d g.0
    spells_keeps Q (l.second d) g = spells_keeps Q d g.1
    spells_keeps Q (l.looks met d) g = spells_keeps Q d g
    spells_keeps Q (l.picks d) g = spells_keeps Q d (g.0 refl)
    spells_keeps Q (l.picks_not d) g = spells_keeps Q d (g.1 refl)
    spells_keeps Q (l.knows is d) g = spells_keeps Q d g.0
    spells_keeps Q (l.touches is d) g = spells_keeps Q d g.0
    spells_keeps Q (l.knows_not is d) g = spells_keeps Q d g.1
    spells_keeps Q (l.touches_not is d) g = spells_keeps Q d g.1
    spells_keeps Q (l.commands follow d) g = spells_keeps Q d g.0
    spells_keeps Q (l.commands_not follow d) g = spells_keeps Q d g.1
    spells_keeps Q (l.changes d) g = spells_keeps Q d g

  -- ---- lists of trees

  pieces_have : (pieces : List PieceTree) → Each PieceHas pieces → Each P (code_of pieces)
  pieces_have [] g = tt
  pieces_have (tree.bytes text ∷ more) g = pieces_have more g.1
  pieces_have (tree.code a ∷ more) g = (g.0, pieces_have more g.1)

  pairs_have : (pairs : List (Tree × Tree)) → Each PairHas pairs → Each P (flat pairs)
  pairs_have [] g = tt
  pairs_have (ab ∷ more) g = (g.0.0, (g.0.1, pairs_have more g.1))

  one_more : (found : List Tree) (a : Tree) → Each P found → P a → Each P (found ++ a ∷ [])
  one_more found a g h = each_append P found (a ∷ []) g (h, tt)

  -- a target that may be there
  abbrev MayHave : Option TargetTree → Type 0
  MayHave None = Unit {0}
  MayHave (Some target) = TargetHas P target

  target_has : (part : Part) → PartHas part → MayHave (target_of part)
  target_has (p.plain (p.value a)) f = tt
  target_has (p.plain (p.variable w)) f = tt
  target_has (p.plain (p.bare w)) f = tt
  target_has (p.plain (p.of_field w)) f = tt
  target_has (p.plain (p.of_global w)) f = tt
  target_has (p.plain (p.indexed a j at)) f = f
  target_has (p.plain (p.member a w)) f = f
  target_has (p.head h) f = tt

  module _ (kept : IsKept P M I) where
    -- ---- operands

    tree_of_has : (o : Operand) → OperandHas o → P (tree_of o)
    tree_of_has (p.value a) f = f
    tree_of_has (p.variable w) f = kept.of_local w
    tree_of_has (p.bare w) f = kept.of_call w [] tt
    tree_of_has (p.of_field w) f = kept.of_field w
    tree_of_has (p.of_global w) f = kept.of_global w
    tree_of_has (p.indexed a j at) f = kept.of_binary tree.index_name at a j f.0 f.1
    tree_of_has (p.member a w) f = kept.of_member a w [] f tt

    keeps_operand : {A : Type 0} (Q : A → Type 0) (part : Part) (k : Tree → Rule A) → PartHas part
        → ((a : Tree) → P a → Keeps (k a) Q) → Keeps (operand part k) Q
    keeps_operand Q (p.plain o) k f h = h (tree_of o) (tree_of_has o f)
    keeps_operand Q (p.head head) k f h = tt

    keeps_unless_head : (part : Part) (r : Rule Part) → PartHas part → Keeps r PartHas → Keeps (unless_head part r) PartHas
    keeps_unless_head (p.plain o) r f h = h
    keeps_unless_head (p.head head) r f h = f

    keeps_assigning : (d : Bool) (part : Part) (target : Option TargetTree) → PartHas part → MayHave target → Keeps (assigning d part target) PartHas
    keeps_assigning d part None f e = f
    keeps_assigning d part (Some target) f e =
        (λ t. (tt, λ a g. (λ is. kept.of_assigned target t.at a e g, λ is. kept.of_operated target (operator_of (class_of t.kind)) t.at a e g)), f)

    -- ---- operators

    keeps_joined : {A : Type 0} (Q : A → Type 0) (tier : Tier) (t : Token) (a b : Tree) (k : Tree → Rule A) → P a → P b
        → ((c : Tree) → P c → Keeps (k c) Q) → Keeps (joined tier t a b k) Q
    keeps_joined Q or_tier t a b k f g h = h (tree.or_else t.at a b) (kept.of_or t.at a b f g)
    keeps_joined Q and_tier t a b k f g h = h (tree.and_also t.at a b) (kept.of_and t.at a b f g)
    keeps_joined Q equal_tier t a b k f g h =
        let equal : Tree = tree.binary (codes "==") t.at a b in
        let e : P equal = kept.of_binary (codes "==") t.at a b f g in
        (λ is. h (tree.negated t.at equal) (kept.of_negated t.at equal e), λ is. h equal e)
    keeps_joined Q tier t a b k f g h =
        h (tree.binary (operator_name (class_of t.kind)) t.at a b) (kept.of_binary (operator_name (class_of t.kind)) t.at a b f g)

    keeps_chained : (d : Bool) (tier : Tier) (a : Tree) → P a → Keeps (chained d tier a) PartHas
    keeps_chained d equal_tier a f = f
    keeps_chained d tier a f = (f, λ v h. h)

    -- ---- conditions

    keeps_decided : {A : Type 0} (Q : A → Type 0) (t : Token) (a : Tree) (k : Tree → Rule A) → P a
        → ((c : Tree) → P c → Keeps (k c) Q) → Keeps (decided t a k) Q
    keeps_decided Q t a k f h = (λ is. h (tree.negated t.at a) (kept.of_negated t.at a f), λ is. h a f)

    keeps_modify : (t : Token) (a condition : Tree) → P a → P condition → Keeps (modify t a condition) P
    keeps_modify t a condition f g =
        (λ is. (kept.of_loop_behind t.at a condition f g, λ v h. h), λ is. (kept.of_choice_behind t.at a condition f g, λ v h. h))

    -- ---- blocks and calls

    keeps_with_block : {A : Type 0} (Q : A → Type 0) (d : Bool) (k : BlockTree → Rule A) (without : Rule A)
        → ((b : BlockTree) → Each P b.body → Keeps (k b) Q) → Keeps without Q → Keeps (with_block d k without) Q
    keeps_with_block Q d k without h w = (λ t. (tt, h), (λ t. (tt, h), w))

    keeps_with_block_of : {A : Type 0} (Q : A → Type 0) (text : Text) (d : Bool) (k : BlockTree → Rule A) (without : Rule A)
        → ((b : BlockTree) → Each P b.body → Keeps (k b) Q) → Keeps without Q → Keeps (with_block_of text d k without) Q
    keeps_with_block_of Q text d k without h w = (λ is. keeps_with_block Q d k without h w, λ is. w)

    keeps_plain_member : (d : Bool) (a : Tree) (w : Word) → P a → Keeps (plain_member d a w) PartHas
    keeps_plain_member d a w f = (f, (λ is. (kept.of_member a w [] f tt, λ v h. h), λ is. (f, λ v h. h)))

    keeps_called : (d : Bool) (a : Tree) (w : Word) → P a → Keeps (called d a w) PartHas
    keeps_called d a w f = (
      λ o. (
        tt,
        λ args g.
            keeps_with_block_of PartHas w.text d (λ b. going_on d (tree.call_with_block a w args b)) (going_on d (tree.call (Some a) w args))
            (λ b h. (kept.of_block_call a w args b f g h, λ v k. k))
            (kept.of_member a w args f g, λ v k. k),
      ),
      keeps_with_block_of PartHas w.text d (λ b. going_on d (tree.call_with_block a w [] b)) (plain_member d a w)
          (λ b h. (kept.of_block_call a w [] b f tt h, λ v k. k))
          (keeps_plain_member d a w f),
    )

    keeps_thread : (d : Bool) (t : Token) → Keeps (thread d t) PartHas
    keeps_thread d t = (
      λ o. (tt, λ args g. keeps_with_block PartHas d (λ b. made (tree.thread_new t.at args b)) refuse (λ b h. kept.of_thread t.at args b g h) tt),
      keeps_with_block PartHas d (λ b. made (tree.thread_new t.at [] b)) refuse (λ b h. kept.of_thread t.at [] b tt h) tt,
    )

    keeps_object : (class : Word) (t : Token) → IsObject class → Keeps (object class t) PartHas
    keeps_object class t is = (λ o. (tt, λ args g. kept.of_new class t.at args is g), (is, kept.of_new class t.at [] is tt))

    keeps_constructed : (d : Bool) (class : Word) (t : Token) → Keeps (constructed d class t) PartHas
    keeps_constructed d class t = (λ is. keeps_thread d t, λ is. keeps_object class t is)

    command_of_has : (head : Head) (args : List Tree) → HeadHas head → Each P args → P (command_of head args)
    command_of_has (p.of_call None w) args f g = kept.of_call w args g
    command_of_has (p.of_call (Some a) w) args f g = kept.of_member a w args f g
    command_of_has (p.of_new class at) args f g = kept.of_new class at args f g

    keeps_commanded : (part : Part) → PartHas part → Keeps (commanded part) P
    keeps_commanded (p.head head) f = (tt, λ args g. command_of_has head args f g)
    keeps_commanded (p.plain o) f = keeps_operand P (p.plain o) done f (λ a g. g)

    keeps_opposite : (d : Bool) (at : Span) → (part : Part) → PartHas part → Keeps (operand part (λ a. made (tree.minus at a))) PartHas
    keeps_opposite d at part e = keeps_operand PartHas part (λ a. made (tree.minus at a)) e (λ a f. kept.of_minus at a f)

    -- ---- the phrases

    keeps : (n : Phrase) → Given n → Keeps (rule n) (Good n)
    unfolding rule
    keeps (p.items found) g = (
      λ t. (g, λ v h. h),
      (
        λ t. (tt, λ c f. (kept.with_class found c g f, λ v h. h)),
        (
          λ t. (tt, λ m f. (kept.with_function found m g f, λ v h. h)),
          (
            (tt, λ a f. (kept.with_statement found a g f, λ v h. h)),
            λ t. g,
          ),
        ),
      ),
    )
    keeps (p.items_rest found) g = (λ t. (g, λ v h. h), λ t. g)
    keeps p.class_rest g = λ t l. (kept.no_members, λ m h. h)
    keeps (p.members_rest found) g = (
      λ t. (tt, λ m f l. (kept.with_method found m g f, λ v h. h)),
      (
        λ t. (tt, λ ws u l. (kept.with_attributes found (text_of t.kind) ws g, λ v h. h)),
        λ t. g,
      ),
    )
    keeps p.symbols g = λ t. (tt, λ v h. h)
    keeps (p.symbols_rest found) g = (λ t w. (tt, λ v h. h), tt)
    keeps p.method_rest g = λ t. (λ e o. (tt, λ w u. (tt, λ v h. h)), (λ o. (tt, λ ws u. (tt, λ v h. h)), (tt, λ v h. h)))
    keeps p.params g = (λ t. tt, λ t. (tt, λ v h. h))
    keeps (p.params_rest found) g = (λ t w. (tt, λ v h. h), λ t. tt)
    keeps p.one_param g = λ t e. tt
    keeps (p.method_body w ws) g = (tt, λ b h e. h)
    keeps (p.body found) g = (λ t. (g, λ v h. h), ((tt, λ a f. (one_more found a g f, λ v h. h)), g))
    keeps (p.body_rest found) g = (λ t. (g, λ v h. h), g)
    keeps p.statement g = (tt, λ a f. (f, λ v h. h))
    keeps p.simple g = (
      λ t. ((tt, λ a f. kept.of_return_value t.at a f), kept.of_return t.at),
      (
        λ t. kept.of_break t.at,
        (
          λ t. kept.of_next t.at,
          (tt, λ v h. h),
        ),
      ),
    )
    keeps (p.modified a) g = (λ t. (tt, λ b f. keeps_decided P t b (modify t a) f (λ condition e. keeps_modify t a condition g e)), g)
    keeps (p.expression d) g = (tt, λ part f. keeps_commanded part f)
    keeps (p.assignment d) g = (tt, λ part f. (f, λ v h. h))
    keeps (p.assignment_rest d part) g = keeps_assigning d part (target_of part) g (target_has part g)
    keeps (p.argument d) g = (tt, λ part f. keeps_operand P part done f (λ a h. h))
    keeps p.command_arguments g = (tt, λ a f. ((f, tt), λ v h. h))
    keeps (p.command_arguments_rest found) g = (λ t. (tt, λ a f. (one_more found a g f, λ v h. h)), g)
    keeps (p.ternary d) g = (tt, λ part f. (f, λ v h. h))
    keeps (p.ternary_rest d part) g =
        keeps_unless_head part _ g
        (λ t. keeps_operand PartHas part _ g (λ c f. (tt, λ ab h. kept.of_choice t.at c (ab.0 ∷ []) (ab.1 ∷ []) f (h.0, tt) (h.1, tt))), g)
    keeps (p.branches d) g = (
      tt,
      λ part e. keeps_operand PairHas part _ e (λ a f t. (tt, λ other h. keeps_operand PairHas other _ h (λ b k. (f, k)))),
    )
    keeps (p.chain d or_tier) g = (tt, λ part f. (f, λ v h. h))
    keeps (p.chain d and_tier) g = (tt, λ part f. (f, λ v h. h))
    keeps (p.chain d equal_tier) g = (tt, λ part f. (f, λ v h. h))
    keeps (p.chain d less_tier) g = (tt, λ part f. (f, λ v h. h))
    keeps (p.chain d shift_tier) g = (tt, λ part f. (f, λ v h. h))
    keeps (p.chain d sum_tier) g = (tt, λ part f. (f, λ v h. h))
    keeps (p.chain d product_tier) g = (tt, λ part f. (f, λ v h. h))
    keeps (p.chain d unary_tier) g = (tt, λ v h. h)
    keeps (p.chain_rest d tier part) g =
        keeps_unless_head part _ g (
          λ t. keeps_operand PartHas part _ g (λ a f. (
            tt,
            λ next e. keeps_operand PartHas next _ e (λ b h. keeps_joined PartHas tier t a b _ f h (λ both k. keeps_chained d tier both k)),
          )),
          g,
        )
    keeps (p.unary d) g = (
      λ t. (tt, λ part e. keeps_operand PartHas part _ e (λ a f. kept.of_negated t.at a f)),
      (
        λ t. (
          (
            λ j. (kept.of_integer (neg_ℤ (integer_of j.kind)) t.at, λ v h. h),
            (tt, λ part e. keeps_opposite d t.at part e),
          ),
          (tt, λ part e. keeps_opposite d t.at part e),
        ),
        (tt, λ v h. h),
      ),
    )
    keeps (p.postfix d) g = (tt, λ part f. (f, λ v h. h))
    keeps (p.postfix_rest d part) g =
        keeps_unless_head part _ g (
          λ t. keeps_operand PartHas part _ g (λ a f w. keeps_called d a (word_of w) f),
          (
            λ t. keeps_operand PartHas part _ g (λ a f. (tt, λ j h. ((f, h), λ v k. k))),
            g,
          ),
        )
    keeps p.arguments g = (λ t. tt, (tt, λ a f. ((f, tt), λ v h. h)))
    keeps (p.arguments_rest found) g = (λ t. (tt, λ a f. (one_more found a g f, λ v h. h)), λ t. g)
    keeps p.index_rest g = (tt, λ a f t. f)
    keeps (p.primary d) g = (
      λ t. kept.of_integer (integer_of t.kind) t.at,
      (
        λ t. (tt, λ pieces f. kept.of_string t.at pieces (pieces_have pieces f)),
        (
          λ t. kept.of_symbol (word_of t),
          (
            λ t. kept.of_nil t.at,
            (
              λ t. kept.of_true t.at,
              (
                λ t. kept.of_false t.at,
                (
                  λ t. kept.of_self t.at,
                  (
                    λ t. tt,
                    (
                      λ t. tt,
                      (
                        λ t. (λ o. (tt, λ args f. kept.of_call (word_of t) args f), (tt, (tt, (λ is. kept.of_call (word_of t) [] tt, λ is. tt)))),
                        (
                          λ t o w. keeps_constructed d (word_of t) w,
                          (
                            λ t. (tt, λ items f. kept.of_array t.at items f),
                            (
                              λ t. (tt, λ pairs f. kept.of_hash t.at pairs (pairs_have pairs f)),
                              (
                                λ t. (tt, λ a f. f),
                                (
                                  λ t. (tt, λ a f. f),
                                  λ t. (tt, λ a f. f),
                                ),
                              ),
                            ),
                          ),
                        ),
                      ),
                    ),
                  ),
                ),
              ),
            ),
          ),
        ),
      ),
    )
    keeps p.array_rest g = (λ t. tt, (tt, λ a f. ((f, tt), λ v h. h)))
    keeps (p.array_items_rest found) g = (λ t. (λ e. g, (tt, λ a f. (one_more found a g f, λ v h. h))), λ t. g)
    keeps p.hash_rest g = (λ t. tt, (tt, λ ab f. ((f, tt), λ v h. h)))
    keeps (p.pairs_rest found) g = (λ t. (λ e. g, (tt, λ ab f. (each_append PairHas found (ab ∷ []) g (f, tt), λ v h. h))), λ t. g)
    keeps p.pair g = (λ t. (tt, λ b f. (kept.of_symbol (word_of t), f)), (tt, λ a f t. (tt, λ b h. (f, h))))
    keeps p.group_rest g = (tt, λ a f t. f)
    keeps (p.conditional t) g = (
      tt,
      λ a f. (
        λ is. (tt, λ o u. (tt, λ xs h. (tt, λ ys k. kept.of_choice t.at (tree.negated t.at a) xs ys (kept.of_negated t.at a f) h k))),
        λ is. (tt, λ o u. (tt, λ xs h. (tt, λ ys k. kept.of_choice t.at a xs ys f h k))),
      ),
    )
    keeps p.then g = (λ t. tt, λ t. (λ w. tt, tt))
    keeps (p.otherwise may_go_on) g = (
      λ t. (tt, λ c e. (tt, λ o u. (tt, λ xs h. (tt, λ ys k. (kept.of_choice t.at c xs ys e h k, tt))))),
      (
        λ t. (tt, λ b h e. h),
        λ t. tt,
      ),
    )
    keeps (p.loop_rest t) g = (
      tt,
      λ a f. (
        λ is o. (tt, λ xs h end. kept.of_loop t.at (tree.negated t.at a) xs (kept.of_negated t.at a f) h),
        λ is o. (tt, λ xs h end. kept.of_loop t.at a xs f h),
      ),
    )
    keeps (p.text_rest found) g = (
      λ t. (each_append PieceHas found (tree.bytes (text_of t.kind) ∷ []) g (tt, tt), λ v h. h),
      (
        λ t. (tt, λ a f. (each_append PieceHas found (tree.code a ∷ []) g (f, tt), λ v h. h)),
        λ t. g,
      ),
    )
    keeps p.code_rest g = (tt, λ a f t. f)
    keeps (p.block_rest in_braces at) g = (λ t w. (tt, λ ws u. (tt, λ v h. h)), (tt, λ v h. h))
    keeps (p.bar_params_rest found) g = (λ t w. (tt, λ v h. h), λ t. tt)
    keeps (p.block_body in_braces at ws) g = (tt, λ b h e. h)

    spelled_has : (limit depth levels : ℕ) (n : Phrase) (s : Scope) (ts : List Token) (v : Value n) (s' : Scope) (us : List Token)
        → Given n → spelled limit depth levels n s ts v s' us → Good n v
    spelled_has limit zero levels n s ts v s' us g d = absurd d
    spelled_has limit (suc depth) levels n s ts v s' us g d =
        spells_keeps limit (spelled limit depth) (spelled_has limit depth) levels (Good n) d (keeps n g)

    -- the items of a script have what each making of them keeps
    pub script_has : (limit levels : ℕ) (tokens : List Token) (found : Items) → IsScript limit levels tokens found → I found
    script_has limit levels tokens found script =
        spelled_has limit script.depth levels (p.items tree.no_items) top_level tokens found script.scopes [] kept.no_items script.spells
