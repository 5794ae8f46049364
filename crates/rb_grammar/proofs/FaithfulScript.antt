-- The trees of a script are faithful: what each phrase stands for is, clause by clause, where what it is given is.
use Rattle.std.proofs.Common.{ℕ, zero, suc, ◌≤◌, Bool, List, [], ◌∷◌, ◌++◌, Option, Some, None, arith}
use Rattle.std.specs.Prelude.{codes, neg_ℤ}
use Rattle.rb_tree.specs.declared.node.Node.TheVariants as node
use Rattle.rb_tree.proofs.Heights.{height-nil, height-false, height-true, height-self, height-break, height-next}
use Rattle.rb_lexer.specs.declared.token.Token.{Token}
use Rattle.rb_grammar.specs.Look.{class_of}
use Rattle.rb_grammar.specs.Tree.{Text, Word, Tree, BlockTree, PieceTree, TargetTree, no_items, code_of, flat}
use Rattle.rb_grammar.specs.Tree as tree
use Rattle.rb_grammar.specs.Scope.{Scope, top_level}
use Rattle.rb_grammar.specs.Phrase.{Operand, Head, Part, Tier, Phrase, Value}
use Rattle.rb_grammar.specs.Phrase.{or_tier, and_tier, equal_tier, less_tier, shift_tier, sum_tier, product_tier, unary_tier}
use Rattle.rb_grammar.specs.Phrase as p
use Rattle.rb_grammar.specs.Rule.{Rule, done, refuse, phrase, built}
use Rattle.rb_grammar.specs.Grammar.{rule, spelled, text_of, word_of, integer_of, tree_of, operand, as_value, made, unless_head, target_of, operator_name, joined}
use Rattle.rb_grammar.specs.Grammar.{chained, operator_of, assigning, decided, modify, with_block, with_block_of, going_on, plain_member, plain_name}
use Rattle.rb_grammar.specs.Grammar.{called, thread, object, command_of, commanded}
use Rattle.rb_grammar.specs.Laws.{IsFaithfulTo}
use Rattle.rb_grammar.specs.Faithful.{Each, IsFaithful}
use Rattle.rb_grammar.proofs.Placed.{place-nil, place-false, place-true, place-self, place-break, place-next}
use Rattle.rb_grammar.proofs.Each.{each_append}
use Rattle.rb_grammar.proofs.FaithfulTrees.{WellMade, faithful_made, TargetIsFaithful, local_faithful, field_faithful, global_faithful}
use Rattle.rb_grammar.proofs.FaithfulTrees.{symbol_faithful, integer_faithful, constant_faithful, return_nothing_faithful, return_value_made}
use Rattle.rb_grammar.proofs.FaithfulTrees.{call_made, call_of_made, call_with_block_made, binary_made, negated_made, minus_made, and_also_made}
use Rattle.rb_grammar.proofs.FaithfulTrees.{or_else_made, index_made, new_made, thread_new_made, string_made, array_made, hash_made, choice_made}
use Rattle.rb_grammar.proofs.FaithfulTrees.{loop_made, choice_behind_made, loop_behind_made, assigned_made, operated_made}
use Rattle.rb_grammar.proofs.FaithfulItems.{no_members_faithful, no_items_faithful, with_method_faithful, with_attributes_faithful}
use Rattle.rb_grammar.proofs.FaithfulItems.{with_class_faithful, with_function_faithful, with_statement_faithful}
use Rattle.rb_grammar.proofs.Faithfully.{OperandIsFaithful, HeadIsFaithful, PartIsFaithful, PairIsFaithful, PieceIsFaithful, Good, Given, Keeps, spells_keeps}

-- ---- lists of trees

-- the trees in the parts of a text, and in pairs
pieces_faithful : (limit : ℕ) (pieces : List PieceTree) → Each (PieceIsFaithful limit) pieces → Each (IsFaithful limit) (code_of pieces)
pieces_faithful limit [] g = tt
pieces_faithful limit (tree.bytes text ∷ more) g = pieces_faithful limit more g.1
pieces_faithful limit (tree.code a ∷ more) g = (g.0, pieces_faithful limit more g.1)

pairs_faithful : (limit : ℕ) (pairs : List (Tree × Tree)) → Each (PairIsFaithful limit) pairs → Each (IsFaithful limit) (flat pairs)
pairs_faithful limit [] g = tt
pairs_faithful limit (p ∷ ps) g = (g.0.0, (g.0.1, pairs_faithful limit ps g.1))

-- a target that may be there has faithful trees in it
abbrev MayBeFaithful : ℕ → Option TargetTree → Type 0
MayBeFaithful limit None = Unit {0}
MayBeFaithful limit (Some target) = TargetIsFaithful limit target

-- what an assignment mark stands behind
target_of_faithful : (limit : ℕ) (part : Part) → PartIsFaithful limit part → MayBeFaithful limit (target_of part)
target_of_faithful limit (p.plain (p.value a)) f = tt
target_of_faithful limit (p.plain (p.variable w)) f = tt
target_of_faithful limit (p.plain (p.bare w)) f = tt
target_of_faithful limit (p.plain (p.of_field w)) f = tt
target_of_faithful limit (p.plain (p.of_global w)) f = tt
target_of_faithful limit (p.plain (p.indexed a j at)) f = f
target_of_faithful limit (p.plain (p.member a w)) f = f
target_of_faithful limit (p.head h) f = tt

module _ (limit : ℕ) (two : 2 ≤ limit) where
  one : 1 ≤ limit
  one = omega arith

  -- one tree more
  one_more : (found : List Tree) (a : Tree) → Each (IsFaithful limit) found → IsFaithful limit a → Each (IsFaithful limit) (found ++ a ∷ [])
  one_more found a g h = each_append (IsFaithful limit) found (a ∷ []) g (h, tt)

  -- ---- operands

  -- the tree of an operand
  tree_of_made : (o : Operand) → OperandIsFaithful limit o → WellMade limit (tree_of o)
  tree_of_made (p.value a) f = faithful_made limit a f
  tree_of_made (p.variable w) f = faithful_made limit (tree.local w) (local_faithful limit w one)
  tree_of_made (p.bare w) f = call_made limit w [] tt
  tree_of_made (p.of_field w) f = faithful_made limit (tree.field w) (field_faithful limit w one)
  tree_of_made (p.of_global w) f = faithful_made limit (tree.global w) (global_faithful limit w one)
  tree_of_made (p.indexed a j at) f = index_made limit a j at f.0 f.1
  tree_of_made (p.member a w) f = call_of_made limit a w [] f tt

  -- The makings of rules: each keeps to what is faithful, where what it is given is and what follows it does.
  keeps_built : {A : Type 0} (P : A → Type 0) (a : Tree) (r : Rule A) → WellMade limit a → (IsFaithful limit a → Keeps limit r P) → Keeps limit (built a r) P
  keeps_built P a r f h = (f.0, λ low. h (f.1 low))

  keeps_operand : {A : Type 0} (P : A → Type 0) (part : Part) (k : Tree → Rule A) → PartIsFaithful limit part
      → ((a : Tree) → IsFaithful limit a → Keeps limit (k a) P) → Keeps limit (operand part k) P
  keeps_operand P (p.plain o) k f h = keeps_built P (tree_of o) (k (tree_of o)) (tree_of_made o f) (h (tree_of o))
  keeps_operand P (p.head head) k f h = tt

  keeps_unless_head : (part : Part) (r : Rule Part) → PartIsFaithful limit part → Keeps limit r (PartIsFaithful limit)
      → Keeps limit (unless_head part r) (PartIsFaithful limit)
  keeps_unless_head (p.plain o) r f h = h
  keeps_unless_head (p.head head) r f h = f

  keeps_assigning : (d : Bool) (part : Part) (target : Option TargetTree) → PartIsFaithful limit part → MayBeFaithful limit target
      → Keeps limit (assigning d part target) (PartIsFaithful limit)
  keeps_assigning d part None f e = f
  keeps_assigning d part (Some target) f e =
      (λ t. (tt, λ a g. (assigned_made limit target t.at a e g, operated_made limit target (operator_of (class_of t.kind)) t.at a e g)), f)

  -- ---- operators

  keeps_joined : {A : Type 0} (P : A → Type 0) (tier : Tier) (t : Token) (a b : Tree) (k : Tree → Rule A) → IsFaithful limit a → IsFaithful limit b
      → ((c : Tree) → IsFaithful limit c → Keeps limit (k c) P) → Keeps limit (joined tier t a b k) P
  keeps_joined P or_tier t a b k f g h =
      let both : Tree = tree.or_else t.at a b in
      keeps_built P both (k both) (or_else_made limit t.at a b f g) (h both)
  keeps_joined P and_tier t a b k f g h =
      let both : Tree = tree.and_also t.at a b in
      keeps_built P both (k both) (and_also_made limit t.at a b f g) (h both)
  keeps_joined P equal_tier t a b k f g h =
      let equal : Tree = tree.binary (codes "==") t.at a b in
      let opposite : Tree = tree.negated t.at equal in
      let e : WellMade limit equal = binary_made limit (codes "==") t.at a b f g in
      (e.0, λ low. (keeps_built P opposite (k opposite) (negated_made limit t.at equal (e.1 low)) (h opposite), h equal (e.1 low)))
  keeps_joined P tier t a b k f g h =
      let both : Tree = tree.binary (operator_name (class_of t.kind)) t.at a b in
      keeps_built P both (k both) (binary_made limit (operator_name (class_of t.kind)) t.at a b f g) (h both)

  keeps_chained : (d : Bool) (tier : Tier) (a : Tree) → IsFaithful limit a → Keeps limit (chained d tier a) (PartIsFaithful limit)
  keeps_chained d equal_tier a f = f
  keeps_chained d tier a f = (f, λ v h. h)

  -- ---- conditions

  keeps_decided : {A : Type 0} (P : A → Type 0) (t : Token) (a : Tree) (k : Tree → Rule A) → IsFaithful limit a
      → ((c : Tree) → IsFaithful limit c → Keeps limit (k c) P) → Keeps limit (decided t a k) P
  keeps_decided P t a k f h =
      let opposite : Tree = tree.negated t.at a in
      (keeps_built P opposite (k opposite) (negated_made limit t.at a f) (h opposite), h a f)

  keeps_modify : (t : Token) (a condition : Tree) → IsFaithful limit a → IsFaithful limit condition → Keeps limit (modify t a condition) (IsFaithful limit)
  keeps_modify t a condition f g =
      let loop : Tree = tree.loop_behind t.at a condition in
      let choice : Tree = tree.choice_behind t.at a condition in (
        keeps_built (IsFaithful limit) loop (phrase (p.modified loop) done) (loop_behind_made limit t.at a condition f g) (λ e. (e, λ v h. h)),
        keeps_built (IsFaithful limit) choice (phrase (p.modified choice) done) (choice_behind_made limit t.at a condition f g) (λ e. (e, λ v h. h)),
      )

  -- ---- blocks and calls

  keeps_with_block : {A : Type 0} (P : A → Type 0) (d : Bool) (k : BlockTree → Rule A) (without : Rule A)
      → ((b : BlockTree) → Each (IsFaithful limit) b.body → Keeps limit (k b) P) → Keeps limit without P → Keeps limit (with_block d k without) P
  keeps_with_block P d k without h w = (λ t. (tt, h), (λ t. (tt, h), w))

  keeps_with_block_of : {A : Type 0} (P : A → Type 0) (text : Text) (d : Bool) (k : BlockTree → Rule A) (without : Rule A)
      → ((b : BlockTree) → Each (IsFaithful limit) b.body → Keeps limit (k b) P) → Keeps limit without P → Keeps limit (with_block_of text d k without) P
  keeps_with_block_of P text d k without h w = (keeps_with_block P d k without h w, w)

  keeps_going_on : (d : Bool) (a : Tree) → WellMade limit a → Keeps limit (going_on d a) (PartIsFaithful limit)
  keeps_going_on d a f = keeps_built (PartIsFaithful limit) a (phrase (p.postfix_rest d (as_value a)) done) f (λ e. (e, λ v h. h))

  keeps_plain_member : (d : Bool) (a : Tree) (w : Word) → IsFaithful limit a → Keeps limit (plain_member d a w) (PartIsFaithful limit)
  keeps_plain_member d a w f = (f, (keeps_going_on d (tree.call (Some a) w []) (call_of_made limit a w [] f tt), (f, λ v h. h)))

  keeps_plain_name : (w : Word) → Keeps limit (plain_name w) (PartIsFaithful limit)
  keeps_plain_name w = (tt, (tt, ((call_made limit w [] tt).1 one, tt)))

  keeps_called : (d : Bool) (a : Tree) (w : Word) → IsFaithful limit a → Keeps limit (called d a w) (PartIsFaithful limit)
  keeps_called d a w f = (
    λ o. (
      tt,
      λ args g.
          keeps_with_block_of (PartIsFaithful limit) w.text d (λ b. going_on d (tree.call_with_block a w args b)) (going_on d (tree.call (Some a) w args))
          (λ b h. keeps_going_on d (tree.call_with_block a w args b) (call_with_block_made limit a w args b f g h))
          (keeps_going_on d (tree.call (Some a) w args) (call_of_made limit a w args f g)),
    ),
    keeps_with_block_of (PartIsFaithful limit) w.text d (λ b. going_on d (tree.call_with_block a w [] b)) (plain_member d a w)
        (λ b h. keeps_going_on d (tree.call_with_block a w [] b) (call_with_block_made limit a w [] b f tt h))
        (keeps_plain_member d a w f),
  )

  keeps_thread : (d : Bool) (t : Token) → Keeps limit (thread d t) (PartIsFaithful limit)
  keeps_thread d t = (
    λ o. (
      tt,
      λ args g.
          keeps_with_block (PartIsFaithful limit) d (λ b. made (tree.thread_new t.at args b)) refuse (λ b h. thread_new_made limit t.at args b g h) tt,
    ),
    keeps_with_block (PartIsFaithful limit) d (λ b. made (tree.thread_new t.at [] b)) refuse (λ b h. thread_new_made limit t.at [] b tt h) tt,
  )

  keeps_object : (class : Word) (t : Token) → Keeps limit (object class t) (PartIsFaithful limit)
  keeps_object class t = (λ o. (tt, λ args g. new_made limit class t.at args g), (tt, (new_made limit class t.at [] tt).1 one))

  command_of_made : (head : Head) (args : List Tree) → HeadIsFaithful limit head → Each (IsFaithful limit) args → WellMade limit (command_of head args)
  command_of_made (p.of_call None w) args f g = call_made limit w args g
  command_of_made (p.of_call (Some a) w) args f g = call_of_made limit a w args f g
  command_of_made (p.of_new class at) args f g = new_made limit class at args g

  keeps_commanded : (part : Part) → PartIsFaithful limit part → Keeps limit (commanded part) (IsFaithful limit)
  keeps_commanded (p.head head) f = (tt, λ args g. command_of_made head args f g)
  keeps_commanded (p.plain o) f = keeps_operand (IsFaithful limit) (p.plain o) done f (λ a g. g)

  -- ---- the phrases

  -- what the rule of a phrase stands for is faithful
  pub keeps : (n : Phrase) → Given limit n → Keeps limit (rule n) (Good limit n)
  unfolding rule
  keeps (p.items found) g = (
    λ t. (g, λ v h. h),
    (
      λ t. (tt, λ c f. (with_class_faithful limit found c g f, λ v h. h)),
      (
        λ t. (tt, λ m f. (with_function_faithful limit found m g f, λ v h. h)),
        (
          (tt, λ a f. (with_statement_faithful limit found a g f, λ v h. h)),
          λ t. g,
        ),
      ),
    ),
  )
  keeps (p.items_rest found) g = (λ t. (g, λ v h. h), λ t. g)
  keeps p.class_rest g = λ t l. (no_members_faithful limit, λ m h. h)
  keeps (p.members_rest found) g = (
    λ t. (tt, λ m f l. (with_method_faithful limit found m g f, λ v h. h)),
    (
      λ t. (tt, λ ws u l. (with_attributes_faithful limit two found (text_of t.kind) ws g, λ v h. h)),
      λ t. g,
    ),
  )
  keeps p.symbols g = λ t. (tt, λ v h. h)
  keeps (p.symbols_rest found) g = (λ t w. (tt, λ v h. h), tt)
  keeps p.method_rest g = λ t. (λ e o. (tt, λ w u. (tt, λ v h. h)), (λ o. (tt, λ ws u. (tt, λ v h. h)), (tt, λ v h. h)))
  keeps p.params g = (λ t. tt, λ t. (tt, λ v h. h))
  keeps (p.params_rest found) g = (λ t w. (tt, λ v h. h), λ t. tt)
  keeps p.one_param g = λ t e. tt
  keeps (p.method_body w ws) g = (tt, λ b h e. h)
  keeps (p.body found) g = (λ t. (g, λ v h. h), ((tt, λ a f. (one_more found a g f, λ v h. h)), g))
  keeps (p.body_rest found) g = (λ t. (g, λ v h. h), g)
  keeps p.statement g = (tt, λ a f. (f, λ v h. h))
  keeps p.simple g = (
    λ t. ((tt, λ a f. return_value_made limit t.at a f), return_nothing_faithful limit t.at one),
    (
      λ t. constant_faithful limit node.Break t.at one (height-break t.at) (place-break t.at),
      (
        λ t. constant_faithful limit node.Next t.at one (height-next t.at) (place-next t.at),
        (tt, λ v h. h),
      ),
    ),
  )
  keeps (p.modified a) g = (λ t. (tt, λ b f. keeps_decided (IsFaithful limit) t b (modify t a) f (λ condition e. keeps_modify t a condition g e)), g)
  keeps (p.expression d) g = (tt, λ part f. keeps_commanded part f)
  keeps (p.assignment d) g = (tt, λ part f. (f, λ v h. h))
  keeps (p.assignment_rest d part) g = keeps_assigning d part (target_of part) g (target_of_faithful limit part g)
  keeps (p.argument d) g = (tt, λ part f. keeps_operand (IsFaithful limit) part done f (λ a h. h))
  keeps p.command_arguments g = (tt, λ a f. ((f, tt), λ v h. h))
  keeps (p.command_arguments_rest found) g = (λ t. (tt, λ a f. (one_more found a g f, λ v h. h)), g)
  keeps (p.ternary d) g = (tt, λ part f. (f, λ v h. h))
  keeps (p.ternary_rest d part) g =
      keeps_unless_head part _ g
      (λ t. keeps_operand (PartIsFaithful limit) part _ g (λ c f. (tt, λ ab h. choice_made limit t.at c (ab.0 ∷ []) (ab.1 ∷ []) f (h.0, tt) (h.1, tt))), g)
  keeps (p.branches d) g = (
    tt,
    λ part e. keeps_operand (PairIsFaithful limit) part _ e (λ a f t.
        (tt, λ other h. keeps_operand (PairIsFaithful limit) other _ h (λ b k. (f, k)))),
  )
  keeps (p.chain d or_tier) g = (tt, λ part f. (f, λ v h. h))
  keeps (p.chain d and_tier) g = (tt, λ part f. (f, λ v h. h))
  keeps (p.chain d equal_tier) g = (tt, λ part f. (f, λ v h. h))
  keeps (p.chain d less_tier) g = (tt, λ part f. (f, λ v h. h))
  keeps (p.chain d shift_tier) g = (tt, λ part f. (f, λ v h. h))
  keeps (p.chain d sum_tier) g = (tt, λ part f. (f, λ v h. h))
  keeps (p.chain d product_tier) g = (tt, λ part f. (f, λ v h. h))
  keeps (p.chain d unary_tier) g = (tt, λ v h. h)
  keeps (p.chain_rest d tier part) g =
      keeps_unless_head part _ g (
        λ t. keeps_operand (PartIsFaithful limit) part _ g (λ a f. (
          tt,
          λ next e. keeps_operand (PartIsFaithful limit) next _ e (λ b h.
              keeps_joined (PartIsFaithful limit) tier t a b _ f h (λ both k. keeps_chained d tier both k)),
        )),
        g,
      )
  keeps (p.unary d) g = (
    λ t. (tt, λ part e. keeps_operand (PartIsFaithful limit) part _ e (λ a f. negated_made limit t.at a f)),
    (
      λ t. (
        (
          λ j. (integer_faithful limit (neg_ℤ (integer_of j.kind)) t.at one, λ v h. h),
          (tt, λ part e. keeps_operand (PartIsFaithful limit) part _ e (λ a f. minus_made limit t.at a f)),
        ),
        (tt, λ part e. keeps_operand (PartIsFaithful limit) part _ e (λ a f. minus_made limit t.at a f)),
      ),
      (tt, λ v h. h),
    ),
  )
  keeps (p.postfix d) g = (tt, λ part f. (f, λ v h. h))
  keeps (p.postfix_rest d part) g =
      keeps_unless_head part _ g (
        λ t. keeps_operand (PartIsFaithful limit) part _ g (λ a f w. keeps_called d a (word_of w) f),
        (
          λ t. keeps_operand (PartIsFaithful limit) part _ g (λ a f. (tt, λ j h. ((f, h), λ v k. k))),
          g,
        ),
      )
  keeps p.arguments g = (λ t. tt, (tt, λ a f. ((f, tt), λ v h. h)))
  keeps (p.arguments_rest found) g = (λ t. (tt, λ a f. (one_more found a g f, λ v h. h)), λ t. g)
  keeps p.index_rest g = (tt, λ a f t. f)
  keeps (p.primary d) g = (
    λ t. integer_faithful limit (integer_of t.kind) t.at one,
    (
      λ t. (tt, λ pieces f. string_made limit t.at pieces (pieces_faithful limit pieces f)),
      (
        λ t. symbol_faithful limit (word_of t) one,
        (
          λ t. constant_faithful limit node.Nil t.at one (height-nil t.at) (place-nil t.at),
          (
            λ t. constant_faithful limit node.True t.at one (height-true t.at) (place-true t.at),
            (
              λ t. constant_faithful limit node.False t.at one (height-false t.at) (place-false t.at),
              (
                λ t. constant_faithful limit node.SelfRef t.at one (height-self t.at) (place-self t.at),
                (
                  λ t. tt,
                  (
                    λ t. tt,
                    (
                      λ t. (λ o. (tt, λ args f. call_made limit (word_of t) args f), keeps_plain_name (word_of t)),
                      (
                        λ t o w. (keeps_thread d w, keeps_object (word_of t) w),
                        (
                          λ t. (tt, λ items f. array_made limit t.at items f),
                          (
                            λ t. (tt, λ pairs f. hash_made limit t.at pairs (pairs_faithful limit pairs f)),
                            (
                              λ t. (tt, λ a f. f),
                              (
                                λ t. (tt, λ a f. f),
                                λ t. (tt, λ a f. f),
                              ),
                            ),
                          ),
                        ),
                      ),
                    ),
                  ),
                ),
              ),
            ),
          ),
        ),
      ),
    ),
  )
  keeps p.array_rest g = (λ t. tt, (tt, λ a f. ((f, tt), λ v h. h)))
  keeps (p.array_items_rest found) g = (λ t. (λ e. g, (tt, λ a f. (one_more found a g f, λ v h. h))), λ t. g)
  keeps p.hash_rest g = (λ t. tt, (tt, λ ab f. ((f, tt), λ v h. h)))
  keeps (p.pairs_rest found) g =
      (λ t. (λ e. g, (tt, λ ab f. (each_append (PairIsFaithful limit) found (ab ∷ []) g (f, tt), λ v h. h))), λ t. g)
  keeps p.pair g = (λ t. (tt, λ b f. (symbol_faithful limit (word_of t) one, f)), (tt, λ a f t. (tt, λ b h. (f, h))))
  keeps p.group_rest g = (tt, λ a f t. f)
  keeps (p.conditional t) g = (
    tt,
    λ a f.
        let e : WellMade limit (tree.negated t.at a) = negated_made limit t.at a f in (
          (e.0, λ low. (tt, λ o u. (tt, λ xs h. (tt, λ ys k. choice_made limit t.at (tree.negated t.at a) xs ys (e.1 low) h k)))),
          (tt, λ o u. (tt, λ xs h. (tt, λ ys k. choice_made limit t.at a xs ys f h k))),
        ),
  )
  keeps p.then g = (λ t. tt, λ t. (λ w. tt, tt))
  keeps (p.otherwise may_go_on) g = (
    λ t. (
      tt,
      λ c e. (
        tt,
        λ o u. (
          tt,
          λ xs h. (
            tt,
            λ ys k.
                let both : Tree = tree.choice t.at c xs ys in
                keeps_built (Each (IsFaithful limit)) both (done (both ∷ [])) (choice_made limit t.at c xs ys e h k) (λ j. (j, tt)),
          ),
        ),
      ),
    ),
    (
      λ t. (tt, λ b h e. h),
      λ t. tt,
    ),
  )
  keeps (p.loop_rest t) g = (
    tt,
    λ a f.
        let e : WellMade limit (tree.negated t.at a) = negated_made limit t.at a f in (
          (e.0, λ low o. (tt, λ xs h end. loop_made limit t.at (tree.negated t.at a) xs (e.1 low) h)),
          λ o. (tt, λ xs h end. loop_made limit t.at a xs f h),
        ),
  )
  keeps (p.text_rest found) g = (
    λ t. (each_append (PieceIsFaithful limit) found (tree.bytes (text_of t.kind) ∷ []) g (tt, tt), λ v h. h),
    (
      λ t. (tt, λ a f. (each_append (PieceIsFaithful limit) found (tree.code a ∷ []) g (f, tt), λ v h. h)),
      λ t. g,
    ),
  )
  keeps p.code_rest g = (tt, λ a f t. f)
  keeps (p.block_rest in_braces at) g = (λ t w. (tt, λ ws u. (tt, λ v h. h)), (tt, λ v h. h))
  keeps (p.bar_params_rest found) g = (λ t w. (tt, λ v h. h), λ t. tt)
  keeps (p.block_body in_braces at ws) g = (tt, λ b h e. h)

  -- what is spelled is faithful
  pub spelled_faithful : (depth levels : ℕ) (n : Phrase) (s : Scope) (ts : List Token) (v : Value n) (s' : Scope) (us : List Token)
      → Given limit n → spelled limit depth levels n s ts v s' us → Good limit n v
  spelled_faithful zero levels n s ts v s' us g d = absurd d
  spelled_faithful (suc depth) levels n s ts v s' us g d =
      spells_keeps limit (spelled limit depth) (spelled_faithful depth) levels (Good limit n) d (keeps n g)

-- a script is faithful (where a node may be two high: the writer of an `attr` line is an assignment that no rule has measured)
pub script_is_faithful : IsFaithfulTo
script_is_faithful limit levels tokens found two script =
    spelled_faithful limit two script.depth levels (p.items no_items) top_level tokens found script.scopes [] (no_items_faithful limit) script.spells
