-- The names and the thread bodies of a script stand in the order of its text: what each phrase stands for does, clause by clause,
-- where what it goes on behind does.
use Rattle.std.proofs.Common.{ℕ, zero, suc, ◌≤◌, Bool, true, false, List, [], ◌∷◌, ◌++◌, Option, Some, None, arith}
use Rattle.std.specs.Prelude.{codes, neg_ℤ, if◌then◌else◌}
use Rattle.std.specs.Str.{bytes_eq}
use Rattle.rb_tree.specs.declared.node.Node.TheVariants as node
use Rattle.rb_lexer.specs.declared.token.Token.{Token}
use Rattle.rb_lexer.specs.Spans.{StandInOrder}
use Rattle.rb_grammar.specs.Look.{class_of, if_word}
use Rattle.rb_grammar.specs.Tree.{Text, Word, Tree, BlockTree, TargetTree, Members, no_items, names_of, threads_of, given, field_of, setter_of, attribute_names}
use Rattle.rb_grammar.specs.Tree as tree
use Rattle.rb_grammar.specs.Scope.{Scope, top_level}
use Rattle.rb_grammar.specs.Phrase.{Operand, Part, Tier, Phrase, Value}
use Rattle.rb_grammar.specs.Phrase.{or_tier, and_tier, equal_tier, less_tier, shift_tier, sum_tier, product_tier, unary_tier}
use Rattle.rb_grammar.specs.Phrase as p
use Rattle.rb_grammar.specs.Rule.{Rule, done, refuse}
use Rattle.rb_grammar.specs.Grammar.{rule, spelled, is_one, text_of, word_of, integer_of, tree_of, operand, made, unless_head, target_of, operator_name, joined}
use Rattle.rb_grammar.specs.Grammar.{chained, operator_of, assigning, decided, modify, with_block, with_block_of, going_on, plain_member, plain_name}
use Rattle.rb_grammar.specs.Grammar.{called, thread, object, commanded, chosen, looped}
use Rattle.rb_grammar.specs.Laws.{GivesInOrder}
use Rattle.rb_grammar.proofs.OrderTrees.{same, within_wide, within_bound, nothing_within, first_within, both_within, Named, Stands, TreeStands, TreesStand}
use Rattle.rb_grammar.proofs.OrderTrees.{none_stand, BlockStands, WordStands, MemberStands, TargetStands}
use Rattle.rb_grammar.proofs.OrderTrees.{nothing_stands, stands_wide, higher, both_stand, trees_stand, trees_high, one_stands, trees_more}
use Rattle.rb_grammar.proofs.OrderTrees.{pieces_more, pieces_bytes, pair_stands, pairs_more, local_stands, field_stands, global_stands, symbol_stands}
use Rattle.rb_grammar.proofs.OrderTrees.{integer_stands, constant_stands, return_nothing_stands, return_value_stands, negated_stands, minus_stands}
use Rattle.rb_grammar.proofs.OrderTrees.{call_stands, call_of_stands, call_with_block_stands, thread_new_stands, new_stands, binary_stands, and_also_stands}
use Rattle.rb_grammar.proofs.OrderTrees.{or_else_stands, index_stands, string_stands, array_stands, hash_stands, choice_stands, loop_stands}
use Rattle.rb_grammar.proofs.OrderTrees.{choice_behind_stands, loop_behind_stands, assigned_stands, operated_stands}
use Rattle.rb_grammar.proofs.Orderly.{OperandStands, PartStands, Good, Given, Keeps, Ends, spells_keeps}

-- ---- places

-- from a place over one in the middle to a last one
on : {low mid high : ℕ} → low ≤ mid → mid ≤ high → low ≤ high
on l h = omega arith

-- ---- names, methods and classes

-- one name more
names_more : {low mid high : ℕ} {found : List Word} {w : Word} → Named low mid found → WordStands mid high w → Named low high (found ++ w ∷ [])
names_more g s = both_within g (first_within s.before (nothing_within s.behind))

-- one name
one_named : {low high : ℕ} {w : Word} → WordStands low high w → Named low high (w ∷ [])
one_named s = first_within s.before (nothing_within s.behind)

-- a name before what a class gives
word_before : {low high : ℕ} {w : Word} {words : List Word} {bodies : List tree.Thread} → low ≤ w.at.from → Stands w.at.from high words bodies
    → Stands low high (w ∷ words) bodies
word_before {high = high} l s = record { named = first_within l s.named; threaded = within_wide l (same high) s.threaded }

-- names before a body
names_before : {low mid high : ℕ} {words : List Word} {body : List Tree} → Named low mid words → TreesStand mid high body
    → Stands low high (words ++ names_of body) (threads_of body)
names_before {high = high} g s = record {
  named = both_within g (trees_stand s).named;
  threaded = within_wide (within_bound g) (same high) (trees_stand s).threaded;
}

-- what is given stands up to a place further on
given_high : {low high high' : ℕ} {words : List Word} {bodies : List tree.Thread} → high ≤ high' → Stands low high words bodies → Stands low high' words bodies
given_high {low = low} h s = stands_wide (same low) h s

-- and so do names
names_high : {low high high' : ℕ} {words : List Word} → high ≤ high' → Named low high words → Named low high' words
names_high {low = low} h s = within_wide (same low) h s

-- the names that one symbol of an `attr` line gives stand at the symbol
attribute_named : {low : ℕ} (reads writes : Bool) (w : Word) → low ≤ w.at.from
    → Named low w.at.from (
    if reads then w ∷ given (field_of w.text) w.at ∷ []
    else if writes then given (field_of w.text) w.at ∷ given (setter_of w.text) w.at ∷ given (codes "v") w.at ∷ []
    else w ∷ given (field_of w.text) w.at ∷ given (setter_of w.text) w.at ∷ given (codes "v") w.at ∷ [])
attribute_named true writes w l = first_within l (first_within (same w.at.from) (nothing_within (same w.at.from)))
attribute_named false true w l =
    first_within l (first_within (same w.at.from) (first_within (same w.at.from) (nothing_within (same w.at.from))))
attribute_named false false w l =
    first_within l (first_within (same w.at.from) (first_within (same w.at.from) (first_within (same w.at.from) (nothing_within (same w.at.from)))))

-- a whole line
with_attributes_stand : {low mid high : ℕ} (x : Members) (kind : Text) (ws : List Word) → Stands low mid x.names x.threads → Named mid high ws
    → Stands low high (tree.with_attributes x kind ws).names (tree.with_attributes x kind ws).threads
with_attributes_stand x kind [] g h = given_high (within_bound h) g
with_attributes_stand {low = low} x kind (w ∷ ws) g h =
    with_attributes_stand
    (record { methods = x.methods ++ tree.attribute_methods kind w; names = x.names ++ attribute_names kind w; threads = x.threads }) kind ws
    (record {
      named = both_within g.named (attribute_named (bytes_eq kind (codes "attr_reader")) (bytes_eq kind (codes "attr_writer")) w h.rising.0);
      threaded = within_wide (same low) h.rising.0 g.threaded;
    })
    (record { rising = h.rising.1 })

-- ---- operands

-- the tree of an operand
tree_of_stands : {low high : ℕ} (o : Operand) → OperandStands low high o → TreeStands low high (tree_of o)
tree_of_stands (p.value a) f = f
tree_of_stands (p.variable w) f = local_stands f
tree_of_stands (p.bare w) f = call_stands f.before (none_stand f.behind)
tree_of_stands (p.of_field w) f = field_stands f
tree_of_stands (p.of_global w) f = global_stands f
tree_of_stands (p.indexed a i at) f = index_stands at f
tree_of_stands (p.member a w) f = call_of_stands f.receiver (none_stand f.behind)

-- a target that may be there
abbrev MayStand : ℕ → ℕ → Option TargetTree → Type 0
MayStand low high None = Unit {0}
MayStand low high (Some target) = TargetStands low high target

-- what an assignment mark stands behind
target_of_stands : (low high : ℕ) (part : Part) → PartStands low high part → MayStand low high (target_of part)
target_of_stands low high (p.plain (p.value a)) f = tt
target_of_stands low high (p.plain (p.variable w)) f = f
target_of_stands low high (p.plain (p.bare w)) f = f
target_of_stands low high (p.plain (p.of_field w)) f = f
target_of_stands low high (p.plain (p.of_global w)) f = f
target_of_stands low high (p.plain (p.indexed a i at)) f = f
target_of_stands low high (p.plain (p.member a w)) f = f
target_of_stands low high (p.head h) f = tt

-- ---- the makings of rules: each keeps to what stands in order, where what it is given does and what follows it does

-- from a place
abbrev TreeFrom : ℕ → Tree → ℕ → Type 0
TreeFrom low a high = TreeStands low high a

abbrev TreesFrom : ℕ → List Tree → ℕ → Type 0
TreesFrom low xs high = TreesStand low high xs

abbrev PartFrom : ℕ → Part → ℕ → Type 0
PartFrom low part high = PartStands low high part

keeps_operand : {A : Type 0} (P : A → ℕ → Type 0) (low high here : ℕ) (part : Part) (k : Tree → Rule A) → PartStands low high part
    → ((a : Tree) → TreeStands low high a → Keeps (k a) P here) → Keeps (operand part k) P here
keeps_operand P low high here (p.plain o) k f h = h (tree_of o) (tree_of_stands o f)
keeps_operand P low high here (p.head head) k f h = tt

keeps_unless_head : (low here : ℕ) (part : Part) (r : Rule Part) → PartStands low here part → Keeps r (PartFrom low) here
    → Keeps (unless_head part r) (PartFrom low) here
keeps_unless_head low here (p.plain o) r f h = h
keeps_unless_head low here (p.head head) r f h = f

keeps_assigning : (low here : ℕ) (d : Bool) (part : Part) (target : Option TargetTree) → PartStands low here part → MayStand low here target
    → Keeps (assigning d part target) (PartFrom low) here
keeps_assigning low here d part None f e = f
keeps_assigning low here d part (Some target) f e = (
  λ t l m. (here, on l m, λ a there n s. (assigned_stands target t.at e s, operated_stands target (operator_of (class_of t.kind)) t.at e s)),
  f,
)

-- ---- operators

keeps_joined : {A : Type 0} (P : A → ℕ → Type 0) (low here : ℕ) (tier : Tier) (t : Token) (a b : Tree) (k : Tree → Rule A)
    → TreeStands low t.at.from a → TreeStands t.at.from here b → ((c : Tree) → TreeStands low here c → Keeps (k c) P here) → Keeps (joined tier t a b k) P here
keeps_joined P low here or_tier t a b k f g h = h (tree.or_else t.at a b) (or_else_stands t.at f g)
keeps_joined P low here and_tier t a b k f g h = h (tree.and_also t.at a b) (and_also_stands t.at f g)
keeps_joined P low here equal_tier t a b k f g h =
    let equal : Tree = tree.binary (codes "==") t.at a b in
    let e : TreeStands low here equal = binary_stands (codes "==") t.at f g in
    (h (tree.negated t.at equal) (negated_stands t.at e), h equal e)
keeps_joined P low here tier t a b k f g h =
    h (tree.binary (operator_name (class_of t.kind)) t.at a b) (binary_stands (operator_name (class_of t.kind)) t.at f g)

keeps_chained : (low here : ℕ) (d : Bool) (tier : Tier) (a : Tree) → TreeStands low here a → Keeps (chained d tier a) (PartFrom low) here
keeps_chained low here d equal_tier a f = f
keeps_chained low here d tier a f = (low, f, λ v there n h. h)

-- ---- conditions

keeps_decided : {A : Type 0} (P : A → ℕ → Type 0) (low high here : ℕ) (t : Token) (a : Tree) (k : Tree → Rule A) → TreeStands low high a
    → ((c : Tree) → TreeStands low high c → Keeps (k c) P here) → Keeps (decided t a k) P here
keeps_decided P low high here t a k f h = (h (tree.negated t.at a) (negated_stands t.at f), h a f)

keeps_modify : (low mid here : ℕ) (t : Token) (a condition : Tree) → TreeStands low mid a → TreeStands mid here condition
    → Keeps (modify t a condition) (TreeFrom low) here
keeps_modify low mid here t a condition f g =
    ((low, loop_behind_stands t.at f g, λ v there n h. h), (low, choice_behind_stands t.at f g, λ v there n h. h))

keeps_chosen : {A : Type 0} (P : A → ℕ → Type 0) (low here : ℕ) (may_go_on : Bool) (t : Token) (condition : Tree) (k : Tree → Rule A)
    → TreeStands low here condition → ((c : Tree) (there : ℕ) → TreeStands low there c → Keeps (k c) P there) → Keeps (chosen may_go_on t condition k) P here
keeps_chosen P low here may_go_on t condition k f h = (
  here,
  same here,
  λ o begun l u. (
    here,
    none_stand l,
    λ xs middle m s. (
      middle,
      same middle,
      λ ys there n r. h (tree.choice t.at condition xs ys) there (choice_stands t.at f s r),
    ),
  ),
)

keeps_looped : (low here : ℕ) (t : Token) (condition : Tree) → TreeStands low here condition → Keeps (looped t condition) (TreeFrom low) here
keeps_looped low here t condition f = λ o l m. (here, none_stand (on l m), λ xs there n s e l' m'. loop_stands t.at f (trees_high (on l' m') s))

-- ---- blocks and calls

keeps_with_block : {A : Type 0} (P : A → ℕ → Type 0) (here : ℕ) (d : Bool) (k : BlockTree → Rule A) (without : Rule A)
    → ((b : BlockTree) (there : ℕ) → BlockStands here there b → Keeps (k b) P there) → Keeps without P here → Keeps (with_block d k without) P here
keeps_with_block P here d k without h w = (λ t l m. (here, (l, m), λ b there n s. h b there s), (λ t l m. (here, (l, m), λ b there n s. h b there s), w))

keeps_with_block_of : {A : Type 0} (P : A → ℕ → Type 0) (here : ℕ) (text : Text) (d : Bool) (k : BlockTree → Rule A) (without : Rule A)
    → ((b : BlockTree) (there : ℕ) → BlockStands here there b → Keeps (k b) P there) → Keeps without P here → Keeps (with_block_of text d k without) P here
keeps_with_block_of P here text d k without h w = (keeps_with_block P here d k without h w, w)

keeps_going_on : (low here : ℕ) (d : Bool) (a : Tree) → TreeStands low here a → Keeps (going_on d a) (PartFrom low) here
keeps_going_on low here d a f = (low, f, λ v there n h. h)

keeps_plain_member : (low here : ℕ) (d : Bool) (a : Tree) (w : Word) → MemberStands low here a w → Keeps (plain_member d a w) (PartFrom low) here
keeps_plain_member low here d a w f =
    (f, (keeps_going_on low here d (tree.call (Some a) w []) (call_of_stands f.receiver (none_stand f.behind)), (low, f, λ v there n h. h)))

keeps_plain_name : (low here : ℕ) (w : Word) → WordStands low here w → Keeps (plain_name w) (PartFrom low) here
keeps_plain_name low here w f = (f, (f, (call_stands f.before (none_stand f.behind), f)))

keeps_called : (low here : ℕ) (d : Bool) (a : Tree) (w : Word) → MemberStands low here a w → Keeps (called d a w) (PartFrom low) here
keeps_called low here d a w f = (
  λ o l m. (
    w.at.from,
    on f.behind (on l m),
    λ args there n s.
        keeps_with_block_of (PartFrom low) there w.text d (λ b. going_on d (tree.call_with_block a w args b)) (going_on d (tree.call (Some a) w args))
        (λ b there' r. keeps_going_on low there' d (tree.call_with_block a w args b) (call_with_block_stands f.receiver s r))
        (keeps_going_on low there d (tree.call (Some a) w args) (call_of_stands f.receiver s)),
  ),
  keeps_with_block_of (PartFrom low) here w.text d (λ b. going_on d (tree.call_with_block a w [] b)) (plain_member d a w)
      (λ b there r. keeps_going_on low there d (tree.call_with_block a w [] b) (call_with_block_stands f.receiver (none_stand f.behind) r))
      (keeps_plain_member low here d a w f),
)

keeps_thread : (low here : ℕ) (d : Bool) (t : Token) → low ≤ here → Keeps (thread d t) (PartFrom low) here
keeps_thread low here d t g = (
  λ o l m. (
    low,
    on g (on l m),
    λ args there n s.
        keeps_with_block (PartFrom low) there d (λ b. made (tree.thread_new t.at args b)) refuse (λ b there' r. thread_new_stands t.at s r) tt,
  ),
  keeps_with_block (PartFrom low) here d (λ b. made (tree.thread_new t.at [] b)) refuse (λ b there r. thread_new_stands t.at (none_stand g) r) tt,
)

keeps_object : (low here : ℕ) (class : Word) (t : Token) → WordStands low here class → Keeps (object class t) (PartFrom low) here
keeps_object low here class t f = (
  λ o l m. (class.at.from, on f.behind (on l m), λ args there n s. new_stands t.at f.before s),
  (f, new_stands t.at f.before (none_stand f.behind)),
)

keeps_commanded : (low here : ℕ) (part : Part) → PartStands low here part → Keeps (commanded part) (TreeFrom low) here
keeps_commanded low here (p.head (p.of_call None w)) f = (w.at.from, f.behind, λ args there n s. call_stands f.before s)
keeps_commanded low here (p.head (p.of_call (Some a) w)) f = (w.at.from, f.behind, λ args there n s. call_of_stands f.receiver s)
keeps_commanded low here (p.head (p.of_new class at)) f = (class.at.from, f.behind, λ args there n s. new_stands at f.before s)
keeps_commanded low here (p.plain o) f = keeps_operand (TreeFrom low) low here here (p.plain o) done f (λ a g. g)

-- a word up to the end of its token
token_stands : {low : ℕ} (t : Token) → low ≤ t.at.from → t.at.from ≤ t.at.to → WordStands low t.at.to (word_of t)
token_stands t l m = record { before = l; behind = m }

-- ---- the phrases

-- what the rule of a phrase stands for stands in order
pub keeps : (n : Phrase) (low here : ℕ) → Given n low here → Keeps (rule n) (Good n low) here
unfolding rule
keeps (p.items found) low here g = (
  λ t l m. (low, given_high (on l m) g, λ v there n h. h),
  (
    λ t l m. (here, on l m, λ c there n f. (low, both_stand g f, λ v last o h. h)),
    (
      λ t l m. (here, on l m, λ c there n f. (low, both_stand g f, λ v last o h. h)),
      (
        (here, same here, λ a there n f. (low, both_stand g f.stands, λ v last o h. h)),
        λ t l m. given_high (on l m) g,
      ),
    ),
  ),
)
keeps (p.items_rest found) low here g = (λ t l m. (low, given_high (on l m) g, λ v there n h. h), λ t l m. given_high (on l m) g)
keeps p.class_rest low here g =
    λ t l m u l' m'. (t.at.from, nothing_stands (on m (on l' m')), λ x there n h. word_before (on g l) h)
keeps (p.members_rest found) low here g = (
  λ t l m. (here, on l m, λ x there n f u l' m'. (low, given_high (on l' m') (both_stand g f), λ v last o h. h)),
  (
    λ t l m. (here, on l m, λ ws there n f u l' m'. (low, given_high (on l' m') (with_attributes_stand found (text_of t.kind) ws g f), λ v last o h. h)),
    λ t l m. given_high (on l m) g,
  ),
)
keeps p.symbols low here g = λ t l m. (low, one_named (token_stands t (on g l) m), λ v there n h. h)
keeps (p.symbols_rest found) low here g = (λ t l m w l' m'. (low, names_more g (token_stands w (on (on l m) l') m'), λ v there n h. h), g)
keeps p.method_rest low here g = λ t l m. (
  λ e l1 m1 o l2 m2. (t.at.from, on (on m (on l1 m1)) (on l2 m2), λ w there n h. (low, first_within (on g l) (one_named h), λ v last u f. f)),
  (
    λ o l1 m1. (t.at.from, on m (on l1 m1), λ ws there n h. (low, first_within (on g l) h, λ v last u f. f)),
    (low, one_named (token_stands t (on g l) m), λ v there n h. h),
  ),
)
keeps p.params low here g =
    (λ t l m. nothing_within (on g (on l m)), λ t l m. (low, one_named (token_stands t (on g l) m), λ v there n h. h))
keeps (p.params_rest found) low here g =
    (λ t l m w l' m'. (low, names_more g (token_stands w (on (on l m) l') m'), λ v there n h. h), λ t l m. names_high (on l m) g)
keeps p.one_param low here g = λ t l m e l' m'. record { before = on g l; behind = on m (on l' m') }
keeps (p.method_body w ws) low here g = (here, none_stand (same here), λ b there n h e l m. names_before g (trees_high (on l m) h))
keeps (p.body found) low here g =
    (λ t l m. (low, trees_high (on l m) g, λ v there n h. h), ((here, same here, λ a there n f. (low, trees_more g f, λ v last o h. h)), g))
keeps (p.body_rest found) low here g = (λ t l m. (low, trees_high (on l m) g, λ v there n h. h), g)
keeps p.statement low here g = (low, g, λ a there n f. (low, f, λ v last o h. h))
keeps p.simple low here g = (
  λ t l m. ((low, on g (on l m), λ a there n f. return_value_stands t.at f), return_nothing_stands t.at (on g (on l m))),
  (
    λ t l m. constant_stands node.Break t.at (on g (on l m)),
    (
      λ t l m. constant_stands node.Next t.at (on g (on l m)),
      (low, g, λ v there n h. h),
    ),
  ),
)
keeps (p.modified a) low here g = (
  λ t l m. (
    here,
    on l m,
    λ b there n f. keeps_decided (TreeFrom low) here there there t b (modify t a) f (λ condition e. keeps_modify low here there t a condition g e),
  ),
  g,
)
keeps (p.expression d) low here g = (low, g, λ part there n f. keeps_commanded low there part f)
keeps (p.assignment d) low here g = (low, g, λ part there n f. (low, f, λ v last o h. h))
keeps (p.assignment_rest d part) low here g = keeps_assigning low here d part (target_of part) g (target_of_stands low here part g)
keeps (p.argument d) low here g = (low, g, λ part there n f. keeps_operand (TreeFrom low) low there there part done f (λ a h. h))
keeps p.command_arguments low here g = (low, g, λ a there n f. (low, one_stands f, λ v last o h. h))
keeps (p.command_arguments_rest found) low here g = (λ t l m. (here, on l m, λ a there n f. (low, trees_more g f, λ v last o h. h)), g)
keeps (p.ternary d) low here g = (low, g, λ part there n f. (low, f, λ v last o h. h))
keeps (p.ternary_rest d part) low here g =
    keeps_unless_head low here part _ g (
      λ t l m. keeps_operand (PartFrom low) low here t.at.to part _ g (λ c f.
          (here, on l m, λ ab there n h. choice_stands t.at f (one_stands h.before) (one_stands h.behind))),
      g,
    )
keeps (p.branches d) low here g = (
  low,
  g,
  λ part there n e. keeps_operand (Good (p.branches d) low) low there there part _ e (λ a f t l m.
      (there, on l m, λ other last o h. keeps_operand (Good (p.branches d) low) there last last other _ h (λ b k. record { mid = there; before = f; behind = k }))),
)
keeps (p.chain d or_tier) low here g = (low, g, λ part there n f. (low, f, λ v last o h. h))
keeps (p.chain d and_tier) low here g = (low, g, λ part there n f. (low, f, λ v last o h. h))
keeps (p.chain d equal_tier) low here g = (low, g, λ part there n f. (low, f, λ v last o h. h))
keeps (p.chain d less_tier) low here g = (low, g, λ part there n f. (low, f, λ v last o h. h))
keeps (p.chain d shift_tier) low here g = (low, g, λ part there n f. (low, f, λ v last o h. h))
keeps (p.chain d sum_tier) low here g = (low, g, λ part there n f. (low, f, λ v last o h. h))
keeps (p.chain d product_tier) low here g = (low, g, λ part there n f. (low, f, λ v last o h. h))
keeps (p.chain d unary_tier) low here g = (low, g, λ v there n h. h)
keeps (p.chain_rest d tier part) low here g =
    keeps_unless_head low here part _ g (
      λ t l m. keeps_operand (PartFrom low) low here t.at.to part _ g (λ a f. (
        t.at.from,
        m,
        λ next there n e. keeps_operand (PartFrom low) t.at.from there there next _ e (λ b h.
            keeps_joined (PartFrom low) low there tier t a b _ (higher l f) h (λ both k. keeps_chained low there d tier both k)),
      )),
      g,
    )
keeps (p.unary d) low here g = (
  λ t l m. (low, on g (on l m), λ part there n e. keeps_operand (PartFrom low) low there there part _ e (λ a f. negated_stands t.at f)),
  (
    λ t l m. (
      (
        λ j l' m'. (low, integer_stands (neg_ℤ (integer_of j.kind)) t.at (on (on g (on l m)) (on l' m')), λ v there n h. h),
        (t.at.from, m, λ part there n e. keeps_operand (PartFrom low) t.at.from there there part _ e (λ a f. minus_stands t.at (on g l) f)),
      ),
      (t.at.from, m, λ part there n e. keeps_operand (PartFrom low) t.at.from there there part _ e (λ a f. minus_stands t.at (on g l) f)),
    ),
    (low, g, λ v there n h. h),
  ),
)
keeps (p.postfix d) low here g = (low, g, λ part there n f. (low, f, λ v last o h. h))
keeps (p.postfix_rest d part) low here g =
    keeps_unless_head low here part _ g (
      λ t l m. keeps_operand (PartFrom low) low here t.at.to part _ g (λ a f w l' m'.
          keeps_called low w.at.to d a (word_of w) (record { receiver = higher (on (on l m) l') f; behind = m' })),
      (
        λ t l m. keeps_operand (PartFrom low) low here t.at.to part _ g (λ a f.
            (t.at.from, m, λ j there n h. (low, record { receiver = higher l f; index = h }, λ v last o k. k))),
        g,
      ),
    )
keeps p.arguments low here g = (λ t l m. none_stand (on g (on l m)), (low, g, λ a there n f. (low, one_stands f, λ v last o h. h)))
keeps (p.arguments_rest found) low here g =
    (λ t l m. (here, on l m, λ a there n f. (low, trees_more g f, λ v last o h. h)), λ t l m. trees_high (on l m) g)
keeps p.index_rest low here g = (low, g, λ a there n f t l m. higher (on l m) f)
keeps (p.primary d) low here g = (
  λ t l m. integer_stands (integer_of t.kind) t.at (on g (on l m)),
  (
    λ t l m. (low, none_stand (on g (on l m)), λ pieces there n f. string_stands t.at pieces f),
    (
      λ t l m. symbol_stands (token_stands t (on g l) m),
      (
        λ t l m. constant_stands node.Nil t.at (on g (on l m)),
        (
          λ t l m. constant_stands node.True t.at (on g (on l m)),
          (
            λ t l m. constant_stands node.False t.at (on g (on l m)),
            (
              λ t l m. constant_stands node.SelfRef t.at (on g (on l m)),
              (
                λ t l m. token_stands t (on g l) m,
                (
                  λ t l m. token_stands t (on g l) m,
                  (
                    λ t l m. (
                      λ o l' m'. (t.at.from, on m (on l' m'), λ args there n s. call_stands (on g l) s),
                      keeps_plain_name low t.at.to (word_of t) (token_stands t (on g l) m),
                    ),
                    (
                      λ t l m o l1 m1 w l2 m2. (
                        keeps_thread low w.at.to d w (on (on g (on l m)) (on (on l1 m1) (on l2 m2))),
                        keeps_object low w.at.to (word_of t) w (record { before = on g l; behind = on m (on (on l1 m1) (on l2 m2)) }),
                      ),
                      (
                        λ t l m. (low, on g (on l m), λ items there n f. array_stands t.at f),
                        (
                          λ t l m. (low, on g (on l m), λ pairs there n f. hash_stands t.at pairs f),
                          (
                            λ t l m. (low, on g (on l m), λ a there n f. f),
                            (
                              λ t l m. (low, on g (on l m), λ a there n f. f),
                              λ t l m. (low, on g (on l m), λ a there n f. f),
                            ),
                          ),
                        ),
                      ),
                    ),
                  ),
                ),
              ),
            ),
          ),
        ),
      ),
    ),
  ),
)
keeps p.array_rest low here g = (λ t l m. none_stand (on g (on l m)), (low, g, λ a there n f. (low, one_stands f, λ v last o h. h)))
keeps (p.array_items_rest found) low here g = (
  λ t l m. (λ e l' m'. trees_high (on (on l m) (on l' m')) g, (here, on l m, λ a there n f. (low, trees_more g f, λ v last o h. h))),
  λ t l m. trees_high (on l m) g,
)
keeps p.hash_rest low here g = (λ t l m. none_stand (on g (on l m)), (low, g, λ ab there n f. (low, pair_stands f, λ v last o h. h)))
keeps (p.pairs_rest found) low here g = (
  λ t l m. (λ e l' m'. trees_high (on (on l m) (on l' m')) g, (here, on l m, λ ab there n f. (low, pairs_more found g f, λ v last o h. h))),
  λ t l m. trees_high (on l m) g,
)
keeps p.pair low here g = (
  λ t l m. (t.at.to, same t.at.to, λ b there n f. record { mid = t.at.to; before = symbol_stands (token_stands t (on g l) m); behind = f }),
  (low, g, λ a there n f t l m. (there, on l m, λ b last o h. record { mid = there; before = f; behind = h })),
)
keeps p.group_rest low here g = (low, g, λ a there n f t l m. higher (on l m) f)
keeps (p.conditional t) low here g = (
  low,
  g,
  λ a there n f.
      keeps_decided (TreeFrom low) low there there t a (λ condition. chosen (is_one (if_word ∷ []) t) t condition done) f
      (λ condition e. keeps_chosen (TreeFrom low) low there (is_one (if_word ∷ []) t) t condition done e (λ x last s. s)),
)
keeps p.then low here g = (λ t l m. tt, λ t l m. (λ w l' m'. tt, tt))
keeps (p.otherwise may_go_on) low here g = (
  λ t l m. (
    low,
    on g (on l m),
    λ condition there n e. keeps_chosen (TreesFrom low) low there true t condition (λ a. done (a ∷ [])) e (λ x last s. one_stands s),
  ),
  (
    λ t l m. (low, none_stand (on g (on l m)), λ b there n h e l' m'. trees_high (on l' m') h),
    λ t l m. none_stand (on g (on l m)),
  ),
)
keeps (p.loop_rest t) low here g =
    (low, g, λ a there n f. keeps_decided (TreeFrom low) low there there t a (looped t) f (λ c e. keeps_looped low there t c e))
keeps (p.text_rest found) low here g = (
  λ t l m. (low, pieces_bytes found (text_of t.kind) (trees_high (on l m) g), λ v there n h. h),
  (
    λ t l m. (here, on l m, λ a there n f. (low, pieces_more found g f, λ v last o h. h)),
    λ t l m. trees_high (on l m) g,
  ),
)
keeps p.code_rest low here g = (low, g, λ a there n f t l m. higher (on l m) f)
keeps (p.block_rest in_braces at) low here g = (
  λ t l m w l' m'. (
    at.from,
    one_named (token_stands w (on (on g.1 (on l m)) l') m'),
    λ ws there n h. (low, (g.0, h), λ v last o k. k),
  ),
  (low, (g.0, nothing_within g.1), λ v there n h. h),
)
keeps (p.bar_params_rest found) low here g =
    (λ t l m w l' m'. (low, names_more g (token_stands w (on (on l m) l') m'), λ v there n h. h), λ t l m. names_high (on l m) g)
keeps (p.block_body in_braces at ws) low here g = (
  here,
  none_stand (same here),
  λ b there n h e l m. record { mid = here; opened = g.0; params = g.1; body = trees_high (on l m) h },
)

-- what is spelled stands in order where its tokens do
pub spelled_in_order : (limit to depth levels : ℕ) (n : Phrase) (s : Scope) (ts : List Token) (v : Value n) (s' : Scope) (us : List Token) (low here : ℕ)
    → Given n low here → StandInOrder here to ts → spelled limit depth levels n s ts v s' us → Ends (Good n low) v here to us
spelled_in_order limit to zero levels n s ts v s' us low here g o d = absurd d
spelled_in_order limit to (suc depth) levels n s ts v s' us low here g o d =
    spells_keeps to (spelled limit depth) (spelled_in_order limit to depth) limit levels (Good n low) d here o (keeps n low here g)

-- where the tokens of a script stand in order, so do the names and the thread bodies in it
pub script_in_order : GivesInOrder
script_in_order limit levels from to tokens found o script =
    let e = spelled_in_order limit to script.depth levels (p.items no_items) top_level tokens found script.scopes [] from from
    (nothing_stands (same from)) o script.spells in
    let all = given_high e.left e.is in
    (all.named.rising, all.threaded.rising)
