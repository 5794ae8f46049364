-- What begins a phrase is in its table.
use Rattle.std.proofs.Common.{◌≡◌, Bool, true, false, ◌&&◌, ◌||◌, Option, Some, None, refl}
use Rattle.rb_grammar.specs.Look.{Class, Test, one_of}
use Rattle.rb_grammar.specs.Tree.{TargetTree}
use Rattle.rb_grammar.specs.Phrase.{Part, Tier, Phrase, Value}
use Rattle.rb_grammar.specs.Phrase.{or_tier, and_tier, equal_tier, less_tier, shift_tier, sum_tier, product_tier, unary_tier}
use Rattle.rb_grammar.specs.Phrase as p
use Rattle.rb_grammar.specs.Grammar.{rule, assigning, assignment_marks, target_of}
use Rattle.rb_grammar.specs.Heads.{starts, may_be_empty, empty, heads}
use Rattle.rb_grammar.proofs.Looks.{all_classes, holds_of, every}
use Rattle.rb_grammar.proofs.Follow.{implies}

-- whether a token that may begin the rule of a phrase is one that begins the phrase, or may stand behind it where it may be empty
abbrev Begun : Phrase → Bool → Test
unfolding rule
Begun n b class spaced = implies (heads (rule n) (λ v. b) class spaced) (starts n class spaced || (may_be_empty n && b))

-- a fact about each class, once where a flag is set and once where it is not
by_flag : (f : Bool → Test) → holds_of (f true) all_classes ≡ true → holds_of (f false) all_classes ≡ true → (b : Bool) (class : Class) (spaced : Bool) → f b class spaced ≡ true
by_flag f set clear true = every (f true) set
by_flag f set clear false = every (f false) clear

first_assigning : (d : Bool) (part : Part) (target : Option TargetTree) (at_end : Part → Bool) (class : Class) (spaced : Bool)
    → implies (heads (assigning d part target) at_end class spaced) (one_of assignment_marks class spaced || at_end part) ≡ true
first_assigning d part None at_end = by_flag (λ b class spaced. implies b (one_of assignment_marks class spaced || b)) refl refl (at_end part)
first_assigning d part (Some target) at_end =
    by_flag (λ b class spaced. implies (heads (assigning d part (Some target)) (λ v. b) class spaced) (one_of assignment_marks class spaced || b)) refl refl (at_end part)

pub first : (n : Phrase) (at_end : Value n → Bool) (class : Class) (spaced : Bool)
    → implies (heads (rule n) at_end class spaced) (starts n class spaced || (may_be_empty n && at_end (empty n))) ≡ true
unfolding rule
first (p.items found) at_end = by_flag (Begun (p.items found)) refl refl (at_end (empty (p.items found)))
first (p.items_rest found) at_end = by_flag (Begun (p.items_rest found)) refl refl (at_end (empty (p.items_rest found)))
first p.class_rest at_end = by_flag (Begun p.class_rest) refl refl (at_end (empty p.class_rest))
first (p.members_rest found) at_end = by_flag (Begun (p.members_rest found)) refl refl (at_end (empty (p.members_rest found)))
first p.symbols at_end = by_flag (Begun p.symbols) refl refl (at_end (empty p.symbols))
first (p.symbols_rest found) at_end = by_flag (Begun (p.symbols_rest found)) refl refl (at_end (empty (p.symbols_rest found)))
first p.method_rest at_end = by_flag (Begun p.method_rest) refl refl (at_end (empty p.method_rest))
first p.params at_end = by_flag (Begun p.params) refl refl (at_end (empty p.params))
first p.one_param at_end = by_flag (Begun p.one_param) refl refl (at_end (empty p.one_param))
first (p.params_rest found) at_end = by_flag (Begun (p.params_rest found)) refl refl (at_end (empty (p.params_rest found)))
first (p.method_body name words) at_end = by_flag (Begun (p.method_body name words)) refl refl (at_end (empty (p.method_body name words)))
first (p.body found) at_end = by_flag (Begun (p.body found)) refl refl (at_end (empty (p.body found)))
first (p.body_rest found) at_end = by_flag (Begun (p.body_rest found)) refl refl (at_end (empty (p.body_rest found)))
first p.statement at_end = by_flag (Begun p.statement) refl refl (at_end (empty p.statement))
first p.simple at_end = by_flag (Begun p.simple) refl refl (at_end (empty p.simple))
first (p.modified a) at_end = by_flag (Begun (p.modified a)) refl refl (at_end (empty (p.modified a)))
first (p.expression d) at_end = by_flag (Begun (p.expression d)) refl refl (at_end (empty (p.expression d)))
first (p.assignment d) at_end = by_flag (Begun (p.assignment d)) refl refl (at_end (empty (p.assignment d)))
first (p.argument d) at_end = by_flag (Begun (p.argument d)) refl refl (at_end (empty (p.argument d)))
first (p.ternary d) at_end = by_flag (Begun (p.ternary d)) refl refl (at_end (empty (p.ternary d)))
first (p.unary d) at_end = by_flag (Begun (p.unary d)) refl refl (at_end (empty (p.unary d)))
first (p.postfix d) at_end = by_flag (Begun (p.postfix d)) refl refl (at_end (empty (p.postfix d)))
first (p.primary d) at_end = by_flag (Begun (p.primary d)) refl refl (at_end (empty (p.primary d)))
first (p.assignment_rest d (p.plain o)) at_end = first_assigning d (p.plain o) (target_of (p.plain o)) at_end
first (p.assignment_rest d (p.head h)) at_end = by_flag (Begun (p.assignment_rest d (p.head h))) refl refl (at_end (empty (p.assignment_rest d (p.head h))))
first (p.ternary_rest d (p.plain o)) at_end = by_flag (Begun (p.ternary_rest d (p.plain o))) refl refl (at_end (empty (p.ternary_rest d (p.plain o))))
first (p.ternary_rest d (p.head h)) at_end = by_flag (Begun (p.ternary_rest d (p.head h))) refl refl (at_end (empty (p.ternary_rest d (p.head h))))
first (p.postfix_rest d (p.plain o)) at_end = by_flag (Begun (p.postfix_rest d (p.plain o))) refl refl (at_end (empty (p.postfix_rest d (p.plain o))))
first (p.postfix_rest d (p.head h)) at_end = by_flag (Begun (p.postfix_rest d (p.head h))) refl refl (at_end (empty (p.postfix_rest d (p.head h))))
first (p.branches d) at_end = by_flag (Begun (p.branches d)) refl refl (at_end (empty (p.branches d)))
first (p.chain d or_tier) at_end = by_flag (Begun (p.chain d or_tier)) refl refl (at_end (empty (p.chain d or_tier)))
first (p.chain d and_tier) at_end = by_flag (Begun (p.chain d and_tier)) refl refl (at_end (empty (p.chain d and_tier)))
first (p.chain d equal_tier) at_end = by_flag (Begun (p.chain d equal_tier)) refl refl (at_end (empty (p.chain d equal_tier)))
first (p.chain d less_tier) at_end = by_flag (Begun (p.chain d less_tier)) refl refl (at_end (empty (p.chain d less_tier)))
first (p.chain d shift_tier) at_end = by_flag (Begun (p.chain d shift_tier)) refl refl (at_end (empty (p.chain d shift_tier)))
first (p.chain d sum_tier) at_end = by_flag (Begun (p.chain d sum_tier)) refl refl (at_end (empty (p.chain d sum_tier)))
first (p.chain d product_tier) at_end = by_flag (Begun (p.chain d product_tier)) refl refl (at_end (empty (p.chain d product_tier)))
first (p.chain d unary_tier) at_end = by_flag (Begun (p.chain d unary_tier)) refl refl (at_end (empty (p.chain d unary_tier)))
first (p.chain_rest d or_tier (p.plain o)) at_end = by_flag (Begun (p.chain_rest d or_tier (p.plain o))) refl refl (at_end (empty (p.chain_rest d or_tier (p.plain o))))
first (p.chain_rest d or_tier (p.head h)) at_end = by_flag (Begun (p.chain_rest d or_tier (p.head h))) refl refl (at_end (empty (p.chain_rest d or_tier (p.head h))))
first (p.chain_rest d and_tier (p.plain o)) at_end = by_flag (Begun (p.chain_rest d and_tier (p.plain o))) refl refl (at_end (empty (p.chain_rest d and_tier (p.plain o))))
first (p.chain_rest d and_tier (p.head h)) at_end = by_flag (Begun (p.chain_rest d and_tier (p.head h))) refl refl (at_end (empty (p.chain_rest d and_tier (p.head h))))
first (p.chain_rest d equal_tier (p.plain o)) at_end = by_flag (Begun (p.chain_rest d equal_tier (p.plain o))) refl refl (at_end (empty (p.chain_rest d equal_tier (p.plain o))))
first (p.chain_rest d equal_tier (p.head h)) at_end = by_flag (Begun (p.chain_rest d equal_tier (p.head h))) refl refl (at_end (empty (p.chain_rest d equal_tier (p.head h))))
first (p.chain_rest d less_tier (p.plain o)) at_end = by_flag (Begun (p.chain_rest d less_tier (p.plain o))) refl refl (at_end (empty (p.chain_rest d less_tier (p.plain o))))
first (p.chain_rest d less_tier (p.head h)) at_end = by_flag (Begun (p.chain_rest d less_tier (p.head h))) refl refl (at_end (empty (p.chain_rest d less_tier (p.head h))))
first (p.chain_rest d shift_tier (p.plain o)) at_end = by_flag (Begun (p.chain_rest d shift_tier (p.plain o))) refl refl (at_end (empty (p.chain_rest d shift_tier (p.plain o))))
first (p.chain_rest d shift_tier (p.head h)) at_end = by_flag (Begun (p.chain_rest d shift_tier (p.head h))) refl refl (at_end (empty (p.chain_rest d shift_tier (p.head h))))
first (p.chain_rest d sum_tier (p.plain o)) at_end = by_flag (Begun (p.chain_rest d sum_tier (p.plain o))) refl refl (at_end (empty (p.chain_rest d sum_tier (p.plain o))))
first (p.chain_rest d sum_tier (p.head h)) at_end = by_flag (Begun (p.chain_rest d sum_tier (p.head h))) refl refl (at_end (empty (p.chain_rest d sum_tier (p.head h))))
first (p.chain_rest d product_tier (p.plain o)) at_end = by_flag (Begun (p.chain_rest d product_tier (p.plain o))) refl refl (at_end (empty (p.chain_rest d product_tier (p.plain o))))
first (p.chain_rest d product_tier (p.head h)) at_end = by_flag (Begun (p.chain_rest d product_tier (p.head h))) refl refl (at_end (empty (p.chain_rest d product_tier (p.head h))))
first (p.chain_rest d unary_tier (p.plain o)) at_end = by_flag (Begun (p.chain_rest d unary_tier (p.plain o))) refl refl (at_end (empty (p.chain_rest d unary_tier (p.plain o))))
first (p.chain_rest d unary_tier (p.head h)) at_end = by_flag (Begun (p.chain_rest d unary_tier (p.head h))) refl refl (at_end (empty (p.chain_rest d unary_tier (p.head h))))
first p.command_arguments at_end = by_flag (Begun p.command_arguments) refl refl (at_end (empty p.command_arguments))
first p.arguments at_end = by_flag (Begun p.arguments) refl refl (at_end (empty p.arguments))
first (p.command_arguments_rest found) at_end = by_flag (Begun (p.command_arguments_rest found)) refl refl (at_end (empty (p.command_arguments_rest found)))
first (p.arguments_rest found) at_end = by_flag (Begun (p.arguments_rest found)) refl refl (at_end (empty (p.arguments_rest found)))
first p.index_rest at_end = by_flag (Begun p.index_rest) refl refl (at_end (empty p.index_rest))
first p.group_rest at_end = by_flag (Begun p.group_rest) refl refl (at_end (empty p.group_rest))
first p.code_rest at_end = by_flag (Begun p.code_rest) refl refl (at_end (empty p.code_rest))
first p.array_rest at_end = by_flag (Begun p.array_rest) refl refl (at_end (empty p.array_rest))
first (p.array_items_rest found) at_end = by_flag (Begun (p.array_items_rest found)) refl refl (at_end (empty (p.array_items_rest found)))
first p.hash_rest at_end = by_flag (Begun p.hash_rest) refl refl (at_end (empty p.hash_rest))
first p.pair at_end = by_flag (Begun p.pair) refl refl (at_end (empty p.pair))
first (p.pairs_rest found) at_end = by_flag (Begun (p.pairs_rest found)) refl refl (at_end (empty (p.pairs_rest found)))
first (p.conditional word) at_end = by_flag (Begun (p.conditional word)) refl refl (at_end (empty (p.conditional word)))
first (p.loop_rest word) at_end = by_flag (Begun (p.loop_rest word)) refl refl (at_end (empty (p.loop_rest word)))
first p.then at_end = by_flag (Begun p.then) refl refl (at_end (empty p.then))
first (p.otherwise true) at_end = by_flag (Begun (p.otherwise true)) refl refl (at_end (empty (p.otherwise true)))
first (p.otherwise false) at_end = by_flag (Begun (p.otherwise false)) refl refl (at_end (empty (p.otherwise false)))
first (p.text_rest found) at_end = by_flag (Begun (p.text_rest found)) refl refl (at_end (empty (p.text_rest found)))
first (p.block_rest true at) at_end = by_flag (Begun (p.block_rest true at)) refl refl (at_end (empty (p.block_rest true at)))
first (p.block_rest false at) at_end = by_flag (Begun (p.block_rest false at)) refl refl (at_end (empty (p.block_rest false at)))
first (p.bar_params_rest found) at_end = by_flag (Begun (p.bar_params_rest found)) refl refl (at_end (empty (p.bar_params_rest found)))
first (p.block_body true at words) at_end = by_flag (Begun (p.block_body true at words)) refl refl (at_end (empty (p.block_body true at words)))
first (p.block_body false at words) at_end = by_flag (Begun (p.block_body false at words)) refl refl (at_end (empty (p.block_body false at words)))
