use Rattle.rb_builder.specs.Builder.{walk_of}
use Rattle.rb_builder.specs.Grown.{IsTree, IsRow}
use Rattle.rb_builder.specs.Literal.{ArePieces, ArePairs}
use Rattle.rb_builder.specs.Operand.{IsPart}
use Rattle.rb_cursor.specs.Here.{at_rule}
use Rattle.rb_cursor.specs.State.{State, Reached, answer_at}
use Rattle.rb_grammar.specs.Look.{is, line}
use Rattle.rb_grammar.specs.Rule.{next_meets}
use Rattle.rb_phrases.proofs.Loops.{Gone, more_items, more_pairs, GoneOver}
use Rattle.rb_phrases.specs.Arms.{IsArm, AreArms}
use Rattle.rb_steps.specs.Tier.{tier_by, rank_of}
use Rattle.std.proofs.Common.{◌≡◌, ◌+◌, ◌*◌, ◌≤◌, length, [], false}
use Rattle.rb_grammar.specs.Phrase as p
use Rattle.rb_phrases.proofs.parser.Parser.+phrases.Given as goal

abbrev pub decreases-argument : goal.decreases-argument
decreases-argument l = length l.cursor.now.rest * 32 + 14

abbrev pub decreases-assignment : goal.decreases-assignment
decreases-assignment l = length l.cursor.now.rest * 32 + 13

abbrev pub decreases-branches : goal.decreases-branches
decreases-branches l = length l.cursor.now.rest * 32 + 13

abbrev pub decreases-command_arguments : goal.decreases-command_arguments
decreases-command_arguments l = length l.cursor.now.rest * 32 + 15

abbrev pub decreases-expression : goal.decreases-expression
decreases-expression l = length l.cursor.now.rest * 32 + 16

abbrev pub decreases-ternary : goal.decreases-ternary
decreases-ternary l = length l.cursor.now.rest * 32 + 12

abbrev pub decreases-unary : goal.decreases-unary
decreases-unary l = length l.cursor.now.rest * 32 + 3

abbrev pub decreases-chain : goal.decreases-chain
decreases-chain l = length l.cursor.now.rest * 32 + (4 + rank_of l.tier)

abbrev pub decreases-chained : goal.decreases-chained
decreases-chained l = length l.cursor.now.rest * 32 + (3 + rank_of l.tier)

abbrev pub invariant-chained-operators : goal.invariant-chained-operators
invariant-chained-operators l = record {
  gone : (s : State) → Reached (IsPart (walk_of l.fn.self.make)) l.fn.cursor (answer_at l.fn.self.levels (p.unary l.fn.takes_do) s) l.fn.first → Gone (IsPart (walk_of l.fn.self.make)) (answer_at l.fn.self.levels (p.chain l.fn.takes_do (tier_by l.fn.tier)) s) (λ q. answer_at l.fn.self.levels (p.chain_rest l.fn.takes_do (tier_by l.fn.tier) q) l.cursor) l.fn.cursor l.cursor l.part;
  shorter : length l.cursor.rest ≤ length l.fn.cursor.rest;
}

abbrev pub decreases-chained-operators : goal.decreases-chained-operators
decreases-chained-operators l = length l.cursor.rest

abbrev pub invariant-command_arguments-more : goal.invariant-command_arguments-more
invariant-command_arguments-more l = Gone (IsRow (walk_of l.fn.self.make)) (answer_at l.fn.self.levels p.command_arguments l.fn.cursor) (λ trees. answer_at l.fn.self.levels (p.command_arguments_rest trees) l.cursor) l.fn.cursor l.cursor l.row

abbrev pub decreases-command_arguments-more : goal.decreases-command_arguments-more
decreases-command_arguments-more l = length l.cursor.rest

abbrev pub decreases-arguments : goal.decreases-arguments
decreases-arguments l = length l.cursor.now.rest * 32 + 15

abbrev pub decreases-block : goal.decreases-block
decreases-block l = length l.cursor.now.rest * 32 + 20

abbrev pub decreases-block_behind : goal.decreases-block_behind
decreases-block_behind l = length l.cursor.now.rest * 32 + 0

abbrev pub decreases-block_of : goal.decreases-block_of
decreases-block_of l = length l.cursor.now.rest * 32 + 1

abbrev pub decreases-called : goal.decreases-called
decreases-called l = length l.cursor.now.rest * 32 + 3

abbrev pub decreases-called_so : goal.decreases-called_so
decreases-called_so l = length l.cursor.now.rest * 32 + 2

abbrev pub decreases-constructed : goal.decreases-constructed
decreases-constructed l = length l.cursor.now.rest * 32 + 0

abbrev pub decreases-index : goal.decreases-index
decreases-index l = length l.cursor.now.rest * 32 + 15

abbrev pub decreases-named : goal.decreases-named
decreases-named l = length l.cursor.now.rest * 32 + 0

abbrev pub decreases-postfix_rest : goal.decreases-postfix_rest
decreases-postfix_rest l = length l.cursor.now.rest * 32 + 0

abbrev pub decreases-primary : goal.decreases-primary
decreases-primary l = length l.cursor.now.rest * 32 + 1

abbrev pub decreases-thread : goal.decreases-thread
decreases-thread l = length l.cursor.now.rest * 32 + 1

abbrev pub invariant-arguments-more : goal.invariant-arguments-more
invariant-arguments-more l = Gone (IsRow (walk_of l.fn.self.make)) (answer_at l.inner.levels p.arguments l.fn.cursor) (λ trees. answer_at l.inner.levels (p.arguments_rest trees) l.cursor) l.fn.cursor l.cursor l.row

abbrev pub decreases-arguments-more : goal.decreases-arguments-more
decreases-arguments-more l = length l.cursor.rest

abbrev pub invariant-postfix_rest-behind : goal.invariant-postfix_rest-behind
invariant-postfix_rest-behind l = record {
  gone : (q : p.Part) → IsPart (walk_of l.fn.self.make) l.fn.first q → Gone (IsPart (walk_of l.fn.self.make)) (answer_at l.fn.self.levels (p.postfix_rest l.fn.takes_do q) l.fn.cursor) (λ r. answer_at l.fn.self.levels (p.postfix_rest l.fn.takes_do r) l.cursor) l.fn.cursor l.cursor l.part;
  shorter : length l.cursor.rest ≤ length l.fn.cursor.rest;
}

abbrev pub decreases-postfix_rest-behind : goal.decreases-postfix_rest-behind
decreases-postfix_rest-behind l = length l.cursor.rest

abbrev pub decreases-arm : goal.decreases-arm
decreases-arm l = length l.cursor.now.rest * 32 + 17

abbrev pub decreases-array : goal.decreases-array
decreases-array l = length l.cursor.now.rest * 32 + 0

abbrev pub decreases-array_items : goal.decreases-array_items
decreases-array_items l = length l.cursor.now.rest * 32 + 15

abbrev pub decreases-body : goal.decreases-body
decreases-body l = length l.cursor.now.rest * 32 + 19

abbrev pub decreases-choice : goal.decreases-choice
decreases-choice l = length l.cursor.now.rest * 32 + 0

abbrev pub decreases-conditional : goal.decreases-conditional
decreases-conditional l = length l.cursor.now.rest * 32 + 18

abbrev pub decreases-group : goal.decreases-group
decreases-group l = length l.cursor.now.rest * 32 + 0

abbrev pub decreases-hash : goal.decreases-hash
decreases-hash l = length l.cursor.now.rest * 32 + 0

abbrev pub decreases-looped : goal.decreases-looped
decreases-looped l = length l.cursor.now.rest * 32 + 0

abbrev pub decreases-otherwise : goal.decreases-otherwise
decreases-otherwise l = length l.cursor.now.rest * 32 + 0

abbrev pub decreases-pair : goal.decreases-pair
decreases-pair l = length l.cursor.now.rest * 32 + 15

abbrev pub decreases-pairs : goal.decreases-pairs
decreases-pairs l = length l.cursor.now.rest * 32 + 16

abbrev pub decreases-pieces : goal.decreases-pieces
decreases-pieces l = length l.cursor.now.rest * 32 + 0

abbrev pub decreases-repeated : goal.decreases-repeated
decreases-repeated l = length l.cursor.now.rest * 32 + 17

abbrev pub decreases-simple : goal.decreases-simple
decreases-simple l = length l.cursor.now.rest * 32 + 17

abbrev pub decreases-statement : goal.decreases-statement
decreases-statement l = length l.cursor.now.rest * 32 + 18

abbrev pub decreases-text : goal.decreases-text
decreases-text l = length l.cursor.now.rest * 32 + 0

abbrev pub invariant-array_items-items : goal.invariant-array_items-items
invariant-array_items-items l = Gone (IsRow (walk_of l.fn.self.make)) (answer_at l.fn.self.levels p.array_rest l.fn.cursor) (λ trees. at_rule l.fn.self.levels (more_items trees) l.cursor) l.fn.cursor l.cursor l.row

abbrev pub decreases-array_items-items : goal.decreases-array_items-items
decreases-array_items-items l = length l.cursor.rest

abbrev pub invariant-body-more : goal.invariant-body-more
invariant-body-more l = Gone (IsRow (walk_of l.fn.self.make)) (answer_at l.fn.self.levels (p.body []) l.fn.cursor) (λ trees. answer_at l.fn.self.levels (p.body trees) l.cursor) l.fn.cursor l.cursor l.row × (next_meets (is line) l.cursor.rest ≡ false)

abbrev pub decreases-body-more : goal.decreases-body-more
decreases-body-more l = length l.cursor.rest

abbrev pub invariant-conditional-arms : goal.invariant-conditional-arms
invariant-conditional-arms l = GoneOver (IsArm (walk_of l.fn.self.make)) (AreArms (walk_of l.fn.self.make)) l.fn.self.levels l.may_go_on l.fn.word l.fn.cursor l.cursor l.first l.more

abbrev pub decreases-conditional-arms : goal.decreases-conditional-arms
decreases-conditional-arms l = length l.cursor.rest

abbrev pub invariant-pairs-pairs : goal.invariant-pairs-pairs
invariant-pairs-pairs l = Gone (ArePairs (walk_of l.fn.self.make)) (answer_at l.fn.self.levels p.hash_rest l.fn.cursor) (λ trees. at_rule l.fn.self.levels (more_pairs trees) l.cursor) l.fn.cursor l.cursor l.row

abbrev pub decreases-pairs-pairs : goal.decreases-pairs-pairs
decreases-pairs-pairs l = length l.cursor.rest

abbrev pub invariant-pieces-pieces : goal.invariant-pieces-pieces
invariant-pieces-pieces l = Gone (ArePieces (walk_of l.fn.self.make)) (answer_at l.fn.self.levels (p.text_rest []) l.fn.cursor) (λ trees. answer_at l.fn.self.levels (p.text_rest trees) l.cursor) l.fn.cursor l.cursor l.row

abbrev pub decreases-pieces-pieces : goal.decreases-pieces-pieces
decreases-pieces-pieces l = length l.cursor.rest

abbrev pub invariant-statement-modifiers : goal.invariant-statement-modifiers
invariant-statement-modifiers l = Gone (IsTree (walk_of l.fn.self.make)) (answer_at l.fn.self.levels p.statement l.fn.cursor) (λ a. answer_at l.fn.self.levels (p.modified a) l.cursor) l.fn.cursor l.cursor l.grown

abbrev pub decreases-statement-modifiers : goal.decreases-statement-modifiers
decreases-statement-modifiers l = length l.cursor.rest
