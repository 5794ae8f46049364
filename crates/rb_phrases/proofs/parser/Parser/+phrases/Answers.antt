use Rattle.rb_builder.specs.Block.{IsBlock}
use Rattle.rb_builder.specs.Builder.{walk_of}
use Rattle.rb_builder.specs.Grown.{IsTree, IsRow, Builds}
use Rattle.rb_builder.specs.Literal.{ArePieces, ArePairs}
use Rattle.rb_builder.specs.Operand.{IsPart, plain, value, indexed}
use Rattle.rb_cursor.proofs.Steps.{at_phrase, fails_at, handed_on, takes, misses, holds, fails, stops, first_token, second_token}
use Rattle.rb_cursor.proofs.Steps.{where_it_stood, through, reached_further, leads_to, arrives, to_first_token, by_rule}
use Rattle.rb_cursor.proofs.Steps.{carry, to_second_token, from_where_it_stood, fails_with, first, second, to_first}
use Rattle.rb_cursor.specs.Here.{at_rule}
use Rattle.rb_cursor.specs.State.{answer_at, memory}
use Rattle.rb_cursor.specs.Word.{word_by}
use Rattle.rb_grammar.specs.Grammar.{rule, operators, tighter, joined, chained, operand, as_value, text_of, finished, modify, looped}
use Rattle.rb_grammar.specs.Grammar.{allowed}
use Rattle.rb_grammar.specs.Look.{one_of, elsif_word}
use Rattle.rb_grammar.specs.Reading.{and_then}
use Rattle.rb_grammar.specs.Scope.{with_target}
use Rattle.rb_grammar.specs.Rule.{done, phrase, nested, next_meets, refuse}
use Rattle.rb_phrases.proofs.Bodies.{low_fails, low_ends, is_value, then_decided, decided_fails, ends_by}
use Rattle.rb_phrases.proofs.Bodies.{ends_with, leads, at_place, into_phrase, over_decided, over_modified, modify_fails}
use Rattle.rb_phrases.proofs.Bodies.{statement_begins, value_begins, value_seen, sees, no_elsif_at_end, arm_behind}
use Rattle.rb_phrases.proofs.Calls.{inside_ok, nested_no_longer, then_inside, inside_fails}
use Rattle.rb_phrases.proofs.Calls.{takes_as, picks, picks_other, changes, args_read, args_missing, read_comes, missing_comes, one_stood}
use Rattle.rb_phrases.proofs.Calls.{none_stood, no_ok, on_ok, ok_then, to_arguments, without_arguments, stands_no_longer, over_nested}
use Rattle.rb_phrases.proofs.Calls.{past_block, beyond_head, over_head, the_head, behind_part, over_operand, over_as, primary_is}
use Rattle.rb_phrases.proofs.Calls.{refuses, ThreadArgs, refuses_here, block_made, closer_took, not_at_end, leads_at, leads_here}
use Rattle.rb_phrases.proofs.Calls.{leads_back, over_inside, pick_no, with_block_named, closer_missed, new_of, handed_to}
use Rattle.rb_phrases.proofs.Calls.{handed_block, goes_from, node_goes_on, over_part, for_make}
use Rattle.rb_phrases.proofs.Choices.{first_arm, first_arm_fails, next_arm, next_arm_fails, arms_and, arm_no_longer, fewer}
use Rattle.rb_phrases.proofs.Expressions.{within_last, ends_in, commanded_head, commanded_plain}
use Rattle.rb_phrases.proofs.Ends.{at_the_rule, fails_at_the_rule, reached_rule, reached_at, made_by, over_phrase, over_opened, finishes, makes}
use Rattle.rb_phrases.proofs.Expressions.{rest_stops, rest_goes, unassigned_stops, assignment_goes, chain_unary, no_operator_ends, lone, lone_fails}
use Rattle.rb_phrases.proofs.Expressions.{chained_stops, glued_number, no_glued_number, number_part, glued_number_fails}
use Rattle.rb_phrases.proofs.Expressions.{other_follows, looks, looks_missed, in_tier, fails_in_tier, chain_fails, chain_leads, rest_leads}
use Rattle.rb_phrases.proofs.Expressions.{operand_leads, joined_leads, then_joined, joined_fails, chained_on}
use Rattle.rb_phrases.proofs.Forms.{then_operand, operand_fails, opens, fails_inside, stays_shut, took_less, no_longer, rest_of}
use Rattle.rb_phrases.proofs.Loops.{more_items, more_pairs}
use Rattle.rb_phrases.specs.Alternatives.{name, new}
use Rattle.rb_phrases.specs.Arms.{AreArms, arm_of, chosen_of}
use Rattle.rb_phrases.specs.Goes.{HasBlock, HasNoBlock}
use Rattle.rb_phrases.specs.Parts.{ArePair, WentBehind}
use Rattle.rb_steps.proofs.Parameters.{wanted_memory}
use Rattle.rb_steps.specs.Begins.{beginning_of}
use Rattle.rb_steps.specs.Tier.{tier_by}
use Rattle.rb_steps.specs.Within.{within_block}
use Rattle.std.proofs.Common.{rules, ◌≡◌, ◌≤◌, length, arith, ltb-true, to_z, of_z, w64, Ok, refl, sym, ap}
use Rattle.std.proofs.Common.{◌∙◌, subst, [], ◌∷◌, ◌++◌, false, true, None, Some, List}
use Rattle.std.specs.Prelude.{map}
use Rattle.rb_grammar.specs.Grammar as grammar
use Rattle.rb_grammar.specs.Look as look
use Rattle.rb_grammar.specs.Phrase as p
use Rattle.rb_grammar.specs.Tree as tree
use Rattle.rb_phrases.proofs.parser.Parser.+phrases.Goals as goal
use Rattle.rb_phrases.specs.Alternatives as alternatives
use Rattle.rb_steps.specs.declared.beginning.Beginning.TheVariants as begin
use Rattle.rb_tree.specs.declared.node.Node.TheVariants as node
use Rattle.rb_phrases.proofs.parser.Parser.+phrases.Goals.{thread-in-Some+in_ok-args-in-Some, thread-in-None}

pub argument-assignment-requires : goal.argument-assignment-requires
argument-assignment-requires t c =
    omega arith

pub argument-returns-in_err-part : goal.argument-returns-in_err-part
unfolding rule
argument-returns-in_err-part t c =
    handed_on _ _ c.from_residual.result c.from_residual.ensures.1
    (fails_at c.args.self.levels (p.argument c.args.takes_do) (fails c.in_err-part.ensures))

pub argument-returns : goal.argument-returns
unfolding rule
argument-returns t c =
    let found = c.in_ok-part.ensures in
    at_phrase c.args.self.levels (p.argument c.args.takes_do) (holds found (record { came = c.operand.ensures found.value found.same }))

pub branches-ternary-requires : goal.branches-ternary-requires
branches-ternary-requires t c =
    omega arith

pub branches-returns-in_err-part : goal.branches-returns-in_err-part
unfolding rule
branches-returns-in_err-part t c =
    handed_on _ _ c.from_residual.result c.from_residual.ensures.1
    (fails_at c.args.self.levels (p.branches c.args.takes_do) (fails c.in_err-part.ensures))

pub branches-returns-in_err-first : goal.branches-returns-in_err-first
unfolding rule
branches-returns-in_err-first t c =
    let found = c.in_ok-part.ensures in
    handed_on _ _ c.from_residual-in_err-first.result c.from_residual-in_err-first.ensures.1
    (fails_at c.args.self.levels (p.branches c.args.takes_do) (holds found (operand_fails _ _ (c.in_err-first.ensures found.value found.same))))

pub branches-returns-in_err-expect : goal.branches-returns-in_err-expect
unfolding rule
branches-returns-in_err-expect t c =
    let found = c.in_ok-part.ensures in
    handed_on _ _ c.from_residual-in_err-expect.result c.from_residual-in_err-expect.ensures.1
    (fails_at c.args.self.levels (p.branches c.args.takes_do) (holds found (then_operand _ _ (c.in_ok-first.ensures found.value found.same) (misses c.in_err-expect.ensures.took))))

pub branches-ternary-requires-2 : goal.branches-ternary-requires-2
branches-ternary-requires-2 t c =
    omega (arith, no_longer c.args.self.levels (p.ternary c.args.takes_do) c.args.cursor.now c.ternary.new.cursor c.in_ok-part.ensures, took_less c.in_ok-expect.ensures.took)

pub branches-returns-in_err-other : goal.branches-returns-in_err-other
unfolding rule
branches-returns-in_err-other t c =
    let found = c.in_ok-part.ensures in
    handed_on _ _ c.from_residual-in_err-other.result c.from_residual-in_err-other.ensures.1
    (fails_at c.args.self.levels (p.branches c.args.takes_do) (holds found (then_operand _ _ (c.in_ok-first.ensures found.value found.same) (takes c.in_ok-expect.ensures.took (fails c.in_err-other.ensures)))))

pub branches-returns-in_err-second : goal.branches-returns-in_err-second
unfolding rule
branches-returns-in_err-second t c =
    let found = c.in_ok-part.ensures in
    let other = c.in_ok-other.ensures in
    handed_on _ _ c.from_residual-in_err-second.result c.from_residual-in_err-second.ensures.1
    (fails_at c.args.self.levels (p.branches c.args.takes_do) (holds found (then_operand _ _ (c.in_ok-first.ensures found.value found.same) (takes c.in_ok-expect.ensures.took (holds other (operand_fails _ _ (c.in_err-second.ensures other.value other.same)))))))

pub branches-returns : goal.branches-returns
unfolding rule
branches-returns t c =
    let found = c.in_ok-part.ensures in
    let other = c.in_ok-other.ensures in
    let first = c.in_ok-first.ensures found.value found.same in
    let second = c.in_ok-second.ensures other.value other.same in
    at_phrase c.args.self.levels (p.branches c.args.takes_do)
    (holds found (then_operand _ _ first (takes c.in_ok-expect.ensures.took (holds other (then_operand _ _ second (stops (record { first = first.same; second = second.same })))))))

pub expression-assignment-requires : goal.expression-assignment-requires
expression-assignment-requires t c =
    omega arith

pub expression-returns-in_err-operand : goal.expression-returns-in_err-operand
unfolding rule
expression-returns-in_err-operand t c =
    handed_on _ _ c.from_residual.result c.from_residual.ensures.1
    (fails_at c.args.self.levels (p.expression c.args.takes_do) (fails c.in_err-operand.ensures))

pub expression-command_arguments-requires : goal.expression-command_arguments-requires
expression-command_arguments-requires t c =
    omega (arith, no_longer c.args.self.levels (p.assignment c.args.takes_do) c.args.cursor.now c.assignment.new.cursor c.in_ok-operand.ensures)

pub expression-returns-in_err-args-in-Head : goal.expression-returns-in_err-args-in-Head
unfolding rule
expression-returns-in_err-args-in-Head t c =
    let found = c.in_ok-operand.ensures in
    let same = subst (λ x. IsPart (walk_of c.args.self.make) x found.value) c.in-Head.is found.same in
    handed_on _ _ c.from_residual-in_err-args-in-Head.result c.from_residual-in_err-args-in-Head.ensures.1
    (fails_at c.args.self.levels (p.expression c.args.takes_do) (holds found (commanded_head same (λ h r. fails c.in_err-args-in-Head.ensures))))

pub expression-returns-in-Plain : goal.expression-returns-in-Plain
unfolding rule
expression-returns-in-Plain t c =
    let found = c.in_ok-operand.ensures in
    let same = subst (λ x. IsPart (walk_of c.args.self.make) x found.value) c.in-Plain.is found.same in
    at_phrase c.args.self.levels (p.expression c.args.takes_do) (holds found (commanded_plain same c.operand.ensures))

pub expression-returns-in_ok-args-in-Head : goal.expression-returns-in_ok-args-in-Head
unfolding rule
expression-returns-in_ok-args-in-Head t c =
    let found = c.in_ok-operand.ensures in
    let same = subst (λ x. IsPart (walk_of c.args.self.make) x found.value) c.in-Head.is found.same in
    let args = c.in_ok-args-in-Head.ensures in
    at_phrase c.args.self.levels (p.expression c.args.takes_do) (holds found (commanded_head same (λ h r. holds args (finishes (c.command.ensures h args.value r args.same)))))

pub command_arguments-argument-requires : goal.command_arguments-argument-requires
command_arguments-argument-requires t c =
    omega arith

pub command_arguments-returns-in_err-first : goal.command_arguments-returns-in_err-first
unfolding rule
command_arguments-returns-in_err-first t c =
    handed_on _ _ c.from_residual.result c.from_residual.ensures.1
    (fails_at c.args.self.levels (p.command_arguments) (fails c.in_err-first.ensures))

pub command_arguments-returns-in_err-push : goal.command_arguments-returns-in_err-push
unfolding rule
command_arguments-returns-in_err-push t c =
    handed_on _ _ c.from_residual-in_err-push.result c.from_residual-in_err-push.ensures.1 (wanted_memory c.in_err-push.ensures.memory)

pub command_arguments-more-init : goal.command_arguments-more-init
unfolding rule
command_arguments-more-init t c =
    let found = c.in_ok-first.ensures in
    record {
      value = found.value ∷ [];
      comes = leads_to c.args.self.levels p.command_arguments c.args.cursor.now (answer_at c.args.self.levels (p.command_arguments_rest (found.value ∷ [])) c.argument.new.cursor)
          (over_phrase found (arrives c.args.self.levels (p.command_arguments_rest (found.value ∷ [])) c.argument.new.cursor));
      same = c.in_ok-push.ensures.ok [] found.value c.row-row.ensures found.same;
      shorter = no_longer c.args.self.levels (p.argument false) c.args.cursor.now c.argument.new.cursor found;
    }

pub command_arguments-argument-requires-in-Some : goal.command_arguments-argument-requires-in-Some
command_arguments-argument-requires-in-Some t c =
    omega (arith, took_less c.in-Some.ensures.taken, c.more.invariant.shorter)

pub command_arguments-returns-in_err-next : goal.command_arguments-returns-in_err-next
unfolding rule
command_arguments-returns-in_err-next t c =
    handed_on _ _ c.from_residual-in_err-next.result c.from_residual-in_err-next.ensures.1
    (through c.more.invariant.comes (fails_at c.args.self.levels (p.command_arguments_rest c.more.invariant.value) (first_token refl c.in-Some.ensures.taken (fails c.in_err-next.ensures))))

pub command_arguments-more-smaller : goal.command_arguments-more-smaller
command_arguments-more-smaller t c =
    omega (arith, took_less c.in-Some.ensures.taken, no_longer c.args.self.levels (p.argument false) c.accept.new.self c.argument-in-Some.new.cursor c.in_ok-next.ensures)

pub command_arguments-more-preserved : goal.command_arguments-more-preserved
unfolding rule
command_arguments-more-preserved t c =
    let found = c.in_ok-next.ensures in
    let more = c.more.invariant.value ++ found.value ∷ [] in
    record {
      value = more;
      comes = c.more.invariant.comes
          ∙ leads_to c.args.self.levels (p.command_arguments_rest c.more.invariant.value) c.more.cursor (answer_at c.args.self.levels (p.command_arguments_rest more) c.argument-in-Some.new.cursor)
          (to_first_token refl c.in-Some.ensures.taken (over_phrase found (arrives c.args.self.levels (p.command_arguments_rest more) c.argument-in-Some.new.cursor)));
      same = c.in_ok-push-2.ensures.ok c.more.invariant.value found.value c.more.invariant.same found.same;
      shorter = omega (arith, took_less c.in-Some.ensures.taken, no_longer c.args.self.levels (p.argument false) c.accept.new.self c.argument-in-Some.new.cursor found, c.more.invariant.shorter);
    }

pub command_arguments-returns-in_err-push-2 : goal.command_arguments-returns-in_err-push-2
unfolding rule
command_arguments-returns-in_err-push-2 t c =
    handed_on _ _ c.from_residual-in_err-push-2.result c.from_residual-in_err-push-2.ensures.1 (wanted_memory c.in_err-push-2.ensures.memory)

pub assignment-ternary-requires : goal.assignment-ternary-requires
assignment-ternary-requires t c =
    omega arith

pub assignment-returns-in_err-part : goal.assignment-returns-in_err-part
unfolding rule
assignment-returns-in_err-part t c =
    handed_on _ _ c.from_residual.result c.from_residual.ensures.1
    (fails_at c.args.self.levels (p.assignment c.args.takes_do) (fails c.in_err-part.ensures))

pub assignment-returns-in_err-part-2 : goal.assignment-returns-in_err-part-2
unfolding rule
assignment-returns-in_err-part-2 t c =
    handed_on _ _ c.from_residual-in_err-part-2.result c.from_residual-in_err-part-2.ensures.1 (wanted_memory c.in_err-part-2.ensures.memory)

pub assignment-returns-in-Nothing : goal.assignment-returns-in-Nothing
unfolding rule
assignment-returns-in-Nothing t c =
    let found = c.in_ok-part.ensures in
    let after = subst (λ b. WentBehind (walk_of c.args.self.make) found.value c.ternary.new.cursor c.assignment_behind.new.cursor b) c.in-Nothing.is (c.in_ok-part-2.ensures.ok (walk_of c.args.self.make) found.value found.same) in
    reached_at c.args.self.levels (p.assignment c.args.takes_do) (holds found (unassigned_stops c.args.self.levels c.args.takes_do found.value after.0 after.1 after.2))

pub assignment-returns-in_err-inner : goal.assignment-returns-in_err-inner
unfolding rule
assignment-returns-in_err-inner t c =
    let found = c.in_ok-part.ensures in
    let after = subst (λ b. WentBehind (walk_of c.args.self.make) found.value c.ternary.new.cursor c.assignment_behind.new.cursor b) c.in-Mark.is (c.in_ok-part-2.ensures.ok (walk_of c.args.self.make) found.value found.same) in
    handed_on _ _ c.from_residual-in_err-inner.result c.from_residual-in_err-inner.ensures.1
    (fails_at c.args.self.levels (p.assignment c.args.takes_do) (holds found (assignment_goes c.args.self.levels c.args.takes_do found.value after.0 after.1 after.4 after.5 (stays_shut c.in_err-inner.ensures))))

pub assignment-expression-requires : goal.assignment-expression-requires
assignment-expression-requires t c =
    let found = c.in_ok-part.ensures in
    let after = subst (λ b. WentBehind (walk_of c.args.self.make) found.value c.ternary.new.cursor c.assignment_behind.new.cursor b) c.in-Mark.is (c.in_ok-part-2.ensures.ok (walk_of c.args.self.make) found.value found.same) in
    omega (arith, no_longer c.args.self.levels (p.ternary c.args.takes_do) c.args.cursor.now c.ternary.new.cursor found, took_less after.4, ap (λ s. length s.rest) {y = record after.3 { scope = with_target after.0 after.3.scope }} after.5)

pub assignment-returns-in_err-value : goal.assignment-returns-in_err-value
unfolding rule
assignment-returns-in_err-value t c =
    let found = c.in_ok-part.ensures in
    let after = subst (λ b. WentBehind (walk_of c.args.self.make) found.value c.ternary.new.cursor c.assignment_behind.new.cursor b) c.in-Mark.is (c.in_ok-part-2.ensures.ok (walk_of c.args.self.make) found.value found.same) in
    handed_on _ _ c.from_residual-in_err-value.result c.from_residual-in_err-value.ensures.1
    (fails_at c.args.self.levels (p.assignment c.args.takes_do) (holds found (assignment_goes c.args.self.levels c.args.takes_do found.value after.0 after.1 after.4 after.5 (fails_inside c.in_ok-inner.ensures.0 c.in_err-value.ensures))))

pub assignment-returns : goal.assignment-returns
unfolding rule
assignment-returns t c =
    let found = c.in_ok-part.ensures in
    let after = subst (λ b. WentBehind (walk_of c.args.self.make) found.value c.ternary.new.cursor c.assignment_behind.new.cursor b) c.in-Mark.is (c.in_ok-part-2.ensures.ok (walk_of c.args.self.make) found.value found.same) in
    let given = made_by IsTree c.in_ok-inner.ensures.1 c.in_ok-value.ensures in
    at_phrase c.args.self.levels (p.assignment c.args.takes_do) (holds found (assignment_goes c.args.self.levels c.args.takes_do found.value after.0 after.1 after.4 after.5 (opens c.in_ok-inner.ensures.0 given (record { came = c.assign.ensures after.0 given.value c.expression.new.cursor after.2 given.same }))))

pub ternary-chain-requires : goal.ternary-chain-requires
ternary-chain-requires t c =
    omega arith

pub ternary-returns-in_err-part : goal.ternary-returns-in_err-part
unfolding rule
ternary-returns-in_err-part t c =
    handed_on _ _ c.from_residual.result c.from_residual.ensures.1
    (fails_at c.args.self.levels (p.ternary c.args.takes_do) (fails c.in_err-part.ensures))

pub ternary-returns-in_default : goal.ternary-returns-in_default
unfolding rule
ternary-returns-in_default t c =
    let found = c.in_ok-part.ensures in
    reached_at c.args.self.levels (p.ternary c.args.takes_do) (holds found (within_last c.args.self.levels (p.ternary_rest c.args.takes_do found.value) (rest_stops (look.is look.question) _ refl found.same c.in_default.ensures.taken.0 c.in_default.ensures.taken.1)))

pub ternary-returns-in_err-condition : goal.ternary-returns-in_err-condition
unfolding rule
ternary-returns-in_err-condition t c =
    let found = c.in_ok-part.ensures in
    handed_on _ _ c.from_residual-in_err-condition.result c.from_residual-in_err-condition.ensures.1
    (fails_at c.args.self.levels (p.ternary c.args.takes_do) (holds found (within_last c.args.self.levels (p.ternary_rest c.args.takes_do found.value) (rest_goes (look.is look.question) _ refl found.same c.in-Some.ensures.taken.0 c.in-Some.ensures.taken.1 (operand_fails _ _ (c.in_err-condition.ensures found.value found.same))))))

pub ternary-returns-in_err-inner : goal.ternary-returns-in_err-inner
unfolding rule
ternary-returns-in_err-inner t c =
    let found = c.in_ok-part.ensures in
    let condition = c.in_ok-condition.ensures found.value found.same in
    handed_on _ _ c.from_residual-in_err-inner.result c.from_residual-in_err-inner.ensures.1
    (fails_at c.args.self.levels (p.ternary c.args.takes_do) (holds found (within_last c.args.self.levels (p.ternary_rest c.args.takes_do found.value) (rest_goes (look.is look.question) _ refl found.same c.in-Some.ensures.taken.0 c.in-Some.ensures.taken.1 (then_operand _ _ condition (stays_shut c.in_err-inner.ensures))))))

pub ternary-branches-requires : goal.ternary-branches-requires
ternary-branches-requires t c =
    let found = c.in_ok-part.ensures in
    omega (arith, no_longer c.args.self.levels (p.chain c.args.takes_do p.or_tier) c.args.cursor.now c.chain.new.cursor found, took_less c.in-Some.ensures.taken.1)

pub ternary-returns-in_err-first : goal.ternary-returns-in_err-first
unfolding rule
ternary-returns-in_err-first t c =
    let found = c.in_ok-part.ensures in
    let condition = c.in_ok-condition.ensures found.value found.same in
    handed_on _ _ c.from_residual-in_err-first.result c.from_residual-in_err-first.ensures.1
    (fails_at c.args.self.levels (p.ternary c.args.takes_do) (holds found (within_last c.args.self.levels (p.ternary_rest c.args.takes_do found.value) (rest_goes (look.is look.question) _ refl found.same c.in-Some.ensures.taken.0 c.in-Some.ensures.taken.1 (then_operand _ _ condition (fails_inside c.in_ok-inner.ensures.0 c.in_err-first.ensures))))))

pub ternary-returns : goal.ternary-returns
unfolding rule
ternary-returns t c =
    let found = c.in_ok-part.ensures in
    let condition = c.in_ok-condition.ensures found.value found.same in
    let both = made_by ArePair c.in_ok-inner.ensures.1 c.in_ok-first.ensures in
    at_phrase c.args.self.levels (p.ternary c.args.takes_do) (holds found (within_last c.args.self.levels (p.ternary_rest c.args.takes_do found.value) (rest_goes (look.is look.question) _ refl found.same c.in-Some.ensures.taken.0 c.in-Some.ensures.taken.1 (then_operand _ _ condition (opens c.in_ok-inner.ensures.0 both (makes (c.choice_of_two.ensures condition.value both.value.0 both.value.1 condition.same both.same.first both.same.second)))))))

pub unary-returns-in_err-inner : goal.unary-returns-in_err-inner
unfolding rule
unary-returns-in_err-inner t c =
    handed_on _ _ c.from_residual.result c.from_residual.ensures.1
    (fails_at c.args.self.levels (p.unary c.args.takes_do) (first_token refl c.in-Some.ensures.taken (stays_shut c.in_err-inner.ensures)))

pub unary-unary-requires : goal.unary-unary-requires
unary-unary-requires t c =
    omega (arith, took_less c.in-Some.ensures.taken)

pub unary-returns-in_err-part : goal.unary-returns-in_err-part
unfolding rule
unary-returns-in_err-part t c =
    handed_on _ _ c.from_residual-in_err-part.result c.from_residual-in_err-part.ensures.1
    (fails_at c.args.self.levels (p.unary c.args.takes_do) (first_token refl c.in-Some.ensures.taken (fails_inside c.in_ok-inner.ensures.0 c.in_err-part.ensures)))

pub unary-returns-in_err-grown : goal.unary-returns-in_err-grown
unfolding rule
unary-returns-in_err-grown t c =
    let found = made_by IsPart c.in_ok-inner.ensures.1 c.in_ok-part.ensures in
    handed_on _ _ c.from_residual-in_err-grown.result c.from_residual-in_err-grown.ensures.1
    (fails_at c.args.self.levels (p.unary c.args.takes_do) (first_token refl c.in-Some.ensures.taken (opens c.in_ok-inner.ensures.0 found (operand_fails _ _ (c.in_err-grown.ensures found.value found.same)))))

pub unary-returns-in-Some : goal.unary-returns-in-Some
unfolding rule
unary-returns-in-Some t c =
    let found = made_by IsPart c.in_ok-inner.ensures.1 c.in_ok-part.ensures in
    let grown = c.in_ok-grown.ensures found.value found.same in
    at_phrase c.args.self.levels (p.unary c.args.takes_do) (first_token refl c.in-Some.ensures.taken (opens c.in_ok-inner.ensures.0 found (then_operand _ _ grown (makes (c.as_value.ensures (walk_of c.args.self.make) (tree.negated c.in-Some.mark.now.at grown.value) (c.negated.ensures grown.value grown.same))))))

pub unary-primary-requires : goal.unary-primary-requires
unary-primary-requires t c =
    omega (arith, ap (λ s. length s.rest) c.in_default.ensures.taken.1, ap (λ s. length s.rest) c.in_default-accept.ensures.taken.1)

pub unary-returns-in_err-part-2 : goal.unary-returns-in_err-part-2
unfolding rule
unary-returns-in_err-part-2 t c =
    handed_on _ _ c.from_residual-in_err-part-2.result c.from_residual-in_err-part-2.ensures.1
    (fails_at c.args.self.levels (p.unary c.args.takes_do) (second_token refl c.in_default.ensures.taken.0 (where_it_stood c.in_default.ensures.taken.1 (second_token refl c.in_default-accept.ensures.taken.0 (where_it_stood c.in_default-accept.ensures.taken.1 (within_last c.args.self.levels (p.postfix c.args.takes_do) (fails c.in_err-part-2.ensures)))))))

pub unary-returns-in_default-accept : goal.unary-returns-in_default-accept
unfolding rule
unary-returns-in_default-accept t c =
    let found = c.in_ok-part-2.ensures in
    at_phrase c.args.self.levels (p.unary c.args.takes_do) (second_token refl c.in_default.ensures.taken.0 (where_it_stood c.in_default.ensures.taken.1 (second_token refl c.in_default-accept.ensures.taken.0 (where_it_stood c.in_default-accept.ensures.taken.1 (within_last c.args.self.levels (p.postfix c.args.takes_do) (holds found (ends_in c.args.self.levels (p.postfix_rest c.args.takes_do found.value) (c.postfix_rest.ensures found.value found.same))))))))

pub unary-returns-in_err-integer : goal.unary-returns-in_err-integer
unfolding rule
unary-returns-in_err-integer t c =
    handed_on _ _ c.from_residual-in_err-integer.result c.from_residual-in_err-integer.ensures.1
    (fails_at c.args.self.levels (p.unary c.args.takes_do) (second_token refl c.in_default.ensures.taken.0 (where_it_stood c.in_default.ensures.taken.1 (first_token refl c.in-Some-accept.ensures.taken (record { came = glued_number_fails (walk_of c.args.self.make) c.in-Some-accept_negative.number c.in-Some-accept.mark.now.at c.in_err-integer.ensures })))))

pub unary-returns-in-Some-accept_negative : goal.unary-returns-in-Some-accept_negative
unfolding rule
unary-returns-in-Some-accept_negative t c =
    let number = c.in-Some-accept_negative.ensures.taken in
    let stored : to_z w64 (of_z w64 c.in-Some-accept_negative.number) ≡ c.in-Some-accept_negative.number = search rules in
    let found = number_part c.value-part.ensures (subst (λ n. Builds (walk_of c.args.self.make) (tree.integer n c.in-Some-accept.mark.now.at) (Ok c.in_ok-integer.field-0)) stored c.in_ok-integer.ensures) in
    at_phrase c.args.self.levels (p.unary c.args.takes_do) (second_token refl c.in_default.ensures.taken.0 (where_it_stood c.in_default.ensures.taken.1 (first_token refl c.in-Some-accept.ensures.taken (glued_number c.in-Some-accept.mark.now number (ends_in c.args.self.levels (p.postfix_rest c.args.takes_do (as_value (tree.integer c.in-Some-accept_negative.number c.in-Some-accept.mark.now.at))) (c.postfix_rest-in-Some-accept_negative.ensures (as_value (tree.integer c.in-Some-accept_negative.number c.in-Some-accept.mark.now.at)) found))))))

pub unary-returns-in_err-inner-2 : goal.unary-returns-in_err-inner-2
unfolding rule
unary-returns-in_err-inner-2 t c =
    handed_on _ _ c.from_residual-in_err-inner-2.result c.from_residual-in_err-inner-2.ensures.1
    (fails_at c.args.self.levels (p.unary c.args.takes_do) (second_token refl c.in_default.ensures.taken.0 (where_it_stood c.in_default.ensures.taken.1 (first_token refl c.in-Some-accept.ensures.taken (no_glued_number c.in-Some-accept.mark.now c.in_default-accept_negative.ensures.taken.0 c.in_default-accept_negative.ensures.taken.1 (stays_shut c.in_err-inner-2.ensures))))))

pub unary-unary-requires-2 : goal.unary-unary-requires-2
unary-unary-requires-2 t c =
    omega (arith, ap (λ s. length s.rest) c.in_default.ensures.taken.1, took_less c.in-Some-accept.ensures.taken, ap (λ s. length s.rest) c.in_default-accept_negative.ensures.taken.1)

pub unary-returns-in_err-part-3 : goal.unary-returns-in_err-part-3
unfolding rule
unary-returns-in_err-part-3 t c =
    handed_on _ _ c.from_residual-in_err-part-3.result c.from_residual-in_err-part-3.ensures.1
    (fails_at c.args.self.levels (p.unary c.args.takes_do) (second_token refl c.in_default.ensures.taken.0 (where_it_stood c.in_default.ensures.taken.1 (first_token refl c.in-Some-accept.ensures.taken (no_glued_number c.in-Some-accept.mark.now c.in_default-accept_negative.ensures.taken.0 c.in_default-accept_negative.ensures.taken.1 (fails_inside c.in_ok-inner-2.ensures.0 c.in_err-part-3.ensures))))))

pub unary-returns-in_err-grown-2 : goal.unary-returns-in_err-grown-2
unfolding rule
unary-returns-in_err-grown-2 t c =
    let found = made_by IsPart c.in_ok-inner-2.ensures.1 c.in_ok-part-3.ensures in
    handed_on _ _ c.from_residual-in_err-grown-2.result c.from_residual-in_err-grown-2.ensures.1
    (fails_at c.args.self.levels (p.unary c.args.takes_do) (second_token refl c.in_default.ensures.taken.0 (where_it_stood c.in_default.ensures.taken.1 (first_token refl c.in-Some-accept.ensures.taken (no_glued_number c.in-Some-accept.mark.now c.in_default-accept_negative.ensures.taken.0 c.in_default-accept_negative.ensures.taken.1 (opens c.in_ok-inner-2.ensures.0 found (operand_fails _ _ (c.in_err-grown-2.ensures found.value found.same))))))))

pub unary-returns : goal.unary-returns
unfolding rule
unary-returns t c =
    let found = made_by IsPart c.in_ok-inner-2.ensures.1 c.in_ok-part-3.ensures in
    let grown = c.in_ok-grown-2.ensures found.value found.same in
    at_phrase c.args.self.levels (p.unary c.args.takes_do) (second_token refl c.in_default.ensures.taken.0 (where_it_stood c.in_default.ensures.taken.1 (first_token refl c.in-Some-accept.ensures.taken (no_glued_number c.in-Some-accept.mark.now c.in_default-accept_negative.ensures.taken.0 c.in_default-accept_negative.ensures.taken.1 (opens c.in_ok-inner-2.ensures.0 found (then_operand _ _ grown (makes (c.as_value-2.ensures (walk_of c.args.self.make) (tree.minus c.in-Some-accept.mark.now.at grown.value) (c.minus.ensures grown.value grown.same)))))))))

pub chain-unary-requires : goal.chain-unary-requires
chain-unary-requires t c =
    omega arith

pub chain-returns-in_err-first : goal.chain-returns-in_err-first
chain-returns-in_err-first t c =
    handed_on _ _ c.from_residual.result c.from_residual.ensures.1
    (lone_fails c.args.self.levels c.args.takes_do c.args.cursor.now _ c.in_err-first.ensures (tier_by c.args.tier))

pub chain-returns-then-not-goes_on : goal.chain-returns-then-not-goes_on
chain-returns-then-not-goes_on t c =
    lone (walk_of c.args.self.make) c.args.self.levels c.args.takes_do c.args.cursor.now c.unary.new.cursor _ c.in_ok-first.ensures (tier_by c.args.tier) (sym c.goes_on.ensures ∙ c.if-not-goes_on.true)

pub chain-chained-requires : goal.chain-chained-requires
chain-chained-requires t c =
    omega (arith, no_longer c.args.self.levels (p.unary c.args.takes_do) c.args.cursor.now c.unary.new.cursor c.in_ok-first.ensures)

pub chain-returns : goal.chain-returns
chain-returns t c =
    c.chained.ensures.came c.args.cursor.now c.in_ok-first.ensures

pub chained-returns-in_default-clause-came : goal.chained-returns-in_default-clause-came
chained-returns-in_default-clause-came t c = λ s found.
    chain_unary (IsPart (walk_of c.args.self.make)) c.args.self.levels c.args.takes_do (tier_by c.args.tier) s c.args.cursor.now (Ok c.args.first) c.in_default.ensures found

pub chained-returns-in_default-clause-shorter : goal.chained-returns-in_default-clause-shorter
chained-returns-in_default-clause-shorter t c =
    omega arith

pub chained-chained-requires : goal.chained-chained-requires
chained-chained-requires t c =
    omega (arith, ltb-true _ _ c.in-Some.ensures.2)

pub chained-returns-in_err-part-clause-came : goal.chained-returns-in_err-part-clause-came
chained-returns-in_err-part-clause-came t c = λ s found.
    handed_on _ _ c.from_residual.result c.from_residual.ensures.1
    (chain_fails c.args.self.levels c.args.takes_do (tier_by c.args.tier) s c.in-Some.ensures.1 (fails_in_tier c.args.self.levels c.args.takes_do s c.in-Some.ensures.0 (c.in_err-part.ensures.came s found)))

pub chained-returns-in_err-part-clause-shorter : goal.chained-returns-in_err-part-clause-shorter
chained-returns-in_err-part-clause-shorter t c =
    no_ok _ _ c.from_residual.result c.from_residual.ensures.1

pub chained-operators-init : goal.chained-operators-init
chained-operators-init t c = record {
  gone = λ s found.
      let before = in_tier c.args.self.levels c.args.takes_do s c.in-Some.ensures.0 (c.in_ok-part.ensures.came s found) in
      record {
        value = before.value;
        comes = chain_leads c.args.self.levels c.args.takes_do (tier_by c.args.tier) s c.in-Some.ensures.1 before;
        same = before.same;
        shorter = c.in_ok-part.ensures.shorter;
      };
  shorter = c.in_ok-part.ensures.shorter;
}

pub chained-chain-requires : goal.chained-chain-requires
chained-chain-requires t c =
    omega (arith, took_less c.in-Some-operator_behind.ensures.taken.1, c.operators.invariant.shorter, ltb-true _ _ c.in-Some.ensures.2)

pub chained-returns-in_err-left-clause-came : goal.chained-returns-in_err-left-clause-came
unfolding rule
chained-returns-in_err-left-clause-came t c = λ s found.
    let kept = c.operators.invariant.gone s found in
    let taken = c.in-Some-operator_behind.ensures.taken in
    handed_on _ _ c.from_residual-in_err-left.result c.from_residual-in_err-left.ensures.1
    (through kept.comes (fails_at c.args.self.levels (p.chain_rest c.args.takes_do (tier_by c.args.tier) kept.value) (rest_goes (one_of (operators (tier_by c.args.tier))) _ (no_operator_ends (tier_by c.args.tier)) kept.same taken.0 taken.1 (operand_fails _ _ (c.in_err-left.ensures kept.value kept.same)))))

pub chained-returns-in_err-left-clause-shorter : goal.chained-returns-in_err-left-clause-shorter
chained-returns-in_err-left-clause-shorter t c =
    no_ok _ _ c.from_residual-in_err-left.result c.from_residual-in_err-left.ensures.1

pub chained-returns-in_err-next-clause-came : goal.chained-returns-in_err-next-clause-came
unfolding rule
chained-returns-in_err-next-clause-came t c = λ s found.
    let kept = c.operators.invariant.gone s found in
    let taken = c.in-Some-operator_behind.ensures.taken in
    let left = c.in_ok-left.ensures kept.value kept.same in
    handed_on _ _ c.from_residual-in_err-next.result c.from_residual-in_err-next.ensures.1
    (through kept.comes (fails_at c.args.self.levels (p.chain_rest c.args.takes_do (tier_by c.args.tier) kept.value) (rest_goes (one_of (operators (tier_by c.args.tier))) _ (no_operator_ends (tier_by c.args.tier)) kept.same taken.0 taken.1 (then_operand _ _ left (fails (fails_in_tier c.args.self.levels c.args.takes_do c.operator_behind.new.cursor c.in-Some.ensures.0 c.in_err-next.ensures))))))

pub chained-returns-in_err-next-clause-shorter : goal.chained-returns-in_err-next-clause-shorter
chained-returns-in_err-next-clause-shorter t c =
    no_ok _ _ c.from_residual-in_err-next.result c.from_residual-in_err-next.ensures.1

pub chained-returns-in_err-right-clause-came : goal.chained-returns-in_err-right-clause-came
unfolding rule
chained-returns-in_err-right-clause-came t c = λ s found.
    let kept = c.operators.invariant.gone s found in
    let taken = c.in-Some-operator_behind.ensures.taken in
    let left = c.in_ok-left.ensures kept.value kept.same in
    let next = in_tier c.args.self.levels c.args.takes_do c.operator_behind.new.cursor c.in-Some.ensures.0 c.in_ok-next.ensures in
    handed_on _ _ c.from_residual-in_err-right.result c.from_residual-in_err-right.ensures.1
    (through kept.comes (fails_at c.args.self.levels (p.chain_rest c.args.takes_do (tier_by c.args.tier) kept.value) (rest_goes (one_of (operators (tier_by c.args.tier))) _ (no_operator_ends (tier_by c.args.tier)) kept.same taken.0 taken.1 (then_operand _ _ left (holds next (operand_fails _ _ (c.in_err-right.ensures next.value next.same)))))))

pub chained-returns-in_err-right-clause-shorter : goal.chained-returns-in_err-right-clause-shorter
chained-returns-in_err-right-clause-shorter t c =
    no_ok _ _ c.from_residual-in_err-right.result c.from_residual-in_err-right.ensures.1

pub chained-returns-in_err-joined-clause-came : goal.chained-returns-in_err-joined-clause-came
unfolding rule
chained-returns-in_err-joined-clause-came t c = λ s found.
    let kept = c.operators.invariant.gone s found in
    let taken = c.in-Some-operator_behind.ensures.taken in
    let left = c.in_ok-left.ensures kept.value kept.same in
    let next = in_tier c.args.self.levels c.args.takes_do c.operator_behind.new.cursor c.in-Some.ensures.0 c.in_ok-next.ensures in
    let right = c.in_ok-right.ensures next.value next.same in
    handed_on _ _ c.from_residual-in_err-joined.result c.from_residual-in_err-joined.ensures.1
    (through kept.comes (fails_at c.args.self.levels (p.chain_rest c.args.takes_do (tier_by c.args.tier) kept.value) (rest_goes (one_of (operators (tier_by c.args.tier))) _ (no_operator_ends (tier_by c.args.tier)) kept.same taken.0 taken.1 (then_operand _ _ left (holds next (then_operand _ _ right (joined_fails (tier_by c.args.tier) c.in-Some-operator_behind.token.now left.value right.value _ (c.in_err-joined.ensures left.value right.value c.chain.new.cursor left.same right.same))))))))

pub chained-returns-in_err-joined-clause-shorter : goal.chained-returns-in_err-joined-clause-shorter
chained-returns-in_err-joined-clause-shorter t c =
    no_ok _ _ c.from_residual-in_err-joined.result c.from_residual-in_err-joined.ensures.1

pub chained-returns-then-joins_once-clause-came : goal.chained-returns-then-joins_once-clause-came
unfolding rule
chained-returns-then-joins_once-clause-came t c = λ s found.
    let kept = c.operators.invariant.gone s found in
    let taken = c.in-Some-operator_behind.ensures.taken in
    let left = c.in_ok-left.ensures kept.value kept.same in
    let next = in_tier c.args.self.levels c.args.takes_do c.operator_behind.new.cursor c.in-Some.ensures.0 c.in_ok-next.ensures in
    let right = c.in_ok-right.ensures next.value next.same in
    let both = c.in_ok-joined.ensures left.value right.value c.chain.new.cursor left.same right.same in
    reached_further kept.comes (reached_at c.args.self.levels (p.chain_rest c.args.takes_do (tier_by c.args.tier) kept.value) (rest_goes (one_of (operators (tier_by c.args.tier))) _ (no_operator_ends (tier_by c.args.tier)) kept.same taken.0 taken.1 (then_operand _ _ left (holds next (then_operand _ _ right (then_joined (tier_by c.args.tier) c.in-Some-operator_behind.token.now left.value right.value _ both (chained_stops c.args.takes_do (tier_by c.args.tier) (sym c.joins_once.ensures ∙ c.if-joins_once.true) c.value-part.ensures both.same)))))))

pub chained-returns-then-joins_once-clause-shorter : goal.chained-returns-then-joins_once-clause-shorter
chained-returns-then-joins_once-clause-shorter t c =
    let taken = c.in-Some-operator_behind.ensures.taken in
    let next = in_tier c.args.self.levels c.args.takes_do c.operator_behind.new.cursor c.in-Some.ensures.0 c.in_ok-next.ensures in
    omega (arith, c.operators.invariant.shorter, took_less taken.1, no_longer c.args.self.levels (p.chain c.args.takes_do (tighter (tier_by c.args.tier))) c.operator_behind.new.cursor c.chain.new.cursor next)

pub chained-operators-smaller : goal.chained-operators-smaller
chained-operators-smaller t c =
    let taken = c.in-Some-operator_behind.ensures.taken in
    let next = in_tier c.args.self.levels c.args.takes_do c.operator_behind.new.cursor c.in-Some.ensures.0 c.in_ok-next.ensures in
    omega (arith, took_less taken.1, no_longer c.args.self.levels (p.chain c.args.takes_do (tighter (tier_by c.args.tier))) c.operator_behind.new.cursor c.chain.new.cursor next)

pub chained-operators-preserved : goal.chained-operators-preserved
unfolding rule
chained-operators-preserved t c = record {
  gone = λ s found.
      let kept = c.operators.invariant.gone s found in
      let taken = c.in-Some-operator_behind.ensures.taken in
      let left = c.in_ok-left.ensures kept.value kept.same in
      let next = in_tier c.args.self.levels c.args.takes_do c.operator_behind.new.cursor c.in-Some.ensures.0 c.in_ok-next.ensures in
      let right = c.in_ok-right.ensures next.value next.same in
      let both = c.in_ok-joined.ensures left.value right.value c.chain.new.cursor left.same right.same in
      record {
        value = as_value both.value;
        comes = kept.comes ∙ leads_to c.args.self.levels (p.chain_rest c.args.takes_do (tier_by c.args.tier) kept.value) c.operators.cursor (answer_at c.args.self.levels (p.chain_rest c.args.takes_do (tier_by c.args.tier) (as_value both.value)) c.chain.new.cursor)
            (rest_leads (one_of (operators (tier_by c.args.tier))) _ (no_operator_ends (tier_by c.args.tier)) kept.same taken.0 taken.1 (operand_leads _ _ left (over_phrase next (operand_leads _ _ right (joined_leads (tier_by c.args.tier) c.in-Some-operator_behind.token.now left.value right.value _ both (chained_on c.args.self.levels c.args.takes_do (tier_by c.args.tier) c.chain.new.cursor both.value (sym c.joins_once.ensures ∙ c.if-joins_once.false)))))));
        same = subst (λ x. IsPart (walk_of c.args.self.make) x (as_value both.value)) (sym c.value-part.ensures) (plain (value both.same));
        shorter = omega (arith, took_less taken.1, no_longer c.args.self.levels (p.chain c.args.takes_do (tighter (tier_by c.args.tier))) c.operator_behind.new.cursor c.chain.new.cursor next, kept.shorter);
      };
  shorter =
      let taken = c.in-Some-operator_behind.ensures.taken in
      let next = in_tier c.args.self.levels c.args.takes_do c.operator_behind.new.cursor c.in-Some.ensures.0 c.in_ok-next.ensures in
      omega (arith, c.operators.invariant.shorter, took_less taken.1, no_longer c.args.self.levels (p.chain c.args.takes_do (tighter (tier_by c.args.tier))) c.operator_behind.new.cursor c.chain.new.cursor next);
}

pub chained-returns-clause-came : goal.chained-returns-clause-came
unfolding rule
chained-returns-clause-came t c = λ s found.
    let kept = c.operators.invariant.gone s found in
    let none = c.in_default-operator_behind.ensures.taken in
    reached_further kept.comes (reached_at c.args.self.levels (p.chain_rest c.args.takes_do (tier_by c.args.tier) kept.value) (rest_stops (one_of (operators (tier_by c.args.tier))) _ (no_operator_ends (tier_by c.args.tier)) kept.same none.0 none.1))

pub chained-returns-clause-shorter : goal.chained-returns-clause-shorter
chained-returns-clause-shorter t c =
    omega (arith, c.operators.invariant.shorter, stands_no_longer c.in_default-operator_behind.ensures.taken.1)

pub command_arguments-returns-in_err-expect_more : goal.command_arguments-returns-in_err-expect_more
unfolding rule
command_arguments-returns-in_err-expect_more t c =
    let none = c.in_default.ensures.taken in
    handed_on _ _ c.from_residual-in_err-expect_more.result c.from_residual-in_err-expect_more.ensures.1
    (through c.more.invariant.comes (fails_at c.args.self.levels (p.command_arguments_rest c.more.invariant.value) (second_token refl none.0 (where_it_stood none.1 (looks_missed c.in_err-expect_more.ensures)))))

pub command_arguments-returns : goal.command_arguments-returns
unfolding rule
command_arguments-returns t c =
    let none = c.in_default.ensures.taken in
    reached_further c.more.invariant.comes (reached_at c.args.self.levels (p.command_arguments_rest c.more.invariant.value) (second_token refl none.0 (where_it_stood none.1 (looks (other_follows (look.is look.comma) c.accept.new.self.rest c.in_ok-expect_more.ensures (ap (λ s. next_meets (look.is look.comma) s.rest) none.1 ∙ none.0)) (stops c.more.invariant.same)))))

pub arguments-returns-in_err-inner : goal.arguments-returns-in_err-inner
arguments-returns-in_err-inner t c =
    handed_on _ _ c.from_residual.result c.from_residual.ensures.1
    (fails_at_the_rule c.args.self.levels (nested c.args.at p.arguments done) (stays_shut c.in_err-inner.ensures))

pub arguments-returns-in-Some : goal.arguments-returns-in-Some
unfolding rule
arguments-returns-in-Some t c =
    inside_ok c.args.self.levels c.in_ok-inner.inner.levels c.args.at p.arguments c.args.cursor.now c.in_ok-inner.ensures.0
    (reached_at c.in_ok-inner.inner.levels p.arguments (first_token refl c.in-Some.ensures.taken (stops c.row-row.ensures)))

pub arguments-argument-requires : goal.arguments-argument-requires
arguments-argument-requires t c = omega (arith, c.accept.ensures.shorter)

pub arguments-returns-in_err-first : goal.arguments-returns-in_err-first
unfolding rule
arguments-returns-in_err-first t c =
    handed_on _ _ c.from_residual-in_err-first.result c.from_residual-in_err-first.ensures.1
    (fails_at_the_rule c.args.self.levels (nested c.args.at p.arguments done)
    (fails_inside c.in_ok-inner.ensures.0 (fails_at c.in_ok-inner.inner.levels p.arguments
    (second_token refl c.in_default.ensures.taken.0 (where_it_stood c.in_default.ensures.taken.1 (fails c.in_err-first.ensures))))))

pub arguments-returns-in_err-push : goal.arguments-returns-in_err-push
arguments-returns-in_err-push t c = handed_on _ _ c.from_residual-in_err-push.result c.from_residual-in_err-push.ensures.1 (wanted_memory c.in_err-push.ensures.memory)

pub arguments-more-init : goal.arguments-more-init
unfolding rule
arguments-more-init t c =
    let levels = c.in_ok-inner.inner.levels in
    let part = c.in_ok-first.ensures in
    let now = c.argument.new.cursor in
    record {
      value = part.value ∷ [];
      comes =
          leads_to levels p.arguments c.args.cursor.now (answer_at levels (p.arguments_rest (part.value ∷ [])) now)
          (to_second_token refl c.in_default.ensures.taken.0 (from_where_it_stood c.in_default.ensures.taken.1
          (over_part part (arrives levels (p.arguments_rest (part.value ∷ [])) now))));
      same = c.in_ok-push.ensures.ok [] part.value c.row-row.ensures (for_make IsTree _ part.value c.in_ok-inner.ensures.1 part.same);
      shorter = omega (arith, c.accept.ensures.shorter, no_longer levels (p.argument true) c.accept.new.self now part);
    }

pub arguments-argument-requires-in-Some-accept : goal.arguments-argument-requires-in-Some-accept
arguments-argument-requires-in-Some-accept t c = omega (arith, c.more.invariant.shorter, took_less c.in-Some-accept.ensures.taken)

pub arguments-returns-in_err-next : goal.arguments-returns-in_err-next
unfolding rule
arguments-returns-in_err-next t c =
    let levels = c.in_ok-inner.inner.levels in
    handed_on _ _ c.from_residual-in_err-next.result c.from_residual-in_err-next.ensures.1
    (fails_at_the_rule c.args.self.levels (nested c.args.at p.arguments done)
    (fails_inside c.in_ok-inner.ensures.0 (through c.more.invariant.comes (fails_at levels (p.arguments_rest c.more.invariant.value)
    (first_token refl c.in-Some-accept.ensures.taken (fails c.in_err-next.ensures))))))

pub arguments-more-smaller : goal.arguments-more-smaller
arguments-more-smaller t c =
    omega (arith, took_less c.in-Some-accept.ensures.taken, no_longer c.in_ok-inner.inner.levels (p.argument true) c.accept-in-more.new.self c.argument-in-Some-accept.new.cursor c.in_ok-next.ensures)

pub arguments-more-preserved : goal.arguments-more-preserved
unfolding rule
arguments-more-preserved t c =
    let levels = c.in_ok-inner.inner.levels in
    let part = c.in_ok-next.ensures in
    let now = c.argument-in-Some-accept.new.cursor in
    let found = c.more.invariant.value in
    record {
      value = found ++ part.value ∷ [];
      comes =
          c.more.invariant.comes
          ∙ leads_to levels (p.arguments_rest found) c.more.cursor (answer_at levels (p.arguments_rest (found ++ part.value ∷ [])) now)
          (to_first_token refl c.in-Some-accept.ensures.taken (over_part part (arrives levels (p.arguments_rest (found ++ part.value ∷ [])) now)));
      same = c.in_ok-push-2.ensures.ok found part.value c.more.invariant.same (for_make IsTree _ part.value c.in_ok-inner.ensures.1 part.same);
      shorter = omega (arith, c.more.invariant.shorter, c.accept-in-more.ensures.shorter, no_longer levels (p.argument true) c.accept-in-more.new.self now part);
    }

pub arguments-returns-in_err-push-2 : goal.arguments-returns-in_err-push-2
arguments-returns-in_err-push-2 t c = handed_on _ _ c.from_residual-in_err-push-2.result c.from_residual-in_err-push-2.ensures.1 (wanted_memory c.in_err-push-2.ensures.memory)

pub arguments-returns-in_err-expect : goal.arguments-returns-in_err-expect
unfolding rule
arguments-returns-in_err-expect t c =
    let levels = c.in_ok-inner.inner.levels in
    handed_on _ _ c.from_residual-in_err-expect.result c.from_residual-in_err-expect.ensures.1
    (fails_at_the_rule c.args.self.levels (nested c.args.at p.arguments done)
    (fails_inside c.in_ok-inner.ensures.0 (through c.more.invariant.comes (fails_at levels (p.arguments_rest c.more.invariant.value)
    (second_token refl c.in_default-accept.ensures.taken.0 (where_it_stood c.in_default-accept.ensures.taken.1 (misses c.in_err-expect.ensures.took)))))))

pub arguments-returns : goal.arguments-returns
unfolding rule
arguments-returns t c =
    let levels = c.in_ok-inner.inner.levels in
    inside_ok c.args.self.levels levels c.args.at p.arguments c.args.cursor.now c.in_ok-inner.ensures.0
    (reached_further c.more.invariant.comes (reached_at levels (p.arguments_rest c.more.invariant.value)
    (second_token refl c.in_default-accept.ensures.taken.0 (where_it_stood c.in_default-accept.ensures.taken.1
    (takes c.in_ok-expect.ensures.took (stops c.more.invariant.same))))))

-- ---- index

pub index-returns-in_err-inner : goal.index-returns-in_err-inner
index-returns-in_err-inner t c =
    handed_on _ _ c.from_residual.result c.from_residual.ensures.1
    (fails_at_the_rule c.args.self.levels (nested c.args.at p.index_rest done) (stays_shut c.in_err-inner.ensures))

pub index-argument-requires : goal.index-argument-requires
index-argument-requires t c = omega (arith)

pub index-returns-in_err-index : goal.index-returns-in_err-index
unfolding rule
index-returns-in_err-index t c =
    handed_on _ _ c.from_residual-in_err-index.result c.from_residual-in_err-index.ensures.1
    (fails_at_the_rule c.args.self.levels (nested c.args.at p.index_rest done)
    (fails_inside c.in_ok-inner.ensures.0 (fails_at c.in_ok-inner.inner.levels p.index_rest (fails c.in_err-index.ensures))))

pub index-returns-in_err-expect : goal.index-returns-in_err-expect
unfolding rule
index-returns-in_err-expect t c =
    handed_on _ _ c.from_residual-in_err-expect.result c.from_residual-in_err-expect.ensures.1
    (fails_at_the_rule c.args.self.levels (nested c.args.at p.index_rest done)
    (fails_inside c.in_ok-inner.ensures.0 (fails_at c.in_ok-inner.inner.levels p.index_rest (holds c.in_ok-index.ensures (misses c.in_err-expect.ensures.took)))))

pub index-returns : goal.index-returns
unfolding rule
index-returns t c =
    let part = c.in_ok-index.ensures in
    inside_ok c.args.self.levels c.in_ok-inner.inner.levels c.args.at p.index_rest c.args.cursor.now c.in_ok-inner.ensures.0
    (reached_at c.in_ok-inner.inner.levels p.index_rest (holds part (takes c.in_ok-expect.ensures.took (stops (for_make IsTree _ part.value c.in_ok-inner.ensures.1 part.same)))))

-- ---- a name

pub named-returns-in_err-word : goal.named-returns-in_err-word
named-returns-in_err-word t c =
    handed_on _ _ c.from_residual.result c.from_residual.ensures.1
    (fails_at_the_rule c.args.self.levels name (misses c.in_err-word.ensures.word))

pub named-returns-in_default : goal.named-returns-in_default
named-returns-in_default t c =
    at_the_rule c.args.self.levels name
    (takes_as grammar.named c.in_ok-word.ensures.word
    (second_token refl c.in_default.ensures.taken.0 (where_it_stood c.in_default.ensures.taken.1 (record { came = c.plain_name.ensures }))))

pub named-arguments-requires : goal.named-arguments-requires
named-arguments-requires t c = omega (arith, took_less c.in_ok-word.ensures.word.took, took_less c.in-Some.ensures.taken)

pub named-returns-in_err-args : goal.named-returns-in_err-args
named-returns-in_err-args t c =
    handed_on _ _ c.from_residual-in_err-args.result c.from_residual-in_err-args.ensures.1
    (fails_at_the_rule c.args.self.levels name
    (takes_as grammar.named c.in_ok-word.ensures.word (first_token refl c.in-Some.ensures.taken (inside_fails c.in_err-args.ensures))))

pub named-returns : goal.named-returns
named-returns t c =
    let args = c.in_ok-args.ensures in
    let word = word_by c.in_ok-word.word in
    at_the_rule c.args.self.levels name
    (takes_as grammar.named c.in_ok-word.ensures.word (first_token refl c.in-Some.ensures.taken
    (then_inside args (makes (c.as_value.ensures _ (tree.call None word args.value) (c.call.ensures args.value args.same))))))

-- ---- `Class.new`

pub constructed-returns-in_err-class : goal.constructed-returns-in_err-class
constructed-returns-in_err-class t c =
    handed_on _ _ c.from_residual.result c.from_residual.ensures.1
    (fails_at_the_rule c.args.self.levels (new c.args.takes_do) (misses c.in_err-class.ensures.word))

pub constructed-returns-in_err-expect : goal.constructed-returns-in_err-expect
constructed-returns-in_err-expect t c =
    handed_on _ _ c.from_residual-in_err-expect.result c.from_residual-in_err-expect.ensures.1
    (fails_at_the_rule c.args.self.levels (new c.args.takes_do)
    (takes_as (new_of c.args.takes_do) c.in_ok-class.ensures.word (misses c.in_err-expect.ensures.took)))

pub constructed-returns-in_err-new : goal.constructed-returns-in_err-new
constructed-returns-in_err-new t c =
    handed_on _ _ c.from_residual-in_err-new.result c.from_residual-in_err-new.ensures.1
    (fails_at_the_rule c.args.self.levels (new c.args.takes_do)
    (takes_as (new_of c.args.takes_do) c.in_ok-class.ensures.word (takes c.in_ok-expect.ensures.took (misses c.in_err-new.ensures.took))))

pub constructed-thread-requires : goal.constructed-thread-requires
constructed-thread-requires t c =
    omega (arith, took_less c.in_ok-class.ensures.word.took, took_less c.in_ok-expect.ensures.took, took_less c.in_ok-new.ensures.took)

pub constructed-returns-then-is_thread : goal.constructed-returns-then-is_thread
constructed-returns-then-is_thread t c =
    at_the_rule c.args.self.levels (new c.args.takes_do)
    (takes_as (new_of c.args.takes_do) c.in_ok-class.ensures.word (takes c.in_ok-expect.ensures.took (takes c.in_ok-new.ensures.took
    (picks (sym c.is_thread.ensures ∙ c.if-is_thread.true) (record { came = c.thread.ensures })))))

pub constructed-returns-in_default : goal.constructed-returns-in_default
constructed-returns-in_default t c =
    at_the_rule c.args.self.levels (new c.args.takes_do)
    (takes_as (new_of c.args.takes_do) c.in_ok-class.ensures.word (takes c.in_ok-expect.ensures.took (takes c.in_ok-new.ensures.took
    (picks_other (sym c.is_thread.ensures ∙ c.if-is_thread.false)
    (second_token refl c.in_default.ensures.taken.0 (where_it_stood c.in_default.ensures.taken.1 (record { came = c.plain_object.ensures })))))))

pub constructed-arguments-requires : goal.constructed-arguments-requires
constructed-arguments-requires t c =
    omega (arith, took_less c.in_ok-class.ensures.word.took, took_less c.in_ok-expect.ensures.took, took_less c.in_ok-new.ensures.took, took_less c.in-Some.ensures.taken)

pub constructed-returns-in_err-args : goal.constructed-returns-in_err-args
constructed-returns-in_err-args t c =
    handed_on _ _ c.from_residual-in_err-args.result c.from_residual-in_err-args.ensures.1
    (fails_at_the_rule c.args.self.levels (new c.args.takes_do)
    (takes_as (new_of c.args.takes_do) c.in_ok-class.ensures.word (takes c.in_ok-expect.ensures.took (takes c.in_ok-new.ensures.took
    (picks_other (sym c.is_thread.ensures ∙ c.if-is_thread.false) (first_token refl c.in-Some.ensures.taken (inside_fails c.in_err-args.ensures)))))))

pub constructed-returns : goal.constructed-returns
constructed-returns t c =
    let args = c.in_ok-args.ensures in
    let object = tree.new (word_by c.in_ok-class.class) c.in_ok-new.new.now.at args.value in
    at_the_rule c.args.self.levels (new c.args.takes_do)
    (takes_as (new_of c.args.takes_do) c.in_ok-class.ensures.word (takes c.in_ok-expect.ensures.took (takes c.in_ok-new.ensures.took
    (picks_other (sym c.is_thread.ensures ∙ c.if-is_thread.false) (first_token refl c.in-Some.ensures.taken
    (then_inside args (makes (c.as_value.ensures _ object (c.object.ensures args.value args.same)))))))))

-- ---- threads

pub thread-arguments-requires : goal.thread-arguments-requires
thread-arguments-requires t c = omega (arith, took_less c.in-Some.ensures.taken)

pub thread-returns-in_err-args-in-Some : goal.thread-returns-in_err-args-in-Some
thread-returns-in_err-args-in-Some t c =
    handed_on _ _ c.from_residual.result c.from_residual.ensures.1
    (fails_at_the_rule c.args.self.levels (grammar.thread c.args.takes_do c.args.new.now) (first_token refl c.in-Some.ensures.taken (inside_fails c.in_err-args-in-Some.ensures)))

pub thread-block_behind-requires : goal.thread-block_behind-requires
thread-block_behind-requires t c =
    let args : ThreadArgs c.args.self.levels c.args.takes_do c.args.new.now c.args.cursor.now c.match-accept_glued.cursor =
    elim c.match-accept_glued.branch [
      | thread-in-Some+in_ok-args-in-Some w ↦ args_read c.args.self.levels c.args.takes_do c.args.new.now w.in-Some.ensures.taken w.in_ok-args-in-Some.ensures w.cursor-is
      | thread-in-None w ↦ args_missing c.args.self.levels c.args.takes_do c.args.new.now w.in-None.ensures.taken w.cursor-is
    ] in
    omega (arith, args.shorter)

pub thread-returns-in_err-block : goal.thread-returns-in_err-block
thread-returns-in_err-block t c =
    let args : ThreadArgs c.args.self.levels c.args.takes_do c.args.new.now c.args.cursor.now c.match-accept_glued.cursor =
    elim c.match-accept_glued.branch [
      | thread-in-Some+in_ok-args-in-Some w ↦ args_read c.args.self.levels c.args.takes_do c.args.new.now w.in-Some.ensures.taken w.in_ok-args-in-Some.ensures w.cursor-is
      | thread-in-None w ↦ args_missing c.args.self.levels c.args.takes_do c.args.new.now w.in-None.ensures.taken w.cursor-is
    ] in
    handed_on _ _ c.from_residual-in_err-block.result c.from_residual-in_err-block.ensures.1
    (through args.comes (c.in_err-block.ensures (λ b. grammar.made (tree.thread_new c.args.new.now.at args.value b)) refuse))

pub thread-returns-in_default : goal.thread-returns-in_default
thread-returns-in_default t c =
    let args : ThreadArgs c.args.self.levels c.args.takes_do c.args.new.now c.args.cursor.now c.match-accept_glued.cursor =
    elim c.match-accept_glued.branch [
      | thread-in-Some+in_ok-args-in-Some w ↦ args_read c.args.self.levels c.args.takes_do c.args.new.now w.in-Some.ensures.taken w.in_ok-args-in-Some.ensures w.cursor-is
      | thread-in-None w ↦ args_missing c.args.self.levels c.args.takes_do c.args.new.now w.in-None.ensures.taken w.cursor-is
    ] in
    let none : HasNoBlock c.args.self.levels (grammar.with_block c.args.takes_do) c.match-accept_glued.cursor c.block_behind.new.cursor =
    none_stood (walk_of c.args.self.make) c.in_ok-block.ensures c.in_default.is in
    through (args.comes ∙ none.comes (λ b. grammar.made (tree.thread_new c.args.new.now.at args.value b)) refuse)
    (refuses_here c.args.self.levels none.stays c.refusal.ensures)

pub thread-returns : goal.thread-returns
thread-returns t c =
    let block : HasBlock (walk_of c.args.self.make) c.args.self.levels (grammar.with_block c.args.takes_do) c.match-accept_glued.cursor c.block_behind.new.cursor c.in-Some-2.block =
    one_stood c.in_ok-block.ensures c.in-Some-2.is in
    elim c.match-accept_glued.branch [
      | thread-in-Some+in_ok-args-in-Some w ↦
          carry _ _ _ (read_comes c.args.self.levels c.args.takes_do c.args.new.now w.in-Some.ensures.taken w.in_ok-args-in-Some.ensures w.cursor-is ∙ block.comes (λ b. grammar.made (tree.thread_new c.args.new.now.at (w.in_ok-args-in-Some.ensures.value) b)) refuse)
          (makes {levels = c.args.self.levels} (c.as_value.ensures _ (tree.thread_new c.args.new.now.at (w.in_ok-args-in-Some.ensures.value) block.value) (c.thread.ensures (w.in_ok-args-in-Some.ensures.value) block.value (rw w.args-is w.in_ok-args-in-Some.ensures.same) block.same))).came
      | thread-in-None w ↦
          carry _ _ _ (missing_comes c.args.self.levels c.args.takes_do c.args.new.now w.in-None.ensures.taken w.cursor-is ∙ block.comes (λ b. grammar.made (tree.thread_new c.args.new.now.at ([]) b)) refuse)
          (makes {levels = c.args.self.levels} (c.as_value.ensures _ (tree.thread_new c.args.new.now.at ([]) block.value) (c.thread.ensures ([]) block.value (rw w.args-is w.row-args.ensures) block.same))).came
    ]

-- ---- blocks

pub block-returns-in_err-params : goal.block-returns-in_err-params
block-returns-in_err-params t c =
    handed_on _ _ c.from_residual.result c.from_residual.ensures.1 (c.in_err-params.ensures.went c.args.self.levels c.args.in_braces c.args.at)

pub block-body-requires : goal.block-body-requires
block-body-requires t c = omega (arith, c.in_ok-params.ensures.shorter)

pub block-returns-in_err-body : goal.block-returns-in_err-body
block-returns-in_err-body t c =
    let levels = c.args.self.levels in
    let words = map word_by c.in_ok-params.params in
    handed_on _ _ c.from_residual-in_err-body.result c.from_residual-in_err-body.ensures.1
    (through (c.in_ok-params.ensures.went levels c.args.in_braces c.args.at)
    (fails_at_the_rule levels (within_block c.args.in_braces c.args.at words) (fails c.in_err-body.ensures)))

pub block-returns-in_err-expect : goal.block-returns-in_err-expect
block-returns-in_err-expect t c =
    let levels = c.args.self.levels in
    let words = map word_by c.in_ok-params.params in
    handed_on _ _ c.from_residual-in_err-expect.result c.from_residual-in_err-expect.ensures.1
    (through (c.in_ok-params.ensures.went levels c.args.in_braces c.args.at)
    (fails_at_the_rule levels (within_block c.args.in_braces c.args.at words) (holds c.in_ok-body.ensures (misses (closer_missed c.closing.ensures c.in_err-expect.ensures.took)))))

pub block-returns : goal.block-returns
block-returns t c =
    let levels = c.args.self.levels in
    let words = map word_by c.in_ok-params.params in
    carry _ _ _ (c.in_ok-params.ensures.went levels c.args.in_braces c.args.at)
    (at_the_rule levels (within_block c.args.in_braces c.args.at words)
    (holds c.in_ok-body.ensures (takes (closer_took c.closing.ensures c.in_ok-expect.ensures.took) (changes (where_it_stood c.leave.ensures
    (block_made _ levels c.args.at _ _ c.in_ok-body.ensures.value _ _ _ c.as_slice.ensures c.block.ensures.ok c.block.ensures.memory c.in_ok-body.ensures.same))))))

-- ---- the block that stands there

pub block_behind-returns-in_err-inner : goal.block_behind-returns-in_err-inner
block_behind-returns-in_err-inner t c =
    handed_block (walk_of c.args.self.make) c.args.self.levels (grammar.with_block c.args.takes_do) c.args.cursor.now c.accept.new.self c.from_residual.result c.from_residual.ensures.1
    (λ k without. fails_at_the_rule c.args.self.levels (grammar.with_block c.args.takes_do k without) (first_token refl c.in-Some.ensures.taken (stays_shut c.in_err-inner.ensures)))

pub block_behind-block-requires : goal.block_behind-block-requires
block_behind-block-requires t c = omega (arith, took_less c.in-Some.ensures.taken)

pub block_behind-returns-in_err-block : goal.block_behind-returns-in_err-block
block_behind-returns-in_err-block t c =
    handed_block (walk_of c.args.self.make) c.args.self.levels (grammar.with_block c.args.takes_do) c.args.cursor.now c.block.new.cursor c.from_residual-in_err-block.result c.from_residual-in_err-block.ensures.1
    (λ k without. fails_at_the_rule c.args.self.levels (grammar.with_block c.args.takes_do k without) (first_token refl c.in-Some.ensures.taken (fails_inside c.in_ok-inner.ensures.0 c.in_err-block.ensures)))

pub block_behind-returns-in-Some : goal.block_behind-returns-in-Some
block_behind-returns-in-Some t c =
    let part = c.in_ok-block.ensures in
    record {
      value = part.value;
      same = for_make IsBlock _ part.value c.in_ok-inner.ensures.1 part.same;
      comes = λ k without. leads_at c.args.self.levels (grammar.with_block c.args.takes_do k without)
          (to_first_token refl c.in-Some.ensures.taken (over_inside c.in_ok-inner.ensures.0 part (leads_here (k part.value) _)));
      shorter = omega (arith, took_less c.in-Some.ensures.taken, no_longer c.in_ok-inner.inner.levels (p.block_rest true c.in-Some.open.now.at) c.accept.new.self c.block.new.cursor part);
    }

pub block_behind-returns-in_err-inner-2 : goal.block_behind-returns-in_err-inner-2
block_behind-returns-in_err-inner-2 t c =
    handed_block (walk_of c.args.self.make) c.args.self.levels (grammar.with_block c.args.takes_do) c.args.cursor.now c.accept_allowed.new.cursor c.from_residual-in_err-inner-2.result c.from_residual-in_err-inner-2.ensures.1
    (λ k without. fails_at_the_rule c.args.self.levels (grammar.with_block c.args.takes_do k without)
    (second_token refl c.in_default.ensures.taken.0 (where_it_stood c.in_default.ensures.taken.1
    (first_token (not_at_end c.args.takes_do) c.in-Some-accept_allowed.ensures.taken (stays_shut c.in_err-inner-2.ensures)))))

pub block_behind-block-requires-in-Some-accept_allowed : goal.block_behind-block-requires-in-Some-accept_allowed
block_behind-block-requires-in-Some-accept_allowed t c = omega (arith, c.accept.ensures.shorter, took_less c.in-Some-accept_allowed.ensures.taken)

pub block_behind-returns-in_err-block-2 : goal.block_behind-returns-in_err-block-2
block_behind-returns-in_err-block-2 t c =
    handed_block (walk_of c.args.self.make) c.args.self.levels (grammar.with_block c.args.takes_do) c.args.cursor.now c.block-in-Some-accept_allowed.new.cursor c.from_residual-in_err-block-2.result c.from_residual-in_err-block-2.ensures.1
    (λ k without. fails_at_the_rule c.args.self.levels (grammar.with_block c.args.takes_do k without)
    (second_token refl c.in_default.ensures.taken.0 (where_it_stood c.in_default.ensures.taken.1
    (first_token (not_at_end c.args.takes_do) c.in-Some-accept_allowed.ensures.taken (fails_inside c.in_ok-inner-2.ensures.0 c.in_err-block-2.ensures)))))

pub block_behind-returns-in-Some-accept_allowed : goal.block_behind-returns-in-Some-accept_allowed
block_behind-returns-in-Some-accept_allowed t c =
    let part = c.in_ok-block-2.ensures in
    record {
      value = part.value;
      same = for_make IsBlock _ part.value c.in_ok-inner-2.ensures.1 part.same;
      comes = λ k without. leads_at c.args.self.levels (grammar.with_block c.args.takes_do k without)
          (to_second_token refl c.in_default.ensures.taken.0 (from_where_it_stood c.in_default.ensures.taken.1
          (to_first_token (not_at_end c.args.takes_do) c.in-Some-accept_allowed.ensures.taken (over_inside c.in_ok-inner-2.ensures.0 part (leads_here (k part.value) _)))));
      shorter = omega (arith, c.accept.ensures.shorter, took_less c.in-Some-accept_allowed.ensures.taken, no_longer c.in_ok-inner-2.inner.levels (p.block_rest false c.in-Some-accept_allowed.open.now.at) c.accept_allowed.new.cursor c.block-in-Some-accept_allowed.new.cursor part);
    }

pub block_behind-returns : goal.block_behind-returns
block_behind-returns t c = record {
  stays = c.in_default-accept_allowed.ensures.taken.1 ∙ c.in_default.ensures.taken.1;
  comes = λ k without. leads_at c.args.self.levels (grammar.with_block c.args.takes_do k without)
      (to_second_token refl c.in_default.ensures.taken.0 (from_where_it_stood c.in_default.ensures.taken.1
      (to_second_token (not_at_end c.args.takes_do) c.in_default-accept_allowed.ensures.taken.0 (leads_back c.in_default.ensures.taken.1 without))));
}

-- ---- the block behind a name

pub block_of-returns-then-not-takes_block : goal.block_of-returns-then-not-takes_block
block_of-returns-then-not-takes_block t c = record {
  stays = refl;
  comes = λ k without. pick_no c.args.self.levels _ (grammar.with_block c.args.takes_do k without) without _ (sym c.takes_block.ensures ∙ c.if-not-takes_block.true);
}

pub block_of-block_behind-requires : goal.block_of-block_behind-requires
block_of-block_behind-requires t c = omega (arith)

pub block_of-returns : goal.block_of-returns
block_of-returns t c =
    with_block_named (walk_of c.args.self.make) c.args.self.levels c.args.word.text.now c.args.takes_do c.args.cursor.now c.block_behind.new.cursor c.block_behind.result
    (sym c.takes_block.ensures ∙ c.if-not-takes_block.false) c.block_behind.ensures

-- ---- a method of an operand, without brackets

pub called_so-block_of-requires : goal.called_so-block_of-requires
called_so-block_of-requires t c = omega (arith)

pub called_so-returns-in_err-block-clause-goes : goal.called_so-returns-in_err-block-clause-goes
called_so-returns-in_err-block-clause-goes t c = λ a same.
    let word = word_by c.args.word in
    handed_to _ _ _ {o = at_rule c.args.self.levels (grammar.with_block_of c.args.word.text.now c.args.takes_do (λ b. grammar.going_on c.args.takes_do (tree.call_with_block a word [] b)) (grammar.plain_member c.args.takes_do a word)) c.args.cursor.now} _ c.from_residual.result c.from_residual.ensures.1
    (c.in_err-block.ensures (λ b. grammar.going_on c.args.takes_do (tree.call_with_block a word [] b)) (grammar.plain_member c.args.takes_do a word))

pub called_so-returns-in_err-block-clause-shorter : goal.called_so-returns-in_err-block-clause-shorter
called_so-returns-in_err-block-clause-shorter t c = no_ok _ _ c.from_residual.result c.from_residual.ensures.1

pub called_so-returns-in_default-clause-goes : goal.called_so-returns-in_default-clause-goes
called_so-returns-in_default-clause-goes t c = λ a same.
    let word = word_by c.args.word in
    let none : HasNoBlock c.args.self.levels (grammar.with_block_of c.args.word.text.now c.args.takes_do) c.args.cursor.now c.block_of.new.cursor =
    none_stood (walk_of c.args.self.make) c.in_ok-block.ensures c.in_default.is in
    goes_from _ c.args.cursor.now c.block_of.new.cursor _ _ _ _ _
    (past_block c.args.self.levels none (λ b. grammar.going_on c.args.takes_do (tree.call_with_block a word [] b)) (grammar.plain_member c.args.takes_do a word))
    (stands_no_longer none.stays) (c.plain_member.ensures.goes c.args.takes_do a same)

pub called_so-returns-in_default-clause-shorter : goal.called_so-returns-in_default-clause-shorter
called_so-returns-in_default-clause-shorter t c =
    let none : HasNoBlock c.args.self.levels (grammar.with_block_of c.args.word.text.now c.args.takes_do) c.args.cursor.now c.block_of.new.cursor =
    none_stood (walk_of c.args.self.make) c.in_ok-block.ensures c.in_default.is in
    let less : length c.plain_member.new.cursor.rest ≤ length c.args.cursor.now.rest = omega (arith, stands_no_longer none.stays, c.plain_member.ensures.shorter) in
    on_ok _ _ less

pub called_so-returns-clause-goes : goal.called_so-returns-clause-goes
called_so-returns-clause-goes t c = λ a same.
    let word = word_by c.args.word in
    let block : HasBlock (walk_of c.args.self.make) c.args.self.levels (grammar.with_block_of c.args.word.text.now c.args.takes_do) c.args.cursor.now c.block_of.new.cursor c.in-Some.block =
    one_stood c.in_ok-block.ensures c.in-Some.is in
    let call = tree.call_with_block a word [] block.value in
    goes_from _ c.args.cursor.now c.block_of.new.cursor _ _ _ _ _
    (block.comes (λ b. grammar.going_on c.args.takes_do (tree.call_with_block a word [] b)) (grammar.plain_member c.args.takes_do a word))
    block.shorter (node_goes_on _ c.args.self.levels c.args.takes_do call _ _ (c.as_value.ensures _ call (c.call_with_block.ensures a [] block.value same c.row-args.ensures block.same)))

pub called_so-returns-clause-shorter : goal.called_so-returns-clause-shorter
called_so-returns-clause-shorter t c =
    let block : HasBlock (walk_of c.args.self.make) c.args.self.levels (grammar.with_block_of c.args.word.text.now c.args.takes_do) c.args.cursor.now c.block_of.new.cursor c.in-Some.block =
    one_stood c.in_ok-block.ensures c.in-Some.is in
    on_ok _ _ block.shorter

-- ---- a method of an operand

pub called-called_so-requires : goal.called-called_so-requires
called-called_so-requires t c = omega (arith, stands_no_longer c.in_default.ensures.taken.1)

pub called-returns-in_default-clause-goes : goal.called-returns-in_default-clause-goes
called-returns-in_default-clause-goes t c = λ a same.
    let word = word_by c.args.word in
    goes_from _ c.args.cursor.now c.accept_glued.new.cursor _ _ _ _ _
    (leads_at c.args.self.levels (grammar.called c.args.takes_do a word) (to_second_token refl c.in_default.ensures.taken.0 (from_where_it_stood c.in_default.ensures.taken.1
    (leads_here (without_arguments c.args.takes_do a word) c.accept_glued.new.cursor))))
    (stands_no_longer c.in_default.ensures.taken.1) (c.called_so.ensures.goes a same)

pub called-returns-in_default-clause-shorter : goal.called-returns-in_default-clause-shorter
called-returns-in_default-clause-shorter t c =
    ok_then c.args.cursor.now c.accept_glued.new.cursor c.called_so.new.cursor (stands_no_longer c.in_default.ensures.taken.1) c.called_so.result c.called_so.ensures.shorter

pub called-arguments-requires : goal.called-arguments-requires
called-arguments-requires t c = omega (arith, took_less c.in-Some.ensures.taken)

pub called-returns-in_err-args-clause-goes : goal.called-returns-in_err-args-clause-goes
called-returns-in_err-args-clause-goes t c = λ a same.
    handed_to _ _ _ _ c.from_residual.result c.from_residual.ensures.1
    (fails_at_the_rule c.args.self.levels (grammar.called c.args.takes_do a (word_by c.args.word)) (first_token refl c.in-Some.ensures.taken (inside_fails c.in_err-args.ensures)))

pub called-returns-in_err-args-clause-shorter : goal.called-returns-in_err-args-clause-shorter
called-returns-in_err-args-clause-shorter t c = no_ok _ _ c.from_residual.result c.from_residual.ensures.1

pub called-block_of-requires : goal.called-block_of-requires
called-block_of-requires t c =
    let args = c.in_ok-args.ensures in
    let behind : length c.arguments.new.cursor.rest ≤ length c.args.cursor.now.rest =
    omega (arith, took_less c.in-Some.ensures.taken, nested_no_longer c.args.self.levels c.in-Some.open.now.at p.arguments c.accept_glued.new.cursor c.arguments.new.cursor args) in
    omega (arith, behind)

pub called-returns-in_err-block-clause-goes : goal.called-returns-in_err-block-clause-goes
called-returns-in_err-block-clause-goes t c = λ a same.
    let word = word_by c.args.word in
    let args = c.in_ok-args.ensures in
    handed_to _ _ _ _ c.from_residual-in_err-block.result c.from_residual-in_err-block.ensures.1
    (through (to_arguments c.args.self.levels c.args.takes_do a word c.in-Some.ensures.taken args) (c.in_err-block.ensures (λ b. grammar.going_on c.args.takes_do (tree.call_with_block a word args.value b)) (grammar.going_on c.args.takes_do (tree.call (Some a) word args.value))))

pub called-returns-in_err-block-clause-shorter : goal.called-returns-in_err-block-clause-shorter
called-returns-in_err-block-clause-shorter t c = no_ok _ _ c.from_residual-in_err-block.result c.from_residual-in_err-block.ensures.1

pub called-returns-in_default-2-clause-goes : goal.called-returns-in_default-2-clause-goes
called-returns-in_default-2-clause-goes t c = λ a same.
    let word = word_by c.args.word in
    let args = c.in_ok-args.ensures in
    let behind : length c.arguments.new.cursor.rest ≤ length c.args.cursor.now.rest =
    omega (arith, took_less c.in-Some.ensures.taken, nested_no_longer c.args.self.levels c.in-Some.open.now.at p.arguments c.accept_glued.new.cursor c.arguments.new.cursor args) in
    let none : HasNoBlock c.args.self.levels (grammar.with_block_of c.args.word.text.now c.args.takes_do) c.arguments.new.cursor c.block_of.new.cursor =
    none_stood (walk_of c.args.self.make) c.in_ok-block.ensures c.in_default-2.is in
    let call = tree.call (Some a) word args.value in
    goes_from _ c.args.cursor.now c.block_of.new.cursor _ _ _ _ _
    (to_arguments c.args.self.levels c.args.takes_do a word c.in-Some.ensures.taken args ∙ past_block c.args.self.levels none (λ b. grammar.going_on c.args.takes_do (tree.call_with_block a word args.value b)) (grammar.going_on c.args.takes_do (tree.call (Some a) word args.value)))
    (omega (arith, behind, stands_no_longer none.stays)) (node_goes_on _ c.args.self.levels c.args.takes_do call _ _ (c.as_value.ensures _ call (c.call_to.ensures a args.value same args.same)))

pub called-returns-in_default-2-clause-shorter : goal.called-returns-in_default-2-clause-shorter
called-returns-in_default-2-clause-shorter t c =
    let args = c.in_ok-args.ensures in
    let behind : length c.arguments.new.cursor.rest ≤ length c.args.cursor.now.rest =
    omega (arith, took_less c.in-Some.ensures.taken, nested_no_longer c.args.self.levels c.in-Some.open.now.at p.arguments c.accept_glued.new.cursor c.arguments.new.cursor args) in
    let none : HasNoBlock c.args.self.levels (grammar.with_block_of c.args.word.text.now c.args.takes_do) c.arguments.new.cursor c.block_of.new.cursor =
    none_stood (walk_of c.args.self.make) c.in_ok-block.ensures c.in_default-2.is in
    let less : length c.block_of.new.cursor.rest ≤ length c.args.cursor.now.rest = omega (arith, behind, stands_no_longer none.stays) in
    on_ok _ _ less

pub called-returns-clause-goes : goal.called-returns-clause-goes
called-returns-clause-goes t c = λ a same.
    let word = word_by c.args.word in
    let args = c.in_ok-args.ensures in
    let behind : length c.arguments.new.cursor.rest ≤ length c.args.cursor.now.rest =
    omega (arith, took_less c.in-Some.ensures.taken, nested_no_longer c.args.self.levels c.in-Some.open.now.at p.arguments c.accept_glued.new.cursor c.arguments.new.cursor args) in
    let block : HasBlock (walk_of c.args.self.make) c.args.self.levels (grammar.with_block_of c.args.word.text.now c.args.takes_do) c.arguments.new.cursor c.block_of.new.cursor c.in-Some-2.block =
    one_stood c.in_ok-block.ensures c.in-Some-2.is in
    let call = tree.call_with_block a word args.value block.value in
    goes_from _ c.args.cursor.now c.block_of.new.cursor _ _ _ _ _
    (to_arguments c.args.self.levels c.args.takes_do a word c.in-Some.ensures.taken args ∙ block.comes (λ b. grammar.going_on c.args.takes_do (tree.call_with_block a word args.value b)) (grammar.going_on c.args.takes_do (tree.call (Some a) word args.value)))
    (omega (arith, behind, block.shorter)) (node_goes_on _ c.args.self.levels c.args.takes_do call _ _ (c.as_value-2.ensures _ call (c.call_with_block.ensures a args.value block.value same args.same block.same)))

pub called-returns-clause-shorter : goal.called-returns-clause-shorter
called-returns-clause-shorter t c =
    let args = c.in_ok-args.ensures in
    let behind : length c.arguments.new.cursor.rest ≤ length c.args.cursor.now.rest =
    omega (arith, took_less c.in-Some.ensures.taken, nested_no_longer c.args.self.levels c.in-Some.open.now.at p.arguments c.accept_glued.new.cursor c.arguments.new.cursor args) in
    let block : HasBlock (walk_of c.args.self.make) c.args.self.levels (grammar.with_block_of c.args.word.text.now c.args.takes_do) c.arguments.new.cursor c.block_of.new.cursor c.in-Some-2.block =
    one_stood c.in_ok-block.ensures c.in-Some-2.is in
    let less : length c.block_of.new.cursor.rest ≤ length c.args.cursor.now.rest = omega (arith, behind, block.shorter) in
    on_ok _ _ less

-- ---- what stands behind an operand

pub postfix_rest-behind-init : goal.postfix_rest-behind-init
postfix_rest-behind-init t c = record {
  gone = λ q same. record { value = q; comes = refl; same = same; shorter = omega (arith) };
  shorter = omega (arith);
}

pub postfix_rest-returns-in_err-receiver : goal.postfix_rest-returns-in_err-receiver
unfolding rule
postfix_rest-returns-in_err-receiver t c = λ q same.
    let levels = c.args.self.levels in
    let gone = c.behind.invariant.gone q same in
    let not_head = sym c.is_head.ensures ∙ c.behind-test.true in
    handed_on _ _ c.from_residual.result c.from_residual.ensures.1
    (through gone.comes (fails_at levels (p.postfix_rest c.args.takes_do gone.value) (beyond_head gone.value (behind_part c.args.takes_do gone.value) gone.same not_head
    (first_token refl c.in-Some.ensures.taken (operand_fails _ _ (c.in_err-receiver.ensures gone.value gone.same))))))

pub postfix_rest-returns-in_err-word : goal.postfix_rest-returns-in_err-word
unfolding rule
postfix_rest-returns-in_err-word t c = λ q same.
    let levels = c.args.self.levels in
    let gone = c.behind.invariant.gone q same in
    let not_head = sym c.is_head.ensures ∙ c.behind-test.true in
    let receiver = c.in_ok-receiver.ensures gone.value gone.same in
    handed_on _ _ c.from_residual-in_err-word.result c.from_residual-in_err-word.ensures.1
    (through gone.comes (fails_at levels (p.postfix_rest c.args.takes_do gone.value) (beyond_head gone.value (behind_part c.args.takes_do gone.value) gone.same not_head
    (first_token refl c.in-Some.ensures.taken (then_operand _ _ receiver (misses c.in_err-word.ensures.word))))))

pub postfix_rest-called-requires : goal.postfix_rest-called-requires
postfix_rest-called-requires t c = omega (arith, c.behind.invariant.shorter, took_less c.in-Some.ensures.taken, took_less c.in_ok-word.ensures.word.took)

pub postfix_rest-returns-in_err-part : goal.postfix_rest-returns-in_err-part
unfolding rule
postfix_rest-returns-in_err-part t c = λ q same.
    let levels = c.args.self.levels in
    let gone = c.behind.invariant.gone q same in
    let not_head = sym c.is_head.ensures ∙ c.behind-test.true in
    let receiver = c.in_ok-receiver.ensures gone.value gone.same in
    handed_on _ _ c.from_residual-in_err-part.result c.from_residual-in_err-part.ensures.1
    (through gone.comes (fails_at levels (p.postfix_rest c.args.takes_do gone.value) (beyond_head gone.value (behind_part c.args.takes_do gone.value) gone.same not_head
    (first_token refl c.in-Some.ensures.taken (then_operand _ _ receiver (takes_as (grammar.called c.args.takes_do receiver.value) c.in_ok-word.ensures.word
    (record { came = c.in_err-part.ensures.goes receiver.value receiver.same })))))))

pub postfix_rest-behind-smaller-in-Some : goal.postfix_rest-behind-smaller-in-Some
postfix_rest-behind-smaller-in-Some t c = omega (arith, took_less c.in-Some.ensures.taken, took_less c.in_ok-word.ensures.word.took, c.in_ok-part.ensures.shorter)

pub postfix_rest-behind-preserved-in-Some : goal.postfix_rest-behind-preserved-in-Some
unfolding rule
postfix_rest-behind-preserved-in-Some t c = record {
  gone = λ q same.
      let levels = c.args.self.levels in
      let gone = c.behind.invariant.gone q same in
      let not_head = sym c.is_head.ensures ∙ c.behind-test.true in
      let receiver = c.in_ok-receiver.ensures gone.value gone.same in
      let further = c.in_ok-part.ensures.goes receiver.value receiver.same in
      record {
        value = further.value;
        comes =
            gone.comes
            ∙ leads_to levels (p.postfix_rest c.args.takes_do gone.value) c.behind.cursor (answer_at levels (p.postfix_rest c.args.takes_do further.value) c.called.new.cursor)
            (over_head gone.value (behind_part c.args.takes_do gone.value) gone.same not_head
            (to_first_token refl c.in-Some.ensures.taken (over_operand _ _ receiver (over_as (grammar.called c.args.takes_do receiver.value) c.in_ok-word.ensures.word (record { comes = further.comes })))));
        same = further.same;
        shorter = omega (arith, c.behind.invariant.shorter, took_less c.in-Some.ensures.taken, took_less c.in_ok-word.ensures.word.took, c.in_ok-part.ensures.shorter);
      };
  shorter = omega (arith, c.behind.invariant.shorter, took_less c.in-Some.ensures.taken, took_less c.in_ok-word.ensures.word.took, c.in_ok-part.ensures.shorter);
}

pub postfix_rest-returns-in_err-receiver-2 : goal.postfix_rest-returns-in_err-receiver-2
unfolding rule
postfix_rest-returns-in_err-receiver-2 t c = λ q same.
    let levels = c.args.self.levels in
    let gone = c.behind.invariant.gone q same in
    let not_head = sym c.is_head.ensures ∙ c.behind-test.true in
    handed_on _ _ c.from_residual-in_err-receiver-2.result c.from_residual-in_err-receiver-2.ensures.1
    (through gone.comes (fails_at levels (p.postfix_rest c.args.takes_do gone.value) (beyond_head gone.value (behind_part c.args.takes_do gone.value) gone.same not_head
    (second_token refl c.in_default.ensures.taken.0 (where_it_stood c.in_default.ensures.taken.1
    (first_token refl c.in-Some-accept_glued.ensures.taken (operand_fails _ _ (c.in_err-receiver-2.ensures gone.value gone.same))))))))

pub postfix_rest-index-requires : goal.postfix_rest-index-requires
postfix_rest-index-requires t c = omega (arith, c.behind.invariant.shorter, stands_no_longer c.in_default.ensures.taken.1, took_less c.in-Some-accept_glued.ensures.taken)

pub postfix_rest-returns-in_err-index : goal.postfix_rest-returns-in_err-index
unfolding rule
postfix_rest-returns-in_err-index t c = λ q same.
    let levels = c.args.self.levels in
    let gone = c.behind.invariant.gone q same in
    let not_head = sym c.is_head.ensures ∙ c.behind-test.true in
    let receiver = c.in_ok-receiver-2.ensures gone.value gone.same in
    handed_on _ _ c.from_residual-in_err-index.result c.from_residual-in_err-index.ensures.1
    (through gone.comes (fails_at levels (p.postfix_rest c.args.takes_do gone.value) (beyond_head gone.value (behind_part c.args.takes_do gone.value) gone.same not_head
    (second_token refl c.in_default.ensures.taken.0 (where_it_stood c.in_default.ensures.taken.1
    (first_token refl c.in-Some-accept_glued.ensures.taken (then_operand _ _ receiver (inside_fails c.in_err-index.ensures))))))))

pub postfix_rest-behind-smaller : goal.postfix_rest-behind-smaller
postfix_rest-behind-smaller t c = omega (arith, stands_no_longer c.in_default.ensures.taken.1, took_less c.in-Some-accept_glued.ensures.taken, nested_no_longer c.args.self.levels c.in-Some-accept_glued.open.now.at p.index_rest c.accept_glued.new.cursor c.index.new.cursor c.in_ok-index.ensures)

pub postfix_rest-behind-preserved : goal.postfix_rest-behind-preserved
unfolding rule
postfix_rest-behind-preserved t c = record {
  gone = λ q same.
      let levels = c.args.self.levels in
      let gone = c.behind.invariant.gone q same in
      let not_head = sym c.is_head.ensures ∙ c.behind-test.true in
      let receiver = c.in_ok-receiver-2.ensures gone.value gone.same in
      let index = c.in_ok-index.ensures in
      let further = p.plain (p.indexed receiver.value index.value c.in-Some-accept_glued.open.now.at) in
      record {
        value = further;
        comes =
            gone.comes
            ∙ leads_to levels (p.postfix_rest c.args.takes_do gone.value) c.behind.cursor (answer_at levels (p.postfix_rest c.args.takes_do further) c.index.new.cursor)
            (over_head gone.value (behind_part c.args.takes_do gone.value) gone.same not_head
            (to_second_token refl c.in_default.ensures.taken.0 (from_where_it_stood c.in_default.ensures.taken.1
            (to_first_token refl c.in-Some-accept_glued.ensures.taken (over_operand _ _ receiver (over_nested index (arrives levels (p.postfix_rest c.args.takes_do further) c.index.new.cursor)))))));
        same = plain (indexed receiver.same index.same);
        shorter = omega (arith, c.behind.invariant.shorter, stands_no_longer c.in_default.ensures.taken.1, took_less c.in-Some-accept_glued.ensures.taken, nested_no_longer c.args.self.levels c.in-Some-accept_glued.open.now.at p.index_rest c.accept_glued.new.cursor c.index.new.cursor c.in_ok-index.ensures);
      };
  shorter = omega (arith, c.behind.invariant.shorter, stands_no_longer c.in_default.ensures.taken.1, took_less c.in-Some-accept_glued.ensures.taken, nested_no_longer c.args.self.levels c.in-Some-accept_glued.open.now.at p.index_rest c.accept_glued.new.cursor c.index.new.cursor c.in_ok-index.ensures);
}

pub postfix_rest-returns-in_default-accept_glued : goal.postfix_rest-returns-in_default-accept_glued
unfolding rule
postfix_rest-returns-in_default-accept_glued t c = λ q same.
    let levels = c.args.self.levels in
    let gone = c.behind.invariant.gone q same in
    let not_head = sym c.is_head.ensures ∙ c.behind-test.true in
    reached_further gone.comes (reached_at levels (p.postfix_rest c.args.takes_do gone.value) (beyond_head gone.value (behind_part c.args.takes_do gone.value) gone.same not_head
    (second_token refl c.in_default.ensures.taken.0 (where_it_stood c.in_default.ensures.taken.1
    (second_token refl c.in_default-accept_glued.ensures.taken.0 (where_it_stood c.in_default-accept_glued.ensures.taken.1 (stops gone.same)))))))

pub postfix_rest-returns : goal.postfix_rest-returns
unfolding rule
postfix_rest-returns t c = λ q same.
    let levels = c.args.self.levels in
    let gone = c.behind.invariant.gone q same in
    reached_further gone.comes (reached_at levels (p.postfix_rest c.args.takes_do gone.value)
    (the_head gone.value (behind_part c.args.takes_do gone.value) gone.same (sym c.is_head.ensures ∙ c.behind-test.false) (stops gone.same)))

-- ---- an operand, by its first token

pub primary-named-requires : goal.primary-named-requires
primary-named-requires t c = omega (arith)

pub primary-constructed-requires : goal.primary-constructed-requires
primary-constructed-requires t c = omega (arith)

pub primary-returns-in-Leaf : goal.primary-returns-in-Leaf
primary-returns-in-Leaf t c =
    carry _ _ _ (primary_is c.args.takes_do c.args.self.levels c.args.cursor.now begin.Leaf (sym c.in-Leaf.is ∙ c.beginning_of.ensures ∙ ap beginning_of c.class.ensures)) c.leaf.ensures

pub primary-returns-in-Text : goal.primary-returns-in-Text
primary-returns-in-Text t c =
    carry _ _ _ (primary_is c.args.takes_do c.args.self.levels c.args.cursor.now begin.Text (sym c.in-Text.is ∙ c.beginning_of.ensures ∙ ap beginning_of c.class.ensures)) c.text.ensures

pub primary-returns-in-Name : goal.primary-returns-in-Name
primary-returns-in-Name t c =
    carry _ _ _ (primary_is c.args.takes_do c.args.self.levels c.args.cursor.now begin.Name (sym c.in-Name.is ∙ c.beginning_of.ensures ∙ ap beginning_of c.class.ensures)) c.named.ensures

pub primary-returns-in-New : goal.primary-returns-in-New
primary-returns-in-New t c =
    carry _ _ _ (primary_is c.args.takes_do c.args.self.levels c.args.cursor.now begin.New (sym c.in-New.is ∙ c.beginning_of.ensures ∙ ap beginning_of c.class.ensures)) c.constructed.ensures

pub primary-returns-in-Array : goal.primary-returns-in-Array
primary-returns-in-Array t c =
    carry _ _ _ (primary_is c.args.takes_do c.args.self.levels c.args.cursor.now begin.Array (sym c.in-Array.is ∙ c.beginning_of.ensures ∙ ap beginning_of c.class.ensures)) c.array.ensures

pub primary-returns-in-Hash : goal.primary-returns-in-Hash
primary-returns-in-Hash t c =
    carry _ _ _ (primary_is c.args.takes_do c.args.self.levels c.args.cursor.now begin.Hash (sym c.in-Hash.is ∙ c.beginning_of.ensures ∙ ap beginning_of c.class.ensures)) c.hash.ensures

pub primary-returns-in-Group : goal.primary-returns-in-Group
primary-returns-in-Group t c =
    carry _ _ _ (primary_is c.args.takes_do c.args.self.levels c.args.cursor.now begin.Group (sym c.in-Group.is ∙ c.beginning_of.ensures ∙ ap beginning_of c.class.ensures)) c.group.ensures

pub primary-returns-in-Choice : goal.primary-returns-in-Choice
primary-returns-in-Choice t c =
    carry _ _ _ (primary_is c.args.takes_do c.args.self.levels c.args.cursor.now begin.Choice (sym c.in-Choice.is ∙ c.beginning_of.ensures ∙ ap beginning_of c.class.ensures)) c.choice.ensures

pub primary-returns-in-Loop : goal.primary-returns-in-Loop
primary-returns-in-Loop t c =
    carry _ _ _ (primary_is c.args.takes_do c.args.self.levels c.args.cursor.now begin.Loop (sym c.in-Loop.is ∙ c.beginning_of.ensures ∙ ap beginning_of c.class.ensures)) c.looped.ensures

pub primary-returns-in-Nothing : goal.primary-returns-in-Nothing
primary-returns-in-Nothing t c =
    through (primary_is c.args.takes_do c.args.self.levels c.args.cursor.now begin.Nothing (sym c.in-Nothing.is ∙ c.beginning_of.ensures ∙ ap beginning_of c.class.ensures))
    (refuses c.args.self.levels c.args.cursor.now c.refusal.ensures)

pub group-returns-in_err-open : goal.group-returns-in_err-open
group-returns-in_err-open t c =
    handed_on _ _ c.from_residual.result c.from_residual.ensures.1 (fails_at_the_rule c.args.self.levels alternatives.group (misses c.in_err-open.ensures.took))

pub group-returns-in_err-inner : goal.group-returns-in_err-inner
group-returns-in_err-inner t c =
    handed_on _ _ c.from_residual-in_err-inner.result c.from_residual-in_err-inner.ensures.1
    (fails_at_the_rule c.args.self.levels alternatives.group (takes c.in_ok-open.ensures.took (stays_shut c.in_err-inner.ensures)))

pub group-statement-requires : goal.group-statement-requires
group-statement-requires t c = omega (arith, took_less c.in_ok-open.ensures.took)

pub group-returns-in_err-grown : goal.group-returns-in_err-grown
unfolding rule
group-returns-in_err-grown t c =
    handed_on _ _ c.from_residual-in_err-grown.result c.from_residual-in_err-grown.ensures.1
    (fails_at_the_rule c.args.self.levels alternatives.group
    (takes c.in_ok-open.ensures.took (fails_inside c.in_ok-inner.ensures.0 (fails_at c.in_ok-inner.inner.levels p.group_rest (fails c.in_err-grown.ensures)))))

pub group-returns-in_err-expect : goal.group-returns-in_err-expect
unfolding rule
group-returns-in_err-expect t c =
    handed_on _ _ c.from_residual-in_err-expect.result c.from_residual-in_err-expect.ensures.1
    (fails_at_the_rule c.args.self.levels alternatives.group
    (takes c.in_ok-open.ensures.took (fails_inside c.in_ok-inner.ensures.0 (fails_at c.in_ok-inner.inner.levels p.group_rest (holds c.in_ok-grown.ensures (misses c.in_err-expect.ensures.took))))))

pub group-returns : goal.group-returns
unfolding rule
group-returns t c =
    let part = made_by IsTree c.in_ok-inner.ensures.1 c.in_ok-grown.ensures in
    let whole = reached_at c.in_ok-inner.inner.levels p.group_rest {Is = IsTree (walk_of c.args.self.make)} (holds part (takes c.in_ok-expect.ensures.took (stops part.same))) in
    at_the_rule c.args.self.levels alternatives.group (takes c.in_ok-open.ensures.took (opens c.in_ok-inner.ensures.0 whole (stops (is_value c.value.ensures whole.same))))

-- ---- text

pub text-returns-in_err-open : goal.text-returns-in_err-open
text-returns-in_err-open t c =
    handed_on _ _ c.from_residual.result c.from_residual.ensures.1 (fails_at_the_rule c.args.self.levels alternatives.text (misses c.in_err-open.ensures.took))

pub text-pieces-requires : goal.text-pieces-requires
text-pieces-requires t c = omega (arith, took_less c.in_ok-open.ensures.took)

pub text-returns-in_err-pieces : goal.text-returns-in_err-pieces
text-returns-in_err-pieces t c =
    handed_on _ _ c.from_residual-in_err-pieces.result c.from_residual-in_err-pieces.ensures.1
    (fails_at_the_rule c.args.self.levels alternatives.text (takes c.in_ok-open.ensures.took (fails c.in_err-pieces.ensures)))

pub text-returns : goal.text-returns
text-returns t c =
    let part = c.in_ok-pieces.ensures in
    at_the_rule c.args.self.levels alternatives.text
    (takes c.in_ok-open.ensures.took (holds part (makes (c.as_value.ensures (walk_of c.args.self.make) (tree.string c.in_ok-open.open.now.at part.value) (c.string.ensures part.value part.same)))))

-- ---- array

pub array-returns-in_err-open : goal.array-returns-in_err-open
array-returns-in_err-open t c =
    handed_on _ _ c.from_residual.result c.from_residual.ensures.1 (fails_at_the_rule c.args.self.levels alternatives.array (misses c.in_err-open.ensures.took))

pub array-returns-in_err-inner : goal.array-returns-in_err-inner
array-returns-in_err-inner t c =
    handed_on _ _ c.from_residual-in_err-inner.result c.from_residual-in_err-inner.ensures.1
    (fails_at_the_rule c.args.self.levels alternatives.array (takes c.in_ok-open.ensures.took (stays_shut c.in_err-inner.ensures)))

pub array-array_items-requires : goal.array-array_items-requires
array-array_items-requires t c = omega (arith, took_less c.in_ok-open.ensures.took)

pub array-returns-in_err-items : goal.array-returns-in_err-items
array-returns-in_err-items t c =
    handed_on _ _ c.from_residual-in_err-items.result c.from_residual-in_err-items.ensures.1
    (fails_at_the_rule c.args.self.levels alternatives.array (takes c.in_ok-open.ensures.took (fails_inside c.in_ok-inner.ensures.0 c.in_err-items.ensures)))

pub array-returns : goal.array-returns
array-returns t c =
    let part = made_by IsRow c.in_ok-inner.ensures.1 c.in_ok-items.ensures in
    at_the_rule c.args.self.levels alternatives.array
    (takes c.in_ok-open.ensures.took (opens c.in_ok-inner.ensures.0 part (makes (c.as_value.ensures (walk_of c.args.self.make) (tree.array c.in_ok-open.open.now.at part.value) (c.array.ensures part.value part.same)))))

-- ---- hash

pub hash-returns-in_err-open : goal.hash-returns-in_err-open
hash-returns-in_err-open t c =
    handed_on _ _ c.from_residual.result c.from_residual.ensures.1 (fails_at_the_rule c.args.self.levels alternatives.hash (misses c.in_err-open.ensures.took))

pub hash-returns-in_err-inner : goal.hash-returns-in_err-inner
hash-returns-in_err-inner t c =
    handed_on _ _ c.from_residual-in_err-inner.result c.from_residual-in_err-inner.ensures.1
    (fails_at_the_rule c.args.self.levels alternatives.hash (takes c.in_ok-open.ensures.took (stays_shut c.in_err-inner.ensures)))

pub hash-pairs-requires : goal.hash-pairs-requires
hash-pairs-requires t c = omega (arith, took_less c.in_ok-open.ensures.took)

pub hash-returns-in_err-pairs : goal.hash-returns-in_err-pairs
hash-returns-in_err-pairs t c =
    handed_on _ _ c.from_residual-in_err-pairs.result c.from_residual-in_err-pairs.ensures.1
    (fails_at_the_rule c.args.self.levels alternatives.hash (takes c.in_ok-open.ensures.took (fails_inside c.in_ok-inner.ensures.0 c.in_err-pairs.ensures)))

pub hash-returns : goal.hash-returns
hash-returns t c =
    let part = made_by ArePairs c.in_ok-inner.ensures.1 c.in_ok-pairs.ensures in
    at_the_rule c.args.self.levels alternatives.hash
    (takes c.in_ok-open.ensures.took (opens c.in_ok-inner.ensures.0 part (makes (c.as_value.ensures (walk_of c.args.self.make) (tree.hash c.in_ok-open.open.now.at part.value) (c.hash.ensures part.value part.same)))))

-- ---- pair

pub pair-argument-requires : goal.pair-argument-requires
pair-argument-requires t c = omega (arith, c.accept.ensures.shorter)

pub pair-argument-requires-2 : goal.pair-argument-requires-2
pair-argument-requires-2 t c = omega (arith, c.accept.ensures.shorter)

pub pair-argument-requires-3 : goal.pair-argument-requires-3
pair-argument-requires-3 t c =
    omega (arith, c.accept.ensures.shorter, no_longer c.args.self.levels (p.argument true) c.accept.new.self c.argument-2.new.cursor c.in_ok-key-2.ensures, took_less c.in_ok-expect.ensures.took)

pub pair-returns-in_err-key : goal.pair-returns-in_err-key
pair-returns-in_err-key t c =
    handed_on _ _ c.from_residual.result c.from_residual.ensures.1
    (low_fails (walk_of c.args.self.make) (tree.symbol (word_by c.word_of.result)) c.in_err-key.field-0.0 refl c.in_err-key.ensures)

pub pair-returns-in_err-value : goal.pair-returns-in_err-value
unfolding rule
pair-returns-in_err-value t c =
    handed_on _ _ c.from_residual-in_err-value.result c.from_residual-in_err-value.ensures.1
    (fails_at c.args.self.levels p.pair (first_token refl c.in-Some.ensures.taken (fails c.in_err-value.ensures)))

pub pair-returns-in-Some : goal.pair-returns-in-Some
unfolding rule
pair-returns-in-Some t c =
    let part = c.in_ok-value.ensures in
    let key = subst (λ v. IsTree (walk_of c.args.self.make) c.in_ok-key.key (tree.symbol v)) c.word_of.ensures c.in_ok-key.ensures.0 in
    reached_at c.args.self.levels p.pair (first_token refl c.in-Some.ensures.taken (holds part (stops (record { first = key; second = part.same }))))

pub pair-returns-in_err-key-2 : goal.pair-returns-in_err-key-2
unfolding rule
pair-returns-in_err-key-2 t c =
    handed_on _ _ c.from_residual-in_err-key-2.result c.from_residual-in_err-key-2.ensures.1
    (fails_at c.args.self.levels p.pair (second_token refl c.in_default.ensures.taken.0 (where_it_stood c.in_default.ensures.taken.1 (fails c.in_err-key-2.ensures))))

pub pair-returns-in_err-expect : goal.pair-returns-in_err-expect
unfolding rule
pair-returns-in_err-expect t c =
    handed_on _ _ c.from_residual-in_err-expect.result c.from_residual-in_err-expect.ensures.1
    (fails_at c.args.self.levels p.pair
    (second_token refl c.in_default.ensures.taken.0 (where_it_stood c.in_default.ensures.taken.1 (holds c.in_ok-key-2.ensures (misses c.in_err-expect.ensures.took)))))

pub pair-returns-in_err-value-2 : goal.pair-returns-in_err-value-2
unfolding rule
pair-returns-in_err-value-2 t c =
    handed_on _ _ c.from_residual-in_err-value-2.result c.from_residual-in_err-value-2.ensures.1
    (fails_at c.args.self.levels p.pair
    (second_token refl c.in_default.ensures.taken.0 (where_it_stood c.in_default.ensures.taken.1 (holds c.in_ok-key-2.ensures (takes c.in_ok-expect.ensures.took (fails c.in_err-value-2.ensures))))))

pub pair-returns : goal.pair-returns
unfolding rule
pair-returns t c =
    let key = c.in_ok-key-2.ensures in
    let part = c.in_ok-value-2.ensures in
    reached_at c.args.self.levels p.pair
    (second_token refl c.in_default.ensures.taken.0 (where_it_stood c.in_default.ensures.taken.1 (holds key (takes c.in_ok-expect.ensures.took (holds part (stops (record { first = key.same; second = part.same })))))))

-- ---- pairs

pub pairs-pairs-init : goal.pairs-pairs-init
unfolding rule
pairs-pairs-init t c = record { value = []; comes = by_rule c.args.self.levels p.hash_rest c.args.cursor.now; same = c.pairs-row.ensures; shorter = omega (arith) }

pub pairs-pair-requires : goal.pairs-pair-requires
pairs-pair-requires t c = omega (arith, c.pairs.invariant.shorter, c.accept.ensures.shorter)

pub pairs-returns-in_err-key : goal.pairs-returns-in_err-key
pairs-returns-in_err-key t c =
    handed_on _ _ c.from_residual.result c.from_residual.ensures.1
    (through c.pairs.invariant.comes
    (fails_at_the_rule c.args.self.levels (more_pairs c.pairs.invariant.value)
    (second_token refl c.in-None.ensures.taken.0 (where_it_stood c.in-None.ensures.taken.1 (fails c.in_err-key.ensures)))))

pub pairs-returns-in_err-push_pair : goal.pairs-returns-in_err-push_pair
pairs-returns-in_err-push_pair t c =
    handed_on _ _ c.from_residual-in_err-push_pair.result c.from_residual-in_err-push_pair.ensures.1 (wanted_memory c.in_err-push_pair.ensures.memory)

pub pairs-returns-in_err-expect : goal.pairs-returns-in_err-expect
unfolding rule
pairs-returns-in_err-expect t c =
    let part = c.in_ok-key.ensures in
    handed_on _ _ c.from_residual-in_err-expect.result c.from_residual-in_err-expect.ensures.1
    (through c.pairs.invariant.comes
    (fails_at_the_rule c.args.self.levels (more_pairs c.pairs.invariant.value)
    (second_token refl c.in-None.ensures.taken.0 (where_it_stood c.in-None.ensures.taken.1 (holds part (ends_by (p.pairs_rest (c.pairs.invariant.value ++ part.value ∷ []))
    (second_token refl c.in-None-accept.ensures.taken.0 (where_it_stood c.in-None-accept.ensures.taken.1 (misses c.in_err-expect.ensures.took)))))))))

pub pairs-returns-in-None-accept : goal.pairs-returns-in-None-accept
unfolding rule
pairs-returns-in-None-accept t c =
    let part = c.in_ok-key.ensures in
    reached_further c.pairs.invariant.comes
    (reached_rule c.args.self.levels (more_pairs c.pairs.invariant.value)
    (second_token refl c.in-None.ensures.taken.0 (where_it_stood c.in-None.ensures.taken.1 (holds part (ends_by (p.pairs_rest (c.pairs.invariant.value ++ part.value ∷ []))
    (second_token refl c.in-None-accept.ensures.taken.0 (where_it_stood c.in-None-accept.ensures.taken.1 (takes c.in_ok-expect.ensures.took
    (stops (c.in_ok-push_pair.ensures.ok c.pairs.invariant.value part.value.0 part.value.1 c.pairs.invariant.same part.same.first part.same.second))))))))))

pub pairs-pairs-smaller : goal.pairs-pairs-smaller
pairs-pairs-smaller t c =
    omega (arith, c.accept.ensures.shorter, no_longer c.args.self.levels p.pair c.accept.new.self c.pair.new.cursor c.in_ok-key.ensures, took_less c.in_default-accept.ensures.taken)

pub pairs-pairs-preserved : goal.pairs-pairs-preserved
unfolding rule
pairs-pairs-preserved t c =
    let part = c.in_ok-key.ensures in
    let found : List (tree.Tree × tree.Tree) = c.pairs.invariant.value ++ part.value ∷ [] in
    record {
      value = found;
      comes =
          c.pairs.invariant.comes
          ∙ leads c.args.self.levels (more_pairs c.pairs.invariant.value) c.pairs.cursor (at_rule c.args.self.levels (more_pairs found) c.accept-in-None.new.self)
          (to_second_token refl c.in-None.ensures.taken.0 (from_where_it_stood c.in-None.ensures.taken.1 (over_phrase part (into_phrase c.args.self.levels (p.pairs_rest found)
          (to_first_token refl c.in_default-accept.ensures.taken (at_place c.args.self.levels (more_pairs found) c.accept-in-None.new.self))))));
      same = c.in_ok-push_pair.ensures.ok c.pairs.invariant.value part.value.0 part.value.1 c.pairs.invariant.same part.same.first part.same.second;
      shorter = omega (arith, c.pairs.invariant.shorter, c.accept.ensures.shorter, no_longer c.args.self.levels p.pair c.accept.new.self c.pair.new.cursor part, c.accept-in-None.ensures.shorter);
    }

pub pairs-returns : goal.pairs-returns
pairs-returns t c =
    reached_further c.pairs.invariant.comes
    (reached_rule c.args.self.levels (more_pairs c.pairs.invariant.value) (first_token refl c.in_default.ensures.taken (stops c.pairs.invariant.same)))

-- ---- array_items

pub array_items-items-init : goal.array_items-items-init
unfolding rule
array_items-items-init t c = record { value = []; comes = by_rule c.args.self.levels p.array_rest c.args.cursor.now; same = c.row-row.ensures; shorter = omega (arith) }

pub array_items-argument-requires : goal.array_items-argument-requires
array_items-argument-requires t c = omega (arith, c.items.invariant.shorter, c.accept.ensures.shorter)

pub array_items-returns-in_err-item : goal.array_items-returns-in_err-item
array_items-returns-in_err-item t c =
    handed_on _ _ c.from_residual.result c.from_residual.ensures.1
    (through c.items.invariant.comes
    (fails_at_the_rule c.args.self.levels (more_items c.items.invariant.value)
    (second_token refl c.in-None.ensures.taken.0 (where_it_stood c.in-None.ensures.taken.1 (fails c.in_err-item.ensures)))))

pub array_items-returns-in_err-push : goal.array_items-returns-in_err-push
array_items-returns-in_err-push t c =
    handed_on _ _ c.from_residual-in_err-push.result c.from_residual-in_err-push.ensures.1 (wanted_memory c.in_err-push.ensures.memory)

pub array_items-returns-in_err-expect : goal.array_items-returns-in_err-expect
unfolding rule
array_items-returns-in_err-expect t c =
    let part = c.in_ok-item.ensures in
    handed_on _ _ c.from_residual-in_err-expect.result c.from_residual-in_err-expect.ensures.1
    (through c.items.invariant.comes
    (fails_at_the_rule c.args.self.levels (more_items c.items.invariant.value)
    (second_token refl c.in-None.ensures.taken.0 (where_it_stood c.in-None.ensures.taken.1 (holds part (ends_by (p.array_items_rest (c.items.invariant.value ++ part.value ∷ []))
    (second_token refl c.in-None-accept.ensures.taken.0 (where_it_stood c.in-None-accept.ensures.taken.1 (misses c.in_err-expect.ensures.took)))))))))

pub array_items-returns-in-None-accept : goal.array_items-returns-in-None-accept
unfolding rule
array_items-returns-in-None-accept t c =
    let part = c.in_ok-item.ensures in
    reached_further c.items.invariant.comes
    (reached_rule c.args.self.levels (more_items c.items.invariant.value)
    (second_token refl c.in-None.ensures.taken.0 (where_it_stood c.in-None.ensures.taken.1 (holds part (ends_by (p.array_items_rest (c.items.invariant.value ++ part.value ∷ []))
    (second_token refl c.in-None-accept.ensures.taken.0 (where_it_stood c.in-None-accept.ensures.taken.1 (takes c.in_ok-expect.ensures.took
    (stops (c.in_ok-push.ensures.ok c.items.invariant.value part.value c.items.invariant.same part.same))))))))))

pub array_items-items-smaller : goal.array_items-items-smaller
array_items-items-smaller t c =
    omega (arith, c.accept.ensures.shorter, no_longer c.args.self.levels (p.argument true) c.accept.new.self c.argument.new.cursor c.in_ok-item.ensures, took_less c.in_default-accept.ensures.taken)

pub array_items-items-preserved : goal.array_items-items-preserved
unfolding rule
array_items-items-preserved t c =
    let part = c.in_ok-item.ensures in
    let found : List tree.Tree = c.items.invariant.value ++ part.value ∷ [] in
    record {
      value = found;
      comes =
          c.items.invariant.comes
          ∙ leads c.args.self.levels (more_items c.items.invariant.value) c.items.cursor (at_rule c.args.self.levels (more_items found) c.accept-in-None.new.self)
          (to_second_token refl c.in-None.ensures.taken.0 (from_where_it_stood c.in-None.ensures.taken.1 (over_phrase part (into_phrase c.args.self.levels (p.array_items_rest found)
          (to_first_token refl c.in_default-accept.ensures.taken (at_place c.args.self.levels (more_items found) c.accept-in-None.new.self))))));
      same = c.in_ok-push.ensures.ok c.items.invariant.value part.value c.items.invariant.same part.same;
      shorter = omega (arith, c.items.invariant.shorter, c.accept.ensures.shorter, no_longer c.args.self.levels (p.argument true) c.accept.new.self c.argument.new.cursor part, c.accept-in-None.ensures.shorter);
    }

pub array_items-returns : goal.array_items-returns
array_items-returns t c =
    reached_further c.items.invariant.comes
    (reached_rule c.args.self.levels (more_items c.items.invariant.value) (first_token refl c.in_default.ensures.taken (stops c.items.invariant.same)))

-- ---- pieces

pub pieces-pieces-init : goal.pieces-pieces-init
pieces-pieces-init t c = record { value = []; comes = refl; same = c.pieces-row.ensures; shorter = omega (arith) }

pub pieces-returns-in_err-push_bytes : goal.pieces-returns-in_err-push_bytes
pieces-returns-in_err-push_bytes t c =
    handed_on _ _ c.from_residual.result c.from_residual.ensures.1 (wanted_memory c.in_err-push_bytes.ensures.memory)

pub pieces-pieces-smaller-in-Some : goal.pieces-pieces-smaller-in-Some
pieces-pieces-smaller-in-Some t c = omega (arith, took_less c.in-Some.ensures.taken)

pub pieces-pieces-preserved-in-Some : goal.pieces-pieces-preserved-in-Some
unfolding rule
pieces-pieces-preserved-in-Some t c =
    let found : List tree.PieceTree = c.pieces.invariant.value ++ tree.bytes (text_of c.in-Some.piece.now.kind) ∷ [] in
    record {
      value = found;
      comes =
          c.pieces.invariant.comes
          ∙ leads_to c.args.self.levels (p.text_rest c.pieces.invariant.value) c.pieces.cursor (answer_at c.args.self.levels (p.text_rest found) c.accept.new.self)
          (to_first_token refl c.in-Some.ensures.taken (arrives c.args.self.levels (p.text_rest found) c.accept.new.self));
      same = subst (λ text. ArePieces (walk_of c.args.self.make) c.push_bytes.new.row (c.pieces.invariant.value ++ tree.bytes text ∷ [])) c.text_of.ensures (c.in_ok-push_bytes.ensures.ok c.pieces.invariant.value c.pieces.invariant.same);
      shorter = omega (arith, c.pieces.invariant.shorter, c.accept.ensures.shorter);
    }

pub pieces-returns-in_err-expect : goal.pieces-returns-in_err-expect
unfolding rule
pieces-returns-in_err-expect t c =
    handed_on _ _ c.from_residual-in_err-expect.result c.from_residual-in_err-expect.ensures.1
    (through c.pieces.invariant.comes
    (fails_at c.args.self.levels (p.text_rest c.pieces.invariant.value)
    (second_token refl c.in_default.ensures.taken.0 (where_it_stood c.in_default.ensures.taken.1
    (second_token refl c.in_default-accept.ensures.taken.0 (where_it_stood c.in_default-accept.ensures.taken.1 (misses c.in_err-expect.ensures.took)))))))

pub pieces-returns-in_default-accept : goal.pieces-returns-in_default-accept
unfolding rule
pieces-returns-in_default-accept t c =
    reached_further c.pieces.invariant.comes
    (reached_at c.args.self.levels (p.text_rest c.pieces.invariant.value)
    (second_token refl c.in_default.ensures.taken.0 (where_it_stood c.in_default.ensures.taken.1
    (second_token refl c.in_default-accept.ensures.taken.0 (where_it_stood c.in_default-accept.ensures.taken.1 (takes c.in_ok-expect.ensures.took (stops c.pieces.invariant.same)))))))

pub pieces-returns-in_err-inner : goal.pieces-returns-in_err-inner
unfolding rule
pieces-returns-in_err-inner t c =
    handed_on _ _ c.from_residual-in_err-inner.result c.from_residual-in_err-inner.ensures.1
    (through c.pieces.invariant.comes
    (fails_at c.args.self.levels (p.text_rest c.pieces.invariant.value)
    (second_token refl c.in_default.ensures.taken.0 (where_it_stood c.in_default.ensures.taken.1 (first_token refl c.in-Some-accept.ensures.taken (stays_shut c.in_err-inner.ensures))))))

pub pieces-statement-requires : goal.pieces-statement-requires
pieces-statement-requires t c = omega (arith, c.pieces.invariant.shorter, c.accept.ensures.shorter, took_less c.in-Some-accept.ensures.taken)

pub pieces-returns-in_err-code : goal.pieces-returns-in_err-code
unfolding rule
pieces-returns-in_err-code t c =
    handed_on _ _ c.from_residual-in_err-code.result c.from_residual-in_err-code.ensures.1
    (through c.pieces.invariant.comes
    (fails_at c.args.self.levels (p.text_rest c.pieces.invariant.value)
    (second_token refl c.in_default.ensures.taken.0 (where_it_stood c.in_default.ensures.taken.1 (first_token refl c.in-Some-accept.ensures.taken
    (fails_inside c.in_ok-inner.ensures.0 (fails_at c.in_ok-inner.inner.levels p.code_rest (fails c.in_err-code.ensures))))))))

pub pieces-returns-in_err-expect-2 : goal.pieces-returns-in_err-expect-2
unfolding rule
pieces-returns-in_err-expect-2 t c =
    handed_on _ _ c.from_residual-in_err-expect-2.result c.from_residual-in_err-expect-2.ensures.1
    (through c.pieces.invariant.comes
    (fails_at c.args.self.levels (p.text_rest c.pieces.invariant.value)
    (second_token refl c.in_default.ensures.taken.0 (where_it_stood c.in_default.ensures.taken.1 (first_token refl c.in-Some-accept.ensures.taken
    (fails_inside c.in_ok-inner.ensures.0 (fails_at c.in_ok-inner.inner.levels p.code_rest (holds c.in_ok-code.ensures (misses c.in_err-expect-2.ensures.took)))))))))

pub pieces-returns-in_err-push_code : goal.pieces-returns-in_err-push_code
pieces-returns-in_err-push_code t c =
    handed_on _ _ c.from_residual-in_err-push_code.result c.from_residual-in_err-push_code.ensures.1 (wanted_memory c.in_err-push_code.ensures.memory)

pub pieces-pieces-smaller : goal.pieces-pieces-smaller
pieces-pieces-smaller t c =
    omega (arith, c.accept.ensures.shorter, took_less c.in-Some-accept.ensures.taken, no_longer c.in_ok-inner.inner.levels p.statement c.accept-in-pieces.new.self c.statement.new.cursor c.in_ok-code.ensures, c.expect-in-pieces.ensures.shorter)

pub pieces-pieces-preserved : goal.pieces-pieces-preserved
unfolding rule
pieces-pieces-preserved t c =
    let part = made_by IsTree c.in_ok-inner.ensures.1 c.in_ok-code.ensures in
    let whole = reached_at c.in_ok-inner.inner.levels p.code_rest {Is = IsTree (walk_of c.args.self.make)} (holds part (takes c.in_ok-expect-2.ensures.took (stops part.same))) in
    let found : List tree.PieceTree = c.pieces.invariant.value ++ tree.code whole.value ∷ [] in
    record {
      value = found;
      comes =
          c.pieces.invariant.comes
          ∙ leads_to c.args.self.levels (p.text_rest c.pieces.invariant.value) c.pieces.cursor (answer_at c.args.self.levels (p.text_rest found) c.expect-in-pieces.new.self)
          (to_second_token refl c.in_default.ensures.taken.0 (from_where_it_stood c.in_default.ensures.taken.1 (to_first_token refl c.in-Some-accept.ensures.taken
          (over_opened c.in_ok-inner.ensures.0 whole (arrives c.args.self.levels (p.text_rest found) c.expect-in-pieces.new.self)))));
      same = c.in_ok-push_code.ensures.ok c.pieces.invariant.value whole.value c.pieces.invariant.same whole.same;
      shorter = omega (arith, c.pieces.invariant.shorter, c.accept.ensures.shorter, took_less c.in-Some-accept.ensures.taken, no_longer c.in_ok-inner.inner.levels p.statement c.accept-in-pieces.new.self c.statement.new.cursor c.in_ok-code.ensures, c.expect-in-pieces.ensures.shorter);
    }

-- ---- body

pub body-more-init : goal.body-more-init
body-more-init t c =
    (record { value = []; comes = c.skip_lines.ensures.skipped.body c.args.self.levels []; same = c.row-row.ensures; shorter = c.skip_lines.ensures.shorter }, c.skip_lines.ensures.skipped.behind)

pub body-statement-requires : goal.body-statement-requires
body-statement-requires t c = let gone = c.more.invariant.0 in omega (arith, gone.shorter)

pub body-returns-in_err-statement : goal.body-returns-in_err-statement
unfolding rule
body-returns-in_err-statement t c =
    let gone = c.more.invariant.0 in
    handed_on _ _ c.from_residual.result c.from_residual.ensures.1
    (through gone.comes
    (fails_at c.args.self.levels (p.body gone.value)
    (second_token refl c.more.invariant.1 (first (statement_begins (λ a. phrase (p.body_rest (gone.value ++ a ∷ [])) done) c.more.cursor.rest true (sym c.more-test.ensures)) (fails c.in_err-statement.ensures)))))

pub body-returns-in_err-push : goal.body-returns-in_err-push
body-returns-in_err-push t c =
    handed_on _ _ c.from_residual-in_err-push.result c.from_residual-in_err-push.ensures.1 (wanted_memory c.in_err-push.ensures.memory)

pub body-returns-then-not-skip_lines : goal.body-returns-then-not-skip_lines
unfolding rule
body-returns-then-not-skip_lines t c =
    let gone = c.more.invariant.0 in
    let part = c.in_ok-statement.ensures in
    let skipped = c.if-not-skip_lines.ensures.skipped in
    reached_further gone.comes
    (reached_at c.args.self.levels (p.body gone.value)
    (second_token refl c.more.invariant.1 (first (statement_begins (λ a. phrase (p.body_rest (gone.value ++ a ∷ [])) done) c.more.cursor.rest true (sym c.more-test.ensures)) (holds part (ends_by (p.body_rest (gone.value ++ part.value ∷ []))
    (where_it_stood (skipped.none refl) (second_token refl skipped.behind (stops (c.in_ok-push.ensures.ok gone.value part.value gone.same part.same)))))))))

pub body-more-smaller : goal.body-more-smaller
body-more-smaller t c =
    omega (arith, no_longer c.args.self.levels p.statement c.more.cursor c.statement.new.cursor c.in_ok-statement.ensures, c.if-not-skip_lines.ensures.less refl)

pub body-more-preserved : goal.body-more-preserved
unfolding rule
body-more-preserved t c =
    let gone = c.more.invariant.0 in
    let part = c.in_ok-statement.ensures in
    let skipped = c.if-not-skip_lines.ensures.skipped in
    let found : List tree.Tree = gone.value ++ part.value ∷ [] in (
      record {
        value = found;
        comes =
            gone.comes
            ∙ leads_to c.args.self.levels (p.body gone.value) c.more.cursor (answer_at c.args.self.levels (p.body_rest found) c.statement.new.cursor)
            (to_second_token refl c.more.invariant.1 (to_first (statement_begins (λ a. phrase (p.body_rest (gone.value ++ a ∷ [])) done) c.more.cursor.rest true (sym c.more-test.ensures))
            (over_phrase part (arrives c.args.self.levels (p.body_rest found) c.statement.new.cursor))))
            ∙ skipped.body_rest c.args.self.levels found refl;
        same = c.in_ok-push.ensures.ok gone.value part.value gone.same part.same;
        shorter = omega (arith, gone.shorter, no_longer c.args.self.levels p.statement c.more.cursor c.statement.new.cursor part, c.if-not-skip_lines.ensures.shorter);
      },
      skipped.behind,
    )

pub body-returns : goal.body-returns
unfolding rule
body-returns t c =
    let gone = c.more.invariant.0 in
    reached_further gone.comes
    (reached_at c.args.self.levels (p.body gone.value)
    (second_token refl c.more.invariant.1 (second (statement_begins (λ a. phrase (p.body_rest (gone.value ++ a ∷ [])) done) c.more.cursor.rest false (sym c.more-test.ensures)) (stops gone.same))))

-- ---- simple

pub simple-returns-then-not-is_value : goal.simple-returns-then-not-is_value
unfolding rule
simple-returns-then-not-is_value t c =
    at_phrase c.args.self.levels p.simple
    (first_token refl c.in-Some.ensures.taken
    (second (value_begins (λ a. finished (tree.return_value c.in-Some.word.now.at a)) c.accept.new.self.rest false (sym c.if-not-is_value.ensures))
    (low_ends (walk_of c.args.self.make) (tree.return_nothing c.in-Some.word.now.at) refl c.return_nothing.ensures)))

pub simple-expression-requires : goal.simple-expression-requires
simple-expression-requires t c = omega (arith, c.accept.ensures.shorter)

pub simple-returns-in_err-grown : goal.simple-returns-in_err-grown
unfolding rule
simple-returns-in_err-grown t c =
    handed_on _ _ c.from_residual.result c.from_residual.ensures.1
    (fails_at c.args.self.levels p.simple
    (first_token refl c.in-Some.ensures.taken
    (first (value_begins (λ a. finished (tree.return_value c.in-Some.word.now.at a)) c.accept.new.self.rest true (sym c.if-not-is_value.ensures))
    (sees (value_seen c.accept.new.self.rest (sym c.if-not-is_value.ensures)) (fails c.in_err-grown.ensures)))))

pub simple-returns-in-Some : goal.simple-returns-in-Some
unfolding rule
simple-returns-in-Some t c =
    let part = c.in_ok-grown.ensures in
    at_phrase c.args.self.levels p.simple
    (first_token refl c.in-Some.ensures.taken
    (first (value_begins (λ a. finished (tree.return_value c.in-Some.word.now.at a)) c.accept.new.self.rest true (sym c.if-not-is_value.ensures))
    (sees (value_seen c.accept.new.self.rest (sym c.if-not-is_value.ensures)) (holds part (finishes (c.return_value.ensures part.value part.same))))))

pub simple-returns-in-Some-accept : goal.simple-returns-in-Some-accept
unfolding rule
simple-returns-in-Some-accept t c =
    at_phrase c.args.self.levels p.simple
    (second_token refl c.in_default.ensures.taken.0 (where_it_stood c.in_default.ensures.taken.1 (first_token refl c.in-Some-accept.ensures.taken
    (low_ends (walk_of c.args.self.make) (tree.constant node.Break c.in-Some-accept.word.now.at) refl c.constant.ensures))))

pub simple-returns-in-Some-accept-2 : goal.simple-returns-in-Some-accept-2
unfolding rule
simple-returns-in-Some-accept-2 t c =
    at_phrase c.args.self.levels p.simple
    (second_token refl c.in_default.ensures.taken.0 (where_it_stood c.in_default.ensures.taken.1 (second_token refl c.in_default-accept.ensures.taken.0 (where_it_stood c.in_default-accept.ensures.taken.1
    (first_token refl c.in-Some-accept-2.ensures.taken
    (low_ends (walk_of c.args.self.make) (tree.constant node.Next c.in-Some-accept-2.word.now.at) refl c.constant-in-Some-accept-2.ensures))))))

pub simple-expression-requires-2 : goal.simple-expression-requires-2
simple-expression-requires-2 t c = omega (arith, c.accept.ensures.shorter, c.accept-2.ensures.shorter, c.accept-3.ensures.shorter)

pub simple-returns : goal.simple-returns
unfolding rule
simple-returns t c =
    at_phrase c.args.self.levels p.simple
    (second_token refl c.in_default.ensures.taken.0 (where_it_stood c.in_default.ensures.taken.1 (second_token refl c.in_default-accept.ensures.taken.0 (where_it_stood c.in_default-accept.ensures.taken.1
    (second_token refl c.in_default-accept-2.ensures.taken.0 (where_it_stood c.in_default-accept-2.ensures.taken.1 (ends_with (p.expression true) c.expression-2.ensures)))))))

-- ---- statement

pub statement-simple-requires : goal.statement-simple-requires
statement-simple-requires t c = omega (arith)

pub statement-returns-in_err-grown : goal.statement-returns-in_err-grown
unfolding rule
statement-returns-in_err-grown t c =
    handed_on _ _ c.from_residual.result c.from_residual.ensures.1 (fails_at c.args.self.levels p.statement (fails c.in_err-grown.ensures))

pub statement-modifiers-init : goal.statement-modifiers-init
unfolding rule
statement-modifiers-init t c =
    let part = c.in_ok-grown.ensures in
    record {
      value = part.value;
      comes =
          leads_to c.args.self.levels p.statement c.args.cursor.now (answer_at c.args.self.levels (p.modified part.value) c.simple.new.cursor)
          (over_phrase part (arrives c.args.self.levels (p.modified part.value) c.simple.new.cursor));
      same = part.same;
      shorter = no_longer c.args.self.levels p.simple c.args.cursor.now c.simple.new.cursor part;
    }

pub statement-expression-requires : goal.statement-expression-requires
statement-expression-requires t c = omega (arith, c.modifiers.invariant.shorter, took_less c.in-Some.ensures.taken)

pub statement-returns-in_err-expression : goal.statement-returns-in_err-expression
unfolding rule
statement-returns-in_err-expression t c =
    handed_on _ _ c.from_residual-in_err-expression.result c.from_residual-in_err-expression.ensures.1
    (through c.modifiers.invariant.comes
    (fails_at c.args.self.levels (p.modified c.modifiers.invariant.value) (first_token refl c.in-Some.ensures.taken (fails c.in_err-expression.ensures))))

pub statement-returns-in_err-condition : goal.statement-returns-in_err-condition
unfolding rule
statement-returns-in_err-condition t c =
    let part = c.in_ok-expression.ensures in
    handed_on _ _ c.from_residual-in_err-condition.result c.from_residual-in_err-condition.ensures.1
    (through c.modifiers.invariant.comes
    (fails_at c.args.self.levels (p.modified c.modifiers.invariant.value)
    (first_token refl c.in-Some.ensures.taken (holds part (decided_fails c.in-Some.word.now part.value (modify c.in-Some.word.now c.modifiers.invariant.value) (c.in_err-condition.ensures part.value c.expression.new.cursor part.same))))))

pub statement-returns-in_err-grown-2 : goal.statement-returns-in_err-grown-2
unfolding rule
statement-returns-in_err-grown-2 t c =
    let part = c.in_ok-expression.ensures in
    let condition = c.in_ok-condition.ensures part.value c.expression.new.cursor part.same in
    handed_on _ _ c.from_residual-in_err-grown-2.result c.from_residual-in_err-grown-2.ensures.1
    (through c.modifiers.invariant.comes
    (fails_at c.args.self.levels (p.modified c.modifiers.invariant.value)
    (first_token refl c.in-Some.ensures.taken (holds part (then_decided c.in-Some.word.now part.value (modify c.in-Some.word.now c.modifiers.invariant.value) condition
    (modify_fails c.in-Some.word.now c.modifiers.invariant.value condition.value (c.in_err-grown-2.ensures c.modifiers.invariant.value condition.value c.expression.new.cursor c.modifiers.invariant.same condition.same)))))))

pub statement-modifiers-smaller : goal.statement-modifiers-smaller
statement-modifiers-smaller t c =
    omega (arith, took_less c.in-Some.ensures.taken, no_longer c.args.self.levels (p.expression true) c.accept_modifier.new.cursor c.expression.new.cursor c.in_ok-expression.ensures)

pub statement-modifiers-preserved : goal.statement-modifiers-preserved
unfolding rule
statement-modifiers-preserved t c =
    let a : tree.Tree = c.modifiers.invariant.value in
    let part = c.in_ok-expression.ensures in
    let condition = c.in_ok-condition.ensures part.value c.expression.new.cursor part.same in
    let whole = c.in_ok-grown-2.ensures a condition.value c.expression.new.cursor c.modifiers.invariant.same condition.same in
    record {
      value = whole.value;
      comes =
          c.modifiers.invariant.comes
          ∙ leads_to c.args.self.levels (p.modified a) c.modifiers.cursor (answer_at c.args.self.levels (p.modified whole.value) c.expression.new.cursor)
          (to_first_token refl c.in-Some.ensures.taken (over_phrase part (over_decided c.in-Some.word.now part.value (modify c.in-Some.word.now a) condition
          (over_modified c.args.self.levels c.in-Some.word.now a condition.value c.expression.new.cursor c.expression.new.cursor whole))));
      same = whole.same;
      shorter = omega (arith, c.modifiers.invariant.shorter, took_less c.in-Some.ensures.taken, no_longer c.args.self.levels (p.expression true) c.accept_modifier.new.cursor c.expression.new.cursor part);
    }

pub statement-returns : goal.statement-returns
unfolding rule
statement-returns t c =
    reached_further c.modifiers.invariant.comes
    (reached_at c.args.self.levels (p.modified c.modifiers.invariant.value)
    (second_token refl c.in_default.ensures.taken.0 (where_it_stood c.in_default.ensures.taken.1 (stops c.modifiers.invariant.same))))

-- ---- looped

pub looped-returns-in_err-word : goal.looped-returns-in_err-word
looped-returns-in_err-word t c =
    handed_on _ _ c.from_residual.result c.from_residual.ensures.1 (fails_at_the_rule c.args.self.levels alternatives.loop (misses c.in_err-word.ensures.took))

pub looped-returns-in_err-inner : goal.looped-returns-in_err-inner
looped-returns-in_err-inner t c =
    handed_on _ _ c.from_residual-in_err-inner.result c.from_residual-in_err-inner.ensures.1
    (fails_at_the_rule c.args.self.levels alternatives.loop (takes c.in_ok-word.ensures.took (stays_shut c.in_err-inner.ensures)))

pub looped-repeated-requires : goal.looped-repeated-requires
looped-repeated-requires t c = omega (arith, took_less c.in_ok-word.ensures.took)

pub looped-returns-in_err-grown : goal.looped-returns-in_err-grown
looped-returns-in_err-grown t c =
    handed_on _ _ c.from_residual-in_err-grown.result c.from_residual-in_err-grown.ensures.1
    (fails_at_the_rule c.args.self.levels alternatives.loop (takes c.in_ok-word.ensures.took (fails_inside c.in_ok-inner.ensures.0 c.in_err-grown.ensures)))

pub looped-returns : goal.looped-returns
looped-returns t c =
    let part = made_by IsTree c.in_ok-inner.ensures.1 c.in_ok-grown.ensures in
    at_the_rule c.args.self.levels alternatives.loop
    (takes c.in_ok-word.ensures.took (opens c.in_ok-inner.ensures.0 part (stops (is_value c.value.ensures part.same))))

-- ---- repeated

pub repeated-expression-requires : goal.repeated-expression-requires
repeated-expression-requires t c = omega (arith)

pub repeated-returns-in_err-expression : goal.repeated-returns-in_err-expression
unfolding rule
repeated-returns-in_err-expression t c =
    handed_on _ _ c.from_residual.result c.from_residual.ensures.1 (fails_at c.args.self.levels (p.loop_rest c.args.word.now) (fails c.in_err-expression.ensures))

pub repeated-returns-in_err-condition : goal.repeated-returns-in_err-condition
unfolding rule
repeated-returns-in_err-condition t c =
    let part = c.in_ok-expression.ensures in
    handed_on _ _ c.from_residual-in_err-condition.result c.from_residual-in_err-condition.ensures.1
    (fails_at c.args.self.levels (p.loop_rest c.args.word.now)
    (holds part (decided_fails c.args.word.now part.value (looped c.args.word.now) (c.in_err-condition.ensures part.value c.expression.new.cursor part.same))))

pub repeated-returns-in_err-expect_loop_body : goal.repeated-returns-in_err-expect_loop_body
unfolding rule
repeated-returns-in_err-expect_loop_body t c =
    let part = c.in_ok-expression.ensures in
    let condition = c.in_ok-condition.ensures part.value c.expression.new.cursor part.same in
    handed_on _ _ c.from_residual-in_err-expect_loop_body.result c.from_residual-in_err-expect_loop_body.ensures.1
    (fails_at c.args.self.levels (p.loop_rest c.args.word.now)
    (holds part (then_decided c.args.word.now part.value (looped c.args.word.now) condition (misses c.in_err-expect_loop_body.ensures.took))))

pub repeated-body-requires : goal.repeated-body-requires
repeated-body-requires t c =
    omega (arith, no_longer c.args.self.levels (p.expression false) c.args.cursor.now c.expression.new.cursor c.in_ok-expression.ensures, took_less c.in_ok-expect_loop_body.ensures.took)

pub repeated-returns-in_err-body : goal.repeated-returns-in_err-body
unfolding rule
repeated-returns-in_err-body t c =
    let part = c.in_ok-expression.ensures in
    let condition = c.in_ok-condition.ensures part.value c.expression.new.cursor part.same in
    handed_on _ _ c.from_residual-in_err-body.result c.from_residual-in_err-body.ensures.1
    (fails_at c.args.self.levels (p.loop_rest c.args.word.now)
    (holds part (then_decided c.args.word.now part.value (looped c.args.word.now) condition (takes c.in_ok-expect_loop_body.ensures.took (fails c.in_err-body.ensures)))))

pub repeated-returns-in_err-expect : goal.repeated-returns-in_err-expect
unfolding rule
repeated-returns-in_err-expect t c =
    let part = c.in_ok-expression.ensures in
    let condition = c.in_ok-condition.ensures part.value c.expression.new.cursor part.same in
    handed_on _ _ c.from_residual-in_err-expect.result c.from_residual-in_err-expect.ensures.1
    (fails_at c.args.self.levels (p.loop_rest c.args.word.now)
    (holds part (then_decided c.args.word.now part.value (looped c.args.word.now) condition
    (takes c.in_ok-expect_loop_body.ensures.took (holds c.in_ok-body.ensures (misses c.in_err-expect.ensures.took))))))

pub repeated-returns : goal.repeated-returns
unfolding rule
repeated-returns t c =
    let part = c.in_ok-expression.ensures in
    let condition = c.in_ok-condition.ensures part.value c.expression.new.cursor part.same in
    let body = c.in_ok-body.ensures in
    at_phrase c.args.self.levels (p.loop_rest c.args.word.now)
    (holds part (then_decided c.args.word.now part.value (looped c.args.word.now) condition
    (takes c.in_ok-expect_loop_body.ensures.took (holds body (takes c.in_ok-expect.ensures.took (finishes (c.repeated.ensures condition.value body.value condition.same body.same)))))))

-- ---- choice

pub choice-returns-in_err-word : goal.choice-returns-in_err-word
choice-returns-in_err-word t c =
    handed_on _ _ c.from_residual.result c.from_residual.ensures.1 (fails_at_the_rule c.args.self.levels alternatives.choice (misses c.in_err-word.ensures.took))

pub choice-returns-in_err-inner : goal.choice-returns-in_err-inner
choice-returns-in_err-inner t c =
    handed_on _ _ c.from_residual-in_err-inner.result c.from_residual-in_err-inner.ensures.1
    (fails_at_the_rule c.args.self.levels alternatives.choice (takes c.in_ok-word.ensures.took (stays_shut c.in_err-inner.ensures)))

pub choice-conditional-requires : goal.choice-conditional-requires
choice-conditional-requires t c = omega (arith, took_less c.in_ok-word.ensures.took)

pub choice-returns-in_err-grown : goal.choice-returns-in_err-grown
choice-returns-in_err-grown t c =
    handed_on _ _ c.from_residual-in_err-grown.result c.from_residual-in_err-grown.ensures.1
    (fails_at_the_rule c.args.self.levels alternatives.choice (takes c.in_ok-word.ensures.took (fails_inside c.in_ok-inner.ensures.0 c.in_err-grown.ensures)))

pub choice-returns : goal.choice-returns
choice-returns t c =
    let part = made_by IsTree c.in_ok-inner.ensures.1 c.in_ok-grown.ensures in
    at_the_rule c.args.self.levels alternatives.choice
    (takes c.in_ok-word.ensures.took (opens c.in_ok-inner.ensures.0 part (stops (is_value c.value.ensures part.same))))

-- ---- arm

pub arm-expression-requires : goal.arm-expression-requires
arm-expression-requires t c = omega (arith)

pub arm-returns-in_err-expression : goal.arm-returns-in_err-expression
arm-returns-in_err-expression t c =
    handed_on _ _ c.from_residual.result c.from_residual.ensures.1 (fails_at_the_rule c.args.self.levels (arm_of c.args.word.now) (fails c.in_err-expression.ensures))

pub arm-returns-in_err-condition : goal.arm-returns-in_err-condition
arm-returns-in_err-condition t c =
    let part = c.in_ok-expression.ensures in
    handed_on _ _ c.from_residual-in_err-condition.result c.from_residual-in_err-condition.ensures.1
    (fails_at_the_rule c.args.self.levels (arm_of c.args.word.now)
    (holds part (decided_fails c.args.word.now part.value (arm_behind c.args.word.now) (c.in_err-condition.ensures part.value c.expression.new.cursor part.same))))

pub arm-returns-in_err-take_then : goal.arm-returns-in_err-take_then
arm-returns-in_err-take_then t c =
    let part = c.in_ok-expression.ensures in
    let condition = c.in_ok-condition.ensures part.value c.expression.new.cursor part.same in
    handed_on _ _ c.from_residual-in_err-take_then.result c.from_residual-in_err-take_then.ensures.1
    (fails_at_the_rule c.args.self.levels (arm_of c.args.word.now)
    (holds part (then_decided c.args.word.now part.value (arm_behind c.args.word.now) condition (fails (c.in_err-take_then.ensures.came c.args.self.levels)))))

pub arm-body-requires : goal.arm-body-requires
arm-body-requires t c =
    omega (arith, no_longer c.args.self.levels (p.expression true) c.args.cursor.now c.expression.new.cursor c.in_ok-expression.ensures, fewer c.args.self.levels p.then c.expression.new.cursor c.take_then.new.cursor refl (c.in_ok-take_then.ensures.came c.args.self.levels))

pub arm-returns-in_err-body : goal.arm-returns-in_err-body
arm-returns-in_err-body t c =
    let part = c.in_ok-expression.ensures in
    let condition = c.in_ok-condition.ensures part.value c.expression.new.cursor part.same in
    handed_on _ _ c.from_residual-in_err-body.result c.from_residual-in_err-body.ensures.1
    (fails_at_the_rule c.args.self.levels (arm_of c.args.word.now)
    (holds part (then_decided c.args.word.now part.value (arm_behind c.args.word.now) condition (holds (c.in_ok-take_then.ensures.came c.args.self.levels) (fails c.in_err-body.ensures)))))

pub arm-returns : goal.arm-returns
arm-returns t c =
    let part = c.in_ok-expression.ensures in
    let condition = c.in_ok-condition.ensures part.value c.expression.new.cursor part.same in
    let body = c.in_ok-body.ensures in
    reached_rule c.args.self.levels (arm_of c.args.word.now)
    (holds part (then_decided c.args.word.now part.value (arm_behind c.args.word.now) condition
    (holds (c.in_ok-take_then.ensures.came c.args.self.levels) (holds body (stops (record { at = refl; condition = condition.same; body = body.same }))))))

-- ---- otherwise

pub otherwise-returns-in_err-expect : goal.otherwise-returns-in_err-expect
unfolding rule
otherwise-returns-in_err-expect t c = λ not_there.
    handed_on _ _ c.from_residual.result c.from_residual.ensures.1
    (fails_at c.args.self.levels (p.otherwise c.args.may_go_on)
    (second_token (no_elsif_at_end c.args.may_go_on) not_there
    (second_token refl c.in_default.ensures.taken.0 (where_it_stood c.in_default.ensures.taken.1 (misses c.in_err-expect.ensures.took)))))

pub otherwise-returns-in_default : goal.otherwise-returns-in_default
unfolding rule
otherwise-returns-in_default t c = λ not_there.
    reached_at c.args.self.levels (p.otherwise c.args.may_go_on)
    (second_token (no_elsif_at_end c.args.may_go_on) not_there
    (second_token refl c.in_default.ensures.taken.0 (where_it_stood c.in_default.ensures.taken.1 (takes c.in_ok-expect.ensures.took (stops c.row.ensures)))))

pub otherwise-body-requires : goal.otherwise-body-requires
otherwise-body-requires t c = omega (arith, took_less c.in-Some.ensures.taken)

pub otherwise-returns-in_err-body : goal.otherwise-returns-in_err-body
unfolding rule
otherwise-returns-in_err-body t c = λ not_there.
    handed_on _ _ c.from_residual-in_err-body.result c.from_residual-in_err-body.ensures.1
    (fails_at c.args.self.levels (p.otherwise c.args.may_go_on)
    (second_token (no_elsif_at_end c.args.may_go_on) not_there (first_token refl c.in-Some.ensures.taken (fails c.in_err-body.ensures))))

pub otherwise-returns-in_err-expect-2 : goal.otherwise-returns-in_err-expect-2
unfolding rule
otherwise-returns-in_err-expect-2 t c = λ not_there.
    handed_on _ _ c.from_residual-in_err-expect-2.result c.from_residual-in_err-expect-2.ensures.1
    (fails_at c.args.self.levels (p.otherwise c.args.may_go_on)
    (second_token (no_elsif_at_end c.args.may_go_on) not_there (first_token refl c.in-Some.ensures.taken (holds c.in_ok-body.ensures (misses c.in_err-expect-2.ensures.took)))))

pub otherwise-returns : goal.otherwise-returns
unfolding rule
otherwise-returns t c = λ not_there.
    let body = c.in_ok-body.ensures in
    reached_at c.args.self.levels (p.otherwise c.args.may_go_on)
    (second_token (no_elsif_at_end c.args.may_go_on) not_there (first_token refl c.in-Some.ensures.taken (holds body (takes c.in_ok-expect-2.ensures.took (stops body.same)))))

-- ---- conditional

pub conditional-arm-requires : goal.conditional-arm-requires
conditional-arm-requires t c = omega (arith)

pub conditional-returns-in_err-first : goal.conditional-returns-in_err-first
conditional-returns-in_err-first t c =
    handed_on _ _ c.from_residual.result c.from_residual.ensures.1 (first_arm_fails c.args.self.levels c.args.word.now c.args.cursor.now c.in_err-first.ensures)

pub conditional-same-more : goal.conditional-same-more
conditional-same-more t c = refl

pub conditional-same-more-2 : goal.conditional-same-more-2
conditional-same-more-2 t c = refl

pub conditional-same-more-in-Some : goal.conditional-same-more-in-Some
conditional-same-more-in-Some t c = refl

pub conditional-same-more-in-Continue-branch-3 : goal.conditional-same-more-in-Continue-branch-3
conditional-same-more-in-Continue-branch-3 t c = refl

pub conditional-arms-init : goal.conditional-arms-init
conditional-arms-init t c =
    let part = c.in_ok-first.ensures in
    record {
      arm = part.value;
      arms = [];
      comes = first_arm c.args.self.levels c.is_if-may_go_on.result c.args.word.now c.args.cursor.now c.arm.new.cursor part.value c.is_if-may_go_on.ensures part.reads;
      is_first = part.same;
      are_more = subst (λ more. AreArms (walk_of c.args.self.make) more []) (sym c.new-more.ensures) tt;
      shorter = arm_no_longer c.args.self.levels c.args.word.now c.args.cursor.now c.arm.new.cursor part;
    }

pub conditional-arm-requires-in-Some : goal.conditional-arm-requires-in-Some
conditional-arm-requires-in-Some t c = omega (arith, c.arms.invariant.shorter, took_less c.in-Some.ensures.taken)

pub conditional-returns-in_err-next : goal.conditional-returns-in_err-next
conditional-returns-in_err-next t c =
    handed_on _ _ c.from_residual-in_err-next.result c.from_residual-in_err-next.ensures.1
    (through c.arms.invariant.comes
    (next_arm_fails c.args.self.levels c.is_if-may_go_on.result c.in-Some.elsif.now c.arms.cursor c.accept_allowed.new.cursor c.arms.invariant.arm c.arms.invariant.arms c.in-Some.ensures.taken c.in_err-next.ensures))

pub conditional-returns-in_err-push : goal.conditional-returns-in_err-push
conditional-returns-in_err-push t c = handed_on _ _ c.from_residual-in_err-push.result c.from_residual-in_err-push.ensures.1 memory

pub conditional-arms-smaller : goal.conditional-arms-smaller
conditional-arms-smaller t c =
    omega (arith, took_less c.in-Some.ensures.taken, arm_no_longer c.args.self.levels c.in-Some.elsif.now c.accept_allowed.new.cursor c.arm-in-Some.new.cursor c.in_ok-next.ensures)

pub conditional-arms-preserved : goal.conditional-arms-preserved
conditional-arms-preserved t c =
    let gone = c.arms.invariant in
    let part = c.in_ok-next.ensures in
    record {
      arm = gone.arm;
      arms = gone.arms ++ part.value ∷ [];
      comes = gone.comes ∙ next_arm c.args.self.levels c.is_if-may_go_on.result c.in-Some.elsif.now c.arms.cursor c.accept_allowed.new.cursor c.arm-in-Some.new.cursor gone.arm gone.arms part.value c.in-Some.ensures.taken part.reads;
      is_first = gone.is_first;
      are_more = subst (λ more. AreArms (walk_of c.args.self.make) more (gone.arms ++ part.value ∷ [])) (sym c.in_ok-push.ensures.ok) (arms_and (walk_of c.args.self.make) c.arms.more gone.arms c.in_ok-next.next part.value gone.are_more part.same);
      shorter = omega (arith, gone.shorter, took_less c.in-Some.ensures.taken, arm_no_longer c.args.self.levels c.in-Some.elsif.now c.accept_allowed.new.cursor c.arm-in-Some.new.cursor part);
    }

pub conditional-otherwise-requires : goal.conditional-otherwise-requires
conditional-otherwise-requires t c = omega (arith, c.arms.invariant.shorter, ap (λ s. length s.rest) c.in_default.ensures.taken.1)

pub conditional-returns-in_err-last : goal.conditional-returns-in_err-last
conditional-returns-in_err-last t c =
    let gone = c.arms.invariant in
    let stood = c.in_default.ensures.taken.1 in
    let not_there = subst (λ s. next_meets (allowed c.is_if-may_go_on.result elsif_word) s.rest ≡ false) (sym stood) c.in_default.ensures.taken.0 in
    handed_on _ _ c.from_residual-in_err-last.result c.from_residual-in_err-last.ensures.1
    (through (gone.comes ∙ ap (λ s. and_then (answer_at c.args.self.levels (p.otherwise c.is_if-may_go_on.result) s) (rest_of c.args.self.levels (chosen_of gone.arm gone.arms))) (sym stood))
    (fails_with (answer_at c.args.self.levels (p.otherwise c.is_if-may_go_on.result) c.accept_allowed.new.cursor) (rest_of c.args.self.levels (chosen_of gone.arm gone.arms)) (c.in_err-last.ensures not_there)))

pub conditional-returns : goal.conditional-returns
conditional-returns t c =
    let gone = c.arms.invariant in
    let stood = c.in_default.ensures.taken.1 in
    let not_there = subst (λ s. next_meets (allowed c.is_if-may_go_on.result elsif_word) s.rest ≡ false) (sym stood) c.in_default.ensures.taken.0 in
    let last = c.in_ok-last.ensures not_there in
    carry (IsTree (walk_of c.args.self.make)) c.otherwise.new.cursor c.chosen.result
    (gone.comes
    ∙ ap (λ s. and_then (answer_at c.args.self.levels (p.otherwise c.is_if-may_go_on.result) s) (rest_of c.args.self.levels (chosen_of gone.arm gone.arms))) (sym stood)
    ∙ ap (λ o. and_then o (rest_of c.args.self.levels (chosen_of gone.arm gone.arms))) last.reads)
    (c.chosen.ensures gone.arm gone.arms last.value c.otherwise.new.cursor gone.is_first gone.are_more last.same)

pub primary-array-requires : goal.primary-array-requires
primary-array-requires t c = omega arith

pub primary-choice-requires : goal.primary-choice-requires
primary-choice-requires t c = omega arith

pub primary-group-requires : goal.primary-group-requires
primary-group-requires t c = omega arith

pub primary-hash-requires : goal.primary-hash-requires
primary-hash-requires t c = omega arith

pub primary-looped-requires : goal.primary-looped-requires
primary-looped-requires t c = omega arith

pub primary-text-requires : goal.primary-text-requires
primary-text-requires t c = omega arith

pub unary-postfix_rest-requires : goal.unary-postfix_rest-requires
unary-postfix_rest-requires t c =
    omega (
      arith,
      ap (λ s. length s.rest) c.in_default.ensures.taken.1,
      ap (λ s. length s.rest) c.in_default-accept.ensures.taken.1,
      no_longer c.args.self.levels (p.primary c.args.takes_do) c.accept-2.new.self c.primary.new.cursor c.in_ok-part-2.ensures,
    )

pub unary-postfix_rest-requires-in-Some-accept_negative : goal.unary-postfix_rest-requires-in-Some-accept_negative
unary-postfix_rest-requires-in-Some-accept_negative t c =
    omega (arith, ap (λ s. length s.rest) c.in_default.ensures.taken.1, took_less c.in-Some-accept.ensures.taken, took_less c.in-Some-accept_negative.ensures.taken.1.1)
