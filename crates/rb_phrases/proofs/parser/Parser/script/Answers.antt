use Rattle.std.proofs.Common.{arith, refl, sym, ◌∙◌, subst}
use Rattle.rb_grammar.specs.Look as look
use Rattle.rb_grammar.specs.Tree as tree
use Rattle.rb_grammar.specs.Phrase as p
use Rattle.rb_grammar.specs.Rule.{done, token}
use Rattle.rb_grammar.specs.Grammar.{rule}
use Rattle.rb_cursor.specs.State.{answer_at}
use Rattle.rb_cursor.proofs.Steps.{fails_at, handed_on, takes, misses, stops, second_token, where_it_stood, through, reached_further}
use Rattle.rb_builder.specs.Builder.{walk_of}
use Rattle.rb_builder.specs.Script.{AreItems}
use Rattle.rb_phrases.proofs.Ends.{fails_at_the_rule, reached_rule, reached_at}
use Rattle.rb_phrases.proofs.Scripts.{read_added, none_added}
use Rattle.rb_grammar.specs.Look.{one_of}
use Rattle.rb_phrases.proofs.parser.Parser.script.Goals as goal

pub items-init : goal.items-init
unfolding rule
items-init c =
    (record { value = tree.no_items; comes = c.skip_lines.ensures.skipped.items c.args.self.levels tree.no_items; same = c.items-items.ensures; shorter = c.skip_lines.ensures.shorter }, c.skip_lines.ensures.skipped.behind)

pub returns-in_err-item : goal.returns-in_err-item
unfolding rule
returns-in_err-item c =
    handed_on _ _ c.from_residual.result c.from_residual.ensures.1
    (through c.items.invariant.0.comes (c.in_err-item.ensures c.items.invariant.0.value c.items.invariant.0.same c.items.invariant.1))

pub returns-in_err-expect : goal.returns-in_err-expect
unfolding rule
returns-in_err-expect c =
    let none = none_added (AreItems (walk_of c.args.self.make)) (λ more. answer_at c.args.self.levels (p.items_rest more) c.item.new.cursor) c.in_ok-item.field-0 c.if-not-branch.true (c.in_ok-item.ensures c.items.invariant.0.value c.items.invariant.0.same c.items.invariant.1) in
    handed_on _ _ c.from_residual-in_err-expect.result c.from_residual-in_err-expect.ensures.1
    (through c.items.invariant.0.comes (through none.comes (fails_at_the_rule c.args.self.levels (token (look.is look.end) (λ t. done c.items.invariant.0.value)) (where_it_stood none.stays (misses c.in_err-expect.ensures.took)))))

pub returns-then-not-branch : goal.returns-then-not-branch
unfolding rule
returns-then-not-branch c =
    let none = none_added (AreItems (walk_of c.args.self.make)) (λ more. answer_at c.args.self.levels (p.items_rest more) c.item.new.cursor) c.in_ok-item.field-0 c.if-not-branch.true (c.in_ok-item.ensures c.items.invariant.0.value c.items.invariant.0.same c.items.invariant.1) in
    reached_further c.items.invariant.0.comes (reached_further none.comes (reached_rule c.args.self.levels (token (look.is look.end) (λ t. done c.items.invariant.0.value)) (where_it_stood none.stays (takes c.in_ok-expect.ensures.took (stops (subst (λ x. AreItems (walk_of c.args.self.make) x c.items.invariant.0.value) (sym none.kept) c.items.invariant.0.same))))))

pub returns-in_err-expect-2 : goal.returns-in_err-expect-2
unfolding rule
returns-in_err-expect-2 c =
    let added = read_added _ _ c.in_ok-item.field-0 c.if-not-branch.false (c.in_ok-item.ensures c.items.invariant.0.value c.items.invariant.0.same c.items.invariant.1) in
    let skipped = c.skip_lines-in-items.ensures.skipped in
    handed_on _ _ c.from_residual-in_err-expect-2.result c.from_residual-in_err-expect-2.ensures.1
    (through c.items.invariant.0.comes (through added.comes (fails_at c.args.self.levels (p.items_rest added.value) (where_it_stood (skipped.none c.if-not-skip_lines.true) (second_token refl skipped.behind (misses c.in_err-expect-2.ensures.took))))))

pub returns-then-not-skip_lines : goal.returns-then-not-skip_lines
unfolding rule
returns-then-not-skip_lines c =
    let added = read_added _ _ c.in_ok-item.field-0 c.if-not-branch.false (c.in_ok-item.ensures c.items.invariant.0.value c.items.invariant.0.same c.items.invariant.1) in
    let skipped = c.skip_lines-in-items.ensures.skipped in
    reached_further c.items.invariant.0.comes (reached_further added.comes (reached_at c.args.self.levels (p.items_rest added.value) (where_it_stood (skipped.none c.if-not-skip_lines.true) (second_token refl skipped.behind (takes c.in_ok-expect-2.ensures.took (stops added.same))))))

pub items-smaller : goal.items-smaller
unfolding rule
items-smaller c =
    let added = read_added _ _ c.in_ok-item.field-0 c.if-not-branch.false (c.in_ok-item.ensures c.items.invariant.0.value c.items.invariant.0.same c.items.invariant.1) in
    let skipped = c.skip_lines-in-items.ensures.skipped in
    omega (arith, added.shorter, c.skip_lines-in-items.ensures.less c.if-not-skip_lines.false)

pub items-preserved : goal.items-preserved
unfolding rule
items-preserved c =
    let added = read_added _ _ c.in_ok-item.field-0 c.if-not-branch.false (c.in_ok-item.ensures c.items.invariant.0.value c.items.invariant.0.same c.items.invariant.1) in
    let skipped = c.skip_lines-in-items.ensures.skipped in (
      record {
        value = added.value;
        comes = c.items.invariant.0.comes ∙ added.comes ∙ skipped.items_rest c.args.self.levels added.value c.if-not-skip_lines.false;
        same = added.same;
        shorter = omega (arith, added.shorter, c.skip_lines-in-items.ensures.shorter, c.items.invariant.0.shorter);
      },
      skipped.behind,
    )
