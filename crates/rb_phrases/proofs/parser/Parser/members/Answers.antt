use Rattle.std.proofs.Common.{arith, refl, sym, ◌∙◌, subst}
use Rattle.rb_grammar.specs.Look as look
use Rattle.rb_grammar.specs.Tree as tree
use Rattle.rb_grammar.specs.Phrase as p
use Rattle.rb_grammar.specs.Rule.{done, token, phrase}
use Rattle.rb_grammar.specs.Grammar.{rule}
use Rattle.rb_cursor.specs.Here.{at_rule}
use Rattle.rb_cursor.proofs.Steps.{handed_on, takes, misses, stops, where_it_stood, through, reached_further}
use Rattle.rb_builder.specs.Builder.{walk_of}
use Rattle.rb_builder.specs.Script.{AreMembers}
use Rattle.rb_phrases.proofs.Forms.{took_less}
use Rattle.rb_phrases.proofs.Ends.{fails_at_the_rule, reached_rule}
use Rattle.rb_phrases.proofs.Scripts.{read_added, none_added, over_line}
use Rattle.rb_grammar.specs.Look.{one_of}
use Rattle.rb_phrases.proofs.parser.Parser.members.Goals as goal

pub members-init : goal.members-init
unfolding rule
members-init c =
    record { value = tree.no_members; comes = refl; same = c.members-members.ensures; shorter = omega arith }

pub returns-in_err-member : goal.returns-in_err-member
unfolding rule
returns-in_err-member c =
    handed_on _ _ c.from_residual.result c.from_residual.ensures.1
    (through c.members.invariant.comes (c.in_err-member.ensures c.members.invariant.value c.members.invariant.same))

pub members-smaller : goal.members-smaller
unfolding rule
members-smaller c =
    let added = read_added _ _ c.in_ok-member.field-0 c.if-branch.true (c.in_ok-member.ensures c.members.invariant.value c.members.invariant.same) in
    omega (arith, added.shorter, took_less c.in_ok-expect.ensures.took)

pub members-preserved : goal.members-preserved
unfolding rule
members-preserved c =
    let added = read_added _ _ c.in_ok-member.field-0 c.if-branch.true (c.in_ok-member.ensures c.members.invariant.value c.members.invariant.same) in
    record {
      value = added.value;
      comes = c.members.invariant.comes ∙ added.comes ∙ over_line c.args.self.levels (look.is look.line) (p.members_rest added.value) c.in_ok-expect.ensures.took;
      same = added.same;
      shorter = omega (arith, added.shorter, took_less c.in_ok-expect.ensures.took, c.members.invariant.shorter);
    }

pub returns-in_err-expect : goal.returns-in_err-expect
unfolding rule
returns-in_err-expect c =
    let added = read_added _ _ c.in_ok-member.field-0 c.if-branch.true (c.in_ok-member.ensures c.members.invariant.value c.members.invariant.same) in
    handed_on _ _ c.from_residual-in_err-expect.result c.from_residual-in_err-expect.ensures.1
    (through c.members.invariant.comes (through added.comes (fails_at_the_rule c.args.self.levels (token (look.is look.line) (λ l. phrase (p.members_rest added.value) done)) (misses c.in_err-expect.ensures.took))))

pub returns-in_err-expect-2 : goal.returns-in_err-expect-2
unfolding rule
returns-in_err-expect-2 c =
    let none = none_added (AreMembers (walk_of c.args.self.make)) (λ more. at_rule c.args.self.levels (token (look.is look.line) (λ l. phrase (p.members_rest more) done)) c.member.new.cursor) c.in_ok-member.field-0 c.if-branch.false (c.in_ok-member.ensures c.members.invariant.value c.members.invariant.same) in
    handed_on _ _ c.from_residual-in_err-expect-2.result c.from_residual-in_err-expect-2.ensures.1
    (through c.members.invariant.comes (through none.comes (fails_at_the_rule c.args.self.levels (token (look.is look.end_word) (λ t. done c.members.invariant.value)) (where_it_stood none.stays (misses c.in_err-expect-2.ensures.took)))))

pub returns : goal.returns
unfolding rule
returns c =
    let none = none_added (AreMembers (walk_of c.args.self.make)) (λ more. at_rule c.args.self.levels (token (look.is look.line) (λ l. phrase (p.members_rest more) done)) c.member.new.cursor) c.in_ok-member.field-0 c.if-branch.false (c.in_ok-member.ensures c.members.invariant.value c.members.invariant.same) in
    reached_further c.members.invariant.comes (reached_further none.comes (reached_rule c.args.self.levels (token (look.is look.end_word) (λ t. done c.members.invariant.value)) (where_it_stood none.stays (takes c.in_ok-expect-2.ensures.took (stops (subst (λ x. AreMembers (walk_of c.args.self.make) x c.members.invariant.value) (sym none.kept) c.members.invariant.same))))))
