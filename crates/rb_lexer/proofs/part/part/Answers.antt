use Rattle.std.proofs.Common.{sym, ◌∙◌}
use Rattle.std.proofs.lemmas.List.{take_rest}
use Rattle.rb_lexer.proofs.Parts.{part-plain, part-escape, part-end, part-last}
use Rattle.rb_lexer.proofs.part.part.Goals as goal

pub characters-preserved-then-begins_plain : goal.characters-preserved-then-begins_plain
characters-preserved-then-begins_plain c =
    part-plain c.characters.invariant _ _ (take_rest c.args.bytes.now c.characters.at) c.characters-test.true (sym c.begins_plain.ensures ∙ c.if-begins_plain.true) c.in_ok-push.ensures.ok

pub returns-in_default : goal.returns-in_default
returns-in_default c = (
  c.characters.invariant.within,
  part-end c.characters.invariant _ (take_rest c.args.bytes.now c.characters.at) (sym c.begins_plain.ensures ∙ c.if-begins_plain.false) c.in_default.ensures,
)

pub characters-preserved : goal.characters-preserved
characters-preserved c =
    let found = c.in-Some.ensures in
    part-escape c.characters.invariant _ _ (take_rest c.args.bytes.now c.characters.at) found.0 c.in-Some.character found.1 found.2 found.3 c.in_ok-push-2.ensures.ok

pub returns : goal.returns
returns c = (c.characters.invariant.within, part-last c.characters.invariant c.characters-test.false)
