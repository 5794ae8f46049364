use Rattle.std.proofs.Common.{ap, [], Some, take, ◌+◌, ◌∙◌}
use Rattle.std.specs.List.{list_any}
use Rattle.std.proofs.lemmas.List.{take_more, take_all}
use Rattle.rb_checker.specs.Locals.{same_local}
use Rattle.rb_checker.specs.Scoped.{names_behind, names_at}
use Rattle.rb_checker.proofs.Makes.{made_before, names_next, knows_next, none_at}
use Rattle.rb_checker.proofs.naming.names_of_blocks.Goals as goal

pub made-init : goal.made-init
made-init c = record {
  known = λ v. ap (list_any (same_local v)) c.new-known.ensures.empty;
  names = λ place. none_at c.new-blocks.result place c.new-blocks.ensures.empty;
}

pub made-preserved : goal.made-preserved
made-preserved c =
    let made = c.args.made.now in
    let i = c.made.local-index in
    let more = take_more made i _ c.made-test.true in
    let before = made_before [] (take i made) in
    record {
      known = knows_next c.add_to_block.new.known (take i made) (take (i + 1) made) _ more (c.in_ok-add_to_block.ensures.known before c.made.invariant.known);
      names = λ place. names_next (Some place) (take i made) (take (i + 1) made) _ (names_at c.made.blocks place) (names_at c.add_to_block.new.blocks place) more
          (c.made.invariant.names place) (c.in_ok-add_to_block.ensures.names before place c.made.invariant.known);
    }

pub returns : goal.returns
returns c = λ place. c.made.invariant.names place ∙ ap (names_behind [] (Some place)) (take_all c.made.local-index c.args.made.now c.made-test.false)
