use Rattle.std.proofs.Common.{ap, [], None, take, ◌+◌, ◌∙◌}
use Rattle.std.specs.List.{list_any}
use Rattle.std.proofs.lemmas.List.{take_more, take_all}
use Rattle.rb_checker.specs.Locals.{same_local}
use Rattle.rb_checker.specs.Scoped.{names_behind}
use Rattle.rb_checker.proofs.Makes.{made_before, names_next, knows_next}
use Rattle.rb_checker.proofs.naming.own_names.Goals as goal

pub made-init : goal.made-init
made-init c = record {
  known = λ v. ap (list_any (same_local v)) c.new-known.ensures.empty;
  names = c.new-names.ensures;
}

pub made-preserved : goal.made-preserved
made-preserved c =
    let made = c.args.made.now in
    let i = c.made.local-index in
    let more = take_more made i _ c.made-test.true in
    let before = made_before [] (take i made) in
    record {
      known = knows_next c.add_own.new.known (take i made) (take (i + 1) made) _ more (c.in_ok-add_own.ensures.known before c.made.invariant.known);
      names = names_next None (take i made) (take (i + 1) made) _ c.made.names c.add_own.new.names more c.made.invariant.names (c.in_ok-add_own.ensures.names before c.made.invariant.known);
    }

pub returns : goal.returns
returns c = c.made.invariant.names ∙ ap (names_behind [] None) (take_all c.made.local-index c.args.made.now c.made-test.false)
