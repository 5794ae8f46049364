use Rattle.std.proofs.Common.{ap, refl, sym, subst, [], take, ◌+◌, ◌∙◌, arith}
use Rattle.std.specs.Prelude.{◌==◌}
use Rattle.std.specs.List.{list_any}
use Rattle.std.proofs.lemmas.List.{take_more, take_all}
use Rattle.rb_checker.specs.Crowd.{crowded, seen_behind}
use Rattle.rb_checker.specs.Crowded.{IsCrowd}
use Rattle.rb_checker.specs.Fault.{first_of}
use Rattle.rb_checker.proofs.CrowdMore.{seen_behind-append, first_crowded}
use Rattle.rb_checker.proofs.crowds.crowded.Goals as goal

pub uses-init : goal.uses-init
uses-init c = record {
  kept = record { seen = λ name. ap (list_any (λ k. name.0 == k)) c.new.ensures.empty; left = omega arith };
  first = refl;
}

pub uses-preserved : goal.uses-preserved
uses-preserved c =
    let uses = c.args.uses.now in
    let i = c.uses.place-index in
    let more = take_more uses i _ c.uses-test.true in
    let before = seen_behind [] (take i uses) in
    record {
      kept = subst (IsCrowd c.see.new.self c.args.limit) (sym (ap (seen_behind []) more ∙ seen_behind-append [] (take i uses) _)) (c.in_ok-next.ensures.kept c.args.limit before c.uses.invariant.kept);
      first = first_crowded c.args.limit (take i uses) (take (i + 1) uses) _ c.uses.found c.in_ok-next.next c.first_of_two-found.result more c.uses.invariant.first
          (c.in_ok-next.ensures.fault c.args.limit before c.uses.invariant.kept) c.first_of_two-found.ensures;
    }

pub returns : goal.returns
returns c = c.uses.invariant.first ∙ ap (λ us. first_of (crowded c.args.limit us)) (take_all c.uses.place-index c.args.uses.now c.uses-test.false)
