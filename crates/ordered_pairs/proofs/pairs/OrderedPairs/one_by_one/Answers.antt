use Rattle.std.proofs.Common.{◌≡◌, ◌≤◌, length, map, ap, sym, subst, ◌∙◌, arith, rules}
use Rattle.rb_model.specs.Values.{plain}
use Rattle.rb_model.specs.Things.{gathered, gathered_onto}
use Rattle.ordered_pairs.specs.Order.{pair_of}
use Rattle.ordered_pairs.proofs.Row.{none_left, put_fits}
use Rattle.ordered_pairs.proofs.pairs.OrderedPairs.one_by_one.Goals as goal

pub given-init : goal.given-init
given-init c = record {
  parts =
      ap (λ ps. gathered_onto ps (map pair_of c.into_iter-key-iterator.result.rest.items)) c.in_ok-pairs.ensures
      ∙ ap (λ its. gathered (map pair_of its)) c.into_iter-key-iterator.ensures.into_iter_gives.0;
  few = let none = ap length c.in_ok-pairs.ensures in omega (arith, none);
}

pub given-preserved : goal.given-preserved
given-preserved c = record {
  parts =
      ap (λ ps. gathered_onto ps (map pair_of c.next.new.self.rest.items)) c.in_ok-add.ensures.done
      ∙ sym (ap (λ its. gathered_onto c.given.pairs (map pair_of its)) c.in-Some.ensures.steps.0)
      ∙ c.given.invariant.parts;
  few = subst (λ ps. length ps ≤ 16777216) (sym c.in_ok-add.ensures.done) (put_fits (plain c.in-Some.key) (plain c.in-Some.value) c.given.pairs c.in_ok-add.ensures.few c.given.invariant.few);
}

pub returns-clause-pairs : goal.returns-clause-pairs
returns-clause-pairs c =
    let none : length c.given.key-iterator.rest.items ≡ 0 = search rules in
    sym (ap (λ its. gathered_onto c.given.pairs (map pair_of its)) (none_left c.given.key-iterator.rest.items none)) ∙ c.given.invariant.parts

pub returns-clause-few : goal.returns-clause-few
returns-clause-few c = c.given.invariant.few
