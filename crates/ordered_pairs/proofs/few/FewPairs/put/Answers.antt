use Rattle.std.proofs.Common.{◌≡◌, OnOk, refl, sym, ◌∙◌, subst}
use Rattle.rb_model.specs.Values.{plain}
use Rattle.ordered_pairs.specs.Few.{AreFew}
use Rattle.ordered_pairs.proofs.Ordered.{comes_last}
use Rattle.ordered_pairs.proofs.Row.{few_put, place_set, place_within, stands_there}
use Rattle.ordered_pairs.proofs.few.FewPairs.put.Goals.{in-Str-2, in-Nil-2}
use Rattle.ordered_pairs.proofs.few.FewPairs.put.Goals as goal

pub index_mut-requires : goal.index_mut-requires
index_mut-requires c = place_within (plain c.args.key) c.self.inside.pairs.items c.args.self.now c.self.view_is c.in-Some.place c.in-Some.ensures.there _ c.self.inside.pairs.ok.0

pub invariant_of-self : goal.invariant_of-self
invariant_of-self c =
    let there = stands_there (plain c.args.key) c.in-Some.place c.args.self.now c.in-Some.ensures.there in
    let set = place_set (plain c.args.key) c.self.inside.pairs.items c.args.self.now c.self.view_is c.in-Some.place c.in-Some.ensures.there c.index_mut.result.now c.args.value c.index_mut.ensures.value in
    subst AreFew (sym set) (few_put (plain c.args.key) (plain c.args.value) c.args.self.now there (subst AreFew c.self.view_is c.self.invariant))

pub invariant_of-self-in-Some-2 : goal.invariant_of-self-in-Some-2
invariant_of-self-in-Some-2 c =
    let there = stands_there (plain c.args.key) c.in-Some.place c.args.self.now c.in-Some.ensures.there in
    let set = place_set (plain c.args.key) c.self.inside.pairs.items c.args.self.now c.self.view_is c.in-Some.place c.in-Some.ensures.there c.index_mut.result.now c.args.value c.index_mut.ensures.value in
    subst AreFew (sym set) (few_put (plain c.args.key) (plain c.args.value) c.args.self.now there (subst AreFew c.self.view_is c.self.invariant))

pub returns-in-Some-clause-done : goal.returns-in-Some-clause-done
returns-in-Some-clause-done c =
    let set = place_set (plain c.args.key) c.self.inside.pairs.items c.args.self.now c.self.view_is c.in-Some.place c.in-Some.ensures.there c.index_mut.result.now c.args.value c.index_mut.ensures.value in
    elim c.match-key.branch [
      | in-Str-2 w ↦ w.self-is ∙ set
      | in-Nil-2 w ↦ w.self-is ∙ set
    ]

pub returns-in-None-clause-done : goal.returns-in-None-clause-done
returns-in-None-clause-done c =
    let last = comes_last (plain c.args.key) (plain c.args.value) c.args.self.now (c.in-None.ensures.none refl) in
    subst (λ ps. OnOk c.push.result (c.push.new.self ≡ ps)) (sym last) c.push.ensures.done
