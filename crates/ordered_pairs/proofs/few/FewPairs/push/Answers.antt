use Rattle.std.proofs.Common.{◌≡◌, [], ◌∷◌, ◌++◌, map, sym, ap, ◌∙◌, subst}
use Rattle.std.proofs.lemmas.List.{map-append}
use Rattle.rb_model.specs.Values.{plain}
use Rattle.ordered_pairs.specs.Order.{pair_of}
use Rattle.ordered_pairs.specs.Few.{AreFew}
use Rattle.ordered_pairs.proofs.Row.{few_added}
use Rattle.ordered_pairs.proofs.few.FewPairs.push.Goals.{then-capacity-len+in_ok-reserve_exact, else-capacity-len}
use Rattle.ordered_pairs.proofs.few.FewPairs.push.Goals as goal

pub invariant_of-self-2 : goal.invariant_of-self-2
invariant_of-self-2 c =
    let same_items : c.if-capacity-len.self-inside.pairs.items ≡ c.self.inside.pairs.items = elim c.if-capacity-len.branch [
      | then-capacity-len+in_ok-reserve_exact w ↦ ap (λ x. x.pairs.items) w.self-inside-is ∙ w.reserve_exact.ensures.items
      | else-capacity-len w ↦ ap (λ x. x.pairs.items) w.self-inside-is
    ] in
    let last = (c.args.key, c.args.value) ∷ [] in
    let added : map pair_of c.push_reserved.new.self.items ≡ c.args.self.now ++ (plain c.args.key, plain c.args.value) ∷ [] =
    ap (map pair_of) (c.push_reserved.ensures.items ∙ ap (λ its. its ++ last) same_items)
    ∙ map-append pair_of c.self.inside.pairs.items last
    ∙ ap (λ ps. ps ++ (plain c.args.key, plain c.args.value) ∷ []) c.self.view_is in
    subst AreFew (sym added) (few_added (plain c.args.key) (plain c.args.value) c.args.self.now c.requires.new c.requires.room (subst AreFew c.self.view_is c.self.invariant))
