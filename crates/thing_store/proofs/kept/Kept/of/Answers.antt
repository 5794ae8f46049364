use Rattle.std.proofs.Common.{map, ap, sym, ◌∙◌, subst}
use Rattle.rb_model.specs.Doing.{pair, seen}
use Rattle.rb_model.specs.Things.{Pairs, gathered}
use Rattle.rb_model.specs.declared.thing.Thing.{Thing}
use Rattle.thing_store.specs.Kept.{HasKeysOnce}
use Rattle.thing_store.proofs.Taking.{kept_pairs}
use Rattle.thing_store.proofs.kept.Kept.of.Goals as goal

pub returns-in_ok-made-in-Pairs : goal.returns-in_ok-made-in-Pairs
returns-in_ok-made-in-Pairs c =
    let once = subst (λ (t : Thing). HasKeysOnce (seen t)) c.in-Pairs.is c.requires in
    let same = c.in_ok-copied_pairs-in-Pairs.ensures ∙ c.deref-in-Pairs.ensures.value in
    ap Pairs (c.in_ok-made-in-Pairs.ensures.pairs ∙ ap (λ l. gathered (map pair l)) same ∙ kept_pairs c.in-Pairs.pairs.items once) ∙ ap seen (sym c.in-Pairs.is)
