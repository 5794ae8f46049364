use Rattle.std.proofs.Common.{map, take, ap, sym, ◌∙◌, rules, filter}
use Rattle.std.specs.Prelude.{nat_lt}
use Rattle.std.proofs.lemmas.Fn.{filter_same}
use Rattle.std.proofs.lemmas.List.{take-map}
use Rattle.thing_store.specs.Kept.{item_of}
use Rattle.thing_store.specs.Counted.{mutex_places}
use Rattle.thing_store.proofs.Freeing.{cut_places}
use Rattle.thing_store.proofs.table.Things.truncate.Goals as goal

pub returns : goal.returns
returns c = ap (map item_of) c.truncate.ensures.entries ∙ sym (take-map item_of c.args.count c.self.inside.rows.entries) ∙ ap (take c.args.count) c.self.view_is

pub invariant_of-self : goal.invariant_of-self
invariant_of-self c =
    filter_same _ (λ place. nat_lt place c.args.count) _ (λ x b f' k. search rules) _ _ c.retain.ensures.filtered
    ∙ ap (filter (λ place. nat_lt place c.args.count)) c.self.invariant ∙ cut_places c.args.count (map item_of c.self.inside.rows.entries)
    ∙ ap mutex_places (take-map item_of c.args.count c.self.inside.rows.entries ∙ sym (ap (map item_of) c.truncate.ensures.entries))
