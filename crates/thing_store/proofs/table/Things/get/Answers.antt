use Rattle.std.proofs.Common.{map, ap, ◌∙◌}
use Rattle.std.specs.Option.{option_map}
use Rattle.rb_shared.specs.Store.{found}
use Rattle.thing_store.specs.Kept.{thing_of, id_of, item_of}
use Rattle.thing_store.proofs.Tabled.{copied, found_is}
use Rattle.thing_store.proofs.table.Things.get.Goals as goal

pub returns : goal.returns
returns c = copied c.get.result ∙ ap (option_map thing_of) c.get.ensures.value ∙ found_is c.key_of.result c.self.inside.rows.entries ∙ ap (found (map item_of c.self.inside.rows.entries)) (ap id_of c.key_of.ensures) ∙ ap (λ z. found z c.args.id) c.self.view_is
