use Rattle.std.proofs.Common.{sym, ap, ◌∙◌}
use Rattle.rb_model.specs.Values.{plain}
use Rattle.rb_model.specs.Things.{has_key}
use Rattle.ordered_pairs.proofs.Ordered.{is_there}
use Rattle.ordered_pairs.proofs.indexed.IndexedPairs.has.Goals as goal

pub returns : goal.returns
returns c = c.contains.ensures ∙ sym (is_there c.args.key.now c.self.inside.entries.entries) ∙ ap (has_key (plain c.args.key.now)) c.self.view_is
