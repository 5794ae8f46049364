use Rattle.std.proofs.Common.{◌≡◌, map, drop}
use Rattle.std.specs.List.{list_any}
use Rattle.rb_model.specs.Values.{plain}
use Rattle.rb_walk.specs.Answers.{is_thing}
use Rattle.rb_walk.proofs.asked.has_thing.Given as goal

abbrev pub invariant-values : goal.invariant-values
invariant-values l = list_any is_thing (map plain (drop l.value-index l.values)) ≡ list_any is_thing (map plain l.values)
