use Rattle.std.proofs.Common.{◌≡◌, false, map, take}
use Rattle.rb_model.specs.Doing.{slot}
use Rattle.thing_store.specs.Fields.{has_field}
use Rattle.thing_store.proofs.objects.place_of.Given as goal

-- no field so far has the name
abbrev pub invariant-fields : goal.invariant-fields
invariant-fields l = has_field l.name (map slot (take l.place l.fields)) ≡ false
