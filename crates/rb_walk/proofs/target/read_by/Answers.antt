use Rattle.std.proofs.Common.{map, refl, ap}
use Rattle.rb_code.specs.Erase.{erase}
use Rattle.rb_code.proofs.Showing.{shows-field}
use Rattle.rb_walk.proofs.Singles.{single}
use Rattle.rb_walk.proofs.target.read_by.Goals as goal

pub returns-in-Field : goal.returns-in-Field
returns-in-Field c = record {
  params = c.if-not-is_empty.ensures.0 refl;
  only = erase c.only-item.result;
  body = ap (map erase) (single _ _ _ c.as_slice.ensures c.in-len1.len_at_least c.in-len1.len_below c.only-item.is);
  reads = shows-field c.only-item.result c.in-Field.field c.in-Field.at c.in-Field.is;
}
