use Rattle.rb_walk.proofs.Readers.{reader_is}
use Rattle.rb_walk.proofs.target.reader_of.Goals as goal

pub returns : goal.returns
returns c = rw c.in-Ref.is (reader_is c.args.script.now c.in-Ref.object c.in-Object.class c.args.name c.in_ok-field.field c.in_ok-field.at c.in-Object.is c.in_ok-field.ensures)
