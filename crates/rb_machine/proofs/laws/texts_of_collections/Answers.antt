use Rattle.rb_machine.proofs.Collections.{collections_are_read_once}
use Rattle.rb_machine.proofs.laws.texts_of_collections.Goals as goal

pub returns : goal.returns
returns c = collections_are_read_once
