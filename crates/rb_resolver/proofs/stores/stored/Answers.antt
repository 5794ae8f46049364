use Rattle.rb_code.proofs.Erasing.{erase-store}
use Rattle.rb_resolver.proofs.Numbered.{number_fits, store_fits}
use Rattle.rb_resolver.proofs.stores.stored.Goals as goal

pub returns-clause-erases : goal.returns-clause-erases
returns-clause-erases c = erase-store c.number_of.result c.args.receiver c.args.name c.args.args c.args.at

pub returns-clause-fits : goal.returns-clause-fits
returns-clause-fits c = λ S scope size texts r a.
    store_fits S scope size c.number_of.result c.args.receiver c.args.name c.args.args c.args.at (number_fits S c.args.names.now c.args.name c.number_of.result texts c.number_of.ensures) r a
