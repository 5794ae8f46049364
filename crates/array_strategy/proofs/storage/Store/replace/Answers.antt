use Rattle.array_strategy.proofs.Places.{always_err, flags_widen, ints_widen}
use Rattle.array_strategy.proofs.storage.Store.replace.Goals as goal

pub returns-in_err-anys-in-None-clause-refused : goal.returns-in_err-anys-in-None-clause-refused
returns-in_err-anys-in-None-clause-refused g c =
    always_err c.from_residual.result (ints_widen g.V.Item.int g.V.Item.integer g.V.Item.flag g.V.Item.flag_of _ c.args.item _ c.as_int.result c.in-Ints.is c.as_int.ensures.value c.in-None.is)

pub returns-in_err-anys-in-None-as_flag-clause-refused : goal.returns-in_err-anys-in-None-as_flag-clause-refused
returns-in_err-anys-in-None-as_flag-clause-refused g c =
    always_err c.from_residual-in_err-anys-in-None-as_flag.result (flags_widen g.V.Item.int g.V.Item.integer g.V.Item.flag g.V.Item.flag_of _ c.args.item _ c.as_flag.result c.in-Flags.is c.as_flag.ensures c.in-None-as_flag.is)
