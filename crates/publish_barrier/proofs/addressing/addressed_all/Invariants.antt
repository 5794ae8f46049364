use Rattle.publish_barrier.proofs.Handing.{AddressedTo, AreAddressed}
use Rattle.publish_barrier.proofs.addressing.addressed_all.Given as goal

abbrev pub invariant-values : goal.invariant-values
invariant-values g l =
    AreAddressed l.fn.heap l.fn.known.refs l.k l.fn.values.items l.values.items × AddressedTo l.fn.heap l.fn.known.refs l.k l.fn.values.items l.values.items
