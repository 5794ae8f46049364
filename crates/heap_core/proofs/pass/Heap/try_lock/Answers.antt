use Rattle.std.proofs.Common.{eqb-true, eq-eqb, true≢false, sym, ◌∙◌}
use Rattle.heap_core.specs.Blocks.{LockAt}
use Rattle.heap_core.proofs.Locking.{tries_lock}
use Rattle.heap_core.proofs.Rooms.{place_inside}
use Rattle.heap_core.proofs.pass.Heap.try_lock.Goals as goal

pub compare_exchange-requires : goal.compare_exchange-requires
compare_exchange-requires g c = record {
  of = c.requires.of;
  known = (LockAt c.args.at, c.requires.known, place_inside (LockAt c.args.at));
  allows = tries_lock _ _ _ _ _ c.args.pass.now.rests.1.live c.requires.known;
}

pub returns : goal.returns
returns g c =
    let told = c.compare_exchange.ensures.told (LockAt c.args.at) c.requires.known (place_inside (LockAt c.args.at)) in
    record {
      of = c.compare_exchange.ensures.of;
      had = λ is. told.0 (eqb-true c.compare_exchange.result 0 is);
      not_had = λ is. told.1 (λ same. true≢false (sym (eq-eqb c.compare_exchange.result 0 same) ∙ is));
    }
