use Rattle.publish_barrier.proofs.Leaving.{leaves_private}
use Rattle.sharing_trials.proofs.graphs.publish.Goals as goal

pub commit-requires-clause-private : goal.commit-requires-clause-private
commit-requires-clause-private c = leaves_private c.in_ok-moved.ensures.leaves
