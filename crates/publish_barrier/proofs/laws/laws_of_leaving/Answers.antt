use Rattle.publish_barrier.proofs.Leaving.{leaves_private, leaves_without}
use Rattle.publish_barrier.proofs.Lawful.{all_out, one_leaves, some_leaves}
use Rattle.publish_barrier.proofs.Spreading.{leaves_reach}
use Rattle.publish_barrier.proofs.Ending.{all_end}
use Rattle.publish_barrier.proofs.laws.laws_of_leaving.Goals as goal

pub returns : goal.returns
returns c = record {
  one = λ h k l vs ms ns a b. one_leaves ns l a b;
  rest = λ h k vs ms a. leaves_without a;
  private = λ h k vs ms a. leaves_private a;
  reach = λ h k vs ms a. leaves_reach h k vs ms a;
  total = λ h vs. some_leaves h vs;
  out = λ h k vs ms a. all_out a;
  ends = λ h k vs ms a. all_end h k vs ms a;
}
