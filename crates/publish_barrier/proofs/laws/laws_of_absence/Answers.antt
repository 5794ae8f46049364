use Rattle.publish_barrier.proofs.Absence.{all_left, left_acted, left_behind, left_entered, moves_first}
use Rattle.publish_barrier.proofs.laws.laws_of_absence.Goals as goal

pub returns : goal.returns
returns c = record {
  left = λ h k vs ms l. all_left h k vs ms l;
  behind = λ h k vs ms l id is. left_behind h k vs ms id l is;
  entered = λ h thing id is. left_entered h thing id is;
  acted = λ h other act x there id is. left_acted h other act x id there is;
  first = λ h k vs ms l ids gone. moves_first h k vs ms ids l gone;
}
