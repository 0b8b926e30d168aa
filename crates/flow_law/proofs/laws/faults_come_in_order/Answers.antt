use Rattle.flow_law.proofs.FaultsComeInOrder.{faults_of_drafts}
use Rattle.flow_law.proofs.laws.faults_come_in_order.Goals as goal

pub returns : goal.returns
returns c = faults_of_drafts
