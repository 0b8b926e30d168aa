use Rattle.flow_core.proofs.NetworksInOrder.{all_blocks_fault_by_number}
use Rattle.flow_core.proofs.laws.blocks_fault_by_number.Goals as goal

pub returns : goal.returns
returns g c = all_blocks_fault_by_number _
