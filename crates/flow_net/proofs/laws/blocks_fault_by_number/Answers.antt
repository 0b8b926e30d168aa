use Rattle.flow_core.proofs.NetworksInOrder.{all_blocks_fault_by_number}
use Rattle.flow_exec.specs.Works.{works_of}
use Rattle.flow_net.proofs.WorksNumbered.{works_fault_by_number}
use Rattle.flow_net.proofs.laws.blocks_fault_by_number.Goals as goal

pub returns : goal.returns
returns g c =
    let here = g.met.W.Runs in
    λ layout posted events now runs as_many numbered goes b.
    all_blocks_fault_by_number _ layout (works_of g.W.Runs.meaning layout) runs
    (works_fault_by_number _ g.W.Runs.meaning here.never_memory layout) posted events now as_many numbered goes b
