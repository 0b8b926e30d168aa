use Rattle.flow_net.proofs.WorksNumbered.{works_fault_by_number}
use Rattle.flow_net.proofs.laws.works_fault_by_number.Goals as goal

pub returns : goal.returns
returns g c =
    let here = g.met.W.Runs in
    works_fault_by_number _ g.W.Runs.meaning here.never_memory
