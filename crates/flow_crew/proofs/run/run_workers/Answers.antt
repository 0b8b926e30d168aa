use Rattle.flow_core.proofs.InputsChange.{same_where_none_posted}
use Rattle.flow_net.specs.Net.{parts_of}
use Rattle.flow_crew.proofs.RunsOn.{net_is_lawful}
use Rattle.flow_crew.proofs.run.run_workers.Goals as goal

pub returns-clause-lawful : goal.returns-clause-lawful
returns-clause-lawful g c =
    net_is_lawful g.W.Runs.meaning c.in_ok-net.net c.in_ok-net.net.kept

pub returns-clause-same_inputs : goal.returns-clause-same_inputs
returns-clause-same_inputs g c =
    same_where_none_posted (parts_of c.args.net) (parts_of c.in_ok-net.net) c.in_ok-net.ensures.runs_on.inputs_stay
