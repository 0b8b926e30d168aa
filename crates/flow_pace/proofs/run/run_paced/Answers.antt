use Rattle.flow_core.proofs.InputsChange.{same_where_none_posted}
use Rattle.flow_net.specs.Net.{parts_of}
use Rattle.flow_crew.proofs.ComesBack.{if_ok}
use Rattle.flow_pace.proofs.run.run_paced.Goals as goal

pub returns-then-workers-eq1-clause-same_inputs : goal.returns-then-workers-eq1-clause-same_inputs
returns-then-workers-eq1-clause-same_inputs g c =
    if_ok _ _ (λ ran runs. same_where_none_posted (parts_of c.args.net) (parts_of ran.0) runs.inputs_stay) c.run_alone.result
    c.run_alone.ensures.runs_on

pub returns-in-WhileLong-clause-same_inputs : goal.returns-in-WhileLong-clause-same_inputs
returns-in-WhileLong-clause-same_inputs g c =
    if_ok _ _ (λ ran runs. same_where_none_posted (parts_of c.args.net) (parts_of ran.0) runs.inputs_stay) c.run_together.result
    c.run_together.ensures.runs_on
