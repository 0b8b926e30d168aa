use Rattle.flow_core.proofs.StillRests.{at_rest_merely}
use Rattle.flow_moves.proofs.MerelyKept.{quiet_merely}
use Rattle.flow_moves.proofs.PlansRun.{plan_runs}
use Rattle.flow_exec.specs.Works.{works_of}
use Rattle.flow_net.specs.Net.{layout_in, parts_of}
use Rattle.flow_net.proofs.net.Net.is_quiet.Goals as goal

pub returns-clause-at_rest : goal.returns-clause-at_rest
returns-clause-at_rest g c is_quiet =
    let net = c.args.self.now in
    at_rest_merely (layout_in net) (works_of g.W.Runs.meaning (layout_in net)) (parts_of net) (plan_runs net.engine.plan) net.kept
    (c.is_quiet.ensures.0 is_quiet)

pub returns-clause-at_end : goal.returns-clause-at_end
returns-clause-at_end g c is_quiet =
    let net = c.args.self.now in
    quiet_merely (layout_in net) (works_of g.W.Runs.meaning (layout_in net)) (parts_of net) net.kept (plan_runs net.engine.plan)
    (c.is_quiet.ensures.0 is_quiet)
