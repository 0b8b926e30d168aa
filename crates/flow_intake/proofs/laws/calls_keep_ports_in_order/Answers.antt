use Rattle.flow_intake.proofs.CallsByLinkKeepOrder.{calls_by_link_keep}
use Rattle.flow_intake.proofs.CallsKeepOrder.{moves_keep}
use Rattle.flow_intake.proofs.laws.calls_keep_ports_in_order.Goals as goal

pub returns-clause-moves : goal.returns-clause-moves
returns-clause-moves c = moves_keep

pub returns-clause-by_link : goal.returns-clause-by_link
returns-clause-by_link c = calls_by_link_keep
