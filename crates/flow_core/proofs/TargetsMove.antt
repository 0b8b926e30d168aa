-- A move of a block's end of a link that leads into it keeps the link in order.
use Rattle.flow_link.specs.Facts.{facts_in}
use Rattle.flow_block.specs.Block.{port_at}
use Rattle.flow_block.specs.Node.{in_view}
use Rattle.flow_block.specs.Planned.{in_place}
use Rattle.flow_block_law.specs.NextMoves.{NextMovesMay}
use Rattle.flow_block_law.specs.ViewsMove.{CallsMoveViews}
use Rattle.flow_core.specs.Events.{node_after, in_call}
use Rattle.flow_core.specs.OneMove.{TargetsMoveWell}
use Rattle.flow_core.proofs.FitsKeepOrder.{target_moves}
use Rattle.flow_core.proofs.PlacesOfLinks.{entry_there, link_there, port_there}
use Rattle.flow_core.proofs.TargetsFit.{targets_fit}

pub targets_move : {W : Type 0} → CallsMoveViews W → NextMovesMay W → TargetsMoveWell W
targets_move views may layout meaning runs l t p low leads node law phase new slot given source next ok peek allowed =
    let k = in_place layout t p l in
    let fits =
    targets_fit views may layout meaning runs.well_formed t (runs.leads.to_block l t p low leads) node law p k l
    (port_there layout meaning t node law runs p l low leads) (entry_there layout meaning t node law runs p l low leads)
    (link_there layout meaning t node law runs p l low leads) slot next peek in
    target_moves (facts_in layout l) phase new slot source (port_at p node.block).refusing given next (in_view p k node)
    (in_view p k (node_after layout meaning t (in_call p k slot next) node)) fits ok allowed
