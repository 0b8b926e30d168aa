-- A move of a block's end of a link that leads from it keeps the link in order.
use Rattle.flow_link.specs.Facts.{facts_in}
use Rattle.flow_block.specs.Node.{given_next, source_view}
use Rattle.flow_block.specs.Planned.{out_place}
use Rattle.flow_block_law.specs.NextMoves.{NextMovesMay}
use Rattle.flow_block_law.specs.NodeKeeps.{NodesKept}
use Rattle.flow_block_law.specs.ViewsMove.{CallsMoveViews}
use Rattle.flow_core.specs.Events.{node_after, source_call}
use Rattle.flow_core.specs.OneMove.{BlocksMoveWell}
use Rattle.flow_core.proofs.BlocksFit.{blocks_fit}
use Rattle.flow_core.proofs.FitsKeepOrder.{source_moves}
use Rattle.flow_core.proofs.PlacesOfLinks.{out_there, out_rule_there}

pub blocks_move : {W : Type 0} → NodesKept W → CallsMoveViews W → NextMovesMay W → BlocksMoveWell W
blocks_move kept views may layout meaning runs l s low begins node law phase new slot target next ok peek allowed =
    let k = out_place layout s l in
    let fits =
    blocks_fit kept views may layout meaning runs.well_formed s (runs.leads.from_block l s low begins) node law k l
    (out_there layout meaning s node law l low begins) (out_rule_there layout meaning s node law l low begins) next peek in
    source_moves (facts_in layout l) phase new slot target (given_next node) next (source_view k node)
    (source_view k (node_after layout meaning s (source_call node.block.kind k next) node)) fits ok allowed
