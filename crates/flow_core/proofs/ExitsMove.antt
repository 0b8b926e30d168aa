-- A move of the end of a link that leads out of the network keeps the link in order.
use Rattle.std.proofs.Common.{None, ap}
use Rattle.flow_link.specs.Facts.{facts_in, reserves_in}
use Rattle.flow_link.specs.Plan.{is_steady, is_sole}
use Rattle.flow_exit.specs.Exit.{exit_view, exit_call, exit_after}
use Rattle.flow_exit.specs.ExitKeeps.{ExitsKeep}
use Rattle.flow_core.specs.MovesFit.{IsOutward}
use Rattle.flow_core.specs.OneMove.{ExitsMoveWell}
use Rattle.flow_core.proofs.ExitsFit.{exits_fit}
use Rattle.flow_core.proofs.FitsKeepOrder.{target_moves}

pub exits_move : {W : Type 0} → ExitsKeep → ExitsMoveWell W
exits_move keep layout l to exit law phase new slot given source next ok peek allowed =
    let outward : IsOutward (facts_in layout l) = record {
      not_steady = ap (is_steady layout.blocks) to;
      not_sole = ap (is_sole layout.blocks layout.links) to;
      freely = ap (reserves_in layout) to;
    } in
    target_moves (facts_in layout l) phase new slot source None given next (exit_view exit)
    (exit_view (exit_after (exit_call slot next) exit)) (exits_fit keep (facts_in layout l) outward exit law slot next peek) ok allowed
