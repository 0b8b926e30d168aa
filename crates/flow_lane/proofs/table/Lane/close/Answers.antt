use Rattle.std.proofs.Common.{rules}
use Rattle.flow_lane.specs.Items.{as_job, as_result, state_of, state_in}
use Rattle.flow_lane.proofs.BlockStepsKeep.{parts}
use Rattle.flow_lane.proofs.TablesEnd.{both_is, closed_tells}
use Rattle.flow_lane.proofs.table.Lane.close.Goals as goal

pub load-requires : goal.load-requires
load-requires g c = (search rules, search rules, parts as_job as_result state_of state_in _ _ c.block.inside.seat.me c.block.invariant.me_is c.block.invariant.quiet)

pub returns : goal.returns
returns g c =
    let is = both_is c.lane.inside.seat.me _ c.block.inside.seat.me _ c.load.ensures.2 c.join_seat.ensures.2 in
    closed_tells as_job as_result state_of state_in _ _ _ _ _ _ _ _ _ _ c.close_with-closed.ensures.values.2 is c.block.invariant.quiet c.word-word.ensures c.state_of_word.ensures.its_word c.take-found.ensures.value c.state_of_word.ensures.slot _ _ _ _ c.block.view_is c.lane.view_is
