use Rattle.flow_block_law.proofs.CopiesStand.{copies_stand_in_order}
use Rattle.flow_block_law.proofs.KeptAlone.{kept_for_one}
use Rattle.flow_block_law.proofs.NothingComes.{ports_come_to_rest}
use Rattle.flow_block_law.proofs.PortsStand.{ports_stand_in_order}
use Rattle.flow_block_law.proofs.StandsInOrder.{stands_in_order}
use Rattle.flow_block_law.proofs.laws.blocks_in_order_stand_as_their_ends.Goals as goal

pub returns-clause-exits : goal.returns-clause-exits
returns-clause-exits c = stands_in_order

pub returns-clause-copies : goal.returns-clause-copies
returns-clause-copies c = copies_stand_in_order

pub returns-clause-ports : goal.returns-clause-ports
returns-clause-ports c = ports_stand_in_order

pub returns-clause-rests : goal.returns-clause-rests
returns-clause-rests c = ports_come_to_rest

pub returns-clause-kept : goal.returns-clause-kept
returns-clause-kept c = kept_for_one
