use Rattle.std.proofs.Common.{ap}
use Rattle.flow_block.specs.Block.{BlockState}
use Rattle.flow_block.proofs.OutcomesStay.{stays_as}
use Rattle.flow_block.proofs.traits.BlockDataflowBlock.complete.Goals as goal

pub returns-clause-stays : goal.returns-clause-stays
returns-clause-stays c = stays_as c.args.self.now c.close_port.new.self (ap (λ (block : BlockState). block.stopped) c.close_port.ensures)
