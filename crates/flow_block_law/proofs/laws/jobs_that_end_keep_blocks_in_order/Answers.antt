use Rattle.flow_block_law.proofs.JobsEnd.{jobs_end_well}
use Rattle.flow_block_law.proofs.laws.jobs_that_end_keep_blocks_in_order.Goals as goal

pub returns : goal.returns
returns g c = jobs_end_well _
