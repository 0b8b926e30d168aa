use Rattle.flow_block_law.proofs.FaultsSeen.{lowest_link_counts}
use Rattle.flow_block_law.proofs.laws.fault_of_the_lowest_link_counts.Goals as goal

pub returns : goal.returns
returns c = lowest_link_counts
