use Rattle.flow_block_law.proofs.TuplesSeen.{joins_are_parts}
use Rattle.flow_block_law.proofs.tuple_laws.joins_are_parts.Goals as goal

pub returns : goal.returns
returns g c = joins_are_parts _
