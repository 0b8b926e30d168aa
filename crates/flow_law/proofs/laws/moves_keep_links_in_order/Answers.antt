use Rattle.flow_value.specs.declared.value.Value.{Value}
use Rattle.flow_link.proofs.SourceMoves.{source_moves_keep}
use Rattle.flow_link.proofs.TargetMoves.{target_moves_keep}
use Rattle.flow_law.proofs.laws.moves_keep_links_in_order.Goals as goal

pub returns-clause-of_source : goal.returns-clause-of_source
returns-clause-of_source c = source_moves_keep Value

pub returns-clause-of_target : goal.returns-clause-of_target
returns-clause-of_target c = target_moves_keep Value
