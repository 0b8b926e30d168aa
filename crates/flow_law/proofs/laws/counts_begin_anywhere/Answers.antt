use Rattle.flow_value.specs.declared.value.Value.{Value}
use Rattle.flow_law.proofs.CountsBeginAnywhere.{rebases}
use Rattle.flow_law.proofs.laws.counts_begin_anywhere.Goals as goal

pub returns : goal.returns
returns c = rebases Value
