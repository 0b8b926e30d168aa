use Rattle.std.proofs.Common.{rules}
use Rattle.flow_wire.proofs.table.state_of.Goals as goal

pub returns-in-Idle : goal.returns-in-Idle
returns-in-Idle c =
    search rules
