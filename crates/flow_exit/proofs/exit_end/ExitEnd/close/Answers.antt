use Rattle.std.proofs.Common.{rules}
use Rattle.flow_exit.proofs.exit_end.ExitEnd.close.Goals as goal

pub returns : goal.returns
returns c =
    search rules
