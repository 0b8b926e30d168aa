use Rattle.std.proofs.Common.{rules}
use Rattle.flow_outlet.proofs.ends.cursor_after.Goals as goal

pub returns-then-cursor-place : goal.returns-then-cursor-place
returns-then-cursor-place c =
    search rules
