use Rattle.std.proofs.Common.{rules}
use Rattle.flow_outlet.proofs.outlet.Outlet.reserve_message.Goals as goal

pub returns-then-id-self-clause-told : goal.returns-then-id-self-clause-told
returns-then-id-self-clause-told c =
    search rules

pub hold-requires-clause-asked : goal.hold-requires-clause-asked
hold-requires-clause-asked c =
    search rules
