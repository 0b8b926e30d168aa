use Rattle.std.proofs.Common.{rules}
use Rattle.flow_input.proofs.OneProof.{busy_merely}
use Rattle.flow_task.proofs.numbered.Entry.begin.Goals as goal

pub returns-then-not-is_idle-clause-why : goal.returns-then-not-is_idle-clause-why
returns-then-not-is_idle-clause-why g c =
    let input = c.args.self.now.input in
    busy_merely input.input input.law (search rules)
