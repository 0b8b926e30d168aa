use Rattle.std.proofs.Common.{rules, ◌≡◌, true, Some}
use Rattle.std.proofs.lemmas.Grind.{merely}
use Rattle.flow_block.specs.Peeks.{may_finish, next_fault}
use Rattle.flow_task.specs.Events.{BlockEvent}
use Rattle.flow_task.specs.Turns.{is_running}
use Rattle.flow_task.proofs.RunsOn.{running_stays_open}
use Rattle.flow_task.proofs.task.BlockTask.close.Goals as goal

pub returns-then-is_running-clause-still : goal.returns-then-is_running-clause-still
returns-then-is_running-clause-still g c =
    let block = c.args.self.now.node.block in
    let runs : is_running block ≡ true = search rules in
    λ none. running_stays_open block runs

pub returns-in-Some-clause-does : goal.returns-in-Some-clause-does
returns-in-Some-clause-does g c =
    let found = c.in-Some in
    merely (
      BlockEvent.complete found.port,
      record { comes = (found.ensures.there, found.ensures.completes); leaves = c.in_ok-complete.ensures.completed },
    )

pub returns-in-Some-next_fault-clause-does : goal.returns-in-Some-next_fault-clause-does
returns-in-Some-next_fault-clause-does g c =
    let number = c.in-Some-next_fault.number in
    let would : next_fault c.args.self.now.node.block ≡ Some number = search rules in
    merely (BlockEvent.fault number, record { comes = would; leaves = c.in_ok-fault.ensures.faulted })

pub returns-then-may_finish-clause-does : goal.returns-then-may_finish-clause-does
returns-then-may_finish-clause-does g c =
    let would : may_finish c.args.self.now.node.block ≡ true = search rules in
    merely (BlockEvent.finish, record { comes = would; leaves = c.in_ok-finish.ensures.finished })
