use Rattle.std.proofs.Common.{rules, ◌≡◌, true}
use Rattle.std.proofs.lemmas.Grind.{merely}
use Rattle.flow_block.specs.Peeks.{may_begin}
use Rattle.flow_task.specs.Events.{BlockEvent}
use Rattle.flow_task.proofs.task.BlockTask.begin_once.Goals as goal

pub returns-clause-does : goal.returns-clause-does
returns-clause-does g c =
    let would : may_begin c.args.self.now.node.block ≡ true = search rules in
    merely (BlockEvent.begin, record { comes = would; leaves = c.in_ok-begin.ensures.begun })
