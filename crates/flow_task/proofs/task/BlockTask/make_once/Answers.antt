use Rattle.std.proofs.Common.{rules, ◌≡◌, true, false, OnOk}
use Rattle.std.proofs.lemmas.Grind.{merely}
use Rattle.std.proofs.lemmas.Result.{on_ok_weaker}
use Rattle.flow_block.specs.Peeks.{may_make}
use Rattle.flow_task.specs.Events.{BlockEvent, HasEvent}
use Rattle.flow_task.specs.Tasks.{makes_of}
use Rattle.flow_task.proofs.TurnsHappen.{undone_does}
use Rattle.flow_task.proofs.task.BlockTask.make_once.Goals as goal

pub returns-clause-does : goal.returns-clause-does
returns-clause-does g c =
    let s = c.args.self.now in
    let makes = makes_of g.W.Runs.meaning s in
    let old = s.node in
    let new = c.make.new.self.node in
    let would : may_make old.block ≡ true = search rules in
    let event : OnOk c.make.result (∥ HasEvent false makes old new ∥₁) =
    on_ok_weaker c.make.result (λ calls. merely (BlockEvent.make, record { comes = would; leaves = calls })) c.make.ensures.made in
    undone_does false makes c.make.result c.left_undone.result old new c.left_undone.ensures.done c.left_undone.ensures.not_done event c.make.ensures.kept
