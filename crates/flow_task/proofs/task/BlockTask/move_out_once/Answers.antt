use Rattle.flow_task.proofs.Spends.{spends_did, spends_none, spends_not}
use Rattle.flow_task.proofs.task.BlockTask.move_out_once.Goals as goal

pub returns-in_err-try_out-clause-spends : goal.returns-in_err-try_out-clause-spends
returns-in_err-try_out-clause-spends g c =
    spends_none _ c.args.left.now c.args.self.now.node c.try_out.new.self.node c.in_err-try_out.ensures.does

pub returns-else-branch-clause-spends : goal.returns-else-branch-clause-spends
returns-else-branch-clause-spends g c =
    spends_not _ c.args.left.now c.in_ok-try_out.field-0 c.args.self.now.node c.try_out.new.self.node c.if-branch.false c.in_ok-try_out.ensures.does

pub returns-then-branch-clause-spends : goal.returns-then-branch-clause-spends
returns-then-branch-clause-spends g c =
    spends_did _ c.args.left.now c.in_ok-try_out.field-0 c.args.self.now.node c.try_out.new.self.node c.requires.left c.if-branch.true
    c.in_ok-try_out.ensures.does

pub returns-else-branch-clause-still : goal.returns-else-branch-clause-still
returns-else-branch-clause-still g c = λ as_many. c.in_ok-try_out.ensures.still c.if-branch.false
