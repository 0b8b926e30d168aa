use Rattle.flow_moves.specs.Sights.{sight_of}
use Rattle.flow_task.specs.At.{over_goes_further}
use Rattle.flow_task.proofs.numbered.Exit.try_receive.Goals as goal

pub returns-clause-over : goal.returns-clause-over
returns-clause-over g c =
    over_goes_further (sight_of c.args.self.now.exit) (sight_of c.go_on.new.self.exit) (sight_of c.take-2.new.self.exit) c.go_on.ensures.goes.over
    c.take-2.ensures.over
