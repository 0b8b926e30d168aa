use Rattle.std.proofs.Common.{false}
use Rattle.flow_task.proofs.ExitSteps.{goes_asked, goes_further, goes_looked, goes_stepped}
use Rattle.flow_task.proofs.numbered.Exit.go_on.Goals as goal

pub returns-clause-goes : goal.returns-clause-goes
returns-clause-goes g c =
    let first = c.args.self.now.exit in
    let looked = c.look.new.self.exit in
    let asked = c.ask.new.self.exit in
    let one = c.step.new.self.exit in
    let two = c.step-2.new.self.exit in
    let last = c.ask-2.new.self.exit in
    goes_further first two last
    (goes_further first one two
    (goes_further first asked one
    (goes_further first looked asked (goes_looked c.look.ensures.looked.0 first looked c.look.ensures.looked.1)
    (goes_asked c.args.waits looked asked c.ask.ensures.asked))
    (goes_stepped c.step.result asked one c.step.ensures.steps))
    (goes_stepped c.step-2.result one two c.step-2.ensures.steps))
    (goes_asked false two last c.ask-2.ensures.asked)
