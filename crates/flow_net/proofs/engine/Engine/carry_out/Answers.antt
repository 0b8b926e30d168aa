use Rattle.flow_net.proofs.EventsNamed.{done_as, may_as, memory_as, used_up_as}
use Rattle.flow_net.proofs.engine.Engine.carry_out.Goals as goal

pub returns-in-Make-clause-may : goal.returns-in-Make-clause-may
returns-in-Make-clause-may g c = may_as g.W.Runs.meaning c.args.self.now c.in-Make.is c.make.result c.make.ensures.may

pub returns-in-Make-clause-done : goal.returns-in-Make-clause-done
returns-in-Make-clause-done g c =
    done_as g.W.Runs.meaning c.args.self.now c.make.new.self c.in-Make.is c.make.result c.make.ensures.done

pub returns-in-Make-clause-used_up : goal.returns-in-Make-clause-used_up
returns-in-Make-clause-used_up g c = used_up_as g.W.Runs.meaning c.args.self.now c.in-Make.is c.make.result c.make.ensures.used_up

pub returns-in-Make-clause-memory : goal.returns-in-Make-clause-memory
returns-in-Make-clause-memory g c = λ is driven.
    memory_as g.W.Runs.meaning c.args.self.now c.in-Make.is c.make.result (c.make.ensures.memory is)

pub returns-in-End-clause-may : goal.returns-in-End-clause-may
returns-in-End-clause-may g c = may_as g.W.Runs.meaning c.args.self.now c.in-End.is c.finish_job.result c.finish_job.ensures.may

pub returns-in-End-clause-done : goal.returns-in-End-clause-done
returns-in-End-clause-done g c =
    done_as g.W.Runs.meaning c.args.self.now c.finish_job.new.self c.in-End.is c.finish_job.result c.finish_job.ensures.done

pub returns-in-End-clause-used_up : goal.returns-in-End-clause-used_up
returns-in-End-clause-used_up g c =
    used_up_as g.W.Runs.meaning c.args.self.now c.in-End.is c.finish_job.result c.finish_job.ensures.used_up

pub returns-in-Begin-clause-done : goal.returns-in-Begin-clause-done
returns-in-Begin-clause-done g c =
    done_as g.W.Runs.meaning c.args.self.now c.begin.new.self c.in-Begin.is c.begin.result c.begin.ensures.done

pub returns-in-Link-clause-done : goal.returns-in-Link-clause-done
returns-in-Link-clause-done g c =
    done_as g.W.Runs.meaning c.args.self.now c.move_link.new.self c.in-Link.is c.move_link.result c.move_link.ensures.done
