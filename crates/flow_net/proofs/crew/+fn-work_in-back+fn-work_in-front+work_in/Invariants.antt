use Rattle.flow_net.proofs.crew.+fn-work_in-back+fn-work_in-front+work_in.Given as goal

abbrev pub decreases-work_in : goal.decreases-work_in
decreases-work_in g l = l.threads

abbrev pub decreases-back : goal.decreases-back
decreases-back g l = l.high

abbrev pub decreases-front : goal.decreases-front
decreases-front g l = l.low
