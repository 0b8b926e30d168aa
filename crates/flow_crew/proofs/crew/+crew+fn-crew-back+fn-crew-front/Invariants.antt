use Rattle.flow_crew.proofs.crew.+crew+fn-crew-back+fn-crew-front.Given as goal

abbrev pub decreases-crew : goal.decreases-crew
decreases-crew g l = l.workers

abbrev pub decreases-back : goal.decreases-back
decreases-back g l = l.low

abbrev pub decreases-front : goal.decreases-front
decreases-front g l = l.high
