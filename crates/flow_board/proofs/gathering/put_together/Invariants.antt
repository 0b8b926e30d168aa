use Rattle.flow_board.proofs.gathering.put_together.Given as goal

abbrev pub ghost-close : goal.ghost-close
ghost-close g a = g.net
