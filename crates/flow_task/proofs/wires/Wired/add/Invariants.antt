use Rattle.flow_task.proofs.wires.Wired.add.Given as goal

abbrev pub ghost-new : goal.ghost-new
ghost-new g a = g.start
