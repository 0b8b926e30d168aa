use Rattle.flow_low_rows.proofs.hand_over.link_that_starts.Given as goal

abbrev pub ghost-new : goal.ghost-new
ghost-new g a = g.start
