use Rattle.flow_board.proofs.scattering.wire_up.Given as goal

abbrev pub ghost-make_wires : goal.ghost-make_wires
ghost-make_wires g a = g.starts
