use Rattle.flow_board.proofs.gathering.Apart.fill.Given as goal

abbrev pub ghost-put_together : goal.ghost-put_together
ghost-put_together g a = record { nodes = a.blocks.nodes.items; inputs = a.inputs.inputs.items; exits = a.exits.exits.items; lines = a.board.rest.lines.items }
