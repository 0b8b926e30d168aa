use Rattle.flow_low_rows.specs.Trials.{start_of}
use Rattle.flow_low_rows.proofs.hand_over.new_link.Given as goal

abbrev pub ghost-link_that_starts : goal.ghost-link_that_starts
ghost-link_that_starts a = start_of a.reserves
