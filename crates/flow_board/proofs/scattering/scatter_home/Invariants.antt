use Rattle.flow_link.specs.Planned.{layout_of}
use Rattle.flow_moves.specs.Apart.{apart_in}
use Rattle.flow_task.specs.Wired.{starts_of}
use Rattle.flow_board.proofs.scattering.scatter_home.Given as goal

abbrev pub ghost-wire_up : goal.ghost-wire_up
ghost-wire_up g a = starts_of (layout_of a.apart.now.plan) (apart_in a.apart.now)

abbrev pub ghost-fill : goal.ghost-fill
ghost-fill g a = apart_in a.apart
