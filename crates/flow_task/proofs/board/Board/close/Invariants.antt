use Rattle.flow_link.specs.Planned.{layout_of}
use Rattle.flow_task.specs.Wired.{starts_of}
use Rattle.flow_task.proofs.board.Board.close.Given as goal

abbrev pub ghost-close_all : goal.ghost-close_all
ghost-close_all g a = record { tables = a.wires.items; starts = starts_of (layout_of a.plan.now) g.net }
