use Rattle.std.proofs.Common.{map}
use Rattle.flow_link.specs.Planned.{layout_of}
use Rattle.flow_task.specs.Known.{source_due, target_due}
use Rattle.flow_task.specs.Wired.{source_table, target_table}
use Rattle.flow_task.proofs.frame.Frame.fill.Given as goal

abbrev pub ghost-deal : goal.ghost-deal
ghost-deal g a = source_due (layout_of a.plan.now) (map source_table a.ends.items) g.net

abbrev pub ghost-deal-2 : goal.ghost-deal-2
ghost-deal-2 g a = target_due (layout_of a.plan.now) (map target_table a.ends.items) g.net
