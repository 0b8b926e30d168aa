use Rattle.std.proofs.Common.{◌+◌, ◌*◌}
use Rattle.flow_value.specs.Items.{value_count}
use Rattle.flow_value.specs.View.{items_from}
use Rattle.flow_report.proofs.PrintedGrows.{weight}
use Rattle.flow_shown.proofs.in_report.+showing.Given as goal

abbrev pub decreases-show : goal.decreases-show
decreases-show g l = 2 * weight l.value.now

abbrev pub decreases-show_row : goal.decreases-show_row
decreases-show_row g l = 2 * value_count (items_from l.values.now) + 1
