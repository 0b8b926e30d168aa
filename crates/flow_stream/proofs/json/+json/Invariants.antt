use Rattle.std.proofs.Common.{◌+◌, ◌*◌}
use Rattle.flow_value.specs.Items.{value_count}
use Rattle.flow_value.specs.View.{items_from}
use Rattle.flow_report.proofs.PrintedGrows.{weight}
use Rattle.flow_stream.proofs.json.+json.Given as goal

abbrev pub decreases-write_json : goal.decreases-write_json
decreases-write_json l = 2 * weight l.value.now

abbrev pub decreases-write_array : goal.decreases-write_array
decreases-write_array l = 2 * value_count (items_from l.values.now) + 1
