use Rattle.std.proofs.Common.{◌≡◌, take}
use Rattle.flow_report.specs.Given.{lists_of, given_lists}
use Rattle.flow_report.proofs.given.sort_given.Given as goal

abbrev pub invariant-loop-mark : goal.invariant-loop-mark
invariant-loop-mark l = lists_of l.lists.items ≡ given_lists l.links (take l.mark-index l.journal)
