use Rattle.std.proofs.Common.{◌∙◌, ap}
use Rattle.flow_report.specs.Given.{lists_of}
use Rattle.flow_report.proofs.SortedGiven.{nothing_more}
use Rattle.flow_report.proofs.given.nothing_given.Goals as goal

pub loop-preserved : goal.loop-preserved
loop-preserved c = ap lists_of c.in_ok-push.ensures.items ∙ nothing_more c.loop.lists.items c.new.result c.loop.counter c.loop.invariant c.new.ensures.items
