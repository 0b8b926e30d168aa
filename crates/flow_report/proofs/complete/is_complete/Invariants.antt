use Rattle.std.proofs.Common.{◌≡◌, true}
use Rattle.flow_link.specs.Lists.{every, below}
use Rattle.flow_report.specs.Complete.{has_gone_through}
use Rattle.flow_report.specs.Report.{run_in}
use Rattle.flow_report.proofs.complete.is_complete.Given as goal

abbrev pub invariant-loop-block : goal.invariant-loop-block
invariant-loop-block l = every (has_gone_through (run_in l.net)) (below l.block) ≡ true
