use Rattle.std.proofs.Common.{◌≡◌, ◌<◌, ℕ, true}
use Rattle.flow_link.specs.Plan.{begins_at}
use Rattle.flow_link.specs.Trace.{link_of}
use Rattle.flow_report.specs.Report.{run_in}
use Rattle.flow_report.proofs.same.leaves_alone.Given as goal

abbrev pub invariant-loop-id : goal.invariant-loop-id
invariant-loop-id l = (k : ℕ) → k < l.id → begins_at l.block (link_of (run_in l.net) k).source ≡ true → k ≡ l.link
