use Rattle.flow_link.specs.Plan.{ends_at_port}
use Rattle.flow_link.specs.Trace.{link_of}
use Rattle.flow_report.specs.Report.{run_in}
use Rattle.flow_report.proofs.LinksFound.{FoundBelow}
use Rattle.flow_report.proofs.same.link_into.Given as goal

abbrev pub invariant-loop-id : goal.invariant-loop-id
invariant-loop-id l = FoundBelow (λ k. ends_at_port l.block l.port (link_of (run_in l.net) k).target) l.found l.id
