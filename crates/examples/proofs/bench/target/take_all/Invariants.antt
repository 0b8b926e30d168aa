use Rattle.std.proofs.Common.{◌≡◌, false}
use Rattle.flow_link.specs.Views.{TargetStage}
use Rattle.examples.proofs.bench.target.take_all.Given as goal

abbrev pub invariant-loop-number : goal.invariant-loop-number
invariant-loop-number l = (l.end.table ≡ l.wire) × (l.end.side.view.stage ≡ TargetStage.free) × (l.end.side.facts.reserving ≡ false)
