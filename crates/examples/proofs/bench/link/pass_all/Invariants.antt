use Rattle.std.proofs.Common.{◌≡◌, ◌≤◌, false, None}
use Rattle.flow_link.specs.Views.{SourceStage, TargetStage}
use Rattle.examples.proofs.bench.link.pass_all.Given as goal

abbrev pub invariant-loop-number : goal.invariant-loop-number
invariant-loop-number l =
    (l.source.table ≡ l.wire) × (l.target.table ≡ l.wire) × (l.source.side.view.stage ≡ SourceStage.free) × (l.target.side.view.stage ≡ TargetStage.free)
    × (l.source.side.facts.max ≡ None) × (l.target.side.facts.reserving ≡ false) × (l.source.side.view.last ≤ l.number)
