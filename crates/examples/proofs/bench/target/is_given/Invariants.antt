use Rattle.std.proofs.Common.{◌≡◌}
use Rattle.flow_link.specs.Views.{TargetStage}
use Rattle.examples.proofs.bench.target.is_given.Given as goal

abbrev pub invariant-loop-look : goal.invariant-loop-look
invariant-loop-look l =
    (l.end.table ≡ l.wire) × (l.end.table ≡ l.initial.end.table) × (l.end.side.facts ≡ l.initial.end.side.facts) × (l.end.side.view.stage ≡ TargetStage.accepted l.fn.header)
