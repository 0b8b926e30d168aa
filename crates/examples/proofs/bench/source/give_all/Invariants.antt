use Rattle.std.proofs.Common.{◌≡◌, ◌≤◌, None}
use Rattle.flow_link.specs.Views.{SourceStage}
use Rattle.examples.proofs.bench.source.give_all.Given as goal

abbrev pub invariant-loop-number : goal.invariant-loop-number
invariant-loop-number l = (l.end.table ≡ l.wire) × (l.end.side.view.stage ≡ SourceStage.free) × (l.end.side.facts.max ≡ None) × (l.end.side.view.last ≤ l.number)
