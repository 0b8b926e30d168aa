use Rattle.std.proofs.Common.{◌≤◌, take, map}
use Rattle.flow_value.specs.Grammar.{AllSpelled}
use Rattle.flow_value.proofs.steps.Steps.read.Given as goal

abbrev pub invariant-loop-place : goal.invariant-loop-place
invariant-loop-place l = record {
  few : l.place ≤ 16;
  all_spelled : AllSpelled (take l.place (map (λ text. text.now) l.texts)) l.steps.items;
}
