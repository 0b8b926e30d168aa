use Rattle.std.proofs.Common.{◌≡◌, length}
use Rattle.flow_link.specs.Rounds.{IsRound}
use Rattle.flow_link.proofs.cycle.leads_back.Given as goal

abbrev pub invariant-loop-round : goal.invariant-loop-round
invariant-loop-round l = record {
  same_length : length l.next ≡ length l.row;
  round : IsRound l.links l._round l.block l.row;
}
