use Rattle.std.proofs.Common.{refl, sym}
use Rattle.flow_spread.specs.End.{owes_it, is_away_at, is_waiting_at, is_busy_at}
use Rattle.flow_spread.proofs.CountsOfEnds.{none_counts}
use Rattle.flow_spread.proofs.ends.Ends.new.Goals as goal

pub invariant_of-result : goal.invariant_of-result
invariant_of-result c =
    let rules = c.args.rules.now in
    rw c.in_ok-fresh_ends.ensures (
      sym (none_counts owes_it rules (λ rule. refl)),
      sym (none_counts is_away_at rules (λ rule. refl)),
      sym (none_counts is_waiting_at rules (λ rule. refl)),
      sym (none_counts is_busy_at rules (λ rule. refl)),
    )
