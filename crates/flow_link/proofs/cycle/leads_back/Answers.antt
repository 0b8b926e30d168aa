use Rattle.std.proofs.Common.{◌≡◌, ◌∙◌, ◌<◌, ◌+◌, suc, sym, ap, subst, length, arith, List, Bool, ℕ, get_or, false}
use Rattle.flow_link.specs.Rounds.{IsRound}
use Rattle.flow_link.specs.PlanFaults.{walks}
use Rattle.flow_link.proofs.RoundsOfWalks.{next_round, settled, finished}
use Rattle.flow_link.proofs.cycle.leads_back.Goals as goal
use Rattle.flow_link.proofs.cycle.leads_back.Goals.{else-loop-round-test, then-loop-round-test+then-is_same}

pub loop-round-preserved : goal.loop-round-preserved
loop-round-preserved c =
    let row = c.copy_from_slice.new.self in
    let next = c.lengthen.new.next in
    let copied : row ≡ next = c.copy_from_slice.ensures.after in
    let same : length next ≡ length c.loop-round.row = omega arith in
    let step : suc c.loop-round._round ≡ c.loop-round._round + 1 = omega arith in
    let P : ℕ → Type 0 = λ n. IsRound c.args.links.now n c.args.block row in
    let Q : List Bool → Type 0 = λ r. IsRound c.args.links.now (suc c.loop-round._round) c.args.block r in
    record {
      same_length = ap length (sym copied);
      round = subst P step (subst Q (sym copied) (next_round c.args.links.now c.loop-round._round c.args.block c.loop-round.row next same c.loop-round.invariant.round c.lengthen.ensures));
    }

pub returns : goal.returns
returns c =
    let row = c.loop-round.row in
    let kept : length row ≡ length c.args.row.now = omega arith in
    let low : c.args.block < length row = omega arith in
    let reached : get_or row c.args.block false ≡ walks c.args.links.now (length row) (length row) c.args.block c.args.block =
    elim c.loop-round-test.branch [
      | else-loop-round-test w ↦ finished c.args.links.now c.args.block row c.loop-round._round c.loop-round.invariant.round (omega arith) low
      | then-loop-round-test+then-is_same w ↦ settled c.args.links.now c.args.block row w.lengthen.new.next c.loop-round._round c.loop-round.invariant.round
          (w.is_same.ensures.0 w.if-is_same.true) w.lengthen.ensures (omega arith) low
    ] in
    reached ∙ ap (λ n. walks c.args.links.now n n c.args.block c.args.block) kept
