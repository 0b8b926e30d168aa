use Rattle.std.proofs.Common.{◌≡◌, ◌∙◌, sym, ap, length, take, arith}
use Rattle.std.proofs.lemmas.List.{length-take}
use Rattle.flow_link.specs.PlanFaults.{walks}
use Rattle.flow_link.proofs.RoundsOfWalks.{some_here_below, some_none_below}
use Rattle.flow_link.proofs.cycle.has_cycle.Goals as goal

pub returns-then-leads_back : goal.returns-then-leads_back
returns-then-leads_back c =
    let rounds : length (take c.args.count c.loop-block.row) ≡ c.args.count = omega (arith, length-take c.args.count c.loop-block.row, c.loop-block.invariant.row_length) in
    sym (some_here_below (λ b. walks c.args.links.now c.args.count c.args.count b b) c.args.count c.loop-block.block (omega arith)
    (ap (λ n. walks c.args.links.now n n c.loop-block.block c.loop-block.block) (sym rounds) ∙ sym c.leads_back.ensures ∙ c.if-leads_back.true))

pub returns-then-has_descent : goal.returns-then-has_descent
returns-then-has_descent c =
    sym (some_none_below (λ b. walks c.args.links.now c.args.count c.args.count b b) c.args.count
    (λ block low. c.has_descent.ensures c.if-has_descent.true c.args.count block))

pub returns : goal.returns
returns c =
    sym (some_none_below (λ b. walks c.args.links.now c.args.count c.args.count b b) c.args.count (λ k low. c.loop-block.invariant.before k (omega arith)))
