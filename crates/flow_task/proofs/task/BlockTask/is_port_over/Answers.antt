use Rattle.std.proofs.Common.{rules, ◌≡◌, false, length, ap, sym, ◌∙◌, arith}
use Rattle.flow_link.proofs.ListTests.{every_below}
use Rattle.flow_intake.specs.Port.{stage_at}
use Rattle.flow_block.specs.Block.{BlockState, port_at}
use Rattle.flow_core.specs.MovesFit.{in_count}
use Rattle.flow_task.specs.Turns.{is_in_over}
use Rattle.flow_task.proofs.AllOver.{fails_below}
use Rattle.flow_task.proofs.task.BlockTask.is_port_over.Goals as goal

pub returns-then-not-is_in_over : goal.returns-then-not-is_in_over
returns-then-not-is_in_over g c =
    let node = c.args.self.now.node in
    let port = c.args.port in
    let place = c.loop-place.place in
    let many : c.in_count-place-end.result ≡ in_count port node =
    c.in_count-place-end.ensures ∙ ap (λ (b : BlockState). length (port_at port b).ends) c.block.ensures in
    let over : is_in_over (stage_at place (port_at port node.block)) ≡ false = search rules in
    sym (fails_below (λ k. is_in_over (stage_at k (port_at port node.block))) (in_count port node) place
    (omega (arith, many, c.loop-place-test.true)) over)

pub returns : goal.returns
returns g c =
    let node = c.args.self.now.node in
    let port = c.args.port in
    let many : c.in_count-place-end.result ≡ in_count port node =
    c.in_count-place-end.ensures ∙ ap (λ (b : BlockState). length (port_at port b).ends) c.block.ensures in
    sym (every_below (λ k. is_in_over (stage_at k (port_at port node.block))) (in_count port node)
    (λ k low. c.loop-place.invariant k (omega (arith, many, c.loop-place-test.false, low))))
