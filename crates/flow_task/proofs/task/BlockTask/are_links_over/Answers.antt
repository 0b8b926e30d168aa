use Rattle.std.proofs.Common.{◌≡◌, Bool, ◌&&◌, length, ap, sym, ◌∙◌, arith}
use Rattle.flow_link.proofs.ListTests.{every_below}
use Rattle.flow_block.specs.Block.{BlockState}
use Rattle.flow_task.specs.Turns.{are_outs_over, is_port_over}
use Rattle.flow_task.proofs.AllOver.{fails_below}
use Rattle.flow_task.proofs.task.BlockTask.are_links_over.Goals as goal

pub returns-then-not-is_port_over : goal.returns-then-not-is_port_over
returns-then-not-is_port_over g c =
    let node = c.args.self.now.node in
    let many : c.port_count-port-end.result ≡ length node.block.ports =
    c.port_count-port-end.ensures ∙ ap (λ (b : BlockState). length b.ports) c.block.ensures in
    sym (ap (λ (ins : Bool). ins && are_outs_over node)
    (fails_below (is_port_over node) (length node.block.ports) c.loop-port.port (omega (arith, many, c.loop-port-test.true))
    (sym c.is_port_over.ensures ∙ c.if-not-is_port_over.true)))

pub returns : goal.returns
returns g c =
    let node = c.args.self.now.node in
    let many : c.port_count-port-end.result ≡ length node.block.ports =
    c.port_count-port-end.ensures ∙ ap (λ (b : BlockState). length b.ports) c.block.ensures in
    c.are_outs_over.ensures
    ∙ sym (ap (λ (ins : Bool). ins && are_outs_over node)
    (every_below (is_port_over node) (length node.block.ports)
    (λ k low. c.loop-port.invariant k (omega (arith, many, c.loop-port-test.false, low)))))
