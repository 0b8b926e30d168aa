-- A block has three ports at most, so each of their numbers fits; one that would not complete is passed over.
use Rattle.std.proofs.Common.{◌≡◌, ℕ, ◌≤◌, false, length, sym, ◌∙◌, subst, below_more, arith}
use Rattle.flow_link.specs.Planned.{layout_of}
use Rattle.flow_block.specs.Block.{BlockState}
use Rattle.flow_block.specs.Peeks.{may_complete}
use Rattle.flow_exec.specs.Works.{works_of}
use Rattle.flow_task.proofs.Counts.{few_ports}
use Rattle.flow_task.proofs.task.BlockTask.port_to_complete.Goals as goal

pub overflow_cast-result : goal.overflow_cast-result
overflow_cast-result g c =
    let s = c.args.self.now in
    let few : length c.block-block.result.now.ports ≤ 3 =
    subst (λ (b : BlockState). length b.ports ≤ 3) (sym c.block-block.ensures)
    (few_ports s.of.value.rest.plan (works_of g.W.Runs.meaning (layout_of s.of.value.rest.plan)) s.number s.there s.node s.law) in
    omega (arith, few, c.loop-port-test.true, c.port_count-port-end.ensures)

pub loop-port-preserved : goal.loop-port-preserved
loop-port-preserved g c =
    below_more (λ (p : ℕ). may_complete p c.args.self.now.node.block ≡ false) c.loop-port.port c.loop-port.invariant
    (subst (λ (b : BlockState). may_complete c.loop-port.port b ≡ false) c.block-block.ensures
    (sym c.may_complete.ensures ∙ c.if-may_complete.false))
