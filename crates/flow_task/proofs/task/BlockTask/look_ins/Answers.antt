use Rattle.std.proofs.Common.{◌≡◌, ◌≤◌, length, ap, sym, ◌∙◌, subst, arith, ℕ, suc, ◌+◌}
use Rattle.flow_link.specs.Planned.{layout_of}
use Rattle.flow_block.specs.Block.{BlockState}
use Rattle.flow_exec.specs.Works.{works_of}
use Rattle.flow_task.specs.Turns.{PortsLook}
use Rattle.flow_task.specs.declared.board.Board.{Board}
use Rattle.flow_task.proofs.Counts.{few_ports, ports_alike}
use Rattle.flow_task.proofs.task.BlockTask.look_ins.Goals as goal

pub overflow_cast-port : goal.overflow_cast-port
overflow_cast-port g c =
    let s = c.args.self.now in
    let few : length c.block.result.now.ports ≤ 3 =
    subst (λ (b : BlockState). length b.ports ≤ 3) (sym c.block.ensures)
    (few_ports s.of.value.rest.plan (works_of g.W.Runs.meaning (layout_of s.of.value.rest.plan)) s.number s.there s.node s.law) in
    omega (arith, few, c.loop-port-test.true, c.port_count-port-end.ensures)

pub look_port-requires-clause-port : goal.look_port-requires-clause-port
look_port-requires-clause-port g c =
    let s = c.args.self.now in
    let t = c.loop-port.self in
    let old = layout_of s.of.value.rest.plan in
    let new = layout_of t.of.value.rest.plan in
    let meaning = g.W.Runs.meaning in
    let alike = ports_alike new old (works_of meaning new) (works_of meaning old) t.number s.number t.node s.node t.law s.law
    (ap (λ (board : Board _). layout_of board.rest.plan) c.loop-port.invariant.of) c.loop-port.invariant.number in
    let many : c.port_count-port-end.result ≡ length s.node.block.ports =
    c.port_count-port-end.ensures ∙ ap (λ (b : BlockState). length b.ports) c.block.ensures in
    omega (arith, alike, many, c.loop-port-test.true)

pub loop-port-preserved : goal.loop-port-preserved
loop-port-preserved g c =
    let more : suc c.loop-port.port ≡ c.loop-port.port + 1 = omega arith in
    let i = c.loop-port.invariant in
    let said = c.look_port.ensures in
    record {
      of = said.of ∙ i.of;
      number = said.number ∙ i.number;
      looked = subst (λ (n : ℕ). PortsLook n c.args.self.now.node c.look_port.new.self.node) more
          (c.loop-port.self.node, (i.looked, said.looked));
      journal = said.journal ∙ i.journal;
    }

pub returns-clause-looked : goal.returns-clause-looked
returns-clause-looked g c =
    let node = c.args.self.now.node in
    let many : c.port_count-port-end.result ≡ length node.block.ports =
    c.port_count-port-end.ensures ∙ ap (λ (b : BlockState). length b.ports) c.block.ensures in
    let all : c.loop-port.port ≡ length node.block.ports = omega (arith, many, c.loop-port-test.false, c.loop-port.auto.port-end) in
    subst (λ (n : ℕ). PortsLook n node c.loop-port.self.node) all c.loop-port.invariant.looked
