use Rattle.std.proofs.Common.{◌≡◌, ℕ, ◌≤◌, length, refl, ap, ap₂, sym, ◌∙◌, subst, below_more, arith}
use Rattle.flow_link.specs.Planned.{layout_of}
use Rattle.flow_block.specs.Block.{BlockState}
use Rattle.flow_block.specs.Node.{NodeState}
use Rattle.flow_exec.specs.Works.{works_of}
use Rattle.flow_task.specs.Turns.{PortIsStill}
use Rattle.flow_task.specs.declared.board.Board.{Board}
use Rattle.flow_block.specs.Planned.{block_makes}
use Rattle.flow_task.proofs.Counts.{few_ports, ports_alike}
use Rattle.flow_task.proofs.Misses.{port_still_then}
use Rattle.flow_task.proofs.Spends.{as_many_first, as_many_then, spends_more, spends_none, spends_so}
use Rattle.flow_task.proofs.task.BlockTask.move_ins.Goals as goal
use Rattle.flow_task.proofs.task.BlockTask.move_ins.Goals.{then-port-first, else-port-first}

pub loop-port-init : goal.loop-port-init
loop-port-init g c =
    let node = c.args.self.now.node in
    record {
      of = refl;
      number = refl;
      spends = spends_none _ c.args.left.now node node refl;
      still = λ as_many first place k low. absurd (omega (arith, first, low));
    }

pub overflow_cast-port : goal.overflow_cast-port
overflow_cast-port g c =
    let s = c.args.self.now in
    let few : length c.block.result.now.ports ≤ 3 =
    subst (λ (b : BlockState). length b.ports ≤ 3) (sym c.block.ensures)
    (few_ports s.of.value.rest.plan (works_of g.W.Runs.meaning (layout_of s.of.value.rest.plan)) s.number s.there s.node s.law) in
    omega (arith, few, c.loop-port-test.true, c.port_count-port-end.ensures)

pub move_port-requires-clause-port : goal.move_port-requires-clause-port
move_port-requires-clause-port g c =
    let s = c.args.self.now in
    let t = c.loop-port.self in
    let old = layout_of s.of.value.rest.plan in
    let new = layout_of t.of.value.rest.plan in
    let meaning = g.W.Runs.meaning in
    let alike = ports_alike new old (works_of meaning new) (works_of meaning old) t.number s.number t.node s.node t.law s.law
    (ap (λ (board : Board _). layout_of board.rest.plan) c.loop-port.invariant.of) c.loop-port.invariant.number in
    let many : c.port_count-port-end.result ≡ length s.node.block.ports =
    c.port_count-port-end.ensures ∙ ap (λ (b : BlockState). length b.ports) c.block.ensures in
    omega (arith, alike, many, c.loop-port-test.true)

pub returns-in_err-move_port-clause-spends : goal.returns-in_err-move_port-clause-spends
returns-in_err-move_port-clause-spends g c =
    let s = c.args.self.now in
    let i = c.loop-port.invariant in
    let new = c.move_port.new.self.node in
    let makes = (λ (board : Board _) (n : ℕ). block_makes (layout_of board.rest.plan) (works_of g.W.Runs.meaning (layout_of board.rest.plan)) n) in
    spends_more (makes s.of.value s.number) c.args.left.now c.loop-port.left c.move_port.new.left s.node c.loop-port.self.node new i.spends
    (spends_so c.loop-port.left c.move_port.new.left c.loop-port.self.node new (ap₂ makes i.of i.number) c.move_port.ensures.spends)

pub returns-then-not-branch-clause-spends : goal.returns-then-not-branch-clause-spends
returns-then-not-branch-clause-spends g c =
    let s = c.args.self.now in
    let i = c.loop-port.invariant in
    let new = c.move_port.new.self.node in
    let makes = (λ (board : Board _) (n : ℕ). block_makes (layout_of board.rest.plan) (works_of g.W.Runs.meaning (layout_of board.rest.plan)) n) in
    spends_more (makes s.of.value s.number) c.args.left.now c.loop-port.left c.move_port.new.left s.node c.loop-port.self.node new i.spends
    (spends_so c.loop-port.left c.move_port.new.left c.loop-port.self.node new (ap₂ makes i.of i.number) c.move_port.ensures.spends)

pub loop-port-preserved : goal.loop-port-preserved
loop-port-preserved g c =
    let i = c.loop-port.invariant in
    let here = c.loop-port.port in
    let old = c.args.self.now.node in
    let said = c.move_port.ensures in
    let s = c.args.self.now in
    let makes = (λ (board : Board _) (n : ℕ). block_makes (layout_of board.rest.plan) (works_of g.W.Runs.meaning (layout_of board.rest.plan)) n) in
    let from : c.args.place ≡ 0 → c.if-port-first.from ≡ 0 =
    λ place. elim c.if-port-first.branch [ then-port-first w ↦ w.from-is ∙ place | else-port-first w ↦ w.from-is ] in
    record {
      of = said.of ∙ i.of;
      number = said.number ∙ i.number;
      spends = spends_more (makes s.of.value s.number) c.args.left.now c.loop-port.left c.move_port.new.left old c.loop-port.self.node
          c.move_port.new.self.node i.spends
          (spends_so c.loop-port.left c.move_port.new.left c.loop-port.self.node c.move_port.new.self.node (ap₂ makes i.of i.number) said.spends);
      still = λ as_many first place.
          let after = c.move_port.new.self.ins.items in
          below_more (λ (k : ℕ). PortIsStill k old after) here
          (λ k low. port_still_then k old c.loop-port.self.ins.items after
          (c.in_ok-move_port.ensures.others (as_many_then i.spends said.spends as_many))
          (i.still (as_many_first i.spends said.spends as_many) first place k low))
          (subst (λ (node : NodeState). PortIsStill here node after) (i.spends.kept (as_many_first i.spends said.spends as_many))
          (c.in_ok-move_port.ensures.still c.if-not-branch.false (as_many_then i.spends said.spends as_many) (from place)));
    }

pub returns-clause-still : goal.returns-clause-still
returns-clause-still g c =
    let s = c.args.self.now in
    let many : c.port_count-port-end.result ≡ length s.node.block.ports =
    c.port_count-port-end.ensures ∙ ap (λ (b : BlockState). length b.ports) c.block.ensures in
    λ all as_many first place p low. c.loop-port.invariant.still as_many first place p (omega (arith, many, c.loop-port-test.false, low))
