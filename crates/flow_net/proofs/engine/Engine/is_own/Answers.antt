use Rattle.std.proofs.Common.{ap, is_some, ◌∙◌}
use Rattle.flow_link.specs.Planned.{layout_of}
use Rattle.flow_block.specs.Block.{BlockState}
use Rattle.flow_block.specs.Peeks.{may_make, may_begin, may_end, next_fault, may_finish}
use Rattle.flow_core.specs.State.{node_at}
use Rattle.flow_net.proofs.BlocksTell.{below_count, may_told, no_block_may, no_port_may, node_there, told_as}
use Rattle.flow_net.proofs.engine.Engine.is_own.Goals as goal

pub node-requires : goal.node-requires
node-requires g c =
    node_there g.W.Runs.meaning c.args.self.now.plan c.args.self.now.parts c.requires.kept c.in-Make.number
    (below_count c.block_count-count.ensures c.if-number-count.true)

pub node-requires-then-number-count-3 : goal.node-requires-then-number-count-3
node-requires-then-number-count-3 g c =
    node_there g.W.Runs.meaning c.args.self.now.plan c.args.self.now.parts c.requires.kept c.in-End.number
    (below_count c.block_count-count.ensures c.if-number-count-3.true)

pub node-requires-then-number-count-5 : goal.node-requires-then-number-count-5
node-requires-then-number-count-5 g c =
    node_there g.W.Runs.meaning c.args.self.now.plan c.args.self.now.parts c.requires.kept c.in-Fault.number
    (below_count c.block_count-count.ensures c.if-number-count-5.true)

pub node-requires-then-number-count-6 : goal.node-requires-then-number-count-6
node-requires-then-number-count-6 g c =
    node_there g.W.Runs.meaning c.args.self.now.plan c.args.self.now.parts c.requires.kept c.in-Done.number
    (below_count c.block_count-count.ensures c.if-number-count-6.true)

pub returns-then-number-count : goal.returns-then-number-count
returns-then-number-count g c =
    let layout = layout_of c.args.self.now.plan in
    let net = c.args.self.now.parts in
    told_as layout net c.in-Make.is
    (may_told layout net c.in-Make.number c.node.ensures c.block.ensures
    (below_count c.block_count-count.ensures c.if-number-count.true)
    may_make c.may_make.ensures)

pub returns-then-number-count-2 : goal.returns-then-number-count-2
returns-then-number-count-2 g c = told_as (layout_of c.args.self.now.plan) c.args.self.now.parts c.in-Begin.is c.may_begin.ensures

pub returns-then-number-count-3 : goal.returns-then-number-count-3
returns-then-number-count-3 g c =
    let layout = layout_of c.args.self.now.plan in
    let net = c.args.self.now.parts in
    told_as layout net c.in-End.is
    (may_told layout net c.in-End.number c.node-then-number-count-3.ensures c.block-then-number-count-3.ensures
    (below_count c.block_count-count.ensures c.if-number-count-3.true) (may_end c.in-End.ticket) c.may_end.ensures)

pub returns-then-number-count-4 : goal.returns-then-number-count-4
returns-then-number-count-4 g c =
    told_as (layout_of c.args.self.now.plan) c.args.self.now.parts c.in-Complete.is c.may_complete.ensures

pub returns-then-number-count-5 : goal.returns-then-number-count-5
returns-then-number-count-5 g c =
    let layout = layout_of c.args.self.now.plan in
    let net = c.args.self.now.parts in
    told_as layout net c.in-Fault.is
    (may_told layout net c.in-Fault.number c.node-then-number-count-5.ensures c.block-then-number-count-5.ensures
    (below_count c.block_count-count.ensures c.if-number-count-5.true) (λ (block : BlockState). is_some (next_fault block))
    (c.is_some.ensures ∙ ap is_some c.next_fault.ensures))

pub returns-then-number-count-6 : goal.returns-then-number-count-6
returns-then-number-count-6 g c =
    let layout = layout_of c.args.self.now.plan in
    let net = c.args.self.now.parts in
    told_as layout net c.in-Done.is
    (may_told layout net c.in-Done.number c.node-then-number-count-6.ensures c.block-then-number-count-6.ensures
    (below_count c.block_count-count.ensures c.if-number-count-6.true) may_finish c.may_finish.ensures)

pub returns-else-number-count : goal.returns-else-number-count
returns-else-number-count g c =
    let layout = layout_of c.args.self.now.plan in
    let net = c.args.self.now.parts in
    told_as layout net c.in-Make.is
    (no_block_may layout net c.in-Make.number (may_make (node_at net c.in-Make.number).block) c.block_count-count.ensures
    c.if-number-count.false)

pub returns-else-number-count-2 : goal.returns-else-number-count-2
returns-else-number-count-2 g c =
    let layout = layout_of c.args.self.now.plan in
    let net = c.args.self.now.parts in
    told_as layout net c.in-Begin.is
    (no_block_may layout net c.in-Begin.number (may_begin (node_at net c.in-Begin.number).block) c.block_count-count.ensures
    c.if-number-count-2.false)

pub returns-else-number-count-3 : goal.returns-else-number-count-3
returns-else-number-count-3 g c =
    let layout = layout_of c.args.self.now.plan in
    let net = c.args.self.now.parts in
    told_as layout net c.in-End.is
    (no_block_may layout net c.in-End.number (may_end c.in-End.ticket (node_at net c.in-End.number).block)
    c.block_count-count.ensures
    c.if-number-count-3.false)

pub returns-else-number-count-4 : goal.returns-else-number-count-4
returns-else-number-count-4 g c =
    let layout = layout_of c.args.self.now.plan in
    let net = c.args.self.now.parts in
    told_as layout net c.in-Complete.is
    (no_port_may layout net c.in-Complete.number c.in-Complete.port c.block_count-count.ensures c.if-number-count-4.false)

pub returns-else-number-count-5 : goal.returns-else-number-count-5
returns-else-number-count-5 g c =
    let layout = layout_of c.args.self.now.plan in
    let net = c.args.self.now.parts in
    told_as layout net c.in-Fault.is
    (no_block_may layout net c.in-Fault.number (is_some (next_fault (node_at net c.in-Fault.number).block))
    c.block_count-count.ensures
    c.if-number-count-5.false)

pub returns-else-number-count-6 : goal.returns-else-number-count-6
returns-else-number-count-6 g c =
    let layout = layout_of c.args.self.now.plan in
    let net = c.args.self.now.parts in
    told_as layout net c.in-Done.is
    (no_block_may layout net c.in-Done.number (may_finish (node_at net c.in-Done.number).block) c.block_count-count.ensures
    c.if-number-count-6.false)
