use Rattle.std.proofs.Common.{◌<◌, length, ap, sym, subst, ◌∙◌}
use Rattle.flow_link.specs.Planned.{layout_of}
use Rattle.flow_block.specs.Block.{BlockState}
use Rattle.flow_block.specs.Node.{NodeState}
use Rattle.flow_exec.specs.Works.{works_of}
use Rattle.flow_moves.proofs.MerelyKept.{blocks_planned}
use Rattle.flow_net.proofs.BlocksTell.{node_there}
use Rattle.flow_net.proofs.engine.Engine.job_of.Goals as goal

pub begun_message-requires-clause-ports : goal.begun_message-requires-clause-ports
begun_message-requires-clause-ports g c =
    let now = c.args.self.now in
    let planned = blocks_planned (layout_of now.plan) (works_of g.W.Runs.meaning (layout_of now.plan)) now.parts
    c.requires.kept c.args.number c.requires.enabled.there in
    let block_is = c.block-block.ensures ∙ ap (λ (node : NodeState). node.block) c.node.ensures in
    subst (λ (block : BlockState). 0 < length block.ports) (sym block_is) planned.some_port

pub node-requires : goal.node-requires
node-requires g c =
    node_there g.W.Runs.meaning c.args.self.now.plan c.args.self.now.parts c.requires.kept c.args.number c.requires.enabled.there
