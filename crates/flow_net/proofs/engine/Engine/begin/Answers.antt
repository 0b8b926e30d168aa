use Rattle.flow_link.specs.Planned.{layout_of}
use Rattle.flow_block.specs.Planned.{block_makes}
use Rattle.flow_exec.specs.Works.{works_of}
use Rattle.flow_net.proofs.BlocksTell.{node_there}
use Rattle.flow_net.proofs.engine.Engine.begin.Goals as goal

pub returns-clause-done : goal.returns-clause-done
returns-clause-done g c =
    let layout = layout_of c.args.self.now.plan in
    c.in_ok-begin.ensures.done (block_makes layout (works_of g.W.Runs.meaning layout) c.args.number)

pub begin-requires : goal.begin-requires
begin-requires g c = record {
  there = node_there g.W.Runs.meaning c.args.self.now.plan c.args.self.now.parts c.requires.kept c.args.number
      c.requires.enabled.there;
}
