use Rattle.std.proofs.Common.{ap, is_some, ◌∙◌}
use Rattle.flow_link.specs.Planned.{layout_of}
use Rattle.flow_block.specs.Block.{BlockState}
use Rattle.flow_block.specs.Peeks.{next_fault, may_finish}
use Rattle.flow_net.proofs.BlocksTell.{may_where, node_there}
use Rattle.flow_net.proofs.engine.Engine.end_of_block.Goals as goal

pub node-requires : goal.node-requires
node-requires g c =
    node_there g.W.Runs.meaning c.args.self.now.plan c.args.self.now.parts c.requires.kept c.args.number c.requires.known

pub returns-in-Some-clause-due : goal.returns-in-Some-clause-due
returns-in-Some-clause-due g c = record {
  enabled = record { there = c.requires.known; port = c.in-Some.ensures.there; would = c.in-Some.ensures.completes };
  id = tt;
}

pub returns-then-is_some-clause-due : goal.returns-then-is_some-clause-due
returns-then-is_some-clause-due g c = record {
  enabled = may_where (layout_of c.args.self.now.plan) c.args.self.now.parts c.args.number c.node.ensures c.block-block.ensures
      c.requires.known (λ (block : BlockState). is_some (next_fault block)) (c.is_some.ensures ∙ ap is_some c.next_fault.ensures)
      c.if-is_some.true;
  id = tt;
}

pub returns-then-may_finish-clause-due : goal.returns-then-may_finish-clause-due
returns-then-may_finish-clause-due g c = record {
  enabled = may_where (layout_of c.args.self.now.plan) c.args.self.now.parts c.args.number c.node.ensures c.block-block.ensures
      c.requires.known may_finish c.may_finish.ensures c.if-may_finish.true;
  id = tt;
}
