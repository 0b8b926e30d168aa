use Rattle.std.proofs.Common.{rules, ap, sym, ◌∙◌}
use Rattle.flow_core.specs.State.{node_at}
use Rattle.flow_net.proofs.FindersTell.{nothing_where_open}
use Rattle.flow_link.specs.Planned.{layout_of}
use Rattle.flow_block.specs.Peeks.{may_make, may_begin, may_end}
use Rattle.flow_net.proofs.BlocksTell.{block_at, may_where, node_there, tells}
use Rattle.flow_net.proofs.engine.Engine.event_at_block.Goals as goal

pub returns-in_default-clause-none : goal.returns-in_default-clause-none
returns-in_default-clause-none g c =
    nothing_where_open (node_at c.args.self.now.parts c.args.number).block
    (sym (tells (layout_of c.args.self.now.plan) c.args.self.now.parts c.args.number c.node.ensures c.block-block.ensures may_make
    c.may_make.ensures) ∙ c.if-may_make.false)
    (sym (tells (layout_of c.args.self.now.plan) c.args.self.now.parts c.args.number c.node.ensures c.block-block.ensures
    may_begin
    c.may_begin.ensures) ∙ c.if-may_begin.false)
    (search rules) c.end_of_block.result c.end_of_block.ensures.none

pub node-requires : goal.node-requires
node-requires g c =
    node_there g.W.Runs.meaning c.args.self.now.plan c.args.self.now.parts c.requires.kept c.args.number c.requires.known

pub returns-then-may_make-clause-due : goal.returns-then-may_make-clause-due
returns-then-may_make-clause-due g c = record {
  enabled = may_where (layout_of c.args.self.now.plan) c.args.self.now.parts c.args.number c.node.ensures c.block-block.ensures
      c.requires.known may_make c.may_make.ensures c.if-may_make.true;
  id = tt;
}

pub returns-then-may_begin-clause-due : goal.returns-then-may_begin-clause-due
returns-then-may_begin-clause-due g c = record {
  enabled = may_where (layout_of c.args.self.now.plan) c.args.self.now.parts c.args.number c.node.ensures c.block-block.ensures
      c.requires.known may_begin c.may_begin.ensures c.if-may_begin.true;
  id = tt;
}

pub returns-in-Some-clause-due : goal.returns-in-Some-clause-due
returns-in-Some-clause-due g c = record {
  enabled = record {
    there = c.requires.known;
    would = sym (ap (may_end c.in-Some.ticket)
        (block_at (layout_of c.args.self.now.plan) c.args.self.now.parts c.args.number c.node.ensures c.block-block.ensures))
        ∙ c.in-Some.ensures.some;
  };
  id = tt;
}
