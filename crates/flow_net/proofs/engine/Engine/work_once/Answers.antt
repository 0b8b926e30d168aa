use Rattle.std.proofs.Common.{rules, refl}
use Rattle.flow_link.specs.Planned.{layout_of}
use Rattle.flow_core.specs.Events.{Enabled, NetEvent}
use Rattle.flow_block.specs.Peeks.{may_make}
use Rattle.flow_exec.specs.Works.{works_of}
use Rattle.flow_net.proofs.EventsCount.{one_more_event}
use Rattle.flow_net.proofs.BlocksTell.{may_where, node_there}
use Rattle.flow_net.proofs.engine.Engine.work_once.Goals as goal

pub returns-in_err-make-clause-used_up : goal.returns-in_err-make-clause-used_up
returns-in_err-make-clause-used_up g c is =
    let old = c.args.self.now in
    let enabled : Enabled (layout_of old.plan) old.parts (NetEvent.make c.args.number) =
    may_where (layout_of old.plan) old.parts c.args.number c.node.ensures c.block-block.ensures c.requires.known may_make
    c.may_make.ensures c.if-may_make.true in
    record {
      event = NetEvent.make c.args.number;
      enabled = enabled;
      none_left = λ ids. c.make.ensures.used_up (search rules) (record { enabled = enabled; ids = ids });
    }

pub node-requires : goal.node-requires
node-requires g c =
    node_there g.W.Runs.meaning c.args.self.now.plan c.args.self.now.parts c.requires.kept c.args.number c.requires.known

pub make-requires-clause-enabled : goal.make-requires-clause-enabled
make-requires-clause-enabled g c =
    may_where (layout_of c.args.self.now.plan) c.args.self.now.parts c.args.number c.node.ensures c.block-block.ensures
    c.requires.known may_make c.may_make.ensures c.if-may_make.true

pub returns-then-may_make-clause-happened : goal.returns-then-may_make-clause-happened
returns-then-may_make-clause-happened g c =
    let start = c.args.self.now in
    let layout = layout_of start.plan in
    one_more_event layout (works_of g.W.Runs.meaning layout) 0 start.parts start.parts c.make.new.self.parts
    (NetEvent.make c.args.number) refl c.in_ok-make.ensures.may c.in_ok-make.ensures.done
