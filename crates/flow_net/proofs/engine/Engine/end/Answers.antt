use Rattle.std.proofs.Common.{◌≡◌, sym, ap, subst, ◌∙◌}
use Rattle.flow_link.specs.Planned.{layout_of}
use Rattle.flow_block.specs.Node.{NodeState}
use Rattle.flow_block.specs.Peeks.{next_fault}
use Rattle.flow_block.specs.Planned.{block_makes}
use Rattle.flow_core.specs.Events.{after}
use Rattle.flow_exec.specs.Works.{works_of}
use Rattle.flow_net.specs.declared.due.Due.{Due}
use Rattle.flow_net.specs.Dues.{event_of}
use Rattle.flow_net.proofs.EventsDone.{faulted_is_after}
use Rattle.flow_net.proofs.BlocksTell.{enabled_as, node_there}
use Rattle.flow_net.proofs.engine.Engine.end.Goals as goal

pub returns-in_ok-complete-in-Complete-clause-done : goal.returns-in_ok-complete-in-Complete-clause-done
returns-in_ok-complete-in-Complete-clause-done g c =
    let layout = layout_of c.args.self.now.plan in
    let meaning = works_of g.W.Runs.meaning layout in
    subst (λ (e : Due). c.complete.new.self ≡ after layout meaning (event_of e) c.args.self.now.parts) (sym c.in-Complete.is)
    (c.in_ok-complete-in-Complete.ensures.done (block_makes layout meaning c.in-Complete.number))

pub returns-in_ok-fault-in-Fault-clause-done : goal.returns-in_ok-fault-in-Fault-clause-done
returns-in_ok-fault-in-Fault-clause-done g c =
    let layout = layout_of c.args.self.now.plan in
    let meaning = works_of g.W.Runs.meaning layout in
    let old = c.args.self.now.parts in
    let block_is = c.block.ensures ∙ ap (λ (node : NodeState). node.block) c.node.ensures in
    let would = ap next_fault (sym block_is) ∙ sym c.next_fault.ensures ∙ c.in-Some.is in
    subst (λ (e : Due). c.fault.new.self ≡ after layout meaning (event_of e) old) (sym c.in-Fault.is)
    (faulted_is_after layout meaning old c.fault.new.self c.in-Fault.number c.in-Some.fault would
    (c.in_ok-fault-in-Fault.ensures.done (block_makes layout meaning c.in-Fault.number)))

pub returns-in_ok-finish-in-Done-clause-done : goal.returns-in_ok-finish-in-Done-clause-done
returns-in_ok-finish-in-Done-clause-done g c =
    let layout = layout_of c.args.self.now.plan in
    let meaning = works_of g.W.Runs.meaning layout in
    subst (λ (e : Due). c.finish.new.self ≡ after layout meaning (event_of e) c.args.self.now.parts) (sym c.in-Done.is)
    (c.in_ok-finish-in-Done.ensures.done (block_makes layout meaning c.in-Done.number))

pub node-requires : goal.node-requires
node-requires g c =
    let now = c.args.self.now in
    node_there g.W.Runs.meaning now.plan now.parts c.requires.kept c.in-Fault.number
    (enabled_as (layout_of now.plan) now.parts c.in-Fault.is c.requires.enabled).there

pub complete-requires-clause-there : goal.complete-requires-clause-there
complete-requires-clause-there g c =
    let now = c.args.self.now in
    node_there g.W.Runs.meaning now.plan now.parts c.requires.kept c.in-Complete.number
    (enabled_as (layout_of now.plan) now.parts c.in-Complete.is c.requires.enabled).there

pub complete-requires-clause-port : goal.complete-requires-clause-port
complete-requires-clause-port g c =
    let now = c.args.self.now in
    (enabled_as (layout_of now.plan) now.parts c.in-Complete.is c.requires.enabled).port

pub fault-requires : goal.fault-requires
fault-requires g c =
    let now = c.args.self.now in
    node_there g.W.Runs.meaning now.plan now.parts c.requires.kept c.in-Fault.number
    (enabled_as (layout_of now.plan) now.parts c.in-Fault.is c.requires.enabled).there

pub finish-requires : goal.finish-requires
finish-requires g c =
    let now = c.args.self.now in
    node_there g.W.Runs.meaning now.plan now.parts c.requires.kept c.in-Done.number
    (enabled_as (layout_of now.plan) now.parts c.in-Done.is c.requires.enabled).there
