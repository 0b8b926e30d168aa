use Rattle.flow_core.specs.State.{node_at}
use Rattle.flow_moves.proofs.MerelyKept.{blocks_planned}
use Rattle.flow_moves.proofs.WorksAtOnce.{begin_works}
use Rattle.flow_link.specs.Planned.{layout_of}
use Rattle.flow_exec.specs.Works.{works_of}
use Rattle.flow_net.proofs.EventsDone.{worked_so}
use Rattle.flow_net.proofs.BlocksTell.{node_there}
use Rattle.flow_net.proofs.engine.Engine.work.Goals as goal

pub work-requires-clause-alone : goal.work-requires-clause-alone
work-requires-clause-alone g c =
    let old = c.args.self.now in
    let layout = layout_of old.plan in
    let meaning = works_of g.W.Runs.meaning layout in
    let planned = blocks_planned layout meaning old.parts c.requires.kept c.args.number c.requires.enabled.there in
    planned.alone_at_work (begin_works (node_at old.parts c.args.number).block c.requires.enabled.would)

pub returns-clause-happened : goal.returns-clause-happened
returns-clause-happened g c =
    let old = c.args.self.now in
    worked_so g.W.Runs.meaning (layout_of old.plan) old.parts c.requires.kept c.args.number c.requires.enabled.there _
    c.block.result.now c.block.ensures c.as_ref-work.ensures.value c.requires.enabled c.requires.idle c.work.new.self
    c.in_ok-work.ensures.done c.in_ok-work.ensures.ids

pub work-requires-clause-there : goal.work-requires-clause-there
work-requires-clause-there g c =
    node_there g.W.Runs.meaning c.args.self.now.plan c.args.self.now.parts c.requires.kept c.args.number c.requires.enabled.there

pub work-requires-clause-waits : goal.work-requires-clause-waits
work-requires-clause-waits g c = c.requires.enabled.would
