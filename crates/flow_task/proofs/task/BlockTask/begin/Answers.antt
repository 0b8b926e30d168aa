use Rattle.std.proofs.Common.{◌∙◌, Some, OnOk}
use Rattle.std.proofs.lemmas.Result.{on_ok_weaker}
use Rattle.flow_link.specs.Planned.{layout_of}
use Rattle.flow_block.specs.Node.{NodeCall}
use Rattle.flow_block_law.specs.NodeLaw.{NodeLaw}
use Rattle.flow_exec.specs.Works.{works_of}
use Rattle.flow_moves.specs.Calls.{Calls}
use Rattle.flow_task.proofs.OwnSteps.{OwnStep, begins, own_law, own_outs, own_ins}
use Rattle.flow_task.proofs.OwnTries.{tried}
use Rattle.flow_task.proofs.task.BlockTask.begin.Goals as goal

pub invariant_of-self : goal.invariant_of-self
invariant_of-self g c =
    let s = c.args.self.now in
    let plan = s.of.value.rest.plan in
    let layout = layout_of plan in
    let wires = s.of.value.wires.items in
    let works = works_of g.W.Runs.meaning layout in
    let new = c.begin.new.self in
    let done : OnOk c.begin.result (Calls (Some NodeCall.begin) s.node new) =
    on_ok_weaker c.begin.result (λ is result. is) c.begin.ensures.done in
    let step : NodeLaw layout works s.number s.node → OwnStep layout works s.number s.node new =
    tried layout works s.number (Calls (Some NodeCall.begin) s.node new) s.node new c.begin.result done c.begin.ensures.kept
    (λ l calls. begins layout works s.number s.node l c.requires new calls) in
    record {
      there = s.there;
      noted = s.noted;
      knows = s.knows;
      law = own_law layout works s.number wires s.node new s.law step;
      outs_know = s.outs_know ∙ own_outs layout works s.number wires s.node new s.law step;
      ins_know = s.ins_know ∙ own_ins layout works s.number wires s.node new s.law step;
    }

pub returns-clause-begun : goal.returns-clause-begun
returns-clause-begun g c = on_ok_weaker c.begin.result (λ is result. is) c.begin.ensures.done
