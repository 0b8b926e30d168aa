use Rattle.std.proofs.Common.{not, ◌∙◌}
use Rattle.std.proofs.lemmas.Bool.{and_parts}
use Rattle.flow_link.specs.Plan.{has_work}
use Rattle.flow_link.specs.Planned.{layout_of}
use Rattle.flow_block.specs.Peeks.{may_work}
use Rattle.flow_block.specs.Planned.{block_makes}
use Rattle.flow_block_law.specs.NodeLaw.{NodeLaw}
use Rattle.flow_exec.specs.Works.{works_of}
use Rattle.flow_task.proofs.OwnSteps.{OwnStep, makes, own_law, own_outs, own_ins, planned}
use Rattle.flow_task.proofs.OwnTries.{on_both, tried}
use Rattle.flow_task.proofs.task.BlockTask.make.Goals as goal

pub make_next-requires-clause-alone : goal.make_next-requires-clause-alone
make_next-requires-clause-alone g c =
    let s = c.args.self.now in
    let layout = layout_of s.of.value.rest.plan in
    (planned layout (works_of g.W.Runs.meaning layout) s.number s.node s.law).alone

pub make_next-requires-clause-ports : goal.make_next-requires-clause-ports
make_next-requires-clause-ports g c =
    let s = c.args.self.now in
    let layout = layout_of s.of.value.rest.plan in
    (planned layout (works_of g.W.Runs.meaning layout) s.number s.node s.law).some_port

pub make_next-requires-clause-many : goal.make_next-requires-clause-many
make_next-requires-clause-many g c =
    let s = c.args.self.now in
    let layout = layout_of s.of.value.rest.plan in
    (planned layout (works_of g.W.Runs.meaning layout) s.number s.node s.law).many
    (and_parts (may_work s.node.block) (not (has_work s.node.block.kind)) c.requires).0

pub invariant_of-self : goal.invariant_of-self
invariant_of-self g c =
    let s = c.args.self.now in
    let plan = s.of.value.rest.plan in
    let layout = layout_of plan in
    let wires = s.of.value.wires.items in
    let works = works_of g.W.Runs.meaning layout in
    let new = c.make_next.new.self in
    let step : NodeLaw layout works s.number s.node → OwnStep layout works s.number s.node new =
    tried layout works s.number _ s.node new c.make_next.result
    (on_both _ _ c.make_next.result c.make_next.ensures.done c.make_next.ensures.enough) c.make_next.ensures.kept
    (λ l made. makes layout works s.number s.node l c.requires (made.1 (block_makes layout works s.number)) new made.0) in
    record {
      there = s.there;
      noted = s.noted;
      knows = s.knows;
      law = own_law layout works s.number wires s.node new s.law step;
      outs_know = s.outs_know ∙ own_outs layout works s.number wires s.node new s.law step;
      ins_know = s.ins_know ∙ own_ins layout works s.number wires s.node new s.law step;
    }
