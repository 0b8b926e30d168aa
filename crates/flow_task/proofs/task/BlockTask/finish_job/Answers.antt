use Rattle.std.proofs.Common.{◌≡◌, ℕ, ◌<◌, true, false, length, List, Result, is_none, sym, ◌∙◌, subst}
use Rattle.std.specs.List.{HoldsAt}
use Rattle.std.proofs.lemmas.Bool.{and_parts}
use Rattle.std.proofs.lemmas.Result.{on_ok_weaker}
use Rattle.flow_value.specs.declared.value.Value.{Value}
use Rattle.flow_link.specs.Planned.{layout_of}
use Rattle.flow_outlet.specs.Outlet.{lacks_ids}
use Rattle.flow_block.specs.Jobs.{is_out}
use Rattle.flow_block_law.specs.JobsEnd.{after_job, put_at_end}
use Rattle.flow_block_law.specs.NodeLaw.{NodeLaw}
use Rattle.flow_exec.specs.Works.{works_of}
use Rattle.flow_task.specs.declared.board.Board.{Board}
use Rattle.flow_task.proofs.OwnSteps.{OwnStep, ends_job, own_law, own_outs, own_ins, planned}
use Rattle.flow_task.proofs.OwnTries.{makes_by_work, on_both, tried}
use Rattle.flow_task.proofs.task.BlockTask.finish_job.Goals as goal

pub finish_job-requires-clause-alone : goal.finish_job-requires-clause-alone
finish_job-requires-clause-alone g c =
    let s = c.args.self.now in
    let layout = layout_of s.of.value.rest.plan in
    let p = planned layout (works_of g.W.Runs.meaning layout) s.number s.node s.law in
    let out = (and_parts (is_none s.node.block.stopped) (is_out c.args.ticket s.node.block.jobs) c.requires.out).1 in
    p.alone_at_work (p.works c.args.ticket out)

pub finish_job-requires-clause-works : goal.finish_job-requires-clause-works
finish_job-requires-clause-works g c =
    let s = c.args.self.now in
    let layout = layout_of s.of.value.rest.plan in
    let p = planned layout (works_of g.W.Runs.meaning layout) s.number s.node s.law in
    let out = (and_parts (is_none s.node.block.stopped) (is_out c.args.ticket s.node.block.jobs) c.requires.out).1 in
    p.works c.args.ticket out

pub finish_job-requires-clause-held : goal.finish_job-requires-clause-held
finish_job-requires-clause-held g c =
    let s = c.args.self.now in
    let layout = layout_of s.of.value.rest.plan in
    let p = planned layout (works_of g.W.Runs.meaning layout) s.number s.node s.law in
    let out = (and_parts (is_none s.node.block.stopped) (is_out c.args.ticket s.node.block.jobs) c.requires.out).1 in
    p.begun

pub finish_job-requires-clause-drained : goal.finish_job-requires-clause-drained
finish_job-requires-clause-drained g c =
    let s = c.args.self.now in
    let layout = layout_of s.of.value.rest.plan in
    let p = planned layout (works_of g.W.Runs.meaning layout) s.number s.node s.law in
    let out = (and_parts (is_none s.node.block.stopped) (is_out c.args.ticket s.node.block.jobs) c.requires.out).1 in
    p.drained

pub block-requires : goal.block-requires
block-requires g c =
    subst (λ (board : Board _). c.args.self.now.number < length (layout_of board.rest.plan).blocks) c.requires.of c.args.self.now.there

pub invariant_of-self : goal.invariant_of-self
invariant_of-self g c =
    let s = c.args.self.now in
    let plan = s.of.value.rest.plan in
    let layout = layout_of plan in
    let wires = s.of.value.wires.items in
    let works = works_of g.W.Runs.meaning layout in
    let ticket = c.args.ticket in
    let new = c.finish_job.new.node in
    let defined = subst (λ (board : Board _). HoldsAt (λ block. c.block.result.now ≡ block) (layout_of board.rest.plan).blocks s.number)
    (sym c.requires.of) c.block.ensures in
    let is = makes_by_work g.W.Runs.meaning layout s.number _ c.block.result.now defined c.as_ref-work.ensures.value s.node.block.kind
    (planned layout works s.number s.node s.law).kind_is in
    let step : NodeLaw layout works s.number s.node → OwnStep layout works s.number s.node new =
    tried layout works s.number _ s.node new c.finish_job.result
    (on_both _ _ c.finish_job.result c.finish_job.ensures.done c.finish_job.ensures.ids) c.finish_job.ensures.kept
    (λ l done. ends_job layout works s.number s.node l ticket
    (record {
      out = c.requires.out;
      ids = subst (λ (makes : Value → Result (List Value) ℕ). lacks_ids (put_at_end makes ticket s.node.block) s.node.block.exits ≡ false)
          is done.1;
    })
    new (subst (λ (makes : Value → Result (List Value) ℕ). new ≡ after_job makes ticket s.node) is done.0)) in
    record {
      there = s.there;
      noted = s.noted;
      knows = s.knows;
      law = own_law layout works s.number wires s.node new s.law step;
      outs_know = s.outs_know ∙ own_outs layout works s.number wires s.node new s.law step;
      ins_know = s.ins_know ∙ own_ins layout works s.number wires s.node new s.law step;
    }

pub returns-clause-ended : goal.returns-clause-ended
returns-clause-ended g c =
    let s = c.args.self.now in
    let layout = layout_of s.of.value.rest.plan in
    let works = works_of g.W.Runs.meaning layout in
    let new = c.finish_job.new.node in
    let defined = subst (λ (board : Board _). HoldsAt (λ block. c.block.result.now ≡ block) (layout_of board.rest.plan).blocks s.number)
    (sym c.requires.of) c.block.ensures in
    let is = makes_by_work g.W.Runs.meaning layout s.number _ c.block.result.now defined c.as_ref-work.ensures.value s.node.block.kind
    (planned layout works s.number s.node s.law).kind_is in
    on_ok_weaker c.finish_job.result
    (subst (λ (makes : Value → Result (List Value) ℕ). new ≡ after_job makes c.args.ticket s.node) is)
    c.finish_job.ensures.done

pub returns-clause-used_up : goal.returns-clause-used_up
returns-clause-used_up g c =
    let s = c.args.self.now in
    let layout = layout_of s.of.value.rest.plan in
    let works = works_of g.W.Runs.meaning layout in
    let defined = subst (λ (board : Board _). HoldsAt (λ block. c.block.result.now ≡ block) (layout_of board.rest.plan).blocks s.number)
    (sym c.requires.of) c.block.ensures in
    let is = makes_by_work g.W.Runs.meaning layout s.number _ c.block.result.now defined c.as_ref-work.ensures.value s.node.block.kind
    (planned layout works s.number s.node s.law).kind_is in
    λ ids.
    subst (λ (makes : Value → Result (List Value) ℕ). lacks_ids (put_at_end makes c.args.ticket s.node.block) s.node.block.exits ≡ true)
    is (c.finish_job.ensures.used_up ids)
