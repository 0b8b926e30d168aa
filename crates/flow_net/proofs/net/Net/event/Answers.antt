use Rattle.flow_link.specs.Planned.{layout_of}
use Rattle.flow_exec.specs.Works.{works_of}
use Rattle.flow_moves.proofs.PlansRun.{plan_runs}
use Rattle.flow_net.proofs.EventsTaken.{goes_on_taken}
use Rattle.flow_net.proofs.NoneAsked.{unasked_on}
use Rattle.flow_net.proofs.KeptOn.{kept_by_plan, lawful_by_plan, inputs_on, posted_on}
use Rattle.flow_net.proofs.net.Net.event.Goals as goal

pub invariant_of-self : goal.invariant_of-self
invariant_of-self g c =
    let start = c.args.self.now.engine in
    let last = c.take.new.self in
    let on = goes_on_taken g.W.PartialEq.eq g.W.Runs.meaning start last c.args.event c.take.result c.take.ensures in
    record {
      kept = kept_by_plan g.W.Runs.meaning start.plan last.plan on.count start.parts last.parts c.take.ensures.same_plan
          on.happened
          c.args.self.now.kept;
      unasked = unasked_on (layout_of start.plan) (works_of g.W.Runs.meaning (layout_of start.plan)) on.count start.parts last.parts on.happened
          c.args.self.now.unasked;
    }

pub returns-clause-enabled : goal.returns-clause-enabled
returns-clause-enabled g c = c.take.ensures.enabled

pub returns-clause-moved : goal.returns-clause-moved
returns-clause-moved g c = c.take.ensures.moved

pub returns-clause-answers : goal.returns-clause-answers
returns-clause-answers g c = c.take.ensures.answers

pub returns-clause-own : goal.returns-clause-own
returns-clause-own g c = c.take.ensures.own

pub returns-clause-kept : goal.returns-clause-kept
returns-clause-kept g c = c.take.ensures.kept

pub returns-clause-why : goal.returns-clause-why
returns-clause-why g c = c.take.ensures.why

pub returns-clause-back : goal.returns-clause-back
returns-clause-back g c = c.take.ensures.back

pub returns-clause-lawful : goal.returns-clause-lawful
returns-clause-lawful g c =
    let start = c.args.self.now.engine in
    let last = c.take.new.self in
    let on = goes_on_taken g.W.PartialEq.eq g.W.Runs.meaning start last c.args.event c.take.result c.take.ensures in
    lawful_by_plan g.W.Runs.meaning start.plan last.plan on.count start.parts last.parts c.take.ensures.same_plan on.happened
    c.args.self.now.kept

pub returns-clause-inputs_stay : goal.returns-clause-inputs_stay
returns-clause-inputs_stay g c =
    let start = c.args.self.now.engine in
    let last = c.take.new.self in
    let layout = layout_of start.plan in
    let on = goes_on_taken g.W.PartialEq.eq g.W.Runs.meaning start last c.args.event c.take.result c.take.ensures in
    inputs_on layout (works_of g.W.Runs.meaning layout) (plan_runs start.plan) on.count start.parts last.parts on.happened

pub returns-clause-same_inputs : goal.returns-clause-same_inputs
returns-clause-same_inputs g c =
    let start = c.args.self.now.engine in
    let last = c.take.new.self in
    let layout = layout_of start.plan in
    let on = goes_on_taken g.W.PartialEq.eq g.W.Runs.meaning start last c.args.event c.take.result c.take.ensures in
    posted_on layout (works_of g.W.Runs.meaning layout) (plan_runs start.plan) on.count start.parts last.parts on.happened
