use Rattle.flow_link.specs.Planned.{layout_of}
use Rattle.flow_exec.specs.Works.{works_of}
use Rattle.flow_moves.proofs.PlansRun.{plan_runs}
use Rattle.flow_net.proofs.NoneAsked.{unasked_on}
use Rattle.flow_net.proofs.KeptOn.{kept_by_plan, lawful_by_plan, quiet_by_plan, rests_by_plan, inputs_on, posted_on, still_if_settled}
use Rattle.flow_net.proofs.net.Net.settle.Goals as goal

pub invariant_of-self : goal.invariant_of-self
invariant_of-self g c =
    let start = c.args.self.now.engine in
    record {
      kept = kept_by_plan g.W.Runs.meaning start.plan c.settle.new.self.plan c.settle.ensures.goes_on.count start.parts c.settle.new.self.parts
          c.settle.ensures.same_plan c.settle.ensures.goes_on.happened c.args.self.now.kept;
      unasked = unasked_on (layout_of start.plan) (works_of g.W.Runs.meaning (layout_of start.plan)) c.settle.ensures.goes_on.count start.parts
          c.settle.new.self.parts c.settle.ensures.goes_on.happened c.args.self.now.unasked;
    }

pub returns-clause-lawful : goal.returns-clause-lawful
returns-clause-lawful g c =
    let start = c.args.self.now.engine in
    lawful_by_plan g.W.Runs.meaning start.plan c.settle.new.self.plan c.settle.ensures.goes_on.count start.parts c.settle.new.self.parts
    c.settle.ensures.same_plan c.settle.ensures.goes_on.happened c.args.self.now.kept

pub returns-clause-quiet : goal.returns-clause-quiet
returns-clause-quiet g c is_quiet =
    let start = c.args.self.now.engine in
    quiet_by_plan g.W.Runs.meaning start.plan c.settle.new.self.plan c.settle.ensures.goes_on.count start.parts c.settle.new.self.parts
    c.settle.ensures.same_plan c.settle.ensures.goes_on.happened c.args.self.now.kept
    (still_if_settled (layout_of start.plan) (works_of g.W.Runs.meaning (layout_of start.plan)) (plan_runs start.plan) c.args.limit
    start.parts c.settle.new.self.parts c.settle.result c.settle.ensures.settled is_quiet)

pub returns-clause-at_rest : goal.returns-clause-at_rest
returns-clause-at_rest g c is_quiet =
    let start = c.args.self.now.engine in
    rests_by_plan g.W.Runs.meaning start.plan c.settle.new.self.plan c.settle.ensures.goes_on.count start.parts c.settle.new.self.parts
    c.settle.ensures.same_plan c.settle.ensures.goes_on.happened c.args.self.now.kept
    (still_if_settled (layout_of start.plan) (works_of g.W.Runs.meaning (layout_of start.plan)) (plan_runs start.plan) c.args.limit
    start.parts c.settle.new.self.parts c.settle.result c.settle.ensures.settled is_quiet)

pub returns-clause-same_inputs : goal.returns-clause-same_inputs
returns-clause-same_inputs g c =
    let start = c.args.self.now.engine in
    posted_on (layout_of start.plan) (works_of g.W.Runs.meaning (layout_of start.plan)) (plan_runs start.plan)
    c.settle.ensures.goes_on.count start.parts c.settle.new.self.parts c.settle.ensures.goes_on.happened

pub returns-clause-inputs_stay : goal.returns-clause-inputs_stay
returns-clause-inputs_stay g c =
    let start = c.args.self.now.engine in
    inputs_on (layout_of start.plan) (works_of g.W.Runs.meaning (layout_of start.plan)) (plan_runs start.plan)
    c.settle.ensures.goes_on.count start.parts c.settle.new.self.parts c.settle.ensures.goes_on.happened
