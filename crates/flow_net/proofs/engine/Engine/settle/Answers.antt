use Rattle.std.proofs.Common.{refl, ◌∙◌}
use Rattle.flow_link.specs.Planned.{layout_of}
use Rattle.flow_exec.specs.Works.{works_of}
use Rattle.flow_net.proofs.EventsCount.{goes_on_so_far, none_happened, rounds_more}
use Rattle.flow_net.proofs.engine.Engine.settle.Goals as goal

pub loop-rest-preserved-in-Some : goal.loop-rest-preserved-in-Some
loop-rest-preserved-in-Some g c =
    let first = c.args.self.now in
    let before = c.loop-rest.self in
    let found = c.next_event.new.self in
    let last = c.advance.new.self in
    let done = c.in_ok-rest-in-Some in
    let layout = layout_of before.plan in
    let same = none_happened layout (works_of g.W.Runs.meaning layout) c.in_ok-count.count before.parts c.carry_on.new.self.parts
    c.in-0.is c.in_ok-count.ensures.happened in
    rounds_more g.W.Runs.meaning first.plan before.plan found.plan last.plan first.parts before.parts found.parts last.parts
    c.args.limit c.loop-rest.rest done.field-0 c.loop-rest.invariant (c.next_event.ensures.same_plan ∙ c.carry_on.ensures.same_plan)
    (c.next_event.ensures.same_parts ∙ same) c.advance.ensures.same_plan done.ensures.within done.ensures.happened

pub loop-rest-preserved : goal.loop-rest-preserved
loop-rest-preserved g c =
    let first = c.args.self.now in
    let before = c.loop-rest.self in
    let last = c.carry_on.new.self in
    rounds_more g.W.Runs.meaning first.plan before.plan before.plan last.plan first.parts before.parts before.parts last.parts
    c.args.limit c.loop-rest.rest c.in_ok-count.count c.loop-rest.invariant refl refl c.carry_on.ensures.same_plan
    c.in_ok-count.ensures.within c.in_ok-count.ensures.happened

pub returns-in_err-count-clause-goes_on : goal.returns-in_err-count-clause-goes_on
returns-in_err-count-clause-goes_on g c =
    let first = c.args.self.now in
    let before = c.loop-rest.self in
    let layout = layout_of first.plan in
    goes_on_so_far layout (works_of g.W.Runs.meaning layout) c.args.limit c.loop-rest.rest first.parts before.parts
    c.carry_on.new.self.parts
    c.loop-rest.invariant.2 c.loop-rest.invariant.3 c.in_err-count.ensures.kept

pub returns-in_err-event-in-0-clause-goes_on : goal.returns-in_err-event-in-0-clause-goes_on
returns-in_err-event-in-0-clause-goes_on g c =
    let first = c.args.self.now in
    let before = c.loop-rest.self in
    let layout = layout_of first.plan in
    let same = none_happened (layout_of before.plan) (works_of g.W.Runs.meaning (layout_of before.plan)) c.in_ok-count.count
    before.parts
    c.carry_on.new.self.parts c.in-0.is c.in_ok-count.ensures.happened in
    goes_on_so_far layout (works_of g.W.Runs.meaning layout) c.args.limit c.loop-rest.rest first.parts before.parts
    c.next_event.new.self.parts
    c.loop-rest.invariant.2 c.loop-rest.invariant.3 (c.next_event.ensures.same_parts ∙ same)

pub returns-in_err-rest-in-Some-clause-goes_on : goal.returns-in_err-rest-in-Some-clause-goes_on
returns-in_err-rest-in-Some-clause-goes_on g c =
    let first = c.args.self.now in
    let before = c.loop-rest.self in
    let layout = layout_of first.plan in
    let same = none_happened (layout_of before.plan) (works_of g.W.Runs.meaning (layout_of before.plan)) c.in_ok-count.count
    before.parts
    c.carry_on.new.self.parts c.in-0.is c.in_ok-count.ensures.happened in
    goes_on_so_far layout (works_of g.W.Runs.meaning layout) c.args.limit c.loop-rest.rest first.parts before.parts
    c.advance.new.self.parts
    c.loop-rest.invariant.2 c.loop-rest.invariant.3 (c.in_err-rest-in-Some.ensures.kept ∙ c.next_event.ensures.same_parts ∙ same)

pub returns-in-None-clause-goes_on : goal.returns-in-None-clause-goes_on
returns-in-None-clause-goes_on g c =
    let first = c.args.self.now in
    let before = c.loop-rest.self in
    let layout = layout_of first.plan in
    let same = none_happened (layout_of before.plan) (works_of g.W.Runs.meaning (layout_of before.plan)) c.in_ok-count.count
    before.parts
    c.carry_on.new.self.parts c.in-0.is c.in_ok-count.ensures.happened in
    goes_on_so_far layout (works_of g.W.Runs.meaning layout) c.args.limit c.loop-rest.rest first.parts before.parts
    c.next_event.new.self.parts
    c.loop-rest.invariant.2 c.loop-rest.invariant.3 (c.next_event.ensures.same_parts ∙ same)

pub returns-then-is_quiet-clause-goes_on : goal.returns-then-is_quiet-clause-goes_on
returns-then-is_quiet-clause-goes_on g c =
    let first = c.args.self.now in
    let before = c.loop-rest.self in
    let layout = layout_of first.plan in
    goes_on_so_far layout (works_of g.W.Runs.meaning layout) c.args.limit c.loop-rest.rest first.parts before.parts before.parts
    c.loop-rest.invariant.2 c.loop-rest.invariant.3 refl

pub returns-else-is_quiet-clause-goes_on : goal.returns-else-is_quiet-clause-goes_on
returns-else-is_quiet-clause-goes_on g c =
    let first = c.args.self.now in
    let before = c.loop-rest.self in
    let layout = layout_of first.plan in
    goes_on_so_far layout (works_of g.W.Runs.meaning layout) c.args.limit c.loop-rest.rest first.parts before.parts before.parts
    c.loop-rest.invariant.2 c.loop-rest.invariant.3 refl
