use Rattle.std.proofs.Common.{rules, ◌≡◌, ◌<◌, length, arith, refl, subst, sym}
use Rattle.flow_link.specs.declared.phase.Move.TheVariants.{Offer}
use Rattle.flow_link.specs.declared.plan.Plan.{Plan}
use Rattle.flow_link.specs.Planned.{layout_of}
use Rattle.flow_core.specs.Events.{NetEvent}
use Rattle.flow_exec.specs.Works.{works_of}
use Rattle.flow_net.specs.Happened.{Happened}
use Rattle.flow_net.specs.declared.due.Due.TheVariants.{Link}
use Rattle.flow_net.proofs.EventsCount.{one_more_event}
use Rattle.flow_net.proofs.KeptOn.{kept_by_plan}
use Rattle.flow_net.proofs.PassesCount.{found_due}
use Rattle.flow_net.proofs.RunsGoOn.{happened_by_plan}
use Rattle.flow_net.proofs.BlocksTell.{enabled_as, node_there}
use Rattle.flow_net.proofs.engine.Engine.advance.Goals as goal

pub pass-requires-clause-due : goal.pass-requires-clause-due
pass-requires-clause-due g c =
    let net = c.args.self.now in
    let layout = layout_of net.plan in
    let found = c.in-Link-default-Offer in
    let is : c.args.event.now ≡ Link found.id (Offer found.field-1-0) = search rules in
    found_due layout net.parts found.id (works_of g.W.Runs.meaning layout) c.args.event.now found.field-1-0 is c.requires.due

pub work_run-requires-clause-kept : goal.work_run-requires-clause-kept
work_run-requires-clause-kept g c =
    let start = c.args.self.now in
    let layout = layout_of start.plan in
    let mid = c.make.new.self in
    let one : Happened layout (works_of g.W.Runs.meaning layout) 1 start.parts mid.parts =
    one_more_event layout (works_of g.W.Runs.meaning layout) 0 start.parts start.parts mid.parts (NetEvent.make c.in-Make.number) refl
    c.in_ok-make.ensures.may c.in_ok-make.ensures.done in
    kept_by_plan g.W.Runs.meaning start.plan mid.plan 1 start.parts mid.parts c.make.ensures.same_plan one c.requires.kept

pub returns-then-copy_count-gt0-clause-happened : goal.returns-then-copy_count-gt0-clause-happened
returns-then-copy_count-gt0-clause-happened g c =
    let start = c.args.self.now in
    let layout = layout_of start.plan in
    let mid = c.make.new.self in
    let one : Happened layout (works_of g.W.Runs.meaning layout) 1 start.parts mid.parts =
    one_more_event layout (works_of g.W.Runs.meaning layout) 0 start.parts start.parts mid.parts (NetEvent.make c.in-Make.number) refl
    c.in_ok-make.ensures.may c.in_ok-make.ensures.done in
    happened_by_plan g.W.Runs.meaning start.plan mid.plan c.make.ensures.same_plan 1 1 start.parts mid.parts
    c.work_run.new.self.parts (omega arith) one c.work_run.result c.work_run.ensures.happened

pub go_on_working-requires-clause-kept : goal.go_on_working-requires-clause-kept
go_on_working-requires-clause-kept g c =
    let start = c.args.self.now in
    let mid = c.work_at_once.new.self in
    kept_by_plan g.W.Runs.meaning start.plan mid.plan 2 start.parts mid.parts c.work_at_once.ensures.same_plan
    (c.in_ok-work_at_once.ensures.worked c.if-branch.true) c.requires.kept

pub returns-then-branch-clause-happened : goal.returns-then-branch-clause-happened
returns-then-branch-clause-happened g c =
    let start = c.args.self.now in
    let mid = c.work_at_once.new.self in
    happened_by_plan g.W.Runs.meaning start.plan mid.plan c.work_at_once.ensures.same_plan 2 2 start.parts mid.parts
    c.go_on_working.new.self.parts (omega arith) (c.in_ok-work_at_once.ensures.worked c.if-branch.true)
    c.go_on_working.result c.go_on_working.ensures.happened

pub node-requires : goal.node-requires
node-requires g c =
    let net = c.args.self.now in
    node_there g.W.Runs.meaning net.plan net.parts c.requires.kept c.in-Begin.number
    (enabled_as (layout_of net.plan) net.parts c.in-Begin.is c.requires.due.enabled).there

pub make-requires-clause-enabled : goal.make-requires-clause-enabled
make-requires-clause-enabled g c =
    enabled_as (layout_of c.args.self.now.plan) c.args.self.now.parts c.in-Make.is c.requires.due.enabled

pub work_at_once-requires-clause-enabled : goal.work_at_once-requires-clause-enabled
work_at_once-requires-clause-enabled g c =
    enabled_as (layout_of c.args.self.now.plan) c.args.self.now.parts c.in-Begin.is c.requires.due.enabled

pub work_run-requires-clause-known : goal.work_run-requires-clause-known
work_run-requires-clause-known g c =
    let net = c.args.self.now in
    subst (λ (plan : Plan _). c.in-Make.number < length (layout_of plan).blocks) (sym c.make.ensures.same_plan)
    (enabled_as (layout_of net.plan) net.parts c.in-Make.is c.requires.due.enabled).there

pub go_on_working-requires-clause-known : goal.go_on_working-requires-clause-known
go_on_working-requires-clause-known g c =
    let net = c.args.self.now in
    subst (λ (plan : Plan _). c.in-Begin.number < length (layout_of plan).blocks) (sym c.work_at_once.ensures.same_plan)
    (enabled_as (layout_of net.plan) net.parts c.in-Begin.is c.requires.due.enabled).there
