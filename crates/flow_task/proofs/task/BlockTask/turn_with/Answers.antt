use Rattle.std.proofs.Common.{ℕ, ◌-◌, false, refl, sym, ap₂}
use Rattle.flow_link.specs.Planned.{layout_of}
use Rattle.flow_block.specs.Planned.{block_makes}
use Rattle.flow_exec.specs.Works.{works_of}
use Rattle.flow_task.specs.declared.board.Board.{Board}
use Rattle.flow_poll.proofs.EachGoes.{extends_further}
use Rattle.flow_task.specs.Tasks.{makes_of}
use Rattle.flow_task.proofs.JobsStayOut.{looked_out, turned_out}
use Rattle.flow_task.proofs.LanedTurns.{idle_turn, rest_then, turned_then}
use Rattle.flow_task.proofs.LanesStayOut.{only_end_out, turn_stays, works_where}
use Rattle.flow_task.proofs.Spends.{spends_so}
use Rattle.flow_task.proofs.task.BlockTask.turn_with.Goals as goal

pub returns-then-left-budget-clause-looked : goal.returns-then-left-budget-clause-looked
returns-then-left-budget-clause-looked g c =
    let s = c.args.self.now in
    let t = c.turn.new.self in
    idle_turn false (makes_of g.W.Runs.meaning s) (makes_of g.W.Runs.meaning t) c.args.budget c.in_ok-turned.turned.events c.use_lanes.new.left
    s.node t.node c.use_lanes.new.self.node c.in_ok-turned.ensures.within c.if-left-budget.true c.in_ok-turned.ensures.happens
    c.use_lanes.ensures.spends

pub returns-in-Ok-clause-extends : goal.returns-in-Ok-clause-extends
returns-in-Ok-clause-extends g c =
    extends_further c.args.self.now.node.journal c.turn.new.self.node.journal c.use_lanes.new.self.node.journal c.in_ok-turned.ensures.extends
    c.use_lanes.ensures.spends.grows

pub returns-in-Ok-clause-happens : goal.returns-in-Ok-clause-happens
returns-in-Ok-clause-happens g c =
    let s = c.args.self.now in
    let t = c.turn.new.self in
    let new = c.use_lanes.new.self.node in
    let left = c.use_lanes.new.left in
    let events = c.in_ok-turned.turned.events in
    let makes = (λ (board : Board _) (n : ℕ). block_makes (layout_of board.rest.plan) (works_of g.W.Runs.meaning (layout_of board.rest.plan)) n) in
    turned_then (makes s.of.value s.number) c.args.budget events left _ s.node t.node new c.in_ok-turned.ensures.within c.end_lanes.ensures.events
    c.in_ok-turned.ensures.happens
    (spends_so (c.args.budget - events) left t.node new (ap₂ makes c.turn.ensures.of c.turn.ensures.number) c.use_lanes.ensures.spends)

pub returns-else-left-budget-clause-extends : goal.returns-else-left-budget-clause-extends
returns-else-left-budget-clause-extends g c =
    extends_further c.args.self.now.node.journal c.turn.new.self.node.journal c.use_lanes.new.self.node.journal c.in_ok-turned.ensures.extends
    c.use_lanes.ensures.spends.grows

pub returns-else-left-budget-clause-happens : goal.returns-else-left-budget-clause-happens
returns-else-left-budget-clause-happens g c =
    let s = c.args.self.now in
    let t = c.turn.new.self in
    let new = c.use_lanes.new.self.node in
    let left = c.use_lanes.new.left in
    let events = c.in_ok-turned.turned.events in
    let makes = (λ (board : Board _) (n : ℕ). block_makes (layout_of board.rest.plan) (works_of g.W.Runs.meaning (layout_of board.rest.plan)) n) in
    turned_then (makes s.of.value s.number) c.args.budget events left _ s.node t.node new c.in_ok-turned.ensures.within refl
    c.in_ok-turned.ensures.happens
    (spends_so (c.args.budget - events) left t.node new (ap₂ makes c.turn.ensures.of c.turn.ensures.number) c.use_lanes.ensures.spends)

pub returns-in-Ok-clause-rests : goal.returns-in-Ok-clause-rests
returns-in-Ok-clause-rests g c =
    let t = c.turn.new.self in
    let last = c.use_lanes.new.self in
    let makes = (λ (board : Board _) (n : ℕ). block_makes (layout_of board.rest.plan) (works_of g.W.Runs.meaning (layout_of board.rest.plan)) n) in
    rest_then (makes last.of.value last.number) (makes t.of.value t.number) _ c.args.budget c.in_ok-turned.turned.events c.use_lanes.new.left _
    t.node last.node _ c.in_ok-turned.turned.state t.note.known c.use_lanes.new.lanes c.end_lanes.new.lanes
    (sym (ap₂ makes c.use_lanes.ensures.of c.use_lanes.ensures.number)) c.in_ok-turned.ensures.within c.end_lanes.ensures.events
    c.use_lanes.ensures.spends c.in_ok-turned.ensures.state c.in-Ok.ensures.rests c.end_lanes.ensures.lanes

pub returns-in_err-turned-clause-out : goal.returns-in_err-turned-clause-out
returns-in_err-turned-clause-out g c = λ all.
    let s = c.args.self.now in
    let t = c.turn.new.self in
    let layout = layout_of s.of.value.rest.plan in
    let works = works_where layout (works_of g.W.Runs.meaning layout) s.number s.node s.law in
    turn_stays s.node t.node c.args.lanes.now works (looked_out s.node t.node c.in_err-turned.ensures.looked) all

pub returns-in-Ok-clause-out : goal.returns-in-Ok-clause-out
returns-in-Ok-clause-out g c = λ all.
    let s = c.args.self.now in
    let t = c.turn.new.self in
    let layout = layout_of s.of.value.rest.plan in
    let works = works_where layout (works_of g.W.Runs.meaning layout) s.number s.node s.law in
    only_end_out c.use_lanes.new.self.node c.use_lanes.new.lanes c.end_lanes.new.lanes c.end_lanes.ensures.only
    (c.use_lanes.ensures.out
    (turn_stays s.node t.node c.args.lanes.now works
    (turned_out _ c.in_ok-turned.turned.events s.node t.node c.in_ok-turned.ensures.happens) all))

pub returns-then-left-budget-clause-out : goal.returns-then-left-budget-clause-out
returns-then-left-budget-clause-out g c = λ all.
    let s = c.args.self.now in
    let t = c.turn.new.self in
    let layout = layout_of s.of.value.rest.plan in
    let works = works_where layout (works_of g.W.Runs.meaning layout) s.number s.node s.law in
    c.use_lanes.ensures.out
    (turn_stays s.node t.node c.args.lanes.now works
    (turned_out _ c.in_ok-turned.turned.events s.node t.node c.in_ok-turned.ensures.happens) all)

pub returns-else-left-budget-clause-out : goal.returns-else-left-budget-clause-out
returns-else-left-budget-clause-out g c = λ all.
    let s = c.args.self.now in
    let t = c.turn.new.self in
    let layout = layout_of s.of.value.rest.plan in
    let works = works_where layout (works_of g.W.Runs.meaning layout) s.number s.node s.law in
    c.use_lanes.ensures.out
    (turn_stays s.node t.node c.args.lanes.now works
    (turned_out _ c.in_ok-turned.turned.events s.node t.node c.in_ok-turned.ensures.happens) all)
