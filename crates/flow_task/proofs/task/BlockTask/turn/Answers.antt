use Rattle.std.proofs.Common.{◌≡◌, ℕ, ◌-◌, ap₂, sym, ◌∙◌, subst, arith}
use Rattle.std.proofs.lemmas.Result.{IfOk-weaker}
use Rattle.std.proofs.lemmas.Grind.{merely}
use Rattle.flow_link.specs.Planned.{layout_of}
use Rattle.flow_block.specs.Node.{NodeState}
use Rattle.flow_block.specs.Planned.{block_makes}
use Rattle.flow_exec.specs.Works.{works_of}
use Rattle.flow_task.specs.Events.{AllLook, HasEvent, TurnsBy}
use Rattle.flow_task.specs.declared.board.Board.{Board}
use Rattle.flow_task.proofs.Spends.{spends_so, turn_happens, where_failed}
use Rattle.flow_task.proofs.TurnsHappen.{one_look}
use Rattle.flow_task.proofs.task.BlockTask.turn.Goals as goal

pub returns-then-left-budget-clause-looked : goal.returns-then-left-budget-clause-looked
returns-then-left-budget-clause-looked g c =
    let s = c.args.self.now in
    let t = c.look_outs.new.self in
    let new = c.go_round.new.self.node in
    let looked : AllLook s.node t.node = record {
      mid = c.look_ins.new.self.node;
      ins = c.look_ins.ensures.looked;
      outs = c.look_outs.ensures.looked;
    } in
    merely (one_look AllLook s.node new
    (subst (λ (node : NodeState). AllLook s.node node) (sym (c.go_round.ensures.spends.kept c.if-left-budget.true)) looked))

pub returns-in-Ok-clause-happens : goal.returns-in-Ok-clause-happens
returns-in-Ok-clause-happens g c =
    let s = c.args.self.now in
    let t = c.look_outs.new.self in
    let new = c.go_round.new.self.node in
    let looked : AllLook s.node t.node = record {
      mid = c.look_ins.new.self.node;
      ins = c.look_ins.ensures.looked;
      outs = c.look_outs.ensures.looked;
    } in
    let makes = (λ (board : Board _) (n : ℕ). block_makes (layout_of board.rest.plan) (works_of g.W.Runs.meaning (layout_of board.rest.plan)) n) in
    let here = makes s.of.value s.number in
    let spent = spends_so c.args.budget c.go_round.new.left t.node new
    (ap₂ makes (c.look_outs.ensures.of ∙ c.look_ins.ensures.of) (c.look_outs.ensures.number ∙ c.look_ins.ensures.number)) c.go_round.ensures.spends in
    let end = c.end_turn.new.self.node in
    let left = c.args.budget - c.go_round.new.left in
    let done = subst (λ (node : NodeState). ∥ TurnsBy AllLook (HasEvent c.args.policy.now.in_place here) left s.node node ∥₁) (sym c.end_turn.ensures.node)
    (turn_happens here c.args.budget c.go_round.new.left s.node t.node new looked spent) in
    IfOk-weaker c.end_turn.result (λ turned. turned.events ≡ left) (λ turned. ∥ TurnsBy AllLook (HasEvent c.args.policy.now.in_place here) turned.events s.node end ∥₁)
    (λ turned is. subst (λ (n : ℕ). ∥ TurnsBy AllLook (HasEvent c.args.policy.now.in_place here) n s.node end ∥₁) (sym is) done)
    c.end_turn.ensures.events

pub returns-else-left-budget-clause-happens : goal.returns-else-left-budget-clause-happens
returns-else-left-budget-clause-happens g c =
    let s = c.args.self.now in
    let t = c.look_outs.new.self in
    let new = c.go_round.new.self.node in
    let looked : AllLook s.node t.node = record {
      mid = c.look_ins.new.self.node;
      ins = c.look_ins.ensures.looked;
      outs = c.look_outs.ensures.looked;
    } in
    let makes = (λ (board : Board _) (n : ℕ). block_makes (layout_of board.rest.plan) (works_of g.W.Runs.meaning (layout_of board.rest.plan)) n) in
    let here = makes s.of.value s.number in
    let spent = spends_so c.args.budget c.go_round.new.left t.node new
    (ap₂ makes (c.look_outs.ensures.of ∙ c.look_ins.ensures.of) (c.look_outs.ensures.number ∙ c.look_ins.ensures.number)) c.go_round.ensures.spends in
    subst (λ (n : ℕ). ∥ TurnsBy AllLook (HasEvent c.args.policy.now.in_place here) n s.node new ∥₁) (sym c.turned.ensures.events)
    (turn_happens here c.args.budget c.go_round.new.left s.node t.node new looked spent)

pub returns-in-Ok-clause-looked : goal.returns-in-Ok-clause-looked
returns-in-Ok-clause-looked g c =
    let s = c.args.self.now in
    let t = c.look_outs.new.self in
    let end = c.end_turn.new.self.node in
    let spent = c.go_round.ensures.spends in
    let looked : AllLook s.node t.node = record {
      mid = c.look_ins.new.self.node;
      ins = c.look_ins.ensures.looked;
      outs = c.look_outs.ensures.looked;
    } in
    where_failed c.end_turn.result
    (λ none.
    merely (one_look AllLook s.node end
    (subst (λ (node : NodeState). AllLook s.node node)
    (sym (c.end_turn.ensures.node ∙ spent.kept (omega (arith, none, spent.less)))) looked)))
    c.end_turn.ensures.none
