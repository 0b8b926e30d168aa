use Rattle.std.proofs.Common.{ℕ, sym, subst}
use Rattle.std.proofs.Math.Logic.{∥∥₁_elim, ∥∥₁_map, ∥∥₁_prop}
use Rattle.flow_poll.specs.Turns.{Extends}
use Rattle.flow_poll.proofs.EachGoes.{extends_further}
use Rattle.flow_input.specs.InputKeeps.{PostedStays}
use Rattle.flow_poll.specs.declared.actor.Turned.{Turned}
use Rattle.flow_task.specs.Begun.{begun_input, begun_journal}
use Rattle.flow_task.specs.Kinds.{BeginsBy}
use Rattle.flow_task.specs.declared.board.Board.{Board}
use Rattle.flow_task.specs.declared.numbered.Kind.{Kind}
use Rattle.flow_task.proofs.InputsStayed.{stays_done}
use Rattle.flow_task.proofs.LanedTurns.{told_both}
use Rattle.flow_task.proofs.numbered.Task.turn_through.Goals as goal

pub invariant_of-self-clause-begins : goal.invariant_of-self-clause-begins
invariant_of-self-clause-begins g c =
    let old = c.in-Block.task.block in
    let new = c.turn.new.self.block in
    let before = subst (λ (kind : Kind _ _ _). ∥ BeginsBy kind ∥₁) c.in-Block.is c.args.self.now.begins in
    ∥∥₁_map before (λ begins.
    subst (λ (board : Board _). Extends (begun_journal board new.number) new.node.journal) (sym c.turn.ensures.of)
    (subst (λ (n : ℕ). Extends (begun_journal old.of.value n) new.node.journal) (sym c.turn.ensures.number)
    (extends_further (begun_journal old.of.value old.number) old.node.journal new.node.journal begins c.turn.ensures.extends)))

pub invariant_of-self-in-Input-clause-begins : goal.invariant_of-self-in-Input-clause-begins
invariant_of-self-in-Input-clause-begins g c =
    let old = c.in-Input.task in
    let new = c.turn-in-Input.new.self in
    let before = subst (λ (kind : Kind _ _ _). ∥ BeginsBy kind ∥₁) c.in-Input.is c.args.self.now.begins in
    ∥∥₁_elim before ∥∥₁_prop (λ begins.
    subst (λ (board : Board _). ∥ PostedStays (begun_input board new.link) new.input ∥₁) (sym c.turn-in-Input.ensures.of)
    (subst (λ (l : ℕ). ∥ PostedStays (begun_input old.of.value l) new.input ∥₁) (sym c.turn-in-Input.ensures.link)
    (stays_done c.turn-in-Input.result (begun_input old.of.value old.link) old.input new.input begins c.turn-in-Input.ensures.happens
    c.turn-in-Input.ensures.looked)))

pub returns-in-Block-clause-still : goal.returns-in-Block-clause-still
returns-in-Block-clause-still g c =
    told_both c.args.budget (λ (turned : Turned). turned.events) _ _ c.turn.result c.turn.ensures.still c.turn.ensures.rests
