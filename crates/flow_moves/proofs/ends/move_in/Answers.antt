use Rattle.std.proofs.Common.{refl, ap, sym, subst, ◌∙◌}
use Rattle.flow_link.specs.declared.phase.Move.{Move}
use Rattle.flow_core.specs.Events.{in_call}
use Rattle.flow_moves.specs.Calls.{called}
use Rattle.flow_intake.specs.Calls.{wants, postpones}
use Rattle.flow_moves.specs.Ready.{InIsReady}
use Rattle.flow_moves.proofs.MovesPrepared.{prepared_then}
use Rattle.flow_moves.proofs.ends.move_in.Goals as goal

pub returns-in_ok-prepare_answer-in-Want-clause-done : goal.returns-in_ok-prepare_answer-in-Want-clause-done
returns-in_ok-prepare_answer-in-Want-clause-done c = λ result.
    prepared_then c.args.port (wants c.args.place) c.args.node.now c.prepare_answer.new.self c.want.new.self
    (subst (λ (next : Move). InIsReady c.args.port c.args.place c.args.slot.now next c.args.node.now) c.in-Want.is c.requires).0.port
    (λ port. refl) c.in_ok-prepare_answer-in-Want.ensures.done c.want.ensures
    ∙ ap (λ (next : Move). called result (in_call c.args.port c.args.place c.args.slot.now next) c.args.node.now) (sym c.in-Want.is)

pub returns-in_ok-prepare_answer-in-Postpone-clause-done : goal.returns-in_ok-prepare_answer-in-Postpone-clause-done
returns-in_ok-prepare_answer-in-Postpone-clause-done c = λ result.
    prepared_then c.args.port (postpones c.args.place) c.args.node.now c.prepare_answer-in-Postpone.new.self c.postpone.new.self
    (subst (λ (next : Move). InIsReady c.args.port c.args.place c.args.slot.now next c.args.node.now) c.in-Postpone.is c.requires).port
    (λ port. refl) c.in_ok-prepare_answer-in-Postpone.ensures.done c.postpone.ensures
    ∙ ap (λ (next : Move). called result (in_call c.args.port c.args.place c.args.slot.now next) c.args.node.now) (sym c.in-Postpone.is)
