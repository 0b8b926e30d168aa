use Rattle.std.proofs.Common.{rules, ◌≡◌, true, false, Bool, Result, Ok, refl, sym, ◌∙◌, subst, arith}
use Rattle.std.specs.declared.alloc.AllocError.{AllocError}
use Rattle.std.proofs.lemmas.Grind.{merely}
use Rattle.flow_link.specs.declared.phase.Move.{Move}
use Rattle.flow_intake.specs.Port.{stage_at}
use Rattle.flow_block.specs.Block.{port_at}
use Rattle.flow_block.specs.Node.{next_in}
use Rattle.flow_task.specs.Events.{BlockEvent, Does}
use Rattle.flow_task.specs.Misses.{InMissed}
use Rattle.flow_task.specs.Tasks.{makes_of}
use Rattle.flow_task.specs.Turns.{MovesIn}
use Rattle.flow_task.specs.Words.{may_be_forestalled}
use Rattle.flow_task.proofs.Spends.{spends_did, spends_none, spends_not}
use Rattle.flow_task.proofs.TurnsHappen.{moved_does}
use Rattle.flow_task.proofs.TurnsStill.{missed}
use Rattle.flow_task.proofs.task.BlockTask.move_in_once.Goals as goal

pub returns-in_err-move_in-in-Some : goal.returns-in_err-move_in-in-Some
returns-in_err-move_in-in-Some g c = record {
  of = c.move_in.ensures.of;
  number = c.move_in.ensures.number;
  spends = spends_none _ c.args.left.now c.args.self.now.node c.move_in.new.self.node c.in_err-move_in-in-Some.ensures.kept;
  still = search rules;
  others = search rules;
}

pub returns-in-None-clause-spends : goal.returns-in-None-clause-spends
returns-in-None-clause-spends g c = spends_none _ c.args.left.now c.args.self.now.node c.args.self.now.node refl

pub returns-then-branch : goal.returns-then-branch
returns-then-branch g c =
    let s = c.args.self.now in
    let old = s.node in
    let new = c.move_in.new.self.node in
    let next = c.in-Some.next in
    let said = c.move_in.ensures in
    let does = moved_does (makes_of g.W.Runs.meaning s) (MovesIn c.args.port c.args.place next old new) c.move_in.result old new
    (λ moves.
    merely (
      BlockEvent.move_in c.args.port c.args.place next,
      record {
        comes = record { is_there = (c.requires.port, c.requires.there); found_is = sym c.next_in.ensures ∙ c.in-Some.is };
        leaves = moves;
      },
    ))
    said.moved said.missed said.kept in
    record {
      of = said.of;
      number = said.number;
      spends = spends_did (makes_of g.W.Runs.meaning s) c.args.left.now c.in_ok-move_in-in-Some.field-0 old new c.requires.left c.if-branch.true
          (subst (λ (r : Result Bool AllocError). Does false (makes_of g.W.Runs.meaning s) r old new) c.in_ok-move_in-in-Some.was does);
      still = λ as_many. absurd (omega (arith, as_many, c.requires.left));
      others = λ as_many. absurd (omega (arith, as_many, c.requires.left));
    }

pub returns-else-branch : goal.returns-else-branch
returns-else-branch g c =
    let s = c.args.self.now in
    let old = s.node in
    let new = c.move_in.new.self.node in
    let next = c.in-Some.next in
    let said = c.move_in.ensures in
    let does = moved_does (makes_of g.W.Runs.meaning s) (MovesIn c.args.port c.args.place next old new) c.move_in.result old new
    (λ moves.
    merely (
      BlockEvent.move_in c.args.port c.args.place next,
      record {
        comes = record { is_there = (c.requires.port, c.requires.there); found_is = sym c.next_in.ensures ∙ c.in-Some.is };
        leaves = moves;
      },
    ))
    said.moved said.missed said.kept in
    record {
      of = said.of;
      number = said.number;
      spends = spends_not (makes_of g.W.Runs.meaning s) c.args.left.now c.in_ok-move_in-in-Some.field-0 old new c.if-branch.false
          (subst (λ (r : Result Bool AllocError). Does false (makes_of g.W.Runs.meaning s) r old new) c.in_ok-move_in-in-Some.was does);
      still = λ as_many.
          missed (Ok c.in_ok-move_in-in-Some.field-0) (next_in c.args.port c.args.place old) c.in-Some.next
          (λ (next : Move). may_be_forestalled next (stage_at c.args.place (port_at c.args.port old.block)) ≡ true)
          (InMissed c.move_in.new.self.ins.items c.args.port c.args.place) (sym c.next_in.ensures ∙ c.in-Some.is)
          c.in_ok-move_in-in-Some.ensures.late c.in_ok-move_in-in-Some.ensures.tried c.if-branch.false;
      others = λ as_many. c.in_ok-move_in-in-Some.ensures.others c.if-branch.false;
    }
