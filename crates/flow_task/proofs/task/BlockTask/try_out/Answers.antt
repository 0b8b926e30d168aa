use Rattle.std.proofs.Common.{◌≡◌, true, sym, ◌∙◌}
use Rattle.std.proofs.lemmas.Grind.{merely}
use Rattle.flow_link.specs.declared.phase.Move.{Move}
use Rattle.flow_block_law.specs.NextMoves.{next_source}
use Rattle.flow_core.specs.Events.{source_call}
use Rattle.flow_moves.specs.Calls.{Calls}
use Rattle.flow_task.specs.Events.{BlockEvent}
use Rattle.flow_task.specs.Misses.{OutMissed}
use Rattle.flow_task.specs.Tasks.{makes_of}
use Rattle.flow_task.specs.Words.{is_withdrawal}
use Rattle.flow_task.proofs.TurnsHappen.{moved_does}
use Rattle.flow_task.proofs.TurnsStill.{missed}
use Rattle.flow_task.proofs.task.BlockTask.try_out.Goals as goal

pub returns-in-Some-clause-does : goal.returns-in-Some-clause-does
returns-in-Some-clause-does g c =
    let s = c.args.self.now in
    let node = s.node in
    let next = c.in-Some.next in
    let new = c.move_out.new.self.node in
    moved_does (makes_of g.W.Runs.meaning s) (Calls (source_call node.block.kind c.args.place next) node new) c.move_out.result node new
    (λ calls.
    merely (
      BlockEvent.move_out c.args.place next,
      record {
        comes = record { is_there = c.requires.there; found_is = sym c.next_of_exit.ensures ∙ c.in-Some.is };
        leaves = calls;
      },
    ))
    c.move_out.ensures.moved c.move_out.ensures.missed c.move_out.ensures.kept

pub returns-in-Some-clause-still : goal.returns-in-Some-clause-still
returns-in-Some-clause-still g c =
    missed c.move_out.result (next_source c.args.place c.args.self.now.node) c.in-Some.next
    (λ (next : Move). is_withdrawal next ≡ true) (OutMissed c.move_out.new.self.outs.items c.args.place)
    (sym c.next_of_exit.ensures ∙ c.in-Some.is) c.move_out.ensures.late c.move_out.ensures.tried
