use Rattle.std.proofs.Common.{◌≡◌, true, sym, ◌∙◌}
use Rattle.std.proofs.lemmas.Grind.{merely}
use Rattle.flow_link.specs.declared.phase.Move.{Move}
use Rattle.flow_intake.specs.Port.{stage_at}
use Rattle.flow_block.specs.Block.{port_at}
use Rattle.flow_block.specs.Node.{next_in}
use Rattle.flow_task.specs.Events.{BlockEvent}
use Rattle.flow_task.specs.Misses.{InMissed}
use Rattle.flow_task.specs.Tasks.{makes_of}
use Rattle.flow_task.specs.Turns.{MovesIn}
use Rattle.flow_task.specs.Words.{may_be_forestalled}
use Rattle.flow_task.proofs.TurnsHappen.{moved_does}
use Rattle.flow_task.proofs.TurnsStill.{missed}
use Rattle.flow_task.proofs.task.BlockTask.try_in.Goals as goal

pub returns-in-Some-clause-does : goal.returns-in-Some-clause-does
returns-in-Some-clause-does g c =
    let s = c.args.self.now in
    let next = c.in-Some.next in
    let new = c.move_in.new.self.node in
    moved_does (makes_of g.W.Runs.meaning s) (MovesIn c.args.port c.args.place next s.node new) c.move_in.result s.node new
    (λ moves.
    merely (
      BlockEvent.move_in c.args.port c.args.place next,
      record {
        comes = record { is_there = (c.requires.port, c.requires.there); found_is = sym c.next_in.ensures ∙ c.in-Some.is };
        leaves = moves;
      },
    ))
    c.move_in.ensures.moved c.move_in.ensures.missed c.move_in.ensures.kept

pub returns-in-Some-clause-still : goal.returns-in-Some-clause-still
returns-in-Some-clause-still g c =
    let node = c.args.self.now.node in
    missed c.move_in.result (next_in c.args.port c.args.place node) c.in-Some.next
    (λ (next : Move). may_be_forestalled next (stage_at c.args.place (port_at c.args.port node.block)) ≡ true)
    (InMissed c.move_in.new.self.ins.items c.args.port c.args.place) (sym c.next_in.ensures ∙ c.in-Some.is) c.move_in.ensures.late
    c.move_in.ensures.tried
