use Rattle.std.proofs.Common.{rules, ◌≡◌, sym, subst}
use Rattle.flow_link.specs.declared.phase.Move.{Move}
use Rattle.flow_link.specs.declared.phase.Move.TheVariants.{Open}
use Rattle.flow_task.specs.Turns.{MovesIn}
use Rattle.flow_task.proofs.task.BlockTask.move_in.Goals as goal

pub returns-then-eq-clause-moved : goal.returns-then-eq-clause-moved
returns-then-eq-clause-moved g c =
    let opens : c.args.next ≡ Open = search rules in
    λ moved. subst (λ (next : Move). MovesIn c.args.port c.args.place next c.args.self.now.node c.open.new.self.node) (sym opens)
    c.open.ensures.opened
