use Rattle.flow_crew.proofs.Journals.{turned_in}
use Rattle.flow_crew.proofs.item.Item.turn.Goals as goal

pub invariant_of-self : goal.invariant_of-self
invariant_of-self g c =
    turned_in g.J.Round.board g.J.Round.came c.self.inside.task c.turn_through.new.self c.turn_through.ensures.of
    c.turn_through.ensures.number c.turn_through.ensures.extends c.self.invariant
