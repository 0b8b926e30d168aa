use Rattle.flow_crew.proofs.ComesBack.{comes_back, if_err, if_ok}
use Rattle.flow_crew.proofs.Journals.{all_enter}
use Rattle.flow_crew.proofs.round.turn_for.Goals as goal

pub turn_in-requires-clause-in_round : goal.turn_in-requires-clause-in_round
turn_in-requires-clause-in_round g c κs within = all_enter c.args.board.now c.args.tasks.items c.requires.of

pub returns-clause-back : goal.returns-clause-back
returns-clause-back g c =
    if_ok _ _ (λ r is. comes_back c.args.board.now c.args.tasks.items r.0.items is.0 is.1) c.turn_in.result c.turn_in.ensures.back

pub returns-clause-refused : goal.returns-clause-refused
returns-clause-refused g c =
    if_err _ _ (λ r is. comes_back c.args.board.now c.args.tasks.items r.0.items is.0 is.1) c.turn_in.result c.turn_in.ensures.refused
