use Rattle.flow_crew.proofs.ComesBack.{back_at_once}
use Rattle.flow_open.proofs.Each.{each_sends_none, each_takes_none}
use Rattle.flow_open.proofs.open.run_parts.Goals as goal

pub returns-then-not-are_matched-clause-tasks_back : goal.returns-then-not-are_matched-clause-tasks_back
returns-then-not-are_matched-clause-tasks_back g c = back_at_once _ _ c.requires.tasks_of

pub returns-then-not-are_matched-clause-sends : goal.returns-then-not-are_matched-clause-sends
returns-then-not-are_matched-clause-sends g c = each_sends_none _ _ _

pub returns-then-not-are_matched-clause-takes : goal.returns-then-not-are_matched-clause-takes
returns-then-not-are_matched-clause-takes g c = each_takes_none _ _ _
