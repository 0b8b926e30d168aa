use Rattle.std.proofs.Common.{rules, ◌≡◌, true}
use Rattle.std.specs.List.{list_all}
use Rattle.std.proofs.lemmas.Result.{IfOk-weaker}
use Rattle.flow_lane.specs.BlockLanes.{has_room}
use Rattle.flow_task.proofs.LanesStayOut.{free_stays}
use Rattle.flow_task.proofs.task.BlockTask.end_in_place.Goals as goal

pub returns-clause-still : goal.returns-clause-still
returns-clause-still g c = IfOk-weaker c.end_once.result _ _ (λ did done not free. done not) c.end_once.ensures.still

pub returns-clause-out : goal.returns-clause-out
returns-clause-out g c =
    let free : list_all has_room c.args.lanes.now.sides ≡ true = search rules in
    free_stays c.args.self.now.node c.end_once.new.self.node c.args.lanes.now free
