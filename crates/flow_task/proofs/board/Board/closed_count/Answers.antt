use Rattle.std.proofs.Common.{rules, ◌≡◌, ◌∙◌, not}
use Rattle.std.specs.List.{count_by}
use Rattle.flow_task.proofs.OpenCounts.{count_places}
use Rattle.flow_task.proofs.board.Board.closed_count.Goals as goal

pub returns : goal.returns
returns g c =
    let counted : c.count.result ≡ count_by not c.args.self.now.opens.items = search rules in
    counted ∙ count_places not c.args.self.now.opens.items
