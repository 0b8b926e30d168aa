use Rattle.std.proofs.Common.{rules, ◌≡◌, ◌∙◌, Bool}
use Rattle.std.specs.List.{count_by}
use Rattle.flow_task.proofs.OpenCounts.{count_places}
use Rattle.flow_task.proofs.board.Board.open_count.Goals as goal

pub returns : goal.returns
returns g c =
    let counted : c.count.result ≡ count_by (λ (x : Bool). x) c.args.self.now.opens.items = search rules in
    counted ∙ count_places (λ (x : Bool). x) c.args.self.now.opens.items
