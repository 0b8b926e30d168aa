use Rattle.flow_block_law.proofs.ViewsMove.{calls_move_views}
use Rattle.flow_block_law.proofs.laws.calls_move_views.Goals as goal

pub returns : goal.returns
returns g c = calls_move_views _
