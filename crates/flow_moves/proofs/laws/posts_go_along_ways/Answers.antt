use Rattle.flow_moves.proofs.PostsGoAlong.{posts_go_along}
use Rattle.flow_moves.proofs.laws.posts_go_along_ways.Goals as goal

pub returns : goal.returns
returns g c = posts_go_along
