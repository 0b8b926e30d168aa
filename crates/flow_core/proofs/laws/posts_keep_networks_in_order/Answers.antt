use Rattle.flow_core.proofs.NetworksInOrder.{all_posts_keep}
use Rattle.flow_core.proofs.laws.posts_keep_networks_in_order.Goals as goal

pub returns : goal.returns
returns g c = all_posts_keep _
