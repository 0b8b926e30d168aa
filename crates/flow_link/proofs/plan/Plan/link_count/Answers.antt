use Rattle.std.proofs.Common.{arith}
use Rattle.flow_link.proofs.PortsAreFew.{few_links}
use Rattle.flow_link.proofs.plan.Plan.link_count.Goals as goal

pub overflow_cast-result : goal.overflow_cast-result
overflow_cast-result g c =
    let few = few_links c.args.self.now.blocks.items c.args.self.now.links.items c.args.self.now.well_formed c.args.self.now.laid_out in
    omega (arith, few, c.len.ensures, c.args.self.now.links.ok)
