use Rattle.std.proofs.Common.{◌∙◌, sym, arith}
use Rattle.flow_link.proofs.FirstInOrder.{any_is_some}
use Rattle.flow_link.specs.Heights.{rises}
use Rattle.flow_link.proofs.DownEachLink.{walks_none}
use Rattle.flow_link.proofs.heights.has_descent.Goals as goal

pub returns-then-not-some_rises : goal.returns-then-not-some_rises
returns-then-not-some_rises c = λ found steps block.
    let heights = c.loop-round.heights in
    let none = sym (any_is_some (rises heights) c.args.links.now) ∙ sym c.some_rises.ensures ∙ c.if-not-some_rises.true in
    walks_none heights c.args.links.now c.args.count steps block block none (omega arith)
