use Rattle.std.proofs.Common.{◌≡◌, ◌∙◌, ◌++◌, ◌∷◌, [], ap, cond, arith}
use Rattle.flow_link.specs.declared.plan.Link.{Link}
use Rattle.flow_link.specs.Layout.{input_link}
use Rattle.flow_link.proofs.LinksLaidOut.{one_more_input}
use Rattle.flow_link.proofs.layout.push_input_links.Goals as goal

pub loop-place-preserved : goal.loop-place-preserved
loop-place-preserved g c =
    let links = c.loop-place.links.items in
    let block = c.index-blocks-place.result in
    let place = c.loop-place.place in
    let next : c.push_where.new.links.items ≡ links ++ cond block.input (input_link place ∷ []) [] =
    c.in_ok-push_where.ensures ∙ ap (λ (link : Link). links ++ cond block.input (link ∷ []) []) c.input_link.ensures in
    one_more_input c.args.blocks.now place block links c.push_where.new.links.items (omega arith) c.index-blocks-place.is next ∙ c.loop-place.invariant
