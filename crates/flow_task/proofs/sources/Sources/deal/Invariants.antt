use Rattle.std.proofs.Common.{◌≡◌, ◌≤◌, ◌++◌, length, map, vec_capacity}
use Rattle.std.specs.Vec.Iter.{into_iter_items}
use Rattle.flow_link.specs.Planned.{layout_of}
use Rattle.flow_block.specs.Planned.{links_from}
use Rattle.flow_task.specs.Dealt.{HasRooms, inputs_dealt, outs_dealt}
use Rattle.flow_task.specs.Inputs.{links_of_inputs}
use Rattle.flow_task.specs.Known.{out_known}
use Rattle.flow_task.proofs.sources.Sources.deal.Given as goal

abbrev pub ghost-put : goal.ghost-put
ghost-put g a = g.say

-- the ends of so many links are where they belong
abbrev pub invariant-loop-end : goal.invariant-loop-end
invariant-loop-end g l =
    let layout = layout_of l.fn.plan in
    (l.fn.ends.items ≡ l.yielded ++ into_iter_items l.end-iterator)
    × ((l.id ≡ length l.yielded)
    × ((map (λ row. map out_known row.items) l.self.outs.items ≡ outs_dealt layout g.say l.id)
    × ((map out_known l.self.inputs.items ≡ inputs_dealt layout g.say l.id)
    × (HasRooms vec_capacity (λ b. length (links_from layout b)) l.self.outs.items
    × (length (links_of_inputs layout) ≤ vec_capacity l.self.inputs)))))
