use Rattle.std.proofs.Common.{◌≡◌, ◌≤◌, ◌++◌, length, map, vec_capacity}
use Rattle.std.specs.Vec.Iter.{into_iter_items}
use Rattle.flow_link.specs.Planned.{layout_of}
use Rattle.flow_block.specs.Planned.{links_out, links_to}
use Rattle.flow_task.specs.Dealt.{HasRoomsIn, exits_dealt, ins_dealt}
use Rattle.flow_task.specs.Known.{in_known}
use Rattle.flow_task.proofs.targets.Targets.deal.Given as goal

abbrev pub ghost-put : goal.ghost-put
ghost-put g a = g.say

-- the ends of so many links are where they belong
abbrev pub invariant-loop-end : goal.invariant-loop-end
invariant-loop-end g l =
    let layout = layout_of l.fn.plan in
    (l.fn.ends.items ≡ l.yielded ++ into_iter_items l.end-iterator)
    × ((l.id ≡ length l.yielded)
    × ((map (λ ports. map (λ row. map in_known row.items) ports.items) l.self.ins.items ≡ ins_dealt layout g.say l.id)
    × ((map in_known l.self.exits.items ≡ exits_dealt layout g.say l.id)
    × (HasRoomsIn (λ ports. ports.items) vec_capacity (λ b p. length (links_to layout b p)) l.self.ins.items
    × (length (links_out layout) ≤ vec_capacity l.self.exits)))))
