use Rattle.std.proofs.Common.{◌≡◌, ℕ, ◌<◌, ◌≤◌, length, map, take, get_or}
use Rattle.flow_link.specs.Planned.{layout_of}
use Rattle.flow_link.specs.LinkOk.{LinkOk}
use Rattle.flow_task.specs.Dealt.{exits_dealt, inputs_dealt, ins_dealt, outs_dealt}
use Rattle.flow_task.specs.Known.{in_known, out_known}
use Rattle.flow_task.specs.Wired.{idle, source_said, target_said}
use Rattle.flow_task.proofs.close.close_all.Given as goal

abbrev pub ghost-take : goal.ghost-take
ghost-take g a = source_said g.made

abbrev pub ghost-take-2 : goal.ghost-take-2
ghost-take-2 g a = target_said g.made

-- the first wires are left, with their ends, and the links of the others are back
abbrev pub invariant-loop-wire : goal.invariant-loop-wire
invariant-loop-wire g l =
    let layout = layout_of l.fn.plan in
    let all = g.made.tables in
    let n = length l.wires.items in
    (l.wires.items ≡ take n all)
    × ((n ≤ length all)
    × ((map (λ row. map out_known row.items) l.sources.outs.items ≡ outs_dealt layout (source_said g.made) n)
    × ((map out_known l.sources.inputs.items ≡ inputs_dealt layout (source_said g.made) n)
    × ((map (λ ports. map (λ row. map in_known row.items) ports.items) l.targets.ins.items ≡ ins_dealt layout (target_said g.made) n)
    × ((map in_known l.targets.exits.items ≡ exits_dealt layout (target_said g.made) n)
    × ((length l.lines.items ≡ length l.fn.lines.items)
    × ((k : ℕ) → n ≤ k → k < length all
    → LinkOk (g.made.starts k).facts (get_or l.lines.items k idle).phase (get_or l.lines.items k idle).slot (g.made.starts k).source
    (g.made.starts k).target)))))))

abbrev pub decreases-loop-wire : goal.decreases-loop-wire
decreases-loop-wire g l = length l.wires.items
