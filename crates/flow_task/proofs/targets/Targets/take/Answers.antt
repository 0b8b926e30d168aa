use Rattle.std.proofs.Common.{rules, ◌≡◌, ◌+◌, List, length, map, slice_index_or, refl, sym, ap, ◌∙◌, arith}
use Rattle.std.specs.Vec.{with_item}
use Rattle.flow_wire.specs.Ends.{TargetOf}
use Rattle.flow_link.specs.declared.plan.Link.{Link}
use Rattle.flow_link.specs.Plan.{block_in, no_link, port_count}
use Rattle.flow_link.specs.Planned.{layout_of}
use Rattle.flow_block.specs.Planned.{is_into}
use Rattle.flow_task.specs.Dealt.{said_of, ports_dealt}
use Rattle.flow_task.specs.Known.{in_known}
use Rattle.flow_task.proofs.Dealing.{is_one}
use Rattle.flow_task.proofs.DealtBy.{exits_left, exits_still, exits_take, in_taken, ins_left, ins_still, ins_take}
use Rattle.flow_task.proofs.Places.{at_place, count_is}
use Rattle.flow_task.proofs.targets.Targets.take.Goals as goal

pub index_mut-requires : goal.index_mut-requires
index_mut-requires g c =
    let layout = layout_of c.args.plan.now in
    let blocks = c.args.self.now.ins in
    let t = c.in-Port.block in
    let p = c.in-Port.port in
    let into = sym (ap (λ (link : Link). link.target) (c.link.ensures.its_number no_link)) ∙ c.in-Port.is in
    let enters = c.link.ensures.well_formed.enters c.args.id t p c.requires.1.0 into in
    let many = count_is (λ ports. map (λ row. map in_known row.items) ports.items) (ports_dealt layout g.say (c.args.id + 1)) (length (layout_of c.args.plan.now).blocks) blocks.items c.requires.1.1.0 in
    omega (arith, blocks.ok.0, enters.0, many)

pub index_mut-requires-in-Port : goal.index_mut-requires-in-Port
index_mut-requires-in-Port g c =
    let layout = layout_of c.args.plan.now in
    let blocks = c.args.self.now.ins in
    let t = c.in-Port.block in
    let p = c.in-Port.port in
    let into = sym (ap (λ (link : Link). link.target) (c.link.ensures.its_number no_link)) ∙ c.in-Port.is in
    let enters = c.link.ensures.well_formed.enters c.args.id t p c.requires.1.0 into in
    let block = c.index_mut.result.now in
    let is : block ≡ slice_index_or blocks.items t block = search rules in
    let ports = ap (λ ports. map (λ row. map in_known row.items) ports.items) is
    ∙ at_place (λ ports. map (λ row. map in_known row.items) ports.items) (ports_dealt layout g.say (c.args.id + 1)) (length (layout_of c.args.plan.now).blocks) blocks.items t block c.requires.1.1.0 enters.0 in
    let many = count_is (λ row. map in_known row.items) (λ q. said_of g.say (is_into layout t q) (c.args.id + 1)) (port_count (block_in (layout_of c.args.plan.now).blocks t)) block.items ports in
    omega (arith, block.ok.0, enters.1, many)

pub take_last-requires : goal.take_last-requires
take_last-requires g c =
    let layout = layout_of c.args.plan.now in
    let blocks = c.args.self.now.ins in
    let t = c.in-Port.block in
    let p = c.in-Port.port in
    let into = sym (ap (λ (link : Link). link.target) (c.link.ensures.its_number no_link)) ∙ c.in-Port.is in
    let enters = c.link.ensures.well_formed.enters c.args.id t p c.requires.1.0 into in
    is_one c.index_mut-in-Port.result.now.items
    (ins_left layout in_known (λ row. row.items) g.say c.args.id (λ ports. ports.items) t p into blocks.items c.index_mut.result.now
    c.index_mut-in-Port.result.now enters.0 enters.1 (search rules) (search rules) c.requires.1.1.0)

pub take_last-requires-in-Exit : goal.take_last-requires-in-Exit
take_last-requires-in-Exit g c =
    let into = sym (ap (λ (link : Link). link.target) (c.link.ensures.its_number no_link)) ∙ c.in-Exit.is in
    is_one c.args.self.now.exits.items
    (exits_left (layout_of c.args.plan.now) in_known (λ (row : List TargetOf). row) g.say c.args.id
    (λ (rows : List (List TargetOf)). rows) into c.args.self.now.exits.items c.requires.1.1.1)

pub returns-in-Port-clause-known : goal.returns-in-Port-clause-known
returns-in-Port-clause-known g c =
    let layout = layout_of c.args.plan.now in
    let blocks = c.args.self.now.ins in
    let t = c.in-Port.block in
    let p = c.in-Port.port in
    let into = sym (ap (λ (link : Link). link.target) (c.link.ensures.its_number no_link)) ∙ c.in-Port.is in
    let enters = c.link.ensures.well_formed.enters c.args.id t p c.requires.1.0 into in
    in_taken layout in_known (λ row. row.items) g.say c.args.id (λ ports. ports.items) t p into blocks.items c.index_mut.result.now
    (with_item c.index_mut.result.now p c.take_last.new.ends) c.index_mut-in-Port.result.now c.take_last.new.ends c.take_last.result enters.0 enters.1 (search rules) (search rules) refl
    c.requires.1.1.0 c.take_last.ensures

pub returns-in-Port-clause-ins : goal.returns-in-Port-clause-ins
returns-in-Port-clause-ins g c =
    let layout = layout_of c.args.plan.now in
    let blocks = c.args.self.now.ins in
    let t = c.in-Port.block in
    let p = c.in-Port.port in
    let into = sym (ap (λ (link : Link). link.target) (c.link.ensures.its_number no_link)) ∙ c.in-Port.is in
    let enters = c.link.ensures.well_formed.enters c.args.id t p c.requires.1.0 into in
    ins_take layout in_known (λ row. row.items) g.say c.args.id (λ ports. ports.items) t p into blocks.items c.index_mut.result.now
    _ c.index_mut-in-Port.result.now c.take_last.new.ends c.take_last.result enters.0 enters.1 (search rules) (search rules) refl
    c.requires.1.1.0 c.take_last.ensures

pub returns-in-Port-clause-exits : goal.returns-in-Port-clause-exits
returns-in-Port-clause-exits g c =
    let layout = layout_of c.args.plan.now in
    let blocks = c.args.self.now.ins in
    let t = c.in-Port.block in
    let p = c.in-Port.port in
    let into = sym (ap (λ (link : Link). link.target) (c.link.ensures.its_number no_link)) ∙ c.in-Port.is in
    let enters = c.link.ensures.well_formed.enters c.args.id t p c.requires.1.0 into in
    exits_still layout in_known (λ (row : List TargetOf). row) g.say c.args.id (λ (rows : List (List TargetOf)). rows) t p into
    c.args.self.now.exits.items c.requires.1.1.1

pub returns-in-Exit-clause-known : goal.returns-in-Exit-clause-known
returns-in-Exit-clause-known g c =
    let into = sym (ap (λ (link : Link). link.target) (c.link.ensures.its_number no_link)) ∙ c.in-Exit.is in
    (exits_take (layout_of c.args.plan.now) in_known (λ (row : List TargetOf). row) g.say c.args.id (λ (rows : List (List TargetOf)). rows)
    into c.take_last-in-Exit.new.ends.items c.take_last-in-Exit.result
    (ap (map in_known) (sym c.take_last-in-Exit.ensures) ∙ c.requires.1.1.1)).1

pub returns-in-Exit-clause-ins : goal.returns-in-Exit-clause-ins
returns-in-Exit-clause-ins g c =
    let into = sym (ap (λ (link : Link). link.target) (c.link.ensures.its_number no_link)) ∙ c.in-Exit.is in
    ins_still (layout_of c.args.plan.now) in_known (λ row. row.items) g.say c.args.id (λ ports. ports.items) into c.args.self.now.ins.items
    c.requires.1.1.0

pub returns-in-Exit-clause-exits : goal.returns-in-Exit-clause-exits
returns-in-Exit-clause-exits g c =
    let into = sym (ap (λ (link : Link). link.target) (c.link.ensures.its_number no_link)) ∙ c.in-Exit.is in
    (exits_take (layout_of c.args.plan.now) in_known (λ (row : List TargetOf). row) g.say c.args.id (λ (rows : List (List TargetOf)). rows)
    into c.take_last-in-Exit.new.ends.items c.take_last-in-Exit.result
    (ap (map in_known) (sym c.take_last-in-Exit.ensures) ∙ c.requires.1.1.1)).0
