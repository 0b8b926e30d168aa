use Rattle.std.proofs.Common.{rules, ◌≡◌, ◌<◌, List, length, map, slice_index_or, vec_capacity, refl, sym, ap, ◌∙◌, subst, arith}
use Rattle.std.proofs.lemmas.List.{length-map}
use Rattle.flow_link.proofs.PlacesOfNumbers.{place_below}
use Rattle.flow_wire.specs.Ends.{TargetOf}
use Rattle.flow_link.specs.declared.plan.Link.{Link}
use Rattle.flow_link.specs.Plan.{block_in, no_link, port_count}
use Rattle.flow_link.specs.Planned.{layout_of}
use Rattle.flow_block.specs.Planned.{is_exit, is_into, leads_out}
use Rattle.flow_block_law.proofs.PlacesOfLinks.{there_at_port}
use Rattle.flow_task.specs.Dealt.{said_of, ports_dealt}
use Rattle.flow_task.specs.Known.{in_known}
use Rattle.flow_task.proofs.DealtBy.{exits_else, exits_put, ins_else, ins_put}
use Rattle.flow_task.proofs.Places.{at_place, count_is}
use Rattle.flow_task.proofs.targets.Targets.put.Goals as goal

pub index_mut-requires : goal.index_mut-requires
index_mut-requires g c =
    let layout = layout_of c.args.plan.now in
    let blocks = c.args.self.now.ins in
    let t = c.in-Port.block in
    let p = c.in-Port.port in
    let into = sym (ap (λ (link : Link). link.target) (c.link.ensures.its_number no_link)) ∙ c.in-Port.is in
    let enters = c.link.ensures.well_formed.enters c.args.id t p c.requires.1.0 into in
    let many = count_is (λ ports. map (λ row. map in_known row.items) ports.items) (ports_dealt layout g.say c.args.id) (length (layout_of c.args.plan.now).blocks) blocks.items c.requires.1.1.1.0 in
    omega (arith, blocks.ok.0, enters.0, many)

pub index_mut-requires-in-Port : goal.index_mut-requires-in-Port
index_mut-requires-in-Port g c =
    let layout = layout_of c.args.plan.now in
    let blocks = c.args.self.now.ins in
    let t = c.in-Port.block in
    let p = c.in-Port.port in
    let into = sym (ap (λ (link : Link). link.target) (c.link.ensures.its_number no_link)) ∙ c.in-Port.is in
    let enters = c.link.ensures.well_formed.enters c.args.id t p c.requires.1.0 into in
    let block = c.index_mut.result.now in
    let is : block ≡ slice_index_or blocks.items t block = search rules in
    let ports = ap (λ ports. map (λ row. map in_known row.items) ports.items) is
    ∙ at_place (λ ports. map (λ row. map in_known row.items) ports.items) (ports_dealt layout g.say c.args.id) (length (layout_of c.args.plan.now).blocks) blocks.items t block c.requires.1.1.1.0 enters.0 in
    let many = count_is (λ row. map in_known row.items) (λ q. said_of g.say (is_into layout t q) c.args.id) (port_count (block_in (layout_of c.args.plan.now).blocks t)) block.items ports in
    omega (arith, block.ok.0, enters.1, many)

pub push_reserved-requires : goal.push_reserved-requires
push_reserved-requires g c =
    let layout = layout_of c.args.plan.now in
    let blocks = c.args.self.now.ins in
    let t = c.in-Port.block in
    let p = c.in-Port.port in
    let into = sym (ap (λ (link : Link). link.target) (c.link.ensures.its_number no_link)) ∙ c.in-Port.is in
    let enters = c.link.ensures.well_formed.enters c.args.id t p c.requires.1.0 into in
    let block = c.index_mut.result.now in
    let row = c.index_mut-in-Port.result.now in
    let is : block ≡ slice_index_or blocks.items t block = search rules in
    let its : row ≡ slice_index_or block.items p row = search rules in
    let blocks_many = count_is (λ ports. map (λ row. map in_known row.items) ports.items) (ports_dealt layout g.say c.args.id) (length (layout_of c.args.plan.now).blocks) blocks.items c.requires.1.1.1.0 in
    let ports = ap (λ ports. map (λ row. map in_known row.items) ports.items) is
    ∙ at_place (λ ports. map (λ row. map in_known row.items) ports.items) (ports_dealt layout g.say c.args.id) (length (layout_of c.args.plan.now).blocks) blocks.items t block c.requires.1.1.1.0 enters.0 in
    let ports_many = count_is (λ row. map in_known row.items) (λ q. said_of g.say (is_into layout t q) c.args.id) (port_count (block_in (layout_of c.args.plan.now).blocks t)) block.items ports in
    let known = ap (λ row. map in_known row.items) its
    ∙ at_place (λ row. map in_known row.items) (λ q. said_of g.say (is_into layout t q) c.args.id) (port_count (block_in (layout_of c.args.plan.now).blocks t)) block.items p row ports enters.1 in
    let there = (place_below (is_into layout t p) (length layout.links) c.args.id c.requires.1.0 (there_at_port t p _ into)).there in
    let long = sym (length-map row.items in_known) ∙ ap length known ∙ length-map _ g.say in
    let small : p < length (slice_index_or blocks.items t block).items = subst (λ b. p < length b.items) is (omega (arith, enters.1, ports_many)) in
    let room = c.requires.1.1.1.1.1.0 t block (omega (arith, enters.0, blocks_many)) p row small in
    let wide : vec_capacity (slice_index_or (slice_index_or blocks.items t block).items p row) ≡ vec_capacity row =
    ap (λ b. vec_capacity (slice_index_or b.items p row)) (sym is) ∙ ap vec_capacity (sym its) in
    omega (arith, row.ok.0, long, there, room, wide)

pub push_reserved-requires-in-Exit : goal.push_reserved-requires-in-Exit
push_reserved-requires-in-Exit g c =
    let layout = layout_of c.args.plan.now in
    let exits = c.args.self.now.exits in
    let into = sym (ap (λ (link : Link). link.target) (c.link.ensures.its_number no_link)) ∙ c.in-Exit.is in
    let there = (place_below (leads_out layout) (length layout.links) c.args.id c.requires.1.0 (ap is_exit into)).there in
    let long = sym (length-map exits.items in_known) ∙ ap length c.requires.1.1.1.1.0 ∙ length-map _ g.say in
    omega (arith, exits.ok.0, long, there, c.requires.1.1.1.1.1.1)

pub returns-in-Port-clause-ins : goal.returns-in-Port-clause-ins
returns-in-Port-clause-ins g c =
    let layout = layout_of c.args.plan.now in
    let blocks = c.args.self.now.ins in
    let t = c.in-Port.block in
    let p = c.in-Port.port in
    let into = sym (ap (λ (link : Link). link.target) (c.link.ensures.its_number no_link)) ∙ c.in-Port.is in
    let enters = c.link.ensures.well_formed.enters c.args.id t p c.requires.1.0 into in
    ins_put layout in_known (λ row. row.items) g.say c.args.id (λ ports. ports.items) t p into blocks.items c.index_mut.result.now
    _ c.index_mut-in-Port.result.now c.push_reserved.new.self c.args.end enters.0 enters.1 (search rules) (search rules) refl
    c.requires.1.1.1.0 c.push_reserved.ensures.items c.requires.1.1.0

pub returns-in-Port-clause-exits : goal.returns-in-Port-clause-exits
returns-in-Port-clause-exits g c =
    let layout = layout_of c.args.plan.now in
    let blocks = c.args.self.now.ins in
    let t = c.in-Port.block in
    let p = c.in-Port.port in
    let into = sym (ap (λ (link : Link). link.target) (c.link.ensures.its_number no_link)) ∙ c.in-Port.is in
    let enters = c.link.ensures.well_formed.enters c.args.id t p c.requires.1.0 into in
    exits_else layout in_known (λ (row : List TargetOf). row) g.say c.args.id (λ (rows : List (List TargetOf)). rows) t p into
    c.args.self.now.exits.items c.requires.1.1.1.1.0

pub returns-in-Exit-clause-ins : goal.returns-in-Exit-clause-ins
returns-in-Exit-clause-ins g c =
    let into = sym (ap (λ (link : Link). link.target) (c.link.ensures.its_number no_link)) ∙ c.in-Exit.is in
    ins_else (layout_of c.args.plan.now) in_known (λ row. row.items) g.say c.args.id (λ ports. ports.items) into c.args.self.now.ins.items
    c.requires.1.1.1.0

pub returns-in-Exit-clause-exits : goal.returns-in-Exit-clause-exits
returns-in-Exit-clause-exits g c =
    let into = sym (ap (λ (link : Link). link.target) (c.link.ensures.its_number no_link)) ∙ c.in-Exit.is in
    ap (map in_known) c.push_reserved-in-Exit.ensures.items
    ∙ exits_put (layout_of c.args.plan.now) in_known (λ (row : List TargetOf). row) g.say c.args.id (λ (rows : List (List TargetOf)). rows)
    into c.args.self.now.exits.items c.args.end c.requires.1.1.1.1.0 c.requires.1.1.0
