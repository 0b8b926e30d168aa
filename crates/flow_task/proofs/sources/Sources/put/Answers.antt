use Rattle.std.proofs.Common.{rules, ◌≡◌, List, length, map, slice_index_or, vec_capacity, sym, ap, ◌∙◌, arith}
use Rattle.std.proofs.lemmas.List.{length-map}
use Rattle.flow_link.proofs.PlacesOfNumbers.{place_below}
use Rattle.flow_wire.specs.Ends.{SourceOf}
use Rattle.flow_link.specs.declared.plan.Link.{Link}
use Rattle.flow_link.specs.Plan.{no_link}
use Rattle.flow_link.specs.Planned.{layout_of}
use Rattle.flow_block.specs.Planned.{is_out_of}
use Rattle.flow_block_law.proofs.PlacesOfLinks.{there_at_source}
use Rattle.flow_task.specs.Dealt.{said_of}
use Rattle.flow_task.specs.Inputs.{begins_at_input, is_of_input}
use Rattle.flow_task.specs.Known.{out_known}
use Rattle.flow_task.proofs.DealtBy.{inputs_else, inputs_put, outs_else, outs_put}
use Rattle.flow_task.proofs.Places.{at_place, count_is}
use Rattle.flow_task.proofs.sources.Sources.put.Goals as goal

pub index_mut-requires : goal.index_mut-requires
index_mut-requires g c =
    let layout = layout_of c.args.plan.now in
    let outs = c.args.self.now.outs in
    let from = sym (ap (λ (link : Link). link.source) (c.link.ensures.its_number no_link)) ∙ c.in-Block.is in
    let low = (c.link.ensures.well_formed.leaves c.args.id c.in-Block.block c.requires.1.0 from).0 in
    let many = count_is (λ row. map out_known row.items) (λ b. said_of g.say (is_out_of layout b) c.args.id) (length (layout_of c.args.plan.now).blocks) outs.items c.requires.1.1.1.0 in
    omega (arith, outs.ok.0, low, many)

pub push_reserved-requires : goal.push_reserved-requires
push_reserved-requires g c =
    let layout = layout_of c.args.plan.now in
    let outs = c.args.self.now.outs in
    let b = c.in-Block.block in
    let row = c.index_mut.result.now in
    let from = sym (ap (λ (link : Link). link.source) (c.link.ensures.its_number no_link)) ∙ c.in-Block.is in
    let low = (c.link.ensures.well_formed.leaves c.args.id b c.requires.1.0 from).0 in
    let many = count_is (λ row. map out_known row.items) (λ j. said_of g.say (is_out_of layout j) c.args.id) (length (layout_of c.args.plan.now).blocks) outs.items c.requires.1.1.1.0 in
    let is : row ≡ slice_index_or outs.items b row = search rules in
    let known = ap (λ row. map out_known row.items) is
    ∙ at_place (λ row. map out_known row.items) (λ j. said_of g.say (is_out_of layout j) c.args.id) (length (layout_of c.args.plan.now).blocks) outs.items b row c.requires.1.1.1.0 low in
    let there = (place_below (is_out_of layout b) (length layout.links) c.args.id c.requires.1.0 (there_at_source b _ from)).there in
    let long = sym (length-map row.items out_known) ∙ ap length known ∙ length-map _ g.say in
    let room = c.requires.1.1.1.1.1.0 b row (omega (arith, low, many)) in
    let wide : vec_capacity (slice_index_or outs.items b row) ≡ vec_capacity row = ap vec_capacity (sym is) in
    omega (arith, row.ok.0, long, there, room, wide)

pub push_reserved-requires-in-Input : goal.push_reserved-requires-in-Input
push_reserved-requires-in-Input g c =
    let layout = layout_of c.args.plan.now in
    let inputs = c.args.self.now.inputs in
    let from = sym (ap (λ (link : Link). link.source) (c.link.ensures.its_number no_link)) ∙ c.in-Input.is in
    let there = (place_below (begins_at_input layout) (length layout.links) c.args.id c.requires.1.0 (ap is_of_input from)).there in
    let long = sym (length-map inputs.items out_known) ∙ ap length c.requires.1.1.1.1.0 ∙ length-map _ g.say in
    omega (arith, inputs.ok.0, long, there, c.requires.1.1.1.1.1.1)

pub returns-in-Block-clause-outs : goal.returns-in-Block-clause-outs
returns-in-Block-clause-outs g c =
    let layout = layout_of c.args.plan.now in
    let outs = c.args.self.now.outs in
    let from = sym (ap (λ (link : Link). link.source) (c.link.ensures.its_number no_link)) ∙ c.in-Block.is in
    let low = (c.link.ensures.well_formed.leaves c.args.id c.in-Block.block c.requires.1.0 from).0 in
    outs_put layout out_known (λ row. row.items) g.say c.args.id c.in-Block.block from outs.items c.index_mut.result.now
    c.push_reserved.new.self c.args.end low (search rules) c.requires.1.1.1.0 c.push_reserved.ensures.items c.requires.1.1.0

pub returns-in-Block-clause-inputs : goal.returns-in-Block-clause-inputs
returns-in-Block-clause-inputs g c =
    let from = sym (ap (λ (link : Link). link.source) (c.link.ensures.its_number no_link)) ∙ c.in-Block.is in
    inputs_else (layout_of c.args.plan.now) out_known (λ (row : List SourceOf). row) g.say c.args.id c.in-Block.block from
    c.args.self.now.inputs.items c.requires.1.1.1.1.0

pub returns-in-Input-clause-outs : goal.returns-in-Input-clause-outs
returns-in-Input-clause-outs g c =
    let from = sym (ap (λ (link : Link). link.source) (c.link.ensures.its_number no_link)) ∙ c.in-Input.is in
    outs_else (layout_of c.args.plan.now) out_known (λ row. row.items) g.say c.args.id c.in-Input.field-0 from
    c.args.self.now.outs.items c.requires.1.1.1.0

pub returns-in-Input-clause-inputs : goal.returns-in-Input-clause-inputs
returns-in-Input-clause-inputs g c =
    let from = sym (ap (λ (link : Link). link.source) (c.link.ensures.its_number no_link)) ∙ c.in-Input.is in
    ap (map out_known) c.push_reserved-in-Input.ensures.items
    ∙ inputs_put (layout_of c.args.plan.now) out_known (λ (row : List SourceOf). row) g.say c.args.id c.in-Input.field-0 from
    c.args.self.now.inputs.items c.args.end c.requires.1.1.1.1.0 c.requires.1.1.0
