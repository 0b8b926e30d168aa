use Rattle.std.proofs.Common.{rules, ◌+◌, List, length, map, sym, ap, ◌∙◌, arith}
use Rattle.flow_wire.specs.Ends.{SourceOf}
use Rattle.flow_link.specs.declared.plan.Link.{Link}
use Rattle.flow_link.specs.Plan.{no_link}
use Rattle.flow_link.specs.Planned.{layout_of}
use Rattle.flow_block.specs.Planned.{is_out_of}
use Rattle.flow_task.specs.Dealt.{said_of}
use Rattle.flow_task.specs.Known.{out_known}
use Rattle.flow_task.proofs.Dealing.{is_one}
use Rattle.flow_task.proofs.DealtBy.{inputs_left, inputs_still, inputs_take, out_taken, outs_left, outs_still, outs_take}
use Rattle.flow_task.proofs.Places.{count_is}
use Rattle.flow_task.proofs.sources.Sources.take.Goals as goal

pub index_mut-requires : goal.index_mut-requires
index_mut-requires g c =
    let layout = layout_of c.args.plan.now in
    let outs = c.args.self.now.outs in
    let from = sym (ap (λ (link : Link). link.source) (c.link.ensures.its_number no_link)) ∙ c.in-Block.is in
    let low = (c.link.ensures.well_formed.leaves c.args.id c.in-Block.block c.requires.1.0 from).0 in
    let many = count_is (λ row. map out_known row.items) (λ b. said_of g.say (is_out_of layout b) (c.args.id + 1)) (length (layout_of c.args.plan.now).blocks) outs.items c.requires.1.1.0 in
    omega (arith, outs.ok.0, low, many)

pub take_last-requires : goal.take_last-requires
take_last-requires g c =
    let outs = c.args.self.now.outs in
    let b = c.in-Block.block in
    let row = c.index_mut.result.now in
    let from = sym (ap (λ (link : Link). link.source) (c.link.ensures.its_number no_link)) ∙ c.in-Block.is in
    let low = (c.link.ensures.well_formed.leaves c.args.id b c.requires.1.0 from).0 in
    is_one row.items
    (outs_left (layout_of c.args.plan.now) out_known (λ row. row.items) g.say c.args.id b from outs.items row low (search rules) c.requires.1.1.0)

pub take_last-requires-in-Input : goal.take_last-requires-in-Input
take_last-requires-in-Input g c =
    let from = sym (ap (λ (link : Link). link.source) (c.link.ensures.its_number no_link)) ∙ c.in-Input.is in
    is_one c.args.self.now.inputs.items
    (inputs_left (layout_of c.args.plan.now) out_known (λ (row : List SourceOf). row) g.say c.args.id c.in-Input.field-0 from
    c.args.self.now.inputs.items c.requires.1.1.1)

pub returns-in-Block-clause-known : goal.returns-in-Block-clause-known
returns-in-Block-clause-known g c =
    let from = sym (ap (λ (link : Link). link.source) (c.link.ensures.its_number no_link)) ∙ c.in-Block.is in
    let low = (c.link.ensures.well_formed.leaves c.args.id c.in-Block.block c.requires.1.0 from).0 in
    out_taken (layout_of c.args.plan.now) out_known (λ row. row.items) g.say c.args.id c.in-Block.block from
    c.args.self.now.outs.items c.index_mut.result.now c.take_last.new.ends c.take_last.result low (search rules) c.requires.1.1.0
    c.take_last.ensures

pub returns-in-Block-clause-outs : goal.returns-in-Block-clause-outs
returns-in-Block-clause-outs g c =
    let from = sym (ap (λ (link : Link). link.source) (c.link.ensures.its_number no_link)) ∙ c.in-Block.is in
    let low = (c.link.ensures.well_formed.leaves c.args.id c.in-Block.block c.requires.1.0 from).0 in
    outs_take (layout_of c.args.plan.now) out_known (λ row. row.items) g.say c.args.id c.in-Block.block from
    c.args.self.now.outs.items c.index_mut.result.now c.take_last.new.ends c.take_last.result low (search rules) c.requires.1.1.0
    c.take_last.ensures

pub returns-in-Block-clause-inputs : goal.returns-in-Block-clause-inputs
returns-in-Block-clause-inputs g c =
    let from = sym (ap (λ (link : Link). link.source) (c.link.ensures.its_number no_link)) ∙ c.in-Block.is in
    inputs_still (layout_of c.args.plan.now) out_known (λ (row : List SourceOf). row) g.say c.args.id c.in-Block.block from
    c.args.self.now.inputs.items c.requires.1.1.1

pub returns-in-Input-clause-known : goal.returns-in-Input-clause-known
returns-in-Input-clause-known g c =
    let from = sym (ap (λ (link : Link). link.source) (c.link.ensures.its_number no_link)) ∙ c.in-Input.is in
    (inputs_take (layout_of c.args.plan.now) out_known (λ (row : List SourceOf). row) g.say c.args.id c.in-Input.field-0 from
    c.take_last-in-Input.new.ends.items c.take_last-in-Input.result
    (ap (map out_known) (sym c.take_last-in-Input.ensures) ∙ c.requires.1.1.1)).1

pub returns-in-Input-clause-outs : goal.returns-in-Input-clause-outs
returns-in-Input-clause-outs g c =
    let from = sym (ap (λ (link : Link). link.source) (c.link.ensures.its_number no_link)) ∙ c.in-Input.is in
    outs_still (layout_of c.args.plan.now) out_known (λ row. row.items) g.say c.args.id c.in-Input.field-0 from
    c.args.self.now.outs.items c.requires.1.1.0

pub returns-in-Input-clause-inputs : goal.returns-in-Input-clause-inputs
returns-in-Input-clause-inputs g c =
    let from = sym (ap (λ (link : Link). link.source) (c.link.ensures.its_number no_link)) ∙ c.in-Input.is in
    (inputs_take (layout_of c.args.plan.now) out_known (λ (row : List SourceOf). row) g.say c.args.id c.in-Input.field-0 from
    c.take_last-in-Input.new.ends.items c.take_last-in-Input.result
    (ap (map out_known) (sym c.take_last-in-Input.ensures) ∙ c.requires.1.1.1)).0
