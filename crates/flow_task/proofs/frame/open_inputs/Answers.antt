use Rattle.std.proofs.Common.{rules, ◌≡◌, ◌<◌, length, map, get_or, sym, ap, ◌∙◌}
use Rattle.std.proofs.lemmas.List.{get_or_default}
use Rattle.flow_link.specs.Lists.{below}
use Rattle.flow_block.proofs.PlanMade.{mapped_more}
use Rattle.flow_input.specs.Input.{no_input}
use Rattle.flow_task.specs.Inputs.{stays_open}
use Rattle.flow_task.proofs.DuesByPlace.{by_places}
use Rattle.flow_task.proofs.frame.open_inputs.Goals as goal

pub loop-input-preserved : goal.loop-input-preserved
loop-input-preserved c =
    let i = c.loop-input.invariant in
    let inputs = c.args.inputs.now in
    let q = c.loop-input.input-index in
    let low : q < length inputs = search rules in
    let input : c.input-item.result ≡ get_or inputs q no_input = c.input-item.is ∙ get_or_default inputs q c.input-item.result no_input low in
    let told : c.eq.result ≡ stays_open c.input-item.result = search rules in (
      c.push_reserved.ensures.items
          ∙ mapped_more (λ k. stays_open (get_or inputs k no_input)) c.loop-input.opens.items q c.eq.result i.0 (told ∙ ap stays_open input),
      search rules,
    )

pub returns : goal.returns
returns c =
    let i = c.loop-input.invariant in
    let inputs = c.args.inputs.now in
    let all : c.loop-input.input-index ≡ length inputs = search rules in
    i.0 ∙ ap (λ n. map (λ k. stays_open (get_or inputs k no_input)) (below n)) all ∙ sym (by_places stays_open inputs no_input)
