use Rattle.std.proofs.Common.{rules, ◌≡◌, ◌<◌, length, map, get_or, sym, ap, ◌∙◌}
use Rattle.std.proofs.lemmas.List.{get_or_default}
use Rattle.flow_link.specs.Lists.{below}
use Rattle.flow_input.specs.Input.{no_input}
use Rattle.flow_task.specs.Entries.{waits_in}
use Rattle.flow_task.proofs.DuesByPlace.{by_places}
use Rattle.flow_task.proofs.TakenApart.{viewed_more}
use Rattle.flow_task.proofs.frame.waiting_parcels.Goals as goal

pub loop-input-preserved : goal.loop-input-preserved
loop-input-preserved c =
    let i = c.loop-input.invariant in
    let inputs = c.args.inputs.now in
    let q = c.loop-input.input-index in
    let low : q < length inputs = search rules in
    let input : c.input-item.result ≡ get_or inputs q no_input = c.input-item.is ∙ get_or_default inputs q c.input-item.result no_input low in
    let row = c.in_ok-parcels_of in (
      ap (map (λ row. row.items)) c.push_reserved.ensures.items
          ∙ viewed_more (λ row. row.items) (λ k. waits_in (get_or inputs k no_input)) q c.loop-input.waiting.items row.field-0 i.0
          (row.ensures ∙ c.waiting_in.ensures ∙ ap waits_in input),
      search rules,
    )

pub returns : goal.returns
returns c =
    let i = c.loop-input.invariant in
    let inputs = c.args.inputs.now in
    let all : c.loop-input.input-index ≡ length inputs = search rules in
    i.0 ∙ ap (λ n. map (λ k. waits_in (get_or inputs k no_input)) (below n)) all ∙ sym (by_places waits_in inputs no_input)
