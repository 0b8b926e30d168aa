use Rattle.std.proofs.Common.{◌≡◌, ℕ, [], ◌∷◌, ◌++◌, ap, sym, ◌∙◌}
use Rattle.flow_link.specs.declared.plan.Link.{Link}
use Rattle.flow_link.specs.Plan.{ends_at, no_link}
use Rattle.flow_link.specs.Planned.{layout_of}
use Rattle.flow_group.specs.declared.round.Source.{Source}
use Rattle.flow_block.specs.Planned.{block_from, enters, source_by}
use Rattle.flow_block.proofs.PlanMade.{mapped_where, mapped_else}
use Rattle.flow_block.proofs.planned.sources_into.Goals as goal
use Rattle.flow_block.proofs.planned.sources_into.Goals.{then-ends_at+in_ok-push, else-ends_at}

pub loop-id-preserved : goal.loop-id-preserved
loop-id-preserved g c =
    let layout = layout_of c.args.plan.now in
    let id = c.loop-id.id in
    let so_far = c.loop-id.invariant in
    let sources = c.loop-id.sources.items in
    let here : enters layout c.args.block id ≡ c.ends_at.result =
    sym (c.ends_at.ensures
    ∙ ap (λ (link : Link). ends_at c.args.block link.target) (c.link.ensures.its_number no_link)) in
    elim c.if-ends_at.branch [
      | then-ends_at+in_ok-push w ↦
          let made : Source = record { link = id; block = w.block_from.result } in
          let items : c.if-ends_at.sources.items ≡ sources ++ made ∷ [] = cc (w.in_ok-push.ensures.items) in
          let one : made ≡ source_by layout id =
          ap (λ (block : ℕ). record { link = id; block = block }) (w.block_from.ensures
          ∙ ap (λ (link : Link). block_from link.source) (w.link-then-ends_at.ensures.its_number no_link)) in
          items
          ∙ mapped_where (enters layout c.args.block) id (source_by layout) sources made so_far (here ∙ w.if-ends_at.true) one
      | else-ends_at w ↦
          ap (λ v. v.items) w.sources-is
          ∙ mapped_else (enters layout c.args.block) id (source_by layout) sources so_far (here ∙ w.if-ends_at.false)
    ]
