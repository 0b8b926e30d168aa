use Rattle.std.proofs.Common.{◌≡◌, [], ◌∷◌, ◌++◌, ap, sym, ◌∙◌}
use Rattle.flow_link.specs.declared.plan.Link.{Link}
use Rattle.flow_link.specs.Plan.{begins_at, no_link}
use Rattle.flow_link.specs.Planned.{layout_of}
use Rattle.flow_block.specs.Planned.{is_out_of, rule_of}
use Rattle.flow_block.proofs.PlanMade.{mapped_where, mapped_else}
use Rattle.flow_block.proofs.planned.rules_from.Goals as goal
use Rattle.flow_block.proofs.planned.rules_from.Goals.{then-leaves+in_ok-push, else-leaves}

pub loop-id-preserved : goal.loop-id-preserved
loop-id-preserved g c =
    let layout = layout_of c.args.plan.now in
    let id = c.loop-id.id in
    let so_far = c.loop-id.invariant in
    let rules = c.loop-id.rules.items in
    let here : is_out_of layout c.args.block id ≡ c.leaves.result =
    sym (c.leaves.ensures
    ∙ ap (λ (link : Link). begins_at c.args.block link.source) (c.link.ensures.its_number no_link)) in
    elim c.if-leaves.branch [
      | then-leaves+in_ok-push w ↦
          let items : c.if-leaves.rules.items ≡ rules ++ w.rule_of.result ∷ [] = cc (w.in_ok-push.ensures.items) in
          items
          ∙ mapped_where (is_out_of layout c.args.block) id (rule_of layout) rules w.rule_of.result so_far
          (here ∙ w.if-leaves.true) w.rule_of.ensures
      | else-leaves w ↦
          ap (λ v. v.items) w.rules-is
          ∙ mapped_else (is_out_of layout c.args.block) id (rule_of layout) rules so_far (here ∙ w.if-leaves.false)
    ]
