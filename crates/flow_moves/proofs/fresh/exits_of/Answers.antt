use Rattle.std.proofs.Common.{◌≡◌, ℕ, [], ◌∷◌, ◌++◌, ap, sym, ◌∙◌}
use Rattle.flow_link.specs.declared.plan.Link.{Link}
use Rattle.flow_link.specs.Plan.{no_link}
use Rattle.flow_link.specs.Planned.{layout_of}
use Rattle.flow_block.specs.Planned.{is_exit, leads_out}
use Rattle.flow_block.proofs.PlanMade.{mapped_where, mapped_else}
use Rattle.flow_exit.specs.Exit.{fresh_exit}
use Rattle.flow_moves.proofs.fresh.exits_of.Goals as goal
use Rattle.flow_moves.proofs.fresh.exits_of.Goals.{then-is_exit+in_ok-push, else-is_exit}

pub loop-id-preserved : goal.loop-id-preserved
loop-id-preserved g c =
    let layout = layout_of c.args.plan.now in
    let id = c.loop-id.id in
    let so_far = c.loop-id.invariant in
    let exits = c.loop-id.exits.items in
    let here : leads_out layout id ≡ c.is_exit.result =
    sym (c.is_exit.ensures ∙ ap (λ (link : Link). is_exit link.target) (c.link.ensures.its_number no_link)) in
    elim c.if-is_exit.branch [
      | then-is_exit+in_ok-push w ↦
          let items : c.if-is_exit.exits.items ≡ exits ++ w.new.result ∷ [] = cc (w.in_ok-push.ensures.items) in
          items
          ∙ mapped_where (leads_out layout) id (λ (_ : ℕ). fresh_exit) exits w.new.result so_far (here ∙ w.if-is_exit.true) w.new.ensures
      | else-is_exit w ↦
          ap (λ v. v.items) w.exits-is
          ∙ mapped_else (leads_out layout) id (λ (_ : ℕ). fresh_exit) exits so_far (here ∙ w.if-is_exit.false)
    ]
