use Rattle.std.proofs.Common.{rules, ◌≡◌, true, false, [], ◌∷◌, ◌++◌, ap, sym, ◌∙◌}
use Rattle.flow_link.specs.declared.plan.Link.{Link}
use Rattle.flow_link.specs.Plan.{no_link, link_in}
use Rattle.flow_link.specs.Planned.{layout_of}
use Rattle.flow_block.specs.Planned.{leads_out, is_exit}
use Rattle.flow_task.proofs.LinksFound.{found_where, found_else}
use Rattle.flow_task.proofs.frame.exit_links.Goals as goal
use Rattle.flow_task.proofs.frame.exit_links.Goals.{in-Exit+in_ok-push-in-Exit, in-Port}

pub loop-id-preserved : goal.loop-id-preserved
loop-id-preserved g c =
    let layout = layout_of c.args.plan.now in
    let links = c.loop-id.links.items in
    let id = c.loop-id.id in
    let so_far = c.loop-id.invariant in
    let it : c.link.result ≡ link_in layout.links id = c.link.ensures.its_number no_link in
    elim c.match-link.branch [
      | in-Exit+in_ok-push-in-Exit w ↦
          let passes : leads_out layout id ≡ true = sym (ap (λ (l : Link). is_exit l.target) it) ∙ (let is : is_exit c.link.result.target ≡ true = search rules in is) in
          let grown : c.match-link.links.items ≡ links ++ id ∷ [] = search rules in
          grown ∙ found_where (leads_out layout) id links so_far passes
      | in-Port w ↦
          let not_it : leads_out layout id ≡ false = sym (ap (λ (l : Link). is_exit l.target) it) ∙ (let is : is_exit c.link.result.target ≡ false = search rules in is) in
          let same : c.match-link.links.items ≡ links = search rules in
          same ∙ found_else (leads_out layout) id links so_far not_it
    ]
