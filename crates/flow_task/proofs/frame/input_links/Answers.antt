use Rattle.std.proofs.Common.{rules, ◌≡◌, true, false, [], ◌∷◌, ◌++◌, ap, sym, ◌∙◌}
use Rattle.flow_link.specs.declared.plan.Link.{Link}
use Rattle.flow_link.specs.Plan.{no_link, link_in}
use Rattle.flow_link.specs.Planned.{layout_of}
use Rattle.flow_task.specs.Inputs.{begins_at_input, is_of_input}
use Rattle.flow_task.proofs.LinksFound.{found_where, found_else}
use Rattle.flow_task.proofs.frame.input_links.Goals as goal
use Rattle.flow_task.proofs.frame.input_links.Goals.{in-Input+in_ok-push-in-Input, in-Block}

pub loop-id-preserved : goal.loop-id-preserved
loop-id-preserved g c =
    let layout = layout_of c.args.plan.now in
    let links = c.loop-id.links.items in
    let id = c.loop-id.id in
    let so_far = c.loop-id.invariant in
    let it : c.link.result ≡ link_in layout.links id = c.link.ensures.its_number no_link in
    elim c.match-link.branch [
      | in-Input+in_ok-push-in-Input w ↦
          let passes : begins_at_input layout id ≡ true = sym (ap (λ (l : Link). is_of_input l.source) it) ∙ (let is : is_of_input c.link.result.source ≡ true = search rules in is) in
          let grown : c.match-link.links.items ≡ links ++ id ∷ [] = search rules in
          grown ∙ found_where (begins_at_input layout) id links so_far passes
      | in-Block w ↦
          let not_it : begins_at_input layout id ≡ false = sym (ap (λ (l : Link). is_of_input l.source) it) ∙ (let is : is_of_input c.link.result.source ≡ false = search rules in is) in
          let same : c.match-link.links.items ≡ links = search rules in
          same ∙ found_else (begins_at_input layout) id links so_far not_it
    ]
