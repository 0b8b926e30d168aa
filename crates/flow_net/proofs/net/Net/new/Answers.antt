use Rattle.std.proofs.Common.{◌≡◌, map, refl, ap, sym, subst, ◌∙◌}
use Rattle.std.proofs.lemmas.List.{length-map}
use Rattle.std.proofs.lemmas.Grind.{merely}
use Rattle.flow_link.specs.Planned.{layout_of}
use Rattle.flow_input.specs.Input.{input_trace}
use Rattle.flow_core.specs.Keeps.{NetKeeps}
use Rattle.flow_core.specs.State.{NetState, fresh_net}
use Rattle.flow_core.proofs.NetworksInOrder.{fresh_nets_keep}
use Rattle.flow_exec.specs.Works.{works_of}
use Rattle.flow_moves.proofs.PlansRun.{plan_runs}
use Rattle.flow_link.specs.Posted.{input_of}
use Rattle.flow_block.specs.Planned.{links_out}
use Rattle.flow_net.specs.Asked.{none_asked}
use Rattle.flow_net.proofs.NoneAsked.{unasked_fresh}
use Rattle.flow_net.proofs.KeptOn.{fresh_posted}
use Rattle.flow_net.proofs.WorksNumbered.{works_fault_by_number}
use Rattle.flow_net.proofs.net.Net.new.Goals as goal

pub invariant_of-result-in-Ok : goal.invariant_of-result-in-Ok
invariant_of-result-in-Ok g c =
    let layout = layout_of c.args.plan in
    let meaning = works_of g.W.Runs.meaning layout in
    let posted = map input_of c.args.posted.items in
    let count = length-map c.args.posted.items input_of ∙ c.requires.one_each in
    let kept : NetKeeps layout meaning (fresh_net layout posted) =
    fresh_nets_keep _ layout meaning (plan_runs c.args.plan)
    (works_fault_by_number _ g.W.Runs.meaning g.met.W.Runs.never_memory layout) posted count c.requires.numbered in
    let is_fresh : c.new-parts.result ≡ fresh_net layout posted =
    c.new-parts.ensures ∙ rw (c.in-Ok.ensures.nodes, c.fill_inputs-inputs.ensures, c.in-Ok.ensures.exits, c.in-Ok.ensures.lines) refl in
    record {
      kept = merely (subst (λ (net : NetState). NetKeeps layout meaning net) (sym is_fresh) kept);
      unasked = ap none_asked is_fresh ∙ unasked_fresh (links_out layout);
    }

pub returns-in-Ok-clause-made : goal.returns-in-Ok-clause-made
returns-in-Ok-clause-made g c =
    ap (λ (net : NetState). map input_trace net.inputs) c.new-parts.ensures
    ∙ ap (map input_trace) c.fill_inputs-inputs.ensures
    ∙ fresh_posted (map input_of c.args.posted.items)
