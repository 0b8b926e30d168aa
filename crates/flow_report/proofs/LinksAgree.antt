-- At rest, what was given over a link between blocks was taken.
use Rattle.std.proofs.Common.{◌≡◌, ℕ, Result, List, ap, sym, ◌∙◌}
use Rattle.std.proofs.Math.Logic.{∥∥₁_elim}
use Rattle.std.specs.Coded.{Coded-set, coded_list}
use Rattle.flow_value.specs.contracts.value.Value as content
use Rattle.flow_value.specs.declared.value.Value.{Value}
use Rattle.flow_link.specs.Layout.{Layout}
use Rattle.flow_link.specs.Trace.{gave_over, given_by, took_over, taken_by, marks_of}
use Rattle.flow_block_law.proofs.NodesAreLawful.{nodes_are_lawful}
use Rattle.flow_input.proofs.InputsAreParts.{inputs_are_parts}
use Rattle.flow_core.specs.AtRest.{AtRest}
use Rattle.flow_core.specs.Keeps.{IsRun, NetKeeps}
use Rattle.flow_core.specs.State.{NetState, ends_of, run_of_net}
use Rattle.flow_core.proofs.KeptIsLawful.{kept_in_order, parts_keep}
use Rattle.flow_report.specs.SameLists.{AllTaken}

module _ {W : Type 0} (layout : Layout W) (meaning : ℕ → Value → Result (List Value) ℕ) (runs : IsRun layout) (net : NetState)
    (rest : AtRest layout net) where
  link_agrees : NetKeeps layout meaning net → AllTaken (run_of_net layout meaning net)
  link_agrees keeps l s b p there from to =
      let run = run_of_net layout meaning net in
      let parts = parts_keep layout meaning runs net (kept_in_order keeps) (nodes_are_lawful W) (inputs_are_parts W) in
      let given : (ends_of layout net l).source.given ≡ gave_over l (marks_of run s) =
      ((parts.nodes s (runs.leads.from_block l s there from)).sources l there from).given in
      let taken : (ends_of layout net l).target.taken ≡ took_over l (marks_of run b) =
      ((parts.nodes b (runs.leads.to_block l b p there to)).targets l p there to).taken in
      ap (given_by run l) from ∙ sym given ∙ (rest.links l there).all_taken ∙ taken ∙ sym (ap (taken_by run l) to)

  pub links_agree : ∥ NetKeeps layout meaning net ∥₁ → AllTaken (run_of_net layout meaning net)
  links_agree kept l s b p there from to =
      ∥∥₁_elim kept (Coded-set (coded_list content.the_row.coded) _ _) (λ keeps. link_agrees keeps l s b p there from to)
