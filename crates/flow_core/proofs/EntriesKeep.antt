-- What the caller of an input does keeps a network in order, where the link knows nothing of it.
use Rattle.std.proofs.Common.{◌≡◌, ℕ, true, get_or, refl, ap, sym, ◌∙◌}
use Rattle.flow_link.specs.declared.plan.LinkSource.{LinkSource}
use Rattle.flow_link.specs.declared.plan.LinkSource.TheVariants.{Block, Input}
use Rattle.flow_link.specs.Layout.{Layout}
use Rattle.flow_link.specs.Plan.{link_in}
use Rattle.flow_link.proofs.PlacesTell.{element_set}
use Rattle.flow_block.specs.Planned.{input_place}
use Rattle.flow_input.specs.Input.{InputState, InputCall, after_input, input_view, is_unseen, no_input}
use Rattle.flow_input.specs.InputKeeps.{InputsKeep, InputLaw, MayCallInput}
use Rattle.flow_core.specs.Events.{with_input}
use Rattle.flow_core.specs.State.{NetState, input_at, source_from}
use Rattle.flow_core.specs.Statements.{EntryCallsKeep}
use Rattle.flow_core.proofs.LinesKeep.{keeps_with, line_stays}
use Rattle.flow_core.proofs.PartsChange.{parts_in_order, input_changes, taken_as_before}

unseen : InputsKeep → (input : InputState) (call : InputCall) → InputLaw input → is_unseen call ≡ true → MayCallInput call input
    → input_view (after_input call input) ≡ input_view input
unseen keep input (InputCall.begin value) law own may = keep.views input (InputCall.begin value) law may
unseen keep input (InputCall.send_back value at_once) law own may = keep.views input (InputCall.send_back value at_once) law may
unseen keep input InputCall.tell law own may = keep.views input InputCall.tell law may
unseen keep input InputCall.hand_back law own may = keep.views input InputCall.hand_back law may
unseen keep input InputCall.refuse_back law own may = keep.views input InputCall.refuse_back law may
unseen keep input (InputCall.finish how) law own may = keep.views input (InputCall.finish how) law may
unseen keep input _ law own may = absurd (cc)

module _ {W : Type 0} (layout : Layout W) (net : NetState) (b : ℕ) (change : InputState → InputState)
    (same : input_view (change (input_at layout net b)) ≡ input_view (input_at layout net b)) where
  given_from : (k : ℕ) (source : LinkSource)
      → source_from layout (with_input layout b change net) k source ≡ source_from layout net k source
  given_from k (Block s) = refl
  given_from k (Input c) =
      element_set (λ _ input. input_view input ≡ input_view (input_at layout net c))
      net.inputs (input_place layout b) (input_place layout c) (change (input_at layout net b)) no_input
      (λ place. same ∙ ap (λ (i : ℕ). input_view (get_or net.inputs i no_input)) (sym place))
      refl

pub entry_calls_keep : {W : Type 0} → InputsKeep → EntryCallsKeep W
entry_calls_keep inputs layout meaning runs net l b call keeps there from own may =
    let input = input_at layout net b in
    let change = after_input call in
    let parts = parts_in_order layout meaning net keeps in
    let law = parts.inputs b (runs.leads.from_input l b there from) (runs.leads.from_inputs l b there from) in
    let law_then = inputs.calls input call law may in
    let new = with_input layout b change net in
    let parts_then = input_changes layout meaning runs net parts b change law_then in
    keeps_with layout meaning net keeps new parts_then (λ k low.
    line_stays layout meaning net keeps new parts_then k low refl
    (given_from layout net b change (unseen inputs input call law own may) k (link_in layout.links k).source)
    (taken_as_before layout meaning runs net parts b change law_then k))
