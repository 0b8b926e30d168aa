-- What the caller of an exit does keeps a network in order: the link knows nothing of it.
use Rattle.std.proofs.Common.{◌≡◌, ℕ, true, get_or, refl, ap, sym, ◌∙◌}
use Rattle.flow_link.specs.declared.plan.LinkTarget.{LinkTarget}
use Rattle.flow_link.specs.declared.plan.LinkTarget.TheVariants.{Port, Exit}
use Rattle.flow_link.specs.Layout.{Layout}
use Rattle.flow_link.specs.Plan.{link_in}
use Rattle.flow_block.specs.Planned.{exit_place}
use Rattle.flow_exit.specs.Exit.{ExitState, ExitCall, after_exit, exit_view, fresh_exit, is_callers}
use Rattle.flow_exit.specs.ExitKeeps.{ExitsKeep, MayCallExit}
use Rattle.flow_core.specs.Events.{with_exit}
use Rattle.flow_core.specs.State.{NetState, exit_at, target_from}
use Rattle.flow_core.specs.Statements.{ExitCallsKeep}
use Rattle.flow_core.proofs.LinesKeep.{keeps_with, line_stays}
use Rattle.flow_core.proofs.PartsChange.{parts_in_order, exit_changes, given_as_before}
use Rattle.flow_link.proofs.PlacesTell.{element_set}

callers_may : (exit : ExitState) (call : ExitCall) → is_callers call ≡ true → MayCallExit call exit
callers_may exit (ExitCall.ask waits) e = tt
callers_may exit ExitCall.receive e = tt
callers_may exit _ e = absurd (cc)

module _ {W : Type 0} (layout : Layout W) (net : NetState) (l : ℕ) (change : ExitState → ExitState)
    (same : exit_view (change (exit_at layout net l)) ≡ exit_view (exit_at layout net l)) where
  taken_from : (k : ℕ) (target : LinkTarget)
      → target_from layout (with_exit layout l change net) k target ≡ target_from layout net k target
  taken_from k (Port t p) = refl
  taken_from k Exit =
      element_set (λ _ exit. exit_view exit ≡ exit_view (exit_at layout net k))
      net.exits (exit_place layout l) (exit_place layout k) (change (exit_at layout net l)) fresh_exit
      (λ place. same ∙ ap (λ (i : ℕ). exit_view (get_or net.exits i fresh_exit)) (sym place))
      refl

pub exit_calls_keep : {W : Type 0} → ExitsKeep → ExitCallsKeep W
exit_calls_keep exits layout meaning runs net l call keeps there to own =
    let exit = exit_at layout net l in
    let change = after_exit call in
    let parts = parts_in_order layout meaning net keeps in
    let law = exits.calls exit call (keeps.exits l there to) (callers_may exit call own) in
    let new = with_exit layout l change net in
    let parts_then = exit_changes layout meaning net parts l there to change law in
    keeps_with layout meaning net keeps new parts_then (λ k low.
    line_stays layout meaning net keeps new parts_then k low refl
    (given_as_before layout meaning net parts l there to change law k)
    (taken_from layout net l change (exits.unseen exit call own) k (link_in layout.links k).target))
