-- The ends of a network's links look one after another.
use Rattle.std.proofs.Common.{◌≡◌, ℕ, ◌<◌, ◌≤◌, List, length, Result, sym, subst}
use Rattle.std.proofs.Math.Logic.{∥∥₁_elim, ∥∥₁_map}
use Rattle.flow_value.specs.declared.value.Value.{Value}
use Rattle.flow_value.specs.declared.work.WorkFault.{WorkFault}
use Rattle.flow_link.specs.declared.plan.Plan.{Plan}
use Rattle.flow_link.specs.Layout.{Layout}
use Rattle.flow_link.specs.Planned.{layout_of}
use Rattle.flow_block.specs.Routes.{route_of}
use Rattle.flow_core.specs.InOrder.{NetInOrder, all_looked}
use Rattle.flow_core.specs.Keeps.{NetKeeps}
use Rattle.flow_core.specs.State.{NetState}
use Rattle.flow_core.proofs.AllLook.{all_looks_keep, some_looks_keep}
use Rattle.flow_exec.specs.Works.{works_of}
use Rattle.flow_moves.proofs.LinksThere.{link_there}
use Rattle.flow_moves.proofs.OneProof.{there_prop}
use Rattle.flow_moves.proofs.PlansRun.{plan_runs}
use Rattle.flow_moves.specs.Ready.{IsThere}

module _ {W : Type 0} (works : W → Value → Result (List Value) WorkFault) (plan : Plan W) where
  abbrev layout : Layout W
  layout = layout_of plan

  abbrev meaning : ℕ → Value → Result (List Value) ℕ
  meaning = works_of works layout

  abbrev InOrder : NetState → Type 0
  InOrder net = ∥ NetInOrder layout meaning net ∥₁

  -- each link has its ends where its way says
  pub ends_there : (net : NetState) → InOrder net → (l : ℕ) → l < length layout.links → IsThere net l (route_of layout l)
  ends_there net ok l there =
      ∥∥₁_elim ok (there_prop net l (route_of layout l)) (λ ok. link_there layout meaning (plan_runs plan) net ok l there)

  module _ (start : NetState) (ok : InOrder start) where
    -- as long as some have looked, all is in order
    pub order_so_far : (n : ℕ) → n ≤ length layout.links → (now : NetState) → now ≡ all_looked layout meaning n start → (same_plan : Plan W)
        → same_plan ≡ plan → ∥ NetInOrder (layout_of same_plan) (works_of works (layout_of same_plan)) now ∥₁
    order_so_far n within now is same_plan same =
        subst (λ (p : Plan W). ∥ NetInOrder (layout_of p) (works_of works (layout_of p)) now ∥₁) (sym same)
        (subst (λ (net : NetState). InOrder net) (sym is)
        (∥∥₁_map ok (λ ok. some_looks_keep layout meaning (plan_runs plan) n within start ok)))

    -- and when all have, the network is in order
    pub all_aware : (now : NetState) → now ≡ all_looked layout meaning (length layout.links) start → (same_plan : Plan W) → same_plan ≡ plan
        → ∥ NetKeeps (layout_of same_plan) (works_of works (layout_of same_plan)) now ∥₁
    all_aware now is same_plan same =
        subst (λ (p : Plan W). ∥ NetKeeps (layout_of p) (works_of works (layout_of p)) now ∥₁) (sym same)
        (subst (λ (net : NetState). ∥ NetKeeps layout meaning net ∥₁) (sym is)
        (∥∥₁_map ok (λ ok. all_looks_keep _ layout meaning (plan_runs plan) start ok)))
