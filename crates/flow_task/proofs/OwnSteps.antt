-- What a block does by itself keeps its node in order, and no end of its links learns anything.
use Rattle.std.proofs.Common.{◌≡◌, ℕ, ◌<◌, not, true, false, List, length, Some, Result, is_none, refl, ap, sym, subst}
use Rattle.std.specs.Coded.{codes}
use Rattle.std.proofs.Math.Logic.{∥∥₁_elim, ∥∥₁_map}
use Rattle.std.proofs.lemmas.Bool.{and_parts, not-true}
use Rattle.atomic_table.specs.Seated.{TableId, table_id_coded}
use Rattle.flow_value.specs.declared.value.Value.{Value}
use Rattle.flow_value.specs.contracts.value.Value as content
use Rattle.flow_link.specs.Lists.{every}
use Rattle.flow_link.specs.Layout.{Layout}
use Rattle.flow_link.specs.Plan.{has_work, is_broadcast}
use Rattle.flow_block.specs.Jobs.{Slot}
use Rattle.flow_block.specs.Node.{NodeState, NodeCall}
use Rattle.flow_block.specs.Peeks.{may_work, may_make, may_begin, may_complete, next_fault, may_finish, lacks_next}
use Rattle.flow_block.specs.Planned.{block_makes}
use Rattle.flow_block_law.specs.JobsEnd.{MayEndJob, after_job}
use Rattle.flow_block_law.specs.NodeKeeps.{MayCall}
use Rattle.flow_block_law.specs.NodeLaw.{NodeLaw}
use Rattle.flow_block_law.specs.ViewsMove.{IsAboutIn, IsAboutOut, IsAboutCopy}
use Rattle.flow_block_law.proofs.JobsEnd.{jobs_end_well}
use Rattle.flow_block_law.proofs.NodesKept.{nodes_kept}
use Rattle.flow_block_law.proofs.ViewsMove.{calls_move_views}
use Rattle.flow_core.proofs.EndsStep.{call_steps}
use Rattle.flow_core.proofs.EventsKeep.{ids_left}
use Rattle.flow_core.proofs.PartsChange.{NodeSteps}
use Rattle.flow_moves.specs.Calls.{Calls}
use Rattle.flow_moves.specs.Statements.{IsPlanned}
use Rattle.flow_moves.proofs.MerelyKept.{block_planned}
use Rattle.flow_moves.proofs.OneProof.{planned_prop}
use Rattle.flow_task.specs.Known.{OutKnown, InKnown, outs_due, ins_due}
use Rattle.flow_task.proofs.EndsOf.{outs_stay, ins_stay}

pub Outs-set : IsSet (List OutKnown)
Outs-set = Prim.hlevel (codes, table_id_coded, content.the_row.coded)

pub Ins-set : IsSet (List (List InKnown))
Ins-set = Prim.hlevel (codes, table_id_coded, content.the_row.coded)

module _ {W : Type 0} (layout : Layout W) (meaning : ℕ → Value → Result (List Value) ℕ) (b : ℕ) where
  -- no end of it is concerned
  abbrev pub OwnStep : NodeState → NodeState → Type 0
  OwnStep node new = NodeSteps layout meaning b (λ q j. ⊥) (λ j. ⊥) node new

  module _ (node : NodeState) (law : NodeLaw layout meaning b node) where
    by_call : (call : NodeCall) → MayCall layout meaning b call node → ((q j : ℕ) → IsAboutIn q j call → ⊥)
        → ((j : ℕ) → IsAboutOut j call → ⊥) → ((j : ℕ) → IsAboutCopy j call → ⊥) → (new : NodeState)
        → Calls (Some call) node new → OwnStep node new
    by_call call may about_in about_out about_copy new calls =
        subst (OwnStep node) (sym (calls (block_makes layout meaning b)))
        (call_steps layout meaning (nodes_kept W) (calls_move_views W) b node law (λ q j. ⊥) (λ j. ⊥) call may about_in about_out about_copy)

    pub makes : may_make node.block ≡ true → lacks_next (block_makes layout meaning b) node ≡ false → (new : NodeState)
        → Calls (Some NodeCall.make) node new → OwnStep node new
    makes would ids new calls =
        let block = node.block in
        let both = and_parts (may_work block) (not (has_work block.kind)) would in
        let none = law.jobs.only_works (not-true (has_work block.kind) both.1) in
        let left = ids_left layout meaning b node law (is_broadcast block.kind) refl ids in
        by_call NodeCall.make
        (record {
          waits = both.0;
          all_out = ap (λ (slots : List Slot). every is_none slots) none;
          ids = left.ids;
          copy_id = left.copy_id;
        })
        (λ q j about. about) (λ j about. about) (λ j about. about) new calls

    pub begins : may_begin node.block ≡ true → (new : NodeState) → Calls (Some NodeCall.begin) node new → OwnStep node new
    begins would new calls = by_call NodeCall.begin would (λ q j about. about) (λ j about. about) (λ j about. about) new calls

    pub ends_job : (ticket : ℕ) → MayEndJob (block_makes layout meaning b) ticket node → (new : NodeState)
        → new ≡ after_job (block_makes layout meaning b) ticket node → OwnStep node new
    ends_job ticket may new is =
        let well = jobs_end_well W layout meaning b node ticket law may in
        subst (OwnStep node) (sym is)
        (record {
          law = well.law;
          ins = λ p k small near apart. well.views.ins p k small near;
          outs = λ k near apart. well.views.outs k near;
          copies = λ k near apart. well.views.copies k near;
        })

    pub completes : (p : ℕ) → p < length node.block.ports → may_complete p node.block ≡ true → (new : NodeState)
        → Calls (Some (NodeCall.complete p)) node new → OwnStep node new
    completes p port would new calls =
        by_call (NodeCall.complete p) (record { port = port; completes = would })
        (λ q j about. about) (λ j about. about) (λ j about. about) new calls

    pub faults : (number : ℕ) → next_fault node.block ≡ Some number → (new : NodeState)
        → Calls (Some (NodeCall.fault number)) node new → OwnStep node new
    faults number would new calls =
        by_call (NodeCall.fault number) would (λ q j about. about) (λ j about. about) (λ j about. about) new calls

    pub finishes : may_finish node.block ≡ true → (new : NodeState) → Calls (Some NodeCall.finish) node new → OwnStep node new
    finishes would new calls = by_call NodeCall.finish would (λ q j about. about) (λ j about. about) (λ j about. about) new calls

  -- Where it merely is in order
  module _ (wires : List TableId) (node new : NodeState) (law : ∥ NodeLaw layout meaning b node ∥₁)
      (step : NodeLaw layout meaning b node → OwnStep node new) where
    pub own_law : ∥ NodeLaw layout meaning b new ∥₁
    own_law = ∥∥₁_map law (λ l. (step l).law)

    pub own_outs : outs_due layout wires b node ≡ outs_due layout wires b new
    own_outs =
        ∥∥₁_elim law (Outs-set _ _) (λ l.
        outs_stay layout meaning b wires (λ q j. ⊥) (λ j. ⊥) node new l (step l) (λ j about. about))

    pub own_ins : ins_due layout wires b node ≡ ins_due layout wires b new
    own_ins =
        ∥∥₁_elim law (Ins-set _ _) (λ l.
        ins_stay layout meaning b wires (λ q j. ⊥) (λ j. ⊥) node new l (step l) (λ q j about. about))

  pub planned : (node : NodeState) → ∥ NodeLaw layout meaning b node ∥₁ → IsPlanned layout b node.block
  planned node law = ∥∥₁_elim law (planned_prop layout b node.block) (λ l. block_planned layout meaning b node l)
