-- A block tries to do something by itself: it is done, or its node is as it was, for want of memory or of message ids. What it makes of
-- a message is what the plan's work makes of it.
use Rattle.std.proofs.Common.{◌≡◌, ℕ, List, Option, Result, Ok, Err, OnOk, OnErr, refl, ap, ap₂, sym, ◌∙◌, subst}
use Rattle.std.specs.List.{HoldsAt}
use Rattle.flow_value.specs.declared.value.Value.{Value}
use Rattle.flow_value.specs.declared.work.WorkFault.{WorkFault}
use Rattle.flow_link.specs.declared.draft.BlockDef.{BlockDef}
use Rattle.flow_link.specs.declared.draft.BlockKind.{BlockKind}
use Rattle.flow_link.specs.Layout.{Layout}
use Rattle.flow_link.specs.Plan.{block_in, no_block}
use Rattle.flow_block.specs.Node.{NodeState}
use Rattle.flow_block.specs.Planned.{block_makes}
use Rattle.flow_block_law.specs.NodeLaw.{NodeLaw}
use Rattle.flow_exec.specs.Works.{results_by, works_of}
use Rattle.flow_task.proofs.OwnSteps.{OwnStep}

-- of a call that ensures both where it is done
pub on_both : {A E : Type 0} (P Q : Type 0) (result : Result A E) → OnOk result P → OnOk result Q → OnOk result (P × Q)
on_both P Q (Ok value) p q = (p, q)
on_both P Q (Err fault) p q = tt

module _ {W : Type 0} (layout : Layout W) (meaning : ℕ → Value → Result (List Value) ℕ) (b : ℕ) where
  own_stays : (node : NodeState) → NodeLaw layout meaning b node → OwnStep layout meaning b node node
  own_stays node law = record {
    law = law;
    ins = λ p k small near apart. refl;
    outs = λ k near apart. refl;
    copies = λ k near apart. refl;
  }

  pub tried : {A E : Type 0} (P : Type 0) (node new : NodeState) (result : Result A E) → OnOk result P → OnErr result (new ≡ node)
      → (NodeLaw layout meaning b node → P → OwnStep layout meaning b node new) → NodeLaw layout meaning b node
      → OwnStep layout meaning b node new
  tried P node new (Ok value) done kept step law = step law done
  tried P node new (Err fault) done kept step law = subst (OwnStep layout meaning b node) (sym kept) (own_stays node law)

-- what the block's work makes of a message is what the block makes of it
pub makes_by_work : {W : Type 0} (meaning : W → Value → Result (List Value) WorkFault) (layout : Layout W) (b : ℕ) (work : Option W)
    (def : BlockDef W) → HoldsAt (λ block. def ≡ block) layout.blocks b → work ≡ def.work
    → (kind : BlockKind) → kind ≡ (block_in layout.blocks b).kind
    → results_by work kind meaning ≡ block_makes layout (works_of meaning layout) b
makes_by_work {W = W} meaning layout b work def defined work_is kind kind_is =
    ap₂ (λ (w : Option W) (k : BlockKind). results_by w k meaning)
    (work_is ∙ ap (λ (d : BlockDef W). d.work) (defined no_block)) kind_is
