-- A fault with which a block stops has a number: it is its own function's, or one that came over a link.
use Rattle.std.proofs.Common.{◌≡◌, ◌≢◌, ℕ, zero, suc, ◌≤◌, true, List, [], ◌∷◌, Option, Some, None, Result, Ok, Err, ap, sym, ◌∙◌, ⊎_elim, arith, eqb-true}
use Rattle.flow_value.specs.declared.value.Value.{Value}
use Rattle.flow_link.specs.declared.draft.BlockKind.{BlockKind}
use Rattle.flow_link.specs.declared.draft.BlockKind.TheVariants.{Transform}
use Rattle.flow_link.specs.declared.trace.Outcome.TheVariants.{Faulted}
use Rattle.flow_lawful.specs.Endings.{is_number}
use Rattle.flow_link.specs.Lists.{some}
use Rattle.flow_link.specs.Layout.{Layout}
use Rattle.flow_link.specs.Making.{result_of}
use Rattle.flow_link.specs.Plan.{block_in}
use Rattle.flow_link.specs.Trace.{has_fault}
use Rattle.flow_intake.specs.Port.{EndState, PortState, stage_in, fresh_end, fresh_port}
use Rattle.flow_intake.specs.Ended.{fault_seen}
use Rattle.flow_block.specs.Block.{port_in}
use Rattle.flow_block.specs.Node.{NodeState}
use Rattle.flow_block_law.specs.NodeLaw.{NodeLaw, is_fault_seen}
use Rattle.flow_block_law.proofs.FaultsSeen.{sees_at}
use Rattle.flow_block_law.proofs.JournalTells.{fault_marked}
use Rattle.flow_link.proofs.TestsTell.{some_tells}

-- a result that is not one value is no fault 0
pub made_by_number : (kind : BlockKind) (result : Result (List Value) ℕ) → result ≢ Err 0 → result_of kind result ≢ Err 0
made_by_number Transform (Ok []) never e = cc
made_by_number Transform (Ok (value ∷ [])) never e = cc
made_by_number Transform (Ok (value ∷ other ∷ values)) never e = cc
made_by_number Transform (Err n) never e = never e
made_by_number _ result never e = never e

at_least_one : (number : ℕ) {A : Type 0} (result : Result A ℕ) → result ≢ Err 0 → result ≡ Err number → 1 ≤ number
at_least_one zero result never is = absurd (never is)
at_least_one (suc n) result never is = omega arith

number_is : (number : ℕ) (found : Option ℕ) → is_number number found ≡ true → found ≡ Some number
number_is number None e = absurd (cc)
number_is number (Some fault) e = ap Some (eqb-true fault number e)

module _ {W : Type 0} (layout : Layout W) (meaning : ℕ → Value → Result (List Value) ℕ) (b : ℕ) (node : NodeState)
    (law : NodeLaw layout meaning b node) where
  own_numbered : (number : ℕ) → node.block.fault ≡ Some number → 1 ≤ number
  own_numbered number own =
      let kind = (block_in layout.blocks b).kind in
      let fails = law.makes.fault_is number own in
      at_least_one number (result_of kind (meaning b fails.message))
      (made_by_number kind (meaning b fails.message) (law.by_number fails.message)) fails.fails

  seen_numbered : (number : ℕ) → some (λ (port : PortState). sees_at number port) node.block.ports ≡ true → 1 ≤ number
  seen_numbered number seen =
      let port = some_tells (λ (port : PortState). sees_at number port) node.block.ports (fresh_port None) seen in
      let ends = (port_in node.block.ports port.place).ends in
      let end = some_tells (λ (end : EndState). is_fault_seen number end) ends (fresh_end 0) port.passes in
      law.ends.numbered port.place end.place port.there end.there number
      (number_is number (fault_seen (stage_in end.place ends)) end.passes)

  pub marks_numbered : (number : ℕ) → has_fault number node.journal ≡ true → 1 ≤ number
  marks_numbered number has = ⊎_elim (own_numbered number) (seen_numbered number) (law.ends.fault_cause number has)

  pub stops_numbered : (number : ℕ) → node.block.stopped ≡ Some (Faulted number) → 1 ≤ number
  stops_numbered number stopped =
      marks_numbered number (fault_marked node.journal number (sym law.ends.stopped_is ∙ stopped))
