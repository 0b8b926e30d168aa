-- A block merely in order has as many ports and links as the plan says.
use Rattle.std.proofs.Common.{◌≡◌, ℕ, ◌<◌, ◌≤◌, List, length, Result, sym, ap₂, ◌∙◌, subst}
use Rattle.std.proofs.Math.Logic.{∥∥₁_elim}
use Rattle.std.proofs.Math.Nat.{ℕ_set}
use Rattle.flow_value.specs.declared.value.Value.{Value}
use Rattle.flow_link.specs.declared.plan.Plan.{Plan}
use Rattle.flow_link.specs.Layout.{Layout}
use Rattle.flow_link.specs.Plan.{block_in, port_count}
use Rattle.flow_link.specs.Planned.{layout_of}
use Rattle.flow_link.proofs.PortsAreFew.{at_most_three}
use Rattle.flow_block.specs.Node.{NodeState}
use Rattle.flow_block.specs.Planned.{links_from, links_to}
use Rattle.flow_block_law.specs.NodeLaw.{NodeLaw}
use Rattle.flow_core.specs.MovesFit.{out_count, in_count}
use Rattle.flow_core.proofs.PlacesRule.{out_count_is, in_count_is}

module _ {W : Type 0} (layout : Layout W) (meaning : ℕ → Value → Result (List Value) ℕ) (b : ℕ) (node : NodeState)
    (law : ∥ NodeLaw layout meaning b node ∥₁) where
  pub outs_many : out_count node ≡ length (links_from layout b)
  outs_many = ∥∥₁_elim law (ℕ_set _ _) (λ l. out_count_is layout meaning b node l)

  pub ports_many : length node.block.ports ≡ port_count (block_in layout.blocks b)
  ports_many = ∥∥₁_elim law (ℕ_set _ _) (λ l. l.shape.port_count_is)

  pub ins_many : (p : ℕ) → p < length node.block.ports → in_count p node ≡ length (links_to layout b p)
  ins_many p port = ∥∥₁_elim law (ℕ_set _ _) (λ l. in_count_is layout meaning b node l p port)

-- Two nodes of one block have as many ports and links as each other
module _ {W : Type 0} (layout layout' : Layout W) (meaning meaning' : ℕ → Value → Result (List Value) ℕ) (b b' : ℕ) (node node' : NodeState)
    (law : ∥ NodeLaw layout meaning b node ∥₁) (law' : ∥ NodeLaw layout' meaning' b' node' ∥₁) (same : layout ≡ layout') (number : b ≡ b') where
  pub outs_alike : out_count node ≡ out_count node'
  outs_alike =
      outs_many layout meaning b node law ∙ ap₂ (λ (l : Layout W) (n : ℕ). length (links_from l n)) same number
      ∙ sym (outs_many layout' meaning' b' node' law')

  pub ports_alike : length node.block.ports ≡ length node'.block.ports
  ports_alike =
      ports_many layout meaning b node law ∙ ap₂ (λ (l : Layout W) (n : ℕ). port_count (block_in l.blocks n)) same number
      ∙ sym (ports_many layout' meaning' b' node' law')

  pub ins_alike : (p : ℕ) → p < length node'.block.ports → in_count p node ≡ in_count p node'
  ins_alike p port =
      ins_many layout meaning b node law p (subst (λ (n : ℕ). p < n) (sym ports_alike) port)
      ∙ ap₂ (λ (l : Layout W) (n : ℕ). length (links_to l n p)) same number
      ∙ sym (ins_many layout' meaning' b' node' law' p port)

-- a block of a plan has three ports at most
pub few_ports : {W : Type 0} (plan : Plan W) (meaning : ℕ → Value → Result (List Value) ℕ) (b : ℕ) → b < length (layout_of plan).blocks
    → (node : NodeState) → ∥ NodeLaw (layout_of plan) meaning b node ∥₁ → length node.block.ports ≤ 3
few_ports plan meaning b there node law =
    subst (λ (count : ℕ). count ≤ 3) (sym (ports_many (layout_of plan) meaning b node law))
    (at_most_three (block_in plan.blocks.items b) (plan.well_formed.options b there))
