-- What a block's own answer tells of its network: whether an event of the block with a number is enabled.
use Rattle.std.proofs.Common.{◌≡◌, ℕ, ◌<◌, ◌≤◌, ◌↔◌, IsTrue, Bool, true, ltb, ltb-true, List, length}
use Rattle.std.proofs.Common.{Result, sym, ap, subst, ◌∙◌, arith}
use Rattle.std.proofs.Math.Bridge.{le_prop}
use Rattle.std.proofs.Math.Logic.{∥∥₁_elim}
use Rattle.flow_value.specs.declared.value.Value.{Value}
use Rattle.flow_value.specs.declared.work.WorkFault.{WorkFault}
use Rattle.flow_link.specs.declared.phase.Move.{Move}
use Rattle.flow_link.specs.declared.plan.Plan.{Plan}
use Rattle.flow_link.specs.Layout.{Layout}
use Rattle.flow_link.specs.Plan.{block_in, port_count}
use Rattle.flow_link.specs.Planned.{layout_of}
use Rattle.flow_block.specs.Block.{BlockState}
use Rattle.flow_block.specs.Node.{NodeState}
use Rattle.flow_core.specs.Events.{BlockMay, LinkMay, PortMay, Enabled}
use Rattle.flow_core.specs.Keeps.{NetKeeps}
use Rattle.flow_core.specs.State.{NetState, node_at}
use Rattle.flow_exec.specs.Works.{works_of}
use Rattle.flow_moves.proofs.MerelyKept.{line_count_is, node_count_is}
use Rattle.flow_net.specs.Dues.{event_of}
use Rattle.flow_net.specs.Engine.{LinkHasIdIn}
use Rattle.flow_net.specs.declared.due.Due.{Due}
use Rattle.flow_net.specs.declared.engine.Engine.{Engine}

-- a number below the count of the blocks is that of one
pub below_count : {n count b : ℕ} → count ≡ n → b < count → b < n
below_count {n} {count} {b} is low = subst (λ (k : ℕ). b < k) is low

-- and no number is below a count that is at most it
pub too_high : (b count : ℕ) → count ≤ b → IsTrue (ltb b count) → ⊥
too_high b count high low = let less : b < count = ltb-true b count low in omega (arith, high, less)

-- there is a node with the number of a block
module _ {W : Type 0} (works : W → Value → Result (List Value) WorkFault) (plan : Plan W) (net : NetState)
    (kept : ∥ NetKeeps (layout_of plan) (works_of works (layout_of plan)) net ∥₁) (b : ℕ) where
  pub node_there : b < length (layout_of plan).blocks → b < length net.nodes
  node_there there =
      subst (λ (n : ℕ). b < n) (sym (node_count_is (layout_of plan) (works_of works (layout_of plan)) net kept)) there

  -- and so is a line with that of a link
  pub line_there : b < length (layout_of plan).links → b < length net.lines
  line_there there =
      subst (λ (n : ℕ). b < n) (sym (line_count_is (layout_of plan) (works_of works (layout_of plan)) net kept)) there

-- a port that the plan has there is one of the block's
pub port_there : {W : Type 0} (works : W → Value → Result (List Value) WorkFault) (plan : Plan W) (net : NetState)
    → ∥ NetKeeps (layout_of plan) (works_of works (layout_of plan)) net ∥₁ → (b p : ℕ) → b < length (layout_of plan).blocks
    → p < port_count (block_in (layout_of plan).blocks b) → p < length (node_at net b).block.ports
port_there works plan net kept b p there small =
    ∥∥₁_elim kept le_prop (λ keeps. subst (λ (count : ℕ). p < count) (sym (keeps.nodes b there).shape.port_count_is) small)

module _ {W : Type 0} (layout : Layout W) (net : NetState) where
  -- the block of the node with a number
  module _ (b : ℕ) {node : NodeState} (node_is : node ≡ node_at net b) {block : BlockState} (block_is : block ≡ node.block) where
    pub block_at : block ≡ (node_at net b).block
    block_at = block_is ∙ ap (λ (it : NodeState). it.block) node_is

    -- what it answers is told of the network's
    pub tells : (test : BlockState → Bool) {told : Bool} → told ≡ test block → told ≡ test (node_at net b).block
    tells test is = is ∙ ap test block_at

    pub may_told : b < length layout.blocks → (test : BlockState → Bool) {told : Bool} → told ≡ test block
        → IsTrue told ↔ BlockMay layout net b (test (node_at net b).block)
    may_told there test is = (
      λ so. record { there = there; would = sym (tells test is) ∙ so },
      λ may. tells test is ∙ may.would,
    )

    pub may_where : b < length layout.blocks → (test : BlockState → Bool) {told : Bool} → told ≡ test block → told ≡ true
        → BlockMay layout net b (test (node_at net b).block)
    may_where there test is so = record { there = there; would = sym (tells test is) ∙ so }

  -- no event of a block that is not there is enabled
  pub no_block_may : (b : ℕ) (test : Bool) {count : ℕ} → count ≡ length layout.blocks → count ≤ b
      → IsTrue (ltb b count) ↔ BlockMay layout net b test
  no_block_may b test {count} is high = (
    λ low. absurd (too_high b count high low),
    λ may. let there : b < length layout.blocks = may.there in absurd (omega (arith, is, high, there)),
  )

  pub no_port_may : (b p : ℕ) {count : ℕ} → count ≡ length layout.blocks → count ≤ b
      → IsTrue (ltb b count) ↔ PortMay layout net b p
  no_port_may b p {count} is high = (
    λ low. absurd (too_high b count high low),
    λ may. let there : b < length layout.blocks = may.there in absurd (omega (arith, is, high, there)),
  )

  pub no_link_may : (l : ℕ) (next : Move) {count : ℕ} → count ≡ length layout.links → count ≤ l
      → IsTrue (ltb l count) ↔ LinkMay layout net l next
  no_link_may l next {count} is high = (
    λ low. absurd (too_high l count high low),
    λ may. let there : l < length layout.links = may.there in absurd (omega (arith, is, high, there)),
  )

  -- the same of the event as a driver names it
  pub told_as : {event due : Due} {told : Bool} → event ≡ due → IsTrue told ↔ Enabled layout net (event_of due)
      → IsTrue told ↔ Enabled layout net (event_of event)
  told_as {event} {due} {told} is same =
      subst (λ (it : Due). IsTrue told ↔ Enabled layout net (event_of it)) (sym is) same

  pub enabled_as : {event due : Due} → event ≡ due → Enabled layout net (event_of event) → Enabled layout net (event_of due)
  enabled_as is enabled = subst (λ (it : Due). Enabled layout net (event_of it)) is enabled

pub id_as : {W : Type 0} (works : W → Value → Result (List Value) WorkFault) (engine : Engine W) {event due : Due} → event ≡ due
    → LinkHasIdIn works engine (event_of due) → LinkHasIdIn works engine (event_of event)
id_as works engine is id = subst (λ (it : Due). LinkHasIdIn works engine (event_of it)) (sym is) id
