-- What a node in order does next has its cause: it refuses, puts off, takes, faults and keeps back its head for no other.
use Rattle.std.specs.Prelude.{◌≡◌, ℕ, ◌+◌, ◌<◌, ◌≤◌, ◌⊎◌, true, false, List, ◌∷◌, length, Some, None, Result}
use Rattle.flow_value.specs.declared.value.Value.{Value}
use Rattle.flow_link.specs.declared.phase.Move.TheVariants as move
use Rattle.flow_link.specs.Layout.{Layout}
use Rattle.flow_link.specs.Trace.{has_ended}
use Rattle.flow_intake.specs.Port.{coming}
use Rattle.flow_intake.specs.Profile.{TakesAtOnce}
use Rattle.flow_outlet.specs.End.{is_free}
use Rattle.flow_outlet.specs.Order.{StopsAt}
use Rattle.flow_outlet.specs.Outlet.{is_empty, stage_at, is_at_rest}
use Rattle.flow_block.specs.Block.{port_at, held_by}
use Rattle.flow_block_law.specs.NextMoves.{next_in, next_out}
use Rattle.flow_block.specs.Node.{NodeState}
use Rattle.flow_block_law.specs.NodeLaw.{NodeLaw, FaultsOn}
use Rattle.flow_block.specs.Peeks.{next_fault, nothing_comes, is_worked_off}
use Rattle.flow_block.specs.Planned.{block_makes}

module _ {W : Type 0} (layout : Layout W) (meaning : ℕ → Value → Result (List Value) ℕ) (b : ℕ) (node : NodeState) where
  -- the block's own function faults so on the message that it holds first
  abbrev pub FaultsItself : ℕ → Type 0
  FaultsItself number = FaultsOn (block_makes layout meaning b) node.block.kind (held_by node.block) number

  -- a cause to refuse whatever comes to a port
  abbrev pub MayRefuse : ℕ → Type 0
  MayRefuse p = (has_ended p node.journal ≡ true) ⊎ ((number : ℕ) × FaultsItself number)

  -- it faults when nothing is on its way into it or out of it, and by a fault that it has seen only when it could make nothing
  -- more of what it took
  pub record FaultsInTime (number : ℕ) : Type 0 where
    pub none_comes : nothing_comes node.block.ports ≡ true
    pub none_away : is_at_rest node.block.exits ≡ true
    pub cause : FaultsItself number ⊎ (is_worked_off node.block ≡ true)

  -- the head is offered, or something is still under way, over this link or an earlier one that the head does not go past
  pub record OffersBefore (k : ℕ) : Type 0 where
    pub place : ℕ
    pub before : place ≤ k
    pub goes_on : (next_out place node ≡ Some (move.Offer node.block.exits.next)) ⊎ (is_free (stage_at node.block.exits place) ≡ false)

  -- an offer of the head is taken back first, so that the head is offered anew
  pub record TakesBack : Type 0 where
    pub place : ℕ
    pub there : place < length node.block.exits.ends
    pub goes_on : next_out place node ≡ Some move.Withdraw

  pub record HasCauses : Type 0 where
    pub refuses : (p k : ℕ) → p < length node.block.ports → k < length (port_at p node.block).ends
        → next_in p k node ≡ Some move.Refuse → MayRefuse p
    -- an offer is put off only where there is no room, or another waits
    pub puts_off : (p k : ℕ) → next_in p k node ≡ Some move.Postpone → ¬ TakesAtOnce (port_at p node.block)
    -- a message is taken only with room for it beside those that are on their way, and a waiting one only in its turn
    pub takes : (p k capacity : ℕ) → (port_at p node.block).capacity ≡ Some capacity → next_in p k node ≡ Some move.Want
        → (port_at p node.block).load + coming (port_at p node.block) < capacity
    pub consumes : (p k capacity : ℕ) → (port_at p node.block).capacity ≡ Some capacity → next_in p k node ≡ Some move.Consume
        → (port_at p node.block).load + coming (port_at p node.block) < capacity
    pub oldest : (p k : ℕ) → next_in p k node ≡ Some move.Consume → (rest : List ℕ) × ((port_at p node.block).queue ≡ k ∷ rest)
    pub faults : (number : ℕ) → next_fault node.block ≡ Some number → FaultsInTime number
    -- a block does not stop offering while a link is free that the head does not go past
    pub offers : (k : ℕ) → k < length node.block.exits.ends → node.block.stopped ≡ None → is_empty node.block.exits.left ≡ false
        → node.block.exits.offer ≡ None → StopsAt node.block.exits k → OffersBefore k ⊎ TakesBack

abbrev pub NextMovesHaveCauses : Type 0 → Type 0
NextMovesHaveCauses W =
    (layout : Layout W) (meaning : ℕ → Value → Result (List Value) ℕ) (b : ℕ) (node : NodeState)
    → NodeLaw layout meaning b node → HasCauses layout meaning b node
