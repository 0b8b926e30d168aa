-- What a node would do next at an end of a link is a call that it may make.
use Rattle.std.specs.Prelude.{◌≡◌, ℕ, ◌<◌, cond, List, length, Option, Some, Result}
use Rattle.flow_value.specs.declared.value.Value.{Value}
use Rattle.flow_link.specs.declared.phase.Move.{Move}
use Rattle.flow_link.specs.declared.phase.Move.TheVariants as move
use Rattle.flow_link.specs.Layout.{Layout}
use Rattle.flow_link.specs.Plan.{is_one_taker}
use Rattle.flow_link.specs.WellFormed.{IsWellFormed}
use Rattle.flow_outlet.specs.Outlet.{out_move}
use Rattle.flow_block.specs.Block.{port_at}
pub use Rattle.flow_block.specs.Node.{next_in}
use Rattle.flow_block.specs.Node.{NodeState, NodeCall}
use Rattle.flow_block_law.specs.NodeKeeps.{MayCall}
use Rattle.flow_block_law.specs.NodeLaw.{NodeLaw}
use Rattle.flow_block_law.specs.NextCopies.{next_copy, MayMoveCopy}
use Rattle.flow_block.specs.Peeks.{is_held_up}

-- what the end of a link out of the node would do next
abbrev pub next_out : ℕ → NodeState → Option Move
next_out k node = out_move k node.block.stopped (is_held_up node.block) node.block.exits

-- and of either, by whether its block shares its messages out or copies them
abbrev pub next_source : ℕ → NodeState → Option Move
next_source k node = cond (is_one_taker node.block.kind) (next_out k node) (next_copy k node)

module _ {W : Type 0} (layout : Layout W) (meaning : ℕ → Value → Result (List Value) ℕ) (b : ℕ) (node : NodeState) where
  abbrev pub May : NodeCall → Type 0
  May call = MayCall layout meaning b call node

  -- the move is the target's, and its call may be made
  abbrev pub MayMoveIn : ℕ → ℕ → Move → Type 0
  MayMoveIn p k move.Want = May (NodeCall.want p k)
  MayMoveIn p k move.TurnDown = May (NodeCall.turn_down p k)
  MayMoveIn p k move.Postpone = May (NodeCall.postpone p k)
  MayMoveIn p k move.Refuse = May (NodeCall.refuse p k)
  MayMoveIn p k move.Consume = May (NodeCall.consume p k)
  MayMoveIn p k move.Ask = May (NodeCall.ask p k)
  MayMoveIn p k move.Claim = May (NodeCall.claim p k)
  MayMoveIn p k move.Release = May (NodeCall.release p k)
  MayMoveIn p k move.Open = (value : Value) → May (NodeCall.open_with p k value)
  MayMoveIn p k move.Close = May (NodeCall.close p k)
  MayMoveIn p k _ = ⊥

  -- the same of the source's; the head has the id that comes next
  abbrev pub MayMoveOut : ℕ → Move → Type 0
  MayMoveOut k (move.Offer id) = (id ≡ node.block.exits.next) × May (NodeCall.offer k)
  MayMoveOut k move.Give = May (NodeCall.give k)
  MayMoveOut k move.Hold = May (NodeCall.hold k)
  MayMoveOut k move.Deny = May (NodeCall.deny k)
  MayMoveOut k move.Withdraw = May (NodeCall.withdraw k)
  MayMoveOut k (move.End how) = May (NodeCall.end_link k how)
  MayMoveOut k _ = ⊥

abbrev pub NextMovesMay : Type 0 → Type 0
NextMovesMay W =
    (layout : Layout W) (meaning : ℕ → Value → Result (List Value) ℕ) (b : ℕ) (node : NodeState) → IsWellFormed layout.blocks layout.links
    → b < length layout.blocks → NodeLaw layout meaning b node
    → ((p k : ℕ) (next : Move) → p < length node.block.ports → k < length (port_at p node.block).ends → next_in p k node ≡ Some next
    → MayMoveIn layout meaning b node p k next)
    × ((k : ℕ) (next : Move) → k < length node.block.exits.ends → next_out k node ≡ Some next → MayMoveOut layout meaning b node k next)
    × ((k : ℕ) (next : Move) → k < length node.block.copies.ends → next_copy k node ≡ Some next → MayMoveCopy k node next)
