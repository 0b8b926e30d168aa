-- How what an end of a link knows changes by a call of its node: its own moves and looks change it as the laws of one link have
-- it, and no other end of the node learns anything by that.
use Rattle.std.specs.Prelude.{◌≡◌, ℕ, ◌<◌, List, length, Some, Result}
use Rattle.flow_value.specs.declared.value.Value.{Value}
use Rattle.flow_link.specs.Layout.{Layout}
use Rattle.flow_link.specs.Looks.{looking_in, looking_out}
use Rattle.flow_link.specs.Moves.{offering, ending, giving, denying, holding, withdrawing, wanting, turning_down, refusing, postponing, consuming, asking, claiming, releasing, opening, closing}
use Rattle.flow_link.specs.Stage.{refusal_of}
use Rattle.flow_intake.specs.Calls.{message_of}
use Rattle.flow_intake.specs.Port.{stage_at as port_stage}
use Rattle.flow_link.specs.declared.stage.Refusal.{Refusal}
use Rattle.flow_outlet.specs.Outlet.{head_of}
use Rattle.flow_block.specs.Block.{port_at}
use Rattle.flow_spread.specs.Spread.{asked_id, stage_at as stage_over}
use Rattle.flow_block.specs.Copies.{CopyCall, copy_place}
use Rattle.flow_block.specs.Node.{NodeState, NodeCall, in_view, out_view, copy_view, hand_at}
use Rattle.flow_block_law.specs.NodeKeeps.{MayCall, after_call}
use Rattle.flow_block_law.specs.NodeLaw.{NodeLaw}

-- the message of which an end of a link into the node speaks
abbrev pub message_at : ℕ → ℕ → NodeState → ℕ
message_at p k node = message_of (port_stage k (port_at p node.block))

-- what becomes of the view that a call is about
module _ (node new : NodeState) where
  -- the block refuses for a reason that it has
  pub record RefusesAt (p k : ℕ) : Type 0 where
    pub why : Refusal
    pub is_why : (port_at p node.block).refusing ≡ Some why
    pub view : in_view p k new ≡ refusing (refusal_of why) (in_view p k node)

  -- the message in hand is taken
  pub record ClosesAt (p k : ℕ) : Type 0 where
    pub value : Value
    pub in_hand : hand_at p k node ≡ Some value
    pub view : in_view p k new ≡ closing value (in_view p k node)

  -- the head is given
  pub record GivesAt (k : ℕ) : Type 0 where
    pub value : Value
    pub head : head_of node.block.exits ≡ Some value
    pub view : out_view k new ≡ giving node.block.exits.next value (out_view k node)

  -- the element is given
  pub record CopiesAt (k : ℕ) : Type 0 where
    pub value : Value
    pub element : node.block.copies.element ≡ Some value
    pub view : copy_view k new ≡ giving node.block.copies.id value (copy_view k node)

  abbrev pub MovesCopy : CopyCall → Type 0
  MovesCopy (CopyCall.offer k) = copy_view k new ≡ offering node.block.copies.id (copy_view k node)
  MovesCopy (CopyCall.look k phase) = copy_view k new ≡ looking_out phase (copy_view k node)
  MovesCopy (CopyCall.give k) = CopiesAt k
  MovesCopy (CopyCall.hold k) = copy_view k new ≡ holding (asked_id (stage_over node.block.copies k)) (copy_view k node)
  MovesCopy (CopyCall.withdraw k) = copy_view k new ≡ withdrawing (copy_view k node)
  MovesCopy (CopyCall.end_link k how) = copy_view k new ≡ ending how (copy_view k node)

  abbrev pub MovesView : NodeCall → Type 0
  MovesView (NodeCall.want p k) = in_view p k new ≡ wanting (message_at p k node) (in_view p k node)
  MovesView (NodeCall.turn_down p k) = in_view p k new ≡ turning_down (in_view p k node)
  MovesView (NodeCall.postpone p k) = in_view p k new ≡ postponing (message_at p k node) (in_view p k node)
  MovesView (NodeCall.refuse p k) = RefusesAt p k
  MovesView (NodeCall.consume p k) = in_view p k new ≡ consuming (message_at p k node) (in_view p k node)
  MovesView (NodeCall.ask p k) = in_view p k new ≡ asking (message_at p k node) (in_view p k node)
  MovesView (NodeCall.claim p k) = in_view p k new ≡ claiming (message_at p k node) (in_view p k node)
  MovesView (NodeCall.release p k) = in_view p k new ≡ releasing (message_at p k node) (in_view p k node)
  MovesView (NodeCall.open_with p k value) = in_view p k new ≡ opening (message_at p k node) value (in_view p k node)
  MovesView (NodeCall.close p k) = ClosesAt p k
  MovesView (NodeCall.offer k) = out_view k new ≡ offering node.block.exits.next (out_view k node)
  MovesView (NodeCall.give k) = GivesAt k
  MovesView (NodeCall.hold k) = out_view k new ≡ holding node.block.exits.next (out_view k node)
  MovesView (NodeCall.deny k) = out_view k new ≡ denying (out_view k node)
  MovesView (NodeCall.withdraw k) = out_view k new ≡ withdrawing (out_view k node)
  MovesView (NodeCall.end_link k how) = out_view k new ≡ ending how (out_view k node)
  MovesView (NodeCall.look_in p k phase) = in_view p k new ≡ looking_in phase (in_view p k node)
  MovesView (NodeCall.look_out k phase) = out_view k new ≡ looking_out phase (out_view k node)
  MovesView (NodeCall.copy call) = MovesCopy call
  MovesView NodeCall.begin = Unit {0}
  MovesView NodeCall.make = Unit {0}
  MovesView (NodeCall.complete p) = Unit {0}
  MovesView (NodeCall.fault number) = Unit {0}
  MovesView NodeCall.finish = Unit {0}

-- the call is about this end
abbrev pub IsAboutIn : ℕ → ℕ → NodeCall → Type 0
IsAboutIn p k (NodeCall.want q j) = (p ≡ q) × (k ≡ j)
IsAboutIn p k (NodeCall.turn_down q j) = (p ≡ q) × (k ≡ j)
IsAboutIn p k (NodeCall.postpone q j) = (p ≡ q) × (k ≡ j)
IsAboutIn p k (NodeCall.refuse q j) = (p ≡ q) × (k ≡ j)
IsAboutIn p k (NodeCall.consume q j) = (p ≡ q) × (k ≡ j)
IsAboutIn p k (NodeCall.ask q j) = (p ≡ q) × (k ≡ j)
IsAboutIn p k (NodeCall.claim q j) = (p ≡ q) × (k ≡ j)
IsAboutIn p k (NodeCall.release q j) = (p ≡ q) × (k ≡ j)
IsAboutIn p k (NodeCall.open_with q j value) = (p ≡ q) × (k ≡ j)
IsAboutIn p k (NodeCall.close q j) = (p ≡ q) × (k ≡ j)
IsAboutIn p k (NodeCall.look_in q j phase) = (p ≡ q) × (k ≡ j)
IsAboutIn p k _ = ⊥

abbrev pub IsAboutOut : ℕ → NodeCall → Type 0
IsAboutOut k (NodeCall.offer j) = k ≡ j
IsAboutOut k (NodeCall.give j) = k ≡ j
IsAboutOut k (NodeCall.hold j) = k ≡ j
IsAboutOut k (NodeCall.deny j) = k ≡ j
IsAboutOut k (NodeCall.withdraw j) = k ≡ j
IsAboutOut k (NodeCall.end_link j how) = k ≡ j
IsAboutOut k (NodeCall.look_out j phase) = k ≡ j
IsAboutOut k _ = ⊥

abbrev pub IsAboutCopy : ℕ → NodeCall → Type 0
IsAboutCopy k (NodeCall.copy call) = k ≡ copy_place call
IsAboutCopy k _ = ⊥

-- the other ends know what they knew
pub record OthersStay (call : NodeCall) (node new : NodeState) : Type 0 where
  pub ins : (p k : ℕ) → p < length node.block.ports → k < length (port_at p node.block).ends → ¬ IsAboutIn p k call
      → in_view p k new ≡ in_view p k node
  pub outs : (k : ℕ) → k < length node.block.exits.ends → ¬ IsAboutOut k call → out_view k new ≡ out_view k node
  pub copies : (k : ℕ) → k < length node.block.copies.ends → ¬ IsAboutCopy k call → copy_view k new ≡ copy_view k node

pub record ViewsMove (call : NodeCall) (node new : NodeState) : Type 0 where
  pub moved : MovesView node new call
  pub others : OthersStay call node new

abbrev pub CallsMoveViews : Type 0 → Type 0
CallsMoveViews W =
    (layout : Layout W) (meaning : ℕ → Value → Result (List Value) ℕ) (b : ℕ) (node : NodeState) (call : NodeCall)
    → NodeLaw layout meaning b node → MayCall layout meaning b call node → ViewsMove call node (after_call layout meaning b call node)
