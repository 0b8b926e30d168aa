-- What each next move of an end asks of its link, and what the end knows once it has made it. Both are told by the end's own view,
-- and hold of what a block, an input or an exit would do next by its own data, whatever the other end does.
use Rattle.std.specs.Prelude.{◌≡◌, ℕ, ◌<◌, cond, Bool, true, false, List, length, Option, Some, None, is_some, Result}
use Rattle.flow_value.specs.declared.value.Value.{Value}
use Rattle.flow_link.specs.declared.phase.LinkEnd.{LinkEnd}
use Rattle.flow_link.specs.declared.phase.Move.{Move}
use Rattle.flow_link.specs.declared.phase.Move.TheVariants as move
use Rattle.flow_link.specs.declared.stage.Refusal.{Refusal}
use Rattle.flow_link.specs.Facts.{facts_in}
use Rattle.flow_link.specs.Layout.{Layout}
use Rattle.flow_link.specs.LinkOk.{HasRoom, MayEnd, MayPutOff}
use Rattle.flow_link.specs.Moves.{offering, ending, giving, denying, holding, withdrawing, wanting, turning_down, refusing, postponing, consuming, asking, claiming, releasing, opening, closing}
use Rattle.flow_link.specs.Plan.{is_one_taker}
use Rattle.flow_link.specs.Stage.{refusal_of}
use Rattle.flow_link.specs.Views.{SourceStage, TargetStage, SourceView, TargetView, LinkFacts, crossed, crossed_in}
use Rattle.flow_link.specs.WellFormed.{IsWellFormed}
use Rattle.flow_intake.specs.Port.{end_in}
use Rattle.flow_outlet.specs.declared.ends.LinkRule.{LinkRule}
use Rattle.flow_outlet.specs.Outlet.{end_at}
use Rattle.flow_spread.specs.Spread.{link_at}
use Rattle.flow_input.specs.Input.{InputState, input_move, input_view, next_value}
use Rattle.flow_input.specs.InputKeeps.{InputLaw}
use Rattle.flow_block.specs.Block.{port_at}
use Rattle.flow_block.specs.Node.{NodeState, in_view, given_next, source_view}
use Rattle.flow_block.specs.Planned.{rule_of}
use Rattle.flow_block_law.specs.NextMoves.{next_in, next_source}
use Rattle.flow_block_law.specs.NodeLaw.{NodeLaw}
use Rattle.flow_exit.specs.Exit.{ExitState, exit_view, exit_move, exit_call, exit_after}
use Rattle.flow_exit.specs.ExitKeeps.{ExitLaw}
use Rattle.flow_core.specs.Events.{node_after, source_call, in_call, input_call, input_after}

-- The stages that a source's move is made at

-- the message of which a source's stage speaks; 0 where it speaks of none
abbrev pub message_out : SourceStage → ℕ
message_out (SourceStage.posted i) = i
message_out (SourceStage.out i) = i
message_out (SourceStage.waiting i) = i
message_out (SourceStage.accepted i) = i
message_out (SourceStage.wished i) = i
message_out (SourceStage.asked_by i) = i
message_out (SourceStage.reserved i) = i
message_out (SourceStage.claimed i) = i
message_out (SourceStage.filling i) = i
message_out _ = 0

-- the source has seen that the message is wanted, and has the slot to fill
abbrev pub is_to_fill : SourceStage → Bool
is_to_fill (SourceStage.accepted _) = true
is_to_fill (SourceStage.wished _) = true
is_to_fill (SourceStage.claimed _) = true
is_to_fill _ = false

-- the target asks to reserve the message
abbrev pub is_asked : SourceStage → Bool
is_asked (SourceStage.asked_by _) = true
is_asked _ = false

-- the source may answer a wish by denying it
abbrev pub may_deny : SourceStage → Bool
may_deny (SourceStage.wished _) = true
may_deny (SourceStage.asked_by _) = true
may_deny _ = false

-- the message waits at the target
abbrev pub is_waiting : SourceStage → Bool
is_waiting (SourceStage.waiting _) = true
is_waiting _ = false

-- Those that a target's move is made at
module _ {V : Type 0} where
  -- the message of which a target's stage speaks; 0 where it speaks of none, or of one that it has answered
  abbrev pub message_in : TargetStage V → ℕ
  message_in (TargetStage.offered i) = i
  message_in (TargetStage.posted i) = i
  message_in (TargetStage.postponed i) = i
  message_in (TargetStage.holding i) = i
  message_in (TargetStage.arrived i) = i
  message_in _ = 0

  -- the message that the target has seen offered or posted, and not answered
  abbrev pub to_answer : TargetStage V → Option ℕ
  to_answer (TargetStage.offered i) = Some i
  to_answer (TargetStage.posted i) = Some i
  to_answer _ = None

  abbrev pub is_offered : TargetStage V → Bool
  is_offered (TargetStage.offered _) = true
  is_offered _ = false

  -- the target may turn the message down
  abbrev pub is_posted : TargetStage V → Bool
  is_posted (TargetStage.posted _) = true
  is_posted _ = false

  abbrev pub is_postponed : TargetStage V → Bool
  is_postponed (TargetStage.postponed _) = true
  is_postponed _ = false

  -- the target may refuse: it has a message before it, or postponed one
  abbrev pub may_refuse : TargetStage V → Bool
  may_refuse (TargetStage.offered _) = true
  may_refuse (TargetStage.posted _) = true
  may_refuse (TargetStage.postponed _) = true
  may_refuse _ = false

  -- the message is kept for the target
  abbrev pub is_holding : TargetStage V → Bool
  is_holding (TargetStage.holding _) = true
  is_holding _ = false

  abbrev pub has_arrived : TargetStage V → Bool
  has_arrived (TargetStage.arrived _) = true
  has_arrived _ = false

  abbrev pub has_in_hand : TargetStage V → Bool
  has_in_hand (TargetStage.hand _ _) = true
  has_in_hand _ = false

  -- what the target knows once it has closed
  abbrev pub closed_at : TargetStage V → TargetView V → TargetView V
  closed_at (TargetStage.hand i value) view = closing value view
  closed_at _ view = view

-- Of a source

pub record OfferFits (facts : LinkFacts) (i : ℕ) (view after : SourceView Value) : Type 0 where
  pub free : view.stage ≡ SourceStage.free
  pub rises : view.last < i
  pub room : HasRoom facts.max (crossed view)
  pub moved : after ≡ offering i view

-- what it would give is there
pub record GiveFits (given : Option Value) (view after : SourceView Value) : Type 0 where
  pub wanted : is_to_fill view.stage ≡ true
  pub there : is_some given ≡ true
  pub moved : (value : Value) → given ≡ Some value → after ≡ giving (message_out view.stage) value view

pub record HoldFits (view after : SourceView Value) : Type 0 where
  pub asked : is_asked view.stage ≡ true
  pub moved : after ≡ holding (message_out view.stage) view

pub record DenyFits (view after : SourceView Value) : Type 0 where
  pub wished : may_deny view.stage ≡ true
  pub moved : after ≡ denying view

pub record WithdrawFits (view after : SourceView Value) : Type 0 where
  pub waits : is_waiting view.stage ≡ true
  pub moved : after ≡ withdrawing view

pub record EndFits (facts : LinkFacts) (how : LinkEnd) (view after : SourceView Value) : Type 0 where
  pub free : view.stage ≡ SourceStage.free
  pub rule : MayEnd facts (crossed view) how
  pub moved : after ≡ ending how view

-- a source that would give this value next makes this move, and comes from the first view to the other
abbrev pub OutFits : LinkFacts → Option Value → Move → SourceView Value → SourceView Value → Type 0
OutFits facts given (move.Offer i) view after = OfferFits facts i view after
OutFits facts given move.Give view after = GiveFits given view after
OutFits facts given move.Hold view after = HoldFits view after
OutFits facts given move.Deny view after = DenyFits view after
OutFits facts given move.Withdraw view after = WithdrawFits view after
OutFits facts given (move.End how) view after = EndFits facts how view after
OutFits facts given _ view after = ⊥

-- Of a target

pub record WantFits (facts : LinkFacts) (view after : TargetView Value) : Type 0 where
  pub offered : is_some (to_answer view.stage) ≡ true
  pub freely : facts.reserving ≡ false
  pub moved : after ≡ wanting (message_in view.stage) view

pub record TurnDownFits (view after : TargetView Value) : Type 0 where
  pub posted : is_posted view.stage ≡ true
  pub moved : after ≡ turning_down view

pub record PostponeFits (facts : LinkFacts) (view after : TargetView Value) : Type 0 where
  pub offered : is_offered view.stage ≡ true
  pub may : MayPutOff facts (crossed_in view)
  pub moved : after ≡ postponing (message_in view.stage) view

-- it has a reason
pub record RefuseFits (why : Option Refusal) (view after : TargetView Value) : Type 0 where
  pub stands : may_refuse view.stage ≡ true
  pub refuses : is_some why ≡ true
  pub moved : (refusal : Refusal) → why ≡ Some refusal → after ≡ refusing (refusal_of refusal) view

pub record ConsumeFits (facts : LinkFacts) (view after : TargetView Value) : Type 0 where
  pub postponed : is_postponed view.stage ≡ true
  pub freely : facts.reserving ≡ false
  pub moved : after ≡ consuming (message_in view.stage) view

pub record AskFits (facts : LinkFacts) (view after : TargetView Value) : Type 0 where
  pub postponed : is_postponed view.stage ≡ true
  pub reserves : facts.reserving ≡ true
  pub moved : after ≡ asking (message_in view.stage) view

pub record ClaimFits (view after : TargetView Value) : Type 0 where
  pub held : is_holding view.stage ≡ true
  pub moved : after ≡ claiming (message_in view.stage) view

pub record ReleaseFits (view after : TargetView Value) : Type 0 where
  pub held : is_holding view.stage ≡ true
  pub moved : after ≡ releasing (message_in view.stage) view

-- what lies in the slot comes into its hand
pub record OpenFits (slot : Option Value) (view after : TargetView Value) : Type 0 where
  pub arrived : has_arrived view.stage ≡ true
  pub moved : (value : Value) → slot ≡ Some value → after ≡ opening (message_in view.stage) value view

pub record CloseFits (view after : TargetView Value) : Type 0 where
  pub in_hand : has_in_hand view.stage ≡ true
  pub moved : after ≡ closed_at view.stage view

-- a target that refuses for this reason makes this move, finds this in the slot where it opens it, and comes from the first view to
-- the other
abbrev pub InFits : LinkFacts → Option Refusal → Option Value → Move → TargetView Value → TargetView Value → Type 0
InFits facts why slot move.Want view after = WantFits facts view after
InFits facts why slot move.TurnDown view after = TurnDownFits view after
InFits facts why slot move.Postpone view after = PostponeFits facts view after
InFits facts why slot move.Refuse view after = RefuseFits why view after
InFits facts why slot move.Consume view after = ConsumeFits facts view after
InFits facts why slot move.Ask view after = AskFits facts view after
InFits facts why slot move.Claim view after = ClaimFits view after
InFits facts why slot move.Release view after = ReleaseFits view after
InFits facts why slot move.Open view after = OpenFits slot view after
InFits facts why slot move.Close view after = CloseFits view after
InFits facts why slot _ view after = ⊥

-- Who moves so

-- how many links lead out of a node, what the plan says of the one at a place there, and how many lead into one of its ports
abbrev pub out_count : NodeState → ℕ
out_count node = cond (is_one_taker node.block.kind) (length node.block.exits.ends) (length node.block.copies.ends)

abbrev pub out_rule : ℕ → NodeState → LinkRule
out_rule k node = cond (is_one_taker node.block.kind) (end_at node.block.exits k).rule (link_at node.block.copies k).rule

abbrev pub in_count : ℕ → NodeState → ℕ
in_count p node = length (port_at p node.block).ends

module _ (W : Type 0) where
  -- the next move of a block's end of a link fits that link, which leads from it, or into it
  abbrev pub BlocksFit : Type 0
  BlocksFit =
      (layout : Layout W) (meaning : ℕ → Value → Result (List Value) ℕ) → IsWellFormed layout.blocks layout.links
      → (b : ℕ) → b < length layout.blocks → (node : NodeState) → NodeLaw layout meaning b node
      → (k l : ℕ) → k < out_count node → out_rule k node ≡ rule_of layout l
      → (next : Move) → next_source k node ≡ Some next
      → OutFits (facts_in layout l) (given_next node) next (source_view k node)
      (source_view k (node_after layout meaning b (source_call node.block.kind k next) node))

  abbrev pub TargetsFit : Type 0
  TargetsFit =
      (layout : Layout W) (meaning : ℕ → Value → Result (List Value) ℕ) → IsWellFormed layout.blocks layout.links
      → (b : ℕ) → b < length layout.blocks → (node : NodeState) → NodeLaw layout meaning b node
      → (p k l : ℕ) → p < length node.block.ports → k < in_count p node → (end_in k (port_at p node.block).ends).link ≡ l
      → (slot : Option Value) (next : Move) → next_in p k node ≡ Some next
      → InFits (facts_in layout l) (port_at p node.block).refusing slot next (in_view p k node)
      (in_view p k (node_after layout meaning b (in_call p k slot next) node))

-- so does that of an input's end, over whose link any number of values may cross and which passes its end on
abbrev pub InputsFit : Type 0
InputsFit =
    (facts : LinkFacts) → facts.max ≡ None → facts.propagates ≡ true → (input : InputState) → InputLaw input
    → (next : Move) → input_move input ≡ Some next
    → OutFits facts (next_value input) next (input_view input) (input_view (input_after (input_call next) input))

-- and that of an exit's end, over whose link messages may be put off and are not reserved
pub record IsOutward (facts : LinkFacts) : Type 0 where
  pub not_steady : facts.steady ≡ false
  pub not_sole : facts.sole ≡ false
  pub freely : facts.reserving ≡ false

abbrev pub ExitsFit : Type 0
ExitsFit =
    (facts : LinkFacts) → IsOutward facts → (exit : ExitState) → ExitLaw exit
    → (slot : Option Value) (next : Move) → exit_move exit ≡ Some next
    → InFits facts None slot next (exit_view exit) (exit_view (exit_after (exit_call slot next) exit))
