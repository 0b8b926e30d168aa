-- What each end of a link knows of it: the values that crossed, and the stage, which is what that end last found or wrote there.
-- The other end may have moved on since.
use Rattle.std.specs.Prelude.{ℕ, ◌+◌, List, length, Option, Bool}
use Rattle.flow_link.specs.declared.phase.LinkEnd.{LinkEnd}

-- where the source's end stands
pub data SourceStage : Type 0 where
  -- nothing is under way
  free : SourceStage
  -- it posted a message, or offered one, and has seen no answer
  posted : ℕ → SourceStage
  out : ℕ → SourceStage
  -- it has seen that its offer was postponed
  waiting : ℕ → SourceStage
  -- it has seen that its offer is wanted: at once, or after it had seen it postponed
  accepted : ℕ → SourceStage
  wished : ℕ → SourceStage
  -- it has seen that the target asks to reserve the message
  asked_by : ℕ → SourceStage
  -- it keeps the message for the target, and then has seen that it is claimed
  reserved : ℕ → SourceStage
  claimed : ℕ → SourceStage
  -- it has the slot out, to lay the message in
  filling : ℕ → SourceStage
  -- it gave the message, and has not seen the target close
  crossing : SourceStage
  -- it has seen that the target takes no message any more
  refused : SourceStage
  -- it ended the link
  ended : LinkEnd → SourceStage

-- why a target takes no message any more
pub data Refusal : Type 0 where
  -- the port has ended
  port_ended : Refusal
  -- the block's own fault stands
  own_fault : Refusal

-- where the target's end stands
pub data TargetStage (V : Type 0) : Type 0 where
  -- nothing is under way
  free : TargetStage V
  -- it has seen an offer, or a message that was posted, and not answered
  offered : ℕ → TargetStage V
  posted : ℕ → TargetStage V
  -- it postponed an offer
  postponed : ℕ → TargetStage V
  -- it accepted an offer
  accepted : ℕ → TargetStage V
  -- it consumes an offer that it postponed, or asks to reserve it
  consuming : ℕ → TargetStage V
  asking : ℕ → TargetStage V
  -- the message is kept for it, and then it claims it
  holding : ℕ → TargetStage V
  claiming : ℕ → TargetStage V
  -- it has seen that the message lies in the slot
  arrived : ℕ → TargetStage V
  -- it has the message in hand
  hand : ℕ → V → TargetStage V
  -- it takes no message any more
  refused : Refusal → TargetStage V
  -- it has seen that the source ended the link
  ended : LinkEnd → TargetStage V

-- what the source's end knows
pub record SourceView (V : Type 0) : Type 0 where
  -- how many values had crossed where this account begins, and the values given since
  pub before : ℕ
  pub given : List V
  -- the id of the message given last, or 0
  pub last : ℕ
  pub stage : SourceStage

-- what the target's end knows
pub record TargetView (V : Type 0) : Type 0 where
  pub before : ℕ
  pub taken : List V
  pub stage : TargetStage V

-- how many values have crossed, as each end counts
abbrev pub crossed : {V : Type 0} → SourceView V → ℕ
crossed view = view.before + length view.given

abbrev pub crossed_in : {V : Type 0} → TargetView V → ℕ
crossed_in view = view.before + length view.taken

-- what the plan says of a link, and never changes
pub record LinkFacts : Type 0 where
  -- the target has no capacity, keeps no single element and does not reserve: it takes each offer at once
  pub steady : Bool
  -- no other link leads into the target, which does not reserve: it takes the first offer at once
  pub sole : Bool
  -- the target reserves messages before it claims them
  pub reserving : Bool
  -- how many values may cross
  pub max : Option ℕ
  -- the source's end is passed on to the target
  pub propagates : Bool
