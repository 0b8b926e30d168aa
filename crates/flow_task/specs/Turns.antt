-- What the calls of a block leave of it, when it is turned, when it is over, and when it has nothing to do.
use Rattle.std.specs.Prelude.{◌≡◌, ℕ, zero, suc, ◌<◌, ltb, cond, Bool, true, false, not, ◌&&◌, ◌||◌, List, [], ◌∷◌, length, Option, Some, None, is_none, is_some, Result, Ok, Err}
use Rattle.std.specs.declared.alloc.AllocError.{AllocError}
use Rattle.std.specs.declared.alloc.Global.{Global}
use Rattle.std.specs.declared.vec.Vec.{Vec}
use Rattle.flow_value.specs.declared.value.Value.{Value}
use Rattle.flow_link.specs.Lists.{every, below, is_empty}
use Rattle.flow_link.specs.declared.phase.Move.{Move}
use Rattle.flow_link.specs.declared.phase.Phase.{Phase}
use Rattle.flow_link.specs.declared.stage.SourceStage.{SourceStage}
use Rattle.flow_link.specs.declared.stage.TargetStage.{TargetStage}
use Rattle.flow_link.specs.declared.stage.TargetStage.TheVariants.{Refused, Ended}
use Rattle.flow_link.specs.declared.trace.Mark.{Mark}
use Rattle.flow_link.specs.declared.trace.Mark.TheVariants.{Done, Fault}
use Rattle.flow_link.specs.declared.trace.Outcome.{Outcome}
use Rattle.flow_link.specs.Plan.{is_one_taker}
use Rattle.flow_intake.specs.Port.{PortState, stage_at}
use Rattle.flow_intake.specs.Ended.{fault_at_ends, has_seen_completion}
use Rattle.flow_intake.specs.PortLaw.{has_ended}
use Rattle.flow_outlet.specs.End.{is_over}
use Rattle.flow_outlet.specs.Outlet.{lacks_ids, stage_at as exit_stage}
use Rattle.flow_spread.specs.Spread.{stage_at as copy_stage}
use Rattle.flow_block.specs.Block.{BlockState, port_at}
use Rattle.flow_block.specs.Node.{NodeState, NodeCall, next_in}
use Rattle.flow_block.specs.Peeks.{may_make, may_begin, may_end, may_complete, next_fault, may_finish, lacks_next, is_written}
use Rattle.flow_block_law.specs.JobsEnd.{put_at_end}
use Rattle.flow_block_law.specs.NextMoves.{next_source}
use Rattle.flow_core.specs.Events.{in_call, source_look}
use Rattle.flow_core.specs.MovesFit.{out_count, in_count}
use Rattle.flow_moves.specs.Calls.{Calls}
use Rattle.flow_poll.specs.Turns.{Extends}
use Rattle.flow_poll.specs.declared.actor.TurnState.{TurnState}
use Rattle.flow_poll.specs.declared.actor.TurnState.TheVariants as turn
use Rattle.flow_wire.specs.Ends.{SourceOf, TargetOf}
use Rattle.flow_task.specs.Cells.{is_told}
use Rattle.flow_task.specs.Misses.{InMissed, OutMissed}
use Rattle.flow_task.specs.Words.{is_withdrawal, may_be_forestalled}

-- the end of a link into it moves so, and finds something in the slot or nothing
abbrev pub MovesIn : ℕ → ℕ → Move → NodeState → NodeState → Type 0
MovesIn p k next old new = ∥ ((slot : Option Value) × Calls (in_call p k slot next) old new) ∥₁

-- its journal goes on by what was done; where nothing was, or memory is out, it is as it was
abbrev pub Grows : Result Bool AllocError → NodeState → NodeState → Type 0
Grows (Ok true) old new = Extends old.journal new.journal
Grows (Ok false) old new = new.journal ≡ old.journal
Grows (Err fault) old new = new.journal ≡ old.journal

-- the ends of a block look, one after another: so many of those out of it, of those into a port, and of the ports
abbrev pub LooksOut : ℕ → NodeState → NodeState → Type 0
LooksOut zero old new = new ≡ old
LooksOut (suc k) old new =
    (mid : NodeState) × (LooksOut k old mid × ((phase : Phase) × Calls (Some (source_look mid.block.kind k phase)) mid new))

abbrev pub LooksIn : ℕ → ℕ → NodeState → NodeState → Type 0
LooksIn p zero old new = new ≡ old
LooksIn p (suc k) old new = (mid : NodeState) × (LooksIn p k old mid × ((phase : Phase) × Calls (Some (NodeCall.look_in p k phase)) mid new))

abbrev pub PortsLook : ℕ → NodeState → NodeState → Type 0
PortsLook zero old new = new ≡ old
PortsLook (suc p) old new = (mid : NodeState) × (PortsLook p old mid × LooksIn p (in_count p mid) mid new)

-- by this mark a block stops
abbrev pub is_stop : Mark → Bool
is_stop Done = true
is_stop (Fault number) = true
is_stop _ = false

-- the last of the marks is Done or a Fault
abbrev pub ends_stopped : List Mark → Bool
ends_stopped [] = false
ends_stopped (last ∷ []) = is_stop last
ends_stopped (mark ∷ next ∷ marks) = ends_stopped (next ∷ marks)

abbrev pub IsOver : List Mark → Type 0
IsOver journal = ends_stopped journal ≡ true

-- where the end of a link out of a block stands
abbrev pub stage_from : ℕ → NodeState → SourceStage
stage_from k node = cond (is_one_taker node.block.kind) (exit_stage node.block.exits k) (copy_stage node.block.copies k)

-- the end of a link into a block refused, or has seen the link's end
abbrev pub is_in_over : TargetStage → Bool
is_in_over (Refused why) = true
is_in_over (Ended how) = true
is_in_over _ = false

-- all links of a block are over: at each of its ends, by their places, the link was refused or has ended
abbrev pub is_port_over : NodeState → ℕ → Bool
is_port_over node p = every (λ k. is_in_over (stage_at k (port_at p node.block))) (below (in_count p node))

abbrev pub are_ins_over : NodeState → Bool
are_ins_over node = every (is_port_over node) (below (length node.block.ports))

abbrev pub are_outs_over : NodeState → Bool
are_outs_over node = every (λ k. is_over (stage_from k node)) (below (out_count node))

abbrev pub are_links_over : NodeState → Bool
are_links_over node = are_ins_over node && are_outs_over node

-- a turn did something: so many events, or it told how its block has ended, which was not told before
abbrev pub has_done : ℕ → Bool → Option Outcome → Bool
has_done events before known = ltb 0 events || (not before && is_some known)

-- what comes of a turn that did something, or nothing, where this is known of the end of its block
abbrev pub state_of : Bool → Option Outcome → NodeState → TurnState
state_of done known node =
    cond done turn.Moved (cond (is_told known node.block.stopped && are_links_over node) turn.Ended turn.Idle)

-- the end of a link would make no move, but one that it has tried, and that the other end had forestalled
abbrev pub OutIsStill : ℕ → NodeState → List SourceOf → Type 0
OutIsStill k node outs = (next : Move) → next_source k node ≡ Some next → (is_withdrawal next ≡ true) × OutMissed outs k

abbrev pub InIsStill : ℕ → ℕ → NodeState → List (Vec TargetOf Global) → Type 0
InIsStill p k node ins =
    (next : Move) → next_in p k node ≡ Some next
    → (may_be_forestalled next (stage_at k (port_at p node.block)) ≡ true) × InMissed ins p k

abbrev pub PortIsStill : ℕ → NodeState → List (Vec TargetOf Global) → Type 0
PortIsStill p node ins = (k : ℕ) → k < in_count p node → InIsStill p k node ins

-- a port runs on: it was not completed, and over no link into it completion or a fault has come
abbrev pub runs_on : PortState → Bool
runs_on port = not (has_ended port.refusing) && (not (has_seen_completion port.ends) && is_none (fault_at_ends port.ends))

-- so do all ports, nothing has faulted, and the one message that the block takes in all, if it does, has yet to come
abbrev pub is_running : BlockState → Bool
is_running block = (is_none block.fault && not (is_written block)) && (not (is_empty block.ports) && every runs_on block.ports)

-- no port completes, and the block does not stop
pub record StaysOpen (block : BlockState) : Type 0 where
  pub complete : (p : ℕ) → p < length block.ports → may_complete p block ≡ false
  pub fault : next_fault block ≡ None
  pub finish : may_finish block ≡ false

module _ (makes : Value → Result (List Value) ℕ) (node : NodeState) where
  -- no message id is left for what a job that is out would give
  pub record JobLacksIds : Type 0 where
    pub ticket : ℕ
    pub out : may_end ticket node.block ≡ true
    pub lacks : lacks_ids (put_at_end makes ticket node.block) node.block.exits ≡ true

  abbrev pub MakeIsDone : Type 0
  MakeIsDone = may_make node.block ≡ true → lacks_next makes node ≡ true

  abbrev pub JobsAreDone : Type 0
  JobsAreDone = (ticket : ℕ) → may_end ticket node.block ≡ true → JobLacksIds

  module _ (in_place : Bool) where
    -- where it does its jobs itself, none is out, but for want of message ids, and none begins
    pub record WorkIsDone : Type 0 where
      pub jobs : in_place ≡ true → JobsAreDone
      pub begin : in_place ≡ true → may_begin node.block ≡ false

    -- a block does nothing by itself, but what no message id is left for
    pub record OwnIsDone : Type 0 where
      pub make : MakeIsDone
      pub work : WorkIsDone
      pub open_yet : StaysOpen node.block

    -- and no end of its links makes a move
    pub record IsStill (ins : List (Vec TargetOf Global)) (outs : List SourceOf) : Type 0 where
      pub own : OwnIsDone
      pub at_ins : (p : ℕ) → p < length node.block.ports → PortIsStill p node ins
      pub at_outs : (k : ℕ) → k < out_count node → OutIsStill k node outs
