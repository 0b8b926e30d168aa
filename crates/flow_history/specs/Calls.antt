-- What a caller who drives a block by hand may call, and what each call does to the block.
use Rattle.std.specs.Prelude.{◌≡◌, true, List, [], ◌∷◌}
use Rattle.flow_link.specs.BlockCalls.{BlockCall}
use Rattle.flow_link.specs.SourceCalls.{SourceCall, MayConsume, MayReserve}
use Rattle.flow_link.specs.TargetCalls.{TargetCall, Wants, MayNote}
use Rattle.flow_link.specs.declared.stage.SourceStage.TheVariants as source
use Rattle.flow_link.specs.declared.stage.TargetStage.TheVariants as target
use Rattle.flow_intake.specs.Port.{coming}
use Rattle.flow_block.specs.Block.{BlockState, port_at}
use Rattle.flow_block.specs.BlockFits.{BlockFits}
use Rattle.flow_block.specs.Copies.{copies_weight}
use Rattle.flow_block.specs.Peeks.{nothing_comes}
use Rattle.flow_block.specs.Traits.{settles, MayCompletePort, MayFault, Acts, Gives, Takes, source_at, is_source_busy, target_over}

-- a call that all blocks have in common, with its answer. Where memory is out the block stays as it was: that is no call here
pub data Call : Type 0 where
  acts : BlockCall → Call
  gives : SourceCall → Call
  takes : TargetCall → Call
  -- the block is asked whether it has ended
  asked : Call

-- When a block may be called so

abbrev pub MayAct : BlockCall → BlockState → Type 0
MayAct (BlockCall.completed port) block = MayCompletePort block port
MayAct (BlockCall.faulted number) block = MayFault block
MayAct (BlockCall.made result) block = Unit {0}

abbrev pub MayGive : SourceCall → BlockState → Type 0
MayGive (SourceCall.offered offer) block = Unit {0}
MayGive (SourceCall.noted link header status) block = source_at block link ≡ source.Out header
MayGive (SourceCall.consumed link header value) block = MayConsume header (is_source_busy block) (source_at block link)
MayGive (SourceCall.reserved link header kept) block = MayReserve header (is_source_busy block) (source_at block link)
MayGive (SourceCall.released link header) block = source_at block link ≡ source.Reserved header

abbrev pub MayTake : TargetCall → BlockState → Type 0
MayTake (TargetCall.offered link header may_postpone status) block = target_over block.ports link ≡ target.Free
MayTake (TargetCall.handed link header value) block = Wants header (target_over block.ports link)
MayTake (TargetCall.wished told) block = Unit {0}
MayTake (TargetCall.noted link told) block = MayNote told (target_over block.ports link)

abbrev pub MayCall : Call → BlockState → Type 0
MayCall (Call.acts call) block = MayAct call block
MayCall (Call.gives call) block = MayGive call block
MayCall (Call.takes call) block = MayTake call block
MayCall Call.asked block = Unit {0}

-- a port completes where no message comes there, and a block faults where none comes at any port. Where each end at the ports is the
-- one that its link names, the call's own contract asks the same
abbrev pub NothingComesAt : Call → BlockState → Type 0
NothingComesAt (Call.acts (BlockCall.completed port)) block = coming (port_at port block) ≡ 0
NothingComesAt (Call.acts (BlockCall.faulted number)) block = nothing_comes block.ports ≡ true
NothingComesAt _ block = Unit {0}

abbrev pub MayCallInOrder : Call → BlockState → Type 0
MayCallInOrder call block = MayCall call block × NothingComesAt call block

-- What it does

abbrev pub Does : Call → BlockState → BlockState → Type 0
Does (Call.acts call) old new = Acts old call new
Does (Call.gives call) old new = Gives old call new
Does (Call.takes call) old new = Takes old call new
Does Call.asked old new = new ≡ settles old

-- a fact of each block: the room that is to come back is room that its ports gave out
abbrev pub Fits : BlockState → Type 0
Fits block = BlockFits block.ports block.exits (copies_weight block.copies)

-- One call after another

-- a call, and what it leaves
pub record Step (C S : Type 0) : Type 0 where
  pub call : C
  pub left : S

module _ {C S : Type 0} where
  abbrev pub after_all : List (Step C S) → S → S
  after_all [] state = state
  after_all (step ∷ steps) state = after_all steps step.left

  module _ (Fit : S → Type 0) (May : C → S → Type 0) (Do : C → S → S → Type 0) where
    -- each call may be made, and does what it does
    abbrev pub AllDone : List (Step C S) → S → Type 0
    AllDone [] state = Unit {0}
    AllDone (step ∷ steps) state = May step.call state × (Do step.call state step.left × (Fit step.left × AllDone steps step.left))
