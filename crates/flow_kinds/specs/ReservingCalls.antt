-- What the calls that all blocks have in common do to a join that reserves: what they do to its block, and to its round where a
-- message comes, or a wish is made or answered.
use Rattle.std.specs.Prelude.{◌≡◌, false}
use Rattle.flow_link.specs.BlockCalls.{BlockCall}
use Rattle.flow_link.specs.SourceCalls.{SourceCall}
use Rattle.flow_link.specs.TargetCalls.{TargetCall}
use Rattle.flow_group.specs.Round.{settles as goes_round}
use Rattle.flow_block.specs.Traits.{settles, Acts as BlockActs, Gives as BlockGives, Takes as BlockTakes}
use Rattle.flow_kinds.specs.ReservingJoin.{ReservingState}
use Rattle.flow_kinds.specs.Wishes.{next_wish, after_wish, loses_front}

module _ (old : ReservingState) where
  -- when it is asked whether it has ended
  abbrev pub Learns : ReservingState → Type 0
  Learns new = (new.block ≡ settles old.block) × (new.round ≡ old.round)

  abbrev pub Acts : BlockCall → ReservingState → Type 0
  Acts call new = BlockActs old.block call new.block × (new.round ≡ old.round)

  abbrev pub Gives : SourceCall → ReservingState → Type 0
  Gives call new = BlockGives old.block call new.block × (new.round ≡ old.round)

  -- it wishes by its round, in place of the block, and the round goes on where a message has come and where a wish is answered
  abbrev pub Takes : TargetCall → ReservingState → Type 0
  Takes (TargetCall.offered link header may_postpone status) new =
      BlockTakes old.block (TargetCall.offered link header may_postpone status) new.block × (new.round ≡ old.round)
  Takes (TargetCall.handed link header value) new =
      BlockTakes old.block (TargetCall.handed link header value) new.block × (new.round ≡ goes_round false new.block.ports old.round)
  Takes (TargetCall.wished told) new = (told ≡ next_wish old) × (new ≡ after_wish old)
  Takes (TargetCall.noted link told) new =
      BlockTakes old.block (TargetCall.noted link told) new.block
      × (new.round ≡ goes_round (loses_front told link old.block.ports) new.block.ports old.round)
