-- What the end of a link out of a block would do next: whether the block is held up matters where an offer waits alone.
use Rattle.std.proofs.Common.{◌≡◌, ℕ, Bool, ◌&&◌, Option, refl}
use Rattle.flow_link.specs.declared.stage.SourceStage.{SourceStage}
use Rattle.flow_link.specs.declared.stage.SourceStage.TheVariants as stage
use Rattle.flow_link.specs.declared.trace.Outcome.{Outcome}
use Rattle.flow_outlet.specs.End.{is_waiting}
use Rattle.flow_outlet.specs.Outlet.{OutletState, stage_at, move_at, out_move}
use Rattle.flow_spread.specs.Spread.{SpreadState}
use Rattle.flow_spread.specs.Spread.{stage_at as copy_stage_at, move_at as copy_move_at, out_move as copy_move}

module _ (o : OutletState) (k : ℕ) (stopped : Option Outcome) (held_up : Bool) where
  where_it_waits : (at : SourceStage)
      → move_at o k stopped (is_waiting at && held_up) at ≡ move_at o k stopped held_up at
  where_it_waits stage.Free = refl
  where_it_waits (stage.Waiting i) = refl
  where_it_waits _ = refl

  pub held_up_where_it_waits :
      out_move k stopped (is_waiting (stage_at o k) && held_up) o ≡ out_move k stopped held_up o
  held_up_where_it_waits = where_it_waits (stage_at o k)

-- the same of a link over which copies go
module _ (s : SpreadState) (k : ℕ) (stopped : Option Outcome) (held_up : Bool) where
  where_a_copy_waits : (at : SourceStage)
      → copy_move_at s k stopped (is_waiting at && held_up) at ≡ copy_move_at s k stopped held_up at
  where_a_copy_waits stage.Free = refl
  where_a_copy_waits (stage.Waiting i) = refl
  where_a_copy_waits _ = refl

  pub copies_held_up_where_one_waits :
      copy_move k stopped (is_waiting (copy_stage_at s k) && held_up) s ≡ copy_move k stopped held_up s
  copies_held_up_where_one_waits = where_a_copy_waits (copy_stage_at s k)
