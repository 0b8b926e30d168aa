-- Over any calls a join that reserves, which a caller drives by hand, keeps its messages.
use Rattle.std.proofs.Common.{◌≡◌, ℕ, ◌+◌, ◌<◌, false, cond, List, [], ◌++◌, length, ap, sym, subst, arith}
use Rattle.flow_link.specs.declared.draft.BlockKind.{BlockKind}
use Rattle.flow_link.specs.declared.draft.BlockKind.TheVariants.{Join}
use Rattle.flow_link.specs.LinkOk.{IsWithin}
use Rattle.flow_link.specs.Making.{all_items}
use Rattle.flow_link.specs.Plan.{is_one_taker}
use Rattle.flow_link.specs.TargetCalls.{TargetCall}
use Rattle.flow_intake.specs.Port.{PortState, coming}
use Rattle.flow_group.specs.Tuple.{held_at}
use Rattle.flow_group.specs.Tuples.{TuplesLaw}
use Rattle.flow_group.proofs.TuplesSay.{tuples_tell}
use Rattle.flow_block.specs.Block.{port_at, is_batch, is_join}
use Rattle.flow_block.specs.Copies.{copies_weight}
use Rattle.flow_kinds.specs.ReservingJoin.{ReservingState, fresh_join}
use Rattle.flow_kinds.proofs.WishLaws.{ports_level}
use Rattle.flow_history.specs.Calls.{Call, Step, AllDone, after_all}
use Rattle.flow_history.specs.History.{History, nothing_yet, took_at, noted, history_of, gave_by}
use Rattle.flow_history.specs.Kept.{makes_freely, places_left}
use Rattle.flow_history.specs.Reserved.{MayCallReservingInOrder, DoesToReserving, FitsReserving, came_into, tuples_by, TookLevel, KeepsReserved, ReservedAreKept}
use Rattle.flow_history.proofs.MessagesKept.{one_call, fresh_kept, keeps, only_given}
use Rattle.flow_history.proofs.StepsKept.{fits_after, all_kept}
use Rattle.flow_history.proofs.Still.{Kept}
use Rattle.flow_history.proofs.WishesLeave.{wish_kept}

-- One call

module _ (h : History) (old new : ReservingState) (kept : Kept false h old.block) (fits : FitsReserving old) where
  join_call : (call : Call) → MayCallReservingInOrder call old → DoesToReserving call old new
      → Kept false (noted came_into tuples_by gave_by call old h) new.block
  join_call (Call.acts call) may does = one_call false h old.block new.block kept fits.fits (Call.acts call) may does.0
  join_call (Call.gives call) may does = one_call false h old.block new.block kept fits.fits (Call.gives call) may does.0
  join_call (Call.takes (TargetCall.offered link header may_postpone how)) may does =
      one_call false h old.block new.block kept fits.fits (Call.takes (TargetCall.offered link header may_postpone how)) may does.0
  join_call (Call.takes (TargetCall.handed link header value)) may does =
      one_call false h old.block new.block kept fits.fits (Call.takes (TargetCall.handed link header value)) may does.0
  join_call (Call.takes (TargetCall.wished told)) may does =
      subst (λ (x : History). Kept false x new.block) (sym (only_given h []))
      (subst (λ (join : ReservingState). Kept false (record h { gave = h.gave ++ [] }) join.block) (sym does.1) (wish_kept h old kept))
  join_call (Call.takes (TargetCall.noted link told)) may does =
      one_call false h old.block new.block kept fits.fits (Call.takes (TargetCall.noted link told)) may does.0
  join_call Call.asked may does = one_call false h old.block new.block kept fits.fits Call.asked may does.0

-- Over all

all_calls : (steps : List (Step Call ReservingState)) (old : ReservingState) (h : History) → FitsReserving old
    → AllDone FitsReserving MayCallReservingInOrder DoesToReserving steps old → Kept false h old.block
    → Kept false (history_of came_into tuples_by gave_by steps old h) (after_all steps old).block
all_calls =
    all_kept FitsReserving MayCallReservingInOrder DoesToReserving came_into tuples_by gave_by
    (λ (h : History) (join : ReservingState). Kept false h join.block) join_call

-- What the law says

module _ (h : History) (join : ReservingState) (kept : Kept false h join.block) (fits : FitsReserving join) where
  abbrev ports : List PortState
  ports = join.block.ports

  is : join.block.kind ≡ Join
  is = fits.in_order.kind_is

  tuples : TuplesLaw (length ports) (took_at h) h.made (held_at ports)
  tuples = kept.messages.tuples (ap is_join is)

  -- each tuple took one message of each port
  as_many : (p : ℕ) → p < length ports → length (took_at h p) ≡ length h.made + length (held_at ports p)
  as_many p l = (tuples_tell.each (length ports) (took_at h) h.made (held_at ports) tuples p l).as_many

  level : TookLevel (took_at h) join
  level =
      let level = ports_level join fits.in_order in
      record {
        near = λ p q pl ql.
            let one = as_many p pl in let other = as_many q ql in let near = level.near p q pl ql in omega (arith, one, other, near);
        same = λ not p q pl ql.
            let one = as_many p pl in let other = as_many q ql in let same = level.same not p q pl ql in omega (arith, one, other, same);
        still = λ none p q pl ql.
            let one = as_many p pl in let other = as_many q ql in let same = level.still none p q pl ql in omega (arith, one, other, same);
      }

  places : places_left join.block ≡ length join.block.exits.left
  places =
      ap (λ (kind : BlockKind). cond (is_one_taker kind)
      (cond (is_batch kind) (length (all_items join.block.exits.left)) (length join.block.exits.left)) (copies_weight join.block.copies)) is

  keeps_reserved : KeepsReserved h join
  keeps_reserved = record {
    shared = kept.messages.shared (ap is_one_taker is);
    tuples = tuples;
    level = level;
    within = λ limited p l.
        subst (λ (n : ℕ). IsWithin (port_at p join.block).capacity (length (port_at p join.block).waiting + n + coming (port_at p join.block)))
        places ((keeps h join.block kept fits.fits).within (ap makes_freely is) limited p l);
  }

pub reserved_kept : ReservedAreKept
reserved_kept = record {
  each = λ ports sources rules begins fits steps done.
      let fresh = fresh_join ports sources rules in
      keeps_reserved (history_of came_into tuples_by gave_by steps fresh nothing_yet) (after_all steps fresh)
      (all_calls steps fresh nothing_yet fits done
      (fresh_kept Join 1 0 ports rules begins false (λ e. absurd (cc)) (λ e. absurd (cc))))
      (fits_after FitsReserving MayCallReservingInOrder DoesToReserving steps fresh fits done);
}
