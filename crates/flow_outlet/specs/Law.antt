-- What holds of an outlet, whatever its block and its targets do: of each end alone, and of all together.
use Rattle.std.specs.Prelude.{◌≡◌, ℕ, ◌+◌, ◌^◌, ◌<◌, ◌≤◌, ◌==◌, Bool, true, false, not, ◌||◌, length, Option, Some, None}
use Rattle.std.specs.Bool.{OnTrue}
use Rattle.std.specs.Option.{ForSome}
use Rattle.flow_value.specs.When.{admits}
use Rattle.flow_value.specs.declared.value.Value.{Value}
use Rattle.flow_value.specs.declared.when.When.{When}
use Rattle.flow_link.specs.declared.phase.LinkEnd.{LinkEnd}
use Rattle.flow_link.specs.declared.stage.SourceStage.{SourceStage}
use Rattle.flow_link.specs.declared.stage.SourceStage.TheVariants.{Posted, Waiting, Wished, AskedBy, Reserved, Claimed, Refused, Ended}
use Rattle.flow_link.specs.declared.trace.Outcome.{Outcome}
use Rattle.flow_link.specs.LinkOk.{IsWithin, HasRoom}
use Rattle.flow_outlet.specs.End.{id_of, speaks_of, is_spoken_for, is_cut, rejects}
use Rattle.flow_outlet.specs.Outlet.{OutletState, head_of, end_at, stage_at, end_of}
use Rattle.flow_outlet.specs.declared.ends.OutEnd.{OutEnd}

-- the target did not take the offer at once
abbrev pub is_put_off : SourceStage → Bool
is_put_off (Waiting _) = true
is_put_off (Wished _) = true
is_put_off (AskedBy _) = true
is_put_off (Reserved _) = true
is_put_off (Claimed _) = true
is_put_off _ = false

abbrev pub is_posted : SourceStage → Bool
is_posted (Posted _) = true
is_posted _ = false

abbrev pub is_refused : SourceStage → Bool
is_refused Refused = true
is_refused _ = false

-- there is a message, and the predicate admits it
abbrev pub admits_head : When → Option Value → Bool
admits_head when None = false
admits_head when (Some value) = admits when value

-- what holds of the end at place k, where next is the id of the head, offer the place of the end over which the head is
-- spoken for, pending says that the block faults or has faulted, and stopped how the block stopped, if it did
pub record EndLaw (next : ℕ) (head : Option Value) (offer : Option ℕ) (pending : Bool) (stopped : Option Outcome) (k : ℕ) (end : OutEnd) : Type 0 where
  -- ids rise
  pub risen : end.last < next
  pub none_later : ForSome (id_of end.stage) (λ i. i ≤ next)
  pub declined_before : end.declined ≤ next
  -- the head is spoken for over one link
  pub out : OnTrue (is_spoken_for end.stage) (offer ≡ Some k)
  pub out_head : OnTrue (is_spoken_for end.stage) (speaks_of next end.stage ≡ true)
  -- a block offers what may be postponed
  pub offers : is_posted end.stage ≡ false
  pub admitted : OnTrue (speaks_of next end.stage) (admits_head end.rule.when head ≡ true)
  pub put_off : OnTrue (is_put_off end.stage) (end.rule.steady ≡ false)
  -- the link carries no more than its limit
  pub within : IsWithin end.rule.max end.given
  pub room : ForSome (id_of end.stage) (λ _. HasRoom end.rule.max end.given)
  -- it ends as the block ended, or plainly where it is cut
  pub ended : (how : LinkEnd) → end.stage ≡ Ended how → end_of end stopped ≡ Some how
  -- an offer is given up for good only where the block faults
  pub given_up : OnTrue (end.declined == next) (pending ≡ true)
  pub given_up_late : OnTrue (end.declined == next) (end.rule.steady ≡ false)

-- a message may go over a later link, though this one comes first: it rejects the message, or need not take it at once, or
-- is cut or refused
abbrev pub may_go_past : Option Value → OutEnd → Bool
may_go_past head end = rejects end.rule.when head || not end.rule.steady || is_cut end || is_refused end.stage

-- what holds of all
pub record OutletLaw (pending : Bool) (stopped : Option Outcome) (o : OutletState) : Type 0 where
  pub begins : 1 ≤ o.next
  -- what is set aside has its ids, too
  pub ids : o.next + length o.left + o.spare ≤ 2 ^ 59
  pub each : (k : ℕ) → k < length o.ends → EndLaw o.next (head_of o) o.offer pending stopped k (end_at o k)
  -- what is said to be spoken for is
  pub offer_there : ForSome o.offer (λ k. k < length o.ends)
  pub offer_out : ForSome o.offer (λ k. is_spoken_for (stage_at o k) ≡ true)
  -- what may be wanted is ready to be given
  pub ready : (k : ℕ) → k < length o.ends → speaks_of o.next (stage_at o k) ≡ true → o.parcel ≡ head_of o
  -- the head is offered in the order of the links
  pub in_order : (j k : ℕ) → j < k → k < length o.ends → speaks_of o.next (stage_at o k) ≡ true
      → may_go_past (head_of o) (end_at o j) ≡ true
