-- What holds of a spread, whatever its block and its targets do: of each end alone, and of all together.
use Rattle.std.specs.Prelude.{◌≡◌, ℕ, ◌+◌, ◌^◌, ◌<◌, ◌≤◌, ◌==◌, Bool, true, false, ◌&&◌, ◌||◌, length, Option, Some, None, is_some}
use Rattle.std.specs.Bool.{OnTrue}
use Rattle.std.specs.Option.{ForSome}
use Rattle.flow_value.specs.declared.value.Value.{Value}
use Rattle.flow_link.specs.declared.phase.LinkEnd.{LinkEnd}
use Rattle.flow_link.specs.declared.stage.SourceStage.{SourceStage}
use Rattle.flow_link.specs.declared.stage.SourceStage.TheVariants.{Free, Out, Accepted, Crossing, Ended}
use Rattle.flow_link.specs.declared.trace.Outcome.{Outcome}
use Rattle.flow_link.specs.declared.trace.Outcome.TheVariants.{Done}
use Rattle.flow_link.specs.LinkOk.{IsWithin, HasRoom}
use Rattle.flow_outlet.specs.End.{id_of, is_out, is_away, is_cut}
use Rattle.flow_outlet.specs.Law.{is_put_off, is_posted, is_refused, admits_head}
use Rattle.flow_outlet.specs.Outlet.{end_of}
use Rattle.flow_outlet.specs.declared.ends.OutEnd.{OutEnd}
use Rattle.flow_spread.specs.declared.end.CopyEnd.{CopyEnd}
use Rattle.flow_spread.specs.Spread.{SpreadState, end_at}

-- the stage speaks of a message
abbrev pub speaks : SourceStage → Bool
speaks stage = is_some (id_of stage)

-- the element is under way over the link, or the link is still to be asked for it
abbrev pub concerns_it : CopyEnd → Bool
concerns_it end = speaks end.link.stage || end.owes

-- at which stages a link may owe. A block that takes once waits for those that put the element off
abbrev pub may_owe : Bool → SourceStage → Bool
may_owe once Free = true
may_owe once (Out _) = true
may_owe once (Accepted _) = true
may_owe once Crossing = true
may_owe once (Ended _) = true
may_owe once stage = once && is_put_off stage

-- only a target that need not take each message at once puts one off, and not the first where no other link leads into it
pub record PutsOffWell (steady sole : Bool) (last : ℕ) : Type 0 where
  pub unsteady : steady ≡ false
  pub late : sole ≡ true → 1 ≤ last

abbrev pub MayPutOff : OutEnd → Type 0
MayPutOff link = PutsOffWell link.rule.steady link.rule.sole link.last

-- what holds of an end of a block that has this element, with this id. Pending says that the block faults or has faulted, and
-- stopped how the block stopped, if it did
pub record CopyEndLaw (element : Option Value) (id : ℕ) (once pending : Bool) (stopped : Option Outcome) (end : CopyEnd) : Type 0 where
  -- all that is under way is the element
  pub current : ForSome (id_of end.link.stage) (λ i. i ≡ id)
  pub offers : is_posted end.link.stage ≡ false
  -- ids rise, and what is still to come over the link has not gone over it
  pub risen : end.link.last ≤ id
  pub declined_before : end.link.declined ≤ id
  pub fresh : OnTrue (concerns_it end) (end.link.last < id)
  pub admitted : OnTrue (concerns_it end) (admits_head end.link.rule.when element ≡ true)
  pub ready : OnTrue (speaks end.link.stage) (end.share ≡ element)
  -- the link carries no more than its limit
  pub within : IsWithin end.link.rule.max end.link.given
  pub room : OnTrue (concerns_it end) (HasRoom end.link.rule.max end.link.given)
  pub put_off : OnTrue (is_put_off end.link.stage) (MayPutOff end.link)
  -- while the element is offered, or accepted and not given, the link owes
  pub owed : OnTrue (is_out end.link.stage) (end.owes ≡ true)
  pub owing : OnTrue end.owes (may_owe once end.link.stage ≡ true)
  -- what takes once goes on waiting for a link that was not given the element
  pub once_owes : once ≡ true → admits_head end.link.rule.when element ≡ true
      → (end.owes || end.link.last == id || is_refused end.link.stage || is_cut end.link) ≡ true
  -- an offer is given up for good only where the block faults
  pub given_up : OnTrue (end.link.declined == id && end.owes) ((once ≡ true) × (pending ≡ true))
  -- it ends as the block ended, or plainly where it is cut
  pub ended : (how : LinkEnd) → end.link.stage ≡ Ended how → end_of end.link stopped ≡ Some how
  -- where the block has stopped, nothing is under way; where it is done, nobody waits for the element
  pub rests : is_some stopped ≡ true → is_away end.link.stage ≡ false
  pub served : stopped ≡ Some Done → end.owes ≡ false

-- what holds of all, for a spread whose first element has this id
pub record SpreadLaw (first : ℕ) (pending : Bool) (stopped : Option Outcome) (s : SpreadState) : Type 0 where
  pub begins : 1 ≤ first
  pub ids : s.id < 2 ^ 59
  pub counted : first ≤ s.id + 1
  pub none_yet : s.element ≡ None → s.id + 1 ≡ first
  pub some_since : is_some s.element ≡ true → first ≤ s.id
  pub only_one : s.once ≡ true → s.id ≤ first
  pub each : (k : ℕ) → k < length s.ends
      → CopyEndLaw s.element s.id s.once pending stopped (end_at s k)
