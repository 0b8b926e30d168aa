-- A message that goes over a link in one call, since its target takes it at once: when that may be, what the five events of it
-- make of the network, and that all five may happen.
use Rattle.std.specs.Prelude.{◌≡◌, ℕ, ◌<◌, ◌^◌, Bool, true, false, not, ◌&&◌, ◌==◌, length, List, Some, is_none, Result}
use Rattle.flow_value.specs.declared.value.Value.{Value}
use Rattle.flow_link.specs.declared.phase.Move.TheVariants.{Offer, Want, Give, Open, Close}
use Rattle.flow_link.specs.declared.phase.Phase.{Phase}
use Rattle.flow_link.specs.declared.phase.Phase.TheVariants.{Idle, Offered, Wanted, Given, Opened}
use Rattle.flow_link.specs.declared.plan.LinkSource.{LinkSource}
use Rattle.flow_link.specs.declared.plan.LinkSource.TheVariants.{Block, Input}
use Rattle.flow_link.specs.declared.plan.LinkTarget.{LinkTarget}
use Rattle.flow_link.specs.declared.plan.LinkTarget.TheVariants.{Port, Exit}
use Rattle.flow_link.specs.Layout.{Layout}
use Rattle.flow_link.specs.Plan.{is_one_taker}
use Rattle.flow_outlet.specs.ByLink.{has_room}
use Rattle.flow_outlet.specs.Outlet.{end_at}
use Rattle.flow_spread.specs.Spread.{link_at}
use Rattle.flow_block.specs.Block.{BlockState}
use Rattle.flow_block.specs.Passes.{takes_freely}
use Rattle.flow_input.specs.Input.{next_id}
use Rattle.flow_block.specs.Routes.{route_of}
use Rattle.flow_block.specs.declared.planned.Route.{Route}
use Rattle.flow_core.specs.Events.{NetEvent, MayHappen, after}
use Rattle.flow_link.specs.declared.trace.LinkState.{LinkState}
use Rattle.flow_core.specs.State.{NetState, node_at, line_at}
use Rattle.flow_moves.specs.Statements.{InEachNet, source_would}
use Rattle.flow_moves.specs.Ways.{input_in, moved_along}

-- the id of the message that a block would offer, by whether it shares its messages out or copies them
abbrev pub id_by : Bool → BlockState → ℕ
id_by true block = block.exits.next
id_by false block = block.copies.id

abbrev pub id_in : BlockState → ℕ
id_in block = id_by (is_one_taker block.kind) block

-- the id of the message that the source would offer
abbrev pub id_next : NetState → LinkSource → ℕ → ℕ
id_next net (Block s) k = id_in (node_at net s).block
id_next net (Input b) k = next_id (input_in net k)

-- one more message may cross the link
abbrev pub carries_by : Bool → ℕ → BlockState → Bool
carries_by true k block = has_room (end_at block.exits k).rule.max (end_at block.exits k).given
carries_by false k block = has_room (link_at block.copies k).rule.max (link_at block.copies k).given

abbrev pub carries : ℕ → BlockState → Bool
carries k block = carries_by (is_one_taker block.kind) k block

abbrev pub may_carry : NetState → LinkSource → ℕ → Bool
may_carry net (Block s) k = carries k (node_at net s).block
may_carry net (Input b) k = true

-- the target takes at once what is offered to it
abbrev pub takes_now : NetState → LinkTarget → ℕ → Bool
takes_now net (Port t p) k = takes_freely p k (node_at net t)
takes_now net Exit k = false

-- its two ends are not of one block
abbrev pub are_apart : LinkSource → LinkTarget → Bool
are_apart (Block s) (Port t p) = not (s == t)
are_apart _ _ = true

abbrev pub is_idle_phase : Phase → Bool
is_idle_phase Idle = true
is_idle_phase _ = false

-- nothing is under way
abbrev pub is_idle_line : LinkState → Bool
is_idle_line line = is_idle_phase line.phase && is_none line.slot

-- what the source offers over the link may go over it in one call
abbrev pub may_pass : ℕ → Route → NetState → Bool
may_pass l route net =
    is_idle_line (line_at net l)
    && are_apart route.source route.target
    && takes_now net route.target route.target_place
    && may_carry net route.source route.source_place

-- the network after each of the five moves, by the link's way
module _ (makes : ℕ → Value → Result (List Value) ℕ) (l i : ℕ) (route : Route) (net : NetState) where
  abbrev pub offered_along : NetState
  offered_along = moved_along makes true l (Offer i) (Offered i) route net

  abbrev pub wanted_along : NetState
  wanted_along = moved_along makes false l Want (Wanted i) route offered_along

  abbrev pub given_along : NetState
  given_along = moved_along makes true l Give (Given i) route wanted_along

  abbrev pub opened_along : NetState
  opened_along = moved_along makes false l Open (Opened i) route given_along

  abbrev pub passed_along : NetState
  passed_along = moved_along makes false l Close Idle route opened_along

-- and after each of the five events
module _ {W : Type 0} (layout : Layout W) (meaning : ℕ → Value → Result (List Value) ℕ) (l i : ℕ) (net : NetState) where
  abbrev pub after_offer : NetState
  after_offer = after layout meaning (NetEvent.at_link l (Offer i)) net

  abbrev pub after_want : NetState
  after_want = after layout meaning (NetEvent.at_link l Want) after_offer

  abbrev pub after_give : NetState
  after_give = after layout meaning (NetEvent.at_link l Give) after_want

  abbrev pub after_open : NetState
  after_open = after layout meaning (NetEvent.at_link l Open) after_give

  abbrev pub after_pass : NetState
  after_pass = after layout meaning (NetEvent.at_link l Close) after_open

  -- each of them may happen
  pub record MayPass : Type 0 where
    pub offer : MayHappen layout meaning (NetEvent.at_link l (Offer i)) net
    pub want : MayHappen layout meaning (NetEvent.at_link l Want) after_offer
    pub give : MayHappen layout meaning (NetEvent.at_link l Give) after_want
    pub open_it : MayHappen layout meaning (NetEvent.at_link l Open) after_give
    pub close : MayHappen layout meaning (NetEvent.at_link l Close) after_open

module _ (W : Type 0) where
  -- where a source would offer a message, and it may pass, all five events may happen
  abbrev pub PassesHappen : Type 0
  PassesHappen = InEachNet W λ layout meaning net.
      (l i : ℕ) → l < length layout.links → source_would layout net l ≡ Some (Offer i) → i < 2 ^ 59
      → may_pass l (route_of layout l) net ≡ true → MayPass layout meaning l i net
