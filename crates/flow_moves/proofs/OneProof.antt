-- What code is told of a network in order has one proof at most, so it follows where the network merely is in order.
use Rattle.std.specs.Prelude.{ℕ, Bool, true, false, List, Option, Some, None, Result}
use Rattle.std.specs.Coded.{le_prop, Coded-set, coded_option}
use Rattle.std.proofs.Math.Bool.{Bool-set}
use Rattle.std.proofs.Math.Nat.{ℕ_set}
use mathlib.Core.Sum.{⊎_set}
use Rattle.flow_value.specs.contracts.value.Value as content
use Rattle.flow_value.specs.declared.value.Value.{Value}
use Rattle.flow_link.specs.declared.phase.Move.{Move}
use Rattle.flow_link.specs.declared.phase.Move.TheVariants as move
use Rattle.flow_link.specs.declared.plan.LinkSource.{LinkSource}
use Rattle.flow_link.specs.declared.plan.LinkSource.TheVariants.{Block, Input}
use Rattle.flow_link.specs.declared.plan.LinkTarget.{LinkTarget}
use Rattle.flow_link.specs.declared.plan.LinkTarget.TheVariants.{Port, Exit}
use Rattle.flow_lawful.specs.Lawful.{Lawful}
use Rattle.flow_link.specs.Layout.{Layout}
use Rattle.flow_link.specs.LinkOk.{HasRoom}
use Rattle.flow_link.specs.Plan.{is_one_taker}
use Rattle.flow_lawful.specs.Quiet.{Quiet}
use Rattle.flow_link.specs.Trace.{Run}
use Rattle.flow_outlet.specs.Outlet.{OutletState, end_at}
use Rattle.flow_spread.specs.Spread.{SpreadState, link_at}
use Rattle.flow_block.specs.Block.{BlockState}
use Rattle.flow_input.specs.Input.{InputState}
use Rattle.flow_block.specs.Node.{NodeState}
use Rattle.flow_block.specs.declared.planned.Route.{Route}
use Rattle.flow_core.specs.Events.{NetEvent, LinkMay, HasIds, MayHappen, is_of_source}
use Rattle.flow_core.specs.State.{NetState, node_at, line_at}
use Rattle.flow_moves.specs.Passes.{MayPass, after_offer, after_want, after_give, after_open}
use Rattle.flow_moves.specs.Ready.{SourceIsThere, TargetIsThere, IsThere, GiveIsReady, OutIsReady, CopyIsReadyToGive}
use Rattle.flow_moves.specs.Ready.{CopyIsReady, ReadyBy, InIsReady}
use Rattle.flow_moves.specs.Ready.{ExitEndIsReady, InputIsReady, SourceIsReady, TargetIsReady, MoverIsReady, IsReady}
use Rattle.flow_moves.specs.Statements.{IsPlanned}
use Rattle.flow_exit.specs.Exit.{ExitState}
use Rattle.flow_moves.specs.Ways.{input_in, exit_in}

pub lawful_prop : {W : Type 0} (run : Run W) → IsProp (Lawful run)
lawful_prop run = hlevel (ℕ_set, Bool-set)

pub quiet_prop : {W : Type 0} (run : Run W) → IsProp (Quiet run)
quiet_prop run = hlevel Bool-set

pub planned_prop : {W : Type 0} (layout : Layout W) (b : ℕ) (block : BlockState) → IsProp (IsPlanned layout b block)
planned_prop layout b block = hlevel (ℕ_set, Bool-set, ⊎_set, le_prop)

-- moves are told apart
Moves-set : IsSet (Option Move)
Moves-set = hlevel (ℕ_set, ⊎_set)

pub link_may_prop : {W : Type 0} (layout : Layout W) (net : NetState) (l : ℕ) (next : Move) → IsProp (LinkMay layout net l next)
link_may_prop layout net l next = hlevel (le_prop, Bool-set, Moves-set)

-- The two ends of a link are there

source_there_prop : (net : NetState) (source : LinkSource) (k : ℕ) → IsProp (SourceIsThere net source k)
source_there_prop net (Block s) k = hlevel le_prop
source_there_prop net (Input b) k = le_prop

target_there_prop : (net : NetState) (target : LinkTarget) (k : ℕ) → IsProp (TargetIsThere net target k)
target_there_prop net (Port t p) k = hlevel (le_prop, Bool-set)
target_there_prop net Exit k = le_prop

pub there_prop : (net : NetState) (l : ℕ) (route : Route) → IsProp (IsThere net l route)
there_prop net l route =
    let source = source_there_prop net route.source route.source_place in
    let target = target_there_prop net route.target route.target_place in
    hlevel le_prop

-- The end that makes a move stands ready

room_prop : (max : Option ℕ) (count : ℕ) → IsProp (HasRoom max count)
room_prop None count = hlevel
room_prop (Some max) count = le_prop

give_ready_prop : (k : ℕ) (exits : OutletState) → IsProp (GiveIsReady k exits)
give_ready_prop k exits =
    let room = room_prop (end_at exits k).rule.max (end_at exits k).given in
    hlevel (le_prop, Bool-set)

-- places among ends are told apart
Places-set : IsSet (Option ℕ)
Places-set = hlevel (ℕ_set, ⊎_set)

out_ready_prop : (k : ℕ) (next : Move) (node : NodeState) → IsProp (OutIsReady k next node)
out_ready_prop k (move.Offer id) node = Places-set _ _
out_ready_prop k move.Give node = give_ready_prop k node.block.exits
out_ready_prop k move.Hold node = hlevel (le_prop, Bool-set)
out_ready_prop k move.Deny node = hlevel (le_prop, Bool-set)
out_ready_prop k move.Withdraw node = hlevel (le_prop, Bool-set)
out_ready_prop k (move.End how) node = hlevel (le_prop, Bool-set)
out_ready_prop k _ node = hlevel

copy_give_prop : (k : ℕ) (copies : SpreadState) → IsProp (CopyIsReadyToGive k copies)
copy_give_prop k copies =
    let room = room_prop (link_at copies k).rule.max (link_at copies k).given in
    hlevel (le_prop, Bool-set)

copy_ready_prop : (k : ℕ) (next : Move) (copies : SpreadState) → IsProp (CopyIsReady k next copies)
copy_ready_prop k (move.Offer id) copies = hlevel (le_prop, Bool-set)
copy_ready_prop k move.Give copies = copy_give_prop k copies
copy_ready_prop k move.Hold copies = hlevel (le_prop, Bool-set)
copy_ready_prop k move.Withdraw copies = hlevel (le_prop, Bool-set)
copy_ready_prop k (move.End how) copies = hlevel (le_prop, Bool-set)
copy_ready_prop k _ copies = hlevel

pub exit_ready_prop : (sharing : Bool) (k : ℕ) (next : Move) (node : NodeState) → IsProp (ReadyBy sharing k next node)
exit_ready_prop true k next node = out_ready_prop k next node
exit_ready_prop false k next node = copy_ready_prop k next node.block.copies

pub in_ready_prop : (p k : ℕ) (slot : Option Value) (next : Move) (node : NodeState) → IsProp (InIsReady p k slot next node)
in_ready_prop p k slot move.Want node = hlevel (le_prop, Bool-set)
in_ready_prop p k slot move.TurnDown node = hlevel (le_prop, Bool-set)
in_ready_prop p k slot move.Postpone node = hlevel (le_prop, Bool-set)
in_ready_prop p k slot move.Refuse node = hlevel (le_prop, Bool-set)
in_ready_prop p k slot move.Consume node = hlevel (le_prop, Bool-set)
in_ready_prop p k slot move.Ask node = hlevel (le_prop, Bool-set)
in_ready_prop p k slot move.Claim node = hlevel (le_prop, Bool-set)
in_ready_prop p k slot move.Release node = hlevel (le_prop, Bool-set)
in_ready_prop p k slot move.Open node = hlevel (le_prop, Bool-set)
in_ready_prop p k slot move.Close node = hlevel (le_prop, Bool-set)
in_ready_prop p k slot _ node = hlevel

exit_end_ready_prop : (slot : Option Value) (next : Move) (exit : ExitState) → IsProp (ExitEndIsReady slot next exit)
exit_end_ready_prop slot move.Want exit = hlevel (Bool-set, Coded-set (coded_option content.the_row.coded))
exit_end_ready_prop slot move.TurnDown exit = Bool-set _ _
exit_end_ready_prop slot move.Postpone exit = Bool-set _ _
exit_end_ready_prop slot move.Consume exit = hlevel (Bool-set, Coded-set (coded_option content.the_row.coded))
exit_end_ready_prop slot move.Open exit = hlevel Bool-set
exit_end_ready_prop slot move.Close exit = Bool-set _ _
exit_end_ready_prop slot _ exit = hlevel

pub input_ready_prop : (next : Move) (input : InputState) → IsProp (InputIsReady next input)
input_ready_prop (move.Offer id) input = hlevel (le_prop, Bool-set)
input_ready_prop move.Give input = hlevel Bool-set
input_ready_prop (move.End how) input = Bool-set _ _
input_ready_prop _ input = hlevel

source_ready_prop : (next : Move) (net : NetState) (source : LinkSource) (k : ℕ) → IsProp (SourceIsReady next net source k)
source_ready_prop next net (Block s) k = exit_ready_prop (is_one_taker (node_at net s).block.kind) k next (node_at net s)
source_ready_prop next net (Input b) k = input_ready_prop next (input_in net k)

target_ready_prop : (l : ℕ) (next : Move) (net : NetState) (target : LinkTarget) (k : ℕ)
    → IsProp (TargetIsReady l next net target k)
target_ready_prop l next net (Port t p) k = in_ready_prop p k (line_at net l).slot next (node_at net t)
target_ready_prop l next net Exit k = exit_end_ready_prop (line_at net l).slot next (exit_in net k)

mover_ready_prop : (net : NetState) (l : ℕ) (route : Route) (by_source : Bool) (next : Move)
    → IsProp (MoverIsReady net l route by_source next)
mover_ready_prop net l route true next = source_ready_prop next net route.source route.source_place
mover_ready_prop net l route false next = target_ready_prop l next net route.target route.target_place

pub ready_prop : (net : NetState) (l : ℕ) (route : Route) (next : Move) → IsProp (IsReady net l route next)
ready_prop net l route next = mover_ready_prop net l route (is_of_source next) next

-- each of the five events of a message that goes over a link in one call may happen
event_prop : {W : Type 0} (layout : Layout W) (meaning : ℕ → Value → Result (List Value) ℕ) (l : ℕ) (next : Move) (net : NetState)
    → IsProp (HasIds layout meaning (NetEvent.at_link l next) net)
    → IsProp (MayHappen layout meaning (NetEvent.at_link l next) net)
event_prop layout meaning l next net ids =
    let enabled = link_may_prop layout net l next in
    hlevel

pub pass_prop : {W : Type 0} (layout : Layout W) (meaning : ℕ → Value → Result (List Value) ℕ) (l i : ℕ) (net : NetState)
    → IsProp (MayPass layout meaning l i net)
pass_prop layout meaning l i net =
    let offer = event_prop layout meaning l (move.Offer i) net le_prop in
    let want = event_prop layout meaning l move.Want (after_offer layout meaning l i net) hlevel in
    let give = event_prop layout meaning l move.Give (after_want layout meaning l i net) hlevel in
    let open_it = event_prop layout meaning l move.Open (after_give layout meaning l i net) hlevel in
    let close = event_prop layout meaning l move.Close (after_open layout meaning l i net) hlevel in
    hlevel
