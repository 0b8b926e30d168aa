-- A link is in order in one way at most, over values: so what follows from it alone follows where it merely is.
use Rattle.std.proofs.Common.{ℕ, ◌||◌, Bool, true, false, List, Option, Some, None}
use Rattle.std.specs.Bool.{OnTrue}
use Rattle.std.specs.Coded.{le_prop, codes}
use Rattle.std.proofs.Math.Bool.{Bool-set}
use Rattle.std.proofs.Math.Nat.{ℕ_set}
use mathlib.Core.Sum.{⊎_set}
use Rattle.flow_value.specs.declared.value.Value.{Value}
use Rattle.flow_value.specs.contracts.value.Value as content
use Rattle.flow_link.specs.declared.phase.LinkEnd.{LinkEnd}
use Rattle.flow_link.specs.declared.phase.Phase.{Phase}
use Rattle.flow_link.specs.declared.phase.Phase.TheVariants as phase
use Rattle.flow_link.specs.LinkOk.{StandAt, IdsRise, IsHome, IsInSlot, InHandAt, CrossedAt, MayPutOff, IsWithin, EndsWell, AsPlanned, LinkOk}
use Rattle.flow_link.specs.LinkOk.{is_put_off, source_gives_freely, target_takes_freely, source_reserves, target_reserves, is_to_give}
use Rattle.flow_link.specs.Views.{SourceStage, TargetStage, SourceView, TargetView, LinkFacts, crossed}
use Rattle.flow_task.proofs.WordsFit.{room_prop, end_prop}

-- Where its ends stand

Ends-set : IsSet LinkEnd
Ends-set = hlevel (ℕ_set, ⊎_set)

idle_prop : (s : SourceStage) (t : TargetStage Value) → IsProp (StandAt phase.Idle s t)
idle_prop SourceStage.free TargetStage.free = hlevel
idle_prop SourceStage.free _ = hlevel
idle_prop SourceStage.crossing TargetStage.free = hlevel
idle_prop SourceStage.crossing _ = hlevel
idle_prop (SourceStage.posted x) TargetStage.free = hlevel
idle_prop (SourceStage.posted x) _ = hlevel
idle_prop _ t = hlevel

posted_prop : (i : ℕ) (s : SourceStage) (t : TargetStage Value) → IsProp (StandAt (phase.Posted i) s t)
posted_prop i (SourceStage.posted j) TargetStage.free = ℕ_set _ _
posted_prop i (SourceStage.posted j) (TargetStage.posted k) = hlevel ℕ_set
posted_prop i (SourceStage.posted j) (TargetStage.postponed y) = ℕ_set _ _
posted_prop i (SourceStage.posted j) (TargetStage.consuming y) = ℕ_set _ _
posted_prop i (SourceStage.posted j) (TargetStage.asking y) = ℕ_set _ _
posted_prop i (SourceStage.posted j) _ = hlevel
posted_prop i _ t = hlevel

offered_prop : (i : ℕ) (s : SourceStage) (t : TargetStage Value) → IsProp (StandAt (phase.Offered i) s t)
offered_prop i (SourceStage.out j) TargetStage.free = ℕ_set _ _
offered_prop i (SourceStage.out j) (TargetStage.offered k) = hlevel ℕ_set
offered_prop i (SourceStage.out j) (TargetStage.postponed y) = ℕ_set _ _
offered_prop i (SourceStage.out j) (TargetStage.consuming y) = ℕ_set _ _
offered_prop i (SourceStage.out j) (TargetStage.asking y) = ℕ_set _ _
offered_prop i (SourceStage.out j) _ = hlevel
offered_prop i _ t = hlevel

postponed_prop : (i : ℕ) (s : SourceStage) (t : TargetStage Value) → IsProp (StandAt (phase.Postponed i) s t)
postponed_prop i (SourceStage.out j) (TargetStage.postponed k) = hlevel ℕ_set
postponed_prop i (SourceStage.out j) _ = hlevel
postponed_prop i (SourceStage.waiting j) (TargetStage.postponed k) = hlevel ℕ_set
postponed_prop i (SourceStage.waiting j) _ = hlevel
postponed_prop i (SourceStage.reserved j) (TargetStage.postponed k) = hlevel ℕ_set
postponed_prop i (SourceStage.reserved j) _ = hlevel
postponed_prop i _ t = hlevel

wanted_prop : (i : ℕ) (s : SourceStage) (t : TargetStage Value) → IsProp (StandAt (phase.Wanted i) s t)
wanted_prop i (SourceStage.posted j) (TargetStage.accepted k) = hlevel ℕ_set
wanted_prop i (SourceStage.posted j) _ = hlevel
wanted_prop i (SourceStage.out j) (TargetStage.accepted k) = hlevel ℕ_set
wanted_prop i (SourceStage.out j) (TargetStage.consuming k) = hlevel ℕ_set
wanted_prop i (SourceStage.out j) _ = hlevel
wanted_prop i (SourceStage.accepted j) (TargetStage.accepted k) = hlevel ℕ_set
wanted_prop i (SourceStage.accepted j) (TargetStage.consuming k) = hlevel ℕ_set
wanted_prop i (SourceStage.accepted j) _ = hlevel
wanted_prop i (SourceStage.filling j) (TargetStage.accepted k) = hlevel ℕ_set
wanted_prop i (SourceStage.filling j) (TargetStage.consuming k) = hlevel ℕ_set
wanted_prop i (SourceStage.filling j) (TargetStage.claiming k) = hlevel ℕ_set
wanted_prop i (SourceStage.filling j) _ = hlevel
wanted_prop i (SourceStage.waiting j) (TargetStage.consuming k) = hlevel ℕ_set
wanted_prop i (SourceStage.waiting j) _ = hlevel
wanted_prop i (SourceStage.wished j) (TargetStage.consuming k) = hlevel ℕ_set
wanted_prop i (SourceStage.wished j) _ = hlevel
wanted_prop i (SourceStage.reserved j) (TargetStage.claiming k) = hlevel ℕ_set
wanted_prop i (SourceStage.reserved j) _ = hlevel
wanted_prop i (SourceStage.claimed j) (TargetStage.claiming k) = hlevel ℕ_set
wanted_prop i (SourceStage.claimed j) _ = hlevel
wanted_prop i _ t = hlevel

given_prop : (i : ℕ) (s : SourceStage) (t : TargetStage Value) → IsProp (StandAt (phase.Given i) s t)
given_prop i SourceStage.crossing (TargetStage.accepted k) = ℕ_set _ _
given_prop i SourceStage.crossing (TargetStage.consuming k) = ℕ_set _ _
given_prop i SourceStage.crossing (TargetStage.claiming k) = ℕ_set _ _
given_prop i SourceStage.crossing (TargetStage.arrived k) = ℕ_set _ _
given_prop i SourceStage.crossing _ = hlevel
given_prop i _ t = hlevel

opened_prop : (i : ℕ) (s : SourceStage) (t : TargetStage Value) → IsProp (StandAt (phase.Opened i) s t)
opened_prop i SourceStage.crossing (TargetStage.hand k v) = ℕ_set _ _
opened_prop i SourceStage.crossing _ = hlevel
opened_prop i _ t = hlevel

asked_prop : (i : ℕ) (s : SourceStage) (t : TargetStage Value) → IsProp (StandAt (phase.Asked i) s t)
asked_prop i (SourceStage.out j) (TargetStage.asking k) = hlevel ℕ_set
asked_prop i (SourceStage.out j) _ = hlevel
asked_prop i (SourceStage.waiting j) (TargetStage.asking k) = hlevel ℕ_set
asked_prop i (SourceStage.waiting j) _ = hlevel
asked_prop i (SourceStage.asked_by j) (TargetStage.asking k) = hlevel ℕ_set
asked_prop i (SourceStage.asked_by j) _ = hlevel
asked_prop i (SourceStage.reserved j) (TargetStage.asking k) = hlevel ℕ_set
asked_prop i (SourceStage.reserved j) _ = hlevel
asked_prop i _ t = hlevel

held_prop : (i : ℕ) (s : SourceStage) (t : TargetStage Value) → IsProp (StandAt (phase.Held i) s t)
held_prop i (SourceStage.reserved j) (TargetStage.asking k) = hlevel ℕ_set
held_prop i (SourceStage.reserved j) (TargetStage.holding k) = hlevel ℕ_set
held_prop i (SourceStage.reserved j) _ = hlevel
held_prop i _ t = hlevel

refused_prop : (s : SourceStage) (t : TargetStage Value) → IsProp (StandAt phase.Refused s t)
refused_prop (SourceStage.out x) (TargetStage.refused y) = hlevel
refused_prop (SourceStage.out x) _ = hlevel
refused_prop (SourceStage.posted x) (TargetStage.refused y) = hlevel
refused_prop (SourceStage.posted x) _ = hlevel
refused_prop (SourceStage.waiting x) (TargetStage.refused y) = hlevel
refused_prop (SourceStage.waiting x) _ = hlevel
refused_prop (SourceStage.reserved x) (TargetStage.refused y) = hlevel
refused_prop (SourceStage.reserved x) _ = hlevel
refused_prop SourceStage.refused (TargetStage.refused y) = hlevel
refused_prop SourceStage.refused _ = hlevel
refused_prop _ t = hlevel

ended_prop : (how : LinkEnd) (s : SourceStage) (t : TargetStage Value) → IsProp (StandAt (phase.Ended how) s t)
ended_prop how (SourceStage.ended mine) TargetStage.free = Ends-set _ _
ended_prop how (SourceStage.ended mine) (TargetStage.ended yours) = hlevel Ends-set
ended_prop how (SourceStage.ended mine) (TargetStage.postponed y) = Ends-set _ _
ended_prop how (SourceStage.ended mine) (TargetStage.consuming y) = Ends-set _ _
ended_prop how (SourceStage.ended mine) (TargetStage.asking y) = Ends-set _ _
ended_prop how (SourceStage.ended mine) _ = hlevel
ended_prop how _ t = hlevel

stand_prop : (phase : Phase) (s : SourceStage) (t : TargetStage Value) → IsProp (StandAt phase s t)
stand_prop phase.Idle s t = idle_prop s t
stand_prop (phase.Posted i) s t = posted_prop i s t
stand_prop (phase.Offered i) s t = offered_prop i s t
stand_prop (phase.Postponed i) s t = postponed_prop i s t
stand_prop (phase.Wanted i) s t = wanted_prop i s t
stand_prop (phase.Given i) s t = given_prop i s t
stand_prop (phase.Opened i) s t = opened_prop i s t
stand_prop (phase.Asked i) s t = asked_prop i s t
stand_prop (phase.Held i) s t = held_prop i s t
stand_prop phase.Refused s t = refused_prop s t
stand_prop (phase.Ended how) s t = ended_prop how s t

-- What crossed

ids_prop : (phase : Phase) (last : ℕ) → IsProp (IdsRise phase last)
ids_prop phase.Idle last = hlevel
ids_prop (phase.Posted i) last = le_prop
ids_prop (phase.Offered i) last = le_prop
ids_prop (phase.Postponed i) last = le_prop
ids_prop (phase.Wanted i) last = le_prop
ids_prop (phase.Given i) last = ℕ_set _ _
ids_prop (phase.Opened i) last = ℕ_set _ _
ids_prop (phase.Asked i) last = le_prop
ids_prop (phase.Held i) last = le_prop
ids_prop phase.Refused last = hlevel
ids_prop (phase.Ended how) last = hlevel

Slots-set : IsSet (Option Value)
Slots-set = Prim.hlevel (codes, content.the_row.coded)

Values-set : IsSet (List Value)
Values-set = Prim.hlevel (codes, content.the_row.coded)

home_prop : (slot : Option Value) (given taken : List Value) → IsProp (IsHome slot given taken)
home_prop slot given taken = hlevel (Slots-set, Values-set)

in_slot_prop : (slot : Option Value) (given taken : List Value) → IsProp (IsInSlot slot given taken)
in_slot_prop (Some value) given taken = Values-set _ _
in_slot_prop None given taken = hlevel

in_hand_prop : (stage : TargetStage Value) (slot : Option Value) (given taken : List Value) → IsProp (InHandAt stage slot given taken)
in_hand_prop (TargetStage.hand k value) slot given taken = hlevel (Slots-set, Values-set)
in_hand_prop _ slot given taken = hlevel

crossed_prop : (phase : Phase) (stage : TargetStage Value) (slot : Option Value) (given taken : List Value)
    → IsProp (CrossedAt phase stage slot given taken)
crossed_prop (phase.Given i) stage slot given taken = in_slot_prop slot given taken
crossed_prop (phase.Opened i) stage slot given taken = in_hand_prop stage slot given taken
crossed_prop _ stage slot given taken = home_prop slot given taken

-- What the plan says

on_prop : (b : Bool) (P : Type 0) → IsProp P → IsProp (OnTrue b P)
on_prop true P once = once
on_prop false P once = hlevel

put_off_prop : (facts : LinkFacts) (count : ℕ) → IsProp (MayPutOff facts count)
put_off_prop facts count = hlevel (Bool-set, le_prop)

within_prop : (max : Option ℕ) (count : ℕ) → IsProp (IsWithin max count)
within_prop None count = hlevel
within_prop (Some max) count = le_prop

ends_prop : (facts : LinkFacts) (count : ℕ) (phase : Phase) → IsProp (EndsWell facts count phase)
ends_prop facts count (phase.Ended how) = end_prop facts count how
ends_prop facts count _ = hlevel

planned_prop : (facts : LinkFacts) (count : ℕ) (phase : Phase) (source : SourceStage) (target : TargetStage Value)
    → IsProp (AsPlanned facts count phase source target)
planned_prop facts count phase source target =
    let put_off = on_prop (is_put_off phase source target) _ (put_off_prop facts count) in
    let freely = on_prop (source_gives_freely source || target_takes_freely target) _ (Bool-set facts.reserving false) in
    let reserved = on_prop (source_reserves source || target_reserves target) _ (Bool-set facts.reserving true) in
    let within = within_prop facts.max count in
    let room = on_prop (is_to_give source) _ (room_prop facts.max count) in
    let ends = ends_prop facts count phase in
    hlevel

pub link_prop : (facts : LinkFacts) (phase : Phase) (slot : Option Value) (source : SourceView Value) (target : TargetView Value)
    → IsProp (LinkOk facts phase slot source target)
link_prop facts phase slot source target =
    let stages = stand_prop phase source.stage target.stage in
    let ids = ids_prop phase source.last in
    let values = crossed_prop phase target.stage slot source.given target.taken in
    let plan = planned_prop facts (crossed source) phase source.stage target.stage in
    hlevel ℕ_set
