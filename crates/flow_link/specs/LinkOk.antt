-- When a link is in order: which stages of its two ends may stand together at each phase, and what then has crossed.
use Rattle.std.specs.Prelude.{◌≡◌, ℕ, ◌<◌, ◌≤◌, Bool, true, false, ◌||◌, List, [], ◌∷◌, ◌++◌, Option, Some, None}
use Rattle.std.specs.Bool.{OnTrue}
use Rattle.flow_link.specs.declared.phase.LinkEnd.{LinkEnd}
use Rattle.flow_link.specs.declared.phase.LinkEnd.TheVariants.{Plain, Complete, Fault}
use Rattle.flow_link.specs.declared.phase.Phase.{Phase}
use Rattle.flow_link.specs.declared.phase.Phase.TheVariants.{Idle, Posted, Offered, Postponed, Wanted, Given, Opened, Asked, Held, Refused, Ended}
use Rattle.flow_link.specs.Views.{SourceStage, TargetStage, SourceView, TargetView, LinkFacts, crossed}

-- both stages speak of the phase's message
abbrev pub Both : ℕ → ℕ → ℕ → Type 0
Both i j k = (j ≡ i) × (k ≡ i)

-- the stages that may stand together at a phase. A target that still stands at postponed, consuming or asking has not seen
-- that the source withdrew or denied that message: its stage is stale, and speaks of any message
abbrev pub StandAt : {V : Type 0} → Phase → SourceStage → TargetStage V → Type 0
StandAt Idle SourceStage.free TargetStage.free = Unit {0}
StandAt Idle SourceStage.free (TargetStage.postponed _) = Unit {0}
StandAt Idle SourceStage.free (TargetStage.consuming _) = Unit {0}
StandAt Idle SourceStage.free (TargetStage.asking _) = Unit {0}
-- the target has closed, or turned the message down
StandAt Idle SourceStage.crossing TargetStage.free = Unit {0}
StandAt Idle (SourceStage.posted _) TargetStage.free = Unit {0}
StandAt (Posted i) (SourceStage.posted j) TargetStage.free = j ≡ i
StandAt (Posted i) (SourceStage.posted j) (TargetStage.posted k) = Both i j k
StandAt (Posted i) (SourceStage.posted j) (TargetStage.postponed _) = j ≡ i
StandAt (Posted i) (SourceStage.posted j) (TargetStage.consuming _) = j ≡ i
StandAt (Posted i) (SourceStage.posted j) (TargetStage.asking _) = j ≡ i
StandAt (Offered i) (SourceStage.out j) TargetStage.free = j ≡ i
StandAt (Offered i) (SourceStage.out j) (TargetStage.offered k) = Both i j k
StandAt (Offered i) (SourceStage.out j) (TargetStage.postponed _) = j ≡ i
StandAt (Offered i) (SourceStage.out j) (TargetStage.consuming _) = j ≡ i
StandAt (Offered i) (SourceStage.out j) (TargetStage.asking _) = j ≡ i
-- a source at reserved has not seen that the target released the message
StandAt (Postponed i) (SourceStage.out j) (TargetStage.postponed k) = Both i j k
StandAt (Postponed i) (SourceStage.waiting j) (TargetStage.postponed k) = Both i j k
StandAt (Postponed i) (SourceStage.reserved j) (TargetStage.postponed k) = Both i j k
-- wanted at once
StandAt (Wanted i) (SourceStage.posted j) (TargetStage.accepted k) = Both i j k
StandAt (Wanted i) (SourceStage.out j) (TargetStage.accepted k) = Both i j k
StandAt (Wanted i) (SourceStage.accepted j) (TargetStage.accepted k) = Both i j k
StandAt (Wanted i) (SourceStage.filling j) (TargetStage.accepted k) = Both i j k
-- wanted after it was postponed, whether the source saw that or not
StandAt (Wanted i) (SourceStage.out j) (TargetStage.consuming k) = Both i j k
StandAt (Wanted i) (SourceStage.accepted j) (TargetStage.consuming k) = Both i j k
StandAt (Wanted i) (SourceStage.waiting j) (TargetStage.consuming k) = Both i j k
StandAt (Wanted i) (SourceStage.wished j) (TargetStage.consuming k) = Both i j k
StandAt (Wanted i) (SourceStage.filling j) (TargetStage.consuming k) = Both i j k
-- claimed: only while the source keeps it for this link
StandAt (Wanted i) (SourceStage.reserved j) (TargetStage.claiming k) = Both i j k
StandAt (Wanted i) (SourceStage.claimed j) (TargetStage.claiming k) = Both i j k
StandAt (Wanted i) (SourceStage.filling j) (TargetStage.claiming k) = Both i j k
StandAt (Given i) SourceStage.crossing (TargetStage.accepted k) = k ≡ i
StandAt (Given i) SourceStage.crossing (TargetStage.consuming k) = k ≡ i
StandAt (Given i) SourceStage.crossing (TargetStage.claiming k) = k ≡ i
StandAt (Given i) SourceStage.crossing (TargetStage.arrived k) = k ≡ i
StandAt (Opened i) SourceStage.crossing (TargetStage.hand k _) = k ≡ i
StandAt (Asked i) (SourceStage.out j) (TargetStage.asking k) = Both i j k
StandAt (Asked i) (SourceStage.waiting j) (TargetStage.asking k) = Both i j k
StandAt (Asked i) (SourceStage.asked_by j) (TargetStage.asking k) = Both i j k
StandAt (Asked i) (SourceStage.reserved j) (TargetStage.asking k) = Both i j k
-- held: only while the source keeps it for this link
StandAt (Held i) (SourceStage.reserved j) (TargetStage.asking k) = Both i j k
StandAt (Held i) (SourceStage.reserved j) (TargetStage.holding k) = Both i j k
StandAt Refused (SourceStage.out _) (TargetStage.refused _) = Unit {0}
StandAt Refused (SourceStage.posted _) (TargetStage.refused _) = Unit {0}
StandAt Refused (SourceStage.waiting _) (TargetStage.refused _) = Unit {0}
StandAt Refused (SourceStage.reserved _) (TargetStage.refused _) = Unit {0}
StandAt Refused SourceStage.refused (TargetStage.refused _) = Unit {0}
StandAt (Ended how) (SourceStage.ended mine) TargetStage.free = mine ≡ how
StandAt (Ended how) (SourceStage.ended mine) (TargetStage.ended yours) = (mine ≡ how) × (yours ≡ how)
StandAt (Ended how) (SourceStage.ended mine) (TargetStage.postponed _) = mine ≡ how
StandAt (Ended how) (SourceStage.ended mine) (TargetStage.consuming _) = mine ≡ how
StandAt (Ended how) (SourceStage.ended mine) (TargetStage.asking _) = mine ≡ how
StandAt _ _ _ = ⊥

-- ids rise: until it is given, a message's id is greater than that of the message given last; from then on it is that id
abbrev pub IdsRise : Phase → ℕ → Type 0
IdsRise Idle last = Unit {0}
IdsRise (Posted i) last = last < i
IdsRise (Offered i) last = last < i
IdsRise (Postponed i) last = last < i
IdsRise (Wanted i) last = last < i
IdsRise (Given i) last = i ≡ last
IdsRise (Opened i) last = i ≡ last
IdsRise (Asked i) last = last < i
IdsRise (Held i) last = last < i
IdsRise Refused last = Unit {0}
IdsRise (Ended _) last = Unit {0}

module _ {V : Type 0} where
  -- nothing is under way: the slot is empty, and what was given was taken
  pub record IsHome (slot : Option V) (given taken : List V) : Type 0 where
    pub empty : slot ≡ None
    pub all : given ≡ taken

  -- the value given last lies in the slot
  abbrev pub IsInSlot : Option V → List V → List V → Type 0
  IsInSlot (Some value) given taken = given ≡ taken ++ value ∷ []
  IsInSlot None given taken = ⊥

  -- the target has the value given last in hand
  pub record IsInHand (slot : Option V) (value : V) (given taken : List V) : Type 0 where
    pub empty : slot ≡ None
    pub all_but_one : given ≡ taken ++ value ∷ []

  abbrev pub InHandAt : TargetStage V → Option V → List V → List V → Type 0
  InHandAt (TargetStage.hand _ value) slot given taken = IsInHand slot value given taken
  InHandAt _ slot given taken = ⊥

  -- what crossed, and where the value is that is under way. While the source fills the slot and while the target has the
  -- value in hand, the slot may be out of its place; it counts as empty
  abbrev pub CrossedAt : Phase → TargetStage V → Option V → List V → List V → Type 0
  CrossedAt (Given _) stage slot given taken = IsInSlot slot given taken
  CrossedAt (Opened _) stage slot given taken = InHandAt stage slot given taken
  CrossedAt _ stage slot given taken = IsHome slot given taken

-- the message was not taken when it was offered
abbrev pub phase_puts_off : Phase → Bool
phase_puts_off (Postponed _) = true
phase_puts_off (Asked _) = true
phase_puts_off (Held _) = true
phase_puts_off _ = false

abbrev pub source_put_off : SourceStage → Bool
source_put_off (SourceStage.waiting _) = true
source_put_off (SourceStage.wished _) = true
source_put_off (SourceStage.asked_by _) = true
source_put_off (SourceStage.reserved _) = true
source_put_off (SourceStage.claimed _) = true
source_put_off _ = false

abbrev pub target_puts_off : {V : Type 0} → TargetStage V → Bool
target_puts_off (TargetStage.postponed _) = true
target_puts_off (TargetStage.consuming _) = true
target_puts_off (TargetStage.asking _) = true
target_puts_off (TargetStage.holding _) = true
target_puts_off (TargetStage.claiming _) = true
target_puts_off _ = false

abbrev pub is_put_off : {V : Type 0} → Phase → SourceStage → TargetStage V → Bool
is_put_off phase source target = phase_puts_off phase || source_put_off source || target_puts_off target

-- when a message may be put off: over no steady link, and over a sole one not before a value has crossed
pub record MayPutOff (facts : LinkFacts) (count : ℕ) : Type 0 where
  pub not_steady : facts.steady ≡ false
  pub not_the_first : facts.sole ≡ true → 1 ≤ count

-- the message is taken with no reservation
abbrev pub source_gives_freely : SourceStage → Bool
source_gives_freely (SourceStage.accepted _) = true
source_gives_freely (SourceStage.wished _) = true
source_gives_freely _ = false

abbrev pub target_takes_freely : {V : Type 0} → TargetStage V → Bool
target_takes_freely (TargetStage.accepted _) = true
target_takes_freely (TargetStage.consuming _) = true
target_takes_freely _ = false

-- the message is asked for, or reserved
abbrev pub source_reserves : SourceStage → Bool
source_reserves (SourceStage.asked_by _) = true
source_reserves (SourceStage.reserved _) = true
source_reserves (SourceStage.claimed _) = true
source_reserves _ = false

abbrev pub target_reserves : {V : Type 0} → TargetStage V → Bool
target_reserves (TargetStage.asking _) = true
target_reserves (TargetStage.holding _) = true
target_reserves (TargetStage.claiming _) = true
target_reserves _ = false

-- the source has a message for the link that it has not given
abbrev pub is_to_give : SourceStage → Bool
is_to_give (SourceStage.posted _) = true
is_to_give (SourceStage.out _) = true
is_to_give (SourceStage.waiting _) = true
is_to_give (SourceStage.accepted _) = true
is_to_give (SourceStage.wished _) = true
is_to_give (SourceStage.asked_by _) = true
is_to_give (SourceStage.reserved _) = true
is_to_give (SourceStage.claimed _) = true
is_to_give (SourceStage.filling _) = true
is_to_give _ = false

-- no more values crossed than may, and whether one more may
abbrev pub IsWithin : Option ℕ → ℕ → Type 0
IsWithin None count = Unit {0}
IsWithin (Some max) count = count ≤ max

abbrev pub HasRoom : Option ℕ → ℕ → Type 0
HasRoom None count = Unit {0}
HasRoom (Some max) count = count < max

-- a link that has carried all that it may is cut: it passes nothing on
pub record PassesOn (facts : LinkFacts) (count : ℕ) : Type 0 where
  pub propagates : facts.propagates ≡ true
  pub not_cut : HasRoom facts.max count

-- a fault is passed on by its number
pub record PassesFault (facts : LinkFacts) (count number : ℕ) : Type 0 where
  pub passes : PassesOn facts count
  pub numbered : 1 ≤ number

-- when a link may end so: it passes its source's end on exactly where it propagates and is not cut
abbrev pub MayEnd : LinkFacts → ℕ → LinkEnd → Type 0
MayEnd facts count Plain = facts.propagates ≡ true → facts.max ≡ Some count
MayEnd facts count Complete = PassesOn facts count
MayEnd facts count (Fault number) = PassesFault facts count number

abbrev pub EndsWell : LinkFacts → ℕ → Phase → Type 0
EndsWell facts count (Ended how) = MayEnd facts count how
EndsWell facts count _ = Unit {0}

-- what the plan says of a link holds at a phase and two stages
pub record AsPlanned {V : Type 0} (facts : LinkFacts) (count : ℕ) (phase : Phase) (source : SourceStage) (target : TargetStage V) : Type 0 where
  pub put_off : OnTrue (is_put_off phase source target) (MayPutOff facts count)
  pub freely : OnTrue (source_gives_freely source || target_takes_freely target) (facts.reserving ≡ false)
  pub reserved : OnTrue (source_reserves source || target_reserves target) (facts.reserving ≡ true)
  pub within : IsWithin facts.max count
  pub room : OnTrue (is_to_give source) (HasRoom facts.max count)
  pub ends : EndsWell facts count phase

-- the link is in order. Either end may have moved since the other looked
pub record LinkOk {V : Type 0} (facts : LinkFacts) (phase : Phase) (slot : Option V) (source : SourceView V) (target : TargetView V) : Type 0 where
  pub same_start : source.before ≡ target.before
  pub stages : StandAt phase source.stage target.stage
  pub ids : IdsRise phase source.last
  pub values : CrossedAt phase target.stage slot source.given target.taken
  pub plan : AsPlanned facts (crossed source) phase source.stage target.stage
