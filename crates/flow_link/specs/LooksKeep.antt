-- A look keeps a link in order, and after it, as after an end's own move, a second look of that end finds nothing new.
use Rattle.std.specs.Prelude.{◌≡◌, ℕ, ◌⊎◌, [], None}
use Rattle.flow_link.specs.declared.phase.LinkEnd.{LinkEnd}
use Rattle.flow_link.specs.declared.phase.Phase.{Phase}
use Rattle.flow_link.specs.declared.phase.Phase.TheVariants.{Idle, Posted, Offered, Postponed, Wanted, Given, Opened, Asked, Held, Refused, Ended}
use Rattle.flow_link.specs.Views.{SourceStage, TargetStage, Refusal, SourceView, TargetView, LinkFacts}
use Rattle.flow_link.specs.LinkOk.{LinkOk}
use Rattle.flow_link.specs.Looks.{looking_out, looking_in, SourceHasSeen, TargetHasSeen, Seen}
use Rattle.flow_link.specs.Moves.{offering, posting, ending, filling, giving, denying, holding, withdrawing, wanting, turning_down, refusing, postponing, consuming, asking, claiming, releasing, opening, closing}
use Rattle.flow_link.specs.MovesKeep.{InOrderHas}

-- the source has seen that the message is wanted, and has not given it
abbrev pub HasSeenWanted : ℕ → SourceStage → Type 0
HasSeenWanted i stage = (stage ≡ SourceStage.accepted i) ⊎ (stage ≡ SourceStage.wished i) ⊎ (stage ≡ SourceStage.claimed i) ⊎ (stage ≡ SourceStage.filling i)

-- the target waits for the message
abbrev pub Wants : {V : Type 0} → ℕ → TargetStage V → Type 0
Wants i stage = (stage ≡ TargetStage.accepted i) ⊎ (stage ≡ TargetStage.consuming i) ⊎ (stage ≡ TargetStage.claiming i)

-- the stages at which both ends have seen the phase
abbrev pub SeenAt : {V : Type 0} → Phase → SourceStage → TargetStage V → Type 0
SeenAt Idle source target = (source ≡ SourceStage.free) × (target ≡ TargetStage.free)
SeenAt (Posted i) source target = (source ≡ SourceStage.posted i) × (target ≡ TargetStage.posted i)
SeenAt (Offered i) source target = (source ≡ SourceStage.out i) × (target ≡ TargetStage.offered i)
SeenAt (Postponed i) source target = (source ≡ SourceStage.waiting i) × (target ≡ TargetStage.postponed i)
SeenAt (Wanted i) source target = HasSeenWanted i source × Wants i target
SeenAt (Given i) source target = (source ≡ SourceStage.crossing) × (target ≡ TargetStage.arrived i)
SeenAt {V} (Opened i) source target = (source ≡ SourceStage.crossing) × ((value : V) × (target ≡ TargetStage.hand i value))
SeenAt (Asked i) source target = (source ≡ SourceStage.asked_by i) × (target ≡ TargetStage.asking i)
SeenAt (Held i) source target = (source ≡ SourceStage.reserved i) × (target ≡ TargetStage.holding i)
SeenAt Refused source target = (source ≡ SourceStage.refused) × ((why : Refusal) × (target ≡ TargetStage.refused why))
SeenAt (Ended how) source target = (source ≡ SourceStage.ended how) × (target ≡ TargetStage.ended how)

module _ (V : Type 0) where
  abbrev pub LookOutKeeps : Type 0
  LookOutKeeps = InOrderHas V λ facts phase slot source target.
      LinkOk facts phase slot (looking_out phase source) target

  abbrev pub LookInKeeps : Type 0
  LookInKeeps = InOrderHas V λ facts phase slot source target.
      LinkOk facts phase slot source (looking_in phase target)

  -- where both ends have seen the phase, it tells their stages
  abbrev pub SeenTells : Type 0
  SeenTells = InOrderHas V λ facts phase slot source target.
      Seen phase source target → SeenAt phase source.stage target.stage

  -- after a look of each end, a look changes nothing
  abbrev pub LooksSettle : Type 0
  LooksSettle =
      (phase : Phase) (source : SourceView V) (target : TargetView V)
      → Seen phase (looking_out phase source) (looking_in phase target)

-- after its own move an end has seen all: only the other end is to look
pub record OwnMovesAreSeen (V : Type 0) : Type 0 where
  pub offer : (i : ℕ) (view : SourceView V) → SourceHasSeen (Offered i) (offering i view)
  pub post : (i : ℕ) (view : SourceView V) → SourceHasSeen (Posted i) (posting i view)
  pub ends : (how : LinkEnd) (view : SourceView V) → SourceHasSeen (Ended how) (ending how view)
  pub fill : (i : ℕ) (view : SourceView V) → SourceHasSeen (Wanted i) (filling i view)
  pub give : (i : ℕ) (value : V) (view : SourceView V) → SourceHasSeen (Given i) (giving i value view)
  pub deny : (view : SourceView V) → SourceHasSeen Idle (denying view)
  pub hold : (i : ℕ) (view : SourceView V) → SourceHasSeen (Held i) (holding i view)
  pub withdraw : (view : SourceView V) → SourceHasSeen Idle (withdrawing view)
  pub want : (i : ℕ) (view : TargetView V) → TargetHasSeen (Wanted i) (wanting i view)
  pub turn_down : (view : TargetView V) → TargetHasSeen Idle (turning_down view)
  pub refuse : (why : Refusal) (view : TargetView V) → TargetHasSeen Refused (refusing why view)
  pub postpone : (i : ℕ) (view : TargetView V) → TargetHasSeen (Postponed i) (postponing i view)
  pub consume : (i : ℕ) (view : TargetView V) → TargetHasSeen (Wanted i) (consuming i view)
  pub ask : (i : ℕ) (view : TargetView V) → TargetHasSeen (Asked i) (asking i view)
  pub claim : (i : ℕ) (view : TargetView V) → TargetHasSeen (Wanted i) (claiming i view)
  pub release : (i : ℕ) (view : TargetView V) → TargetHasSeen (Postponed i) (releasing i view)
  pub «open» : (i : ℕ) (value : V) (view : TargetView V) → TargetHasSeen (Opened i) (opening i value view)
  pub close : (value : V) (view : TargetView V) → TargetHasSeen Idle (closing value view)

-- a link on which nothing has happened
module _ {V : Type 0} where
  abbrev pub fresh_source : SourceView V
  fresh_source = record { before = 0; given = []; last = 0; stage = SourceStage.free }

  abbrev pub fresh_target : TargetView V
  fresh_target = record { before = 0; taken = []; stage = TargetStage.free }

pub record FreshIsOk (V : Type 0) : Type 0 where
  pub in_order : (facts : LinkFacts) → LinkOk {V = V} facts Idle None fresh_source fresh_target
  pub seen : Seen {V = V} Idle fresh_source fresh_target

-- all that is said of looks
pub record LooksKeep (V : Type 0) : Type 0 where
  pub out_keeps : LookOutKeeps V
  pub in_keeps : LookInKeeps V
  pub settle : LooksSettle V
  pub seen_tells : SeenTells V
  pub own_moves : OwnMovesAreSeen V
  pub fresh : FreshIsOk V
