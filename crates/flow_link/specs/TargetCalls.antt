-- The calls of a target, and how its stages change by them.
use Rattle.std.specs.Prelude.{◌≡◌, ℕ, Bool, true, false}
use Rattle.flow_value.specs.declared.value.Value.{Value}
use Rattle.flow_value.specs.declared.message.MessageStatus.{MessageStatus}
use Rattle.flow_value.specs.declared.message.MessageStatus.TheVariants as status
use Rattle.flow_link.specs.declared.stage.TargetStage.{TargetStage}
use Rattle.flow_link.specs.declared.stage.TargetStage.TheVariants.{Free, Postponed, Accepted, Consuming, Asking, Holding, Claiming, Arrived, Hand, Refused}
use Rattle.flow_link.specs.declared.traits.Wish.{Wish}
use Rattle.flow_link.specs.declared.traits.Wish.TheVariants as wish
use Rattle.flow_link.specs.declared.traits.WishAnswer.{WishAnswer}
use Rattle.flow_link.specs.declared.traits.WishAnswer.TheVariants.{Coming, Held, NotAvailable, Withdrawn}
use Rattle.flow_link.specs.StagesMove.{MovesBy}

-- a call with its answer; links and messages by their ids
pub data TargetCall : Type 0 where
  -- over this link this message is offered, which may be postponed or may not, and the answer
  offered : ℕ → ℕ → Bool → MessageStatus → TargetCall
  -- over this link comes this message with this value
  handed : ℕ → ℕ → Value → TargetCall
  -- what the target wishes next
  wished : Wish → TargetCall
  -- over this link its wish is answered
  noted : ℕ → WishAnswer → TargetCall

-- the target takes no message any more
abbrev pub HasRefused : TargetStage → Type 0
HasRefused (Refused _) = Unit {0}
HasRefused _ = ⊥

-- where the target stands after its answer. It puts off only what it may, and turns down only what it may not put off
abbrev pub StandsAfter : Bool → MessageStatus → ℕ → TargetStage → Type 0
StandsAfter _ status.Accepted i stage = stage ≡ Accepted i
StandsAfter true status.Postponed i stage = stage ≡ Postponed i
StandsAfter false status.Declined i stage = stage ≡ Free
StandsAfter _ status.DecliningPermanently i stage = HasRefused stage
StandsAfter _ _ i stage = ⊥

-- the target wants this message: it accepted it at once, or consumes or claims it
abbrev pub Wants : ℕ → TargetStage → Type 0
Wants i (Accepted j) = j ≡ i
Wants i (Consuming j) = j ≡ i
Wants i (Claiming j) = j ≡ i
Wants i _ = ⊥

-- a message over this link is on its way to the target: wanted, asked for or reserved, and not taken yet
abbrev pub is_awaited : TargetStage → Bool
is_awaited (Accepted _) = true
is_awaited (Consuming _) = true
is_awaited (Asking _) = true
is_awaited (Holding _) = true
is_awaited (Claiming _) = true
is_awaited (Arrived _) = true
is_awaited (Hand _) = true
is_awaited _ = false

-- the stages from which and to which each wish leads
abbrev pub Consumes : TargetStage → TargetStage → Type 0
Consumes (Postponed i) stage = stage ≡ Consuming i
Consumes _ stage = ⊥

abbrev pub Asks : TargetStage → TargetStage → Type 0
Asks (Postponed i) stage = stage ≡ Asking i
Asks _ stage = ⊥

abbrev pub Claims : TargetStage → TargetStage → Type 0
Claims (Holding i) stage = stage ≡ Claiming i
Claims _ stage = ⊥

abbrev pub Releases : TargetStage → TargetStage → Type 0
Releases (Holding i) stage = stage ≡ Postponed i
Releases _ stage = ⊥

abbrev pub Wishes : Wish → (ℕ → TargetStage) → (ℕ → TargetStage) → Type 0
Wishes (wish.Consume link) old new = MovesBy Consumes link old new
Wishes (wish.Ask link) old new = MovesBy Asks link old new
Wishes (wish.Claim link) old new = MovesBy Claims link old new
Wishes (wish.Release link) old new = MovesBy Releases link old new
Wishes wish.None old new = Unit {0}

-- when a wish may be answered so: where it was made. That an offer is withdrawn may be told while it waits, too. A
-- claim is never denied
abbrev pub MayNote : WishAnswer → TargetStage → Type 0
MayNote Coming (Consuming _) = Unit {0}
MayNote Coming (Claiming _) = Unit {0}
MayNote Held (Asking _) = Unit {0}
MayNote NotAvailable (Consuming _) = Unit {0}
MayNote NotAvailable (Asking _) = Unit {0}
MayNote Withdrawn (Postponed _) = Unit {0}
MayNote Withdrawn (Consuming _) = Unit {0}
MayNote Withdrawn (Asking _) = Unit {0}
MayNote _ _ = ⊥

-- where the target stands after the answer to its wish
abbrev pub stage_noted : WishAnswer → TargetStage → TargetStage
stage_noted Held (Asking i) = Holding i
stage_noted NotAvailable _ = Free
stage_noted Withdrawn _ = Free
stage_noted _ stage = stage
