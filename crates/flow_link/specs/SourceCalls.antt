-- The calls of a source, and how its stages change by them.
use Rattle.std.specs.Prelude.{◌≡◌, ◌≢◌, ℕ, ◌==◌, cond, Bool, true, false, ◌⊎◌, Option, Some, None}
use Rattle.flow_value.specs.declared.value.Value.{Value}
use Rattle.flow_value.specs.declared.message.MessageStatus.{MessageStatus}
use Rattle.flow_value.specs.declared.message.MessageStatus.TheVariants as status
use Rattle.flow_link.specs.declared.stage.SourceStage.{SourceStage}
use Rattle.flow_link.specs.declared.stage.SourceStage.TheVariants.{Free, Out, Waiting, Accepted, Reserved, Refused}
use Rattle.flow_link.specs.StagesMove.{MovesBy, MovesTo}

-- a call with its answer; links and messages by their ids
pub data SourceCall : Type 0 where
  -- the link and the message that are to be offered next, if there are any
  offered : Option (ℕ × ℕ) → SourceCall
  -- over this link this message was offered, and the answer
  noted : ℕ → ℕ → MessageStatus → SourceCall
  -- over this link this message is consumed, if it is still there
  consumed : ℕ → ℕ → Option Value → SourceCall
  -- over this link this message is to be kept, and whether it is
  reserved : ℕ → ℕ → Bool → SourceCall
  -- over this link the message that was kept is given up
  released : ℕ → ℕ → SourceCall

abbrev pub GoesOut : ℕ → SourceStage → SourceStage → Type 0
GoesOut i Free stage = stage ≡ Out i
GoesOut i _ stage = ⊥

abbrev pub Offers : Option (ℕ × ℕ) → (ℕ → SourceStage) → (ℕ → SourceStage) → Type 0
Offers None old new = Unit {0}
Offers (Some offer) old new = MovesBy (GoesOut offer.1) offer.0 old new

-- where the source stands after an answer to its offer
abbrev pub stage_answered : MessageStatus → ℕ → SourceStage
stage_answered status.Accepted i = Accepted i
stage_answered status.Declined i = Free
stage_answered status.Postponed i = Waiting i
stage_answered status.NotAvailable i = Free
stage_answered status.DecliningPermanently i = Refused

-- an offer is out over this link, or it was accepted and is not given yet
abbrev pub is_under_way : SourceStage → Bool
is_under_way (Out _) = true
is_under_way (Accepted _) = true
is_under_way _ = false

-- over no link is an offer out, or accepted and not given yet
abbrev pub NothingOut : (ℕ → SourceStage) → Type 0
NothingOut stage = (link : ℕ) → is_under_way (stage link) ≡ false

-- what the link may consume: what it accepted or reserved, and what it postponed, while no offer holds it back
abbrev pub MayConsume : ℕ → Bool → SourceStage → Type 0
MayConsume i busy (Accepted j) = j ≡ i
MayConsume i busy (Reserved j) = j ≡ i
MayConsume i busy (Waiting j) = (j ≡ i) × (busy ≡ false)
MayConsume i busy _ = ⊥

-- the message was accepted or reserved, so it is there
abbrev pub is_promised : SourceStage → Bool
is_promised (Accepted _) = true
is_promised (Reserved _) = true
is_promised _ = false

-- the stage stays, or a postponement of this message is forgotten, since the message is gone
abbrev pub StaysOrForgets : ℕ → SourceStage → SourceStage → Type 0
StaysOrForgets i (Waiting j) stage = (stage ≡ Waiting j) ⊎ ((j ≡ i) × (stage ≡ Free))
StaysOrForgets i old stage = stage ≡ old

-- the message is given over this link
pub record GivesOver (link i : ℕ) (old new : ℕ → SourceStage) : Type 0 where
  pub here : new link ≡ Free
  pub elsewhere : (other : ℕ) → other ≢ link → StaysOrForgets i (old other) (new other)

-- what is to be kept for the link: what it postponed, while no offer holds it back
abbrev pub MayReserve : ℕ → Bool → SourceStage → Type 0
MayReserve i busy (Waiting j) = (j ≡ i) × (busy ≡ false)
MayReserve i busy _ = ⊥

-- where a link stands after all answers for this message are forgotten
abbrev pub stage_forgotten : ℕ → SourceStage → SourceStage
stage_forgotten i (Waiting j) = cond (j == i) Free (Waiting j)
stage_forgotten i stage = stage

-- all answers for the message are forgotten, so it is offered anew
pub record ForgetsAll (link i : ℕ) (old new : ℕ → SourceStage) : Type 0 where
  pub here : new link ≡ Free
  pub elsewhere : (other : ℕ) → other ≢ link → new other ≡ stage_forgotten i (old other)

-- the message that was kept for this link is given up: its target waits on, as before it was kept, or is offered it anew
abbrev pub GivesUp : (link i : ℕ) → (old new : ℕ → SourceStage) → Type 0
GivesUp link i old new = MovesTo (Waiting i) link old new ⊎ ForgetsAll link i old new
