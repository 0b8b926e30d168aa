-- What a contract sees of a way in: the values that it told as accepted, and those that are begun. What its calls make of
-- these, and what sending one value comes to.
use Rattle.std.specs.Prelude.{◌≡◌, ◌≢◌, Bool, true, false, List, [], ◌∷◌, ◌++◌, Option, Some, None, Result, Ok, Err}
use Rattle.flow_value.specs.declared.value.Value.{Value}
use Rattle.flow_poll.specs.declared.send.SendFault.{SendFault}
use Rattle.flow_poll.specs.declared.send.SendFault.TheVariants.{Busy, Ids, Memory}
use Rattle.flow_poll.specs.declared.send.Sent.{Sent}
use Rattle.flow_poll.specs.declared.send.Sent.TheVariants as sent
use Rattle.flow_poll.specs.declared.send.Delivery.{Delivery}
use Rattle.flow_poll.specs.declared.send.Delivery.TheVariants as delivery
use Rattle.flow_poll.specs.declared.send.SendRefusal.{SendRefusal}
use Rattle.flow_poll.specs.declared.send.SendRefusal.TheVariants as refusal

-- a value that is begun
pub record Begun : Type 0 where
  pub value : Value
  -- whoever is to take it may put it off
  pub may_postpone : Bool

pub record SendView : Type 0 where
  -- the values that it told as accepted, in order
  pub accepted : List Value
  -- the values that are under way, and those whose answer is not told yet, in order
  pub begun : List Begun

-- a value is begun, by a port that has an id for it or not: it is the only one
pub record Begins (begun : Begun) (has_id : Bool) (old new : SendView) : Type 0 where
  pub id : has_id ≡ true
  pub free : old.begun ≡ []
  pub new_is : new ≡ record { accepted = old.accepted; begun = begun ∷ [] }

-- why a value is not begun, by a port that has an id for it or not: the first of the reasons that stands
abbrev pub IsUnbegunFor : SendFault → Bool → SendView → Type 0
IsUnbegunFor Busy has_id old = old.begun ≢ []
IsUnbegunFor Ids has_id old = (old.begun ≡ []) × (has_id ≡ false)
IsUnbegunFor Memory has_id old = (old.begun ≡ []) × (has_id ≡ true)

-- the first of the begun values was taken
abbrev pub AcceptsFirst : List Begun → List Value → SendView → Type 0
AcceptsFirst [] accepted new = ⊥
AcceptsFirst (first ∷ rest) accepted new = new ≡ record { accepted = accepted ++ first.value ∷ []; begun = rest }

-- the first of the begun values comes back, since it was not taken and could not be put off
abbrev pub DeclinesFirst : List Begun → List Value → Value → SendView → Type 0
DeclinesFirst [] accepted value new = ⊥
DeclinesFirst (first ∷ rest) accepted value new =
    (first ≡ record { value = value; may_postpone = false }) × (new ≡ record { accepted = accepted; begun = rest })

-- the first of the begun values comes back, since none is taken any more
abbrev pub ReturnsFirst : List Begun → List Value → Value → SendView → Type 0
ReturnsFirst [] accepted value new = ⊥
ReturnsFirst (first ∷ rest) accepted value new = (first.value ≡ value) × (new ≡ record { accepted = accepted; begun = rest })

-- what a look tells
abbrev pub Tells : Sent → SendView → SendView → Type 0
Tells sent.Idle old new = (old.begun ≡ []) × (new ≡ old)
Tells sent.Waiting old new = (old.begun ≢ []) × (new ≡ old)
Tells sent.Accepted old new = AcceptsFirst old.begun old.accepted new
Tells (sent.Declined value) old new = DeclinesFirst old.begun old.accepted value new
Tells (sent.Permanently value) old new = ReturnsFirst old.begun old.accepted value new

-- what became of a value that was begun alone, where these were accepted before it
abbrev pub Delivered : List Value → Begun → Result Delivery SendRefusal → SendView → Type 0
Delivered accepted begun (Ok delivery.Accepted) new = new ≡ record { accepted = accepted ++ begun.value ∷ []; begun = [] }
Delivered accepted begun (Ok (delivery.Declined back)) new =
    (begun ≡ record { value = back; may_postpone = false }) × (new ≡ record { accepted = accepted; begun = [] })
Delivered accepted begun (Ok (delivery.Permanently back)) new =
    (begun.value ≡ back) × (new ≡ record { accepted = accepted; begun = [] })
Delivered accepted begun (Err refusal.Memory) new = new ≡ record { accepted = accepted; begun = begun ∷ [] }
Delivered accepted begun (Err (refusal.NotBegun back fault)) new = ⊥

-- what comes of sending a value, by a port that has an id for it or not
abbrev pub IsSent : Bool → SendView → Begun → Result Delivery SendRefusal → SendView → Type 0
IsSent has_id old begun (Err (refusal.NotBegun back fault)) new =
    (begun.value ≡ back) × (IsUnbegunFor fault has_id old × (new ≡ old))
IsSent has_id old begun answer new = (old.begun ≡ []) × ((has_id ≡ true) × Delivered old.accepted begun answer new)

-- what comes of a value that was begun before
abbrev pub IsFinished : SendView → Result Delivery SendRefusal → SendView → Type 0
IsFinished old answer new = (begun : Begun) → old.begun ≡ begun ∷ [] → Delivered old.accepted begun answer new

-- what comes of sending, where the value is at hand and may be put off or not, or was begun before
abbrev pub Sends : Bool → SendView → Bool → Option Value → Result Delivery SendRefusal → SendView → Type 0
Sends has_id old may_postpone (Some value) answer new =
    IsSent has_id old (record { value = value; may_postpone = may_postpone }) answer new
Sends has_id old may_postpone None answer new = IsFinished old answer new

-- one value is begun
abbrev pub IsOne : List Begun → Type 0
IsOne (begun ∷ []) = Unit {0}
IsOne _ = ⊥

-- one value is begun, and this says whether it may be put off
abbrev pub IsOneThat : Bool → List Begun → Type 0
IsOneThat may_postpone (begun ∷ []) = begun.may_postpone ≡ may_postpone
IsOneThat may_postpone _ = ⊥

-- the value to be sent is at hand, or it was begun so before
abbrev pub HasOne : SendView → Bool → Option Value → Type 0
HasOne view may_postpone (Some value) = Unit {0}
HasOne view may_postpone None = IsOneThat may_postpone view.begun

-- it is not known yet what comes of it
abbrev pub Waits : Bool → SendView → Bool → Option Value → SendView → Type 0
Waits has_id old may_postpone (Some value) new =
    Begins (record { value = value; may_postpone = may_postpone }) has_id old new
Waits has_id old may_postpone None new = new ≡ old
