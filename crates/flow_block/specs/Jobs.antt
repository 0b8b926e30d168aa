-- The jobs of a block: the messages that it works on, which are those that it holds first, and the results that have come back.
-- Results come out in the order of their messages, so one that comes back early waits in its slot, and keeps no lane busy.
use Rattle.std.specs.Prelude.{◌≡◌, ℕ, ◌+◌, ◌-◌, ◌^◌, leb, ltb, Bool, false, ◌&&◌, List, [], ◌∷◌, ◌++◌, length, drop, get_or, set, count_by, Option, Some, None, is_none, is_some, Result, Ok, Err}
use Rattle.std.specs.declared.alloc.Global.{Global}
use Rattle.std.specs.declared.vec.Vec.{Vec}
use Rattle.flow_value.specs.declared.value.Value.{Value}

-- what the program keeps of a result
abbrev pub made_in : Result (Vec Value Global) ℕ → Result (List Value) ℕ
made_in (Ok values) = Ok values.items
made_in (Err number) = Err number

-- a message that is worked on: its result, once that has come back
abbrev pub Slot : Type 0
Slot = Option (Result (List Value) ℕ)

pub record JobsState : Type 0 where
  -- how many messages may be out at once
  pub lanes : ℕ
  -- the ticket of the message that is held first; tickets count the messages in the order in which they were taken
  pub first : ℕ
  -- the messages that are worked on, or whose results wait for those before them, oldest first
  pub slots : List Slot

abbrev pub fresh_jobs : ℕ → JobsState
fresh_jobs lanes = record { lanes = lanes; first = 0; slots = [] }

-- what stands where no message is worked on
abbrev pub no_slot : Slot
no_slot = Some (Err 0)

abbrev pub slot_at : ℕ → JobsState → Slot
slot_at k jobs = get_or jobs.slots k no_slot

-- the place of a ticket, which is out while its result has not come back
abbrev pub place_of : ℕ → JobsState → ℕ
place_of ticket jobs = ticket - jobs.first

abbrev pub is_out : ℕ → JobsState → Bool
is_out ticket jobs = leb jobs.first ticket && is_none (slot_at (place_of ticket jobs) jobs)

-- how many tickets are out: each keeps a lane busy until its result has come back
abbrev pub out_count : List Slot → ℕ
out_count slots = count_by (λ (slot : Slot). is_none slot) slots

-- the result of the message that is held first has come back
abbrev pub is_front_back : List Slot → Bool
is_front_back [] = false
is_front_back (slot ∷ _) = is_some slot

-- there is a ticket for one message more
abbrev pub has_ticket : JobsState → Bool
has_ticket jobs = ltb (jobs.first + length jobs.slots + 1) (2 ^ 64)

-- one message more is worked on; a result comes back; the message that is held first is done with
abbrev pub begins : JobsState → JobsState
begins jobs = record jobs { slots = jobs.slots ++ None ∷ [] }

abbrev pub brings : ℕ → Result (List Value) ℕ → JobsState → JobsState
brings ticket result jobs = record jobs { slots = set jobs.slots (place_of ticket jobs) (Some result) }

-- the message that is held first was worked on at once, and faulted
abbrev pub faults_at_once : ℕ → JobsState → JobsState
faults_at_once number jobs = record jobs { slots = Some (Err number) ∷ [] }

abbrev pub works_off : JobsState → JobsState
works_off jobs = record jobs { first = jobs.first + 1; slots = drop 1 jobs.slots }

-- what comes out when the first results are there: all of them, up to one that is not, or is a fault
abbrev pub comes_out : List Slot → List Value
comes_out (Some (Ok values) ∷ slots) = values ++ comes_out slots
comes_out _ = []

-- each result that has come back is that of its message; no more messages are worked on than are held
abbrev pub IsOf : (Value → Result (List Value) ℕ) → Value → Slot → Type 0
IsOf result value None = Unit {0}
IsOf result value (Some made) = result value ≡ made

abbrev pub AreOf : (Value → Result (List Value) ℕ) → List Value → List Slot → Type 0
AreOf result held [] = Unit {0}
AreOf result [] (slot ∷ slots) = ⊥
AreOf result (value ∷ held) (slot ∷ slots) = IsOf result value slot × AreOf result held slots
