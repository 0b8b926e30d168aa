-- What an outlet gives over any list of its calls: what was put, in order, and what is left.
use Rattle.std.specs.Prelude.{◌≡◌, ℕ, ◌+◌, List, [], ◌∷◌, ◌++◌, Option, Some, None}
use Rattle.flow_value.specs.declared.value.Value.{Value}
use Rattle.flow_link.specs.declared.phase.LinkEnd.{LinkEnd}
use Rattle.flow_link.specs.declared.phase.Phase.{Phase}
use Rattle.flow_outlet.specs.Fits.{weight_of}
use Rattle.flow_outlet.specs.Outlet.{OutletState, head_of, puts, sets_aside, puts_aside, prepares, offers, looks, gives, holds, denies, withdraws, ends_link}

-- the calls that change an outlet, at places
pub data Call : Type 0 where
  put : List Value → ℕ → Call
  set_aside : ℕ → Call
  put_aside : List Value → ℕ → Call
  prepare : Call
  offer : ℕ → Call
  look : ℕ → Phase → Call
  give : ℕ → Call
  hold : ℕ → Call
  deny : ℕ → Call
  withdraw : ℕ → Call
  «end» : ℕ → LinkEnd → Call
  room_back : Call

abbrev pub after : Call → OutletState → OutletState
after (Call.put values weight) o = puts values weight o
after (Call.set_aside count) o = sets_aside count o
after (Call.put_aside values weight) o = puts_aside values weight o
after Call.prepare o = prepares o
after (Call.offer k) o = offers k o
after (Call.look k phase) o = looks k phase o
after (Call.give k) o = gives k o
after (Call.hold k) o = holds k o
after (Call.deny k) o = denies k o
after (Call.withdraw k) o = withdraws k o
after (Call.«end» k how) o = ends_link k how o
after Call.room_back o = record o { room = 0 }

-- what a call puts in, and what it gives out
abbrev pub put_by : Call → List Value
put_by (Call.put values weight) = values
put_by (Call.put_aside values weight) = values
put_by _ = []

abbrev pub listed : Option Value → List Value
listed None = []
listed (Some value) = value ∷ []

abbrev pub given_by : Call → OutletState → List Value
given_by (Call.give k) o = listed (head_of o)
given_by _ o = []

-- the weight that a call puts in, and the room that it tells
abbrev pub weight_by : Call → ℕ
weight_by (Call.put values weight) = weight
weight_by (Call.put_aside values weight) = weight
weight_by _ = 0

abbrev pub told_by : Call → OutletState → ℕ
told_by Call.room_back o = o.room
told_by _ o = 0

-- the same over a list of calls
abbrev pub after_all : List Call → OutletState → OutletState
after_all [] o = o
after_all (call ∷ calls) o = after_all calls (after call o)

abbrev pub put_in : List Call → List Value
put_in [] = []
put_in (call ∷ calls) = put_by call ++ put_in calls

abbrev pub given_in : List Call → OutletState → List Value
given_in [] o = []
given_in (call ∷ calls) o = given_by call o ++ given_in calls (after call o)

abbrev pub weight_in : List Call → ℕ
weight_in [] = 0
weight_in (call ∷ calls) = weight_by call + weight_in calls

abbrev pub told_in : List Call → OutletState → ℕ
told_in [] o = 0
told_in (call ∷ calls) o = told_by call o + told_in calls (after call o)

pub record NothingIsLost : Type 0 where
  -- what was there and what was put is what was given, in order, followed by what is left
  pub values : (calls : List Call) (o : OutletState) → o.left ++ put_in calls ≡ given_in calls o ++ (after_all calls o).left
  -- each weight comes back as room once, and until then it is kept
  pub weights : (calls : List Call) (o : OutletState)
      → o.room + weight_of o.groups + weight_in calls ≡ told_in calls o + ((after_all calls o).room + weight_of (after_all calls o).groups)
