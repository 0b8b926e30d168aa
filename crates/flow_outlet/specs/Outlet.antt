-- What an outlet keeps, as plain data, and what each call makes of it.
use Rattle.std.specs.Prelude.{ℕ, ◌+◌, ◌-◌, ◌^◌, ◌==◌, ltb, cond, Bool, true, false, not, ◌||◌, ◌&&◌, List, [], ◌∷◌, ◌++◌, length, set, map, Option, Some, None, is_some, unwrap_or}
use Rattle.std.specs.List.{list_any}
use Rattle.flow_value.specs.declared.value.Value.{Value}
use Rattle.flow_link.specs.declared.phase.LinkEnd.{LinkEnd}
use Rattle.flow_link.specs.declared.phase.LinkEnd.TheVariants.{Plain, Complete, Fault}
use Rattle.flow_link.specs.declared.phase.Move.{Move}
use Rattle.flow_link.specs.declared.phase.Move.TheVariants.{Offer, Withdraw, Deny, Hold, Give, End}
use Rattle.flow_link.specs.declared.phase.Phase.{Phase}
use Rattle.flow_link.specs.declared.stage.SourceStage.{SourceStage}
use Rattle.flow_link.specs.declared.stage.SourceStage.TheVariants.{Free, Out, Waiting, Accepted, Wished, AskedBy, Reserved, Claimed, Crossing, Ended}
use Rattle.flow_link.specs.declared.trace.Outcome.{Outcome}
use Rattle.flow_link.specs.declared.trace.Outcome.TheVariants.{Done, Faulted}
use Rattle.flow_link.specs.Stage.{source_looks, source_is_released}
use Rattle.flow_outlet.specs.End.{end_in, fresh_end, id_of, is_free, is_out, is_spoken_for, is_away, is_waiting, waits_with, is_cut, counted, count_at, place_in}
use Rattle.flow_outlet.specs.declared.ends.LinkRule.{LinkRule}
use Rattle.flow_outlet.specs.declared.ends.OutEnd.{OutEnd}
use Rattle.flow_outlet.specs.declared.group.Group.{Group}

pub record OutletState : Type 0 where
  -- the ends of its links, in the order of the links
  pub ends : List OutEnd
  -- what was put and is not given, oldest first, and the id of the first of it
  pub left : List Value
  pub next : ℕ
  -- the place of the end over which the head is spoken for: its offer is out, or it is kept for the target
  pub offer : Option ℕ
  -- the head was kept, and released: what waits for it is taken back before it is offered anew
  pub renewing : Bool
  -- the parcel of the head, once it is made
  pub parcel : Option Value
  -- the results that are not wholly given and have a weight, oldest first
  pub groups : List Group
  -- the weights of the results that were wholly given since this was told last
  pub room : ℕ
  -- for how many more values memory and ids are set aside
  pub spare : ℕ

abbrev pub first_of : List Value → Option Value
first_of [] = None
first_of (value ∷ _) = Some value

abbrev pub rest_of : List Value → List Value
rest_of [] = []
rest_of (_ ∷ values) = values

abbrev pub is_empty : List Value → Bool
is_empty [] = true
is_empty (_ ∷ _) = false

abbrev pub head_of : OutletState → Option Value
head_of o = first_of o.left

abbrev pub end_at : OutletState → ℕ → OutEnd
end_at o k = end_in o.ends k

abbrev pub stage_at : OutletState → ℕ → SourceStage
stage_at o k = (end_at o k).stage

-- nothing is put, and nothing has gone over a link
abbrev pub fresh_outlet : List LinkRule → ℕ → OutletState
fresh_outlet rules first =
    record { ends = map fresh_end rules; left = []; next = first; offer = None; renewing = false; parcel = None; groups = []; room = 0; spare = 0 }

-- a count, where one end counted before and counts now
abbrev pub recounted : ℕ → Bool → Bool → ℕ
recounted count true false = count - 1
recounted count false true = count + 1
recounted count _ _ = count

-- the end at a place is put to another stage
abbrev pub changes : ℕ → SourceStage → ℕ → OutletState → OutletState
changes k stage declined o = record o { ends = set o.ends k (record (end_at o k) { declined = declined; stage = stage }) }

abbrev pub restages : ℕ → SourceStage → OutletState → OutletState
restages k stage o = changes k stage (end_at o k).declined o

-- What is put

-- the values would need an id above the greatest, beyond those that are set aside
abbrev pub lacks_ids : List Value → OutletState → Bool
lacks_ids values o = not (is_empty values) && ltb (2 ^ 59) (o.next + length o.left + o.spare + length values)

-- the same, for so many values
abbrev pub lacks_ids_for : ℕ → OutletState → Bool
lacks_ids_for count o = not (count == 0) && ltb (2 ^ 59) (o.next + length o.left + o.spare + count)

-- a result with a weight is kept by the id of its last message; where it has no message, its room is free at once
abbrev pub groups_with : ℕ → ℕ → ℕ → List Group → List Group
groups_with next count weight groups = cond (count == 0 || weight == 0) groups (groups ++ record { until = next + (count - 1); weight = weight } ∷ [])

abbrev pub room_with : ℕ → ℕ → ℕ → ℕ
room_with count weight room = room + cond (count == 0) weight 0

abbrev pub puts : List Value → ℕ → OutletState → OutletState
puts values weight o = record o {
  left = o.left ++ values;
  groups = groups_with (o.next + length o.left) (length values) weight o.groups;
  room = room_with (length values) weight o.room;
}

-- memory and ids are set aside for so many more values
abbrev pub sets_aside : ℕ → OutletState → OutletState
sets_aside count o = record o { spare = o.spare + count }

-- the values are put where memory and ids were set aside for them
abbrev pub puts_aside : List Value → ℕ → OutletState → OutletState
puts_aside values weight o = record (puts values weight o) { spare = o.spare - length values }

-- What is offered

-- the head was released, and still waits somewhere
abbrev pub is_renewing : OutletState → Bool
is_renewing o = o.renewing && list_any (waits_with o.next) o.ends

-- the head is not offered now: it is spoken for, or is still to be taken back
abbrev pub is_held_back : OutletState → Bool
is_held_back o = is_some o.offer || is_renewing o

-- the place of the end over which the head is offered next, if any: nothing else is out, and nothing is under way there
abbrev pub offer_at : ℕ → OutletState → Option ℕ
offer_at k o = cond (is_empty o.left || is_held_back o || not (ltb k (length o.ends)) || not (is_free (stage_at o k))) None (Some k)

abbrev pub may_offer : OutletState → Option ℕ
may_offer o = offer_at (place_in o.next (head_of o) o.ends) o

abbrev pub is_at : Option ℕ → ℕ → Bool
is_at None k = false
is_at (Some j) k = j == k

-- the head's parcel is made
abbrev pub prepares : OutletState → OutletState
prepares o = record o { parcel = head_of o }

abbrev pub offers : ℕ → OutletState → OutletState
offers k o = record (restages k (Out o.next) o) { offer = Some k; renewing = false }

-- the source looks at the phase: the head is spoken for no more, unless it is unanswered, accepted or kept
abbrev pub offer_kept : ℕ → SourceStage → Option ℕ → Option ℕ
offer_kept k stage offer = cond (is_at offer k && not (is_spoken_for stage)) None offer

abbrev pub looks : ℕ → Phase → OutletState → OutletState
looks k phase o = record (restages k (source_looks (stage_at o k) phase) o) {
  offer = offer_kept k (source_looks (stage_at o k) phase) o.offer;
  renewing = o.renewing || source_is_released (stage_at o k) phase;
}

-- What is given

abbrev pub groups_after : ℕ → List Group → List Group
groups_after next [] = []
groups_after next (group ∷ groups) = cond (group.until == next) groups (group ∷ groups)

abbrev pub weight_at : ℕ → List Group → ℕ
weight_at next [] = 0
weight_at next (group ∷ groups) = cond (group.until == next) group.weight 0

abbrev pub given_end : ℕ → OutEnd → OutEnd
given_end next end = record end { given = counted end.rule.max end.given; last = next; stage = Crossing }

abbrev pub gives : ℕ → OutletState → OutletState
gives k o = record {
  ends = set o.ends k (given_end o.next (end_at o k));
  left = rest_of o.left;
  next = o.next + 1;
  offer = None;
  renewing = false;
  parcel = None;
  groups = groups_after o.next o.groups;
  room = o.room + weight_at o.next o.groups;
  spare = o.spare;
}

-- the target wants the head: it accepted it or claims it, or wishes for it while it is spoken for nowhere
abbrev pub is_wanted : ℕ → Bool → SourceStage → Bool
is_wanted next out (Accepted i) = i == next
is_wanted next out (Claimed i) = i == next
is_wanted next out (Wished i) = i == next && not out
is_wanted next out _ = false

abbrev pub may_give : ℕ → OutletState → Bool
may_give k o = is_wanted o.next (is_some o.offer) (stage_at o k)

-- What is kept

-- the target asks to reserve the head, and it is spoken for nowhere
abbrev pub is_asked : ℕ → SourceStage → Bool
is_asked next (AskedBy i) = i == next
is_asked next _ = false

abbrev pub may_hold : ℕ → OutletState → Bool
may_hold k o = is_asked o.next (stage_at o k) && not (is_some o.offer)

abbrev pub holds : ℕ → OutletState → OutletState
holds k o = record (restages k (Reserved o.next) o) { offer = Some k }

-- What is taken back

abbrev pub is_wish : SourceStage → Bool
is_wish (Wished _) = true
is_wish (AskedBy _) = true
is_wish _ = false

abbrev pub denies : ℕ → OutletState → OutletState
denies k o = restages k Free o

-- an offer that is withdrawn is not made again, unless the head is to be offered anew
abbrev pub withdraws : ℕ → OutletState → OutletState
withdraws k o = changes k Free (cond o.renewing (end_at o k).declined (unwrap_or (id_of (stage_at o k)) 0)) o

abbrev pub ends_link : ℕ → LinkEnd → OutletState → OutletState
ends_link k how o = restages k (Ended how) o

-- What an end does next

-- a link that is cut passes nothing on
abbrev pub passed_on : Bool → Outcome → LinkEnd
passed_on false _ = Plain
passed_on true Done = Complete
passed_on true (Faulted n) = Fault n

abbrev pub end_by : Bool → Option Outcome → Option LinkEnd
end_by passes None = None
end_by passes (Some outcome) = Some (passed_on passes outcome)

-- how the link ends, if it ends now
abbrev pub end_of : OutEnd → Option Outcome → Option LinkEnd
end_of end stopped = cond (is_cut end) (Some Plain) (end_by end.rule.passes stopped)

-- an offer is out: it is not answered, or accepted and not given
abbrev pub out_at : OutletState → Option ℕ → Bool
out_at o None = false
out_at o (Some k) = is_out (stage_at o k)

abbrev pub has_offer_out : OutletState → Bool
has_offer_out o = out_at o o.offer

-- a wish is answered while no offer is out: so, or by a denial where the message is given, or kept for another
abbrev pub answers_wish : Move → ℕ → OutletState → Option Move
answers_wish so i o = cond (has_offer_out o) None (Some (cond (i == o.next && not (is_some o.offer)) so Deny))

abbrev pub free_move : OutletState → ℕ → Option LinkEnd → Option Move
free_move o k (Some how) = Some (End how)
free_move o k None = cond (is_at (may_offer o) k) (Some (Offer o.next)) None

abbrev pub move_at : OutletState → ℕ → Option Outcome → Bool → SourceStage → Option Move
move_at o k stopped held_up Free = free_move o k (end_of (end_at o k) stopped)
move_at o k stopped held_up (Accepted _) = Some Give
move_at o k stopped held_up (Claimed _) = Some Give
move_at o k stopped held_up (Wished i) = answers_wish Give i o
move_at o k stopped held_up (AskedBy i) = answers_wish Hold i o
move_at o k stopped held_up (Waiting i) = cond (held_up || o.renewing || not (i == o.next)) (Some Withdraw) None
move_at o k stopped held_up _ = None

abbrev pub out_move : ℕ → Option Outcome → Bool → OutletState → Option Move
out_move k stopped held_up o = move_at o k stopped held_up (stage_at o k)

-- nothing is under way over a link, or waits there; and what is under way only waits
abbrev pub is_at_rest : OutletState → Bool
is_at_rest o = count_at is_away o.ends == 0

abbrev pub only_waits : OutletState → Bool
only_waits o = count_at is_away o.ends == count_at is_waiting o.ends
