-- What a block copies to its links, as plain data, and what each call makes of it.
use Rattle.std.specs.Prelude.{ℕ, ◌+◌, ◌-◌, ◌==◌, ltb, cond, Bool, true, false, not, ◌&&◌, List, length, set, map, Option, Some, None, is_some, unwrap_or}
use Rattle.flow_value.specs.declared.value.Value.{Value}
use Rattle.flow_link.specs.declared.phase.LinkEnd.{LinkEnd}
use Rattle.flow_link.specs.declared.phase.Move.{Move}
use Rattle.flow_link.specs.declared.phase.Move.TheVariants.{Offer, Withdraw, Hold, Give, End}
use Rattle.flow_link.specs.declared.phase.Phase.{Phase}
use Rattle.flow_link.specs.declared.stage.SourceStage.{SourceStage}
use Rattle.flow_link.specs.declared.stage.SourceStage.TheVariants.{Free, Out, Waiting, Accepted, Wished, AskedBy, Reserved, Claimed, Ended}
use Rattle.flow_link.specs.declared.trace.Outcome.{Outcome}
use Rattle.flow_link.specs.Stage.{source_looks}
use Rattle.flow_outlet.specs.End.{id_of}
use Rattle.flow_outlet.specs.Outlet.{given_end, end_of}
use Rattle.flow_outlet.specs.declared.ends.LinkRule.{LinkRule}
use Rattle.flow_outlet.specs.declared.ends.OutEnd.{OutEnd}
use Rattle.flow_spread.specs.declared.end.CopyEnd.{CopyEnd}
use Rattle.flow_spread.specs.End.{end_in, fresh_end, is_open, is_answer, moved, takes_up, first_open, owes_it, is_away_at, is_waiting_at, is_busy_at, count_of}

pub record SpreadState : Type 0 where
  -- the ends of its links, in the order of the links
  pub ends : List CopyEnd
  -- what it took last, and the id of that; before the first, the id below the first one
  pub element : Option Value
  pub id : ℕ
  -- it takes one element in all
  pub once : Bool

abbrev pub end_at : SpreadState → ℕ → CopyEnd
end_at s k = end_in s.ends k

abbrev pub link_at : SpreadState → ℕ → OutEnd
link_at s k = (end_at s k).link

abbrev pub stage_at : SpreadState → ℕ → SourceStage
stage_at s k = (link_at s k).stage

-- nothing is put, and nothing has gone over a link
abbrev pub fresh_spread : Bool → List LinkRule → ℕ → SpreadState
fresh_spread once rules first = record { ends = map fresh_end rules; element = None; id = first - 1; once = once }

-- What is put

-- nobody owes, and nobody has the element coming; what takes once has taken nothing
abbrev pub is_spread_free : SpreadState → Bool
is_spread_free s = count_of owes_it s.ends == 0 && count_of is_busy_at s.ends == 0 && not (s.once && is_some s.element)

-- the element is overwritten, and each link is to be asked that may take the new one
abbrev pub puts : Value → SpreadState → SpreadState
puts value s = record { ends = map (takes_up value) s.ends; element = Some value; id = s.id + 1; once = s.once }

-- the element, while somebody owes
abbrev pub left_of : SpreadState → Option Value
left_of s = cond (count_of owes_it s.ends == 0) None s.element

-- nothing is under way over a link, or waits there; and what is under way only waits
abbrev pub is_at_rest : SpreadState → Bool
is_at_rest s = count_of is_away_at s.ends == 0

abbrev pub only_waits : SpreadState → Bool
only_waits s = count_of is_away_at s.ends == count_of is_waiting_at s.ends

-- Where one end changes

abbrev pub changes : ℕ → CopyEnd → SpreadState → SpreadState
changes k end s = record s { ends = set s.ends k end }

-- its link comes to stand elsewhere
abbrev pub moves : ℕ → OutEnd → Bool → SpreadState → SpreadState
moves k link owes s = changes k (moved link owes (end_at s k)) s

abbrev pub restages : ℕ → SourceStage → Bool → SpreadState → SpreadState
restages k stage owes s = moves k (record (link_at s k) { stage = stage }) owes s

-- What is offered

-- the element may be offered over the link at a place
abbrev pub may_offer : ℕ → SpreadState → Bool
may_offer k s = is_some s.element && is_open s.id (end_at s k)

-- the place over which the element is offered next, if any
abbrev pub offer_at : ℕ → SpreadState → Option ℕ
offer_at k s = cond (is_some s.element && ltb k (length s.ends)) (Some k) None

abbrev pub next_place : SpreadState → Option ℕ
next_place s = offer_at (first_open s.id s.ends) s

-- what the end's target is to have is made
abbrev pub prepares : ℕ → SpreadState → SpreadState
prepares k s = changes k (record (end_at s k) { share = s.element }) s

abbrev pub offers : ℕ → SpreadState → SpreadState
offers k s = restages k (Out s.id) (end_at s k).owes s

-- the source looks at the phase: a target that is seen to refuse, or to have put the element off, may have answered
abbrev pub looks : ℕ → Phase → SpreadState → SpreadState
looks k phase s =
    restages k (source_looks (stage_at s k) phase)
    ((end_at s k).owes && not (is_answer s.once (source_looks (stage_at s k) phase))) s

-- What is given

abbrev pub is_wanted : ℕ → SourceStage → Bool
is_wanted id (Accepted i) = i == id
is_wanted id (Wished i) = i == id
is_wanted id (Claimed i) = i == id
is_wanted id _ = false

abbrev pub may_give : ℕ → SpreadState → Bool
may_give k s = is_wanted s.id (stage_at s k)

abbrev pub gives : ℕ → SpreadState → SpreadState
gives k s = moves k (given_end s.id (link_at s k)) false s

-- What is kept, taken back and ended. What a link owes stays

abbrev pub is_asked_by : SourceStage → Bool
is_asked_by (AskedBy _) = true
is_asked_by _ = false

abbrev pub asked_id : SourceStage → ℕ
asked_id stage = unwrap_or (id_of stage) 0

abbrev pub holds : ℕ → SpreadState → SpreadState
holds k s = restages k (Reserved (asked_id (stage_at s k))) (end_at s k).owes s

-- an offer that is withdrawn is not made again
abbrev pub withdraws : ℕ → SpreadState → SpreadState
withdraws k s = moves k (record (link_at s k) { declined = asked_id (stage_at s k); stage = Free }) (end_at s k).owes s

abbrev pub ends_link : ℕ → LinkEnd → SpreadState → SpreadState
ends_link k how s = restages k (Ended how) (end_at s k).owes s

-- What an end does next

abbrev pub free_move : SpreadState → ℕ → Option LinkEnd → Option Move
free_move s k (Some how) = Some (End how)
free_move s k None = cond (may_offer k s) (Some (Offer s.id)) None

abbrev pub move_at : SpreadState → ℕ → Option Outcome → Bool → SourceStage → Option Move
move_at s k stopped held_up Free = free_move s k (end_of (link_at s k) stopped)
move_at s k stopped held_up (Accepted _) = Some Give
move_at s k stopped held_up (Wished _) = Some Give
move_at s k stopped held_up (Claimed _) = Some Give
move_at s k stopped held_up (AskedBy _) = Some Hold
move_at s k stopped held_up (Waiting _) = cond held_up (Some Withdraw) None
move_at s k stopped held_up _ = None

abbrev pub out_move : ℕ → Option Outcome → Bool → SpreadState → Option Move
out_move k stopped held_up s = move_at s k stopped held_up (stage_at s k)
