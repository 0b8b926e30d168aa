-- What a block that copies does with its element, as plain data: the weight of the element, and the calls at its links.
use Rattle.std.specs.Prelude.{ℕ, ◌==◌, cond, Bool, true, false, ◌&&◌, List, [], is_some}
use Rattle.flow_link.specs.declared.draft.BlockKind.{BlockKind}
use Rattle.flow_link.specs.declared.phase.LinkEnd.{LinkEnd}
use Rattle.flow_link.specs.declared.phase.Phase.{Phase}
use Rattle.flow_link.specs.Plan.{is_write_once, is_one_taker}
use Rattle.flow_outlet.specs.declared.ends.LinkRule.{LinkRule}
use Rattle.flow_spread.specs.End.{count_of, owes_it, is_waiting_at}
use Rattle.flow_spread.specs.Spread.{SpreadState, fresh_spread, is_spread_free, prepares, offers, looks, gives, holds, withdraws, ends_link}

-- a block either shares its messages out over its links, or gives each of them a copy
abbrev pub shared_rules : BlockKind → List LinkRule → List LinkRule
shared_rules kind rules = cond (is_one_taker kind) rules []

abbrev pub copied_rules : BlockKind → List LinkRule → List LinkRule
copied_rules kind rules = cond (is_one_taker kind) [] rules

abbrev pub fresh_copies : BlockKind → List LinkRule → SpreadState
fresh_copies kind rules = fresh_spread (is_write_once kind) (copied_rules kind rules) 1

-- the element counts while somebody owes
abbrev pub copies_left : SpreadState → ℕ
copies_left copies = cond (count_of owes_it copies.ends == 0) 0 1

-- what the element counts: it counts for good where no other one is to come
abbrev pub weight_by : Bool → Bool → ℕ → ℕ
weight_by true some left = cond some 1 0
weight_by false some left = left

abbrev pub copies_weight : SpreadState → ℕ
copies_weight copies = weight_by copies.once (is_some copies.element) (copies_left copies)

-- a new element may be put: nobody waits for the last one either
abbrev pub none_waits : SpreadState → Bool
none_waits copies = count_of is_waiting_at copies.ends == 0

abbrev pub may_put : SpreadState → Bool
may_put copies = is_spread_free copies && none_waits copies

-- a call at one of its links, by the place of the link; an offer's share is made with it
pub data CopyCall : Type 0 where
  offer : ℕ → CopyCall
  look : ℕ → Phase → CopyCall
  give : ℕ → CopyCall
  hold : ℕ → CopyCall
  withdraw : ℕ → CopyCall
  end_link : ℕ → LinkEnd → CopyCall

abbrev pub after_copy : CopyCall → SpreadState → SpreadState
after_copy (CopyCall.offer k) copies = offers k (prepares k copies)
after_copy (CopyCall.look k phase) copies = looks k phase copies
after_copy (CopyCall.give k) copies = gives k copies
after_copy (CopyCall.hold k) copies = holds k copies
after_copy (CopyCall.withdraw k) copies = withdraws k copies
after_copy (CopyCall.end_link k how) copies = ends_link k how copies

-- the place at which it is
abbrev pub copy_place : CopyCall → ℕ
copy_place (CopyCall.offer k) = k
copy_place (CopyCall.look k phase) = k
copy_place (CopyCall.give k) = k
copy_place (CopyCall.hold k) = k
copy_place (CopyCall.withdraw k) = k
copy_place (CopyCall.end_link k how) = k
