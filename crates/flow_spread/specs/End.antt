-- A block's end of one link over which copies go, and what can be said of it alone.
use Rattle.std.specs.Prelude.{ℕ, ◌+◌, ◌==◌, cond, Bool, true, false, not, ◌&&◌, List, [], ◌∷◌, get_or, Option, None, is_some}
use Rattle.flow_value.specs.When.{admits}
use Rattle.flow_value.specs.declared.value.Value.{Value}
use Rattle.flow_link.specs.declared.stage.SourceStage.{SourceStage}
use Rattle.flow_link.specs.declared.stage.SourceStage.TheVariants.{Posted, Out, Waiting, Accepted, Wished, AskedBy, Reserved, Claimed, Refused}
use Rattle.flow_outlet.specs.ByLink.{forgotten}
use Rattle.flow_outlet.specs.End.{fresh_end as fresh_link, no_end as no_link, id_of, is_free, is_away, is_waiting, is_closed}
use Rattle.flow_outlet.specs.declared.ends.LinkRule.{LinkRule}
use Rattle.flow_outlet.specs.declared.ends.OutEnd.{OutEnd}
use Rattle.flow_spread.specs.declared.end.CopyEnd.{CopyEnd}

-- nothing has gone over the link yet
abbrev pub fresh_end : LinkRule → CopyEnd
fresh_end rule = record { link = fresh_link rule; owes = false; share = None }

-- the end at a place; where there is none, none is asked for
abbrev pub no_end : CopyEnd
no_end = record { link = no_link; owes = false; share = None }

abbrev pub end_in : List CopyEnd → ℕ → CopyEnd
end_in ends k = get_or ends k no_end

-- the target was offered the element, and has to be given it or to say more: it has not answered, or wants it, asks for it
-- or has it kept
abbrev pub is_busy : SourceStage → Bool
is_busy (Posted _) = true
is_busy (Out _) = true
is_busy (Accepted _) = true
is_busy (Wished _) = true
is_busy (AskedBy _) = true
is_busy (Reserved _) = true
is_busy (Claimed _) = true
is_busy _ = false

-- the element with this id may be offered over the link now
abbrev pub is_open : ℕ → CopyEnd → Bool
is_open id end = end.owes && is_free end.link.stage && not (end.link.declined == id)

-- the link is to be asked for a new element: something may go over it still, and its predicate admits the element
abbrev pub is_due : Value → OutEnd → Bool
is_due value link = not (is_closed link) && admits link.rule.when value

-- a target that is seen to stand so has answered. A block that takes once goes on waiting for one that put the element off
abbrev pub is_answer : Bool → SourceStage → Bool
is_answer once Refused = true
is_answer once (Waiting _) = not once
is_answer once (AskedBy _) = not once
is_answer once _ = false

-- what is made for a message goes with it: it is kept while the stage speaks of one
abbrev pub share_at : SourceStage → Option Value → Option Value
share_at stage share = cond (is_some (id_of stage)) share None

-- the end after its link came to stand elsewhere
abbrev pub moved : OutEnd → Bool → CopyEnd → CopyEnd
moved link owes end = record { link = link; owes = owes; share = share_at link.stage end.share }

-- the end when the block takes a new element. That the last was put off is forgotten
abbrev pub takes_up : Value → CopyEnd → CopyEnd
takes_up value end = record { link = forgotten end.link; owes = is_due value (forgotten end.link); share = None }

-- the first place whose end may be offered the element
abbrev pub first_open : ℕ → List CopyEnd → ℕ
first_open id [] = 0
first_open id (end ∷ ends) = cond (is_open id end) 0 (first_open id ends + 1)

-- Tests of ends, to be counted

abbrev pub owes_it : CopyEnd → Bool
owes_it end = end.owes

abbrev pub is_away_at : CopyEnd → Bool
is_away_at end = is_away end.link.stage

abbrev pub is_waiting_at : CopyEnd → Bool
is_waiting_at end = is_waiting end.link.stage

abbrev pub is_busy_at : CopyEnd → Bool
is_busy_at end = is_busy end.link.stage

-- how many ends pass a test
abbrev pub count_of : (CopyEnd → Bool) → List CopyEnd → ℕ
count_of test [] = 0
count_of test (end ∷ ends) = cond (test end) 1 0 + count_of test ends
