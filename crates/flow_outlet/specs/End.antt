-- The source's end of one link, and what can be said of it alone.
use Rattle.std.specs.Prelude.{ℕ, ◌+◌, ◌==◌, ltb, cond, Bool, true, false, not, ◌||◌, ◌&&◌, List, [], ◌∷◌, drop, get_or, Option, Some, None}
use Rattle.flow_value.specs.When.{admits}
use Rattle.flow_value.specs.declared.value.Value.{Value}
use Rattle.flow_value.specs.declared.when.When.{When}
use Rattle.flow_value.specs.declared.when.When.TheVariants.{Any}
use Rattle.flow_link.specs.declared.stage.SourceStage.{SourceStage}
use Rattle.flow_link.specs.declared.stage.SourceStage.TheVariants.{Free, Posted, Out, Waiting, Accepted, Wished, AskedBy, Reserved, Claimed, Crossing, Refused, Ended}
use Rattle.flow_outlet.specs.declared.ends.LinkRule.{LinkRule}
use Rattle.flow_outlet.specs.declared.ends.OutEnd.{OutEnd}

-- nothing has gone over the link yet
abbrev pub fresh_end : LinkRule → OutEnd
fresh_end rule = record { rule = rule; given = 0; last = 0; declined = 0; stage = Free }

-- the end at a place; where there is none, none is asked for
abbrev pub no_end : OutEnd
no_end = fresh_end (record { id = 0; when = Any; max = None; passes = false; steady = false; sole = false })

abbrev pub end_in : List OutEnd → ℕ → OutEnd
end_in ends k = get_or ends k no_end

-- the message of which a stage speaks
abbrev pub id_of : SourceStage → Option ℕ
id_of Free = None
id_of (Posted i) = Some i
id_of (Out i) = Some i
id_of (Waiting i) = Some i
id_of (Accepted i) = Some i
id_of (Wished i) = Some i
id_of (AskedBy i) = Some i
id_of (Reserved i) = Some i
id_of (Claimed i) = Some i
id_of Crossing = None
id_of Refused = None
id_of (Ended _) = None

abbrev pub is_id : ℕ → Option ℕ → Bool
is_id id None = false
is_id id (Some i) = i == id

-- the stage speaks of the message with this id
abbrev pub speaks_of : ℕ → SourceStage → Bool
speaks_of id stage = is_id id (id_of stage)

abbrev pub is_free : SourceStage → Bool
is_free Free = true
is_free _ = false

-- the target takes no more, or the source offers no more
abbrev pub is_over : SourceStage → Bool
is_over Refused = true
is_over (Ended _) = true
is_over _ = false

-- an offer is out: it is not answered yet, or it is accepted and not given yet
abbrev pub is_out : SourceStage → Bool
is_out (Out _) = true
is_out (Accepted _) = true
is_out _ = false

-- the head is spoken for over the link: its offer is out, or it is kept for the target, which may claim it
abbrev pub is_spoken_for : SourceStage → Bool
is_spoken_for (Out _) = true
is_spoken_for (Accepted _) = true
is_spoken_for (Reserved _) = true
is_spoken_for (Claimed _) = true
is_spoken_for _ = false

abbrev pub is_waiting : SourceStage → Bool
is_waiting (Waiting _) = true
is_waiting _ = false

-- the message with this id waits over the link
abbrev pub waits_with : ℕ → OutEnd → Bool
waits_with id end = is_waiting end.stage && speaks_of id end.stage

-- something is under way over the link, or waits there
abbrev pub is_away : SourceStage → Bool
is_away Free = false
is_away Refused = false
is_away (Ended _) = false
is_away _ = true

-- it gave as many as the plan lets cross
abbrev pub is_limit : Option ℕ → ℕ → Bool
is_limit None given = false
is_limit (Some max) given = given == max

abbrev pub is_cut : OutEnd → Bool
is_cut end = is_limit end.rule.max end.given

-- what is given counts only where there is a limit
abbrev pub counted : Option ℕ → ℕ → ℕ
counted None given = given
counted (Some _) given = given + 1

-- nothing is offered over the link any more
abbrev pub is_closed : OutEnd → Bool
is_closed end = is_over end.stage || is_cut end

-- there is a message, and the predicate turns it away
abbrev pub rejects : When → Option Value → Bool
rejects when None = false
rejects when (Some value) = not (admits when value)

-- the message with this id goes past the end: it is closed, it rejects the message, or it was offered the message before
abbrev pub is_passed : ℕ → Option Value → OutEnd → Bool
is_passed next head end = is_closed end || speaks_of next end.stage || end.declined == next || rejects end.rule.when head

-- the first place that the message does not go past
abbrev pub place_in : ℕ → Option Value → List OutEnd → ℕ
place_in next head [] = 0
place_in next head (end ∷ ends) = cond (is_passed next head end) (place_in next head ends + 1) 0

-- the same, where it was the cursor before the end at place k changed
abbrev pub cursor_after : ℕ → ℕ → ℕ → Option Value → List OutEnd → ℕ
cursor_after k cursor next head ends =
    cond (ltb cursor k) cursor
    (cond (is_passed next head (end_in ends k)) (cond (ltb k cursor) cursor (k + 1 + place_in next head (drop (k + 1) ends))) k)

-- how many ends are at such a stage
abbrev pub count_at : (SourceStage → Bool) → List OutEnd → ℕ
count_at test [] = 0
count_at test (end ∷ ends) = cond (test end.stage) 1 0 + count_at test ends
