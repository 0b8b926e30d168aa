-- What becomes of each element over a link, over any calls, whatever the link's target answers.
use Rattle.std.specs.Prelude.{◌≡◌, ℕ, ◌+◌, ◌^◌, ◌<◌, ◌≤◌, ◌==◌, ltb, leb, cond, Bool, true, false, not, ◌&&◌, ◌||◌, List, [], ◌∷◌, ◌++◌, length}
use Rattle.flow_value.specs.When.{admits}
use Rattle.flow_value.specs.declared.value.Value.{Value}
use Rattle.flow_value.specs.declared.message.MessageStatus.{MessageStatus}
use Rattle.flow_value.specs.declared.message.MessageStatus.TheVariants as status
use Rattle.flow_link.specs.Lists.{every, some}
use Rattle.flow_link.specs.LinkOk.{IsWithin}
use Rattle.flow_link.specs.Stage.{source_looks}
use Rattle.flow_link.specs.declared.stage.SourceStage.{SourceStage}
use Rattle.flow_link.specs.declared.stage.SourceStage.TheVariants.{Out}
use Rattle.flow_outlet.specs.End.{is_limit}
use Rattle.flow_outlet.specs.History.{listed}
use Rattle.flow_outlet.specs.Law.{is_put_off, is_refused}
use Rattle.flow_outlet.specs.declared.ends.LinkRule.{LinkRule}
use Rattle.flow_spread.specs.Copied.{Call, Course, IsThere, IsAllowed, after, after_all, put_in, given_in, fresh_course}
use Rattle.flow_spread.specs.Spread.{SpreadState, end_at, link_at, stage_at, asked_id}

-- What calls tell of a link

-- by their ids: the elements that went over it, those that its target declined or put off, and those at which its target came to
-- refuse any more
pub record Told : Type 0 where
  pub gave : List ℕ
  pub put_off : List ℕ
  pub refused : List ℕ

abbrev pub nothing_told : Told
nothing_told = record { gave = []; put_off = []; refused = [] }

abbrev pub told_both : Told → Told → Told
told_both first then_on = record {
  gave = first.gave ++ then_on.gave;
  put_off = first.put_off ++ then_on.put_off;
  refused = first.refused ++ then_on.refused;
}

-- a gift of the element with this id
abbrev pub told_gift : ℕ → Told
told_gift id = record { gave = id ∷ []; put_off = []; refused = [] }

-- an answer to the offer of a message
abbrev pub told_answer : ℕ → MessageStatus → Told
told_answer header status.Accepted = nothing_told
told_answer header status.Declined = record { gave = []; put_off = header ∷ []; refused = [] }
told_answer header status.Postponed = record { gave = []; put_off = header ∷ []; refused = [] }
told_answer header status.NotAvailable = record { gave = []; put_off = header ∷ []; refused = [] }
told_answer header status.DecliningPermanently = record { gave = []; put_off = []; refused = header ∷ [] }

-- a look, while the element has this id: what is new in the stage that it leaves
abbrev pub told_look : ℕ → SourceStage → SourceStage → Told
told_look id before later = record {
  gave = [];
  put_off = cond (is_put_off later && not (is_put_off before)) (asked_id later ∷ []) [];
  refused = cond (is_refused later && not (is_refused before)) (id ∷ []) [];
}

abbrev pub told_by : ℕ → Call → Course → Told
told_by k (Call.give j) c = cond (j == k) (told_gift c.spread.id) nothing_told
told_by k (Call.look j phase) c =
    cond (j == k) (told_look c.spread.id (stage_at c.spread j) (source_looks (stage_at c.spread j) phase)) nothing_told
told_by k (Call.answer j header answer) c = cond (j == k) (told_answer header answer) nothing_told
told_by k _ c = nothing_told

abbrev pub told_in : ℕ → List Call → Course → Told
told_in k [] c = nothing_told
told_in k (call ∷ calls) c = told_both (told_by k call c) (told_in k calls (after call c))

-- What becomes of an element

abbrev pub is_among : ℕ → List ℕ → Bool
is_among id ids = some (λ i. i == id) ids

-- how many of the ids are below this one
abbrev pub count_below : ℕ → List ℕ → ℕ
count_below id [] = 0
count_below id (i ∷ ids) = cond (ltb i id) 1 0 + count_below id ids

-- the element went over the link; or the predicate turns it away, the target declined it or put it off, the target refused by
-- then, or the link had carried its limit before
abbrev pub has_account : LinkRule → Told → ℕ → Value → Bool
has_account rule told id value =
    is_among id told.gave || not (admits rule.when value) || is_among id told.put_off || some (λ i. leb i id) told.refused
    || is_limit rule.max (count_below id told.gave)

-- Elements with their ids, which follow one another from the first one's on

-- each passes
abbrev pub every_from : (ℕ → Value → Bool) → ℕ → List Value → Bool
every_from test id [] = true
every_from test id (value ∷ values) = test id value && every_from test (id + 1) values

-- those whose ids are among these
abbrev pub those_among : List ℕ → ℕ → List Value → List Value
those_among ids id [] = []
those_among ids id (value ∷ values) =
    cond (is_among id ids) (value ∷ those_among ids (id + 1) values) (those_among ids (id + 1) values)

-- what was given over the link at place k, and what was not, by what the calls tell
pub record LinkAccounts (first : ℕ) (given elements : List Value) (told : Told) (k : ℕ) (s : SpreadState) : Type 0 where
  -- the elements before the newest, and the newest
  pub older : List Value
  pub newest : older ++ listed s.element ≡ elements
  pub numbered : s.id + 1 ≡ first + length elements
  -- given are the elements that are told to have gone over the link: each once, in order; not the newest, while the link owes it
  pub given_are : given ≡ those_among told.gave first elements
  pub owed : (end_at s k).owes ≡ true → is_among s.id told.gave ≡ false
  -- all of them are admitted, and they are no more than the limit
  pub admitted : every (admits (link_at s k).rule.when) given ≡ true
  pub within : IsWithin (link_at s k).rule.max (length given)
  -- each element has its account, but for the newest while the link owes it
  pub each : every_from (has_account (link_at s k).rule told) first (older ++ cond (end_at s k).owes [] (listed s.element)) ≡ true

-- When a call may be made, whatever targets answer: one may decline or put off what it likes

abbrev pub IsMade : Call → Course → Type 0
IsMade (Call.look k phase) c = IsThere k c
IsMade (Call.answer k header answer) c = IsThere k c × (stage_at c.spread k ≡ Out header) × (c.pending ≡ true)
IsMade call c = IsAllowed call c

abbrev pub AllMade : List Call → Course → Type 0
AllMade [] c = Unit {0}
AllMade (call ∷ calls) c = IsMade call c × AllMade calls (after call c)

-- over any calls each link has its accounts
pub record EachLinkHasItsAccounts : Type 0 where
  pub each : (once pending : Bool) (rules : List LinkRule) (first : ℕ) → 1 ≤ first → first ≤ 2 ^ 59
      → (calls : List Call) → AllMade calls (fresh_course once pending rules first) → (k : ℕ) → k < length rules
      → LinkAccounts first (given_in k calls (fresh_course once pending rules first)) (put_in calls)
      (told_in k calls (fresh_course once pending rules first)) k (after_all calls (fresh_course once pending rules first)).spread
