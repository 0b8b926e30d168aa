-- Which elements a link is given, and which it lacks, over any calls that may be made.
use Rattle.std.specs.Prelude.{◌≡◌, ℕ, ◌+◌, ◌^◌, ◌<◌, ◌≤◌, ◌==◌, cond, Bool, true, false, List, [], ◌∷◌, ◌++◌, length, filter, Option, Some, None, is_some}
use Rattle.std.specs.Bool.{OnTrue}
use Rattle.flow_value.specs.When.{admits}
use Rattle.flow_value.specs.declared.value.Value.{Value}
use Rattle.flow_value.specs.declared.message.MessageStatus.{MessageStatus}
use Rattle.flow_link.specs.Copies.{up_to}
use Rattle.flow_link.specs.declared.phase.LinkEnd.{LinkEnd}
use Rattle.flow_link.specs.declared.phase.Phase.{Phase}
use Rattle.flow_link.specs.declared.stage.SourceStage.TheVariants.{Out}
use Rattle.flow_link.specs.declared.trace.Outcome.{Outcome}
use Rattle.flow_link.specs.declared.trace.Outcome.TheVariants.{Done}
use Rattle.flow_link.specs.Stage.{source_looks}
use Rattle.flow_outlet.specs.End.{is_free, is_waiting}
use Rattle.flow_outlet.specs.History.{listed}
use Rattle.flow_outlet.specs.KeepsByLink.{settles_it}
use Rattle.flow_outlet.specs.Law.{is_put_off, is_refused}
use Rattle.flow_outlet.specs.Outlet.{end_of, first_of}
use Rattle.flow_outlet.specs.declared.ends.LinkRule.{LinkRule}
use Rattle.flow_spread.specs.ByLink.{answered}
use Rattle.flow_spread.specs.Law.{MayPutOff}
use Rattle.flow_spread.specs.Spread.{SpreadState, end_at, link_at, stage_at, fresh_spread, is_spread_free, is_at_rest, puts, left_of, prepares, may_offer, offers, looks, may_give, gives, is_asked_by, holds, withdraws, ends_link}

-- the calls that change a spread, by the places of links, and what becomes of its block
pub data Call : Type 0 where
  put : Value → Call
  prepare : ℕ → Call
  offer : ℕ → Call
  look : ℕ → Phase → Call
  give : ℕ → Call
  hold : ℕ → Call
  withdraw : ℕ → Call
  «end» : ℕ → LinkEnd → Call
  answer : ℕ → ℕ → MessageStatus → Call
  fault : Call
  stop : Outcome → Call

-- a spread, whether its block faults or has faulted, and how it stopped
pub record Course : Type 0 where
  pub spread : SpreadState
  pub pending : Bool
  pub stopped : Option Outcome

abbrev pub after : Call → Course → Course
after (Call.put value) c = record c { spread = puts value c.spread }
after (Call.prepare k) c = record c { spread = prepares k c.spread }
after (Call.offer k) c = record c { spread = offers k c.spread }
after (Call.look k phase) c = record c { spread = looks k phase c.spread }
after (Call.give k) c = record c { spread = gives k c.spread }
after (Call.hold k) c = record c { spread = holds k c.spread }
after (Call.withdraw k) c = record c { spread = withdraws k c.spread }
after (Call.«end» k how) c = record c { spread = ends_link k how c.spread }
after (Call.answer k header status) c = record c { spread = answered status header k c.spread }
after Call.fault c = record c { pending = true }
after (Call.stop outcome) c = record c { stopped = Some outcome }

abbrev pub IsThere : ℕ → Course → Type 0
IsThere k c = k < length c.spread.ends

-- when a call may be made
abbrev pub IsAllowed : Call → Course → Type 0
IsAllowed (Call.put value) c = (c.stopped ≡ None) × (is_spread_free c.spread ≡ true) × (c.spread.id + 1 < 2 ^ 59)
IsAllowed (Call.prepare k) c = IsThere k c
IsAllowed (Call.offer k) c =
    (c.stopped ≡ None) × IsThere k c × (may_offer k c.spread ≡ true) × ((end_at c.spread k).share ≡ c.spread.element)
IsAllowed (Call.look k phase) c =
    IsThere k c × OnTrue (is_put_off (source_looks (stage_at c.spread k) phase)) (MayPutOff (link_at c.spread k))
IsAllowed (Call.give k) c = IsThere k c × (may_give k c.spread ≡ true)
IsAllowed (Call.hold k) c = IsThere k c × (is_asked_by (stage_at c.spread k) ≡ true)
IsAllowed (Call.withdraw k) c =
    IsThere k c × (is_waiting (stage_at c.spread k) ≡ true) × ((end_at c.spread k).owes ≡ true → c.pending ≡ true)
IsAllowed (Call.«end» k how) c =
    IsThere k c × (is_free (stage_at c.spread k) ≡ true) × (end_of (link_at c.spread k) c.stopped ≡ Some how)
IsAllowed (Call.answer k header status) c =
    IsThere k c × (stage_at c.spread k ≡ Out header) × (settles_it status ≡ false → MayPutOff (link_at c.spread k))
    × (c.pending ≡ true)
IsAllowed Call.fault c = Unit {0}
IsAllowed (Call.stop outcome) c =
    (c.stopped ≡ None) × (is_at_rest c.spread ≡ true) × (outcome ≡ Done → left_of c.spread ≡ None)

abbrev pub after_all : List Call → Course → Course
after_all [] c = c
after_all (call ∷ calls) c = after_all calls (after call c)

abbrev pub AllAllowed : List Call → Course → Type 0
AllAllowed [] c = Unit {0}
AllAllowed (call ∷ calls) c = IsAllowed call c × AllAllowed calls (after call c)

-- what a call puts in, and what it gives over the link at a place
abbrev pub put_by : Call → List Value
put_by (Call.put value) = value ∷ []
put_by _ = []

abbrev pub given_by : ℕ → Call → Course → List Value
given_by k (Call.give j) c = cond (j == k) (listed c.spread.element) []
given_by k _ c = []

abbrev pub put_in : List Call → List Value
put_in [] = []
put_in (call ∷ calls) = put_by call ++ put_in calls

abbrev pub given_in : ℕ → List Call → Course → List Value
given_in k [] c = []
given_in k (call ∷ calls) c = given_by k call c ++ given_in k calls (after call c)

-- Which elements a link has

-- the elements that are chosen, in their order
abbrev pub pick : List Bool → List Value → List Value
pick (true ∷ chosen) (value ∷ values) = value ∷ pick chosen values
pick (false ∷ chosen) (value ∷ values) = pick chosen values
pick _ _ = []

-- some of the values, each once at most and in their order
pub record IsPartOf (part whole : List Value) : Type 0 where
  pub chosen : List Bool
  pub one_each : length chosen ≡ length whole
  pub is : pick chosen whole ≡ part

pub record IsFrontOf (front whole : List Value) : Type 0 where
  pub rest : List Value
  pub is : front ++ rest ≡ whole

-- the elements that a link carries whose target takes each at once
abbrev pub carried : LinkRule → List Value → List Value
carried rule elements = up_to rule.max (filter (admits rule.when) elements)

-- what was given over the link at place k by these calls
pub record LinkHas (given elements : List Value) (k : ℕ) (s : SpreadState) : Type 0 where
  -- the elements before the newest, and the newest
  pub older : List Value
  pub newest : older ++ listed s.element ≡ elements
  -- some of the elements, each once at most and in their order; not the newest, while the link owes
  pub part : IsPartOf given elements
  pub owed : (end_at s k).owes ≡ true → IsPartOf given older
  -- all that a link carries whose target takes each at once, but for the newest while the link owes, and for what came
  -- after its target refused
  pub all : (link_at s k).rule.steady ≡ true → is_refused (stage_at s k) ≡ false
      → given ≡ carried (link_at s k).rule (older ++ cond (end_at s k).owes [] (listed s.element))
  -- a link alone into its target has the first of the elements that it may carry, with the same exceptions
  pub first : (link_at s k).rule.sole ≡ true → is_refused (stage_at s k) ≡ false
      → first_of given ≡ first_of (carried (link_at s k).rule (older ++ cond (end_at s k).owes [] (listed s.element)))
  pub front : (link_at s k).rule.steady ≡ true → IsFrontOf given (carried (link_at s k).rule elements)
  -- what went over the link was given
  pub went : 1 ≤ (link_at s k).last → is_some (first_of given) ≡ true
  -- whatever became of the link since: if anything was given over it, that began with the first
  pub begun : (link_at s k).rule.sole ≡ true → is_some (first_of given) ≡ true
      → first_of given ≡ first_of (carried (link_at s k).rule elements)

abbrev pub fresh_course : Bool → Bool → List LinkRule → ℕ → Course
fresh_course once pending rules first = record { spread = fresh_spread once rules first; pending = pending; stopped = None }

-- over any calls that may be made each link has its copies
pub record EachLinkHasItsCopies : Type 0 where
  pub each : (once pending : Bool) (rules : List LinkRule) (first : ℕ) → 1 ≤ first → first ≤ 2 ^ 59
      → (calls : List Call) → AllAllowed calls (fresh_course once pending rules first) → (k : ℕ) → k < length rules
      → LinkHas (given_in k calls (fresh_course once pending rules first)) (put_in calls) k
      (after_all calls (fresh_course once pending rules first)).spread
