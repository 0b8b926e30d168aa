-- What becomes of the one message of a write-once block that a caller drives by hand, over any calls.
use Rattle.std.specs.Prelude.{◌≡◌, ℕ, ◌<◌, ◌≤◌, ◌⊎◌, true, false, List, [], ◌∷◌, length, get_or, Some, None}
use Rattle.flow_value.specs.When.{admits}
use Rattle.flow_value.specs.declared.value.Value.{Value}
use Rattle.flow_link.specs.declared.draft.BlockKind.TheVariants as kind
use Rattle.flow_link.specs.Layout.{Layout}
use Rattle.flow_link.specs.Plan.{block_in}
use Rattle.flow_outlet.specs.End.{is_cut}
use Rattle.flow_outlet.specs.History.{listed}
use Rattle.flow_outlet.specs.Law.{is_refused}
use Rattle.flow_outlet.specs.declared.ends.OutEnd.{OutEnd}
use Rattle.flow_spread.specs.Spread.{SpreadState, link_at, left_of}
use Rattle.flow_block.specs.Block.{BlockState, held_by}
use Rattle.flow_block.specs.Planned.{links_from}
use Rattle.flow_history.specs.Calls.{Call, MayCallInOrder, Does, Fits, Step, AllDone, after_all}
use Rattle.flow_history.specs.Copied.{AnswersByRule}
use Rattle.flow_history.specs.History.{History, nothing_yet, took_at, given_over, came_by, made_by, history_of, gave_by}
use Rattle.flow_block.specs.Planned.{planned_block}

pub record WritesOnce (took : List Value) (block : BlockState) : Type 0 where
  -- it takes one message in all, and holds none: it copies the message that it took
  pub one : length took ≤ 1
  pub holds : held_by block ≡ []
  pub element : listed block.copies.element ≡ took
  -- what it has left is that message, or nothing
  pub left : (left_of block.copies ≡ None) ⊎ (listed (left_of block.copies) ≡ took)

-- the link was given the message, or never will be: it rejects it, it refused, or it gave as many as it may
abbrev pub IsServed : Value → List Value → OutEnd → Type 0
IsServed value given link =
    (given ≡ value ∷ []) ⊎ ((admits link.rule.when value ≡ false) ⊎ ((is_refused link.stage ≡ true) ⊎ (is_cut link ≡ true)))

-- the link is still to have the message
pub record IsToCome (value : Value) (given : List Value) (link : OutEnd) : Type 0 where
  pub none_yet : given ≡ []
  pub admitted : admits link.rule.when value ≡ true

-- the links over which it copies, by their places, with what was given over each
module _ (links : List ℕ) (history : History) (copies : SpreadState) where
  abbrev pub given_at : ℕ → List Value
  given_at k = given_over (get_or links k 0) history.gave

  pub record CopiesOnce (value : Value) : Type 0 where
    -- where nothing is left, each link is served; what is left is to come over some link
    pub served : left_of copies ≡ None → (k : ℕ) → k < length links → IsServed value (given_at k) (link_at copies k)
    pub to_come : left_of copies ≡ Some value → (k : ℕ) × ((k < length links) × IsToCome value (given_at k) (link_at copies k))

-- what may be called, where targets decline or put off only over a link whose rule allows that
abbrev pub MayCallInOrderByRule : Call → BlockState → Type 0
MayCallInOrderByRule call block = MayCallInOrder call block × AnswersByRule call block

-- what a block of a plan took, made and gave by these calls
module _ {W : Type 0} (layout : Layout W) (b : ℕ) (steps : List (Step Call BlockState)) where
  abbrev pub history_by : History
  history_by = history_of came_by made_by gave_by steps (planned_block layout b) nothing_yet

  abbrev pub block_by : BlockState
  block_by = after_all steps (planned_block layout b)

-- over any calls, from a write-once block of a plan; and what becomes of its links, where targets answer by their rules
pub record WriteOnceTakesOne (W : Type 0) : Type 0 where
  pub each : (layout : Layout W) (b : ℕ) → (block_in layout.blocks b).kind ≡ kind.WriteOnce
      → (steps : List (Step Call BlockState)) → AllDone Fits MayCallInOrder Does steps (planned_block layout b)
      → WritesOnce (took_at (history_by layout b steps) 0) (block_by layout b steps)
  pub copies : (layout : Layout W) (b : ℕ) → (block_in layout.blocks b).kind ≡ kind.WriteOnce
      → (steps : List (Step Call BlockState)) → AllDone Fits MayCallInOrderByRule Does steps (planned_block layout b)
      → (value : Value) → took_at (history_by layout b steps) 0 ≡ value ∷ []
      → CopiesOnce (links_from layout b) (history_by layout b steps) (block_by layout b steps).copies value
