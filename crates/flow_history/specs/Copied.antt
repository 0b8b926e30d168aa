-- What each link of a block that copies is given, over any calls.
use Rattle.std.specs.Prelude.{◌≡◌, ℕ, ◌<◌, ◌==◌, cond, false, List, [], ◌∷◌, length, Some}
use Rattle.flow_link.specs.declared.draft.BlockKind.{BlockKind}
use Rattle.flow_link.specs.Plan.{is_one_taker}
use Rattle.flow_link.specs.SourceCalls.{SourceCall}
use Rattle.flow_intake.specs.Port.{PortState}
use Rattle.flow_outlet.specs.KeepsByLink.{settles_it}
use Rattle.flow_outlet.specs.declared.ends.LinkRule.{LinkRule}
use Rattle.flow_spread.specs.Accounts.{Told, nothing_told, told_both, told_gift, told_answer, LinkAccounts}
use Rattle.flow_spread.specs.ByLink.{place_of}
use Rattle.flow_spread.specs.Copied.{LinkHas}
use Rattle.flow_spread.specs.Law.{MayPutOff}
use Rattle.flow_spread.specs.Spread.{SpreadState, link_at}
use Rattle.flow_block.specs.Block.{BlockState}
use Rattle.flow_block.specs.BlockFits.{fresh_block}
use Rattle.flow_block.specs.Copies.{fresh_copies}
use Rattle.flow_history.specs.Calls.{Call, MayCall, Does, Fits, Step, AllDone, after_all}
use Rattle.flow_history.specs.History.{nothing_yet, given_over, came_by, made_by, history_of, gave_by}

-- what calls tell of a link: which elements went over it, and what its target answered
abbrev pub told_by : ℕ → Call → Told
told_by link (Call.gives (SourceCall.consumed over header (Some value))) = cond (over == link) (told_gift header) nothing_told
told_by link (Call.gives (SourceCall.noted over header how)) = cond (over == link) (told_answer header how) nothing_told
told_by link _ = nothing_told

abbrev pub told_over : ℕ → List (Step Call BlockState) → Told
told_over link [] = nothing_told
told_over link (step ∷ steps) = told_both (told_by link step.call) (told_over link steps)

-- the link whose end is at a place, and that the end is the one which its link names
abbrev pub link_id : SpreadState → ℕ → ℕ
link_id copies k = (link_at copies k).rule.id

abbrev pub NamesItself : SpreadState → ℕ → Type 0
NamesItself copies k = place_of (link_id copies k) copies.ends ≡ k

-- Where targets answer by the rules of their links

-- a target declines an element or puts it off only over a link whose rule allows that
abbrev pub AnswersByRule : Call → BlockState → Type 0
AnswersByRule (Call.gives (SourceCall.noted link header how)) block =
    settles_it how ≡ false → MayPutOff (link_at block.copies (place_of link block.copies.ends))
AnswersByRule _ block = Unit {0}

abbrev pub MayCallByRule : Call → BlockState → Type 0
MayCallByRule call block = MayCall call block × AnswersByRule call block

-- over any calls, from a block to which nothing came
pub record CopiesAreGiven : Type 0 where
  -- whatever the targets answer, each link has its accounts of what the block made, whose ids begin with 1
  pub each : (kind : BlockKind) (lanes size : ℕ) (ports : List PortState) (rules : List LinkRule) → is_one_taker kind ≡ false
      → (steps : List (Step Call BlockState)) → AllDone Fits MayCall Does steps (fresh_block kind lanes size ports rules)
      → (k : ℕ) → k < length rules → NamesItself (fresh_copies kind rules) k
      → LinkAccounts 1
      (given_over (link_id (fresh_copies kind rules) k)
      (history_of came_by made_by gave_by steps (fresh_block kind lanes size ports rules) nothing_yet).gave)
      (history_of came_by made_by gave_by steps (fresh_block kind lanes size ports rules) nothing_yet).made
      (told_over (link_id (fresh_copies kind rules) k) steps)
      k (after_all steps (fresh_block kind lanes size ports rules)).copies
  -- where they answer by the rules of their links, each link has its copies
  pub by_rule : (kind : BlockKind) (lanes size : ℕ) (ports : List PortState) (rules : List LinkRule) → is_one_taker kind ≡ false
      → (steps : List (Step Call BlockState)) → AllDone Fits MayCallByRule Does steps (fresh_block kind lanes size ports rules)
      → (k : ℕ) → k < length rules → NamesItself (fresh_copies kind rules) k
      → LinkHas
      (given_over (link_id (fresh_copies kind rules) k)
      (history_of came_by made_by gave_by steps (fresh_block kind lanes size ports rules) nothing_yet).gave)
      (history_of came_by made_by gave_by steps (fresh_block kind lanes size ports rules) nothing_yet).made
      k (after_all steps (fresh_block kind lanes size ports rules)).copies
