-- Over which links a block that shares its messages out gives them, over any calls.
use Rattle.std.specs.Prelude.{◌≡◌, ℕ, ◌<◌, true, false, List, length, Option, Some, Result}
use Rattle.flow_value.specs.When.{admits}
use Rattle.flow_value.specs.declared.value.Value.{Value}
use Rattle.flow_value.specs.declared.work.WorkFault.{WorkFault}
use Rattle.flow_link.specs.declared.draft.BlockKind.{BlockKind}
use Rattle.flow_link.specs.LinkOk.{IsWithin}
use Rattle.flow_link.specs.Lists.{every}
use Rattle.flow_link.specs.Making.{Arrival}
use Rattle.flow_link.specs.Plan.{has_work, is_one_taker}
use Rattle.flow_link.specs.SourceCalls.{SourceCall}
use Rattle.flow_intake.specs.Port.{PortState}
use Rattle.flow_outlet.specs.ByLink.{place_of}
use Rattle.flow_outlet.specs.KeepsByLink.{settles_it}
use Rattle.flow_outlet.specs.Law.{may_go_past}
use Rattle.flow_outlet.specs.Outlet.{OutletState, end_at}
use Rattle.flow_outlet.specs.declared.ends.LinkRule.{LinkRule}
use Rattle.flow_block.specs.Block.{BlockState}
use Rattle.flow_block.specs.BlockFits.{fresh_block}
use Rattle.flow_group.specs.declared.round.Source.{Source}
use Rattle.flow_kinds.specs.BatchedJoin.{JoinState, fresh_join}
use Rattle.flow_exec.specs.Execution.{ExecutionState, fresh_execution, lacks_job_ids}
use Rattle.flow_kinds.specs.ReservingJoin.{ReservingState, fresh_join as fresh_reserving}
use Rattle.flow_history.specs.Calls.{Call, MayCall, Does, Fits, Step, AllDone, after_all}
use Rattle.flow_history.specs.Grouped.{MayCallJoin, DoesToJoin, FitsJoin, came_to, grouped_by}
use Rattle.flow_history.specs.History.{Gift, nothing_yet, given_over, came_by, made_by, gave_by, history_of}
use Rattle.flow_history.specs.Reserved.{MayCallReserving, DoesToReserving, FitsReserving, came_into, tuples_by}
use Rattle.flow_history.specs.Worked.{WorkCall, gave_for, MayCallWork, FitsWork, came_for, DoesWork, worked_out}

-- the end at a place is the one that its link names
abbrev pub NamesItsEnd : OutletState → ℕ → Type 0
NamesItsEnd exits k = place_of (end_at exits k).rule.id exits.ends ≡ k

-- what was given over the link at a place is admitted there, and is no more than its limit
pub record GivenByRule (exits : OutletState) (gave : List Gift) (k : ℕ) : Type 0 where
  pub admitted : every (admits (end_at exits k).rule.when) (given_over (end_at exits k).rule.id gave) ≡ true
  pub within : IsWithin (end_at exits k).rule.max (length (given_over (end_at exits k).rule.id gave))

-- a message that a call gives over a link: each earlier link rejects it, need not take it at once, or is cut or refused
abbrev pub GoesInOrder : Call → OutletState → Type 0
GoesInOrder (Call.gives (SourceCall.consumed link header (Some value))) exits =
    (j : ℕ) → j < place_of link exits.ends → may_go_past (Some value) (end_at exits j) ≡ true
GoesInOrder _ exits = Unit {0}

module _ {C S : Type 0} (exits_of : S → OutletState) (Fit : S → Type 0) (May : C → S → Type 0) (Do : C → S → S → Type 0) where
  -- over any calls from this state
  pub record GivesByRule (came : C → S → List Arrival) (makes : C → S → List Value) (gives : C → List Gift) (fresh : S) : Type 0 where
    pub each : (steps : List (Step C S)) → AllDone Fit May Do steps fresh
        → (k : ℕ) → k < length (exits_of (after_all steps fresh)).ends → NamesItsEnd (exits_of (after_all steps fresh)) k
        → GivenByRule (exits_of (after_all steps fresh)) (history_of came makes gives steps fresh nothing_yet).gave k

  -- by a call that comes after any others
  pub record KeepsLinkOrder (InOrder : C → OutletState → Type 0) (fresh : S) : Type 0 where
    pub next : (steps : List (Step C S)) → AllDone Fit May Do steps fresh
        → (call : C) (new : S) → May call (after_all steps fresh) → Do call (after_all steps fresh) new
        → InOrder call (exits_of (after_all steps fresh))

-- What the order of the links takes of the calls besides

-- a target declines a message or puts it off only over a link that is not steady
abbrev pub AnswersSteadily : Call → OutletState → Type 0
AnswersSteadily (Call.gives (SourceCall.noted link header how)) exits =
    settles_it how ≡ false → (end_at exits (place_of link exits.ends)).rule.steady ≡ false
AnswersSteadily _ exits = Unit {0}

abbrev pub MayCallSteadily : Call → BlockState → Type 0
MayCallSteadily call block = MayCall call block × AnswersSteadily call block.exits

abbrev pub MayCallJoinSteadily : Call → JoinState → Type 0
MayCallJoinSteadily call join = MayCallJoin call join × AnswersSteadily call join.block.exits

abbrev pub exits_of_join : JoinState → OutletState
exits_of_join join = join.block.exits

abbrev pub MayCallReservingSteadily : Call → ReservingState → Type 0
MayCallReservingSteadily call join = MayCallReserving call join × AnswersSteadily call join.block.exits

abbrev pub exits_of_reserving : ReservingState → OutletState
exits_of_reserving join = join.block.exits

abbrev pub WorkGoesInOrder : WorkCall → OutletState → Type 0
WorkGoesInOrder (WorkCall.common call) exits = GoesInOrder call exits
WorkGoesInOrder _ exits = Unit {0}

module _ {W : Type 0} where
  abbrev pub exits_of_work : ExecutionState W → OutletState
  exits_of_work execution = execution.block.exits

  -- a result comes back only where there are ids for what comes out: else it is refused, and nothing changes
  abbrev pub HasIds : (W → Value → Result (List Value) WorkFault) → WorkCall → ExecutionState W → Type 0
  HasIds meaning (WorkCall.common call) execution = Unit {0}
  HasIds meaning WorkCall.began execution = Unit {0}
  HasIds meaning (WorkCall.ended ticket) execution = lacks_job_ids meaning ticket execution ≡ false

  abbrev pub MayCallWorkWithIds : (W → Value → Result (List Value) WorkFault) → WorkCall → ExecutionState W → Type 0
  MayCallWorkWithIds meaning call execution = MayCallWork call execution × HasIds meaning call execution

  abbrev pub WorkAnswersSteadily : WorkCall → ExecutionState W → Type 0
  WorkAnswersSteadily (WorkCall.common call) execution = AnswersSteadily call execution.block.exits
  WorkAnswersSteadily _ execution = Unit {0}

  abbrev pub MayCallWorkSteadily : (W → Value → Result (List Value) WorkFault) → WorkCall → ExecutionState W → Type 0
  MayCallWorkSteadily meaning call execution = MayCallWorkWithIds meaning call execution × WorkAnswersSteadily call execution

-- of a block, a batched join, a join that reserves and an execution block to which nothing came, whatever their targets answer
pub record MessagesGoByRule (W : Type 0) : Type 0 where
  pub blocks : (kind : BlockKind) (lanes size : ℕ) (ports : List PortState) (rules : List LinkRule) → is_one_taker kind ≡ true
      → GivesByRule (λ (block : BlockState). block.exits) Fits MayCall Does came_by made_by gave_by
      (fresh_block kind lanes size ports rules)
  pub joins : (size : ℕ) (ports : List PortState) (rules : List LinkRule)
      → GivesByRule exits_of_join FitsJoin MayCallJoin DoesToJoin came_to grouped_by gave_by (fresh_join size ports rules)
  pub reserving : (ports : List PortState) (sources : List Source) (rules : List LinkRule)
      → GivesByRule exits_of_reserving FitsReserving MayCallReserving DoesToReserving came_into tuples_by gave_by
      (fresh_reserving ports sources rules)
  pub works : (meaning : W → Value → Result (List Value) WorkFault) (kind : BlockKind) (lanes : ℕ) (work : Option W)
      (ports : List PortState) (rules : List LinkRule) → has_work kind ≡ true
      → GivesByRule exits_of_work FitsWork (MayCallWorkWithIds meaning) (DoesWork meaning) came_for (worked_out meaning) gave_for
      (fresh_execution kind lanes work ports rules)

-- and where their targets decline or put off over no steady link
pub record MessagesGoInOrder (W : Type 0) : Type 0 where
  pub blocks : (kind : BlockKind) (lanes size : ℕ) (ports : List PortState) (rules : List LinkRule) → is_one_taker kind ≡ true
      → KeepsLinkOrder (λ (block : BlockState). block.exits) Fits MayCallSteadily Does GoesInOrder
      (fresh_block kind lanes size ports rules)
  pub joins : (size : ℕ) (ports : List PortState) (rules : List LinkRule)
      → KeepsLinkOrder exits_of_join FitsJoin MayCallJoinSteadily DoesToJoin GoesInOrder (fresh_join size ports rules)
  pub reserving : (ports : List PortState) (sources : List Source) (rules : List LinkRule)
      → KeepsLinkOrder exits_of_reserving FitsReserving MayCallReservingSteadily DoesToReserving GoesInOrder
      (fresh_reserving ports sources rules)
  pub works : (meaning : W → Value → Result (List Value) WorkFault) (kind : BlockKind) (lanes : ℕ) (work : Option W)
      (ports : List PortState) (rules : List LinkRule) → has_work kind ≡ true
      → KeepsLinkOrder exits_of_work FitsWork (MayCallWorkSteadily meaning) (DoesWork meaning) WorkGoesInOrder
      (fresh_execution kind lanes work ports rules)
