-- What becomes of an exit while its network goes on: what was received there stays, and what is over stays over.
use Rattle.std.proofs.Common.{◌≡◌, ℕ, zero, suc, ◌<◌, Bool, true, false, List, length, get_or, Option, Some, None, cond, is_none, Result, Ok, Err, OnOk, OnErr, refl, ap, sym, subst, ◌∙◌, arith, eqb-true}
use Rattle.std.proofs.Math.ListN.{get_or-map}
use Rattle.std.proofs.Math.Logic.{∥∥₁_elim, ∥∥₁_map}
use Rattle.std.proofs.Math.Bool.{Bool-set}
use Rattle.std.proofs.Math.Nat.{ℕ_set}
use Rattle.std.proofs.lemmas.Bool.{and_parts}
use Rattle.std.proofs.lemmas.List.{get_or-set_same}
use Rattle.std.specs.Coded.{le_prop}
use Rattle.std.specs.declared.alloc.AllocError.{AllocError}
use mathlib.Core.Sum.{⊎_set}
use Rattle.flow_value.specs.declared.value.Value.{Value}
use Rattle.flow_value.specs.declared.work.WorkFault.{WorkFault}
use Rattle.flow_link.specs.declared.phase.LinkEnd.{LinkEnd}
use Rattle.flow_link.specs.declared.plan.LinkSource.{LinkSource}
use Rattle.flow_link.specs.declared.plan.LinkSource.TheVariants.{Block, Input}
use Rattle.flow_link.specs.declared.plan.LinkTarget.{LinkTarget}
use Rattle.flow_link.specs.declared.plan.LinkTarget.TheVariants.{Port, Exit}
use Rattle.flow_link.specs.declared.plan.Plan.{Plan}
use Rattle.flow_link.specs.declared.stage.TargetStage.{TargetStage}
use Rattle.flow_link.specs.declared.stage.TargetStage.TheVariants.{Ended}
use Rattle.flow_link.specs.declared.trace.Outcome.{Outcome}
use Rattle.flow_link.specs.Layout.{Layout}
use Rattle.flow_link.specs.Plan.{link_in, begins_at}
use Rattle.flow_link.specs.Planned.{layout_of}
use Rattle.flow_link.specs.Trace.{gave_over, marks_of}
use Rattle.flow_block.specs.Planned.{exit_place, is_exit, leads_out}
use Rattle.flow_exit.specs.Exit.{CallerState, ExitCall, ExitState, after_exit, caller_of, fresh_exit, is_callers, outcome_at, over_by}
use Rattle.flow_core.specs.Events.{NetEvent, Enabled, after}
use Rattle.flow_core.specs.Keeps.{IsRun, NetKeeps}
use Rattle.flow_core.specs.State.{NetState, callers_in, exit_at, run_of_net}
use Rattle.flow_core.specs.Statements.{IsReceivedOf}
use Rattle.flow_core.proofs.ExitsEnded.{ended_exits_stay}
use Rattle.flow_core.proofs.NetworksInOrder.{all_exit_calls_keep, all_received_was_given}
use Rattle.flow_core.proofs.PlacesOfLinks.{leads_there}
use Rattle.flow_net.proofs.NoneAsked.{callers_on}
use Rattle.flow_link.proofs.PlacesTell.{place_rises}
use Rattle.flow_exec.specs.Works.{works_of}
use Rattle.flow_moves.proofs.PlansRun.{plan_runs}
use Rattle.flow_moves.specs.Ways.{with_exit_in}
use Rattle.flow_net.specs.Happened.{Happened}
use Rattle.flow_moves.specs.Sights.{is_exit_of}
use Rattle.flow_net.proofs.KeptOn.{kept_on}

received_prop : (received given : List Value) → IsProp (IsReceivedOf received given)
received_prop received given = hlevel (Bool-set, le_prop)

-- outcomes are told apart
Outcomes-set : IsSet (Option Outcome)
Outcomes-set = hlevel (ℕ_set, ⊎_set)

-- what is over has seen that its link ended
ended_by : (kept : Option Value) (stage : TargetStage) (how : Outcome) → cond (is_none kept) (outcome_at stage) None ≡ Some how
    → (end : LinkEnd) × (stage ≡ Ended end)
ended_by None (Ended end) how e = (end, refl)
ended_by None _ how e = absurd (cc)
ended_by (Some value) stage how e = absurd (cc)

leads_so : (target : LinkTarget) → is_exit target ≡ true → target ≡ Exit
leads_so Exit e = refl
leads_so (Port t p) e = absurd (cc)

begins_so : {b : ℕ} (source : LinkSource) → begins_at b source ≡ true → source ≡ Block b
begins_so {b} (Block n) e = ap (λ (i : ℕ). Block i) (eqb-true n b e)
begins_so {b} (Input n) e = absurd (cc)

module _ {W : Type 0} (layout : Layout W) (meaning : ℕ → Value → Result (List Value) ℕ) (runs : IsRun layout) where
  module _ (l : ℕ) (there : l < length layout.links) (to : (link_in layout.links l).target ≡ Exit) where
    abbrev mine : NetState → ExitState
    mine net = exit_at layout net l

    caller_same : (old new : NetState) → callers_in new ≡ callers_in old → caller_of (mine new) ≡ caller_of (mine old)
    caller_same old new same =
        let place = exit_place layout l in
        sym (get_or-map caller_of new.exits place fresh_exit)
        ∙ ap (λ (callers : List CallerState). get_or callers place (caller_of fresh_exit)) same
        ∙ get_or-map caller_of old.exits place fresh_exit

    pub received_on : (count : ℕ) (old new : NetState) → Happened layout meaning count old new
        → (mine new).received ≡ (mine old).received
    received_on count old new happened =
        ap (λ (caller : CallerState). caller.received) (caller_same old new (callers_on layout meaning count old new happened))

    over_then : (how : Outcome) (net : NetState) (event : NetEvent) → NetKeeps layout meaning net → Enabled layout net event
        → over_by (mine net) ≡ Some how → over_by (mine (after layout meaning event net)) ≡ Some how
    over_then how net event keeps may over =
        let ended = ended_by (mine net).kept (mine net).stage how over in
        ap over_by (ended_exits_stay layout meaning runs net event l ended.0 keeps may there to ended.1) ∙ over

    pub over_on : (how : Outcome) (count : ℕ) (old new : NetState) → Happened layout meaning count old new
        → ∥ NetKeeps layout meaning old ∥₁ → over_by (mine old) ≡ Some how → over_by (mine new) ≡ Some how
    over_on how zero old new same kept over = ap (λ (net : NetState). over_by (mine net)) same ∙ over
    over_on how (suc count) old new (mid, (before, last)) kept over =
        let earlier = over_on how count old mid before kept over in
        ap (λ (net : NetState). over_by (mine net)) last.new_is
        ∙ ∥∥₁_elim (kept_on layout meaning runs count old mid before kept) (Outcomes-set _ _)
        (λ keeps. over_then how mid last.event keeps last.may.enabled earlier)

    -- What its caller does

    module _ (net : NetState) (kept : ∥ NetKeeps layout meaning net ∥₁) where
      pub exit_is_there : exit_place layout l < length net.exits
      exit_is_there =
          let within = place_rises (leads_out layout) l (length layout.links) there (leads_there layout l to) in
          ∥∥₁_elim kept le_prop (λ keeps. omega (arith, within, keeps.exit_count))

      pub called_is : (change : ExitState → ExitState) → mine (with_exit_in (exit_place layout l) change net) ≡ change (mine net)
      called_is change = get_or-set_same net.exits (exit_place layout l) (change (mine net)) fresh_exit exit_is_there

      pub called_keeps : (call : ExitCall) → is_callers call ≡ true
          → ∥ NetKeeps layout meaning (with_exit_in (exit_place layout l) (after_exit call) net) ∥₁
      called_keeps call own =
          ∥∥₁_map kept (λ keeps. all_exit_calls_keep W layout meaning runs net l call keeps there to own)

      -- what was received was given
      pub received_given : (b : ℕ) → (link_in layout.links l).source ≡ Block b
          → IsReceivedOf (mine net).received (gave_over l (marks_of (run_of_net layout meaning net) b))
      received_given b from =
          ∥∥₁_elim kept (received_prop (mine net).received (gave_over l (marks_of (run_of_net layout meaning net) b))) (λ keeps. all_received_was_given W layout meaning runs net l b keeps there from to)

-- the ends of an exit's link
module _ {W : Type 0} (layout : Layout W) (b l : ℕ) (own : is_exit_of b (link_in layout.links l) ≡ true) where
  both : (begins_at b (link_in layout.links l).source ≡ true) × (is_exit (link_in layout.links l).target ≡ true)
  both = and_parts (begins_at b (link_in layout.links l).source) (is_exit (link_in layout.links l).target) own

  pub from_block : (link_in layout.links l).source ≡ Block b
  from_block = begins_so (link_in layout.links l).source both.0

  pub to_exit : (link_in layout.links l).target ≡ Exit
  to_exit = leads_so (link_in layout.links l).target both.1

-- The exit of a network, by its plan

module _ {W : Type 0} (works : W → Value → Result (List Value) WorkFault) (plan : Plan W) (b l place : ℕ)
    (there : l < length (layout_of plan).links) (own : is_exit_of b (link_in (layout_of plan).links l) ≡ true)
    (placed : place ≡ exit_place (layout_of plan) l) where
  abbrev layout : Layout W
  layout = layout_of plan

  abbrev meaning : ℕ → Value → Result (List Value) ℕ
  meaning = works_of works layout

  abbrev runs : IsRun layout
  runs = plan_runs plan

  abbrev to : (link_in layout.links l).target ≡ Exit
  to = to_exit layout b l own

  abbrev exit_then : NetState → ExitState
  exit_then net = exit_at layout net l

  at_place : (change : ExitState → ExitState) (net : NetState)
      → with_exit_in place change net ≡ with_exit_in (exit_place layout l) change net
  at_place change net = ap (λ (k : ℕ). with_exit_in k change net) placed

  -- it is where its place says
  pub place_there : (net : NetState) → ∥ NetKeeps layout meaning net ∥₁ → place < length net.exits
  place_there net kept =
      subst (λ (k : ℕ). k < length net.exits) (sym placed) (exit_is_there layout meaning runs l there to net kept)

  -- what was received there was given
  pub was_given : (net : NetState) → ∥ NetKeeps layout meaning net ∥₁
      → IsReceivedOf (exit_then net).received (gave_over l (marks_of (run_of_net layout meaning net) b))
  was_given net kept = received_given layout meaning runs l there to net kept b (from_block layout b l own)

  -- a call of its caller
  module _ (call : ExitCall) (of_caller : is_callers call ≡ true) (before after : NetState)
      (so : after ≡ with_exit_in place (after_exit call) before) (kept : ∥ NetKeeps layout meaning before ∥₁) where
    called_so : after ≡ with_exit_in (exit_place layout l) (after_exit call) before
    called_so = so ∙ at_place (after_exit call) before

    pub kept_called : ∥ NetKeeps layout meaning after ∥₁
    kept_called =
        subst (λ (net : NetState). ∥ NetKeeps layout meaning net ∥₁) (sym called_so)
        (called_keeps layout meaning runs l there to before kept call of_caller)

    pub exit_called : exit_then after ≡ after_exit call (exit_then before)
    exit_called = ap exit_then called_so ∙ called_is layout meaning runs l there to before kept (after_exit call)

  -- a receive: the message that is kept is handed out, or memory is out
  pub kept_received : (before after : NetState) (result : Result (Option Value) AllocError)
      → OnOk result (after ≡ with_exit_in place (after_exit ExitCall.receive) before) → OnErr result (after ≡ before)
      → ∥ NetKeeps layout meaning before ∥₁ → ∥ NetKeeps layout meaning after ∥₁
  kept_received before after (Ok value) done same kept = kept_called ExitCall.receive refl before after done kept
  kept_received before after (Err error) done same kept =
      subst (λ (net : NetState). ∥ NetKeeps layout meaning net ∥₁) (sym same) kept

  -- said by the plan that the network has after a call
  module _ (same_plan : Plan W) (same : same_plan ≡ plan) where
    pub there_looked : l < length (layout_of same_plan).links
    there_looked = subst (λ (p : Plan W). l < length (layout_of p).links) (sym same) there

    pub own_looked : is_exit_of b (link_in (layout_of same_plan).links l) ≡ true
    own_looked = subst (λ (p : Plan W). is_exit_of b (link_in (layout_of p).links l) ≡ true) (sym same) own

    pub placed_looked : place ≡ exit_place (layout_of same_plan) l
    placed_looked = subst (λ (p : Plan W). place ≡ exit_place (layout_of p) l) (sym same) placed

  -- a look: a receive waits or none does, events happen, and no receive waits any more
  module _ (waits : Bool) (count : ℕ) (before asked settled : NetState) (kept : ∥ NetKeeps layout meaning before ∥₁)
      (asks : asked ≡ with_exit_in place (after_exit (ExitCall.ask waits)) before)
      (happened : Happened layout meaning count asked settled) where
    kept_asked : ∥ NetKeeps layout meaning asked ∥₁
    kept_asked = kept_called (ExitCall.ask waits) refl before asked asks kept

    pub kept_settled : ∥ NetKeeps layout meaning settled ∥₁
    kept_settled = kept_on layout meaning runs count asked settled happened kept_asked

    module _ (after : NetState) (rests : after ≡ with_exit_in place (after_exit (ExitCall.ask false)) settled) where
      at_first : exit_then asked ≡ after_exit (ExitCall.ask waits) (exit_then before)
      at_first = exit_called (ExitCall.ask waits) refl before asked asks kept

      at_last : exit_then after ≡ after_exit (ExitCall.ask false) (exit_then settled)
      at_last = exit_called (ExitCall.ask false) refl settled after rests kept_settled

      same_received : (exit_then after).received ≡ (exit_then before).received
      same_received =
          ap (λ (exit : ExitState). exit.received) at_last
          ∙ received_on layout meaning runs l there to count asked settled happened
          ∙ ap (λ (exit : ExitState). exit.received) at_first

      stays_over : (how : Outcome) → over_by (exit_then before) ≡ Some how → over_by (exit_then after) ≡ Some how
      stays_over how over =
          ap over_by at_last
          ∙ over_on layout meaning runs l there to how count asked settled happened kept_asked (ap over_by at_first ∙ over)

      module _ (same_plan : Plan W) (same : same_plan ≡ plan) where
        pub kept_looked : ∥ NetKeeps (layout_of same_plan) (works_of works (layout_of same_plan)) after ∥₁
        kept_looked =
            subst (λ (p : Plan W). ∥ NetKeeps (layout_of p) (works_of works (layout_of p)) after ∥₁) (sym same)
            (kept_called (ExitCall.ask false) refl settled after rests kept_settled)

        pub received_looked : (exit_at (layout_of same_plan) after l).received ≡ (exit_then before).received
        received_looked =
            subst (λ (p : Plan W). (exit_at (layout_of p) after l).received ≡ (exit_then before).received) (sym same)
            same_received

        pub over_looked : (how : Outcome) → over_by (exit_then before) ≡ Some how
            → over_by (exit_at (layout_of same_plan) after l) ≡ Some how
        over_looked how over =
            subst (λ (p : Plan W). over_by (exit_at (layout_of p) after l) ≡ Some how) (sym same) (stays_over how over)
