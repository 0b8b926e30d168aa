-- Whatever events are asked for, in whatever order, the run so far is lawful, and quiet where nothing may happen.
use Rattle.std.proofs.Common.{◌≡◌, ◌≢◌, ℕ, Bool, true, false, List, [], ◌∷◌, ⊎_elim, length, count_by, Option, Some, None, Result, Err, refl, sym, subst, ◌∙◌}
use Rattle.std.proofs.Math.Seq.{map-set_same}
use Rattle.flow_value.specs.declared.value.Value.{Value}
use Rattle.flow_link.specs.declared.phase.Move.{Move}
use Rattle.flow_link.specs.declared.phase.Move.TheVariants as move
use Rattle.flow_link.specs.declared.phase.Phase.{Phase}
use Rattle.flow_link.specs.declared.plan.Link.{Link}
use Rattle.flow_link.specs.declared.plan.LinkSource.{LinkSource}
use Rattle.flow_link.specs.declared.plan.LinkSource.TheVariants.{Block, Input}
use Rattle.flow_link.specs.declared.plan.LinkTarget.{LinkTarget}
use Rattle.flow_link.specs.declared.plan.LinkTarget.TheVariants.{Port, Exit}
use Rattle.flow_link.specs.Layout.{Layout}
use Rattle.flow_link.specs.Phase.{phase_after}
use Rattle.flow_link.specs.Plan.{link_in}
use Rattle.flow_link.specs.Posted.{ends_by_number}
use Rattle.flow_link.specs.Lists.{every}
use Rattle.flow_link.specs.Trace.{InputTrace}
use Rattle.flow_block.specs.Planned.{exit_place}
use Rattle.flow_exit.specs.Exit.{ExitState, ExitCall, caller_of, fresh_exit, exit_call, exit_after}
use Rattle.flow_core.specs.Events.{NetEvent, after, after_move, moved_by, source_moves, target_moves, source_sees, target_sees, with_line, line_after, with_exit, is_of_source}
use Rattle.flow_core.specs.Keeps.{IsRun, NetKeeps}
use Rattle.flow_core.specs.State.{NetState, line_at, exit_at, callers_in, fresh_net}
use Rattle.flow_core.specs.Statements.{EventsKeep, FreshKeeps, KeptIsLawful, KeptIsHeld, StillIsQuiet, SchedulesGoWell, OfEachNet, Goes, Answers}
use Rattle.flow_core.proofs.InputsChange.{fresh_none_posted, posted_lists_stay, same_where_none_posted}

-- what callers of exits have stays
same_caller : (slot : Option Value) (next : Move) (exit : ExitState) → caller_of (exit_after (exit_call slot next) exit) ≡ caller_of exit
same_caller slot move.Want exit = refl
same_caller slot move.TurnDown exit = refl
same_caller slot move.Postpone exit = refl
same_caller slot move.Consume exit = refl
same_caller None move.Open exit = refl
same_caller (Some value) move.Open exit = refl
same_caller slot move.Close exit = refl
same_caller slot _ exit = refl

abbrev pub Stays : (NetState → NetState) → Type 0
Stays change = (net : NetState) → callers_in (change net) ≡ callers_in net

module _ {W : Type 0} (layout : Layout W) (meaning : ℕ → Value → Result (List Value) ℕ) where
  exit_stays : (l : ℕ) (change : ExitState → ExitState) → ((exit : ExitState) → caller_of (change exit) ≡ caller_of exit)
      → Stays (with_exit layout l change)
  exit_stays l change same net = map-set_same caller_of net.exits (exit_place layout l) _ fresh_exit (same (exit_at layout net l))

  source_stays : (l : ℕ) (next : Move) (source : LinkSource) → Stays (source_moves layout meaning l next source)
  source_stays l next (Block s) net = refl
  source_stays l next (Input b) net = refl

  look_stays : (l : ℕ) (phase : Phase) (source : LinkSource) → Stays (source_sees layout meaning l phase source)
  look_stays l phase (Block s) net = refl
  look_stays l phase (Input b) net = refl

  target_stays : (l : ℕ) (next : Move) (target : LinkTarget) → Stays (target_moves layout meaning l next target)
  target_stays l next (Port t p) net = refl
  target_stays l next Exit net =
      let slot = (line_at net l).slot in
      exit_stays l (exit_after (exit_call slot next)) (same_caller slot next) net

  sight_stays : (l : ℕ) (phase : Phase) (target : LinkTarget) → Stays (target_sees layout meaning l phase target)
  sight_stays l phase (Port t p) net = refl
  sight_stays l phase Exit net = exit_stays l (exit_after (Some (ExitCall.look phase))) (λ exit. refl) net

  moved_stays : (b : Bool) (l : ℕ) (next : Move) (phase : Phase) (link : Link)
      → Stays (moved_by layout meaning b l next phase link)
  moved_stays true l next phase link net =
      let line = line_after layout meaning l next phase link.source net in
      sight_stays l phase link.target (with_line l line (source_moves layout meaning l next link.source net))
      ∙ source_stays l next link.source net
  moved_stays false l next phase link net =
      let line = line_after layout meaning l next phase link.source net in
      look_stays l phase link.source (with_line l line (target_moves layout meaning l next link.target net))
      ∙ target_stays l next link.target net

  move_stays : (l : ℕ) (next : Move) (phase : Option Phase) → Stays (after_move layout meaning l next phase)
  move_stays l next None net = refl
  move_stays l next (Some phase) net = moved_stays (is_of_source next) l next phase (link_in layout.links l) net

  pub callers_stay : (event : NetEvent) → Stays (after layout meaning event)
  callers_stay (NetEvent.at_link l next) net = move_stays l next (phase_after (line_at net l).phase next) net
  callers_stay (NetEvent.make b) net = refl
  callers_stay (NetEvent.begin b) net = refl
  callers_stay (NetEvent.end_job b ticket) net = refl
  callers_stay (NetEvent.complete b p) net = refl
  callers_stay (NetEvent.fault b) net = refl
  callers_stay (NetEvent.finish b) net = refl

  -- what holds after a list of events
  record Comes (start now : NetState) : Type 0 where
    keeps : NetKeeps layout meaning now
    same : callers_in now ≡ callers_in start

  module _ (events_keep : EventsKeep W) (runs : IsRun layout) where
    one_event : (event : NetEvent) (old new : NetState) → NetKeeps layout meaning old
        → Answers layout meaning event old new → Comes old new
    one_event event old new keeps answer = ⊎_elim
        (λ happens. subst (Comes old) (sym happens.new_is)
        (record { keeps = events_keep layout meaning runs old event keeps happens.may; same = callers_stay event old }))
        (λ passed. subst (Comes old) (sym passed.same) (record { keeps = keeps; same = refl }))
        answer

    all_events : (events : List NetEvent) (old new : NetState) → NetKeeps layout meaning old
        → Goes layout meaning events old new → Comes old new
    all_events [] old new keeps goes = subst (Comes old) (sym goes) (record { keeps = keeps; same = refl })
    all_events (event ∷ events) old new keeps goes =
        let first = one_event event old goes.0 keeps goes.1.0 in
        let rest = all_events events goes.0 new first.keeps goes.1.1 in
        record { keeps = rest.keeps; same = rest.same ∙ first.same }

-- a network that came from its start by any list of events is in order
abbrev pub KeptBySchedule : Type 0 → Type 0
KeptBySchedule W = OfEachNet W λ layout meaning.
    ((b : ℕ) (value : Value) → meaning b value ≢ Err 0)
    → (posted : List InputTrace) (events : List NetEvent) (now : NetState) → length posted ≡ count_by (λ block. block.input) layout.blocks
    → every ends_by_number posted ≡ true
    → Goes layout meaning events (fresh_net layout posted) now → NetKeeps layout meaning now

pub kept_by_schedule : {W : Type 0} → EventsKeep W → FreshKeeps W → KeptBySchedule W
kept_by_schedule keep fresh layout meaning runs never posted events now count numbered goes =
    (all_events layout meaning keep runs events (fresh_net layout posted) now (fresh layout meaning runs never posted count numbered) goes).keeps

pub schedules_go_well : {W : Type 0} → EventsKeep W → FreshKeeps W → KeptIsLawful W → KeptIsHeld W → StillIsQuiet W → SchedulesGoWell W
schedules_go_well keep fresh lawful held quiet layout meaning runs never posted events now count numbered goes =
    let start = fresh_net layout posted in
    let comes = all_events layout meaning keep runs events start now (fresh layout meaning runs never posted count numbered) goes in
    record {
      lawful = lawful layout meaning runs now comes.keeps;
      links = comes.keeps.lines;
      same_inputs = same_where_none_posted start now (posted_lists_stay layout meaning events start now goes) (fresh_none_posted posted);
      same_callers = comes.same;
      kept = held layout meaning runs now comes.keeps;
      quiet = λ still. quiet layout meaning runs now comes.keeps still;
    }
