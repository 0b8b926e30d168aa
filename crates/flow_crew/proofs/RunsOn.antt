-- A network goes on, step by step.
use Rattle.std.proofs.Common.{◌≡◌, ℕ, true, All, List, length, map, ap, Result, Ok, Err, OnOk, OnErr, refl, sym, ◌∙◌, subst}
use Rattle.std.proofs.lemmas.List.{length-map}
use Rattle.std.specs.List.Sorted.{IsPermutation}
use Rattle.std.proofs.lemmas.List.Sorted.{All-permutation}
use Rattle.flow_value.specs.declared.value.Value.{Value}
use Rattle.flow_value.specs.declared.work.WorkFault.{WorkFault}
use Rattle.flow_link.specs.Layout.{Layout}
use Rattle.flow_lawful.specs.Lawful.{Lawful}
use Rattle.flow_core.specs.Events.{NetEvent}
use Rattle.flow_core.specs.Inputs.{InputsStay}
use Rattle.flow_core.specs.Keeps.{NetKeeps}
use Rattle.flow_core.specs.State.{NetState, callers_in}
use Rattle.flow_core.proofs.SchedulesGoWell.{callers_stay}
use Rattle.flow_exit.specs.Exit.{ExitState}
use Rattle.flow_core.proofs.InputsChange.{all_further, all_same}
use Rattle.flow_exec.specs.Works.{works_of}
use Rattle.flow_moves.proofs.MerelyKept.{lawful_merely}
use Rattle.flow_moves.proofs.PlansRun.{plan_runs}
use Rattle.flow_net.proofs.NoneAsked.{callers_on}
use Rattle.flow_net.specs.Asked.{none_asked}
use Rattle.flow_net.specs.Net.{NetGoesOn, layout_in, net_after, parts_of, run_of}
use Rattle.flow_net.specs.declared.net.Net.{Net}
use Rattle.flow_poll.proofs.EachGoes.{extends_itself}
use Rattle.flow_board.specs.Begun.{JournalsExtend, begun_in}
use Rattle.flow_board.specs.Parts.{AllEntriesOf, AllExitsOf, AllTasksOf, board_layout, exit_state}
use Rattle.flow_board.specs.Untouched.{AllUntouched, IsUntouched}
use Rattle.flow_task.specs.Absent.{AllThere}
use Rattle.flow_task.specs.declared.board.Board.{Board}
use Rattle.flow_task.specs.declared.numbered.Entry.{Entry}
use Rattle.flow_task.specs.declared.numbered.Parts.{Parts}
use Rattle.flow_board.proofs.EventsGrow.{event_grows, extends_on, happened_grows}
use Rattle.flow_crew.specs.Runs.{IsGatheredOf, IsLeft, IsLeftOf, IsScatteredOf, IsUncalled, MayBeGathered, RunsOn}
use Rattle.flow_crew.proofs.Callers.{all_uncalled}
use Rattle.flow_crew.specs.declared.run.RunFault.{RunFault}
use Rattle.flow_crew.specs.declared.run.RunFault.TheVariants as fault

-- one run after another
extends_by : {W : Type 0} (one other : Layout W) (old mid new : NetState) → other ≡ one → JournalsExtend one old mid → JournalsExtend other mid new
    → JournalsExtend one old new
extends_by {W} one other old mid new same first then =
    extends_on one old mid new first (subst (λ (layout : Layout W). JournalsExtend layout mid new) same then)

module _ {W : Type 0} {w : _} {e : _} where
  pub runs_itself : (net : Net W w e) → RunsOn net net
  runs_itself net = record {
    same_layout = refl;
    inputs_stay = all_same (parts_of net);
    journals = λ b low. extends_itself _;
    callers = refl;
  }

  pub runs_further : (old mid new : Net W w e) → RunsOn old mid → RunsOn mid new → RunsOn old new
  runs_further old mid new first then = record {
    same_layout = then.same_layout ∙ first.same_layout;
    inputs_stay = all_further (parts_of old) (parts_of mid) (parts_of new) first.inputs_stay then.inputs_stay;
    journals = extends_by (layout_in old) (layout_in mid) (parts_of old) (parts_of mid) (parts_of new) first.same_layout first.journals
        then.journals;
    callers = then.callers ∙ first.callers;
  }

  pub runs_over : (old : Net W w e) (board : Board W) (new : Net W w e) → IsScatteredOf old board → IsGatheredOf board new → RunsOn old new
  runs_over old board new first then = record {
    same_layout = then.same_layout ∙ first.same_layout;
    inputs_stay = all_further (parts_of old) (begun_in board) (parts_of new) first.inputs_stay then.inputs_stay;
    journals = extends_by (layout_in old) (board_layout board) (parts_of old) (begun_in board) (parts_of new) first.same_layout first.journals then.journals;
    callers = then.callers ∙ first.callers;
  }

  -- parts of one board, and such as come back in another order
  pub may_gather : (board : Board W) (parts : Parts W w e) → parts.board ≡ board → AllTasksOf board parts.tasks.items
      → AllEntriesOf board parts.entries.items → AllExitsOf board parts.exits.items
      → AllThere board parts.tasks.items parts.entries.items parts.exits.items → AllUntouched board parts.entries.items
      → none_asked (begun_in board) ≡ true → map exit_state parts.exits.items ≡ (begun_in board).exits → MayBeGathered parts
  may_gather board parts is tasks entries exits there untouched unasked received = record {
    tasks = subst (λ (its : Board W). AllTasksOf its parts.tasks.items) (sym is) tasks;
    entries = subst (λ (its : Board W). AllEntriesOf its parts.entries.items) (sym is) entries;
    exits = subst (λ (its : Board W). AllExitsOf its parts.exits.items) (sym is) exits;
    there = subst (λ (its : Board W). AllThere its parts.tasks.items parts.entries.items parts.exits.items) (sym is) there;
    untouched = subst (λ (its : Board W). AllUntouched its parts.entries.items) (sym is) untouched;
    unasked = subst (λ (its : Board W). none_asked (begun_in its) ≡ true) (sym is) unasked;
    exit_count =
        ap (λ (its : Board W). length (begun_in its).exits) is ∙ sym (ap (λ (states : List ExitState). length states) received)
        ∙ length-map parts.exits.items exit_state;
    uncalled = subst (λ (its : Board W). All (IsUncalled its) parts.exits.items) (sym is)
        (all_uncalled board parts.exits.items there.exits_are exits received);
  }

  pub still_untouched : (board : Board W) (old : List (Entry W w e)) (parts : Parts W w e) → IsPermutation old parts.entries.items
      → parts.board ≡ board → AllUntouched board old → AllUntouched parts.board parts.entries.items
  still_untouched board old parts same is untouched =
      subst (λ (its : Board W). AllUntouched its parts.entries.items) (sym is)
      (All-permutation (IsUntouched board) old parts.entries.items same untouched)

  scatters_further : (old mid : Net W w e) (board : Board W) → RunsOn old mid → IsScatteredOf mid board → IsScatteredOf old board
  scatters_further old mid board first then = record {
    same_layout = then.same_layout ∙ first.same_layout;
    inputs_stay = all_further (parts_of old) (parts_of mid) (begun_in board) first.inputs_stay then.inputs_stay;
    journals = extends_by (layout_in old) (layout_in mid) (parts_of old) (parts_of mid) (begun_in board) first.same_layout first.journals
        then.journals;
    callers = then.callers ∙ first.callers;
  }

module _ {W : Type 0} {w : _} {e : _} (meaning : W → Value → Result (List Value) WorkFault) where
  -- the owner has done some events
  pub runs_settled : (limit : ℕ) (old new : Net W w e) → layout_in new ≡ layout_in old → InputsStay (parts_of old) (parts_of new)
      → NetGoesOn meaning limit old new → RunsOn old new
  runs_settled limit old new same stay goes = record {
    same_layout = same;
    inputs_stay = stay;
    journals = λ b low.
        happened_grows (layout_in old) (works_of meaning (layout_in old)) b goes.count (parts_of old) (parts_of new) goes.happened;
    callers = callers_on (layout_in old) (works_of meaning (layout_in old)) goes.count (parts_of old) (parts_of new) goes.happened;
  }

  -- or one, or none
  pub runs_by : {A E : Type 0} (event : NetEvent) (result : Result A E) (old new : Net W w e) → layout_in new ≡ layout_in old
      → InputsStay (parts_of old) (parts_of new) → OnOk result (parts_of new ≡ net_after meaning old event)
      → OnErr result (parts_of new ≡ parts_of old) → RunsOn old new
  runs_by event result old new same stay moved kept = record {
    same_layout = same;
    inputs_stay = stay;
    journals = by_result result moved kept;
    callers = same_callers result moved kept;
  }
    where
      same_callers : {A E : Type 0} (result : Result A E) → OnOk result (parts_of new ≡ net_after meaning old event)
          → OnErr result (parts_of new ≡ parts_of old) → callers_in (parts_of new) ≡ callers_in (parts_of old)
      same_callers (Ok a) moved kept =
          ap callers_in moved ∙ callers_stay (layout_in old) (works_of meaning (layout_in old)) event (parts_of old)
      same_callers (Err f) moved kept = ap callers_in kept

      goes : (state : NetState) → parts_of new ≡ state → JournalsExtend (layout_in old) (parts_of old) state
          → JournalsExtend (layout_in old) (parts_of old) (parts_of new)
      goes state is so = subst (JournalsExtend (layout_in old) (parts_of old)) (sym is) so

      by_result : {A E : Type 0} (result : Result A E) → OnOk result (parts_of new ≡ net_after meaning old event)
          → OnErr result (parts_of new ≡ parts_of old) → JournalsExtend (layout_in old) (parts_of old) (parts_of new)
      by_result (Ok a) moved kept =
          goes (net_after meaning old event) moved (λ b low. event_grows (layout_in old) (works_of meaning (layout_in old)) b (parts_of old) event)
      by_result (Err f) moved kept = goes (parts_of old) kept (λ b low. extends_itself _)

  -- what there is of it where it could not go on
  pub left_further : (old mid : Net W w e) (found : RunFault W w e) → RunsOn old mid → IsLeft meaning mid found → IsLeft meaning old found
  left_further old mid (fault.Ids net) first then = (runs_further old mid net first then.0, then.1)
  left_further old mid (fault.Net net) first then = (runs_further old mid net first then.0, then.1)
  left_further old mid (fault.Parts parts) first then = (scatters_further old mid parts.board first then.0, then.1)

  pub left_over : (old : Net W w e) (board : Board W) (found : RunFault W w e) → IsScatteredOf old board → IsLeftOf meaning board found
      → IsLeft meaning old found
  left_over old board (fault.Ids net) first then = absurd then
  left_over old board (fault.Net net) first then = (runs_over old board net first then.0, then.1)
  left_over old board (fault.Parts parts) first then = (subst (IsScatteredOf old) (sym then.0) first, then.1)

  -- a network is lawful, whatever was done
  pub net_is_lawful : (net : Net W w e) → ∥ NetKeeps (layout_in net) (works_of meaning (layout_in net)) (parts_of net) ∥₁
      → Lawful (run_of meaning net)
  net_is_lawful net kept = lawful_merely (layout_in net) (works_of meaning (layout_in net)) (parts_of net) kept (plan_runs net.engine.plan)
