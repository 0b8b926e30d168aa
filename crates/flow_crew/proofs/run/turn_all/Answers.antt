use Rattle.std.proofs.Common.{Vec, ap, map, sym, subst, ◌∙◌}
use Rattle.flow_board.specs.Parts.{AllEntriesOf, AllExitsOf, AllTasksOf, exit_state}
use Rattle.flow_task.specs.Absent.{AllThere}
use Rattle.flow_board.specs.Untouched.{AllUntouched}
use Rattle.flow_task.specs.declared.board.Board.{Board}
use Rattle.flow_net.specs.Net.{layout_in, parts_of}
use Rattle.flow_net.proofs.NoneAsked.{unasked_then}
use Rattle.flow_board.specs.Begun.{begun_in}
use Rattle.flow_board.proofs.EventsGrow.{back_callers, home_callers}
use Rattle.flow_crew.specs.Runs.{IsScatteredOf}
use Rattle.flow_crew.proofs.ComesBack.{if_err, if_ok}
use Rattle.flow_crew.proofs.RunsOn.{left_over, may_gather, runs_over}
use Rattle.flow_crew.proofs.run.turn_all.Goals as goal

pub turn_and_gather-requires-clause-parts : goal.turn_and_gather-requires-clause-parts
turn_and_gather-requires-clause-parts g c κs within =
    let board = c.in-Ok.scattered.board in
    let parts = c.into_parts-parts.result.0 in
    let is = c.into_parts-parts.ensures in
    may_gather board parts is.board
    (subst (λ (tasks : Vec _ _). AllTasksOf board tasks.items) (sym is.tasks) c.in-Ok.ensures.tasks_of)
    (subst (λ (entries : Vec _ _). AllEntriesOf board entries.items) (sym is.entries) c.in-Ok.ensures.entries_of)
    (subst (λ (exits : Vec _ _). AllExitsOf board exits.items) (sym is.exits) c.in-Ok.ensures.exits_of)
    (subst (λ (exits : Vec _ _). AllThere board parts.tasks.items parts.entries.items exits.items) (sym is.exits)
    (subst (λ (entries : Vec _ _). AllThere board parts.tasks.items entries.items c.in-Ok.scattered.exits.items) (sym is.entries)
    (subst (λ (tasks : Vec _ _). AllThere board tasks.items c.in-Ok.scattered.entries.items c.in-Ok.scattered.exits.items) (sym is.tasks)
    c.in-Ok.ensures.there)))
    (subst (λ (entries : Vec _ _). AllUntouched board entries.items) (sym is.entries) c.in-Ok.ensures.untouched)
    (unasked_then (parts_of c.args.net) (begun_in board)
    (home_callers (layout_in c.args.net) g.W.Runs.meaning (parts_of c.args.net) (begun_in board) c.in-Ok.ensures.goes_on) c.args.net.unasked)
    (ap (λ (exits : Vec _ _). map exit_state exits.items) is.exits ∙ c.in-Ok.ensures.received)

pub returns-in-Ok-clause-runs_on : goal.returns-in-Ok-clause-runs_on
returns-in-Ok-clause-runs_on g c =
    let scattered = c.in-Ok.ensures in
    let from : IsScatteredOf c.args.net c.in-Ok.scattered.board =
    record { same_layout = scattered.same_layout; inputs_stay = scattered.posted; journals = scattered.extends; callers = home_callers (layout_in c.args.net) g.W.Runs.meaning (parts_of c.args.net) (begun_in c.in-Ok.scattered.board) scattered.goes_on } in
    let board = c.into_parts-parts.result.0.board in
    let begun = subst (λ (its : Board _). IsScatteredOf c.args.net its) (sym c.into_parts-parts.ensures.board) from in
    if_ok _ _ (λ ran is. runs_over c.args.net board ran.0 begun is) c.turn_and_gather.result c.turn_and_gather.ensures.gathered

pub returns-in-Ok-clause-left : goal.returns-in-Ok-clause-left
returns-in-Ok-clause-left g c =
    let scattered = c.in-Ok.ensures in
    let from : IsScatteredOf c.args.net c.in-Ok.scattered.board =
    record { same_layout = scattered.same_layout; inputs_stay = scattered.posted; journals = scattered.extends; callers = home_callers (layout_in c.args.net) g.W.Runs.meaning (parts_of c.args.net) (begun_in c.in-Ok.scattered.board) scattered.goes_on } in
    let board = c.into_parts-parts.result.0.board in
    let begun = subst (λ (its : Board _). IsScatteredOf c.args.net its) (sym c.into_parts-parts.ensures.board) from in
    if_err _ _ (λ fault is. left_over g.W.Runs.meaning c.args.net board fault begun is) c.turn_and_gather.result c.turn_and_gather.ensures.left

pub returns-in-Err-clause-left : goal.returns-in-Err-clause-left
returns-in-Err-clause-left g c =
    let refused = c.in-Err.ensures in (
      record {
        same_layout = refused.back;
        inputs_stay = refused.inputs_stay;
        journals = refused.extends_back;
        callers = back_callers (layout_in c.args.net) g.W.Runs.meaning (parts_of c.args.net) (parts_of c.in-Err.net) refused.come_back;
      },
      refused.lawful,
    )
