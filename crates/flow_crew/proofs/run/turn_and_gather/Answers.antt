use Rattle.std.proofs.Common.{All, length, ap, sym, refl, subst, ◌∙◌}
use Rattle.std.proofs.lemmas.List.Sorted.{All-permutation, length_permutation}
use Rattle.flow_net.specs.Asked.{none_asked}
use Rattle.flow_net.specs.Net.{parts_of}
use Rattle.flow_crew.proofs.Callers.{callers_kept, exits_many}
use Rattle.flow_crew.proofs.Once.{never_missing}
use Rattle.flow_task.specs.declared.board.Board.{Board}
use Rattle.flow_board.specs.Begun.{begun_in}
use Rattle.flow_board.specs.Gathers.{IsWhyNot}
use Rattle.flow_crew.specs.Runs.{IsUncalled}
use Rattle.flow_crew.proofs.RunsOn.{still_untouched}
use Rattle.flow_crew.proofs.run.turn_and_gather.Goals as goal

pub returns-in-Some-clause-gathered : goal.returns-in-Some-clause-gathered
returns-in-Some-clause-gathered g c =
    let gathered = c.in-Ok.ensures in
    record {
      same_layout = gathered.same_layout;
      inputs_stay = gathered.inputs_stay c.requires.parts.untouched;
      journals = gathered.go_on;
      callers = callers_kept c.args.parts.board g.W.Runs.meaning (parts_of c.in-Ok.net) c.requires.parts.unasked c.args.parts.exits.items
          c.requires.parts.there.exits_are c.requires.parts.exits gathered.exits
          c.requires.parts.uncalled c.requires.parts.exit_count
          (exits_many g.W.Runs.meaning c.args.parts.board c.in-Ok.net c.in-Ok.net.kept gathered.same_layout);
    }

pub returns-in-None-clause-left : goal.returns-in-None-clause-left
returns-in-None-clause-left g c =
    let gathered = c.in-Ok.ensures in (
      record {
        same_layout = gathered.same_layout;
        inputs_stay = gathered.inputs_stay c.requires.parts.untouched;
        journals = gathered.go_on;
        callers = callers_kept c.args.parts.board g.W.Runs.meaning (parts_of c.in-Ok.net) c.requires.parts.unasked c.args.parts.exits.items
            c.requires.parts.there.exits_are c.requires.parts.exits gathered.exits
            c.requires.parts.uncalled c.requires.parts.exit_count
            (exits_many g.W.Runs.meaning c.args.parts.board c.in-Ok.net c.in-Ok.net.kept gathered.same_layout);
      },
      gathered.lawful,
    )

pub unreachable-requires : goal.unreachable-requires
unreachable-requires g c =
    let old = c.args.parts in
    let back = c.in-Err.parts in
    never_missing old.board old
    (record { board = old.board; tasks = c.turn_tasks-tasks.result.0; entries = old.entries; exits = old.exits }) back c.in-Missing.field-0 c.requires.parts.there refl c.turn_tasks-tasks.ensures.back.numbers refl refl
    c.in-Err.ensures.back (subst (IsWhyNot back) c.in-Missing.is c.in-Err.ensures.why)

pub returns-in-Memory-clause-left : goal.returns-in-Memory-clause-left
returns-in-Memory-clause-left g c =
    let refused = c.in-Err.ensures in
    let parts = c.in-Err.parts in
    let old = c.args.parts in (
      refused.back.board,
      record {
        tasks = refused.tasks_back;
        entries = refused.entries_back;
        exits = refused.exits_back;
        there = subst (IsWhyNot parts) c.in-Memory.is refused.why;
        untouched = still_untouched old.board old.entries.items parts refused.back.entries refused.back.board c.requires.parts.untouched;
        unasked = ap (λ (its : Board _). none_asked (begun_in its)) refused.back.board ∙ c.requires.parts.unasked;
        exit_count = ap (λ (its : Board _). length (begun_in its).exits) refused.back.board ∙ c.requires.parts.exit_count
            ∙ sym (length_permutation old.exits.items parts.exits.items refused.back.exits);
        uncalled = subst (λ (its : Board _). All (IsUncalled its) parts.exits.items) (sym refused.back.board)
            (All-permutation (IsUncalled old.board) old.exits.items parts.exits.items refused.back.exits c.requires.parts.uncalled);
      },
    )
