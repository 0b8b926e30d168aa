use Rattle.std.proofs.Common.{◌≡◌, ℕ, ◌+◌, All, List, [], length, map, drop, slice_index_or, take, get_or, refl, sym, ap, ◌∙◌, subst, arith}
use Rattle.std.proofs.Math.Logic.{∥∥₁_map}
use Rattle.std.proofs.Math.ListN.{get_or-map}
use Rattle.std.proofs.lemmas.List.{length-map}
use Rattle.flow_link.specs.Lists.{below, numbers_from}
use Rattle.flow_link.specs.Layout.{Layout}
use Rattle.flow_link.specs.Planned.{layout_of}
use Rattle.flow_link.specs.declared.trace.Mark.{Mark}
use Rattle.flow_block.specs.Node.{NodeState}
use Rattle.flow_block.specs.Planned.{exit_place, links_out}
use Rattle.flow_core.proofs.AllLook.{looks_leave_posted}
use Rattle.flow_core.proofs.InputsChange.{all_further}
use Rattle.flow_core.specs.Inputs.{InputsStay, input_of}
use Rattle.flow_core.specs.Keeps.{NetKeeps}
use Rattle.flow_core.specs.State.{NetState, no_node}
use Rattle.flow_exec.specs.Works.{works_of}
use Rattle.flow_exit.specs.Exit.{ExitState, caller_of}
use Rattle.flow_input.proofs.PostedKept.{posted_is_kept}
use Rattle.flow_input.specs.Input.{no_input}
use Rattle.flow_net.specs.Asked.{none_wait}
use Rattle.flow_net.specs.Net.{parts_of}
use Rattle.flow_poll.specs.Turns.{Extends}
use Rattle.flow_task.specs.Begun.{begun_in, begun_journal}
use Rattle.flow_task.specs.Events.{HasLooked, InputLooks}
use Rattle.flow_task.specs.Inputs.{input_due, links_of_inputs}
use Rattle.flow_task.specs.Lanes.{lane_count}
use Rattle.flow_task.specs.Lefts.{EntryIsAt, TicketsAreOut}
use Rattle.flow_task.specs.Numbers.{closed_before, task_count}
use Rattle.flow_task.specs.Parts.{AllTasksOf, exit_link, marks_in, task_number}
use Rattle.flow_task.specs.Untouched.{AllUntouched}
use Rattle.flow_task.specs.declared.numbered.Entry.{Entry}
use Rattle.flow_task.specs.declared.numbered.Task.{Task}
use Rattle.flow_board.proofs.AllLooked.{input_looked}
use Rattle.flow_board.proofs.AskedNoMore.{asked_no_more, due_as_before, laws_stay, none_waits, there}
use Rattle.flow_task.proofs.InputsStayed.{all_stay, closed_stay, looked_stays}
use Rattle.flow_board.proofs.JobsLooked.{tickets_looked}
use Rattle.flow_board.proofs.JournalsBegin.{journals_begin}
use Rattle.flow_task.proofs.Makes.{numbers_behind, tasks_behind}
use Rattle.flow_board.proofs.PartsKept.{entry_kept, exit_kept}
use Rattle.flow_task.proofs.Reordered.{each_entry, each_exit}
use Rattle.flow_board.proofs.gathering.Apart.fill.Goals as goal

pub take-requires-2-clause-of : goal.take-requires-2-clause-of
take-requires-2-clause-of g c =
    let board = c.args.parts.board in
    let blocks = length (layout_of board.rest.plan).blocks in
    let left = c.take.ensures.others ∙ ap (drop blocks) c.from_vec-tasks.ensures.items in
    subst (AllTasksOf board) (sym left) (tasks_behind board blocks c.args.parts.tasks.items c.requires.tasks_of)

pub take-requires-2-clause-numbers : goal.take-requires-2-clause-numbers
take-requires-2-clause-numbers g c =
    let board = c.args.parts.board in
    let blocks = length (layout_of board.rest.plan).blocks in
    let closed = closed_before (layout_of board.rest.plan) board.opens.items (length board.opens.items) in
    let behind = closed + lane_count (layout_of board.rest.plan) in
    let left = c.take.ensures.others ∙ ap (drop blocks) c.from_vec-tasks.ensures.items in
    let first : 0 + blocks ≡ blocks = omega arith in
    let all : task_count (layout_of board.rest.plan) board.opens.items ≡ blocks + behind = omega arith in
    ap (map task_number) left
    ∙ numbers_behind task_number 0 blocks behind c.args.parts.tasks.items (c.requires.there.tasks_are ∙ ap below all)
    ∙ ap (λ (n : ℕ). numbers_from n behind) first

pub put_together-requires : goal.put_together-requires
put_together-requires g c κs within =
    let board = c.args.parts.board in
    let layout = layout_of board.rest.plan in
    let wires = board.wires.items in
    let told = board.told ∙ ap length board.inputs_are in
    let inputs = c.take-2.new.self.inputs.items in
    let taken = c.take-3.new.self.exits.items in
    let exits = c.ask_no_more.new.exits.items in (
      within,
      (
        ap (λ (all : List ExitState). none_wait (map caller_of all)) c.ask_no_more.ensures ∙ none_waits taken,
        (
          refl,
          (
            refl,
            (
              refl,
              (
                record {
                  node_count = c.take.ensures.count;
                  nodes_law = c.take.ensures.laws;
                  input_count = c.take-2.ensures.count ∙ told;
                  inputs_law = λ q small. c.take-2.ensures.laws q (omega (arith, small, told));
                  exit_count = ap length c.ask_no_more.ensures ∙ length-map taken asked_no_more ∙ c.take-3.ensures.count;
                  exits_law = λ k small. laws_stay taken exits c.ask_no_more.ensures k (c.take-3.ensures.laws k small);
                },
                (
                  c.take.ensures.outs,
                  (
                    c.take.ensures.ins,
                    (
                      c.take-2.ensures.ends
                          ∙ ap (λ (n : ℕ). map (λ q. input_due layout wires (get_or (links_of_inputs layout) q 0) (get_or inputs q no_input)) (below n)) told,
                      c.take-3.ensures.ends ∙ due_as_before taken exits c.ask_no_more.ensures board (length (links_out layout)),
                    ),
                  ),
                ),
              ),
            ),
          ),
        ),
      ),
    )

pub returns-clause-go_on : goal.returns-clause-go_on
returns-clause-go_on g c = λ b small.
    let board = c.args.parts.board in
    let layout = layout_of board.rest.plan in
    let blocks = length layout.blocks in
    let tasks = c.args.parts.tasks.items in
    let net = parts_of c.put_together.result in
    let same = c.put_together.ensures.journals ∙ c.take.ensures.journals
    ∙ ap (λ (all : List _). map marks_in (take blocks all)) c.from_vec-tasks.ensures.items in
    let here = sym (get_or-map (λ (node : NodeState). node.journal) net.nodes b no_node)
    ∙ ap (λ (journals : List (List Mark)). get_or journals b []) same in
    let all = task_count layout board.opens.items in
    let none : 0 + b ≡ b = omega arith in
    subst (Extends (begun_journal board b)) (sym here)
    (subst (λ (k : ℕ). Extends (begun_journal board k) (get_or (map marks_in (take blocks tasks)) b [])) none
    (journals_begin board tasks blocks all 0 b c.requires.tasks_of c.requires.there.tasks_are small (omega (arith, small)) (omega (arith, small))))

pub returns-clause-posted : goal.returns-clause-posted
returns-clause-posted g c =
    let board = c.args.parts.board in
    let layout = layout_of board.rest.plan in
    let inputs = c.take-2.new.self.inputs.items in
    let net = parts_of c.put_together.result in
    let looked = c.put_together.ensures.looked in
    let start : NetState = record {
      nodes = c.take.new.self.nodes.items;
      inputs = inputs;
      exits = c.ask_no_more.new.exits.items;
      lines = looked.0;
    } in
    closed_stay board net (λ q low shut.
    ∥∥₁_map (c.take-2.ensures.posted q low (λ opened. absurd (let both = sym shut ∙ opened in cc))) (λ stays.
    posted_is_kept.further (input_of (begun_in board) q) (input_of start q) (input_of net q) stays
    (looked_stays (input_of start q) (input_of net q)
    (subst (λ (state : NetState). HasLooked InputLooks (input_of start q) (input_of state q)) (sym looked.1)
    (input_looked layout (works_of g.W.Runs.meaning layout) (length layout.links) start q)))))

pub returns-clause-inputs_stay : goal.returns-clause-inputs_stay
returns-clause-inputs_stay g c = λ untouched.
    let board = c.args.parts.board in
    let layout = layout_of board.rest.plan in
    let looked = c.put_together.ensures.looked in
    let start : NetState = record {
      nodes = c.take.new.self.nodes.items;
      inputs = c.take-2.new.self.inputs.items;
      exits = c.ask_no_more.new.exits.items;
      lines = looked.0;
    } in
    let all = subst (AllUntouched board) (sym c.from_vec-entries.ensures.items) untouched in
    all_further (begun_in board) start (parts_of c.put_together.result)
    (all_stay board start c.take-2.ensures.count (λ q low. c.take-2.ensures.posted q low (λ opened. all)))
    (subst (InputsStay start) (sym looked.1) (looks_leave_posted _ layout (works_of g.W.Runs.meaning layout) (length layout.links) start))

pub returns-clause-entries : goal.returns-clause-entries
returns-clause-entries g c =
    let board = c.args.parts.board in
    let net = c.put_together.result in
    let entries = c.args.parts.entries.items in
    let kept = subst (λ (lay : Layout _). ∥ NetKeeps lay (works_of g.W.Runs.meaning lay) (parts_of net) ∥₁) c.put_together.ensures.same_layout net.kept in
    let mid : NetState = record {
      nodes = c.take.new.self.nodes.items;
      inputs = c.take-2.new.self.inputs.items;
      exits = c.ask_no_more.new.exits.items;
      lines = board.rest.lines.items;
    } in
    let at = subst (λ (all : List (Entry _ _ _)). All (λ entry. EntryIsAt board mid.inputs entry) all) c.from_vec-entries.ensures.items
    c.take-2.ensures.entries in
    λ k d low.
    let entry = slice_index_or entries k d in
    entry_kept g.W.Runs.meaning board (parts_of net) mid kept c.put_together.ensures.looked entry
    (each_entry board entries c.requires.entries_of k d low) (at k d low)

pub returns-clause-exits : goal.returns-clause-exits
returns-clause-exits g c =
    let board = c.args.parts.board in
    let net = c.put_together.result in
    let exits = c.args.parts.exits.items in
    let kept = subst (λ (lay : Layout _). ∥ NetKeeps lay (works_of g.W.Runs.meaning lay) (parts_of net) ∥₁) c.put_together.ensures.same_layout net.kept in
    let mid : NetState = record {
      nodes = c.take.new.self.nodes.items;
      inputs = c.take-2.new.self.inputs.items;
      exits = c.ask_no_more.new.exits.items;
      lines = board.rest.lines.items;
    } in
    λ k d low.
    let exit = slice_index_or exits k d in
    exit_kept g.W.Runs.meaning board (parts_of net) mid kept c.put_together.ensures.looked exit
    (each_exit board exits c.requires.exits_of k d low)
    (there c.take-3.new.self.exits.items mid.exits c.ask_no_more.ensures (exit_place (layout_of board.rest.plan) (exit_link exit))
    ∙ ap asked_no_more (c.take-3.ensures.exits k d low))

pub returns-clause-out : goal.returns-clause-out
returns-clause-out g c =
    let board = c.args.parts.board in
    let tasks = c.args.parts.tasks.items in
    let mid : NetState = record {
      nodes = c.take.new.self.nodes.items;
      inputs = c.take-2.new.self.inputs.items;
      exits = c.ask_no_more.new.exits.items;
      lines = board.rest.lines.items;
    } in
    let out = subst (λ (all : List (Task _ _ _)). All (λ task. TicketsAreOut mid.nodes task) all) c.from_vec-tasks.ensures.items
    c.take.ensures.out in
    λ k d low.
    tickets_looked g.W.Runs.meaning (layout_of board.rest.plan) mid (parts_of c.put_together.result) c.put_together.ensures.looked
    (slice_index_or tasks k d) (out k d low)
