-- Which numbers the parts of a board have.
use Rattle.std.proofs.Common.{◌≡◌, ℕ, ◌+◌, ◌<◌, ◌≤◌, leb, ltb, ◌==◌, Bool, true, length, filter, subst, ap, ◌∙◌, arith}
use Rattle.std.proofs.lemmas.Bool.{and_parts, eqb-true, ltb-true}
use Rattle.std.proofs.lemmas.List.Sums.{length-filter, count_by-le-length}
use Rattle.flow_link.specs.Lists.{below}
use Rattle.flow_link.proofs.ListTests.{length_numbers}
use Rattle.flow_link.proofs.PlacesOfNumbers.{place_below}
use Rattle.flow_link.proofs.PortsAreFew.{few_links}
use Rattle.flow_link.specs.Planned.{layout_of}
use Rattle.flow_block.specs.Planned.{exit_place, leads_out, links_out}
use Rattle.flow_task.specs.Inputs.{begins_at_input}
use Rattle.flow_task.specs.Numbers.{closed_before, entry_count, is_closed, is_entry_number, is_exit_number, is_input_number, is_lane_number, is_open, open_before, place_in, task_count, turned_count}
use Rattle.flow_task.specs.Kinds.{is_task_number}
use Rattle.flow_task.specs.Parts.{board_by}
use Rattle.flow_task.specs.declared.board.Board.{Board}
use Rattle.flow_task.specs.declared.numbered.Entry.{Entry}
use Rattle.flow_task.specs.declared.numbered.Exit.{Exit}
use Rattle.flow_task.specs.declared.numbered.Kind.{Kind}
use Rattle.flow_task.specs.declared.numbered.Kind.TheVariants as kind
use Rattle.flow_task.proofs.InputsApart.{closed_left, open_left}
use Rattle.flow_task.proofs.LanesAreFew.{lanes_few}

few_pass : (test : ℕ → Bool) (n : ℕ) → length (filter test (below n)) ≤ n
few_pass test n =
    let counted = length-filter test (below n) in
    let few = count_by-le-length test (below n) in
    let many = length_numbers 0 n in
    omega (arith, counted, few, many)

module _ {W : Type 0} (board : Board W) where
  abbrev pub tasks_end : ℕ
  tasks_end = task_count (layout_of board.rest.plan) board.opens.items

  abbrev pub entries_end : ℕ
  entries_end = tasks_end + entry_count (layout_of board.rest.plan) board.opens.items

  abbrev pub exits_end : ℕ
  exits_end = entries_end + length (links_out (layout_of board.rest.plan))

  -- a plan has few blocks and links, so there are few parts
  pub few_parts : exits_end ≤ 8960
  few_parts =
      let layout = layout_of board.rest.plan in
      let many = length layout.links in
      let few = few_links board.rest.plan.blocks.items board.rest.plan.links.items board.rest.plan.well_formed board.rest.plan.laid_out in
      let few_blocks = board.rest.plan.well_formed.few_blocks in
      let lanes = lanes_few layout board.rest.plan.well_formed in
      let opens = length board.opens.items in
      let inputs = board.told ∙ ap length board.inputs_are in
      let few_inputs = few_pass (begins_at_input layout) many in
      let few_closed = few_pass (is_closed layout board.opens.items) opens in
      let few_open = few_pass (is_open layout board.opens.items) opens in
      let few_out = few_pass (leads_out layout) many in
      omega (arith, few, few_blocks, lanes, inputs, few_inputs, few_closed, few_open, few_out)

  -- the place of an input is one of those that are told to be entries or not
  place_low : (l : ℕ) → l < length (layout_of board.rest.plan).links → begins_at_input (layout_of board.rest.plan) l ≡ true
      → place_in (layout_of board.rest.plan) l < length board.opens.items
  place_low l there begins =
      let layout = layout_of board.rest.plan in
      let less = (place_below (begins_at_input layout) (length layout.links) l there begins).there in
      let many = board.told ∙ ap length board.inputs_are in
      omega (arith, less, many)

  module _ {w : _} {e : _} where
    pub task_low : (it : Kind W w e) (n : ℕ) → board_by it ≡ board → is_task_number it n ≡ true → n < tasks_end
    task_low (kind.Block task) n its numbered =
        let same = eqb-true task.block.number n numbered in
        let there = subst (λ (b : Board W). task.block.number < length (layout_of b.rest.plan).blocks) its task.block.there in
        omega (arith, same, there)
    task_low (kind.Input task) n its numbered =
        let layout = layout_of board.rest.plan in
        let opens = board.opens.items in
        let l = task.link in
        let there = subst (λ (b : Board W). l < length (layout_of b.rest.plan).links) its task.there in
        let begins = subst (λ (b : Board W). begins_at_input (layout_of b.rest.plan) l ≡ true) its task.begins in
        let number = subst (λ (b : Board W). is_input_number (layout_of b.rest.plan) b.opens.items l n ≡ true) its numbered in
        let place = place_in layout l in
        let before = length layout.blocks + closed_before layout opens place in
        let parts = and_parts (is_closed layout opens place) (before == n) number in
        let same : before ≡ n = eqb-true before n parts.1 in
        let less = closed_left layout opens place (place_low l there begins) parts.0 in
        omega (arith, same, less)
    task_low (kind.Lane task) n its numbered =
        let layout = layout_of board.rest.plan in
        let opens = board.opens.items in
        let number = subst (λ (b : Board W). is_lane_number (layout_of b.rest.plan) b.opens.items n ≡ true) its numbered in
        ltb-true n tasks_end (and_parts (leb (turned_count layout opens) n) (ltb n tasks_end) number).1

    pub entry_between : (entry : Entry W w e) → entry.input.of.value ≡ board → (tasks_end ≤ entry.number) × (entry.number < entries_end)
    entry_between entry its =
        let layout = layout_of board.rest.plan in
        let opens = board.opens.items in
        let l = entry.input.link in
        let there = subst (λ (b : Board W). l < length (layout_of b.rest.plan).links) its entry.input.there in
        let begins = subst (λ (b : Board W). begins_at_input (layout_of b.rest.plan) l ≡ true) its entry.input.begins in
        let number = subst (λ (b : Board W). is_entry_number (layout_of b.rest.plan) b.opens.items l entry.number ≡ true) its entry.numbered in
        let place = place_in layout l in
        let before = tasks_end + open_before layout opens place in
        let parts = and_parts (is_open layout opens place) (before == entry.number) number in
        let same : before ≡ entry.number = eqb-true before entry.number parts.1 in
        let less = open_left layout opens place (place_low l there begins) parts.0 in
        (omega (arith, same), omega (arith, same, less))

    pub exit_between : (exit : Exit W w e) → exit.of.value ≡ board → (entries_end ≤ exit.number) × (exit.number < exits_end)
    exit_between exit its =
        let layout = layout_of board.rest.plan in
        let l = exit.link in
        let there = subst (λ (b : Board W). l < length (layout_of b.rest.plan).links) its exit.there in
        let leads = subst (λ (b : Board W). leads_out (layout_of b.rest.plan) l ≡ true) its exit.leads in
        let number = subst (λ (b : Board W). is_exit_number (layout_of b.rest.plan) b.opens.items l exit.number ≡ true) its exit.numbered in
        let before = entries_end + exit_place layout l in
        let same : before ≡ exit.number = eqb-true before exit.number number in
        let less = (place_below (leads_out layout) (length layout.links) l there leads).there in
        (omega (arith, same), omega (arith, same, less))
