-- A board has few parts, and each is numbered by its place.
use Rattle.std.proofs.Common.{◌≡◌, ℕ, ◌+◌, ◌<◌, ◌≤◌, leb, ltb, ◌==◌, ◌&&◌, not, Bool, true, false, List, length, filter, get_or, sym, ap, ◌∙◌, arith}
use Rattle.std.proofs.lemmas.Bool.{eq-eqb, le-leb, lt-ltb}
use Rattle.std.proofs.lemmas.List.Sums.{length-filter, count_by-le-length}
use Rattle.flow_link.specs.Lists.{below}
use Rattle.flow_link.proofs.ListTests.{length_numbers}
use Rattle.flow_link.proofs.PlacesOfNumbers.{stands_below}
use Rattle.flow_link.specs.Layout.{Layout, IsLaidOut}
use Rattle.flow_link.specs.WellFormed.{IsWellFormed}
use Rattle.flow_link.proofs.PortsAreFew.{few_links}
use Rattle.flow_block.specs.Planned.{leads_out, links_out}
use Rattle.flow_task.specs.Inputs.{begins_at_input, links_of_inputs}
use Rattle.flow_task.specs.Numbers.{closed_before, entry_count, is_closed, is_entry_number, is_exit_number, is_input_number, is_lane_number, is_open, open_before, task_count, turned_count}
use Rattle.flow_task.proofs.LanesAreFew.{lanes_few}

pub passing : (test : ℕ → Bool) (n : ℕ) → length (filter test (below n)) ≤ n
passing test n =
    let least = count_by-le-length test (below n) in
    let same = length-filter test (below n) in
    let long = length_numbers 0 n in
    omega (arith, least, same, long)

module _ {W : Type 0} (layout : Layout W) (well : IsWellFormed layout.blocks layout.links) (laid : IsLaidOut layout.blocks layout.links)
    (opens : List Bool) (told : length opens ≡ length (links_of_inputs layout)) where
  pub few_parts : task_count layout opens + entry_count layout opens + length (links_out layout) ≤ 10096
  few_parts =
      let few = few_links layout.blocks layout.links well laid in
      let blocks = well.few_blocks in
      let lanes = lanes_few layout well in
      let inputs = passing (begins_at_input layout) (length layout.links) in
      let exits = passing (leads_out layout) (length layout.links) in
      let closed = passing (is_closed layout opens) (length opens) in
      let open_ones = passing (is_open layout opens) (length opens) in
      omega (arith, few, blocks, lanes, inputs, exits, closed, open_ones, told)

-- by their places

both : (a b : Bool) → a ≡ true → b ≡ true → (a && b) ≡ true
both true b e is = is
both false b e is = absurd (cc)

module _ {W : Type 0} (layout : Layout W) (opens : List Bool) (k n : ℕ) where
  pub exit_numbered : k < length (links_out layout) → n ≡ task_count layout opens + entry_count layout opens + k
      → is_exit_number layout opens (get_or (links_out layout) k 0) n ≡ true
  exit_numbered small is =
      let place = (stands_below (leads_out layout) (length layout.links) k small).before in
      ap (λ (j : ℕ). (task_count layout opens + entry_count layout opens + j) == n) place
      ∙ eq-eqb (task_count layout opens + entry_count layout opens + k) n (sym is)

  pub input_numbered : k < length (links_of_inputs layout) → get_or opens k false ≡ false
      → n ≡ length layout.blocks + closed_before layout opens k
      → is_input_number layout opens (get_or (links_of_inputs layout) k 0) n ≡ true
  input_numbered small closed is =
      let place = (stands_below (begins_at_input layout) (length layout.links) k small).before in
      ap (λ (j : ℕ). is_closed layout opens j && (length layout.blocks + closed_before layout opens j) == n) place
      ∙ both (is_closed layout opens k) ((length layout.blocks + closed_before layout opens k) == n) (ap not closed)
      (eq-eqb (length layout.blocks + closed_before layout opens k) n (sym is))

  pub entry_numbered : k < length (links_of_inputs layout) → get_or opens k false ≡ true
      → n ≡ task_count layout opens + open_before layout opens k
      → is_entry_number layout opens (get_or (links_of_inputs layout) k 0) n ≡ true
  entry_numbered small opened is =
      let place = (stands_below (begins_at_input layout) (length layout.links) k small).before in
      ap (λ (j : ℕ). is_open layout opens j && (task_count layout opens + open_before layout opens j) == n) place
      ∙ both (is_open layout opens k) ((task_count layout opens + open_before layout opens k) == n) opened
      (eq-eqb (task_count layout opens + open_before layout opens k) n (sym is))

-- those behind the blocks and the inputs that are turned are of lanes
pub lane_numbered : {W : Type 0} (layout : Layout W) (opens : List Bool) (n : ℕ) → turned_count layout opens ≤ n → n < task_count layout opens
    → is_lane_number layout opens n ≡ true
lane_numbered layout opens n from low =
    both (leb (turned_count layout opens) n) (ltb n (task_count layout opens)) (le-leb (turned_count layout opens) n from)
    (lt-ltb n (task_count layout opens) low)
