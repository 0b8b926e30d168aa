-- A block of a plan has three ports at most, so each port that a draft without a fault names is a number of 16 bits; and a
-- plan has so few links that their ids are numbers of 32 bits.
use Rattle.std.proofs.Common.{◌≡◌, ℕ, suc, ◌+◌, ◌≤◌, leb, ◌&&◌, Bool, true, false, cond, List, [], ◌∷◌, ◌++◌, length, map, Option, Some, None, unwrap_or, refl, ap, sym, ◌∙◌, subst, length-append, arith}
use Rattle.std.specs.List.{find}
use Rattle.std.proofs.lemmas.Bool.{and_parts, leb-true, not-false}
use Rattle.flow_link.specs.declared.draft.BlockDef.{BlockDef}
use Rattle.flow_link.specs.declared.draft.LinkDef.{LinkDef}
use Rattle.flow_link.specs.declared.draft.BlockKind.{BlockKind}
use Rattle.flow_link.specs.declared.draft.BlockKind.TheVariants.{Join, BatchedJoin}
use Rattle.flow_link.specs.declared.plan.Link.{Link}
use Rattle.flow_link.specs.declared.plan.PlanFault.TheVariants.{Limit, DuplicateName, UnknownBlock, Port, NoOutput, BadOption}
use Rattle.flow_link.specs.declared.plan.Place.TheVariants.{Block, Link as at_link}
use Rattle.flow_link.specs.FaultOrder.{name_faults, end_faults, option_faults}
use Rattle.flow_link.specs.Layout.{IsLaidOut, input_link, input_links, exit_link, exit_links, outer_links, between_of}
use Rattle.flow_link.specs.Plan.{block_in, block_named, ports_by_kind, port_count}
use Rattle.flow_link.specs.PlanFaults.{is_name, is_in, keys_fit, ranges_fit, options_fit, stands, first_plan_fault}
use Rattle.flow_link.specs.PortsFit.{PortsFit}
use Rattle.flow_link.specs.WellFormed.{IsWellFormed}
use Rattle.flow_link.specs.Lists.{below}
use Rattle.flow_link.proofs.EachLinkOf.{none_at}
use Rattle.flow_link.proofs.FirstOfEachFault.{first_fault_of, none_front, none_back, none_behind}
use Rattle.flow_link.proofs.PlansAreWellFormed.{front_of, back_of, target_there, port_has}

ports_within : (kind : BlockKind) (ports : Option ℕ) → is_in 2 3 ports ≡ true → ports_by_kind kind ports ≤ 3
ports_within Join None within = omega arith
ports_within Join (Some n) within = leb-true n 3 (and_parts (leb 2 n) (leb n 3) within).1
ports_within BatchedJoin None within = omega arith
ports_within BatchedJoin (Some n) within = leb-true n 3 (and_parts (leb 2 n) (leb n 3) within).1
ports_within _ ports within = omega arith

-- a block whose options fit has three ports at most
pub at_most_three : {W : Type 0} (block : BlockDef W) → options_fit block ≡ true → port_count block ≤ 3
at_most_three block fit =
    let ranges = (and_parts (is_name block.name && keys_fit block) (ranges_fit block) fit).1 in
    let front = is_in 1 2147483647 block.capacity && is_in 1 16 block.lanes && is_in 1 4096 block.size in
    ports_within block.kind block.ports (and_parts front (is_in 2 3 block.ports) ranges).1

module _ {W : Type 0} (blocks : List (BlockDef W)) (links : List LinkDef) where
  -- where no fault stands of names, of ends and of options, the ports are those of blocks that are there
  pub ports_fit : find (stands blocks links) (name_faults blocks links) ≡ None
      → find (stands blocks links) (end_faults blocks links) ≡ None
      → find (stands blocks links) (option_faults blocks links) ≡ None
      → PortsFit links
  ports_fit names ends options l link low is =
      let test = stands blocks links in
      let bs = below (length blocks) in
      let ls = below (length links) in
      let behind : find test (map DuplicateName bs ++ map UnknownBlock ls) ≡ None =
      none_behind (test Limit) Limit (find test (map DuplicateName bs ++ map UnknownBlock ls)) names in
      let unknown : test (UnknownBlock l) ≡ false =
      none_at test UnknownBlock (length links) l low (back_of test (map DuplicateName bs) (map UnknownBlock ls) behind) in
      let port : test (Port l) ≡ false =
      none_at test Port (length links) l low (front_of test (map Port ls) (map NoOutput ls) ends) in
      let target = unwrap_or (block_named blocks link.to) 0 in
      let bad : test (BadOption (Block target)) ≡ false =
      none_at test (λ b. BadOption (Block b)) (length blocks) target (target_there blocks links l link low is unknown)
      (front_of test (map (λ b. BadOption (Block b)) bs) (map (λ k. BadOption (at_link k)) ls) options) in
      let few : port_count (block_in blocks target) ≤ 3 =
      at_most_three (block_in blocks target) (not-false (options_fit (block_in blocks target)) bad) in
      let has = port_has blocks links l link low is unknown port in
      omega (arith, few, has)

  -- so it is where no fault stands at all
  pub ports_fit_where_none : first_plan_fault blocks links ≡ None → PortsFit links
  ports_fit_where_none fine =
      let names = none_front _ _ (sym (first_fault_of blocks links _ _ _ _ _ refl refl refl refl refl) ∙ fine) in
      let behind = none_back _ _ (sym (first_fault_of blocks links _ _ _ _ _ refl refl refl refl refl) ∙ fine) in
      ports_fit names (none_front _ _ behind) (none_front _ _ (none_back _ _ behind))

  -- of the same blocks and links
  pub ports_fit_along : (ls : List LinkDef) → ls ≡ links → first_plan_fault blocks links ≡ None → PortsFit ls
  ports_fit_along ls el fine = subst (λ (all : List LinkDef). PortsFit all) (sym el) (ports_fit_where_none fine)

-- each block has one input and one exit at most
one_or_none : (b : Bool) (link : Link) (rest : List Link) (n : ℕ) → length rest ≤ n → length (cond b (link ∷ []) [] ++ rest) ≤ suc n
one_or_none true link rest n few = omega (arith, few)
one_or_none false link rest n few = omega (arith, few)

module _ {W : Type 0} where
  few_inputs : (first : ℕ) (blocks : List (BlockDef W)) → length (input_links first blocks) ≤ length blocks
  few_inputs first [] = omega arith
  few_inputs first (block ∷ blocks) =
      one_or_none block.input (input_link first) (input_links (suc first) blocks) (length blocks) (few_inputs (suc first) blocks)

  few_exits : (first : ℕ) (blocks : List (BlockDef W)) → length (exit_links first blocks) ≤ length blocks
  few_exits first [] = omega arith
  few_exits first (block ∷ blocks) =
      one_or_none block.output (exit_link first) (exit_links (suc first) blocks) (length blocks) (few_exits (suc first) blocks)

  pub few_links : (blocks : List (BlockDef W)) (links : List Link) → IsWellFormed blocks links → IsLaidOut blocks links
      → length links ≤ 1536
  few_links blocks links well laid =
      let inputs = few_inputs 0 blocks in
      let exits = few_exits 0 blocks in
      let few_blocks : length blocks ≤ 256 = well.few_blocks in
      let between : length (between_of blocks links) ≤ 1024 = well.few_links in
      let outer : length (outer_links blocks) ≡ length (input_links 0 blocks) + length (exit_links 0 blocks) =
      length-append (input_links 0 blocks) (exit_links 0 blocks) in
      let all : length links ≡ length (between_of blocks links) + length (outer_links blocks) =
      ap length laid.in_order ∙ length-append (between_of blocks links) (outer_links blocks) in
      omega (arith, inputs, exits, few_blocks, between, outer, all)
