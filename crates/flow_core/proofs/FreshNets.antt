-- A network in which nothing has happened is in order.
use Rattle.std.proofs.Common.{◌≡◌, ℕ, zero, suc, ◌<◌, leb, cond, Bool, true, false, ◌&&◌, ◌||◌, unwrap_or, Option, Some, is_some, List, [], ◌∷◌, length, get_or, map, None, refl, ap, sym, subst, ◌∙◌, arith}
use Rattle.std.proofs.lemmas.List.{get_or-map, get_or-replicate, length-map, length-replicate}
use Rattle.std.proofs.lemmas.Bool.{and_parts, leb-true, or_left, or_right}
use Rattle.flow_value.specs.declared.value.Value.{Value}
use Rattle.flow_link.specs.declared.draft.BlockDef.{BlockDef}
use Rattle.flow_link.specs.declared.draft.BlockKind.{BlockKind}
use Rattle.flow_link.specs.declared.draft.BlockKind.TheVariants.{Batch, Join, BatchedJoin, WriteOnce}
use Rattle.flow_link.specs.declared.plan.LinkSource.{LinkSource}
use Rattle.flow_link.specs.declared.plan.LinkSource.TheVariants.{Block, Input}
use Rattle.flow_link.specs.declared.plan.LinkTarget.{LinkTarget}
use Rattle.flow_link.specs.declared.plan.LinkTarget.TheVariants.{Port, Exit}
use Rattle.flow_link.specs.Facts.{facts_in}
use Rattle.flow_link.specs.Layout.{Layout}
use Rattle.flow_link.specs.Lists.{below, every}
use Rattle.flow_link.specs.LooksKeep.{fresh_source, fresh_target}
use Rattle.flow_link.specs.Plan.{block_in, link_in, port_count, ports_by_kind, is_one_taker, is_write_once}
use Rattle.flow_link.specs.Views.{SourceView}
use Rattle.flow_link.specs.PlanFaults.{is_name, is_in, allows, input_rule, output_rule, capacity_rule, work_rule, lanes_rule, size_rule, ports_rule, greedy_rule, keys_fit, ranges_fit, options_fit}
use Rattle.flow_link.specs.Trace.{InputTrace, nothing_posted}
use Rattle.flow_link.proofs.ListTests.{length_numbers}
use Rattle.flow_link.proofs.LooksKeepOrder.{looks_keep}
use Rattle.flow_intake.specs.Port.{fresh_end as fresh_in, end_in as in_at, fresh_port}
use Rattle.flow_outlet.specs.End.{fresh_end, no_end}
use Rattle.flow_spread.specs.declared.end.CopyEnd.{CopyEnd}
use Rattle.flow_spread.specs.End.{fresh_end as fresh_copy, no_end as no_copy}
use Rattle.flow_block.specs.Copies.{shared_rules, copied_rules}
use Rattle.flow_block.specs.Block.{is_batch, is_batched_join}
use Rattle.flow_block_law.specs.Fresh.{FreshInOrder}
use Rattle.flow_input.specs.Input.{fresh_input, no_input, input_view}
use Rattle.flow_input.specs.InputKeeps.{InputLaw, InputsKeep}
use Rattle.flow_link.specs.Posted.{ends_by_number}
use Rattle.flow_block.specs.Node.{in_view, out_view, copy_view, source_view, view_of_in, view_of_out}
use Rattle.flow_block_law.specs.NodeLaw.{NodeLaw}
use Rattle.flow_block.specs.Planned.{fresh_node, port_of_plan, links_from, links_to, rule_of, in_place, out_place, input_place, exit_place, links_out}
use Rattle.flow_exit.specs.Exit.{fresh_exit, exit_view}
use Rattle.flow_exit.specs.ExitKeeps.{ExitLaw, ExitsKeep}
use Rattle.flow_core.specs.Keeps.{LineKeeps}
use Rattle.flow_core.specs.State.{NetState, fresh_net, fresh_line, source_from, target_from, no_node}
use Rattle.flow_core.specs.Statements.{FreshKeeps}
use Rattle.flow_core.proofs.LinesKeep.{line_keeps}
use Rattle.flow_link.proofs.PlacesTell.{below_at}

-- a plan gives each block a lane
lane_between : (lanes : Option ℕ) → is_in 1 16 lanes ≡ true → 0 < unwrap_or lanes 1
lane_between None e = omega arith
lane_between (Some n) e = let low = leb-true 1 n (and_parts (leb 1 n) (leb n 16) e).0 in omega (arith, low)

some_lane : {W : Type 0} (block : BlockDef W) → options_fit block ≡ true → 0 < unwrap_or block.lanes 1
some_lane block fit =
    let ranges = (and_parts (is_name block.name && keys_fit block) (ranges_fit block) fit).1 in
    let capacity = is_in 1 2147483647 block.capacity in
    let lanes = is_in 1 16 block.lanes in
    let size = is_in 1 4096 block.size in
    let outer = and_parts (capacity && lanes && size) (is_in 2 3 block.ports) ranges in
    let inner = and_parts (capacity && lanes) size outer.0 in
    lane_between block.lanes (and_parts capacity lanes inner.0).1

-- and a batch rows of some size
some_between : (size : Option ℕ) → is_some size ≡ true → is_in 1 4096 size ≡ true → 0 < unwrap_or size 0
some_between None there e = absurd (cc)
some_between (Some n) there e = let low = leb-true 1 n (and_parts (leb 1 n) (leb n 4096) e).0 in omega (arith, low)

size_required : (kind : BlockKind) (there : Bool) → is_batch kind || is_batched_join kind ≡ true
    → allows (size_rule kind) there ≡ true → there ≡ true
size_required Batch true batch e = refl
size_required Batch false batch e = absurd (cc)
size_required BatchedJoin true batch e = refl
size_required BatchedJoin false batch e = absurd (cc)
size_required _ there batch e = absurd (cc)

some_size : {W : Type 0} (block : BlockDef W) → options_fit block ≡ true
    → is_batch block.kind || is_batched_join block.kind ≡ true → 0 < unwrap_or block.size 0
some_size block fit batch =
    let both = and_parts (is_name block.name && keys_fit block) (ranges_fit block) fit in
    let keys = (and_parts (is_name block.name) (keys_fit block) both.0).1 in
    let capacity = is_in 1 2147483647 block.capacity in
    let lanes = is_in 1 16 block.lanes in
    let size = is_in 1 4096 block.size in
    let outer = and_parts (capacity && lanes && size) (is_in 2 3 block.ports) both.1 in
    let front =
    allows (input_rule block.kind) block.input
    && allows (output_rule block.kind) block.output
    && allows (capacity_rule block.kind) (is_some block.capacity)
    && allows (work_rule block.kind) (is_some block.work)
    && allows (lanes_rule block.kind) (is_some block.lanes) in
    let sized = allows (size_rule block.kind) (is_some block.size) in
    let ported = allows (ports_rule block.kind) (is_some block.ports) in
    let greedy = allows (greedy_rule block.kind) (is_some block.greedy) in
    let all = and_parts (front && sized && ported) greedy keys in
    let most = and_parts (front && sized) ported all.0 in
    some_between block.size (size_required block.kind (is_some block.size) batch (and_parts front sized most.0).1)
    (and_parts (capacity && lanes) size outer.0).1

-- what takes one message in all has no capacity
capacity_free : (kind : BlockKind) (capacity : Option ℕ) → is_write_once kind ≡ true
    → allows (capacity_rule kind) (is_some capacity) ≡ true → capacity ≡ None
capacity_free WriteOnce None once e = refl
capacity_free WriteOnce (Some n) once e = absurd (cc)
capacity_free _ capacity once e = absurd (cc)

third : (a b c d e f g h : Bool) → (a && b && c && d && e && f && g && h) ≡ true → c ≡ true
third true true true d e f g h all = refl
third true true false d e f g h all = absurd (cc)
third true false c d e f g h all = absurd (cc)
third false b c d e f g h all = absurd (cc)

no_capacity : {W : Type 0} (block : BlockDef W) → options_fit block ≡ true → is_write_once block.kind ≡ true
    → block.capacity ≡ None
no_capacity block fit once =
    let both = and_parts (is_name block.name && keys_fit block) (ranges_fit block) fit in
    let keys = (and_parts (is_name block.name) (keys_fit block) both.0).1 in
    capacity_free block.kind block.capacity once
    (third (allows (input_rule block.kind) block.input) (allows (output_rule block.kind) block.output)
    (allows (capacity_rule block.kind) (is_some block.capacity)) (allows (work_rule block.kind) (is_some block.work))
    (allows (lanes_rule block.kind) (is_some block.lanes)) (allows (size_rule block.kind) (is_some block.size))
    (allows (ports_rule block.kind) (is_some block.ports)) (allows (greedy_rule block.kind) (is_some block.greedy)) keys)

-- each block has a port
port_by_kind : (kind : BlockKind) (ports : Option ℕ) → is_in 2 3 ports ≡ true → 0 < ports_by_kind kind ports
port_by_kind Join None within = omega arith
port_by_kind Join (Some n) within = let low = leb-true 2 n (and_parts (leb 2 n) (leb n 3) within).0 in omega (arith, low)
port_by_kind BatchedJoin None within = omega arith
port_by_kind BatchedJoin (Some n) within = let low = leb-true 2 n (and_parts (leb 2 n) (leb n 3) within).0 in omega (arith, low)
port_by_kind _ ports within = omega arith

some_port : {W : Type 0} (block : BlockDef W) → options_fit block ≡ true → 0 < port_count block
some_port block fit =
    let ranges = (and_parts (is_name block.name && keys_fit block) (ranges_fit block) fit).1 in
    let front = is_in 1 2147483647 block.capacity && is_in 1 16 block.lanes && is_in 1 4096 block.size in
    port_by_kind block.kind block.ports (and_parts front (is_in 2 3 block.ports) ranges).1

-- what is made of a number stands at that number's place
mapped_at : {A : Type 0} (f : ℕ → A) (count k : ℕ) (none : A) → k < count → get_or (map f (below count)) k none ≡ f k
mapped_at f count k none small =
    let inside : k < length (below count) = let many = length_numbers 0 count in omega (arith, many, small) in
    get_or-map f (below count) k 0 none inside ∙ ap f (below_at count k 0 small)

-- what holds of each element that passes holds at each place of a list of such elements, and of the one that stands for none
holds_passed : {A B : Type 0} (P : B → Type 0) (test : A → Bool) (f : A → B) (xs : List A) (k : ℕ) (d : B) → P d
    → every test xs ≡ true → ((x : A) → test x ≡ true → P (f x)) → P (get_or (map f xs) k d)
holds_passed P test f [] k d none all each = none
holds_passed P test f (x ∷ xs) zero d none all each = each x (and_parts (test x) (every test xs) all).0
holds_passed P test f (x ∷ xs) (suc k) d none all each = holds_passed P test f xs k d none (and_parts (test x) (every test xs) all).1 each

-- what holds of each element and of the one that stands for none holds at each place
holds_mapped : {A B : Type 0} (P : B → Type 0) (f : A → B) (xs : List A) (k : ℕ) (d : B) → P d → ((x : A) → P (f x))
    → P (get_or (map f xs) k d)
holds_mapped P f [] k d none each = none
holds_mapped P f (x ∷ xs) zero d none each = each x
holds_mapped P f (x ∷ xs) (suc k) d none each = holds_mapped P f xs k d none each

either_fresh : (sharing : Bool) (one other : SourceView Value) → one ≡ fresh_source → other ≡ fresh_source
    → cond sharing one other ≡ fresh_source
either_fresh true one other first second = first
either_fresh false one other first second = second

module _ {W : Type 0} (layout : Layout W) where
  -- each end of a fresh node is fresh
  out_fresh : (k b : ℕ) → out_view k (fresh_node layout b) ≡ fresh_source
  out_fresh k b =
      holds_mapped (λ end. view_of_out [] end ≡ fresh_source) fresh_end
      (shared_rules (block_in layout.blocks b).kind (map (rule_of layout) (links_from layout b))) k
      no_end refl (λ rule. refl)

  copy_fresh : (k b : ℕ) → copy_view k (fresh_node layout b) ≡ fresh_source
  copy_fresh k b =
      holds_mapped (λ (end : CopyEnd). view_of_out [] end.link ≡ fresh_source) fresh_copy
      (copied_rules (block_in layout.blocks b).kind (map (rule_of layout) (links_from layout b))) k
      no_copy refl (λ rule. refl)

  -- of a link out of it, whether it shares its messages out or copies them
  source_view_fresh : (k b : ℕ) → source_view k (fresh_node layout b) ≡ fresh_source
  source_view_fresh k b =
      either_fresh (is_one_taker (block_in layout.blocks b).kind) (out_view k (fresh_node layout b)) (copy_view k (fresh_node layout b))
      (out_fresh k b) (copy_fresh k b)

  in_fresh : (p k b : ℕ) → in_view p k (fresh_node layout b) ≡ fresh_target
  in_fresh p k b =
      holds_mapped (λ port. view_of_in [] (in_at k port.ends) ≡ fresh_target) (port_of_plan layout b)
      (below (port_count (block_in layout.blocks b))) p (fresh_port None) refl (λ n.
      holds_mapped (λ end. view_of_in [] end ≡ fresh_target) fresh_in (links_to layout b n) k (fresh_in 0) refl
      (λ link. refl))

  module _ (posted : List InputTrace) where
    abbrev start : NetState
    start = fresh_net layout posted

    source_fresh : (l : ℕ) (from : LinkSource) → source_from layout start l from ≡ fresh_source
    source_fresh l (Block s) =
        holds_mapped (λ node. source_view (out_place layout s l) node ≡ fresh_source) (fresh_node layout)
        (below (length layout.blocks)) s no_node refl (source_view_fresh (out_place layout s l))
    source_fresh l (Input b) =
        holds_mapped (λ input. input_view input ≡ fresh_source) fresh_input posted (input_place layout b) no_input refl
        (λ trace. refl)

    target_fresh : (l : ℕ) (into : LinkTarget) → target_from layout start l into ≡ fresh_target
    target_fresh l (Port t p) =
        holds_mapped (λ node. in_view p (in_place layout t p l) node ≡ fresh_target) (fresh_node layout)
        (below (length layout.blocks)) t no_node refl (in_fresh p (in_place layout t p l))
    target_fresh l Exit =
        holds_mapped (λ exit. exit_view exit ≡ fresh_target) (λ _. fresh_exit) (links_out layout) (exit_place layout l) fresh_exit refl
        (λ _. refl)

    -- a link over which nothing has gone is in order, and both ends have seen it
    line_fresh : (l : ℕ) → l < length layout.links → LineKeeps layout start l
    line_fresh l there =
        line_keeps layout start l fresh_line fresh_source fresh_target
        (get_or-replicate (length layout.links) l fresh_line fresh_line there)
        (source_fresh l (link_in layout.links l).source) (target_fresh l (link_in layout.links l).target)
        ((looks_keep Value).fresh.in_order (facts_in layout l), (looks_keep Value).fresh.seen)

pub fresh_keeps : {W : Type 0} → FreshInOrder W → InputsKeep → ExitsKeep → FreshKeeps W
fresh_keeps blocks inputs exits layout meaning runs never posted count numbered = record {
  node_count = length-map (below (length layout.blocks)) (fresh_node layout) ∙ length_numbers 0 (length layout.blocks);
  input_count = length-map posted fresh_input ∙ count;
  exit_count = length-map (links_out layout) (λ _. fresh_exit);
  line_count = length-replicate (length layout.links) fresh_line;
  nodes = λ b here.
      subst (NodeLaw layout meaning b)
      (sym (mapped_at (fresh_node layout) (length layout.blocks) b no_node here))
      (blocks layout meaning b (never b)
      (some_port (block_in layout.blocks b) (runs.well_formed.options b here))
      (some_lane (block_in layout.blocks b) (runs.well_formed.options b here))
      (λ batch. some_size (block_in layout.blocks b) (runs.well_formed.options b here)
      (or_left (is_batch (block_in layout.blocks b).kind) (is_batched_join (block_in layout.blocks b).kind) batch))
      (λ batched. some_size (block_in layout.blocks b) (runs.well_formed.options b here)
      (or_right (is_batch (block_in layout.blocks b).kind) (is_batched_join (block_in layout.blocks b).kind) batched))
      (no_capacity (block_in layout.blocks b) (runs.well_formed.options b here)));
  inputs = λ b here is.
      holds_passed InputLaw ends_by_number fresh_input posted (input_place layout b) no_input
      (inputs.fresh nothing_posted refl) numbered inputs.fresh;
  exits = λ l there to. holds_mapped ExitLaw (λ _. fresh_exit) (links_out layout) (exit_place layout l) fresh_exit exits.fresh (λ _. exits.fresh);
  lines = λ l there. line_fresh layout posted l there;
}
