-- A block of a plan has the ports and the options of its kind, and nothing waits there.
use Rattle.std.proofs.Common.{◌≡◌, ℕ, ◌<◌, Bool, true, false, ◌&&◌, is_some, List, [], ◌∷◌, length, map, Option, Some, None, unwrap_or, refl, ap, sym, ◌∙◌, arith, leb, zero, suc}
use Rattle.std.proofs.lemmas.Bool.{and_parts, leb-true}
use Rattle.flow_link.specs.declared.draft.BlockDef.{BlockDef}
use Rattle.flow_link.specs.declared.draft.BlockKind.{BlockKind}
use Rattle.flow_link.specs.declared.draft.BlockKind.TheVariants as kinds
use Rattle.flow_link.specs.Layout.{Layout}
use Rattle.flow_link.specs.Lists.{every, below}
use Rattle.flow_link.specs.Plan.{block_in, ports_by_kind, port_count, has_work}
use Rattle.flow_link.specs.PlanFaults.{is_name, is_in, allows, input_rule, output_rule, capacity_rule, work_rule, lanes_rule, size_rule, ports_rule, greedy_rule, keys_fit, ranges_fit, options_fit}
use Rattle.flow_link.specs.declared.stage.TargetStage.TheVariants as target
use Rattle.flow_link.proofs.ListTests.{length_numbers}
use Rattle.flow_intake.specs.Port.{PortState, count_at, is_owed, end_in, fresh_end, fresh_port}
use Rattle.flow_intake.specs.ByLink.{place_of}
use Rattle.flow_outlet.specs.Outlet.{is_empty}
use Rattle.flow_outlet.specs.declared.ends.LinkRule.{LinkRule}
use Rattle.flow_block.specs.Block.{BlockState, port_in, has_ports}
use Rattle.flow_block.specs.BlockFits.{fresh_block}
use Rattle.flow_block.specs.JournalFits.{ports_due}
use Rattle.flow_block.specs.Planned.{room_of, port_of_plan, links_to, links_from, rule_of, lanes_of, planned_block}
use Rattle.flow_block.specs.Traits.{port_shown, shown_over, port_into, target_over}

-- What the options of a block say

-- which lanes and which size a block may have, of all its options
stated : (a b c d e f g h : Bool) → (a && b && c && d && e && f && g && h) ≡ true → (e ≡ true) × (f ≡ true)
stated a b c d e f g h all =
    let most = and_parts (a && b && c && d && e && f && g) h all in
    let sized = and_parts (a && b && c && d && e && f) g most.0 in
    let laned = and_parts (a && b && c && d && e) f sized.0 in
    ((and_parts (a && b && c && d) e laned.0).1, laned.1)

sizeless : (kind : BlockKind) (size : Option ℕ) → has_work kind ≡ true → allows (size_rule kind) (is_some size) ≡ true → unwrap_or size 0 ≡ 0
sizeless kind None works e = refl
sizeless kinds.Action (Some n) works e = absurd (cc)
sizeless _ (Some n) works e = absurd (cc)

-- each kind has a port
some_by : (kind : BlockKind) (ports : Option ℕ) → is_in 2 3 ports ≡ true → 0 < ports_by_kind kind ports
some_by kinds.Join None within = omega arith
some_by kinds.Join (Some n) within = let low = leb-true 2 n (and_parts (leb 2 n) (leb n 3) within).0 in omega (arith, low)
some_by kinds.BatchedJoin None within = omega arith
some_by kinds.BatchedJoin (Some n) within = let low = leb-true 2 n (and_parts (leb 2 n) (leb n 3) within).0 in omega (arith, low)
some_by _ ports within = omega arith

module _ {W : Type 0} (block : BlockDef W) (fit : options_fit block ≡ true) where
  pub options : (allows (lanes_rule block.kind) (is_some block.lanes) ≡ true) × (allows (size_rule block.kind) (is_some block.size) ≡ true)
  options =
      let both = and_parts (is_name block.name && keys_fit block) (ranges_fit block) fit in
      let keys = (and_parts (is_name block.name) (keys_fit block) both.0).1 in
      stated (allows (input_rule block.kind) block.input) (allows (output_rule block.kind) block.output)
      (allows (capacity_rule block.kind) (is_some block.capacity)) (allows (work_rule block.kind) (is_some block.work))
      (allows (lanes_rule block.kind) (is_some block.lanes)) (allows (size_rule block.kind) (is_some block.size))
      (allows (ports_rule block.kind) (is_some block.ports)) (allows (greedy_rule block.kind) (is_some block.greedy)) keys

  no_size : has_work block.kind ≡ true → unwrap_or block.size 0 ≡ 0
  no_size works = sizeless block.kind block.size works options.1

  some_port : 0 < port_count block
  some_port =
      let ranges = (and_parts (is_name block.name && keys_fit block) (ranges_fit block) fit).1 in
      let others = is_in 1 2147483647 block.capacity && is_in 1 16 block.lanes && is_in 1 4096 block.size in
      some_by block.kind block.ports (and_parts others (is_in 2 3 block.ports) ranges).1

-- Its ports

-- nothing is under way over any link into a port that was just made
free_at : (links : List ℕ) (k : ℕ) → (end_in k (map fresh_end links)).stage ≡ target.Free
free_at [] k = refl
free_at (link ∷ links) zero = refl
free_at (link ∷ links) (suc k) = free_at links k

free_port : (capacity : Option ℕ) (links : List ℕ) (place : Option ℕ)
    → port_shown place (record (fresh_port capacity) { ends = map fresh_end links }) ≡ target.Free
free_port capacity links None = refl
free_port capacity links (Some k) = free_at links k

free_anywhere : (port : PortState) (link : ℕ) → ((place : Option ℕ) → port_shown place port ≡ target.Free) → shown_over port link ≡ target.Free
free_anywhere port link each = each (place_of link port.ends)

single_by : (kind : BlockKind) (ports : Option ℕ) → has_ports kind ≡ false → ports_by_kind kind ports ≡ 1
single_by kinds.Join ports e = absurd (cc)
single_by kinds.BatchedJoin ports e = absurd (cc)
single_by _ ports e = refl

none_owed : (links : List ℕ) → count_at is_owed (map fresh_end links) ≡ 0
none_owed [] = refl
none_owed (link ∷ links) = omega (arith, none_owed links)

module _ {W : Type 0} (layout : Layout W) (b : ℕ) where
  abbrev pub def : BlockDef W
  def = block_in layout.blocks b

  abbrev pub ports_in : ℕ → List PortState
  ports_in count = map (port_of_plan layout b) (below count)

  -- nothing waits there, or is under way there
  none_at : (numbers : List ℕ) → every (λ (port : PortState). is_empty port.waiting) (map (port_of_plan layout b) numbers) ≡ true
  none_at [] = refl
  none_at (p ∷ numbers) = none_at numbers

  pub none_waits : every (λ (port : PortState). is_empty port.waiting) (ports_in (port_count def)) ≡ true
  none_waits = none_at (below (port_count def))

  none_due_at : (numbers : List ℕ) → ports_due (map (port_of_plan layout b) numbers) ≡ 0
  none_due_at [] = refl
  none_due_at (p ∷ numbers) = omega (arith, none_owed (links_to layout b p), none_due_at numbers)

  pub none_due : ports_due (ports_in (port_count def)) ≡ 0
  none_due = none_due_at (below (port_count def))

  pub one_port : has_ports def.kind ≡ false → port_count def ≡ 1
  one_port = single_by def.kind def.ports

  -- nothing is under way over any link into it

  free_planned : (p : ℕ) (place : Option ℕ) → port_shown place (port_of_plan layout b p) ≡ target.Free
  free_planned p None = refl
  free_planned p (Some place) = free_port (room_of def) (links_to layout b p) (Some place)

  each_free : (numbers : List ℕ) (link p : ℕ) → shown_over (port_in (map (port_of_plan layout b) numbers) p) link ≡ target.Free
  each_free [] link p = free_anywhere (fresh_port None) link (free_port None [])
  each_free (q ∷ numbers) link zero =
      free_anywhere (port_of_plan layout b q) link (free_planned q)
  each_free (q ∷ numbers) link (suc p) = each_free numbers link p

  free_over : (numbers : List ℕ) → 0 < length numbers → (link : ℕ) → target_over (map (port_of_plan layout b) numbers) link ≡ target.Free
  free_over [] some link = absurd (omega (arith, some))
  free_over (p ∷ numbers) some link = each_free (p ∷ numbers) link (port_into link (map (port_of_plan layout b) (p ∷ numbers)))

  pub all_free : options_fit def ≡ true → (link : ℕ) → target_over (planned_block layout b).ports link ≡ target.Free
  all_free fit =
      let count = length_numbers 0 (port_count def) in
      let some = some_port def fit in
      free_over (below (port_count def)) (omega (arith, count, some))

  -- A block with a function has no size, and a batched join one lane

  abbrev pub rules : List LinkRule
  rules = map (rule_of layout) (links_from layout b)

  pub planned_work : options_fit def ≡ true → has_work def.kind ≡ true
      → fresh_block def.kind (lanes_of layout b) 0 (ports_in (port_count def)) rules ≡ planned_block layout b
  planned_work fit works =
      ap (λ (size : ℕ). fresh_block def.kind (lanes_of layout b) size (ports_in (port_count def)) rules) (sym (no_size def fit works))

  -- what is made of its parts

  pub work_is_planned : options_fit def ≡ true → has_work def.kind ≡ true → (kind : BlockKind) (lanes : ℕ) (ports : List PortState)
      (given : List LinkRule) (block : BlockState) → kind ≡ def.kind → lanes ≡ lanes_of layout b → ports ≡ ports_in (port_count def)
      → given ≡ rules → block ≡ fresh_block kind lanes 0 ports given → block ≡ planned_block layout b
  work_is_planned fit works kind lanes ports given block kind_is lanes_is ports_are given_are is =
      is ∙ ap (λ (k : BlockKind). fresh_block k lanes 0 ports given) kind_is
      ∙ ap (λ (n : ℕ). fresh_block def.kind n 0 ports given) lanes_is
      ∙ ap (λ (ps : List PortState). fresh_block def.kind (lanes_of layout b) 0 ps given) ports_are
      ∙ ap (λ (rs : List LinkRule). fresh_block def.kind (lanes_of layout b) 0 (ports_in (port_count def)) rs) given_are
      ∙ planned_work fit works
