-- A block of a plan has sixteen lanes at most, so the lanes that are tasks are few.
use Rattle.std.proofs.Common.{◌≡◌, ℕ, zero, suc, ◌+◌, ◌*◌, ◌<◌, ◌≤◌, leb, ltb, ◌&&◌, Bool, true, false, cond, length, Option, None, Some, unwrap_or, ap, arith}
use Rattle.std.proofs.lemmas.Bool.{and_parts, leb-true}
use Rattle.flow_link.specs.Layout.{Layout}
use Rattle.flow_link.specs.Plan.{block_in}
use Rattle.flow_link.specs.PlanFaults.{is_name, is_in, keys_fit, options_fit, ranges_fit}
use Rattle.flow_link.specs.WellFormed.{IsWellFormed}
use Rattle.flow_link.specs.declared.draft.BlockDef.{BlockDef}
use Rattle.flow_block.specs.Planned.{lanes_of}
use Rattle.flow_task.specs.Lanes.{lane_count, lanes_before, tasks_for}

told_few : (lanes : Option ℕ) → is_in 1 16 lanes ≡ true → unwrap_or lanes 1 ≤ 16
told_few None within = omega arith
told_few (Some n) within = leb-true n 16 (and_parts (leb 1 n) (leb n 16) within).1

-- a block whose options fit has sixteen lanes at most
fit_few : {W : Type 0} (block : BlockDef W) → options_fit block ≡ true → unwrap_or block.lanes 1 ≤ 16
fit_few block fit =
    let ranges = (and_parts (is_name block.name && keys_fit block) (ranges_fit block) fit).1 in
    let capacity = is_in 1 2147483647 block.capacity in
    let lanes = is_in 1 16 block.lanes in
    let size = is_in 1 4096 block.size in
    let front = (and_parts (capacity && lanes && size) (is_in 2 3 block.ports) ranges).0 in
    told_few block.lanes (and_parts capacity lanes (and_parts (capacity && lanes) size front).0).1

if_few : (several : Bool) (n : ℕ) → n ≤ 16 → cond several n 0 ≤ 16
if_few true n few = few
if_few false n few = omega arith

-- those of one block more
pub before_more : {W : Type 0} (layout : Layout W) (b : ℕ) → lanes_before layout (b + 1) ≡ lanes_before layout b + tasks_for (lanes_of layout b)
before_more layout b =
    let next : b + 1 ≡ suc b = omega arith in
    ap (lanes_before layout) next

module _ {W : Type 0} (layout : Layout W) (well : IsWellFormed layout.blocks layout.links) where
  pub tasks_few : (b : ℕ) → b < length layout.blocks → tasks_for (lanes_of layout b) ≤ 16
  tasks_few b low =
      if_few (ltb 1 (lanes_of layout b)) (lanes_of layout b) (fit_few (block_in layout.blocks b) (well.options b low))

  -- those of the first blocks
  pub before_few : (n : ℕ) → n ≤ length layout.blocks → lanes_before layout n ≤ 16 * n
  before_few zero low = omega arith
  before_few (suc n) low =
      let before : lanes_before layout n ≤ 16 * n = before_few n (omega (arith, low)) in
      let more : tasks_for (lanes_of layout n) ≤ 16 = tasks_few n (omega (arith, low)) in
      omega (arith, before, more)

  pub lanes_few : lane_count layout ≤ 4096
  lanes_few =
      let blocks = well.few_blocks in
      let few : lane_count layout ≤ 16 * length layout.blocks = before_few (length layout.blocks) (omega arith) in
      omega (arith, blocks, few)
