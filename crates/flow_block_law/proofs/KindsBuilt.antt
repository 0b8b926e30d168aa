-- What holds of each kind: it has one port, if it joins nothing, and makes rows, tuples, groups or something of its first
-- message.
use Rattle.std.proofs.Common.{◌≡◌, ℕ, Bool, true, false, cond, length, [], ◌∷◌, Option, Some, None, Result, Ok, Err, refl, ap, sym, ◌∙◌, subst, is_some, List}
use Rattle.flow_value.specs.declared.value.Value.{Value}
use Rattle.flow_link.specs.declared.draft.BlockKind.{BlockKind}
use Rattle.flow_link.specs.declared.draft.BlockKind.TheVariants.{Buffer, Broadcast, WriteOnce, Action, Transform, TransformMany, Batch, Join, BatchedJoin}
use Rattle.flow_link.specs.declared.kinds.BlockUnit.{BlockUnit}
use Rattle.flow_link.specs.declared.kinds.BlockUnit.TheVariants as unit
use Rattle.flow_link.specs.Kinds.{unit_of, makes_rows, makes_tuples, copies_each}
use Rattle.flow_link.specs.Layout.{Layout}
use Rattle.flow_link.specs.Copies.{copies_as}
use Rattle.flow_link.specs.Plan.{block_in, ports_by_kind, is_broadcast, is_one_taker, is_write_once}
use Rattle.flow_link.specs.Trace.{Run, left_at}
use Rattle.flow_lawful.specs.Quiet.{first_of as first_left, head_as}
use Rattle.flow_link.specs.LinkOk.{IsWithin}
use Rattle.flow_block.specs.Planned.{room_by, room_of}
use Rattle.flow_intake.specs.Calls.{first_of}
use Rattle.flow_block.specs.Block.{BlockState, held_by, is_batch, is_join, made_of, makes_row, makes_tuple, keeps_results, yields, copies_next, makes_of, makes_by_unit, makes, put_of, put_next, puts_by_unit, is_batched_join, has_ports}
use Rattle.flow_block_law.specs.NodeLaw.{ShapeLaw}
use Rattle.flow_block.specs.Node.{NodeState, with_block, makes_next_group, makes_next}

-- what holds of buffers, actions, both transforms, batches, joins, broadcasts, what takes one message in all and batched joins
-- holds of each kind
pub by_kind : (P : BlockKind → Type 0) → P Buffer → P Action → P Transform → P TransformMany → P Batch → P Join → P Broadcast
    → P WriteOnce → P BatchedJoin → (kind : BlockKind) → P kind
by_kind P buffer action transform many batch join broadcast once batched Buffer = buffer
by_kind P buffer action transform many batch join broadcast once batched Broadcast = broadcast
by_kind P buffer action transform many batch join broadcast once batched WriteOnce = once
by_kind P buffer action transform many batch join broadcast once batched Action = action
by_kind P buffer action transform many batch join broadcast once batched Transform = transform
by_kind P buffer action transform many batch join broadcast once batched TransformMany = many
by_kind P buffer action transform many batch join broadcast once batched Batch = batch
by_kind P buffer action transform many batch join broadcast once batched Join = join
by_kind P buffer action transform many batch join broadcast once batched BatchedJoin = batched

-- it makes what it makes of one message after another
abbrev pub is_of_one : BlockKind → Bool
is_of_one Buffer = true
is_of_one Action = true
is_of_one Transform = true
is_of_one TransformMany = true
is_of_one _ = false

pub of_one : (kind : BlockKind) → is_batched_join kind ≡ false → is_batch kind ≡ false
    → is_join kind ≡ false → is_broadcast kind ≡ false → is_write_once kind ≡ false → is_of_one kind ≡ true
of_one Buffer grouped single alone shared many = refl
of_one Action grouped single alone shared many = refl
of_one Transform grouped single alone shared many = refl
of_one TransformMany grouped single alone shared many = refl
of_one _ grouped single alone shared many = absurd (cc)

-- what it makes by itself: the next row of a batch, the next tuple of a join, and for each other kind something of its first
-- message
made_as : (P : BlockState → Type 0) (result : Value → Result (List Value) ℕ) (block : BlockState) (made : BlockUnit)
    → unit_of block.kind ≡ made
    → (is_batch block.kind ≡ true → P (makes_row block))
    → (is_join block.kind ≡ true → P (makes_tuple block))
    → (is_broadcast block.kind ≡ true → P (copies_next (first_of (held_by block)) block))
    → (is_batch block.kind ≡ false → is_join block.kind ≡ false → is_broadcast block.kind ≡ false
    → P (makes_of result (first_of (held_by block)) block))
    → P (makes_by_unit made result block)
made_as P result block unit.Message is of_row of_tuple of_copy of_other =
    of_other (ap makes_rows is) (ap makes_tuples is) (ap copies_each is)
made_as P result block unit.Row is of_row of_tuple of_copy of_other = of_row (ap makes_rows is)
made_as P result block unit.Tuple is of_row of_tuple of_copy of_other = of_tuple (ap makes_tuples is)
made_as P result block unit.Group is of_row of_tuple of_copy of_other =
    of_other (ap makes_rows is) (ap makes_tuples is) (ap copies_each is)
made_as P result block unit.Copy is of_row of_tuple of_copy of_other = of_copy (ap copies_each is)
made_as P result block unit.OneCopy is of_row of_tuple of_copy of_other =
    of_other (ap makes_rows is) (ap makes_tuples is) (ap copies_each is)

pub makes_by : (P : BlockState → Type 0) (result : Value → Result (List Value) ℕ) (block : BlockState)
    → (is_batch block.kind ≡ true → P (makes_row block))
    → (is_join block.kind ≡ true → P (makes_tuple block))
    → (is_broadcast block.kind ≡ true → P (copies_next (first_of (held_by block)) block))
    → (is_batch block.kind ≡ false → is_join block.kind ≡ false → is_broadcast block.kind ≡ false
    → P (makes_of result (first_of (held_by block)) block))
    → P (makes result block)
makes_by P result block of_row of_tuple of_copy of_other =
    made_as P result block (unit_of block.kind) refl of_row of_tuple of_copy of_other

-- and what it would put into its exits by that
puts_other : (result : Value → Result (List Value) ℕ) (block : BlockState) (made : BlockUnit)
    → makes_rows made ≡ false → makes_tuples made ≡ false → copies_each made ≡ false
    → puts_by_unit made result block ≡ put_of block.kind result (first_of (held_by block))
puts_other result block unit.Message single alone shared = refl
puts_other result block unit.Row single alone shared = absurd (cc)
puts_other result block unit.Tuple single alone shared = absurd (cc)
puts_other result block unit.Group single alone shared = refl
puts_other result block unit.Copy single alone shared = absurd (cc)
puts_other result block unit.OneCopy single alone shared = refl

pub puts_one : (result : Value → Result (List Value) ℕ) (block : BlockState)
    → is_batch block.kind ≡ false → is_join block.kind ≡ false → is_broadcast block.kind ≡ false
    → put_next result block ≡ put_of block.kind result (first_of (held_by block))
puts_one result block single alone shared = puts_other result block (unit_of block.kind) single alone shared

-- of a batched join it is the node that makes the next group, and of all others the block
node_as : (P : NodeState → Type 0) (group other : NodeState) (batched : Bool) → (batched ≡ true → P group)
    → (batched ≡ false → P other) → P (cond batched group other)
node_as P group other true of_group of_other = of_group refl
node_as P group other false of_group of_other = of_other refl

pub next_by : (P : NodeState → Type 0) (result : Value → Result (List Value) ℕ) (node : NodeState)
    → (is_batched_join node.block.kind ≡ true → P (makes_next_group node))
    → (is_batched_join node.block.kind ≡ false → P (with_block (makes result node.block) node))
    → P (makes_next result node)
next_by P result node of_group of_other =
    node_as P (makes_next_group node) (with_block (makes result node.block) node) (is_batched_join node.block.kind) of_group
    of_other

-- it stays of its kind
keeps_kind : (kind : BlockKind) (values : List Value) (block : BlockState)
    → (keeps_results kind values block).kind ≡ block.kind
keeps_kind Action values block = refl
keeps_kind _ [] block = refl
keeps_kind _ (value ∷ values) block = refl

yields_kind : (made : Result (List Value) ℕ) (block : BlockState) → (yields made block).kind ≡ block.kind
yields_kind (Ok values) block = keeps_kind block.kind values block
yields_kind (Err number) block = refl

pub made_kind : (result : Value → Result (List Value) ℕ) (first : Option Value) (block : BlockState)
    → (makes_of result first block).kind ≡ block.kind
made_kind result None block = refl
made_kind result (Some value) block = yields_kind (made_of block.kind result value) block

-- the room of a block is its capacity, but for what takes one message in all, which has none
pub room_shared : (kind : BlockKind) (capacity : Option ℕ) → is_write_once kind ≡ false → room_by kind capacity ≡ capacity
room_shared WriteOnce capacity many = absurd (cc)
room_shared _ capacity many = refl

room_where : (kind : BlockKind) (capacity : Option ℕ) → (is_write_once kind ≡ true → capacity ≡ None) → is_some capacity ≡ true
    → room_by kind capacity ≡ capacity
room_where WriteOnce None none there = absurd (cc)
room_where WriteOnce (Some room) none there = absurd (let never : Some room ≡ None = none refl in cc)
room_where _ capacity none there = refl

within_where : (kind : BlockKind) (capacity : Option ℕ) (count : ℕ) → (is_write_once kind ≡ true → capacity ≡ None)
    → IsWithin (room_by kind capacity) count → IsWithin capacity count
within_where WriteOnce capacity count none within = subst (λ (room : Option ℕ). IsWithin room count) (sym (none refl)) tt
within_where _ capacity count none within = within

module _ {W : Type 0} (layout : Layout W) (meaning : ℕ → Value → Result (List Value) ℕ) (b : ℕ) (block : BlockState)
    (shape : ShapeLaw layout meaning b block) where
  unlimited : is_write_once (block_in layout.blocks b).kind ≡ true → (block_in layout.blocks b).capacity ≡ None
  unlimited once = shape.no_capacity (ap is_write_once shape.kind_is ∙ once)

  pub room_kept : is_some (block_in layout.blocks b).capacity ≡ true
      → room_of (block_in layout.blocks b) ≡ (block_in layout.blocks b).capacity
  room_kept there = room_where (block_in layout.blocks b).kind (block_in layout.blocks b).capacity unlimited there

  pub within_capacity : (count : ℕ) → IsWithin (room_of (block_in layout.blocks b)) count
      → IsWithin (block_in layout.blocks b).capacity count
  within_capacity count within =
      within_where (block_in layout.blocks b).kind (block_in layout.blocks b).capacity count unlimited within

  pub has_one_port : has_ports block.kind ≡ false → length block.ports ≡ 1
  has_one_port alone =
      shape.port_count_is
      ∙ by_kind (λ kind. has_ports kind ≡ false → ports_by_kind kind (block_in layout.blocks b).ports ≡ 1)
      (λ e. refl) (λ e. refl) (λ e. refl) (λ e. refl) (λ e. refl) (λ e. absurd (cc)) (λ e. refl) (λ e. refl) (λ e. absurd (cc))
      (block_in layout.blocks b).kind (ap has_ports (sym shape.kind_is) ∙ alone)

-- what a run asks of a block by its kind
module _ {W : Type 0} (run : Run W) (b : ℕ) where
  -- nothing of copies, where it shares its messages out
  pub copies_nothing : (kind : BlockKind) → is_one_taker kind ≡ true → copies_as run b kind ≡ true
  copies_nothing =
      by_kind (λ kind. is_one_taker kind ≡ true → copies_as run b kind ≡ true) (λ _. refl) (λ _. refl) (λ _. refl) (λ _. refl) (λ _. refl)
      (λ _. refl) (λ sharing. absurd (cc)) (λ sharing. absurd (cc)) (λ _. refl)

  -- then its head is the first message that is left, unless it has a fault
  pub head_is_first : (l : ℕ) (kind : BlockKind) → is_one_taker kind ≡ true → head_as run b l false kind ≡ first_left (left_at run b)
  head_is_first l =
      by_kind (λ kind. is_one_taker kind ≡ true → head_as run b l false kind ≡ first_left (left_at run b)) (λ _. refl) (λ _. refl)
      (λ _. refl) (λ _. refl) (λ _. refl) (λ _. refl) (λ sharing. absurd (cc)) (λ sharing. absurd (cc)) (λ _. refl)
