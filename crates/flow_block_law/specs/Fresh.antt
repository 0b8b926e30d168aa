-- A node in which nothing has happened is in order.
use Rattle.std.specs.Prelude.{◌≡◌, ◌≢◌, ℕ, ◌<◌, true, List, None, Result, Err}
use Rattle.flow_value.specs.declared.value.Value.{Value}
use Rattle.flow_link.specs.Layout.{Layout}
use Rattle.flow_link.specs.Plan.{block_in, port_count, is_write_once}
use Rattle.flow_block_law.specs.NodeLaw.{NodeLaw}
use Rattle.flow_block.specs.Block.{is_batch, is_batched_join}
use Rattle.flow_block.specs.Planned.{lanes_of, size_of, fresh_node}

abbrev pub FreshInOrder : Type 0 → Type 0
FreshInOrder W =
    (layout : Layout W) (meaning : ℕ → Value → Result (List Value) ℕ) (b : ℕ) → ((value : Value) → meaning b value ≢ Err 0)
    → 0 < port_count (block_in layout.blocks b) → 0 < lanes_of layout b
    → (is_batch (block_in layout.blocks b).kind ≡ true → 0 < size_of layout b)
    → (is_batched_join (block_in layout.blocks b).kind ≡ true → 0 < size_of layout b)
    → (is_write_once (block_in layout.blocks b).kind ≡ true → (block_in layout.blocks b).capacity ≡ None)
    → NodeLaw layout meaning b (fresh_node layout b)
