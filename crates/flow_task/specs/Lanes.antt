-- How many lanes of blocks are tasks: all those of a block that has several; a block with one lane does its jobs itself.
use Rattle.std.specs.Prelude.{ℕ, zero, suc, ◌+◌, cond, ltb, length}
use Rattle.flow_link.specs.Layout.{Layout}
use Rattle.flow_block.specs.Planned.{lanes_of}

abbrev pub tasks_for : ℕ → ℕ
tasks_for lanes = cond (ltb 1 lanes) lanes 0

module _ {W : Type 0} (layout : Layout W) where
  -- of the first blocks
  abbrev pub lanes_before : ℕ → ℕ
  lanes_before zero = 0
  lanes_before (suc b) = lanes_before b + tasks_for (lanes_of layout b)

  abbrev pub lane_count : ℕ
  lane_count = lanes_before (length layout.blocks)
