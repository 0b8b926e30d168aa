-- Blocks by their names.
use Rattle.std.specs.Prelude.{ℕ, cond, List, position, take, count_by, Option, Some, None}
use Rattle.std.specs.Str.{bytes_eq}
use Rattle.flow_link.specs.Layout.{Layout}
use Rattle.flow_link.specs.Plan.{block_in}

module _ {W : Type 0} (layout : Layout W) where
  -- the number of the block with this name
  abbrev pub block_named : List ℕ → Option ℕ
  block_named name = position (λ block. bytes_eq block.name name) layout.blocks

  -- the place of a block among those that are inputs
  abbrev pub inputs_before : ℕ → ℕ
  inputs_before b = count_by (λ block. block.input) (take b layout.blocks)

  abbrev pub input_at : Option ℕ → Option ℕ
  input_at None = None
  input_at (Some b) = cond (block_in layout.blocks b).input (Some (inputs_before b)) None

  -- the place of the input with this name among the inputs
  abbrev pub input_named : List ℕ → Option ℕ
  input_named name = input_at (block_named name)
