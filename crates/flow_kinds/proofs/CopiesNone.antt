-- A block that may take many messages copies none when it takes it.
use Rattle.std.proofs.Common.{◌≡◌, ◌^◌, ◌==◌, ◌+◌, ltb, Bool, false, not, ◌&&◌, length, ap}
use Rattle.flow_link.specs.Lists.{is_empty}
use Rattle.flow_link.specs.Plan.{is_write_once}
use Rattle.flow_spread.specs.Spread.{is_spread_free}
use Rattle.flow_block.specs.Block.{BlockState, held_by, copies_taken, copies_at_once, copies_where}

pub never_at_once : (block : BlockState) → is_write_once block.kind ≡ false → copies_at_once block ≡ false
never_at_once block many =
    ap (λ (once : Bool). once && length block.ports == 1 && not (is_empty (held_by block)) && is_spread_free block.copies
    && ltb (block.copies.id + 1) (2 ^ 59)) many

pub copies_none : (block : BlockState) → is_write_once block.kind ≡ false → copies_taken block ≡ block
copies_none block many = ap (λ (once : Bool). copies_where once block) (never_at_once block many)
