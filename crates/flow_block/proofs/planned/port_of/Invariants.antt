use Rattle.std.proofs.Common.{◌≡◌, map, filter}
use Rattle.flow_link.specs.Lists.{below}
use Rattle.flow_link.specs.Plan.{block_in, is_reserving}
use Rattle.flow_link.specs.Planned.{layout_of}
use Rattle.flow_intake.specs.Port.{fresh_port, fresh_end}
use Rattle.flow_block.specs.Planned.{is_into, room_of}
use Rattle.flow_block.proofs.planned.port_of.Given as goal

abbrev pub invariant-loop-id : goal.invariant-loop-id
invariant-loop-id g l =
    l.made ≡ record (fresh_port (room_of (block_in (layout_of l.plan).blocks l.block))) {
      reserves = is_reserving (block_in (layout_of l.plan).blocks l.block);
      ends = map fresh_end (filter (is_into (layout_of l.plan) l.block l.port) (below l.id));
    }
