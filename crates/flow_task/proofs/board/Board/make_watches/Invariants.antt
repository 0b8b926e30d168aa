use Rattle.std.proofs.Common.{◌≡◌, map, vec_len, vec_capacity}
use Rattle.flow_link.specs.Lists.{below}
use Rattle.flow_task.specs.Parts.{AllWatchesOf, watched_block}
use Rattle.flow_task.proofs.board.Board.make_watches.Given as goal

-- the first blocks have their watches
abbrev pub invariant-loop-block : goal.invariant-loop-block
invariant-loop-block g l = record {
  of : AllWatchesOf l.fn.self l.watches.items;
  blocks : map watched_block l.watches.items ≡ below l.block;
  count : vec_len l.watches ≡ l.block;
  room : vec_capacity l.watches ≡ vec_capacity l.fn.watches;
}
