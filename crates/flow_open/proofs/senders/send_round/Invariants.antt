use Rattle.std.proofs.Common.{◌≡◌, map}
use Rattle.flow_board.specs.Parts.{AllEntriesOf, entry_number}
use Rattle.flow_open.specs.Sends.{EachSends}
use Rattle.flow_open.proofs.senders.send_round.Given as goal

abbrev pub invariant-loop-place : goal.invariant-loop-place
invariant-loop-place g l = record {
  of : AllEntriesOf l.board l.entries.items;
  numbers : map entry_number l.entries.items ≡ map entry_number l.fn.entries.items;
  sends : EachSends g.S.Iterator.next_gives l.fn.entries.items l.fn.senders.items l.entries.items l.senders.items;
}
