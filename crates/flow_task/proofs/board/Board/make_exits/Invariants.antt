use Rattle.std.proofs.Common.{◌≡◌, ◌+◌, ◌++◌, length, map, drop, vec_len, vec_capacity}
use Rattle.std.specs.Vec.Iter.{into_iter_items}
use Rattle.flow_link.specs.Lists.{numbers_from}
use Rattle.flow_link.specs.Planned.{layout_of}
use Rattle.flow_task.specs.Numbers.{entry_count, task_count}
use Rattle.flow_task.specs.Parts.{AllExitsOf, exit_number, exit_state}
use Rattle.flow_task.proofs.board.Board.make_exits.Given as goal

-- the first exits are made, and the ends of the others are left
abbrev pub invariant-loop-state : goal.invariant-loop-state
invariant-loop-state g l =
    (l.fn.states.items ≡ l.yielded ++ into_iter_items l.state-iterator)
    × ((l.place ≡ length l.yielded)
    × ((l.ends.items ≡ drop l.place l.fn.ends.items)
    × (AllExitsOf l.fn.self l.exits.items
    × ((map exit_number l.exits.items ≡ numbers_from (task_count (layout_of l.fn.self.rest.plan) l.fn.self.opens.items + entry_count (layout_of l.fn.self.rest.plan) l.fn.self.opens.items) l.place)
    × ((vec_len l.exits ≡ l.place)
    × ((vec_capacity l.exits ≡ vec_capacity l.fn.exits) × (map exit_state l.exits.items ≡ l.yielded)))))))
