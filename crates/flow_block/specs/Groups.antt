-- What a batched join makes: a group of the messages that came in first, whatever their ports.
use Rattle.std.specs.Prelude.{ℕ, zero, suc, ◌+◌, leb, ltb, Bool, ◌&&◌, ◌||◌, List, [], ◌∷◌, map, length}
use Rattle.flow_link.specs.declared.trace.Mark.{Mark}
use Rattle.flow_link.specs.declared.trace.Mark.TheVariants.{Took, Gave, Complete, Fault, Done}
use Rattle.flow_link.specs.Making.{Arrival, arrivals}
use Rattle.flow_intake.specs.Port.{PortState}
use Rattle.flow_outlet.specs.Outlet.{puts}
use Rattle.flow_group.specs.Group.{group_of, takes_group}
use Rattle.flow_block.specs.Block.{BlockState}

-- the next group is there to be given
abbrev pub makes_group : (size weight : ℕ) → List ℕ → BlockState → BlockState
makes_group size weight order block = record block {
  ports = takes_group size order block.ports;
  exits = puts (group_of size order block.ports ∷ []) weight block.exits;
}

-- the ports at which messages came in by these marks, in their order
abbrev pub ports_in : List Mark → List ℕ
ports_in marks = map (λ (arrival : Arrival). arrival.port) (arrivals marks)

-- how many marks there are until so many messages came in; all of them, where fewer did
abbrev pub marks_until : List Mark → ℕ → ℕ
marks_until [] count = 0
marks_until (Took _ _ _ ∷ marks) zero = 0
marks_until (Took _ _ _ ∷ marks) (suc count) = 1 + marks_until marks count
marks_until (Gave _ _ ∷ marks) zero = 0
marks_until (Gave _ _ ∷ marks) (suc count) = 1 + marks_until marks (suc count)
marks_until (Complete _ ∷ marks) zero = 0
marks_until (Complete _ ∷ marks) (suc count) = 1 + marks_until marks (suc count)
marks_until (Fault _ ∷ marks) zero = 0
marks_until (Fault _ ∷ marks) (suc count) = 1 + marks_until marks (suc count)
marks_until (Done ∷ marks) zero = 0
marks_until (Done ∷ marks) (suc count) = 1 + marks_until marks (suc count)

-- how many messages wait at all ports
abbrev pub waiting_in_all : List PortState → ℕ
waiting_in_all [] = 0
waiting_in_all (port ∷ ports) = length port.waiting + waiting_in_all ports

-- as many wait as a group has, or some do, and all ports have ended
abbrev pub has_group_at : ℕ → Bool → List PortState → Bool
has_group_at size ended ports = ltb 0 (waiting_in_all ports) && (leb size (waiting_in_all ports) || ended)
