-- How results come out one after another, where memory and ids are set aside for all of them.
use Rattle.std.specs.Prelude.{◌≡◌, ◌≢◌, ℕ, ◌-◌, ◌≤◌, Bool, true, false, List, ◌∷◌, length, Option, Some, None, Result, Ok, Err}
use Rattle.flow_value.specs.declared.value.Value.{Value}
use Rattle.flow_link.specs.declared.draft.BlockKind.TheVariants.{Action}
use Rattle.flow_link.specs.Plan.{has_work}
use Rattle.flow_intake.specs.Port.{PortState}
use Rattle.flow_intake.specs.Calls.{takes_next, gives_room}
use Rattle.flow_block.specs.Block.{BlockState, held_by, keeps_results, fails, with_jobs, yields_all}
use Rattle.flow_block.specs.Jobs.{JobsState, Slot, brings, works_off, comes_out}

-- the result of the message that is held first comes back, and all that is there comes out, up to a fault
abbrev pub all_out : ℕ → Result (List Value) ℕ → BlockState → BlockState
all_out ticket result block = yields_all (brings ticket result block.jobs).slots (with_jobs (brings ticket result) block)

-- the first result is there, and is no fault
abbrev pub is_front_made : List Slot → Bool
is_front_made (Some (Ok _) ∷ _) = true
is_front_made _ = false

-- the number of the fault that is there first
abbrev pub front_fault : List Slot → Option ℕ
front_fault (Some (Err number) ∷ _) = Some number
front_fault _ = None

abbrev pub fails_where : Option ℕ → BlockState → BlockState
fails_where (Some number) block = fails number block
fails_where None block = block

-- memory and ids are set aside for so many values fewer
abbrev pub uses_aside : ℕ → BlockState → BlockState
uses_aside count block = record block { exits = record block.exits { spare = block.exits.spare - count } }

-- the result that is there first comes out
abbrev pub puts_front : List Slot → BlockState → BlockState
puts_front (Some (Ok values) ∷ _) block = uses_aside (length values) (keeps_results block.kind values block)
puts_front _ block = block

-- the results that are there may come out of a block that gives them: memory and ids are set aside for them
pub record MayPutOut (block : BlockState) : Type 0 where
  pub alone : length block.ports ≡ 1
  pub works : has_work block.kind ≡ true
  pub gives : block.kind ≢ Action
  pub held : length block.jobs.slots ≤ length (held_by block)
  pub aside : length (comes_out block.jobs.slots) ≤ block.exits.spare

-- all that is there comes out, up to a fault, of what is set aside for it
abbrev pub puts_rest : List Slot → BlockState → BlockState
puts_rest slots block = yields_all slots (uses_aside (length (comes_out slots)) block)

-- what becomes of the jobs and of the port of an action when all that is there is recorded
abbrev pub jobs_recorded : List Slot → JobsState → JobsState
jobs_recorded (Some (Ok values) ∷ slots) jobs = jobs_recorded slots (works_off jobs)
jobs_recorded _ jobs = jobs

abbrev pub port_recorded : List Slot → PortState → PortState
port_recorded (Some (Ok values) ∷ slots) port = port_recorded slots (gives_room 1 (takes_next port))
port_recorded _ port = port
