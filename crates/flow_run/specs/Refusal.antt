-- The line that tells of a refusal: its number, its name and its place.
use Rattle.std.specs.Prelude.{List, ℕ, [], ◌∷◌, ◌++◌, codes}
use Rattle.flow_crew.specs.declared.run.RunFault.{RunFault}
use Rattle.flow_crew.specs.declared.run.RunFault.TheVariants as run
use Rattle.flow_fault_text.specs.FaultText.{fault_text}
use Rattle.flow_fault_text.specs.declared.fault.TextRefusal.{TextRefusal}
use Rattle.flow_fault_text.specs.declared.fault.TextRefusal.TheVariants as refused
use Rattle.flow_run.specs.declared.outcome.RunRefusal.{RunRefusal}
use Rattle.flow_run.specs.declared.outcome.RunRefusal.TheVariants.{Text, Ids, Memory}

-- why there was no run, or no report of it
abbrev pub refusal_text : RunRefusal → List ℕ
refusal_text (Text fault) = fault_text fault
refusal_text Ids = codes "ids"
refusal_text Memory = codes "memory"

-- the whole line
abbrev pub refusal_line : RunRefusal → List ℕ
refusal_line refusal = codes "flow_run: " ++ refusal_text refusal ++ 10 ∷ []

-- there is no run where a network can't go on
abbrev pub told_as : {W : Type 0} {w : _} {e : _} → RunFault W w e → RunRefusal
told_as (run.Ids net) = Ids
told_as (run.Net net) = Memory
told_as (run.Parts parts) = Memory

-- nor where a text is refused
abbrev pub refusal_of : TextRefusal → RunRefusal
refusal_of (refused.Fault fault) = Text fault
refusal_of refused.Memory = Memory
