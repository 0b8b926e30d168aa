-- What there is of a network whose owner alone ran it, and could not go on.
use Rattle.std.specs.Prelude.{ℕ, List, Result}
use Rattle.flow_value.specs.declared.value.Value.{Value}
use Rattle.flow_value.specs.declared.work.WorkFault.{WorkFault}
use Rattle.flow_net.specs.Net.{NetGoesOn}
use Rattle.flow_net.specs.declared.net.Net.{Net}
use Rattle.flow_crew.specs.declared.run.RunFault.{RunFault}
use Rattle.flow_crew.specs.declared.run.RunFault.TheVariants as fault

module _ {W : Type 0} {w : _} {e : _} (meaning : W → Value → Result (List Value) WorkFault) where
  -- it did events one after another, at most so many, and is whole
  abbrev pub IsLeftAlone : ℕ → Net W w e → RunFault W w e → Type 0
  IsLeftAlone limit old (fault.Ids net) = NetGoesOn meaning limit old net
  IsLeftAlone limit old (fault.Net net) = NetGoesOn meaning limit old net
  IsLeftAlone limit old (fault.Parts parts) = ⊥
