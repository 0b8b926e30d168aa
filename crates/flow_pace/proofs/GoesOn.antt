-- What a settled network is told as.
use Rattle.std.proofs.Common.{◌≡◌, ◌↔◌, ℕ, List, Result, refl, subst, sym}
use Rattle.flow_value.specs.declared.value.Value.{Value}
use Rattle.flow_value.specs.declared.work.WorkFault.{WorkFault}
use Rattle.flow_link.specs.Layout.{Layout}
use Rattle.flow_core.specs.Statements.{IsStill}
use Rattle.flow_exec.specs.Works.{works_of}
use Rattle.flow_net.specs.Net.{NetIsStill, NetSettles, layout_in, parts_of}
use Rattle.flow_net.specs.declared.net.Net.{Net}
use Rattle.flow_net.specs.declared.settled.Settled.{Settled}
use Rattle.flow_net.specs.declared.settled.Settled.TheVariants.{Quiet, Stopped}

-- it is told as quiet exactly where nothing may happen any more
pub told_still : {W : Type 0} {w : _} {e : _} (meaning : W → Value → Result (List Value) WorkFault) (limit : ℕ) (old new : Net W w e) (how : Settled)
    → layout_in new ≡ layout_in old → NetSettles meaning limit old new how → (how ≡ Quiet) ↔ NetIsStill meaning new
told_still {W} meaning limit old new how same settles =
    subst (λ (layout : Layout W). (how ≡ Quiet) ↔ IsStill layout (works_of meaning layout) (parts_of new)) (sym same) (by_old how settles)
  where
    by_old : (how : Settled) → NetSettles meaning limit old new how
        → (how ≡ Quiet) ↔ IsStill (layout_in old) (works_of meaning (layout_in old)) (parts_of new)
    by_old Quiet settles = (settles.quiet, λ still. refl)
    by_old Stopped settles = (settles.quiet, λ still. absurd (settles.not_quiet refl still))
