use Rattle.flow_outlet.proofs.OutletFits.{waiting_less, fits_forgotten_for}
use Rattle.flow_outlet.proofs.outlet.Outlet.forget_all.Goals as goal

pub overflow_sub-self : goal.overflow_sub-self
overflow_sub-self c = waiting_less c.self.invariant

pub invariant_of-self : goal.invariant_of-self
invariant_of-self c =
    rw (c.first_from-self-inside.ensures, c.front.ensures, c.deref.ensures.value, c.forget_answers.ensures) (fits_forgotten_for c.self.invariant)
