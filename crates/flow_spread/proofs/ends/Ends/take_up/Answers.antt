use Rattle.std.proofs.Common.{refl, sym, ◌∙◌, arith}
use Rattle.flow_spread.proofs.CountsOfEnds.{away_taken_up, waiting_taken_up, busy_taken_up}
use Rattle.flow_spread.proofs.ends.Ends.take_up.Goals as goal

pub overflow_sub-self : goal.overflow_sub-self
overflow_sub-self c =
    omega (arith, c.self.invariant.1, c.self.invariant.2, away_taken_up c.args.value.now c.self.inside.ends.items)

pub invariant_of-self : goal.invariant_of-self
invariant_of-self c =
    let ends = c.self.inside.ends.items in
    rw (c.owing_in-self-inside.ensures, c.deref.ensures.value, c.take_up.ensures) (
      refl,
      omega (arith, c.self.invariant.1, c.self.invariant.2, away_taken_up c.args.value.now ends),
      sym (waiting_taken_up c.args.value.now ends),
      c.self.invariant.3 ∙ sym (busy_taken_up c.args.value.now ends),
    )
