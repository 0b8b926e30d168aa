use Rattle.std.proofs.Common.{refl}
use Rattle.flow_spread.proofs.SpreadFits.{first_from, fits_found}
use Rattle.flow_spread.proofs.spread.Spread.next_place.Goals as goal

pub invariant_of-self : goal.invariant_of-self
invariant_of-self c =
    let fits = c.self.invariant in
    rw (c.first_open-self-inside.ensures, first_from c.self.inside.id c.self.inside.ends c.self.inside.cursor fits.within fits.passed)
    (fits_found fits)

pub returns-clause-place : goal.returns-clause-place
returns-clause-place c =
    let fits = c.self.invariant in
    rw (
      c.place_below.ensures,
      c.is_some.ensures,
      c.all.ensures.all,
      c.first_open-self-inside.ensures,
      first_from c.self.inside.id c.self.inside.ends c.self.inside.cursor fits.within fits.passed,
      ← c.self.view_is,
    ) refl
