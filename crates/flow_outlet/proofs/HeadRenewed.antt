-- Where the head is to be offered anew, it still waits over a link.
use Rattle.std.proofs.Common.{◌≡◌, ℕ, suc, ◌<◌, ◌||◌, Bool, true, false, List, [], ◌∷◌, length, refl, arith}
use Rattle.std.proofs.lemmas.Bool.{and_parts}
use Rattle.std.specs.List.{list_any}
use Rattle.flow_link.proofs.TestsTell.{PassesAt}
use Rattle.flow_outlet.specs.End.{no_end, is_waiting, speaks_of, waits_with}
use Rattle.flow_outlet.specs.Outlet.{OutletState, stage_at, is_renewing}
use Rattle.flow_outlet.specs.declared.ends.OutEnd.{OutEnd}

passes_somewhere : (test : OutEnd → Bool) (ends : List OutEnd) → list_any test ends ≡ true → PassesAt test ends no_end
passes_somewhere test [] e = absurd (cc)
passes_somewhere test (end ∷ ends) e = by_first (test end) refl (passes_somewhere test ends) e
  where
    by_first : (b : Bool) → test end ≡ b → (list_any test ends ≡ true → PassesAt test ends no_end) → b || list_any test ends ≡ true
        → PassesAt test (end ∷ ends) no_end
    by_first true is later e = record { place = 0; there = omega arith; passes = is }
    by_first false is later e =
        let found = later e in
        record { place = suc found.place; there = omega (arith, found.there); passes = found.passes }

-- a place at which the head waits, to be taken back
pub record HeadWaits (o : OutletState) : Type 0 where
  pub renewing : o.renewing ≡ true
  pub place : ℕ
  pub there : place < length o.ends
  pub waits : is_waiting (stage_at o place) ≡ true
  pub head : speaks_of o.next (stage_at o place) ≡ true

pub renewing_waits : (o : OutletState) → is_renewing o ≡ true → HeadWaits o
renewing_waits o e =
    let both = and_parts o.renewing (list_any (waits_with o.next) o.ends) e in
    let at = passes_somewhere (waits_with o.next) o.ends both.1 in
    let waits = and_parts (is_waiting (stage_at o at.place)) (speaks_of o.next (stage_at o at.place)) at.passes in
    record { renewing = both.0; place = at.place; there = at.there; waits = waits.0; head = waits.1 }
