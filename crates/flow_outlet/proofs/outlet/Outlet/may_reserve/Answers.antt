use Rattle.std.proofs.Common.{◌≡◌, ap}
use Rattle.flow_outlet.specs.Outlet.{OutletState}
use Rattle.flow_outlet.proofs.TestsTell.{reserve_tells}
use Rattle.flow_outlet.proofs.outlet.Outlet.may_reserve.Goals as goal

pub returns : goal.returns
returns c =
    let ends : c.self.inside.ends.items ≡ c.args.self.now.ends = ap (λ (o : OutletState). o.ends) c.self.view_is in
    rw (c.tests_reserve.ensures, c.place_of.ensures, c.deref.ensures.value, ends) (reserve_tells c.args.link c.args.header c.args.self.now)
