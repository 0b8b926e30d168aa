use Rattle.std.proofs.Common.{ℕ, ◌<◌, length, Option, None, unwrap_or, is_some, sym, ◌∙◌, ap, arith}
use Rattle.std.proofs.lemmas.List.{get_or_read}
use Rattle.flow_intake.specs.Port.{fresh_port}
use Rattle.flow_block.specs.Traits.{has_link}
use Rattle.flow_link.proofs.PlacesNamed.{place_is, place_nowhere}
use Rattle.flow_block.proofs.by_link.port_into.Goals as goal

pub returns-then-is_some-clause-port : goal.returns-then-is_some-clause-port
returns-then-is_some-clause-port c =
    let ports = c.args.ports.now in
    let port = c.loop-port.port in
    let there : port < length ports = omega (arith, c.loop-port-test.true) in
    let here = get_or_read ports port c.index-ports-port.result there c.index-ports-port.is (fresh_port None) in
    sym (ap (λ (place : Option ℕ). unwrap_or place 0)
    (place_is (has_link c.args.link) ports port (fresh_port None) there c.loop-port.invariant
    (ap (has_link c.args.link) (sym here) ∙ sym (ap is_some c.place_in.ensures) ∙ sym c.if-is_some.ensures)))

pub returns-clause-port : goal.returns-clause-port
returns-clause-port c =
    sym (ap (λ (place : Option ℕ). unwrap_or place 0)
    (place_nowhere (has_link c.args.link) c.args.ports.now (fresh_port None)
    (λ p l. c.loop-port.invariant p (omega (arith, l, c.loop-port-test.false)))))
