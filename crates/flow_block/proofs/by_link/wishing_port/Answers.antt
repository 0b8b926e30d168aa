use Rattle.std.proofs.Common.{◌≡◌, ◌<◌, length, inl, inr, sym, ◌∙◌, ap, arith}
use Rattle.std.proofs.lemmas.Bool.{cases_lt}
use Rattle.flow_link.specs.Lists.{below}
use Rattle.flow_block.specs.Traits.{wishes_at}
use Rattle.flow_link.proofs.PlacesNamed.{place_is, place_nowhere}
use Rattle.flow_block.proofs.TargetMoves.{number_at, below_count}
use Rattle.flow_block.proofs.by_link.wishing_port.Goals as goal

pub returns-then-wishes_at-clause-port : goal.returns-then-wishes_at-clause-port
returns-then-wishes_at-clause-port c =
    let ports = c.args.ports.now in
    let port = c.loop-port.port in
    let count = length ports in
    let there : port < count = omega (arith, c.loop-port-test.true) in
    sym (place_is (wishes_at ports) (below count) port 0 (omega (arith, there, below_count count))
    (λ p l. ap (wishes_at ports) (number_at count p (omega (arith, there, l))) ∙ c.loop-port.invariant p l)
    (ap (wishes_at ports) (number_at count port there) ∙ sym c.if-wishes_at.ensures))

pub returns-clause-port : goal.returns-clause-port
returns-clause-port c =
    let ports = c.args.ports.now in
    let count = length ports in
    sym (place_nowhere (wishes_at ports) (below count) 0
    (λ p l.
    let near : p < count = omega (arith, l, below_count count) in
    ap (wishes_at ports) (number_at count p near) ∙ c.loop-port.invariant p (omega (arith, near, c.loop-port-test.false))))

pub loop-port-preserved : goal.loop-port-preserved
loop-port-preserved c p l = elim (cases_lt p c.loop-port.port) [
  | inl before ↦ c.loop-port.invariant p before
  | inr after ↦
      let same : p ≡ c.loop-port.port = omega (arith, l, after) in
      ap (wishes_at c.args.ports.now) same ∙ sym c.if-wishes_at.ensures
]
