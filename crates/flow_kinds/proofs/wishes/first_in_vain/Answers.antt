use Rattle.std.proofs.Common.{◌≡◌, ◌<◌, length, inl, inr, sym, ◌∙◌, ap, arith}
use Rattle.std.proofs.lemmas.Bool.{cases_lt}
use Rattle.flow_link.specs.Lists.{below}
use Rattle.flow_link.proofs.PlacesNamed.{place_is, place_nowhere}
use Rattle.flow_block.proofs.TargetMoves.{number_at, below_count}
use Rattle.flow_kinds.specs.Wishes.{asks_in_vain}
use Rattle.flow_kinds.proofs.wishes.first_in_vain.Goals as goal

pub returns-then-asks_in_vain : goal.returns-then-asks_in_vain
returns-then-asks_in_vain c =
    let count = length c.args.block.now.ports in
    let test = asks_in_vain c.args.round.now c.args.block.now.ports in
    let port = c.loop-port.port in
    let there : port < count = omega (arith, c.port_count-port-end.ensures, c.loop-port-test.true) in
    sym (place_is test (below count) port 0 (omega (arith, there, below_count count))
    (λ p l. ap test (number_at count p (omega (arith, there, l))) ∙ c.loop-port.invariant p l)
    (ap test (number_at count port there) ∙ sym c.asks_in_vain.ensures ∙ c.if-asks_in_vain.true))

pub returns : goal.returns
returns c =
    let count = length c.args.block.now.ports in
    let test = asks_in_vain c.args.round.now c.args.block.now.ports in
    sym (place_nowhere test (below count) 0
    (λ p l.
    let near : p < count = omega (arith, l, below_count count) in
    ap test (number_at count p near) ∙ c.loop-port.invariant p (omega (arith, near, c.port_count-port-end.ensures, c.loop-port-test.false))))

pub loop-port-preserved : goal.loop-port-preserved
loop-port-preserved c p l = elim (cases_lt p c.loop-port.port) [
  | inl before ↦ c.loop-port.invariant p before
  | inr after ↦
      let same : p ≡ c.loop-port.port = omega (arith, l, after) in
      ap (asks_in_vain c.args.round.now c.args.block.now.ports) same ∙ sym c.asks_in_vain.ensures ∙ c.if-asks_in_vain.false
]
