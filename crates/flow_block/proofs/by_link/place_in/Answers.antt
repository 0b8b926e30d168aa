use Rattle.std.proofs.Common.{◌==◌, ◌<◌, length, sym, arith, eq-eqb, ◌∙◌}
use Rattle.flow_intake.specs.Port.{EndState, fresh_end}
use Rattle.flow_link.proofs.PlacesNamed.{place_is, place_nowhere}
use Rattle.flow_block.proofs.by_link.place_in.Goals as goal

pub returns-then-link : goal.returns-then-link
returns-then-link c =
    let ends = c.args.port.now.ends in
    let there : c.loop-place.place < length ends = omega (arith, c.link_count-place-end.ensures, c.loop-place-test.true) in
    sym (place_is (λ (end : EndState). end.link == c.args.link) ends c.loop-place.place (fresh_end 0) there c.loop-place.invariant
    (eq-eqb _ c.args.link (sym c.link.ensures ∙ c.if-link.true)))

pub returns : goal.returns
returns c =
    let ends = c.args.port.now.ends in
    sym (place_nowhere (λ (end : EndState). end.link == c.args.link) ends (fresh_end 0)
    (λ k l. c.loop-place.invariant k (omega (arith, c.link_count-place-end.ensures, c.loop-place-test.false))))
