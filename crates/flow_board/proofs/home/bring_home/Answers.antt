use Rattle.std.proofs.Common.{◌≡◌, ℕ, ◌<◌, false, refl, ap, ◌∙◌, sym, subst, arith, ⊎_elim}
use Rattle.std.proofs.lemmas.Bool.{cases_order}
use Rattle.flow_link.specs.declared.trace.LinkState.{LinkState}
use Rattle.flow_core.specs.State.{line_at}
use Rattle.flow_core.proofs.InputsChange.{all_further, all_same}
use Rattle.flow_net.specs.Net.{layout_in, parts_of}
use Rattle.flow_wire.specs.Ends.{is_crossing}
use Rattle.flow_board.proofs.TargetsTake.{taken_further, none_taken}
use Rattle.flow_board.proofs.home.bring_home.Goals as goal

pub loop-id-init : goal.loop-id-init
loop-id-init g c =
    let net = c.args.net.now in (
      refl,
      (
        λ k small. absurd (omega (arith, small)),
        (all_same (parts_of net), none_taken g.W.Runs.meaning (layout_in net) (parts_of net) (parts_of net) refl),
      ),
    )

pub returns-in_err-bring_link_home-clause-inputs_stay : goal.returns-in_err-bring_link_home-clause-inputs_stay
returns-in_err-bring_link_home-clause-inputs_stay g c =
    all_further (parts_of c.args.net.now) (parts_of c.loop-id.net) (parts_of c.bring_link_home.new.net)
    c.loop-id.invariant.1.1.0 c.bring_link_home.ensures.inputs_stay

pub returns-in_err-bring_link_home-clause-goes_on : goal.returns-in_err-bring_link_home-clause-goes_on
returns-in_err-bring_link_home-clause-goes_on g c =
    let i = c.loop-id.invariant in
    taken_further g.W.Runs.meaning (layout_in c.args.net.now) (layout_in c.loop-id.net) (parts_of c.args.net.now)
    (parts_of c.loop-id.net) (parts_of c.bring_link_home.new.net) i.0 i.1.1.1 c.bring_link_home.ensures.goes_on

pub loop-id-preserved : goal.loop-id-preserved
loop-id-preserved g c =
    let i = c.loop-id.invariant in
    let first = c.args.net.now in
    let net = c.loop-id.net in
    let last = c.bring_link_home.new.net in
    let id = c.loop-id.id in
    let done = c.in_ok-bring_link_home.ensures in
    let stays : (k : ℕ) → k < id → is_crossing (line_at (parts_of last) k).phase ≡ false =
    λ k less. ap (λ (line : LinkState). is_crossing line.phase) (done.others k (λ same. omega (arith, less, same))) ∙ i.1.0 k less in (
      done.same_layout ∙ i.0,
      (
        λ k small.
            ⊎_elim
            (λ (same : k ≡ id). subst (λ (l : ℕ). is_crossing (line_at (parts_of last) l).phase ≡ false) (sym same) done.home)
            (⊎_elim (λ (less : k < id). stays k less) (λ (more : id < k). absurd (omega (arith, small, more))))
            (cases_order k id),
        (
          all_further (parts_of first) (parts_of net) (parts_of last) i.1.1.0 done.inputs_stay,
          taken_further g.W.Runs.meaning (layout_in first) (layout_in net) (parts_of first) (parts_of net) (parts_of last) i.0 i.1.1.1
              done.goes_on,
        ),
      ),
    )
