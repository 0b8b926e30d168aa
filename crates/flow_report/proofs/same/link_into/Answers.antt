use Rattle.std.proofs.Common.{◌≡◌, ◌∙◌, ap, sym, arith, ℕ, Bool}
use Rattle.flow_link.specs.declared.plan.Link.{Link}
use Rattle.flow_link.specs.Plan.{ends_at_port, no_link}
use Rattle.flow_link.specs.Trace.{link_of}
use Rattle.flow_report.specs.Report.{run_in}
use Rattle.flow_report.proofs.LinksFound.{none_found, found_first, found_same, found_alone}
use Rattle.flow_report.proofs.same.link_into.Goals as goal
use Rattle.flow_report.proofs.same.link_into.Goals.{then-is_into+else-is_some, else-is_into}

pub loop-id-init : goal.loop-id-init
loop-id-init c = none_found (λ k. ends_at_port c.args.block c.args.port (link_of (run_in c.args.net.now) k).target)

pub loop-id-preserved : goal.loop-id-preserved
loop-id-preserved c =
    let run = run_in c.args.net.now in
    let test : ℕ → Bool = λ k. ends_at_port c.args.block c.args.port (link_of run k).target in
    let here : c.is_into.result ≡ test c.loop-id.id =
    c.is_into.ensures ∙ ap (λ (link : Link). ends_at_port c.args.block c.args.port link.target) (c.link_at.ensures no_link) in
    elim c.if-is_into.branch [
      | then-is_into+else-is_some w ↦ rw w.found-is (found_first test c.loop-id.found c.loop-id.id c.loop-id.invariant (sym w.is_some.ensures ∙ w.if-is_some.false) (sym here ∙ w.if-is_into.true))
      | else-is_into w ↦ rw w.found-is (found_same test c.loop-id.found c.loop-id.id c.loop-id.invariant (sym here ∙ w.if-is_into.false))
    ]

pub returns : goal.returns
returns c =
    found_alone (run_in c.args.net.now) c.args.block c.args.port c.loop-id.id c.loop-id.found
    (omega (arith, c.loop-id.auto.id-end, c.loop-id-test.false, c.link_count-id-end.ensures.count)) c.loop-id.invariant
